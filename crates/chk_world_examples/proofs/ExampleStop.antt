-- Another ending is legal, in which a stop leaves a false tail; and some wrong steps.
use Rattle.chk_site.specs.declared.acts.Call.TheVariants.{Start, Create, Append, Sync, Rename, Remove, Send, Take, Cut}
use Rattle.chk_world_examples.specs.Texts.{chunk, stem, c1, born, born_tmp, sink, a1, request, entry, mark, done_sink, sevens}
use Rattle.chk_world_examples.specs.Moments.{g19, g29, p20, p21, p22, p23, p24, p25, p26, p27, p28, p29, p30, p31}
use Rattle.chk_world_examples.proofs.Went.{went}
use Rattle.std.proofs.Common.{◌≡◌, inl, inr, ℕ, Bool, true, false, List, [], ◌∷◌, Option, Some, None, refl, arith, ◌≤◌, if◌then◌else◌, bytes_eq, sym, subst, codes}
use Rattle.std.proofs.lemmas.Slice.Eq.{bytes_eq-Decides}
use Rattle.chk_bytes.specs.Numbers.{be64}
use Rattle.chk_site.specs.Files.{File, Nothing}
use Rattle.chk_site.specs.Effect.{TailFits}
use Rattle.chk_site.specs.History.{files_after}
use Rattle.chk_chunk.specs.Keys.{no_cluster, key_1}
use Rattle.chk_world.specs.Names.{DoneFile}
use Rattle.chk_world.specs.Collectors.{begun}
use Rattle.chk_world.specs.Agents.{MaySendChunk}
use Rattle.chk_world.specs.Jobs.{OnlyArchivedSinksRemoved}
use Rattle.chk_world.specs.Rules.{Legal}
use Rattle.chk_world_examples.proofs.ExampleMessages.{is_post, posted, in_one, in_none, two_not_zero}
use Rattle.chk_world_examples.proofs.ExampleMoves.{glegal19}
use Rattle.chk_world_examples.proofs.Unfolded.{texts}

-- the removal of a done sink of which nothing is archived
pub removed_too_early : OnlyArchivedSinksRemoved g29 (DoneFile stem) → ⊥
unfolding texts
removed_too_early r = elim (r chunk (0, omega arith, refl)) [ inl h ↦ (let k : 6 ≤ 0 = h in omega arith) | inr a ↦ in_none a.1 (a.0, a.2, a.3) ]

pub fits_tail : (b : Bool) (f : Option File) → (b ≡ true → TailFits 0 (Some sevens) f) → TailFits 0 (if b then Some sevens else None) f
fits_tail true f h = h refl
fits_tail false f h = tt

pub may_send_again : MaySendChunk a1 g19 chunk
unfolding texts
may_send_again = record { source = refl; known = refl; is_true = record { start = refl; data_is = refl }; cut = refl }

pub plegal20 : Legal [] p20
unfolding texts
plegal20 = went a1 Send (codes "self" ∷ request ∷ []) 2 0 [] 2 0 g19 glegal19 tt
    (((λ e. two_not_zero e), refl), refl) refl refl tt tt tt
    (inl (record {
      chunks = chunk ∷ [];
      is_post = is_post;
      each = λ c o. subst (MaySendChunk a1 g19) (in_one chunk c o) may_send_again;
      cluster = no_cluster;
      here = λ c o. subst (λ c. c.key.cluster ≡ no_cluster) (in_one chunk c o) refl;
      before = (tt, (inl (chunk ∷ [], is_post, λ c o. subst (λ c. c.key.cluster ≡ no_cluster) (in_one chunk c o) refl), (tt, (tt, (tt, (tt, (tt, tt)))))));
    }))

pub plegal21 : Legal [] p21
unfolding texts
plegal21 = went c1 Take (codes "self" ∷ []) 0 0 (request ∷ []) 2 2 p20 plegal20 tt
    ((refl, (λ e. two_not_zero e), refl, ([], refl)), (refl, request, refl, refl)) refl refl tt tt
    tt tt

pub plegal22 : Legal [] p22
unfolding texts
plegal22 = went c1 Append (sink ∷ entry ∷ []) 0 0 [] 0 0 p21 plegal21 (omega arith) refl refl refl
    refl tt tt (
      refl,
      (
        chunk,
        key_1 chunk.key,
        record {
          message = begun 2 request;
          taken = (0, omega arith, refl);
          chunks = chunk ∷ [];
          open_yet = refl;
          post = posted;
          one = (0, omega arith, refl);
        },
        inl (refl, refl),
        refl,
      ),
    )

pub fits_sink : (name : List ℕ) → bytes_eq name sink ≡ true → TailFits 0 (Some sevens) (files_after p22 name)
unfolding texts
fits_sink name e = subst (λ n. TailFits 0 (Some sevens) (files_after p22 n)) (sym ((bytes_eq-Decides name sink).0 e)) (omega arith)

pub plegal23 : Legal [] p23
unfolding texts
plegal23 = (
  plegal22,
  record {
    honest = record {
      modelled = record { effect = record { did = Nothing; may = refl; files_left = λ n. (refl, fits_tail (bytes_eq n sink) (files_after p22 n) (fits_sink n)); logs_left = λ p. refl }; small = tt };
      agrees = tt;
    };
    named = refl;
    starts = refl;
    own_files = tt;
    logs = tt;
    requests = tt;
    rule = tt;
  },
)

pub plegal24 : Legal [] p24
unfolding texts
plegal24 = went c1 Start ([]) 0 0 [] 0 0 p23 plegal23 tt tt refl tt tt tt tt tt

pub plegal25 : Legal [] p25
unfolding texts
plegal25 = went c1 Create (born_tmp ∷ []) 0 0 [] 0 0 p24 plegal24 tt refl refl refl refl tt tt tt

pub plegal26 : Legal [] p26
unfolding texts
plegal26 = went c1 Append (born_tmp ∷ be64 2 ∷ []) 0 0 [] 0 0 p25 plegal25 (omega arith) refl refl
    refl refl tt tt tt

pub plegal27 : Legal [] p27
unfolding texts
plegal27 = went c1 Sync (born_tmp ∷ []) 0 0 [] 0 0 p26 plegal26 tt refl refl refl refl tt tt tt

pub plegal28 : Legal [] p28
unfolding texts
plegal28 = went c1 Rename (born_tmp ∷ born ∷ []) 0 0 [] 0 0 p27 plegal27 tt refl refl refl
    (refl, (refl, refl)) tt tt (refl, refl, ((refl, refl, omega arith), refl))

pub plegal29 : Legal [] p29
unfolding texts
plegal29 = went c1 Cut (sink ∷ []) 144 0 [] 0 0 p28 plegal28 tt (omega arith) refl refl refl tt tt
    refl

pub plegal30 : Legal [] p30
unfolding texts
plegal30 = went c1 Rename (sink ∷ done_sink ∷ []) 0 0 [] 0 0 p29 plegal29 tt refl refl refl
    (refl, refl) tt tt (refl, (refl, refl))

pub plegal31 : Legal [] p31
unfolding texts
plegal31 = went c1 Remove (mark ∷ []) 0 0 [] 0 0 p30 plegal30 tt refl refl refl refl tt tt tt
