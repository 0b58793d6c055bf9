-- It is legal: the sink is done, and the job lists the sinks.
use Rattle.chk_site.specs.declared.acts.Call.TheVariants.{Start, Rename, Remove, List as ListNames}
use Rattle.chk_world_examples.specs.Texts.{c1, sink, mark, done_sink, listed_names}
use Rattle.chk_world.specs.Sight.{job}
use Rattle.chk_world_examples.specs.Moments.{g27, g28, g29, g30, l30}
use Rattle.chk_world_examples.proofs.Went.{went}
use Rattle.std.proofs.Common.{◌≡◌, ℕ, zero, suc, ◌<◌, Bool, true, false, ◌||◌, List, [], ◌∷◌, is_some, ap, sym, subst, ◌∙◌, refl, arith, true≢false, bytes_eq}
use Rattle.std.specs.Prelude.{codes, ◌&&◌, ◌==◌, not, IsTrue, IsSome, Contains, slice_index_or}
use Rattle.std.specs.List.{list_any}
use Rattle.chk_bytes.specs.Words.{is_word}
use Rattle.chk_site.specs.Files.{Files}
use Rattle.chk_site.specs.History.{files_after}
use Rattle.chk_site.specs.Honest.{IsListing, in_folder}
use Rattle.chk_world.specs.Rules.{Legal}
use Rattle.chk_world.proofs.Ends.{bytes_same}
use Rattle.chk_world_examples.proofs.ExampleMoves.{glegal27}
use Rattle.chk_world_examples.proofs.Present.{is_among, names_of, NoOthers, no_others}
use Rattle.chk_world_examples.proofs.Unfolded.{texts}

pub glegal28 : Legal [] g28
unfolding texts
glegal28 = went c1 Rename (sink ∷ done_sink ∷ []) 0 0 [] 0 0 g27 glegal27 tt refl refl refl
    (refl, refl) tt tt (refl, (refl, refl))

pub glegal29 : Legal [] g29
unfolding texts
glegal29 = went c1 Remove (mark ∷ []) 0 0 [] 0 0 g28 glegal28 tt refl refl refl refl tt tt tt

pub glegal30 : Legal [] g30
unfolding texts
glegal30 = went job Start ([]) 0 0 [] 0 0 g29 glegal29 tt tt refl tt tt tt tt (refl, tt)

-- what is in a list of two
pub in_two : {X : Type 0} (x y z : X) (P : X → Type 0) → P x → P y → Contains (x ∷ y ∷ []) z → P z
in_two x y z P a b c = go c.0 c.1 c.2
  where
    go : (k : ℕ) → k < 2 → slice_index_or (x ∷ y ∷ []) k z ≡ z → P z
    go zero h e = subst P e a
    go (suc zero) h e = subst P e b
    go (suc (suc k)) h e = absurd (let w : ⊥ = omega arith in w)

-- of the names that can be there then, those in the folder
among_listed : (name : List ℕ) → is_among (names_of g30) (in_folder (codes "sinks") name)
    ≡ (bytes_eq name (codes "c1.1.1.done") || (bytes_eq name (codes "c1.born") || false))
among_listed name = refl

-- where no other file is there, none is missed
none_missed : (files : Files) → NoOthers (names_of g30) files → (name : List ℕ) → IsSome (files (in_folder (codes "sinks") name))
    → Contains listed_names name
none_missed files none name there = go (bytes_eq name (codes "c1.1.1.done")) (bytes_eq name (codes "c1.born")) refl refl
  where
    go : (a b : Bool) → bytes_eq name (codes "c1.1.1.done") ≡ a → bytes_eq name (codes "c1.born") ≡ b → Contains listed_names name
    go true b p q = (0, omega arith, sym (bytes_same name (codes "c1.1.1.done") p))
    go false true p q = (1, omega arith, sym (bytes_same name (codes "c1.born") q))
    go false false p q =
        let other : is_among (names_of g30) (in_folder (codes "sinks") name) ≡ false =
        among_listed name ∙ (ap (λ v. v || (bytes_eq name (codes "c1.born") || false)) p ∙ ap (λ v. v || false) q) in
        absurd (true≢false (sym there ∙ ap is_some (none (in_folder (codes "sinks") name) other)))

-- it shows those of the folder
is_listing : IsListing (files_after g30) (codes "sinks") listed_names
unfolding texts
is_listing = record {
  rises = (refl, tt);
  each = λ name. (
    λ one. in_two (codes "c1.1.1.done") (codes "c1.born") name
        (λ z. IsTrue (is_word z && not (list_any (λ b. b == 47) z)) × IsSome (files_after g30 (in_folder (codes "sinks") z)))
        (refl, refl) (refl, refl) one,
    λ shown. none_missed (files_after g30) (no_others [] g30 glegal30) name shown.1,
  );
}

pub listing_legal : Legal [] l30
unfolding texts
listing_legal = went job ListNames (codes "sinks" ∷ []) 0 0 listed_names 0 0 g30 glegal30 tt
    is_listing refl refl tt tt tt (refl, tt)
