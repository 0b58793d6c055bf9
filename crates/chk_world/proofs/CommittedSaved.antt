-- A chunk whose end the committed length of its sink ever reached is kept or archived from then on.
use Rattle.std.proofs.Common.{◌≡◌, ◌⊎◌, inl, inr, ℕ, ◌≤◌, List, [], ◌∷◌, ◌++◌, length, take, append-nil, Option, Some, None, ap, sym, subst, ◌∙◌, refl, arith}
use Rattle.std.specs.Prelude.{IsTrue, Contains}
use Rattle.std.proofs.lemmas.List.{take-append-le}
use Rattle.std.proofs.lemmas.Option.{none-some}
use Rattle.chk_bytes.specs.Numbers.{spelled}
use Rattle.chk_bytes.specs.Stems.{Stem, is_stem}
use Rattle.chk_site.specs.declared.acts.Who.{Who}
use Rattle.chk_site.specs.Files.{File}
use Rattle.chk_site.specs.Acts.{Renames, deed}
use Rattle.chk_site.specs.History.{Step, History, Ever, files_after}
use Rattle.chk_seqfile.specs.Entries.{IsSequenceFile}
use Rattle.chk_chunk.specs.Keys.{Stream, Chunk, Covers, chunk_limit}
use Rattle.chk_world.specs.Names.{SinkFile, MarkFile, DoneFile, Temporary, read, file}
use Rattle.chk_world.specs.Books.{chunks_within}
use Rattle.chk_world.specs.Committed.{OnFile, HasFile, IsWhole, IsNumber, number_in, committed_of, committed_length, chunks_below}
use Rattle.chk_world.specs.Collectors.{CollectorRule, MayRename, MarkIsSyncedLength, IsCommitted, IsCurrent, view}
use Rattle.chk_world.specs.Rules.{Legal, RoleMay}
use Rattle.chk_world.specs.Laws.{SavedAt, StandsWithin, wrote, written_by, IsDoneSink, IsOpenSink, IsMark}
use Rattle.chk_world.proofs.Outcomes.{leaves}
use Rattle.chk_world.proofs.Kept.{on_file}
use Rattle.chk_world.proofs.Law.{shape}
use Rattle.chk_world.proofs.SmallFiles.{step_good, publication}
use Rattle.chk_world.proofs.Segments.{Avoids, avoids_stays, archives_grow}
use Rattle.chk_world.proofs.KeptChunks.{InFront, more_than, nothing_below, mark_owner, still_in, below_sink, below_done}
use Rattle.chk_world.proofs.KeptLaw.{kept_stays}
use Rattle.chk_world.proofs.Commits.{below}

pub saved_stays : (stamped : List (List ℕ)) (history : History) (step : Step) → Legal stamped (step ∷ history) → (s : Stream) (o : ℕ)
    → SavedAt history s o → SavedAt (step ∷ history) s o
saved_stays stamped history step legal s o (inl kept) = kept_stays stamped history step legal s o kept
saved_stays stamped history step legal s o (inr below) =
    let grows = (archives_grow stamped history step legal s).end in
    inr (omega (arith, below, grows))

-- ---- a mark rises only where its sink is there

abbrev IsThere : Option File → Type 0
IsThere o = (f : File) × (o ≡ Some f)

number_below : (m d : Option File) → OnFile m (λ m. OnFile d (λ f. spelled m.bytes ≡ length f.bytes)) → number_in m ≤ committed_of d m
number_below None None h = omega arith
number_below None (Some d) h = omega arith
number_below (Some m) None h = omega arith
number_below (Some m) (Some d) h = omega (arith, h)

module _ (stamped : List (List ℕ)) (history : History) (step : Step) (legal : Legal stamped (step ∷ history)) (x : Stem) (known : IsTrue (is_stem x)) where
  -- the committed length isn't greater than it was, or the sink is there
  abbrev AfterMark : Option File → Type 0
  AfterMark o = OnFile o IsWhole
      × ((number_in o ≤ number_in (file (files_after history) (MarkFile x))) ⊎ IsThere (file step.files (SinkFile x)))

  there_after : (o : Option File) (t : File) → file (files_after history) (SinkFile x) ≡ o
      → HasFile o (λ g. IsCommitted (spelled t.bytes) g × IsCurrent (view step.act.who history).current x (λ cur. Unit {0}))
      → (OnFile (file (files_after history) (SinkFile x)) IsWhole → file step.files (SinkFile x) ≡ file (files_after history) (SinkFile x))
      → IsThere (file step.files (SinkFile x))
  there_after None t e h stays = absurd h
  there_after (Some g) t e h stays =
      (g, stays (subst (λ o. OnFile o IsWhole) (sym e) (h.0.1 ∙ sym h.0.0)) ∙ e)

  abbrev MarkedAt : Who → File → Type 0
  MarkedAt who f = IsNumber f × (96 ≤ spelled f.bytes)
      × HasFile (file (files_after history) (SinkFile x))
      (λ g. IsCommitted (spelled f.bytes) g × IsCurrent (view who history).current x (λ cur. Unit {0}))

  published : (old new : List ℕ) → deed step.act ≡ Renames old new → read new ≡ MarkFile x → (f : File)
      → file (files_after history) (read old) ≡ Some f → AfterMark (Some f)
  published old new is r f there =
      let p = publication stamped history step old new (MarkFile x) legal.1 is r refl in
      let who = step.act.who in
      let role = mark_owner who.role who.name x p.owned in
      let rule : CollectorRule who history (view who history) (deed step.act) = subst (λ k. RoleMay stamped k history step) role legal.1.rule in
      let may : MayRename (view who history) (files_after history) (read old) (read new) = subst (CollectorRule who history (view who history)) is rule in
      let mark : MarkIsSyncedLength (view who history) (files_after history) x x =
      subst (λ m. MayRename (view who history) (files_after history) m (MarkFile x)) p.from
      (subst (MayRename (view who history) (files_after history) (read old)) r may) in
      let at : file (files_after history) (Temporary (MarkFile x)) ≡ Some f = ap (file (files_after history)) (sym p.from) ∙ there in
      let good : MarkedAt who f = subst (λ o. OnFile o (MarkedAt who)) at mark.1 in
      let e = legal.1.honest.modelled.effect in
      let stays = avoids_stays (SinkFile x) known (files_after history) (deed step.act) step.act.answer step.files
      (leaves (deed step.act) step.act.answer (files_after history) step.files e.did e.may e.files_left)
      (subst (Avoids (SinkFile x)) (sym is) (rw p.from refl, rw r refl)) in (
        subst (λ o. OnFile o IsWhole) at p.whole_is,
        inr (there_after (file (files_after history) (SinkFile x)) f refl good.2 stays),
      )

  mark_rises : AfterMark (file step.files (MarkFile x))
  mark_rises =
      let b = shape stamped history legal.0 x known in
      step_good stamped history step (MarkFile x) refl known AfterMark (λ o g. g.0) (λ may. (tt, inl (omega arith))) legal.1 published
      (on_file (file (files_after history) (MarkFile x)) (λ f (m : IsMark f). m.0.0) b.mark, inl (omega arith))

  -- of a chunk below the committed length after the step
  reached : (s : Stream) (o n : ℕ) (c : Chunk) → n ≤ committed_length step.files x → InFront (wrote x (step ∷ history)) n c → Covers s o c
      → (n ≤ committed_length (files_after history) x → SavedAt (step ∷ history) s o) → SavedAt (step ∷ history) s o
  reached s o n c le front h earlier =
      go (file step.files (SinkFile x)) (file step.files (DoneFile x)) refl refl
    where
      in_all : Contains (chunks_within chunk_limit (take (committed_length step.files x) (wrote x (step ∷ history)))) c
      in_all =
          subst (λ l. Contains (chunks_within chunk_limit (take (committed_length step.files x) l)) c) (append-nil (wrote x (step ∷ history)))
          (still_in (wrote x (step ∷ history)) [] n (committed_length step.files x) c front le)

      go : (t d : Option File) → file step.files (SinkFile x) ≡ t → file step.files (DoneFile x) ≡ d → SavedAt (step ∷ history) s o
      go t (Some f) te de =
          let size : committed_length step.files x ≡ length f.bytes = ap (λ o. committed_of o (file step.files (MarkFile x))) de in
          let done_is = subst (λ o. OnFile o (IsDoneSink (wrote x (step ∷ history)))) de (shape stamped (step ∷ history) legal x known).done in
          inl (
            c,
            h,
            inl (
              x,
              known,
              inr (subst (λ o. Contains (chunks_below (committed_length step.files x) o) c) (sym de)
                  (below_done (wrote x (step ∷ history)) (committed_length step.files x) f c size done_is in_all)),
            ),
          )
      go (Some f) None te de =
          let open_is = subst (λ o. OnFile o (IsOpenSink (wrote x (step ∷ history)) (committed_length step.files x))) te
          (shape stamped (step ∷ history) legal x known).under_writing in
          let some = front.some in
          inl (
            c,
            h,
            inl (
              x,
              known,
              inl (subst (λ o. Contains (chunks_below (committed_length step.files x) o) c) (sym te)
                  (below_sink (wrote x (step ∷ history)) (committed_length step.files x) f c (omega (arith, some, le)) open_is in_all)),
            ),
          )
      go None None te de = pick mark_rises.1
        where
          pick : (number_in (file step.files (MarkFile x)) ≤ number_in (file (files_after history) (MarkFile x))) ⊎ IsThere (file step.files (SinkFile x))
              → SavedAt (step ∷ history) s o
          pick (inr there) = absurd (let e : None ≡ Some there.0 = sym te ∙ there.1 in none-some there.0 e)
          pick (inl less) =
              let now : committed_length step.files x ≡ number_in (file step.files (MarkFile x)) =
              ap (λ o. committed_of o (file step.files (MarkFile x))) de in
              let before = number_below (file (files_after history) (MarkFile x)) (file (files_after history) (DoneFile x)) (shape stamped history legal.0 x known).mark_of_done in
              earlier (omega (arith, le, less, now, before))

-- what was a front of what is written now was one of what was written before, where it is no longer
pub front_before : (written more : List ℕ) (n : ℕ) (c : Chunk) → n ≤ length written → InFront (written ++ more) n c → InFront written n c
front_before written more n c le front =
    let same = take-append-le n written more le in
    record {
      some = front.some;
      within = le;
      form = subst IsSequenceFile same front.form;
      one = subst (λ l. Contains (chunks_within chunk_limit l) c) same front.one;
    }

pub committed_saved : (stamped : List (List ℕ)) (history : History) → Legal stamped history → (x : Stem) → IsTrue (is_stem x)
    → (s : Stream) (o n : ℕ) (c : Chunk) → n ≤ committed_length (files_after history) x → InFront (wrote x history) n c → Covers s o c
    → SavedAt history s o
committed_saved stamped [] legal x known s o n c le front h = absurd (let some = front.some in let z : ⊥ = omega (arith, some, le) in z)
committed_saved stamped (step ∷ history) legal x known s o n c le front h =
    reached stamped history step legal x known s o n c le front h
    (λ less. saved_stays stamped history step legal s o
    (let within = (shape stamped history legal.0 x known).committed in
    committed_saved stamped history legal.0 x known s o n c less
    (front_before (wrote x history) (written_by x (deed step.act) step.act.answer) n c (omega (arith, less, within)) front) h))

pub ever_saved : (stamped : List (List ℕ)) (history : History) → Legal stamped history → (x : Stem) → IsTrue (is_stem x)
    → (s : Stream) (o n : ℕ) (c : Chunk) → Ever (λ front. n ≤ committed_length (files_after front) x) history
    → InFront (wrote x history) n c → Covers s o c → SavedAt history s o
ever_saved stamped [] legal x known s o n c e front h = committed_saved stamped [] legal x known s o n c e front h
ever_saved stamped (step ∷ history) legal x known s o n c (inl e) front h = committed_saved stamped (step ∷ history) legal x known s o n c e front h
ever_saved stamped (step ∷ history) legal x known s o n c (inr e) front h =
    saved_stays stamped history step legal s o (ever_saved stamped history legal.0 x known s o n c e
    (front_before (wrote x history) (written_by x (deed step.act) step.act.answer) n c (below stamped history legal.0 x known n e) front) h)

pub reached_is_saved : (stamped : List (List ℕ)) (history : History) → Legal stamped history → (x : Stem) → IsTrue (is_stem x)
    → (n : ℕ) (c : Chunk) → StandsWithin (wrote x history) n c
    → Ever (λ front. n ≤ committed_length (files_after front) x) history
    → (s : Stream) (o : ℕ) → Covers s o c → SavedAt history s o
reached_is_saved stamped history legal x known n c stands e s o h =
    ever_saved stamped history legal x known s o n c e
    (record {
      some = more_than n (λ z. nothing_below (wrote x history) n c z stands.one);
      within = stands.within;
      form = stands.form;
      one = stands.one;
    }) h
