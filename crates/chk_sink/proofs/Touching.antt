-- What a call on the files of one left sink leaves of the collector's view and of its other sinks.
use Rattle.std.proofs.Common.{◌≡◌, ℕ, Bool, true, false, ◌&&◌, List, ◌∷◌, Option, Some, None, ap, sym, subst, ◌∙◌, refl, is_some, true≢false}
use Rattle.std.specs.Prelude.{IsTrue, length}
use Rattle.chk_bytes.specs.Stems.{Stem, is_stem, same_stem}
use Rattle.chk_site.specs.declared.acts.ActAnswer.{ActAnswer}
use Rattle.chk_site.specs.Files.{File, Files}
use Rattle.chk_site.specs.Acts.{Deed, Reads, Renames, Removes, Cuts, Appends, change_of, deed, is_done}
use Rattle.chk_site.specs.History.{Step, History, files_after}
use Rattle.chk_site.specs.Honest.{Honest}
use Rattle.chk_world.specs.Names.{Name, SinkFile, MarkFile, DoneFile, read, spell, file, is_known}
use Rattle.chk_world.specs.Committed.{HasFile, number_in}
use Rattle.chk_world.specs.Collectors.{View, Current, view, own_view, still}
use Rattle.chk_world.proofs.NameTests.{same_name, stem_self, stem_same, named, applied, moved_named, bridge}
use Rattle.chk_world.proofs.Outcomes.{CameTo, whole, nothing, junk, leaves}
use Rattle.chk_world.proofs.ToldCalls.{GoesOn, came_on}
use Rattle.chk_world.proofs.CollectorCalls.{own_sight}
use Rattle.chk_sink.specs.States.{State, Writing, process, last_stem}
use Rattle.chk_sink.specs.Held.{IsAsKept, IsOther, Holds}
use Rattle.chk_sink.specs.Settling.{HoldsAt}
use Rattle.chk_sink.proofs.Holding.{HasStem, both_absent}

-- which test finds two stems apart
pub apart_back : (a b : Stem) → same_stem a b ≡ false → same_stem b a ≡ false
apart_back a b e = go (same_stem b a) refl
  where
    go : (v : Bool) → same_stem b a ≡ v → v ≡ false
    go false p = refl
    go true p = absurd (true≢false (sym (stem_self a) ∙ (ap (same_stem a) (sym (stem_same b a p)) ∙ e)))

-- a call on the left sink, its mark, or its done sink
pub data OnLeft (x : Stem) : Deed → Type 0 where
  reads_mark : (w : List ℕ) (at max : ℕ) → OnLeft x (Reads w at max)
  drops_sink : (w : List ℕ) → read w ≡ SinkFile x → OnLeft x (Removes w)
  drops_mark : (w : List ℕ) → read w ≡ MarkFile x → OnLeft x (Removes w)
  cuts_sink : (w : List ℕ) (n : ℕ) → read w ≡ SinkFile x → OnLeft x (Cuts w n)
  closes : (old new : List ℕ) → read old ≡ SinkFile x → read new ≡ DoneFile x → OnLeft x (Renames old new)

-- it leaves the collector's view, but that the left sink can't be its current one any more
pub record Spares (x : Stem) (v w : View) : Type 0 where
  pub born : w.born ≡ v.born
  pub made : w.made ≡ v.made
  pub current : (cur : Current) → same_stem cur.stem x ≡ false → v.current ≡ Some cur → w.current ≡ Some cur

still_apart : (well : Bool) (x : Stem) (cur : Current) → same_stem cur.stem x ≡ false → still well (Some x) (Some cur) ≡ Some cur
still_apart true x cur e = refl
still_apart false x cur e = rw (e) refl

module _ (x : Stem) (before after : Files) (v : View) (answer : ActAnswer) where
  spares : (call : Deed) → OnLeft x call → Spares x v (own_view before after v call answer)
  spares call (reads_mark w at max) = record { born = refl; made = refl; current = λ cur e h. h }
  spares call (drops_sink w reads) = record { born = refl; made = refl; current = λ cur e h. rw reads h }
  spares call (drops_mark w reads) = record { born = refl; made = refl; current = λ cur e h. rw reads h }
  spares call (cuts_sink w n reads) = record { born = refl; made = refl; current = λ cur e h. rw (reads, h) (still_apart false x cur e) }
  spares call (closes old new reads reads_new) = record { born = rw reads_new refl; made = refl; current = λ cur e h. rw reads_new h }

-- a file of another stem
abbrev pub IsBeside : Stem → Name → Type 0
IsBeside x (SinkFile y) = same_stem y x ≡ false
IsBeside x (MarkFile y) = same_stem y x ≡ false
IsBeside x n = ⊥

beside_sink : (x : Stem) (n : Name) → IsBeside x n → same_name n (SinkFile x) ≡ false
beside_sink x (SinkFile y) e = e
beside_sink x (MarkFile y) e = refl
beside_sink x n e = absurd e

beside_mark : (x : Stem) (n : Name) → IsBeside x n → same_name n (MarkFile x) ≡ false
beside_mark x (SinkFile y) e = refl
beside_mark x (MarkFile y) e = e
beside_mark x n e = absurd e

beside_done : (x : Stem) (n : Name) → IsBeside x n → same_name n (DoneFile x) ≡ false
beside_done x (SinkFile y) e = refl
beside_done x (MarkFile y) e = refl
beside_done x n e = absurd e

moved_beside : (files : Name → Option File) (n old new : Name) (t : Option File) → same_name n old ≡ false → same_name n new ≡ false
    → moved_named t old new files n ≡ files n
moved_beside files n old new None p q = refl
moved_beside files n old new (Some f) p q = rw (p, q) refl

module _ (x : Stem) (n : Name) (beside : IsBeside x n) (files : Name → Option File) where
  leaves_beside : (call : Deed) → OnLeft x call → applied (named (change_of call)) files n ≡ files n
  leaves_beside call (reads_mark w at max) = refl
  leaves_beside call (drops_sink w reads) = rw (reads, beside_sink x n beside) refl
  leaves_beside call (drops_mark w reads) = rw (reads, beside_mark x n beside) refl
  leaves_beside call (cuts_sink w k reads) = rw (reads, beside_sink x n beside) refl
  leaves_beside call (closes old new reads reads_new) =
      moved_beside files n (read old) (read new) (files (read old)) (ap (same_name n) reads ∙ beside_sink x n beside)
      (ap (same_name n) reads_new ∙ beside_done x n beside)

no_append : (x : Stem) (call : Deed) → OnLeft x call → (w piece : List ℕ) → call ≡ Appends w piece → ⊥
no_append x call (reads_mark v at max) w piece e = cc
no_append x call (drops_sink v reads) w piece e = cc
no_append x call (drops_mark v reads) w piece e = cc
no_append x call (cuts_sink v n reads) w piece e = cc
no_append x call (closes old new reads reads_new) w piece e = cc

-- the step leaves the files of other stems, whatever it answers but a stop
pub file_beside : (x : Stem) (before : History) (step : Step) (n : Name) → Honest before step → GoesOn step.act.answer
    → OnLeft x (deed step.act) → IsBeside x n → IsTrue (is_known n) → file step.files n ≡ file (files_after before) n
file_beside x before step n honest goes on beside known =
    let e = honest.modelled.effect in
    came
    (came_on (deed step.act) step.act.answer (files_after before) step.files goes
    (leaves (deed step.act) step.act.answer (files_after before) step.files e.did e.may e.files_left))
  where
    came : CameTo (deed step.act) (is_done step.act.answer) (files_after before) step.files → file step.files n ≡ file (files_after before) n
    came (whole e) = e (spell n) ∙ (bridge (change_of (deed step.act)) (files_after before) n known ∙ leaves_beside x n beside (file (files_after before)) (deed step.act) on)
    came (nothing not_yet e) = e (spell n)
    came (junk w piece bytes is not_yet e) = absurd (no_append x (deed step.act) on w piece is)

-- the sink that is written to stays as it is kept
kept_beside : (x y : Stem) (v w : View) (f g : Files) (o : Option Writing) → Spares x v w
    → (is_some o ≡ true → same_stem y x ≡ false) → (is_some o ≡ true → file g (SinkFile y) ≡ file f (SinkFile y))
    → (is_some o ≡ true → file g (MarkFile y) ≡ file f (MarkFile y)) → IsAsKept y v f o → IsAsKept y w g o
kept_beside x y v w f g None spared apart sink mark h = tt
kept_beside x y v w f g (Some o) spared apart sink mark h = record {
  current = spared.current _ (apart refl) h.current;
  size = subst (λ a. HasFile a (λ b. length b.bytes ≡ o.size)) (sym (sink refl)) h.size;
  marked = ap number_in (mark refl) ∙ h.marked;
}

other_apart : (s : State) (x : Stem) → IsOther s x → is_some s.current ≡ true → same_stem (last_stem s) x ≡ false
other_apart s x other some =
    apart_back x (last_stem s) (ap (λ b. b && same_stem x (last_stem s)) (sym some) ∙ other.other)

module _ (s : State) (x : Stem) (good : HasStem s) (other : IsOther s x) (abandoned : s.abandoned ≡ true)
    (before : History) (step : Step) (by : step.act.who ≡ process s) (goes : GoesOn step.act.answer) (honest : Honest before step)
    (on : OnLeft x (deed step.act)) where
  sinks : (y : Stem) → IsTrue (is_stem y) → same_stem y x ≡ false → file step.files (SinkFile y) ≡ file (files_after before) (SinkFile y)
  sinks y known e = file_beside x before step (SinkFile y) honest goes on e known

  marks : (y : Stem) → IsTrue (is_stem y) → same_stem y x ≡ false → file step.files (MarkFile y) ≡ file (files_after before) (MarkFile y)
  marks y known e = file_beside x before step (MarkFile y) honest goes on e known

  spared : Spares x (view (process s) before) (view (process s) (step ∷ before))
  spared =
      subst (Spares x (view (process s) before)) (sym (own_sight (process s) before step by goes))
      (spares x (files_after before) step.files (view (process s) before) step.act.answer (deed step.act) on)

  -- the history still holds the sinks
  pub holds_on : Holds s before → Holds s (step ∷ before)
  holds_on h = record {
    born = spared.born ∙ h.born;
    made = spared.made ∙ h.made;
    writing = kept_beside x (last_stem s) (view (process s) before) (view (process s) (step ∷ before)) (files_after before) step.files s.current spared
        (other_apart s x other) (λ some. sinks (last_stem s) (good some) (other_apart s x other some))
        (λ some. marks (last_stem s) (good some) (other_apart s x other some)) h.writing;
    tidy = λ e. absurd (true≢false (sym abandoned ∙ e));
  }

  -- and another fact of the left sink and its mark
  pub at_on : (may : Stem → Bool) (P Q : Option File → Option File → Type 0) → HoldsAt s may x P before
      → Q (file step.files (SinkFile x)) (file step.files (MarkFile x)) → HoldsAt s may x Q (step ∷ before)
  at_on may P Q h there = record {
    holds = holds_on h.holds;
    others = λ y o m e. both_absent (sinks y o.stem e) (marks y o.stem e) (h.others y o m e);
    there = there;
  }
