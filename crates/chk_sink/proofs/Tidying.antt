-- A replacement of the mark leaves the collector's other sinks and marks.
use Rattle.std.proofs.Common.{◌≡◌, ℕ, Bool, true, false, ◌&&◌, is_some, List, [], ◌∷◌, ◌++◌, Option, Some, None, Result, ap, sym, subst, ◌∙◌, refl, true≢false, bytes_eq}
use Rattle.std.specs.Prelude.{IsTrue}
use Rattle.std.proofs.lemmas.Bool.{or_from}
use Rattle.chk_bytes.specs.Stems.{Stem, is_stem, same_stem}
use Rattle.chk_site.specs.declared.acts.OutsideFault.{OutsideFault}
use Rattle.chk_site.specs.declared.acts.ActAnswer.{ActAnswer}
use Rattle.chk_site.specs.declared.acts.ActAnswer.TheVariants.{Stopped}
use Rattle.chk_site.specs.Acts.{deed, touches, tail_in, is_stop}
use Rattle.chk_site.specs.History.{Step, History, Every, Others, Modelled, files_after, is_stopped}
use Rattle.chk_site.specs.Site.{Adds, Asked, asked}
use Rattle.chk_site.specs.Runs.{MadeInTurn}
use Rattle.chk_site.proofs.Stays.{unnamed_stays}
use Rattle.chk_replace.specs.Replace.{tmp, replacement}
use Rattle.chk_replace.proofs.CallSteps.{OfOwn, script_each}
use Rattle.chk_world.specs.Works.{deed_of}
use Rattle.chk_site.specs.declared.acts.Who.{Who}
use Rattle.chk_site.specs.declared.acts.Call.TheVariants.{Rename}
use Rattle.chk_world.specs.Names.{Name, SinkFile, MarkFile, Temporary, read, spell, file, is_known}
use Rattle.chk_world.specs.Places.{Foreign}
use Rattle.chk_world.proofs.NameLemmas.{read-spell}
use Rattle.chk_world.proofs.NameTests.{same_name, named_test}
use Rattle.chk_world.proofs.Frames.{files_stay}
use Rattle.chk_world.proofs.Replacing.{next_word}
use Rattle.chk_sink.specs.States.{State, Writing, process, last_stem}
use Rattle.chk_sink.specs.Held.{IsOther, IsTidy}
use Rattle.chk_sink.proofs.Holding.{own_sink, own_mark, both_absent}

-- another stem of the collector's isn't that of the sink that is written to
pub other_stem : (s : State) (o : Writing) → s.current ≡ Some o → (y : Stem) → IsOther s y → same_stem y (last_stem s) ≡ false
other_stem s o some y other = subst (λ (c : Option Writing). (is_some c && same_stem y (last_stem s)) ≡ false) some other.other

-- a stem of the collector's that isn't is another one
pub stem_other : (s : State) (o : Writing) → s.current ≡ Some o → (y : Stem) → y.collector ≡ s.collector → IsTrue (is_stem y)
    → same_stem y (last_stem s) ≡ false → IsOther s y
stem_other s o some y own good e = record {
  own = own;
  stem = good;
  other = subst (λ (c : Option Writing). (is_some c && same_stem y (last_stem s)) ≡ false) (sym some) e;
}

-- the step is no more than a call on the mark of x or on its next content, made while the site wasn't stopped
pub record OnlyMarks (x : Stem) (before : History) (step : Step) : Type 0 where
  pub running : is_stopped before ≡ false
  pub modelled : Modelled before step
  pub spares : (n : Name) → IsTrue (is_known n) → same_name n (MarkFile x) ≡ false → same_name n (Temporary (MarkFile x)) ≡ false
      → touches (deed step.act) (spell n) ≡ false

-- so it is where it is the site's own
abbrev pub MarksOnly : Stem → History → Step → Type 0
MarksOnly x before step = step.own ≡ true → OnlyMarks x before step

module _ (x : Stem) (good : IsTrue (is_stem x)) where
  abbrev mark : List ℕ
  mark = spell (MarkFile x)

  on_next : (n : Name) → IsTrue (is_known n) → same_name n (Temporary (MarkFile x)) ≡ false → bytes_eq (spell n) (tmp mark) ≡ false
  on_next n known e =
      named_test n known (tmp mark)
      ∙ (ap (same_name n) (ap read (next_word mark (MarkFile x) refl) ∙ read-spell (Temporary (MarkFile x)) good) ∙ e)

  on_mark : (n : Name) → IsTrue (is_known n) → same_name n (MarkFile x) ≡ false → bytes_eq (spell n) mark ≡ false
  on_mark n known e = named_test n known mark ∙ (ap (same_name n) (read-spell (MarkFile x) good) ∙ e)

  -- a call on the next content, and the rename of that to the mark
  next_only : (q : Asked) → ((w : List ℕ) → touches (deed_of q) w ≡ bytes_eq w (tmp mark)) → OfOwn (MarksOnly x) q
  next_only q on before answer files logs running honest own =
      record { running = running; modelled = honest.modelled; spares = λ n k e f. on (spell n) ∙ on_next n k f }

  marks_only : (who : Who) → OfOwn (MarksOnly x) (asked who Rename (tmp mark ∷ mark ∷ []) 0 0)
  marks_only who before answer files logs running honest own = record {
    running = running;
    modelled = honest.modelled;
    spares = λ n k e g. or_from (bytes_eq (spell n) mark) (bytes_eq (spell n) (tmp mark)) (on_mark n k e) (on_next n k g);
  }

  -- the calls of a replacement of the mark
  pub replacement_marks : (s : State) (bytes : List ℕ) {result : Result (Unit {0}) OutsideFault} {old new : Option History}
      → MadeInTurn (replacement (process s) mark bytes) result old new → Adds old new (Every (MarksOnly x))
  replacement_marks s bytes script =
      script_each (MarksOnly x) (λ before step theirs own. absurd (true≢false (sym own ∙ theirs.0)))
      (next_only _ (λ w. refl), (next_only _ (λ w. refl), (next_only _ (λ w. refl), (next_only _ (λ w. refl), (marks_only (process s), tt))))) script

no_tail : (answer : ActAnswer) (w : List ℕ) → is_stop answer ≡ false → tail_in answer w ≡ None
no_tail (Stopped left) w e = absurd (true≢false e)
no_tail answer w e = refl

-- where the site wasn't stopped, the others are tidy
abbrev pub TidyRunning : State → History → Type 0
TidyRunning s history = is_stopped history ≡ false → IsTidy s (files_after history)

module _ (stamped : List (List ℕ)) (s : State) (x : Stem) (not_other : (y : Stem) → IsOther s y → same_stem y x ≡ false) where
  -- an own step on the mark alone
  own_tidy : (history : History) (step : Step) → OnlyMarks x history step → is_stop step.act.answer ≡ false → TidyRunning s history
      → IsTidy s step.files
  own_tidy history step only goes tidy y other =
      let same : (n : Name) → IsTrue (is_known n) → same_name n (MarkFile x) ≡ false → same_name n (Temporary (MarkFile x)) ≡ false
      → file step.files n ≡ file (files_after history) n =
      λ n k e f. unnamed_stays history step (spell n) only.modelled (only.spares n k e f) (no_tail step.act.answer (spell n) goes) in
      both_absent (same (SinkFile y) other.stem refl refl) (same (MarkFile y) other.stem (not_other y other) refl) (tidy only.running y other)

  pub foreign_tidy : (history : History) (step : Step) → Foreign stamped (process s) history step → IsTidy s (files_after history)
      → IsTidy s step.files
  foreign_tidy history step f tidy y other =
      both_absent (files_stay stamped (process s) history step (SinkFile y) f (own_sink s y other.own other.stem))
      (files_stay stamped (process s) history step (MarkFile y) f (own_mark s y other.own other.stem)) (tidy y other)

  one_tidy : (history : History) (step : Step) → MarksOnly x history step → (step.own ≡ false → Foreign stamped (process s) history step)
      → TidyRunning s history → (b : Bool) → step.own ≡ b → TidyRunning s (step ∷ history)
  one_tidy history step mine theirs tidy true e running = own_tidy history step (mine e) (rw e at running) tidy
  one_tidy history step mine theirs tidy false e running = foreign_tidy history step (theirs e) (tidy (rw e at running))

  -- such steps and those of others leave them tidy
  pub stays_tidy : (added history : History) → Every (MarksOnly x) added history → Others (Foreign stamped (process s)) added history
      → TidyRunning s history → TidyRunning s (added ++ history)
  stays_tidy [] history marks others tidy = tidy
  stays_tidy (step ∷ added) history marks others tidy =
      one_tidy (added ++ history) step marks.1 others.1 (stays_tidy added history marks.0 others.0 tidy) step.own refl
