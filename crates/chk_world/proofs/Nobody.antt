-- A file that is nobody's is never there.
use Rattle.std.proofs.Common.{◌≡◌, ℕ, Bool, true, false, not, List, [], ◌∷◌, Option, Some, None, option_map, bytes_eq, refl, ap, sym, ◌∙◌, if◌then◌else◌, true≢false}
use Rattle.std.proofs.lemmas.Bool.{and_parts}
use Rattle.chk_site.specs.declared.acts.Who.{Who}
use Rattle.chk_site.specs.declared.acts.ActAnswer.{ActAnswer}
use Rattle.chk_site.specs.Files.{File, Files, changed, moved, made}
use Rattle.chk_site.specs.Acts.{Deed, Starts, ReadsLog, AsksNewest, GrowsLog, Creates, Appends, Syncs, Renames, Removes, Cuts, AsksSize, Reads, Lists, AsksClock, Pauses, Sends, Gets, Takes, TakesMore, Answers, Says, deed, change_of, is_done, tail_of}
use Rattle.chk_site.specs.Effect.{with_tail}
use Rattle.chk_site.specs.History.{History, files_after}
use Rattle.chk_world.specs.Names.{read, owns}
use Rattle.chk_world.specs.Rules.{Framed, Legal, is_fixed}
use Rattle.chk_world.proofs.Ends.{bytes_same}
use Rattle.chk_world.proofs.Outcomes.{CameTo, whole, nothing, junk, Leaves, went_on, was_stopped, leaves}

-- none stays none
map_none : (g : File → File) (b : Bool) (o : Option File) → o ≡ None → (if b then option_map g o else o) ≡ None
map_none g true o e = rw e refl
map_none g false o e = e

dropped_none : (b : Bool) (o : Option File) → o ≡ None → (if b then None else o) ≡ None
dropped_none true o e = refl
dropped_none false o e = e

only_else : (b : Bool) (o p : Option File) → b ≡ false → p ≡ None → (if b then o else p) ≡ None
only_else true o p e none = absurd (true≢false e)
only_else false o p e none = none

tail_map : (tail : Option (List ℕ)) (o : Option File) → o ≡ None → option_map (with_tail tail) o ≡ None
tail_map tail o e = rw e refl

module _ (w : List ℕ) (nobody : (who : Who) → owns who (read w) ≡ false) where
  -- a name of some process's is another
  another : (who : Who) (n : List ℕ) → owns who (read n) ≡ true → bytes_eq w n ≡ false
  another who n mine = go (bytes_eq w n) refl
    where
      go : (b : Bool) → bytes_eq w n ≡ b → b ≡ false
      go true e = absurd (true≢false (sym mine ∙ (ap (λ v. owns who (read v)) (sym (bytes_same w n e)) ∙ nobody who)))
      go false e = refl

  moved_none : (who : Who) (before : Files) (old new : List ℕ) (o : Option File) → owns who (read new) ≡ true → before w ≡ None
      → moved o old new before w ≡ None
  moved_none who before old new None mine none = none
  moved_none who before old new (Some f) mine none =
      only_else (bytes_eq w new) (Some f) (if bytes_eq w old then None else before w) (another who new mine)
      (dropped_none (bytes_eq w old) (before w) none)

  -- a call that took place
  whole_none : (who : Who) (before : Files) (call : Deed) → Framed who before call → before w ≡ None → changed (change_of call) before w ≡ None
  whole_none who before (Creates n) framed none =
      only_else (bytes_eq w n) (made (before w)) (before w) (another who n (and_parts (owns who (read n)) (not (is_fixed (read n))) framed).0) none
  whole_none who before (Appends n piece) framed none = map_none _ (bytes_eq w n) (before w) none
  whole_none who before (Syncs n) framed none = map_none _ (bytes_eq w n) (before w) none
  whole_none who before (Renames old new) framed none =
      moved_none who before old new (before old) (and_parts (owns who (read old)) (owns who (read new)) framed.0).1 none
  whole_none who before (Removes n) framed none = dropped_none (bytes_eq w n) (before w) none
  whole_none who before (Cuts n k) framed none = map_none _ (bytes_eq w n) (before w) none
  whole_none who before (GrowsLog path piece) framed none = none
  whole_none who before Starts framed none = none
  whole_none who before (ReadsLog path part at max) framed none = none
  whole_none who before (AsksNewest path) framed none = none
  whole_none who before (AsksSize n) framed none = none
  whole_none who before (Reads n at max) framed none = none
  whole_none who before (Lists n) framed none = none
  whole_none who before AsksClock framed none = none
  whole_none who before (Pauses n) framed none = none
  whole_none who before (Sends m address bytes) framed none = none
  whole_none who before (Gets m) framed none = none
  whole_none who before (Takes door wait) framed none = none
  whole_none who before (TakesMore t) framed none = none
  whole_none who before (Answers t bytes) framed none = none
  whole_none who before (Says bytes) framed none = none

  -- whatever it came to
  came_none : (who : Who) (call : Deed) (d : Bool) (before after : Files) → CameTo call d before after → Framed who before call → before w ≡ None
      → after w ≡ None
  came_none who call d before after (whole e) framed none = e w ∙ whole_none who before call framed none
  came_none who call d before after (nothing not_done e) framed none = e w ∙ none
  came_none who call d before after (junk n piece bytes is not_done e) framed none = e w ∙ map_none _ (bytes_eq w n) (before w) none

  left_none : (who : Who) (call : Deed) (answer : ActAnswer) (before after : Files) → Leaves call answer before after → Framed who before call
      → before w ≡ None → after w ≡ None
  left_none who call answer before after (went_on running came) framed none =
      came_none who call (is_done answer) before after came framed none
  left_none who call answer before after (was_stopped left is middle came tails) framed none =
      (tails w).0 ∙ tail_map (tail_of left w) (middle w) (came_none who call false before middle came framed none)

  pub never_there : (stamped : List (List ℕ)) (history : History) → Legal stamped history → files_after history w ≡ None
  never_there stamped [] legal = refl
  never_there stamped (step ∷ history) legal =
      let e = legal.1.honest.modelled.effect in
      left_none step.act.who (deed step.act) step.act.answer (files_after history) step.files
      (leaves (deed step.act) step.act.answer (files_after history) step.files e.did e.may e.files_left)
      legal.1.own_files (never_there stamped history legal.0)
