-- Who reads on from a line of a checkpoint is shown the stream's log.
use Rattle.std.proofs.Common.{◌≡◌, inl, inr, ℕ, ◌≤◌, Bool, true, false, ◌&&◌, not, List, [], ◌∷◌, ◌++◌, length, Option, Some, None, ap, sym, subst, ◌∙◌, refl, true≢false, bytes_eq, if◌then◌else◌}
use Rattle.std.specs.Prelude.{IsTrue}
use Rattle.std.proofs.lemmas.Bool.{and_parts, and_right}
use Rattle.chk_control.specs.Classes.{is_plain}
use Rattle.chk_site.specs.Files.{Files}
use Rattle.chk_site.specs.Suffixes.{is_after}
use Rattle.chk_site.specs.Logs.{Generation, Shown, Log, marked}
use Rattle.chk_site.specs.History.{Step, History, files_after, logs_after}
use Rattle.chk_chunk.specs.Keys.{Stream}
use Rattle.chk_world.specs.Names.{is_source}
use Rattle.chk_world.specs.Checkpoints.{Line, line_of}
use Rattle.chk_world.specs.Streams.{Founding, founding, founded_by, or_else, chosen, parts_since, parts_of}
use Rattle.chk_world.specs.Agents.{SuffixMoves, has_generation}
use Rattle.chk_world.specs.Rules.{Legal, IsPassed}
use Rattle.chk_world.specs.Standing.{shown_as, past, open_past, ShowsLog}
use Rattle.chk_world.proofs.Ends.{bytes_same}
use Rattle.chk_world.proofs.LogsGrow.{LogTurn, as_it_was, grew, was_turned, was_dropped, chosen_more, turn_of, is_founded}
use Rattle.chk_world.proofs.LinesStand.{text_lt_trans, marked_alike, chosen_alike, past_alike}

-- ---- past a later suffix

abbrev is_shown_past : Option (List ℕ) → Option (List ℕ) → Bool
is_shown_past after None = false
is_shown_past after (Some suffix) = is_after after suffix

abbrev keep : Option (List ℕ) → List Shown → List Shown
keep after [] = []
keep after (k ∷ ks) = if is_shown_past after k.suffix then k ∷ keep after ks else keep after ks

-- what comes after the one comes after the other
abbrev pub Later : Option (List ℕ) → Option (List ℕ) → Type 0
Later a b = (suffix : List ℕ) → is_after b suffix ≡ true → is_after a suffix ≡ true

module _ (a b : Option (List ℕ)) (later : Later a b) where
  past_later : (gs : List Generation) → keep b (past a gs) ≡ past b gs
  past_later [] = refl
  past_later (g ∷ gs) = go (is_after a g.suffix) (is_after b g.suffix) refl refl (past_later gs)
    where
      go : (x y : Bool) → is_after a g.suffix ≡ x → is_after b g.suffix ≡ y
          → keep b (past a gs) ≡ past b gs
          → keep b (if x then shown_as g ∷ past a gs else past a gs) ≡ (if y then shown_as g ∷ past b gs else past b gs)
      go true true e f rest = rw f (ap (λ ks. shown_as g ∷ ks) rest)
      go true false e f rest = rw f rest
      go false true e f rest = absurd (true≢false (sym (later g.suffix f) ∙ e))
      go false false e f rest = rest

  open_later : (gs : List Generation) → keep b (open_past a gs) ≡ open_past b gs
  open_later [] = refl
  open_later (g ∷ gs) = go (not g.deleted) (is_after a g.suffix) (is_after b g.suffix) refl refl (open_later gs)
    where
      go : (d x y : Bool) → is_after a g.suffix ≡ x → is_after b g.suffix ≡ y
          → keep b (open_past a gs) ≡ open_past b gs
          → keep b (if d && x then shown_as g ∷ open_past a gs else open_past a gs) ≡ (if d && y then shown_as g ∷ open_past b gs else open_past b gs)
      go false x y e f rest = rest
      go true true true e f rest = rw f (ap (λ ks. shown_as g ∷ ks) rest)
      go true true false e f rest = rw f rest
      go true false true e f rest = absurd (true≢false (sym (later g.suffix f) ∙ e))
      go true false false e f rest = rest

pub shows_later : (history : History) (s : Stream) (a b : Option (List ℕ)) → Later a b
    → ShowsLog history s a → ShowsLog history s b
shows_later history s a b later h =
    sym (open_later a b later (logs_after history s.name).rotated) ∙ (ap (keep b) h ∙ past_later a b later (parts_of history s).rotated)

pub moves_later : (gs : List Generation) (a b : Option (List ℕ)) → SuffixMoves gs a b → Later a b
moves_later gs a None h suffix is = ap (λ o. is_after o suffix) h
moves_later gs a (Some y) (inl h) suffix is = ap (λ o. is_after o suffix) h ∙ is
moves_later gs None (Some y) (inr h) suffix is = refl
moves_later gs (Some x) (Some y) (inr h) suffix is =
    text_lt_trans x y suffix (and_parts (is_after (Some x) y) (has_generation y gs) h).0 is

-- ---- a step

open_more : (after : Option (List ℕ)) (gs hs : List Generation)
    → open_past after (gs ++ hs) ≡ open_past after gs ++ open_past after hs
open_more after [] hs = refl
open_more after (g ∷ gs) hs = pick (not g.deleted && is_after after g.suffix) (open_more after gs hs)
  where
    pick : (b : Bool) → open_past after (gs ++ hs) ≡ open_past after gs ++ open_past after hs
        → (if b then shown_as g ∷ open_past after (gs ++ hs) else open_past after (gs ++ hs))
        ≡ (if b then shown_as g ∷ open_past after gs else open_past after gs) ++ open_past after hs
    pick true e = ap (λ ks. shown_as g ∷ ks) e
    pick false e = e

past_more : (after : Option (List ℕ)) (gs hs : List Generation)
    → past after (gs ++ hs) ≡ past after gs ++ past after hs
past_more after [] hs = refl
past_more after (g ∷ gs) hs = pick (is_after after g.suffix) (past_more after gs hs)
  where
    pick : (b : Bool) → past after (gs ++ hs) ≡ past after gs ++ past after hs
        → (if b then shown_as g ∷ past after (gs ++ hs) else past after (gs ++ hs))
        ≡ (if b then shown_as g ∷ past after gs else past after gs) ++ past after hs
    pick true e = ap (λ ks. shown_as g ∷ ks) e
    pick false e = e

open_marked : (after : Option (List ℕ)) (suffix : List ℕ) → is_after after suffix ≡ false
    → (gs : List Generation)
    → open_past after (marked suffix gs) ≡ open_past after gs
open_marked after suffix none [] = refl
open_marked after suffix none (g ∷ gs) = go (bytes_eq g.suffix suffix) refl (open_marked after suffix none gs)
  where
    go : (b : Bool) → bytes_eq g.suffix suffix ≡ b
        → open_past after (marked suffix gs) ≡ open_past after gs
        → (if not (if b then true else g.deleted) && is_after after g.suffix then shown_as g ∷ open_past after (marked suffix gs)
        else open_past after (marked suffix gs))
        ≡ (if not g.deleted && is_after after g.suffix then shown_as g ∷ open_past after gs else open_past after gs)
    go true e rest =
        let no : (not g.deleted && is_after after g.suffix) ≡ false =
        and_right (not g.deleted) (is_after after g.suffix) (ap (is_after after) (bytes_same g.suffix suffix e) ∙ none) in
        rw no rest
    go false e rest = ap (λ ks. if not g.deleted && is_after after g.suffix then shown_as g ∷ ks else ks) rest

-- the generations of a stream that doesn't read the base file alone
abbrev Shows : Founding → Option (List ℕ) → Log → Type 0
Shows f after log = open_past after log.rotated ≡ past after (chosen f.line.after f.rotated log.rotated)

shows_turn : (files : Files) (path : List ℕ) (f : Founding) (after : Option (List ℕ))
    (old new : Log)
    → length f.rotated ≤ length old.rotated
    → ((suffix : List ℕ) → IsPassed files path suffix → is_after after suffix ≡ false)
    → LogTurn files path old new
    → Shows f after old → Shows f after new
shows_turn files path f after old new le passed (as_it_was e) h = subst (Shows f after) (sym e) h
shows_turn files path f after old new le passed (grew bytes e) h = subst (Shows f after) (sym e) h
shows_turn files path f after old new le passed (was_dropped suffix e may) h =
    subst (Shows f after) (sym e)
    (open_marked after suffix (passed suffix may) old.rotated
    ∙ (h ∙ sym (past_alike after _ _ (chosen_alike f.line.after f.rotated (marked suffix old.rotated) old.rotated (marked_alike suffix old.rotated)))))
shows_turn files path f after old new le passed (was_turned suffix e may) h =
    let g : Generation = record { suffix = suffix; bytes = old.base; deleted = false } in
    subst (Shows f after) (sym e)
    (open_more after old.rotated (g ∷ [])
    ∙ (ap (λ ks. ks ++ past after (g ∷ [])) h
    ∙ (sym (past_more after (chosen f.line.after f.rotated old.rotated) (g ∷ []))
    ∙ ap (past after) (sym (chosen_more f.line.after f.rotated old.rotated g le)))))

parts_known : (f : Founding) (log : Log) → is_plain f.line.class ≡ false
    → (parts_since (Some f) log).rotated ≡ chosen f.line.after f.rotated log.rotated
parts_known f log e = ap (λ b. if b then [] else chosen f.line.after f.rotated log.rotated) e

-- what a reader past a suffix is shown stays the log, where the suffix isn't below a generation
-- that may be deleted
pub shows_on : (stamped : List (List ℕ)) (history : History) (step : Step)
    → Legal stamped (step ∷ history) → (s : Stream)
    → IsTrue (is_source s.source) → (f : Founding) → founding history s ≡ Some f
    → is_plain f.line.class ≡ false → (after : Option (List ℕ))
    → ((suffix : List ℕ) → IsPassed (files_after history) s.name suffix → is_after after suffix ≡ false)
    → ShowsLog history s after → ShowsLog (step ∷ history) s after
shows_on stamped history step legal s known f founded several after passed h =
    let later = founded_by (line_of step.files s) (step.logs s.name) in
    let b = is_founded stamped history legal.0 s known f founded in
    let before : Shows f after (logs_after history s.name) =
    h ∙ ap (past after) (ap (λ o. (parts_since o (logs_after history s.name)).rotated) founded ∙ parts_known f (logs_after history s.name) several) in
    let now = shows_turn (files_after history) s.name f after (logs_after history s.name) (step.logs s.name) b.long passed
    (turn_of stamped history step legal.1 s.name) before in
    now ∙ ap (past after) (sym (ap (λ o. (parts_since (or_else o later) (step.logs s.name)).rotated) founded ∙ parts_known f (step.logs s.name) several))

-- ---- the first line

open_chosen : (after : Option (List ℕ)) (gs : List Generation)
    → open_past after gs ≡ past after (chosen after gs gs)
open_chosen after [] = refl
open_chosen after (g ∷ gs) = go (not g.deleted) (is_after after g.suffix) refl (open_chosen after gs)
  where
    go : (d a : Bool) → is_after after g.suffix ≡ a
        → open_past after gs ≡ past after (chosen after gs gs)
        → (if d && a then shown_as g ∷ open_past after gs else open_past after gs)
        ≡ past after (if d && a then g ∷ chosen after gs gs else chosen after gs gs)
    go false a e rest = rest
    go true false e rest = rest
    go true true e rest = rw e (ap (λ ks. shown_as g ∷ ks) rest)

pub shows_first : (history : History) (s : Stream) (l : Line)
    → founding history s ≡ Some (record { line = l; rotated = (logs_after history s.name).rotated }) → is_plain l.class ≡ false
    → ShowsLog history s l.after
shows_first history s l founded several =
    let log = logs_after history s.name in
    open_chosen l.after log.rotated
    ∙ ap (past l.after) (sym (ap (λ o. (parts_since o log).rotated) founded ∙ parts_known (record { line = l; rotated = log.rotated }) log several))
