-- The lines of a checkpoint after its publication: those that moved on stay true, and those that begin are true.
use Rattle.std.proofs.Common.{◌≡◌, ◌⊎◌, ℕ, zero, suc, ◌+◌, ◌-◌, ◌≤◌, ◌<◌, Bool, true, false, ◌&&◌, ◌||◌, not, List, [], ◌∷◌, length, Option, Some, None, inl, inr, ap, sym, subst, ◌∙◌, cond, refl, true≢false, arith, bytes_eq, if◌then◌else◌, nat_le}
use Rattle.std.specs.Prelude.{IsTrue, Contains, slice_index_or, find}
use Rattle.std.specs.List.{list_any}
use Rattle.std.proofs.lemmas.Bool.{and_parts, and_from, not-true}
use Rattle.std.proofs.lemmas.Option.{none-some}
use Rattle.chk_control.specs.Classes.{is_plain}
use Rattle.chk_site.specs.declared.acts.Who.{Who}
use Rattle.chk_site.specs.declared.acts.CallFault.TheVariants.{Failed, Missing, Exists, Short, NoMemory}
use Rattle.chk_site.specs.declared.acts.ActAnswer.{ActAnswer}
use Rattle.chk_site.specs.declared.acts.ActAnswer.TheVariants.{Done, Refused, Stopped, Rotated, Deleted}
use Rattle.chk_site.specs.Files.{Change, Nothing, Moved}
use Rattle.chk_site.specs.Suffixes.{is_after}
use Rattle.chk_site.specs.Logs.{Generation, Log, Logs, is_cut_place, logs_changed}
use Rattle.chk_site.specs.Acts.{Renames, Did, says_whole}
use Rattle.chk_site.specs.History.{Step, History, files_after, logs_after}
use Rattle.chk_chunk.specs.Keys.{Stream}
use Rattle.chk_world.specs.Names.{is_source}
use Rattle.chk_world.specs.Checkpoints.{Line, is_line_of, line_of, same_log, clash, are_apart}
use Rattle.chk_world.specs.Streams.{Founding, Parts, founded_by, or_else, founding, start_at, start_of, chosen, parts_since, parts_of, bytes_of, passed_by, next_length}
use Rattle.chk_world.specs.Agents.{NewLineBeginsAtNewest, LineIsTrue, stream_of}
use Rattle.chk_world.specs.Rules.{Legal}
use Rattle.chk_world.proofs.Ends.{bytes_same, bytes_self}
use Rattle.chk_world.proofs.LogsGrow.{is_founded}

-- ---- a rename leaves the logs

pub renamed_logs : (old new : List ℕ) (answer : ActAnswer) (did : Change) (logs : Logs) (path : List ℕ) → Did (Renames old new) answer did
    → logs_changed did logs path ≡ logs path
renamed_logs old new answer did logs path h = go answer h
  where
    nothing : did ≡ Nothing → logs_changed did logs path ≡ logs path
    nothing e = ap (λ d. logs_changed d logs path) e

    moved : did ≡ Moved old new → logs_changed did logs path ≡ logs path
    moved e = ap (λ d. logs_changed d logs path) e

    half : (b : Bool) → did ≡ (if b then Moved old new else Nothing) → logs_changed did logs path ≡ logs path
    half true e = moved e
    half false e = nothing e

    go : (answer : ActAnswer) → Did (Renames old new) answer did → logs_changed did logs path ≡ logs path
    go (Done words number of) e = moved e
    go (Refused Failed) (inl e) = nothing e
    go (Refused Failed) (inr e) = moved e
    go (Refused Missing) e = nothing e
    go (Refused Exists) e = nothing e
    go (Refused (Short size)) e = nothing e
    go (Refused NoMemory) e = nothing e
    go (Stopped left) e = half (says_whole left old) e
    go (Rotated suffix) e = nothing e
    go (Deleted suffix) e = nothing e

-- ---- a line is true by its stream's start and parts

record IsTrueBy (start : ℕ) (p : Parts) (l : Line) : Type 0 where
  pub first : l.first ≡ start + passed_by l.after p.rotated
  pub on : l.first ≤ l.offset
  pub within : l.offset ≤ l.first + next_length l.after p.rotated p.base
  pub cut : (l.offset ≡ start) ⊎ IsTrue (nat_le start l.offset && is_cut_place p.lines (bytes_of p.rotated) p.base (l.offset - start))

line_is_true : (history : History) (s : Stream) (l : Line) → IsTrueBy (start_of history s) (parts_of history s) l → LineIsTrue history s l
line_is_true history s l t = record { place = record { first = t.first; on = t.on; within = t.within }; cut = t.cut }

true_by : (history : History) (s : Stream) (l : Line) → LineIsTrue history s l → IsTrueBy (start_of history s) (parts_of history s) l
true_by history s l t = record { first = t.place.first; on = t.place.on; within = t.place.within; cut = t.cut }

-- a stream has begun where its agent has a line for it
pub has_begun : (history : History) (s : Stream) (l : Line) → line_of (files_after history) s ≡ Some l
    → (f : Founding) × (founding history s ≡ Some f)
has_begun [] s l e = absurd (none-some l e)
has_begun (step ∷ history) s l e = go (founding history s) refl
  where
    go : (o : Option Founding) → founding history s ≡ o → (f : Founding) × (founding (step ∷ history) s ≡ Some f)
    go (Some f) first = (f, ap (λ o. or_else o (founded_by (line_of step.files s) (step.logs s.name))) first)
    go None first = (
      record { line = l; rotated = (step.logs s.name).rotated },
      ap (λ o. or_else o (founded_by (line_of step.files s) (step.logs s.name))) first ∙ ap (λ o. founded_by o (step.logs s.name)) e,
    )

-- ---- a step that leaves the log of a stream leaves its true lines

pub stays_true_line : (history : History) (step : Step) (s : Stream) (l was : Line) → step.logs s.name ≡ logs_after history s.name
    → line_of (files_after history) s ≡ Some was → LineIsTrue history s l → LineIsTrue (step ∷ history) s l
stays_true_line history step s l was same there t =
    let later = founded_by (line_of step.files s) (step.logs s.name) in
    let f = has_begun history s was there in
    let start : start_of (step ∷ history) s ≡ start_of history s =
    ap (λ o. start_at (or_else o later)) f.1 ∙ sym (ap start_at f.1) in
    let parts : parts_of (step ∷ history) s ≡ parts_of history s =
    ap (λ o. parts_since (or_else o later) (step.logs s.name)) f.1
    ∙ (ap (parts_since (Some f.0)) same ∙ sym (ap (λ o. parts_since o (logs_after history s.name)) f.1)) in
    line_is_true (step ∷ history) s l
    (subst (λ n. IsTrueBy n (parts_of (step ∷ history) s) l) (sym start)
    (subst (λ p. IsTrueBy (start_of history s) p l) (sym parts) (true_by history s l t)))

-- ---- a line that begins is true

none_passed : (after : Option (List ℕ)) (gs : List Generation) → passed_by after (chosen after gs gs) ≡ 0
none_passed after [] = refl
none_passed after (g ∷ gs) = go (not g.deleted) (is_after after g.suffix) refl (none_passed after gs)
  where
    go : (d a : Bool) → is_after after g.suffix ≡ a → passed_by after (chosen after gs gs) ≡ 0
        → passed_by after (if d && a then g ∷ chosen after gs gs else chosen after gs gs) ≡ 0
    go false a e later = later
    go true false e later = later
    go true true e later = rw e later

none_passed_by : (plain : Bool) (after : Option (List ℕ)) (gs : List Generation)
    → passed_by after (if plain then [] else chosen after gs gs) ≡ 0
none_passed_by true after gs = refl
none_passed_by false after gs = none_passed after gs

begins_true : (l : Line) (log : Log) → l.first ≡ l.start → l.offset ≡ l.start
    → IsTrueBy l.start (parts_since (Some (record { line = l; rotated = log.rotated })) log) l
begins_true l log first offset =
    let p = parts_since (Some (record { line = l; rotated = log.rotated })) log in
    let none : passed_by l.after p.rotated ≡ 0 = none_passed_by (is_plain l.class) l.after log.rotated in
    record { first = omega (arith, first, none); on = omega (arith, first, offset); within = omega (arith, first, offset); cut = inl offset }

pub not_begun : (stamped : List (List ℕ)) (history : History) (s : Stream) → Legal stamped history → IsTrue (is_source s.source)
    → line_of (files_after history) s ≡ None → founding history s ≡ None
not_begun stamped history s legal known none = go (founding history s) refl
  where
    go : (o : Option Founding) → founding history s ≡ o → o ≡ None
    go None e = refl
    go (Some f) e =
        let b = is_founded stamped history legal s known f e in absurd (none-some b.line (sym none ∙ b.there))

pub begins_true_line : (stamped : List (List ℕ)) (who : Who) (history : History) (step : Step) (s : Stream) (l : Line) → Legal stamped history
    → IsTrue (is_source s.source) → line_of (files_after history) s ≡ None → line_of step.files s ≡ Some l
    → NewLineBeginsAtNewest who history s l → LineIsTrue (step ∷ history) s l
begins_true_line stamped who history step s l legal known none there new =
    let log = step.logs s.name in
    let begun : founding (step ∷ history) s ≡ Some (record { line = l; rotated = log.rotated }) =
    ap (λ o. or_else o (founded_by (line_of step.files s) log)) (not_begun stamped history s legal known none)
    ∙ ap (λ o. founded_by o log) there in
    line_is_true (step ∷ history) s l
    (subst (λ o. IsTrueBy (start_at o) (parts_since o log) l) (sym begun) (begins_true l log new.first new.offset))

-- ---- a line is found in its checkpoint

self_log : (l : Line) → same_log l l ≡ true
self_log l = and_from _ _ (bytes_self l.kind) (bytes_self l.path)

-- a line of another log isn't the stream's
other_log : (source : List ℕ) (l y : Line) → same_log y l ≡ false → is_line_of (stream_of source l) y ≡ false
other_log source l y apart = go (is_line_of (stream_of source l) y) refl
  where
    go : (b : Bool) → is_line_of (stream_of source l) y ≡ b → b ≡ false
    go false e = refl
    go true e =
        let p = and_parts (bytes_eq l.kind y.kind) (bytes_eq l.path y.path) e in
        let kind = bytes_same l.kind y.kind p.0 in
        let path = bytes_same l.path y.path p.1 in
        let same : same_log y l ≡ true =
        and_from _ _ (ap (bytes_eq y.kind) kind ∙ bytes_self y.kind) (ap (bytes_eq y.path) path ∙ bytes_self y.path) in
        absurd (true≢false (sym same ∙ apart))

apart_from : (p : Line → Bool) (ys : List Line) (l : Line) (k : ℕ) → k < length ys → slice_index_or ys k l ≡ l → list_any p ys ≡ false → p l ≡ false
apart_from p [] l k below at none = absurd (let z : ⊥ = omega arith in z)
apart_from p (y ∷ ys) l zero below at none = sym (ap p at) ∙ neither (p y) (list_any p ys) none
  where
    neither : (a b : Bool) → (a || b) ≡ false → a ≡ false
    neither false b e = refl
    neither true b e = e
apart_from p (y ∷ ys) l (suc k) below at none = apart_from p ys l k (omega arith) at (nor (p y) (list_any p ys) none)
  where
    nor : (a b : Bool) → (a || b) ≡ false → b ≡ false
    nor false b e = e
    nor true b e = absurd (true≢false e)

pub line_found : (source : List ℕ) (lines : List Line) (l : Line) → are_apart lines ≡ true → Contains lines l
    → find (is_line_of (stream_of source l)) lines ≡ Some l
line_found source lines l apart c = go lines apart c.0 c.1 c.2
  where
    first_of : (a b : Bool) → (a || b) ≡ false → a ≡ false
    first_of false b e = refl
    first_of true b e = e

    go : (ys : List Line) → are_apart ys ≡ true → (k : ℕ) → k < length ys → slice_index_or ys k l ≡ l
        → find (is_line_of (stream_of source l)) ys ≡ Some l
    go [] apart k below at = absurd (let z : ⊥ = omega arith in z)
    go (y ∷ ys) apart zero below at =
        ap (λ b. cond b (Some y) (find (is_line_of (stream_of source l)) ys))
        (subst (λ y. is_line_of (stream_of source l) y ≡ true) (sym at) (self_log l))
        ∙ ap Some at
    go (y ∷ ys) apart (suc k) below at =
        let p = and_parts (not (list_any (clash y) ys)) (are_apart ys) apart in
        let no_clash = apart_from (clash y) ys l k (omega arith) at (not-true (list_any (clash y) ys) p.0) in
        ap (λ b. cond b (Some y) (find (is_line_of (stream_of source l)) ys)) (other_log source l y (first_of (same_log y l) _ no_clash))
        ∙ go ys p.1 k (omega arith) at
