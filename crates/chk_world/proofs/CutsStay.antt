-- Where a reader of a stream may stop it still may when the log has grown, and it lies in the whole log.
use Rattle.std.proofs.Common.{◌≡◌, inl, inr, ℕ, ◌+◌, ◌-◌, ◌≤◌, Bool, true, false, ◌||◌, List, [], ◌∷◌, ◌++◌, length, Option, Some, ap, sym, subst, ◌∙◌, if◌then◌else◌, refl, arith, nat_le, length-append}
use Rattle.std.specs.Prelude.{IsTrue, ◌==◌, ◌&&◌}
use Rattle.std.proofs.lemmas.Bool.{and_parts, and_from, cases_lt, leb-true, le-leb}
use Rattle.std.proofs.lemmas.List.{length-take, map-append}
use Rattle.chk_bytes.specs.Words.{joined}
use Rattle.chk_control.specs.Classes.{is_plain, breaks_lines}
use Rattle.chk_site.specs.Files.{Files}
use Rattle.chk_site.specs.Logs.{Generation, Log, log_dropped, log_turned, is_line_cut, is_cut_place, last_cut}
use Rattle.chk_site.specs.CutLaws.{IsLastCut}
use Rattle.chk_site.specs.History.{Step, History, files_after, logs_after}
use Rattle.chk_site.proofs.CutPlaces.{cut_stays, last_is, either_stays}
use Rattle.chk_chunk.specs.Keys.{Stream}
use Rattle.chk_world.specs.Names.{is_source}
use Rattle.chk_world.specs.Checkpoints.{line_of}
use Rattle.chk_world.specs.Streams.{Founding, founding, founded_by, or_else, start_at, start_of, chosen, Parts, parts_since, parts_of, bytes_of, log_of, is_stream_cut, whole_log, whole_end}
use Rattle.chk_world.specs.Rules.{Legal, IsRotatable}
use Rattle.chk_world.proofs.LogsGrow.{LogTurn, as_it_was, grew, was_turned, was_dropped, rotated_since, chosen_more, chosen_marked, turn_of, class_turns, is_founded}

-- ---- cut places of a list of generations

-- how many bytes back the last one of the line lies behind this byte
abbrev run_behind : ℕ → ℕ → ℕ
run_behind b run = if b == 10 then 0 else if run == 131071 then 0 else run + 1

-- a cut place lies within its generation

line_within : (closed : Bool) (run : ℕ) (bytes : List ℕ) (at : ℕ) → is_line_cut closed run bytes at ≡ true → at ≤ length bytes
line_within closed run [] at h = let none = (and_parts (at == 0) (run == 0 || closed) h).0 in grind (arith, none)
line_within closed run (b ∷ bytes) at h =
    go (at == 0) refl h (line_within closed (run_behind b run) bytes (at - 1))
  where
    go : (z : Bool) → (at == 0) ≡ z
        → (if z then run == 0 else is_line_cut closed (run_behind b run) bytes (at - 1)) ≡ true
        → (is_line_cut closed (run_behind b run) bytes (at - 1) ≡ true → at - 1 ≤ length bytes)
        → at ≤ length (b ∷ bytes)
    go true e h rest = grind (arith, e)
    go false e h rest = omega (arith, rest h)

-- a cut place of generations lies within their bytes
cut_within : (lines : Bool) (gs : List (List ℕ)) (base : List ℕ) (at : ℕ) → is_cut_place lines gs base at ≡ true
    → at ≤ length (joined gs ++ base)
cut_within true [] base at h = line_within false 0 base at h
cut_within false [] base at h = leb-true at (length base) h
cut_within lines (g ∷ gs) base at h = go (nat_le at (length g)) refl h (cut_within lines gs base (at - length g))
  where
    size : length ((g ++ joined gs) ++ base) ≡ length g + length (joined gs) + length base
    size = omega (arith, length-append (g ++ joined gs) base, length-append g (joined gs))

    go : (b : Bool) → nat_le at (length g) ≡ b
        → (if b then (if lines then is_line_cut true 0 g at else true) else is_cut_place lines gs base (at - length g)) ≡ true
        → (is_cut_place lines gs base (at - length g) ≡ true → at - length g ≤ length (joined gs ++ base))
        → at ≤ length ((g ++ joined gs) ++ base)
    go true e h rest = omega (arith, size, leb-true at (length g) e)
    go false e h rest = omega (arith, size, rest h, length-append (joined gs) base)

-- a cut place of the base file is one when it has been rotated
closed_cut : (run : ℕ) (bytes : List ℕ) (at : ℕ) → is_line_cut false run bytes at ≡ true → is_line_cut true run bytes at ≡ true
closed_cut run [] at h = and_from (at == 0) (run == 0 || true) (and_parts (at == 0) (run == 0 || false) h).0 (any (run == 0))
  where
    any : (b : Bool) → (b || true) ≡ true
    any true = refl
    any false = refl
closed_cut run (b ∷ bytes) at h =
    either_stays (at == 0) _ _ _ (closed_cut (run_behind b run) bytes (at - 1)) h

-- the base file becomes a generation
turned_cut : (lines : Bool) (gs : List (List ℕ)) (base : List ℕ) (at : ℕ) → is_cut_place lines gs base at ≡ true
    → is_cut_place lines (gs ++ base ∷ []) [] at ≡ true
turned_cut true [] base at h = rw (le-leb at (length base) (line_within false 0 base at h)) (closed_cut 0 base at h)
turned_cut false [] base at h = rw h refl
turned_cut lines (g ∷ gs) base at h = either_stays (nat_le at (length g)) _ _ _ (turned_cut lines gs base (at - length g)) h

-- ---- cut places of a stream's log

abbrev CutAt : Bool → Bool → Founding → ℕ → Log → Type 0
CutAt lines plain f at log = is_cut_place lines (bytes_of (rotated_since plain f log)) log.base at ≡ true

cut_turn : (files : Files) (path : List ℕ) (lines plain : Bool) (f : Founding) (at : ℕ) (old new : Log) → (IsRotatable files path → plain ≡ false)
    → length f.rotated ≤ length old.rotated → LogTurn files path old new → CutAt lines plain f at old → CutAt lines plain f at new
cut_turn files path lines plain f at old new may le (as_it_was e) h = subst (CutAt lines plain f at) (sym e) h
cut_turn files path lines plain f at old new may le (grew bytes e) h =
    subst (CutAt lines plain f at) (sym e) (cut_stays lines (bytes_of (rotated_since plain f old)) old.base bytes at h)
cut_turn files path lines plain f at old new may le (was_dropped suffix e r) h =
    subst (CutAt lines plain f at) (sym e) (subst (λ gs. is_cut_place lines gs old.base at ≡ true) (sym (same plain)) h)
  where
    same : (b : Bool) → bytes_of (rotated_since b f (log_dropped suffix old)) ≡ bytes_of (rotated_since b f old)
    same true = refl
    same false = chosen_marked f.line.after f.rotated suffix old.rotated
cut_turn files path lines plain f at old new may le (was_turned suffix e r) h =
    subst (CutAt lines plain f at) (sym e)
    (subst (λ b. CutAt lines b f at (log_turned suffix old)) (sym (may r.rotatable))
    (subst (λ gs. is_cut_place lines gs [] at ≡ true) (sym bytes)
    (turned_cut lines (bytes_of (chosen f.line.after f.rotated old.rotated)) old.base at (subst (λ b. CutAt lines b f at old) (may r.rotatable) h))))
  where
    g : Generation
    g = record { suffix = suffix; bytes = old.base; deleted = false }

    bytes : bytes_of (chosen f.line.after f.rotated (old.rotated ++ g ∷ [])) ≡ bytes_of (chosen f.line.after f.rotated old.rotated) ++ old.base ∷ []
    bytes =
        ap bytes_of (chosen_more f.line.after f.rotated old.rotated g le)
        ∙ map-append (λ (k : Generation). k.bytes) (chosen f.line.after f.rotated old.rotated) (g ∷ [])

-- an offset of a stream that has begun at which a reader may stop
pub record IsCut (history : History) (s : Stream) (o : ℕ) : Type 0 where
  pub first : Founding
  pub founded : founding history s ≡ Some first
  pub cut : IsTrue (is_stream_cut history s o)

-- whether a reader of the stream may stop at an offset, by the stream's first line
abbrev cut_since : Option Founding → Log → ℕ → Bool
cut_since first log o =
    let p = parts_since first log in
    nat_le (start_at first) o && is_cut_place p.lines (bytes_of p.rotated) p.base (o - start_at first)

pub cut_on : (stamped : List (List ℕ)) (history : History) (step : Step) → Legal stamped (step ∷ history) → (s : Stream) → IsTrue (is_source s.source)
    → (o : ℕ) → IsCut history s o → IsCut (step ∷ history) s o
cut_on stamped history step legal s known o c =
    let f : Founding = c.first in
    let still : founding (step ∷ history) s ≡ Some f =
    ap (λ first. or_else first (founded_by (line_of step.files s) (step.logs s.name))) c.founded in
    let b = is_founded stamped history legal.0 s known f c.founded in
    let before : IsTrue (cut_since (Some f) (logs_after history s.name) o) =
    subst (λ first. IsTrue (cut_since first (logs_after history s.name) o)) c.founded c.cut in
    let parts = and_parts (nat_le f.line.start o) _ before in
    let turned = cut_turn (files_after history) s.name (breaks_lines f.line.class) (is_plain f.line.class) f (o - f.line.start)
    (logs_after history s.name) (step.logs s.name) (class_turns history s f b) b.long (turn_of stamped history step legal.1 s.name) parts.1 in
    record {
      first = f;
      founded = still;
      cut = subst (λ first. IsTrue (cut_since first (step.logs s.name) o)) (sym still) (and_from (nat_le f.line.start o) _ parts.0 turned);
    }

-- ---- the whole log

-- how much of the log is whole
abbrev pub whole_length : History → Stream → ℕ
whole_length history s = let p = parts_of history s in last_cut p.lines (bytes_of p.rotated) p.base (length (log_of history s))

-- the whole log ends at a cut place, and none comes later
pub whole_is : (history : History) (s : Stream)
    → IsLastCut (parts_of history s).lines (bytes_of (parts_of history s).rotated) (parts_of history s).base (length (log_of history s)) (whole_length history s)
whole_is history s =
    last_is (parts_of history s).lines (bytes_of (parts_of history s).rotated) (parts_of history s).base (length (log_of history s))

-- an offset at which a reader may stop isn't past it
pub cut_is_whole : (history : History) (s : Stream) (o : ℕ) → IsTrue (is_stream_cut history s o) → o ≤ whole_end history s
cut_is_whole history s o cut =
    let p : Parts = parts_of history s in
    let n : ℕ = length (log_of history s) in
    let k : ℕ = whole_length history s in
    let start : ℕ = start_of history s in
    let last = whole_is history s in
    let parts = and_parts (nat_le start o) (is_cut_place p.lines (bytes_of p.rotated) p.base (o - start)) cut in
    let on = leb-true start o parts.0 in
    let within : o - start ≤ n = cut_within p.lines (bytes_of p.rotated) p.base (o - start) parts.1 in
    let size : length (whole_log history s) ≡ k = length-take k (log_of history s) ∙ (let w = last.within in omega (arith, w)) in
    elim (cases_lt k (o - start)) [
      | inl past ↦ absurd (last.none_between (o - start) past within parts.1)
      | inr here ↦ omega (arith, on, here, size)
    ]
