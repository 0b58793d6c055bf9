-- A read at a true place gives the stream's log.
use Rattle.std.proofs.Common.{◌≡◌, ◌⊎◌, inl, inr, ℕ, zero, suc, ◌+◌, ◌-◌, ◌≤◌, ◌<◌, Bool, true, false, ◌&&◌, ◌||◌, not, List, [], ◌∷◌, ◌++◌, length, take, drop, min, append_assoc, append-nil, Option, Some, None, ap, sym, subst, ◌∙◌, refl, arith, true≢false, bytes_eq, if◌then◌else◌, is_some, nat_le}
use Rattle.std.specs.Prelude.{IsTrue, Contains, ◌==◌, nat_lt}
use Rattle.std.specs.List.{list_all}
use Rattle.std.proofs.lemmas.Bool.{and_parts, and_from, or_right, le-leb, lt-leb, leb-true, cases_lt, ne_eqb}
use Rattle.std.proofs.lemmas.Option.{same_Some, none-some}
use Rattle.std.proofs.Math.Seq.{drop-append-add}
use Rattle.std.proofs.lemmas.Bool.Decides.{nat_tests}
use Rattle.std.proofs.lemmas.List.{take-take, take-append-le, drop-append-le, drop-drop, length-take, length-drop}
use Rattle.chk_bytes.specs.Words.{joined, text_lt}
use Rattle.chk_control.specs.Classes.{is_plain, breaks_lines}
use Rattle.chk_site.specs.declared.acts.ActAnswer.TheVariants.{Done}
use Rattle.chk_site.specs.Files.{Files}
use Rattle.chk_site.specs.Suffixes.{is_after}
use Rattle.chk_site.specs.Honest.{AtLogRead}
use Rattle.chk_site.specs.CutLaws.{MayStop}
use Rattle.chk_site.specs.Logs.{Generation, Shown, TheBase, Past, Log, read_from, first_shown, shown_after, ended, is_line_cut, is_cut_place, marked}
use Rattle.chk_site.specs.History.{Step, History, files_after, logs_after}
use Rattle.chk_chunk.specs.Keys.{Stream, Chunk, chunk_end, chunk_begin, is_chunk}
use Rattle.chk_world.specs.Names.{is_source}
use Rattle.chk_world.specs.Checkpoints.{Line, line_of}
use Rattle.chk_world.specs.Streams.{Founding, Parts, founding, founded_by, or_else, start_at, start_of, chosen, parts_since, parts_of, bytes_of, log_of, is_stream_cut, passed_by, next_length}
use Rattle.chk_world.specs.Agents.{has_generation}
use Rattle.chk_world.specs.Rules.{Legal}
use Rattle.chk_world.specs.Standing.{IsSuffixOf, shown_as, past, open_past, ShowsLog, Stands}
use Rattle.chk_world.specs.Reading.{rising, part_for, moved, passed, GivesLog, ReadsOn, ChunkStands}
use Rattle.chk_world.proofs.Ends.{bytes_same, bytes_self}
use Rattle.chk_world.proofs.LogsGrow.{LogTurn, as_it_was, grew, was_turned, was_dropped, turn_of, is_founded, logs_grow}
use Rattle.chk_world.proofs.StaysTrue.{has_room, same_in_longer}
use Rattle.chk_world.proofs.CutsStay.{cut_on}
use Rattle.chk_world.proofs.LinesStand.{text_lt_trans, Alike, marked_alike}
use Rattle.chk_world.proofs.LinesShow.{shows_later}
use Rattle.chk_world.proofs.LinesTrue.{lines_stand}
use Rattle.chk_site.proofs.CutPlaces.{cut_suc}

-- ---- the suffixes rise

pub text_lt_self : (a : List ℕ) → text_lt a a ≡ false
text_lt_self [] = refl
text_lt_self (x ∷ a) = go (text_lt_self a)
  where
    go : text_lt a a ≡ false → (nat_lt x x || (x == x && text_lt a a)) ≡ false
    go rest = grind (arith, rest)

-- all are before it
abbrev Below : List ℕ → List Generation → Type 0
Below suffix gs = list_all (λ g. text_lt g.suffix suffix) gs ≡ true

-- all come after it
abbrev Above : List ℕ → List Generation → Type 0
Above suffix gs = list_all (λ g. text_lt suffix g.suffix) gs ≡ true

above_end : (suffix : List ℕ) (gs : List Generation) (g : Generation) → Above suffix gs
    → text_lt suffix g.suffix ≡ true → Above suffix (gs ++ g ∷ [])
above_end suffix [] g all last = and_from _ _ last refl
above_end suffix (h ∷ gs) g all last =
    let p = and_parts (text_lt suffix h.suffix) (list_all (λ g. text_lt suffix g.suffix) gs) all in
    and_from _ _ p.0 (above_end suffix gs g p.1 last)

rising_end : (gs : List Generation) (g : Generation) → rising gs ≡ true → Below g.suffix gs
    → rising (gs ++ g ∷ []) ≡ true
rising_end [] g up below = refl
rising_end (h ∷ gs) g up below =
    let p = and_parts (list_all (λ k. text_lt h.suffix k.suffix) gs) (rising gs) up in
    let q = and_parts (text_lt h.suffix g.suffix) (list_all (λ k. text_lt k.suffix g.suffix) gs) below in
    and_from _ _ (above_end h.suffix gs g p.0 q.0) (rising_end gs g p.1 q.1)

above_alike : (suffix : List ℕ) (gs hs : List Generation) → Alike gs hs → Above suffix hs
    → Above suffix gs
above_alike suffix [] [] a all = refl
above_alike suffix (g ∷ gs) (h ∷ hs) a all =
    let p = and_parts (text_lt suffix h.suffix) (list_all (λ k. text_lt suffix k.suffix) hs) all in
    and_from _ _ (ap (text_lt suffix) a.0 ∙ p.0) (above_alike suffix gs hs a.2 p.1)
above_alike suffix [] (h ∷ hs) a all = absurd a
above_alike suffix (g ∷ gs) [] a all = absurd a

rising_alike : (gs hs : List Generation) → Alike gs hs → rising hs ≡ true → rising gs ≡ true
rising_alike [] [] a up = refl
rising_alike (g ∷ gs) (h ∷ hs) a up =
    let p = and_parts (list_all (λ k. text_lt h.suffix k.suffix) hs) (rising hs) up in
    and_from _ _ (above_alike g.suffix gs hs a.2 (subst (λ t. Above t hs) (sym a.0) p.0)) (rising_alike gs hs a.2 p.1)
rising_alike [] (h ∷ hs) a up = absurd a
rising_alike (g ∷ gs) [] a up = absurd a

rising_turn : (files : Files) (path : List ℕ) (old new : Log) → LogTurn files path old new
    → rising old.rotated ≡ true → rising new.rotated ≡ true
rising_turn files path old new (as_it_was e) up = subst (λ (l : Log). rising l.rotated ≡ true) (sym e) up
rising_turn files path old new (grew bytes e) up = subst (λ (l : Log). rising l.rotated ≡ true) (sym e) up
rising_turn files path old new (was_turned suffix e may) up =
    subst (λ (l : Log). rising l.rotated ≡ true) (sym e) (rising_end old.rotated _ up may.newest)
rising_turn files path old new (was_dropped suffix e may) up =
    subst (λ (l : Log). rising l.rotated ≡ true) (sym e) (rising_alike (marked suffix old.rotated) old.rotated (marked_alike suffix old.rotated) up)

pub generations_rise : (stamped : List (List ℕ)) (history : History) → Legal stamped history
    → (path : List ℕ)
    → rising (logs_after history path).rotated ≡ true
generations_rise stamped [] legal path = refl
generations_rise stamped (step ∷ history) legal path =
    rising_turn (files_after history) path (logs_after history path) (step.logs path) (turn_of stamped history step legal.1 path)
    (generations_rise stamped history legal.0 path)

above_chosen : (suffix : List ℕ) (after : Option (List ℕ)) (ts gs : List Generation)
    → Above suffix gs → Above suffix (chosen after ts gs)
above_chosen suffix after [] gs all = all
above_chosen suffix after (t ∷ ts) [] all = refl
above_chosen suffix after (t ∷ ts) (g ∷ gs) all =
    let p = and_parts (text_lt suffix g.suffix) (list_all (λ k. text_lt suffix k.suffix) gs) all in
    pick (not t.deleted && is_after after t.suffix) p.0 (above_chosen suffix after ts gs p.1)
  where
    pick : (b : Bool) → text_lt suffix g.suffix ≡ true → Above suffix (chosen after ts gs)
        → Above suffix (if b then g ∷ chosen after ts gs else chosen after ts gs)
    pick true here rest = and_from _ _ here rest
    pick false here rest = rest

rising_chosen : (after : Option (List ℕ)) (ts gs : List Generation) → rising gs ≡ true
    → rising (chosen after ts gs) ≡ true
rising_chosen after [] gs up = up
rising_chosen after (t ∷ ts) [] up = refl
rising_chosen after (t ∷ ts) (g ∷ gs) up =
    let p = and_parts (list_all (λ k. text_lt g.suffix k.suffix) gs) (rising gs) up in
    pick (not t.deleted && is_after after t.suffix) (above_chosen g.suffix after ts gs p.0) (rising_chosen after ts gs p.1)
  where
    pick : (b : Bool) → Above g.suffix (chosen after ts gs) → rising (chosen after ts gs) ≡ true
        → rising (if b then g ∷ chosen after ts gs else chosen after ts gs) ≡ true
    pick true here rest = and_from _ _ here rest
    pick false here rest = rest

parts_rise : (stamped : List (List ℕ)) (history : History) → Legal stamped history
    → (s : Stream) (f : Founding) → founding history s ≡ Some f
    → rising (parts_of history s).rotated ≡ true
parts_rise stamped history legal s f e =
    subst (λ o. rising (parts_since o (logs_after history s.name)).rotated ≡ true) (sym e) (go (is_plain f.line.class))
  where
    go : (b : Bool)
        → rising (if b then [] else chosen f.line.after f.rotated (logs_after history s.name).rotated) ≡ true
    go true = refl
    go false = rising_chosen f.line.after f.rotated (logs_after history s.name).rotated (generations_rise stamped history legal s.name)

-- ---- the generations that are ahead

abbrev pub ahead : Option (List ℕ) → List Generation → List Generation
ahead after [] = []
ahead after (g ∷ gs) = if is_after after g.suffix then g ∷ gs else ahead after gs

-- the first of them, or the base file
abbrev pub head_of : List Generation → List ℕ → Shown
head_of [] base = record { suffix = None; bytes = base }
head_of (g ∷ gs) base = shown_as g

-- what comes after one comes after all before it
after_above : (after : Option (List ℕ)) (suffix more : List ℕ) → is_after after suffix ≡ true
    → text_lt suffix more ≡ true → is_after after more ≡ true
after_above None suffix more here on = refl
after_above (Some a) suffix more here on = text_lt_trans a suffix more here on

none_passed : (after : Option (List ℕ)) (suffix : List ℕ) (gs : List Generation)
    → is_after after suffix ≡ true → Above suffix gs → passed_by after gs ≡ 0
none_passed after suffix [] here all = refl
none_passed after suffix (g ∷ gs) here all =
    let p = and_parts (text_lt suffix g.suffix) (list_all (λ k. text_lt suffix k.suffix) gs) all in
    let here' = after_above after suffix g.suffix here p.0 in
    rw here' (none_passed after suffix gs here p.1)

pub next_is : (after : Option (List ℕ)) (gs : List Generation) (base : List ℕ)
    → next_length after gs base ≡ length (head_of (ahead after gs) base).bytes
next_is after [] base = refl
next_is after (g ∷ gs) base = go (is_after after g.suffix) (next_is after gs base)
  where
    go : (b : Bool) → next_length after gs base ≡ length (head_of (ahead after gs) base).bytes
        → (if b then length g.bytes else next_length after gs base) ≡ length (head_of (if b then g ∷ gs else ahead after gs) base).bytes
    go true rest = refl
    go false rest = rest

past_head : (after : Option (List ℕ)) (gs : List Generation) (base : List ℕ)
    → first_shown (past after gs ++ record { suffix = None; bytes = base } ∷ []) ≡ head_of (ahead after gs) base
past_head after [] base = refl
past_head after (g ∷ gs) base = go (is_after after g.suffix) (past_head after gs base)
  where
    go : (b : Bool) → first_shown (past after gs ++ record { suffix = None; bytes = base } ∷ []) ≡ head_of (ahead after gs) base
        → first_shown ((if b then shown_as g ∷ past after gs else past after gs) ++ record { suffix = None; bytes = base } ∷ [])
        ≡ head_of (if b then g ∷ gs else ahead after gs) base
    go true rest = refl
    go false rest = rest

open_is : (after : Option (List ℕ)) (gs : List Generation) (base : List ℕ)
    → shown_after after gs base ≡ open_past after gs ++ record { suffix = None; bytes = base } ∷ []
open_is after [] base = refl
open_is after (g ∷ gs) base = go (not g.deleted && is_after after g.suffix) (open_is after gs base)
  where
    go : (b : Bool) → shown_after after gs base ≡ open_past after gs ++ record { suffix = None; bytes = base } ∷ []
        → (if b then shown_as g ∷ shown_after after gs base else shown_after after gs base)
        ≡ (if b then shown_as g ∷ open_past after gs else open_past after gs) ++ record { suffix = None; bytes = base } ∷ []
    go true rest = ap (λ ks. shown_as g ∷ ks) rest
    go false rest = rest

-- ---- the log from there on

ahead_log : (after : Option (List ℕ)) (gs : List Generation) (base : List ℕ) → rising gs ≡ true
    → drop (passed_by after gs)
    (joined (bytes_of gs) ++ base) ≡ joined (bytes_of (ahead after gs)) ++ base
ahead_log after [] base up = refl
ahead_log after (g ∷ gs) base up = go (is_after after g.suffix) refl (ahead_log after gs base p.1)
  where
    p : (Above g.suffix gs) × (rising gs ≡ true)
    p = and_parts (list_all (λ k. text_lt g.suffix k.suffix) gs) (rising gs) up

    go : (b : Bool) → is_after after g.suffix ≡ b
        → drop (passed_by after gs)
        (joined (bytes_of gs) ++ base) ≡ joined (bytes_of (ahead after gs)) ++ base
        → drop (if b then passed_by after gs else length g.bytes + passed_by after gs)
        ((g.bytes ++ joined (bytes_of gs)) ++ base)
        ≡ joined (bytes_of (if b then g ∷ gs else ahead after gs)) ++ base
    go true here rest = ap (λ n. drop n ((g.bytes ++ joined (bytes_of gs)) ++ base)) (none_passed after g.suffix gs here p.0)
    go false here rest =
        ap (drop (length g.bytes + passed_by after gs)) (append_assoc g.bytes (joined (bytes_of gs)) base)
        ∙ (drop-append-add g.bytes (joined (bytes_of gs) ++ base) (passed_by after gs) ∙ rest)

head_log : (hs : List Generation) (base : List ℕ)
    → (rest : List ℕ) × (joined (bytes_of hs) ++ base ≡ (head_of hs base).bytes ++ rest)
head_log [] base = ([], sym (append-nil base))
head_log (h ∷ hs) base = (joined (bytes_of hs) ++ base, append_assoc h.bytes (joined (bytes_of hs)) base)

-- ---- cut places from there on

pub line_begin : (closed : Bool) (bytes : List ℕ) → is_line_cut closed 0 bytes 0 ≡ true
line_begin closed [] = refl
line_begin closed (b ∷ bytes) = refl

abbrev pub run_behind : ℕ → ℕ → ℕ
run_behind b run = if b == 10 then 0 else if run == 131071 then 0 else run + 1

pub run_small : (b run : ℕ) → run < 131072 → run_behind b run < 131072
run_small b run small = grind (arith, nat_tests)

line_end : (run : ℕ) (bytes : List ℕ) → run < 131072
    → is_line_cut true run bytes (length bytes) ≡ true
line_end run [] small = or_right (run == 0) true refl
line_end run (b ∷ bytes) small = cut_suc true run b bytes (length bytes) ∙ line_end (run_behind b run) bytes (run_small b run small)

abbrev pub may_stop : Bool → Shown → ℕ → Bool
may_stop lines g k = if lines then is_line_cut (is_some g.suffix) 0 g.bytes k else true

module _ (lines : Bool) (after : Option (List ℕ)) (base : List ℕ) where
  stop_begin : (g : Shown) → may_stop lines g 0 ≡ true
  stop_begin g = go lines
    where
      go : (b : Bool) → (if b then is_line_cut (is_some g.suffix) 0 g.bytes 0 else true) ≡ true
      go true = line_begin (is_some g.suffix) g.bytes
      go false = refl

  base_cut : (k : ℕ) → k ≤ length base → is_cut_place lines [] base k ≡ may_stop lines (record { suffix = None; bytes = base }) k
  base_cut k within = go lines
    where
      go : (b : Bool)
          → (if b then is_line_cut false 0 base k else nat_le k (length base)) ≡ (if b then is_line_cut false 0 base k else true)
      go true = refl
      go false = le-leb k (length base) within

  cut_ahead : (gs : List Generation) (k : ℕ) → rising gs ≡ true
      → k ≤ length (head_of (ahead after gs) base).bytes
      → is_cut_place lines (bytes_of gs) base (passed_by after gs + k) ≡ may_stop lines (head_of (ahead after gs) base) k
  cut_ahead [] k up within =
      let same : 0 + k ≡ k = omega arith in
      ap (is_cut_place lines [] base) same ∙ base_cut k within
  cut_ahead (g ∷ gs) k up within = go (is_after after g.suffix) refl within (cut_ahead gs k p.1)
    where
      p : (Above g.suffix gs) × (rising gs ≡ true)
      p = and_parts (list_all (λ k. text_lt g.suffix k.suffix) gs) (rising gs) up

      here_cut : (at : ℕ) → at ≡ k → k ≤ length g.bytes
          → is_cut_place lines (g.bytes ∷ bytes_of gs) base at ≡ may_stop lines (shown_as g) k
      here_cut at same within = rw (same, le-leb k (length g.bytes) within) refl

      full : (b : Bool) → (if b then is_line_cut true 0 g.bytes (length g.bytes) else true) ≡ true
      full true = line_end 0 g.bytes (omega arith)
      full false = refl

      past_cut : (at rest : ℕ) → at ≡ length g.bytes + rest
          → is_cut_place lines (bytes_of gs) base rest ≡ may_stop lines (head_of (ahead after gs) base) k
          → (rest ≡ 0 → k ≡ 0)
          → is_cut_place lines (g.bytes ∷ bytes_of gs) base at ≡ may_stop lines (head_of (ahead after gs) base) k
      past_cut at rest same later none_both = elim (cases_lt 0 rest) [
        | inl some ↦
            let no : nat_le at (length g.bytes) ≡ false = lt-leb at (length g.bytes) (omega (arith, same, some)) in
            let less : at - length g.bytes ≡ rest = omega (arith, same) in
            rw (no, less) later
        | inr none ↦
            let at_end : at ≡ length g.bytes = omega (arith, same, none) in
            let k_none : k ≡ 0 = none_both (omega (arith, none)) in
            let le : nat_le (length g.bytes) (length g.bytes) ≡ true = le-leb (length g.bytes) (length g.bytes) (omega arith) in
            rw (at_end, le) (full lines) ∙ sym (ap (may_stop lines (head_of (ahead after gs) base)) k_none ∙ stop_begin (head_of (ahead after gs) base))
      ]

      go : (b : Bool) → is_after after g.suffix ≡ b
          → k ≤ length (head_of (if b then g ∷ gs else ahead after gs) base).bytes
          → (k ≤ length (head_of (ahead after gs) base).bytes
          → is_cut_place lines (bytes_of gs) base (passed_by after gs + k) ≡ may_stop lines (head_of (ahead after gs) base) k)
          → is_cut_place lines (g.bytes ∷ bytes_of gs) base ((if b then passed_by after gs else length g.bytes + passed_by after gs) + k)
          ≡ may_stop lines (head_of (if b then g ∷ gs else ahead after gs) base) k
      go true here within rest =
          let none = none_passed after g.suffix gs here p.0 in
          here_cut (passed_by after gs + k) (omega (arith, none)) within
      go false here within rest =
          past_cut (length g.bytes + passed_by after gs + k) (passed_by after gs + k) (omega arith) (rest within) (λ e. omega (arith, e))

-- ---- a generation ahead is one of the path, and behind it comes the next one

has_chosen : (suffix : List ℕ) (after : Option (List ℕ)) (ts gs : List Generation)
    → has_generation suffix (chosen after ts gs) ≡ true
    → has_generation suffix gs ≡ true
has_chosen suffix after [] gs h = h
has_chosen suffix after (t ∷ ts) [] h = h
has_chosen suffix after (t ∷ ts) (g ∷ gs) h = go (not t.deleted && is_after after t.suffix) (bytes_eq g.suffix suffix) h (has_chosen suffix after ts gs)
  where
    later : (e : Bool) → has_generation suffix gs ≡ true → (e || has_generation suffix gs) ≡ true
    later true h = refl
    later false h = h

    go : (b e : Bool)
        → has_generation suffix (if b then g ∷ chosen after ts gs else chosen after ts gs) ≡ true
        → (has_generation suffix (chosen after ts gs) ≡ true → has_generation suffix gs ≡ true)
        → (bytes_eq g.suffix suffix || has_generation suffix gs) ≡ true
    go true e h rest = pick (bytes_eq g.suffix suffix) h rest
      where
        pick : (e : Bool) → (e || has_generation suffix (chosen after ts gs)) ≡ true
            → (has_generation suffix (chosen after ts gs) ≡ true → has_generation suffix gs ≡ true)
            → (e || has_generation suffix gs) ≡ true
        pick true h rest = refl
        pick false h rest = rest h
    go false e h rest = later (bytes_eq g.suffix suffix) (rest h)

-- the place behind the first generation ahead
record Behind (after : Option (List ℕ)) (gs : List Generation)
    (suffix bytes : List ℕ) : Type 0 where
  passed_is : passed_by (Some suffix) gs ≡ passed_by after gs + length bytes
  has : has_generation suffix gs ≡ true

behind_head : (after : Option (List ℕ)) (gs : List Generation) (base suffix : List ℕ)
    → rising gs ≡ true
    → (head_of (ahead after gs) base).suffix ≡ Some suffix
    → Behind after gs suffix (head_of (ahead after gs) base).bytes
behind_head after [] base suffix up e = absurd (none-some suffix e)
behind_head after (g ∷ gs) base suffix up e = go (is_after after g.suffix) refl e (behind_head after gs base suffix p.1)
  where
    p : (Above g.suffix gs) × (rising gs ≡ true)
    p = and_parts (list_all (λ k. text_lt g.suffix k.suffix) gs) (rising gs) up

    later : (e : Bool) → has_generation suffix gs ≡ true → (e || has_generation suffix gs) ≡ true
    later true h = refl
    later false h = h

    above_has : (hs : List Generation) → Above g.suffix hs → has_generation suffix hs ≡ true
        → text_lt g.suffix suffix ≡ true
    above_has [] all h = absurd (true≢false (sym h))
    above_has (k ∷ hs) all h =
        let q = and_parts (text_lt g.suffix k.suffix) (list_all (λ j. text_lt g.suffix j.suffix) hs) all in
        pick (bytes_eq k.suffix suffix) refl h q.0 (above_has hs q.1)
      where
        pick : (b : Bool) → bytes_eq k.suffix suffix ≡ b → (b || has_generation suffix hs) ≡ true
            → text_lt g.suffix k.suffix ≡ true
            → (has_generation suffix hs ≡ true → text_lt g.suffix suffix ≡ true)
            → text_lt g.suffix suffix ≡ true
        pick true same h here rest = subst (λ t. text_lt g.suffix t ≡ true) (bytes_same k.suffix suffix same) here
        pick false same h here rest = rest h

    not_back : (b : Bool) → text_lt suffix g.suffix ≡ b → text_lt g.suffix suffix ≡ true → b ≡ false
    not_back false here on = refl
    not_back true here on = absurd (true≢false (sym (text_lt_trans g.suffix suffix g.suffix on here) ∙ text_lt_self g.suffix))

    go : (b : Bool) → is_after after g.suffix ≡ b
        → (head_of (if b then g ∷ gs else ahead after gs) base).suffix ≡ Some suffix
        → ((head_of (ahead after gs) base).suffix ≡ Some suffix → Behind after gs suffix (head_of (ahead after gs) base).bytes)
        → Behind after (g ∷ gs) suffix (head_of (if b then g ∷ gs else ahead after gs) base).bytes
    go true here e rest =
        let same : g.suffix ≡ suffix = same_Some g.suffix suffix e in
        let self : text_lt suffix g.suffix ≡ false = ap (text_lt suffix) same ∙ text_lt_self suffix in
        let none = none_passed after g.suffix gs here p.0 in
        let all : Above suffix gs = subst (λ t. Above t gs) same p.0 in
        let behind : passed_by (Some suffix) gs ≡ 0 = none_behind gs all in
        record {
          passed_is = rw (self, here) (omega (arith, none, behind));
          has = rw (subst (λ t. bytes_eq g.suffix t ≡ true) same (bytes_self g.suffix)) refl;
        }
      where
        none_behind : (hs : List Generation) → Above suffix hs → passed_by (Some suffix) hs ≡ 0
        none_behind [] all = refl
        none_behind (k ∷ hs) all =
            let q = and_parts (text_lt suffix k.suffix) (list_all (λ j. text_lt suffix j.suffix) hs) all in
            rw q.0 (none_behind hs q.1)
    go false here e rest =
        let r = rest e in
        let on = above_has gs p.0 r.has in
        let back : text_lt suffix g.suffix ≡ false = not_back (text_lt suffix g.suffix) refl on in
        let sum = r.passed_is in
        record { passed_is = rw (back, here) (omega (arith, sum)); has = later (bytes_eq g.suffix suffix) r.has }

-- ---- what is read

given_ends : (o : Option (List ℕ)) (reached : Bool) (suffix : List ℕ)
    → Contains (ended o reached) suffix → (o ≡ Some suffix) × (reached ≡ true)
given_ends None reached suffix (k, below, at) = absurd (let z : ⊥ = omega (arith, below) in z)
given_ends (Some x) false suffix (k, below, at) = absurd (let z : ⊥ = omega (arith, below) in z)
given_ends (Some x) true suffix (zero, below, at) = (ap Some at, refl)
given_ends (Some x) true suffix (suc k, below, at) = absurd (let z : ⊥ = omega (arith, below) in z)

-- what a place and the parts of the log are
pub record Known (start : ℕ) (p : Parts) (l : Line) : Type 0 where
  pub first : l.first ≡ start + passed_by l.after p.rotated
  pub on : l.first ≤ l.offset
  pub within : l.offset ≤ l.first + next_length l.after p.rotated p.base
  pub cut : (l.offset ≡ start) ⊎ IsTrue (nat_le start l.offset && is_cut_place p.lines (bytes_of p.rotated) p.base (l.offset - start))
  pub up : rising p.rotated ≡ true

module _ (start : ℕ) (p : Parts) (l : Line) (known : Known start p l) where
  abbrev pub Head : Shown
  Head = head_of (ahead l.after p.rotated) p.base

  abbrev TheLog : List ℕ
  TheLog = joined (bytes_of p.rotated) ++ p.base

  pub cut_at : (k : ℕ) → k ≤ length Head.bytes
      → is_cut_place p.lines (bytes_of p.rotated) p.base (passed_by l.after p.rotated + k) ≡ may_stop p.lines Head k
  cut_at k within = cut_ahead p.lines l.after p.base p.rotated k known.up within

  pub from_place : may_stop p.lines Head (l.offset - l.first) ≡ true
  from_place =
      let size = next_is l.after p.rotated p.base in
      let first = known.first in
      let on = known.on in
      let within = known.within in
      elim known.cut [
        | inl at ↦
            let zero_on : l.offset - l.first ≡ 0 = omega (arith, at, first, on) in
            ap (may_stop p.lines Head) zero_on ∙ stop_begin p.lines l.after p.base Head
        | inr cut ↦
            let c = (and_parts (nat_le start l.offset) _ cut).1 in
            let same : l.offset - start ≡ passed_by l.after p.rotated + (l.offset - l.first) = omega (arith, first, on) in
            sym (cut_at (l.offset - l.first) (omega (arith, within, size, on))) ∙ (ap (is_cut_place p.lines (bytes_of p.rotated) p.base) (sym same) ∙ c)
      ]

  log_at : (n max : ℕ) → n ≤ length (take max (drop (l.offset - l.first) Head.bytes))
      → take n (take max (drop (l.offset - l.first) Head.bytes)) ≡ take n (drop (l.offset - start) TheLog)
  log_at n max short =
      let at : ℕ = l.offset - l.first in
      let size = next_is l.after p.rotated p.base in
      let first = known.first in
      let on = known.on in
      let within = known.within in
      let most = length-take max (drop at Head.bytes) in
      let left = length-drop at Head.bytes in
      let h = head_log (ahead l.after p.rotated) p.base in
      let same : l.offset - start ≡ passed_by l.after p.rotated + at = omega (arith, first, on) in
      let there : drop (passed_by l.after p.rotated) TheLog ≡ Head.bytes ++ h.0 = ahead_log l.after p.rotated p.base known.up ∙ h.1 in
      let rest : drop (l.offset - start) TheLog ≡ drop at Head.bytes ++ h.0 =
      ap (λ k. drop k TheLog) same
      ∙ (sym (drop-drop at (passed_by l.after p.rotated) TheLog)
      ∙ (ap (drop at) there ∙ drop-append-le at Head.bytes h.0 (omega (arith, within, size, on)))) in
      take-take n max (drop at Head.bytes) (omega (arith, short, most))
      ∙ (sym (take-append-le n (drop at Head.bytes) h.0 (omega (arith, short, most))) ∙ ap (take n) (sym rest))

  -- a stop in the piece
  stop_known : (n : ℕ) → l.offset - l.first + n ≤ length Head.bytes
      → may_stop p.lines Head (l.offset - l.first + n) ≡ true → Known start p (moved l n)
  stop_known n within' stop =
      let size = next_is l.after p.rotated p.base in
      let first = known.first in
      let on = known.on in
      let same : l.offset + n - start ≡ passed_by l.after p.rotated + (l.offset - l.first + n) = omega (arith, first, on) in
      record {
        first = known.first;
        on = omega (arith, on);
        within = omega (arith, within', size, on);
        cut = inr (and_from _ _ (le-leb start (l.offset + n) (omega (arith, first, on)))
            (ap (is_cut_place p.lines (bytes_of p.rotated) p.base) same ∙ (cut_at (l.offset - l.first + n) within' ∙ stop)));
        up = known.up;
      }

  -- the place behind the generation
  pass_known : (suffix : List ℕ) (n : ℕ) → Head.suffix ≡ Some suffix
      → l.offset - l.first + n ≡ length Head.bytes → Known start p (passed l suffix n)
  pass_known suffix n e all =
      let b = behind_head l.after p.rotated p.base suffix known.up e in
      let first = known.first in
      let on = known.on in
      let sum = b.passed_is in
      let same : l.offset + n - start ≡ passed_by l.after p.rotated + (l.offset - l.first + n) = omega (arith, first, on) in
      record {
        first = omega (arith, first, on, sum, all);
        on = omega arith;
        within = omega arith;
        cut = inr (and_from _ _ (le-leb start (l.offset + n) (omega (arith, first, on)))
            (ap (is_cut_place p.lines (bytes_of p.rotated) p.base) same ∙ (cut_at (l.offset - l.first + n) (omega (arith, all)) ∙ ended_stop)));
        up = known.up;
      }
    where
      stop_of : (b : Bool)
          → (if b then is_line_cut (is_some Head.suffix) 0 Head.bytes (l.offset - l.first + n) else true) ≡ true
      stop_of false = refl
      stop_of true =
          ap (λ o. is_line_cut (is_some o) 0 Head.bytes (l.offset - l.first + n)) e
          ∙ (ap (is_line_cut true 0 Head.bytes) all ∙ line_end 0 Head.bytes (omega arith))

      ended_stop : may_stop p.lines Head (l.offset - l.first + n) ≡ true
      ended_stop = stop_of p.lines

-- ---- so is a line that stands

pub stop_to : (b : Bool) (g : Shown) (k : ℕ) → may_stop b g k ≡ true → MayStop b g k
stop_to true g k h = h
stop_to false g k h = tt

stop_from : (b : Bool) (g : Shown) (k : ℕ) → MayStop b g k → may_stop b g k ≡ true
stop_from true g k h = h
stop_from false g k h = refl

module _ (stamped : List (List ℕ)) (history : History) (legal : Legal stamped history) (s : Stream)
    (source : IsTrue (is_source s.source))
    (l : Line) (h : ReadsOn history s l) where
  abbrev pub TheParts : Parts
  TheParts = parts_of history s

  abbrev pub Now : Log
  Now = logs_after history s.name

  abbrev First : Founding
  First = h.stands.first

  parts_are : TheParts ≡ parts_since (Some First) Now
  parts_are = ap (λ o. parts_since o Now) h.stands.founded

  class_is : First.line.class ≡ l.class
  class_is =
      let b = is_founded stamped history legal s source First h.stands.founded in
      b.class ∙ (ap (λ (k : Line). k.class) (same_Some b.line h.line (sym b.there ∙ h.there)) ∙ h.class)

  pub lines_are : TheParts.lines ≡ breaks_lines l.class
  lines_are = ap (λ (p : Parts). p.lines) parts_are ∙ ap breaks_lines class_is

  pub base_is : TheParts.base ≡ Now.base
  base_is = ap (λ (p : Parts). p.base) parts_are

  pub rotated_is : TheParts.rotated ≡ (if is_plain l.class then [] else chosen First.line.after First.rotated Now.rotated)
  rotated_is =
      ap (λ (p : Parts). p.rotated) parts_are ∙ ap (λ c. if is_plain c then [] else chosen First.line.after First.rotated Now.rotated) class_is

  pub known : Known (start_of history s) TheParts l
  known = record {
    first = h.stands.place.first;
    on = h.stands.place.on;
    within = h.stands.place.within;
    cut = h.stands.cut;
    up = parts_rise stamped history legal s First h.stands.founded;
  }

  -- a place of the stream's log stands, where its suffix is one of the path
  stands_by : (m : Line) → IsSuffixOf m.after Now.rotated → Known (start_of history s) TheParts m
      → Stands history s m
  stands_by m suffix k = record {
    first = First;
    founded = h.stands.founded;
    place = record { first = k.first; on = k.on; within = k.within };
    cut = k.cut;
    suffix = suffix;
  }

  pub shown_head : read_from (part_for l.class l.after) Now ≡ head_of (ahead l.after TheParts.rotated) TheParts.base
  shown_head = go (is_plain l.class) refl
    where
      go : (b : Bool) → is_plain l.class ≡ b
          → read_from (if b then TheBase else Past l.after) Now ≡ head_of (ahead l.after TheParts.rotated) TheParts.base
      go true e =
          let none : TheParts.rotated ≡ [] = rotated_is ∙ ap (λ b. if b then [] else chosen First.line.after First.rotated Now.rotated) e in
          ap (λ base. record { suffix = None; bytes = base }) (sym base_is) ∙ ap (λ gs. head_of (ahead l.after gs) TheParts.base) (sym none)
      go false e =
          let line = lines_stand stamped history legal s source h.line h.there in
          let shows : ShowsLog history s l.after =
          shows_later history s h.line.after l.after h.behind (line.shows (ap is_plain h.class ∙ e)) in
          ap first_shown (open_is l.after Now.rotated Now.base)
          ∙ (ap (λ ks. first_shown (ks ++ record { suffix = None; bytes = Now.base } ∷ [])) shows
          ∙ (past_head l.after TheParts.rotated Now.base ∙ ap (head_of (ahead l.after TheParts.rotated)) (sym base_is)))

  -- the suffix of a generation of the stream's log is one of the path
  path_suffix : (suffix : List ℕ) → has_generation suffix TheParts.rotated ≡ true
      → has_generation suffix Now.rotated ≡ true
  path_suffix suffix has = go (is_plain l.class) (ap (has_generation suffix) (sym rotated_is) ∙ has)
    where
      go : (b : Bool)
          → has_generation suffix (if b then [] else chosen First.line.after First.rotated Now.rotated) ≡ true
          → has_generation suffix Now.rotated ≡ true
      go true has = absurd (true≢false (sym has))
      go false has = has_chosen suffix First.line.after First.rotated Now.rotated has

  gives : (max : ℕ) (words : List (List ℕ)) (number of : ℕ)
      → AtLogRead (Done words number of)
      (l.offset - l.first) max (head_of (ahead l.after TheParts.rotated) TheParts.base)
      → GivesLog history s l (head_of (ahead l.after TheParts.rotated) TheParts.base) words
  gives max words number of at_read =
      let start : ℕ = start_of history s in
      let g : Shown = head_of (ahead l.after TheParts.rotated) TheParts.base in
      let at : ℕ = l.offset - l.first in
      let piece : List ℕ = take max (drop at g.bytes) in
      let inside = at_read.0 in
      let most = length-take max (drop at g.bytes) in
      let left = length-drop at g.bytes in
      let lines = lines_are in
      record {
        piece = piece;
        ends = ended g.suffix (nat_le (length g.bytes) (at + max));
        words_are = at_read.1;
        bytes = λ n short. log_at start TheParts l known n max short;
        from = stop_to (breaks_lines l.class) g at (ap (λ b. may_stop b g at) (sym lines_are) ∙ from_place start TheParts l known);
        stops = λ n short may. stands_by (moved l n) h.stands.suffix
            (stop_known start TheParts l known n (omega (arith, short, most, left, inside))
            (ap (λ b. may_stop b g (at + n)) lines_are ∙ stop_from (breaks_lines l.class) g (at + n) may));
        passes = λ suffix one.
            let e = given_ends g.suffix (nat_le (length g.bytes) (at + max)) suffix one in
            let all = leb-true (length g.bytes) (at + max) e.1 in
            stands_by (passed l suffix (length piece))
            (path_suffix suffix (behind_head l.after TheParts.rotated TheParts.base suffix known.up e.0).has)
            (pass_known start TheParts l known suffix (length piece) e.0 (omega (arith, all, most, left, inside)));
      }

pub reads_give_log : (stamped : List (List ℕ)) (history : History) → Legal stamped history
    → (s : Stream) → IsTrue (is_source s.source)
    → (l : Line) → ReadsOn history s l → (max : ℕ) (words : List (List ℕ)) (number of : ℕ)
    → AtLogRead (Done words number of)
    (l.offset - l.first) max (read_from (part_for l.class l.after) (logs_after history s.name))
    → GivesLog history s l (read_from (part_for l.class l.after) (logs_after history s.name)) words
reads_give_log stamped history legal s source l h max words number of =
    subst (λ g. AtLogRead (Done words number of) (l.offset - l.first) max g → GivesLog history s l g words)
    (sym (shown_head stamped history legal s source l h)) (gives stamped history legal s source l h max words number of)

-- ---- a chunk that stands

pub chunk_on : (stamped : List (List ℕ)) (history : History) (step : Step)
    → Legal stamped (step ∷ history) → (c : Chunk)
    → IsTrue (is_source c.key.stream.source) → IsTrue (is_chunk c) → ChunkStands history c
    → ChunkStands (step ∷ history) c
chunk_on stamped history step legal c source valid h =
    let s = c.key.stream in
    let later = founded_by (line_of step.files s) (step.logs s.name) in
    let still : founding (step ∷ history) s ≡ Some h.first = ap (λ o. or_else o later) h.founded in
    let start : start_of (step ∷ history) s ≡ start_of history s = ap start_at still ∙ sym (ap start_at h.founded) in
    let grows = logs_grow stamped history step legal s source in
    let at : ℕ = chunk_begin c - c.key.start in
    record {
      first = h.first;
      founded = still;
      is_true = record {
        start = h.is_true.start ∙ sym start;
        data_is = same_in_longer (log_of history s) grows.0 c.value at h.is_true.data_is (has_room c valid).some
            ∙ ap (λ log. take (length c.value) (drop at log)) (sym grows.1);
      };
      cut = (cut_on stamped history step legal s source (chunk_end c) (record { first = h.first; founded = h.founded; cut = h.cut })).cut;
    }

-- A chunk of what a read gave, from the place on and up to a place in it at which a reader may
-- stop, stands.
pub chunk_of_read : (history : History) (s : Stream) (l : Line) (g : Shown) (words : List (List ℕ))
    → Stands history s l → (r : GivesLog history s l g words)
    → (c : Chunk) → c.key.stream ≡ s → c.key.start ≡ start_of history s → (n : ℕ) → 0 < n
    → n ≤ length r.piece → c.value ≡ take n r.piece
    → c.key.seq ≡ l.offset + n → Stands history s (moved l n) → ChunkStands history c
chunk_of_read history s l g words stands r c stream start n some short value seq stop =
    let size : length c.value ≡ n = ap length value ∙ (length-take n r.piece ∙ (let z : min n (length r.piece) ≡ n = omega (arith, short) in z)) in
    let base : s ≡ c.key.stream = sym stream in
    let begin : chunk_begin c - c.key.start ≡ l.offset - start_of history s = omega (arith, size, seq, start) in
    let on = stop.place.on in
    let first = stands.place.first in
    let low = stands.place.on in
    let ends : IsTrue (is_stream_cut history s (chunk_end c)) =
    elim stop.cut [
      | inl at ↦ absurd (let z : ⊥ = omega (arith, at, some, first, low) in z)
      | inr cut ↦ subst (λ o. IsTrue (is_stream_cut history s o)) (sym seq) cut
    ] in
    record {
      first = stands.first;
      founded = subst (λ t. founding history t ≡ Some stands.first) base stands.founded;
      is_true = record {
        start = subst (λ t. c.key.start ≡ start_of history t) base start;
        data_is =
            value ∙ (r.bytes n short
            ∙ (ap (λ k. take k (drop (l.offset - start_of history s) (log_of history s))) (sym size)
            ∙ (ap (λ k. take (length c.value) (drop k (log_of history s))) (sym begin)
            ∙ ap (λ t. take (length c.value) (drop (chunk_begin c - c.key.start) (log_of history t))) base)));
      };
      cut = subst (λ t. IsTrue (is_stream_cut history t (chunk_end c))) base ends;
    }
