-- Where a read at a true place gives no more, the whole log ends there.
use Rattle.std.proofs.Common.{◌≡◌, ◌≢◌, ◌⊎◌, inl, inr, ℕ, zero, suc, ◌+◌, ◌-◌, ◌≤◌, ◌<◌, ◌^◌, Bool, true, false, ◌&&◌, not, List, [], ◌∷◌, ◌++◌, length, take, drop, length-append, Option, Some, None, ap, sym, subst, ◌∙◌, refl, arith, if◌then◌else◌, is_some, nat_le}
use Rattle.std.specs.Prelude.{IsTrue, Contains, unwrap_or, ◌==◌, slice_index, nat_lt}
use Rattle.std.specs.List.{list_all}
use Rattle.std.proofs.lemmas.Bool.{and_parts, cases_eq, cases_lt, eq-eqb, le-leb, ltb-true}
use Rattle.std.proofs.lemmas.List.{length-take}
use Rattle.chk_bytes.specs.Words.{joined, is_word, parts_at}
use Rattle.chk_bytes.proofs.SpellingLemmas.{spelling-Some}
use Rattle.chk_control.specs.Classes.{is_plain, breaks_lines}
use Rattle.chk_control.specs.Lines.{is_name}
use Rattle.chk_site.specs.declared.acts.ActAnswer.TheVariants.{Done}
use Rattle.chk_site.specs.Suffixes.{is_after}
use Rattle.chk_site.specs.Honest.{AtLogRead}
use Rattle.chk_site.specs.CutLaws.{NoNewline}
use Rattle.chk_site.specs.Logs.{Generation, Shown, Log, read_from, ended, is_line_cut, is_cut_place, size_of}
use Rattle.chk_site.specs.Files.{File}
use Rattle.chk_site.specs.History.{History, AllModelled, files_after, logs_after}
use Rattle.chk_site.proofs.CutPlaces.{one_chain}
use Rattle.chk_site.proofs.Small.{all_small}
use Rattle.chk_chunk.specs.Keys.{Stream, start_limit}
use Rattle.chk_world.specs.Names.{CheckFile, is_source, file}
use Rattle.chk_world.specs.Checkpoints.{Line, is_after_text, checkpoint_text, read_checkpoint, guessed_lines, guessed_version, behind_first, are_lines, fits_version, are_apart, lines_in, checkpoint_lines, is_line, is_line_of}
use Rattle.chk_world.specs.Streams.{Founding, Parts, start_at, start_of, chosen, parts_of, bytes_of, log_of, passed_by, next_length, whole_log, whole_end}
use Rattle.chk_world.specs.Rules.{Legal}
use Rattle.chk_world.specs.Reading.{part_for, ReadsOn, GivesNoMore, AsksEnough}
use Rattle.chk_world.proofs.CutsStay.{cut_is_whole, whole_is, whole_length}
use Rattle.chk_world.proofs.CheckpointsMove.{found}
use Rattle.chk_world.proofs.LogsGrow.{is_founded}
use Rattle.chk_world.proofs.Segments.{all_in}
use Rattle.chk_world.proofs.LinesRead.{Known, Head, ahead, head_of, may_stop, run_behind, line_begin, next_is, cut_at, from_place, known, shown_head, stop_to, lines_are, base_is, rotated_is}
use Rattle.chk_site.proofs.CutPlaces.{cut_suc}

-- ---- a place at which to stop within 131,072 bytes

-- the place behind a newline is one
newline_cut : (closed : Bool) (run : ℕ) (bytes : List ℕ) (i : ℕ) → i < length bytes
    → slice_index bytes i ≡ 10
    → is_line_cut closed run bytes (suc i) ≡ true
newline_cut closed run [] i below is = absurd (let z : ⊥ = omega (arith, below) in z)
newline_cut closed run (b ∷ bytes) zero below is =
    cut_suc closed run b bytes 0
    ∙ (ap (λ c. is_line_cut closed (if c then 0 else if run == 131071 then 0 else run + 1) bytes 0) (eq-eqb b 10 is)
    ∙ line_begin closed bytes)
newline_cut closed run (b ∷ bytes) (suc i) below is =
    cut_suc closed run b bytes (suc i) ∙ newline_cut closed (run_behind b run) bytes i (omega (arith, below)) is

-- one of the next k bytes is a newline
record HasNewline (bytes : List ℕ) (p k : ℕ) : Type 0 where
  at : ℕ
  below : at < k
  is : slice_index bytes (p + at) ≡ 10

newline_or_none : (bytes : List ℕ) (p k : ℕ) → p + k ≤ length bytes
    → HasNewline bytes p k ⊎ NoNewline bytes p k
newline_or_none bytes p zero there =
    inr (record { there = there; lacks = λ i below is. let z : ⊥ = omega (arith, below) in z })
newline_or_none bytes p (suc k) there =
    go (newline_or_none bytes p k (omega (arith, there))) (cases_eq (slice_index bytes (p + k)) 10)
  where
    go : HasNewline bytes p k ⊎ NoNewline bytes p k
        → (slice_index bytes (p + k) ≡ 10) ⊎ (slice_index bytes (p + k) ≢ 10)
        → HasNewline bytes p (suc k) ⊎ NoNewline bytes p (suc k)
    go (inl h) last = let below = h.below in inl (record { at = h.at; below = omega (arith, below); is = h.is })
    go (inr none) (inl is) = inl (record { at = k; below = omega arith; is = is })
    go (inr none) (inr other) = inr (record {
      there = there;
      lacks = λ i below is.
          elim (cases_lt i k) [
            | inl early ↦ none.lacks i early is
            | inr late ↦
                let same : i ≡ k = omega (arith, below, late) in
                other (subst (λ j. slice_index bytes (p + j) ≡ 10) same is)
          ];
    })

-- a later place, at which a reader may stop
record StopsWithin (lines : Bool) (g : Shown) (at : ℕ) : Type 0 where
  to : ℕ
  on : at < to
  within : to ≤ at + 131072
  stop : may_stop lines g to ≡ true

stops_within : (lines : Bool) (g : Shown) (at : ℕ) → may_stop lines g at ≡ true
    → at + 131072 ≤ length g.bytes
    → StopsWithin lines g at
stops_within false g at here there =
    record { to = at + 1; on = omega arith; within = omega arith; stop = refl }
stops_within true g at here there = elim (newline_or_none g.bytes at 131072 there) [
  | inl h ↦
      let below = h.below in
      record {
        to = suc (at + h.at);
        on = omega arith;
        within = omega (arith, below);
        stop = newline_cut (is_some g.suffix) 0 g.bytes (at + h.at) (omega (arith, below, there)) h.is;
      }
  | inr none ↦ record {
    to = at + 131072;
    on = omega arith;
    within = omega arith;
    stop = (one_chain (is_some g.suffix) g.bytes at 131072 131072 here none (omega arith)).1 (inl (1, omega arith));
  }
]

-- ---- the sizes of generations

joined_size : (gs : List Generation) → length (joined (bytes_of gs)) ≡ size_of gs
joined_size [] = refl
joined_size (g ∷ gs) = omega (arith, length-append g.bytes (joined (bytes_of gs)), joined_size gs)

-- where none is ahead all are passed
all_passed : (after : Option (List ℕ)) (gs : List Generation) → ahead after gs ≡ []
    → passed_by after gs ≡ size_of gs
all_passed after [] none = refl
all_passed after (g ∷ gs) none = go (is_after after g.suffix) none (all_passed after gs)
  where
    go : (b : Bool) → (if b then g ∷ gs else ahead after gs) ≡ []
        → (ahead after gs ≡ [] → passed_by after gs ≡ size_of gs)
        → (if b then passed_by after gs else length g.bytes + passed_by after gs) ≡ length g.bytes + size_of gs
    go true none rest = absurd (cc)
    go false none rest = let e = rest none in omega (arith, e)

-- the generations passed and the next one are no more than all
passed_within : (after : Option (List ℕ)) (gs : List Generation) (base : List ℕ)
    → passed_by after gs + next_length after gs base ≤ size_of gs + length base
passed_within after [] base = omega arith
passed_within after (g ∷ gs) base =
    go (is_after after g.suffix) (passed_within after gs base) (passed_less after gs)
  where
    passed_less : (after : Option (List ℕ)) (gs : List Generation) → passed_by after gs ≤ size_of gs
    passed_less after [] = omega arith
    passed_less after (g ∷ gs) = pick (is_after after g.suffix) (passed_less after gs)
      where
        pick : (b : Bool) → passed_by after gs ≤ size_of gs
            → (if b then passed_by after gs else length g.bytes + passed_by after gs) ≤ length g.bytes + size_of gs
        pick true rest = omega (arith, rest)
        pick false rest = omega (arith, rest)

    go : (b : Bool) → passed_by after gs + next_length after gs base ≤ size_of gs + length base
        → passed_by after gs ≤ size_of gs
        → (if b then passed_by after gs else length g.bytes + passed_by after gs)
        + (if b then length g.bytes else next_length after gs base) ≤ length g.bytes + size_of gs + length base
    go true rest less = omega (arith, less)
    go false rest less = omega (arith, rest)

chosen_less : (after : Option (List ℕ)) (ts gs : List Generation)
    → size_of (chosen after ts gs) ≤ size_of gs
chosen_less after [] gs = omega arith
chosen_less after (t ∷ ts) [] = omega arith
chosen_less after (t ∷ ts) (g ∷ gs) = go (not t.deleted && is_after after t.suffix) (chosen_less after ts gs)
  where
    go : (b : Bool) → size_of (chosen after ts gs) ≤ size_of gs
        → size_of (if b then g ∷ chosen after ts gs else chosen after ts gs) ≤ length g.bytes + size_of gs
    go true rest = omega (arith, rest)
    go false rest = omega (arith, rest)

-- ---- nothing is ahead

-- what a place, the parts of the log and a read there are
record IsRead (start : ℕ) (p : Parts) (l : Line) (max : ℕ) (piece : List ℕ) : Type 0 where
  known : Known start p l
  inside : l.offset - l.first ≤ length (Head start p l known).bytes
  words_are : piece ∷ [] ≡ take max (drop (l.offset - l.first) (Head start p l known).bytes)
      ∷ ended (Head start p l known).suffix (nat_le (length (Head start p l known).bytes) (l.offset - l.first + max))
  none_later : (q : ℕ) → l.offset - l.first < q → q ≤ l.offset - l.first + max
      → q ≤ length (Head start p l known).bytes
      → may_stop p.lines (Head start p l known) q ≡ true → ⊥
  enough : AsksEnough l max
  start_low : start < 2 ^ 62
  log_low : size_of p.rotated + length p.base < 2 ^ 62

module _ (start : ℕ) (p : Parts) (l : Line) (max : ℕ) (piece : List ℕ)
    (r : IsRead start p l max piece) where
  abbrev G : Shown
  G = Head start p l r.known

  abbrev at : ℕ
  at = l.offset - l.first

  -- the read came to the end of what is there
  reached : length G.bytes ≤ at + max
  reached = elim (cases_lt (at + max) (length G.bytes)) [
    | inr all ↦ all
    | inl part ↦
        let first = r.known.first in
        let on = r.known.on in
        let enough = r.enough in
        let start_low = r.start_low in
        let log_low = r.log_low in
        let sizes = passed_within l.after p.rotated p.base in
        let next = next_is l.after p.rotated p.base in
        let piece : 131072 ≤ max = omega (arith, part, first, on, enough, start_low, log_low, sizes, next) in
        let stop = stops_within p.lines G at (from_place start p l r.known) (omega (arith, part, piece)) in
        let within = stop.within in
        absurd (r.none_later stop.to stop.on (omega (arith, within, piece)) (omega (arith, within, piece, part)) stop.stop)
  ]

  -- the read ended no generation, so none is ahead
  none_ahead : ahead l.after p.rotated ≡ []
  none_ahead = go (ahead l.after p.rotated) refl (tails r.words_are)
    where
      tails : {xs ys : List (List ℕ)} {x y : List ℕ} → x ∷ xs ≡ y ∷ ys → xs ≡ ys
      tails e = cc

      go : (gs : List Generation) → ahead l.after p.rotated ≡ gs
          → [] ≡ ended (head_of gs p.base).suffix (nat_le (length G.bytes) (at + max)) → gs ≡ []
      go [] e words = refl
      go (g ∷ gs) e words =
          let all : nat_le (length G.bytes) (at + max) ≡ true = le-leb (length G.bytes) (at + max) reached in
          absurd (no_suffix (words ∙ ap (λ b. ended (Some g.suffix) b) all))
        where
          no_suffix : {x : List ℕ} → [] ≡ x ∷ [] → ⊥
          no_suffix e = cc

  -- the base file is read, behind all generations
  base_read : length G.bytes ≡ length p.base
  base_read = ap (λ gs. length (head_of gs p.base).bytes) none_ahead

  none_behind : (k : ℕ) → l.offset - start < k → k ≤ length (joined (bytes_of p.rotated) ++ p.base)
      → is_cut_place p.lines (bytes_of p.rotated) p.base k ≡ true → ⊥
  none_behind k past within cut =
      let first = r.known.first in
      let on = r.known.on in
      let all = all_passed l.after p.rotated none_ahead in
      let size = joined_size p.rotated in
      let sum = length-append (joined (bytes_of p.rotated)) p.base in
      let base = base_read in
      let to : ℕ = k - passed_by l.after p.rotated in
      let same : k ≡ passed_by l.after p.rotated + to = omega (arith, past, first, on) in
      let there : to ≤ length G.bytes = omega (arith, within, all, size, sum, base) in
      let stop : may_stop p.lines G to ≡ true =
      sym (cut_at start p l r.known to there) ∙ (ap (is_cut_place p.lines (bytes_of p.rotated) p.base) (sym same) ∙ cut) in
      let low = reached in
      r.none_later to (omega (arith, past, first, on, same)) (omega (arith, there, low)) there stop

-- ---- so it is of a read in a legal history

pub legal_modelled : (stamped : List (List ℕ)) (history : History) → Legal stamped history
    → AllModelled history
legal_modelled stamped [] legal = tt
legal_modelled stamped (step ∷ history) legal = (legal_modelled stamped history legal.0, legal.1.honest.modelled)

-- each line of a checkpoint can be spelled
lines_good : (bytes : List ℕ) (lines : List Line) → read_checkpoint bytes ≡ Some lines
    → list_all is_line lines ≡ true
unfolding read_checkpoint
lines_good bytes lines e =
    let v = guessed_version (parts_at 10 bytes) in
    let is = spelling-Some (are_lines v) (checkpoint_text v) (guessed_lines (behind_first (parts_at 10 bytes))) lines bytes e in
    let p = and_parts (nat_le (length lines) 10000) (list_all is_line lines && (list_all (fits_version v) lines && are_apart lines)) is.1 in
    (and_parts (list_all is_line lines) (list_all (fits_version v) lines && are_apart lines) p.1).0

one_good : (o : Option File) (l : Line) → Contains (lines_in o) l → is_line l ≡ true
one_good None l (k, below, is) = absurd (let z : ⊥ = omega (arith, below) in z)
one_good (Some f) l one = go (read_checkpoint f.bytes) refl one
  where
    go : (o : Option (List Line)) → read_checkpoint f.bytes ≡ o → Contains (unwrap_or o []) l
        → is_line l ≡ true
    go None e (k, below, is) = absurd (let z : ⊥ = omega (arith, below) in z)
    go (Some lines) e one = all_in is_line lines l (lines_good f.bytes lines e) one

start_small : (l : Line) → is_line l ≡ true → l.start < start_limit
start_small l h =
    let p1 = and_parts (is_name l.name) _ h in
    let p2 = and_parts (is_word l.kind) _ p1.1 in
    let p3 = and_parts (is_word l.path) _ p2.1 in
    let p4 = and_parts (is_after_text l.after) _ p3.1 in
    ltb-true l.start start_limit (and_parts (nat_lt l.start start_limit) _ p4.1).0

module _ (stamped : List (List ℕ)) (history : History) (legal : Legal stamped history) (s : Stream)
    (source : IsTrue (is_source s.source))
    (l : Line) (h : ReadsOn history s l) (max : ℕ) (enough : AsksEnough l max) where
  abbrev P : Parts
  P = parts_of history s

  abbrev First : Founding
  First = h.stands.first

  low_start : start_of history s < 2 ^ 62
  low_start =
      let f = is_founded stamped history legal s source First h.stands.founded in
      let one = (found (is_line_of s) (checkpoint_lines (files_after history) s.source) f.line f.there).one in
      let small = start_small f.line (one_good (file (files_after history) (CheckFile s.source)) f.line one) in
      let same : start_of history s ≡ f.line.start = ap start_at h.stands.founded ∙ f.start in
      omega (arith, small, same)

  low_log : size_of P.rotated + length P.base < 2 ^ 62
  low_log =
      let now : Log = logs_after history s.name in
      let small = (all_small history (legal_modelled stamped history legal)).logs s.name in
      let rotated : size_of P.rotated ≤ size_of now.rotated = go (is_plain l.class) (rotated_is stamped history legal s source l h) in
      let base = ap length (base_is stamped history legal s source l h) in
      omega (arith, small, rotated, base)
    where
      go : (b : Bool)
          → P.rotated ≡ (if b then [] else chosen First.line.after First.rotated (logs_after history s.name).rotated)
          → size_of P.rotated ≤ size_of (logs_after history s.name).rotated
      go true e = let none = ap size_of e in omega (arith, none)
      go false e =
          let same = ap size_of e in
          let less = chosen_less First.line.after First.rotated (logs_after history s.name).rotated in
          omega (arith, same, less)

  finds_end : (words : List (List ℕ)) (number of : ℕ)
      → AtLogRead (Done words number of)
      (l.offset - l.first) max (head_of (ahead l.after P.rotated) P.base)
      → GivesNoMore (breaks_lines l.class) (head_of (ahead l.after P.rotated) P.base)
      (l.offset - l.first) max words
      → whole_end history s ≡ l.offset
  finds_end words number of at_read no_more =
      let start : ℕ = start_of history s in
      let g : Shown = head_of (ahead l.after P.rotated) P.base in
      let k = known stamped history legal s source l h in
      let lines = lines_are stamped history legal s source l h in
      let read : IsRead start P l max no_more.piece = record {
        known = k;
        inside = at_read.0;
        words_are = sym no_more.words_are ∙ at_read.1;
        none_later = λ q on below there stop.
            no_more.none_later q on below there
            (stop_to (breaks_lines l.class) g q (ap (λ b. may_stop b g q) (sym lines) ∙ stop));
        enough = enough;
        start_low = low_start;
        log_low = low_log;
      } in
      let last = whole_is history s in
      let within = last.within in
      let size : length (whole_log history s) ≡ whole_length history s =
      length-take (whole_length history s) (log_of history s) ∙ omega (arith, within) in
      let first = k.first in
      let on = k.on in
      let up : l.offset ≤ whole_end history s =
      elim h.stands.cut [
        | inl at ↦ omega (arith, at)
        | inr cut ↦ cut_is_whole history s l.offset cut
      ] in
      elim (cases_lt (l.offset - start) (whole_length history s)) [
        | inl past ↦ absurd (none_behind start P l max no_more.piece read (whole_length history s) past within last.cut)
        | inr here ↦ omega (arith, here, size, up, first, on)
      ]

pub reads_find_end : (stamped : List (List ℕ)) (history : History) → Legal stamped history
    → (s : Stream)
    → IsTrue (is_source s.source) → (l : Line) → ReadsOn history s l → (max : ℕ) → AsksEnough l max
    → (words : List (List ℕ)) (number of : ℕ)
    → AtLogRead (Done words number of)
    (l.offset - l.first) max (read_from (part_for l.class l.after) (logs_after history s.name))
    → GivesNoMore (breaks_lines l.class)
    (read_from (part_for l.class l.after) (logs_after history s.name))
    (l.offset - l.first) max words
    → whole_end history s ≡ l.offset
reads_find_end stamped history legal s source l h max enough words number of =
    subst (λ g. AtLogRead (Done words number of) (l.offset - l.first) max g
    → GivesNoMore (breaks_lines l.class) g (l.offset - l.first) max words
    → whole_end history s ≡ l.offset)
    (sym (shown_head stamped history legal s source l h))
    (finds_end stamped history legal s source l h max enough words number of)
