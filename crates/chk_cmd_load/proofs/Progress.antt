-- How far the appends have come.
use Rattle.std.proofs.Common.{◌≡◌, ◌≢◌, inl, inr, ℕ, suc, ◌<◌, ◌≤◌, ◌+◌, ◌%◌, ◌==◌, Bool, List, [], ◌∷◌, ◌++◌, length, length-append, Ok, Err, Option, refl, sym, ◌∙◌, ap, subst, append_assoc, append-nil, add-one, arith}
use Rattle.std.specs.Prelude.{IsTrue}
use Rattle.std.proofs.lemmas.Bool.{cases_lt}
use Rattle.std.proofs.lemmas.Bool.Decides.{eqb_tells}
use Rattle.chk_bytes.specs.Words.{BeginsWith}
use Rattle.chk_site.specs.declared.acts.OutsideFault.{OutsideFault}
use Rattle.chk_site.specs.declared.acts.OutsideFault.TheVariants.{NoMemory as no_memory}
use Rattle.chk_site.specs.declared.acts.Who.{Who}
use Rattle.chk_site.specs.History.{History}
use Rattle.chk_cmd_line.specs.Loads.{load_log}
use Rattle.chk_cmd_load.specs.Lines.{all_lines, bytes_of, ends_lines, lines_to}
use Rattle.chk_cmd_load.specs.Pieces.{AppendsInTurn, all_appended, unappended, Flushes, ForNoOther, LogPiece, WritesAll, WritesLog, joined}
use Rattle.chk_cmd_load.proofs.Joined.{apart_logs, front_then, joined_own, joined_then, no_other_one, no_other_then, whole_front}
use Rattle.chk_cmd_load.proofs.LineSizes.{bytes_short, ends_then, lines_front, lines_short, part, part_ends, part_short}
use Rattle.chk_cmd_load.proofs.Scripts.{appends_then}

empty_of : (xs : List ℕ) → length xs < 1 → xs ≡ []
empty_of [] low = refl
empty_of (x ∷ xs) low = absurd (let z : ⊥ = omega (arith, low) in z)

-- ---- one log

-- Of the first `n` lines those of this log were appended, but for the piece that waits.
pub record Wrote (who : Who) (lines log n : ℕ) (piece : List ℕ) (bytes : ℕ) (old new : Option History) : Type 0 where
  pub pieces : List LogPiece
  pub script : AppendsInTurn who pieces (Ok tt) old new
  pub others : ForNoOther (load_log log) pieces
  pub is : joined (load_log log) pieces ++ piece ≡ lines_to lines log n
  pub size : bytes ≡ length (joined (load_log log) pieces)

-- the piece that waited
abbrev waited : ℕ → List ℕ → LogPiece
waited log piece = record { path = load_log log; bytes = piece }

with_waited : (log : ℕ) (ps : List LogPiece) (piece : List ℕ)
    → joined (load_log log) (ps ++ waited log piece ∷ []) ≡ joined (load_log log) ps ++ piece
with_waited log ps piece =
    joined_then (load_log log) ps (waited log piece ∷ [])
    ∙ ap (λ (t : List ℕ). joined (load_log log) ps ++ t) (joined_own (load_log log) piece)

-- nothing waits behind the last piece
pub none_waits : (who : Who) (log k : ℕ) (piece after : List ℕ) {old new : Option History}
    → Flushes who (load_log log) 1 piece after (Ok k) old new → after ≡ []
none_waits who log k piece after (inl (low, same, none, still)) = same ∙ empty_of piece low
none_waits who log k piece after (inr (none, size, script)) = none

-- room for another line is left
pub room_left : (who : Who) (log k : ℕ) (piece after : List ℕ) {old new : Option History}
    → Flushes who (load_log log) 65506 piece after (Ok k) old new → length after < 65506
room_left who log k piece after (inl (low, same, none, still)) = subst (λ (p : List ℕ). length p < 65506) (sym same) low
room_left who log k piece after (inr (none, size, script)) =
    subst (λ (p : List ℕ). length p < 65506) (sym none) (let z : 0 < 65506 = omega arith in z)

pub ends_left : (who : Who) (log k least : ℕ) (piece after : List ℕ) {old new : Option History}
    → Flushes who (load_log log) least piece after (Ok k) old new → IsTrue (ends_lines piece) → IsTrue (ends_lines after)
ends_left who log k least piece after (inl (low, same, none, still)) ends =
    subst (λ (p : List ℕ). IsTrue (ends_lines p)) (sym same) ends
ends_left who log k least piece after (inr (none, size, script)) ends =
    subst (λ (p : List ℕ). IsTrue (ends_lines p)) (sym none) refl

-- a piece with one more line
pub line_fits : (lines line : ℕ) (own : Bool) (piece after : List ℕ) → line < lines → lines ≤ 200000 → length piece < 65506
    → after ≡ piece ++ part lines line own → length after ≤ 65536
line_fits lines line own piece after low few room is =
    let one = part_short lines line own low few in
    let whole = ap length is in
    let parts = length-append piece (part lines line own) in
    omega (arith, one, whole, parts, room)

pub line_ends_it : (lines line : ℕ) (own : Bool) (piece after : List ℕ) → IsTrue (ends_lines piece)
    → after ≡ piece ++ part lines line own → IsTrue (ends_lines after)
line_ends_it lines line own piece after ends is =
    subst (λ (p : List ℕ). IsTrue (ends_lines p)) (sym is)
    (ends_then piece (part lines line own) ends (part_ends lines line own))

-- a line of the same number
pub same_line : (lines line slines sline : ℕ) (own : Bool) → slines ≡ lines → sline ≡ line
    → part slines sline own ≡ part lines line own
same_line lines line slines sline own e f = ap (λ l. part l sline own) e ∙ ap (λ n. part lines n own) f

module _ {who : Who} {lines log : ℕ} where
  pub wrote_none : (now : Option History) → Wrote who lines log 0 [] 0 now now
  wrote_none now = record { pieces = []; script = all_appended; others = λ other apart. refl; is = refl; size = refl }

  -- one more line
  pub wrote_line : (n bytes : ℕ) (piece after : List ℕ) {old new : Option History} → Wrote who lines log n piece bytes old new
      → after ≡ piece ++ part lines n (n % 3 == log) → Wrote who lines log (n + 1) after bytes old new
  wrote_line n bytes piece after w is =
      let front = joined (load_log log) w.pieces in
      let one = part lines n (n % 3 == log) in
      record {
        pieces = w.pieces;
        script = w.script;
        others = w.others;
        is = ap (λ (p : List ℕ). front ++ p) is ∙ sym (append_assoc front piece one)
            ∙ ap (λ (t : List ℕ). t ++ one) w.is ∙ ap (lines_to lines log) (sym (add-one n));
        size = w.size;
      }

  flushed : (n bytes k least : ℕ) (piece after : List ℕ) {old mid new : Option History} → Wrote who lines log n piece bytes old mid
      → after ≡ [] → k ≡ length piece → AppendsInTurn who (waited log piece ∷ []) (Ok tt) mid new
      → Wrote who lines log n after (bytes + k) old new
  flushed n bytes k least piece after w none size script = record {
    pieces = w.pieces ++ waited log piece ∷ [];
    script = appends_then w.script refl script;
    others = no_other_then (load_log log) w.pieces (waited log piece ∷ []) w.others (no_other_one (load_log log) piece);
    is = ap (λ (t : List ℕ). joined (load_log log) (w.pieces ++ waited log piece ∷ []) ++ t) none
        ∙ append-nil (joined (load_log log) (w.pieces ++ waited log piece ∷ [])) ∙ with_waited log w.pieces piece ∙ w.is;
    size =
        let front = w.size in
        let whole = ap length (with_waited log w.pieces piece) in
        let parts = length-append (joined (load_log log) w.pieces) piece in
        omega (arith, front, whole, parts, size);
  }

  -- behind a step that appends the piece or does nothing
  pub wrote_on : (n bytes k least : ℕ) (piece after : List ℕ) {old mid new : Option History} → Wrote who lines log n piece bytes old mid
      → Flushes who (load_log log) least piece after (Ok k) mid new → Wrote who lines log n after (bytes + k) old new
  wrote_on n bytes k least piece after {old = old} {mid = mid} {new = new} w (inl (low, same, none, still)) =
      let here : Wrote who lines log n piece bytes old new =
      subst (λ (o : Option History). Wrote who lines log n piece bytes old o) (sym still) w in
      let there : Wrote who lines log n after bytes old new =
      subst (λ (p : List ℕ). Wrote who lines log n p bytes old new) (sym same) here in
      subst (λ (b : ℕ). Wrote who lines log n after b old new) (let z : bytes ≡ bytes + k = omega (arith, none) in z) there
  wrote_on n bytes k least piece after w (inr (none, size, script)) = flushed n bytes k least piece after w none size script

  -- all of it
  pub wrote_all : (bytes : ℕ) (piece : List ℕ) {old new : Option History} → Wrote who lines log lines piece bytes old new → piece ≡ []
      → WritesLog who lines log (Ok bytes) old new
  wrote_all bytes piece w none =
      let is : joined (load_log log) w.pieces ≡ all_lines lines log =
      sym (append-nil (joined (load_log log) w.pieces)) ∙ ap (λ (t : List ℕ). joined (load_log log) w.pieces ++ t) (sym none) ∙ w.is in
      (w.pieces, w.script, w.others, is, w.size ∙ ap length is)

  pub wrote_small : (n bytes : ℕ) (piece : List ℕ) {old new : Option History} → Wrote who lines log n piece bytes old new → n ≤ lines
      → lines ≤ 200000 → bytes ≤ 6200000
  wrote_small n bytes piece w low few =
      let size = w.size in
      let whole = ap length w.is in
      let parts = length-append (joined (load_log log) w.pieces) piece in
      let short = lines_short lines log n low few in
      omega (arith, size, whole, parts, short, low, few)

  -- a line is put behind the piece, which is appended where it is full
  pub on_line : (n bytes k : ℕ) (piece between after : List ℕ) {old mid new : Option History} → Wrote who lines log n piece bytes old mid
      → between ≡ piece ++ part lines n (n % 3 == log) → Flushes who (load_log log) 65506 between after (Ok k) mid new
      → Wrote who lines log (n + 1) after (bytes + k) old new
  on_line n bytes k piece between after w is flush =
      wrote_on (n + 1) bytes k 65506 between after (wrote_line n bytes piece between w is) flush

  -- the append of the piece ended the work
  pub wrote_cut : (n bytes : ℕ) (piece : List ℕ) (fault : OutsideFault) {old mid new : Option History}
      → Wrote who lines log n piece bytes old mid → n ≤ lines
      → AppendsInTurn who (waited log piece ∷ []) (Err fault) mid new → WritesLog who lines log (Err fault) old new
  wrote_cut n bytes piece fault w low script = (
    w.pieces ++ waited log piece ∷ [],
    appends_then w.script refl script,
    no_other_then (load_log log) w.pieces (waited log piece ∷ []) w.others (no_other_one (load_log log) piece),
    subst (BeginsWith (all_lines lines log)) (sym (with_waited log w.pieces piece ∙ w.is)) (lines_front lines log n low),
  )

  -- there was no memory for the next line
  pub wrote_unmade : (n bytes : ℕ) (piece : List ℕ) {old new : Option History} → Wrote who lines log n piece bytes old new → n ≤ lines
      → WritesLog who lines log (Err no_memory) old new
  wrote_unmade n bytes piece w low = (
    w.pieces ++ [],
    appends_then w.script refl (unappended {pieces = []}),
    no_other_then (load_log log) w.pieces [] w.others (λ other apart. refl),
    front_then (all_lines lines log) (lines_to lines log n) (joined (load_log log) (w.pieces ++ [])) (lines_front lines log n low) (
      piece,
      sym w.is ∙ ap (λ (t : List ℕ). t ++ piece) (sym (joined_then (load_log log) w.pieces [] ∙ append-nil (joined (load_log log) w.pieces))),
    ),
  )

-- ---- the logs in turn

-- the lines of the first logs were appended, and of the others none
pub record WroteLogs (who : Who) (lines log bytes : ℕ) (old new : Option History) : Type 0 where
  pub pieces : List LogPiece
  pub script : AppendsInTurn who pieces (Ok tt) old new
  pub size : bytes ≡ bytes_of lines log
  pub whole : (k : ℕ) → k < 3 → k < log → joined (load_log k) pieces ≡ all_lines lines k
  pub none : (k : ℕ) → k < 3 → log ≤ k → joined (load_log k) pieces ≡ []

-- of what was appended before, and of one more log
of_both : (k : ℕ) (ps qs : List LogPiece) {a b : List ℕ} → joined (load_log k) ps ≡ a → joined (load_log k) qs ≡ b
    → joined (load_log k) (ps ++ qs) ≡ a ++ b
of_both k ps qs {a = a} x y =
    joined_then (load_log k) ps qs ∙ ap (λ (t : List ℕ). t ++ joined (load_log k) qs) x ∙ ap (λ (t : List ℕ). a ++ t) y

module _ {who : Who} {lines : ℕ} where
  pub logs_none : (now : Option History) → WroteLogs who lines 0 0 now now
  logs_none now = record {
    pieces = [];
    script = all_appended;
    size = refl;
    whole = λ k low past. absurd (let z : ⊥ = omega (arith, past) in z);
    none = λ k low past. refl;
  }

  pub logs_more : (log bytes n : ℕ) {old mid new : Option History} → WroteLogs who lines log bytes old mid → log < 3
      → WritesLog who lines log (Ok n) mid new → WroteLogs who lines (log + 1) (bytes + n) old new
  logs_more log bytes n w low (qs, script, others, is, size) = record {
    pieces = w.pieces ++ qs;
    script = appends_then w.script refl script;
    size =
        let before = w.size in
        let both : bytes + n ≡ bytes_of lines (suc log) = omega (arith, before, size) in
        both ∙ ap (bytes_of lines) (sym (add-one log));
    whole = λ k fits past.
        elim (eqb_tells k log) [
          | inl same ↦ subst (λ j. joined (load_log j) (w.pieces ++ qs) ≡ all_lines lines j) (sym same.1)
              (of_both log w.pieces qs (w.none log low (omega arith)) is)
          | inr other ↦ of_both k w.pieces qs
              (w.whole k fits (let apart = other.1 in omega (arith, past, apart)))
              (others (load_log k) (apart_logs log k low fits (λ e. other.1 (sym e))))
              ∙ append-nil (all_lines lines k)
        ];
    none = λ k fits past.
        of_both k w.pieces qs (w.none k fits (omega (arith, past)))
        (others (load_log k) (apart_logs log k low fits (λ e. let z : ⊥ = omega (arith, past, e) in z)));
  }

  -- a log whose appends ended the work
  pub logs_cut : (log bytes : ℕ) (fault : OutsideFault) {old mid new : Option History} → WroteLogs who lines log bytes old mid → log < 3
      → WritesLog who lines log (Err fault) mid new → WritesAll who lines (Err fault) old new
  logs_cut log bytes fault w low (qs, script, others, front) = (
    w.pieces ++ qs,
    appends_then w.script refl script,
    λ k fits.
        elim (eqb_tells k log) [
          | inl same ↦ subst (λ j. BeginsWith (all_lines lines j) (joined (load_log j) (w.pieces ++ qs))) (sym same.1)
              (subst (BeginsWith (all_lines lines log)) (sym (of_both log w.pieces qs (w.none log low (omega arith)) refl)) front)
          | inr other ↦ apart k fits other.1 (others (load_log k) (apart_logs log k low fits (λ e. other.1 (sym e))))
        ],
  )
    where
      apart : (k : ℕ) → k < 3 → k ≢ log → joined (load_log k) qs ≡ []
          → BeginsWith (all_lines lines k) (joined (load_log k) (w.pieces ++ qs))
      apart k fits other none =
          elim (cases_lt k log) [
            | inl past ↦ subst (BeginsWith (all_lines lines k))
                (sym (of_both k w.pieces qs (w.whole k fits past) none ∙ append-nil (all_lines lines k))) (whole_front (all_lines lines k))
            | inr over ↦ subst (BeginsWith (all_lines lines k)) (sym (of_both k w.pieces qs (w.none k fits over) none))
                (all_lines lines k, refl)
          ]

  pub logs_small : (log bytes n : ℕ) {old mid new : Option History} → WroteLogs who lines log bytes old mid → log < 3 → lines ≤ 200000
      → WritesLog who lines log (Ok n) mid new → bytes + n ≤ 24800000
  logs_small log bytes n w low few (qs, script, others, is, size) =
      let before = w.size in
      let first = bytes_short lines log few in
      let more = lines_short lines log lines (let z : lines ≤ lines = omega arith in z) few in
      omega (arith, before, first, more, size, low, few)

  pub logs_all : (bytes : ℕ) {old new : Option History} → WroteLogs who lines 3 bytes old new → WritesAll who lines (Ok bytes) old new
  logs_all bytes w = (w.pieces, w.script, w.size, λ k low. w.whole k low low)
