-- Numbers that are marked, and what their marks keep.
use Rattle.std.proofs.Common.{◌≡◌, ◌≤◌, ◌<◌, ℕ, zero, suc, ◌+◌, Bool, true, false, not, ◌||◌, ◌==◌, cond, if◌then◌else◌, List, [], ◌∷◌, ◌++◌, length, map, take, set, get_or, fold, replicate, inl, inr, refl, sym, subst, ap, ap₂, ◌∙◌, arith}
use Rattle.std.specs.Prelude.{filter, slice_index}
use Rattle.std.specs.List.{list_any, All}
use Rattle.std.proofs.lemmas.Bool.{cases_eq, eq-eqb, ne_eqb}
use Rattle.std.proofs.lemmas.List.{length-set, get_or-set_same, get_or-set_other, get_or-replicate, length-replicate, take_more, length-take-le}
use Rattle.chk_chunk.specs.declared.Chunk.{Chunk}
use Rattle.chk_queue.specs.Queues.{marked}
use Rattle.chk_acks.specs.declared.row.Row.{Row}
use Rattle.chk_acks.specs.Rows.{expired_adaptors, is_expired}
use Rattle.chk_acks.specs.Resets.{back_to, ends_back, expired_marked, is_gone, is_of_kept}
use Rattle.chk_agent_delivery.specs.Turns.{is_one_of, last_back, numbers_of, without_chunks}
use Rattle.chk_agent_delivery.specs.Marks.{is_left, marked_from, with_mark}

-- the marks from this number on are those of these numbers
pub record AreMarks (numbers : List ℕ) (from : ℕ) (marks : List Bool) : Type 0 where
  pub each : (i : ℕ) → i < length marks → is_gone marks i ≡ is_one_of numbers (from + i)

or_true : (b : Bool) → (b || true) ≡ true
or_true true = refl
or_true false = refl

or_false : (b : Bool) → (b || false) ≡ b
or_false true = refl
or_false false = refl

or_next : (a b c : Bool) → ((a || b) || c) ≡ (a || (b || c))
or_next true b c = refl
or_next false b c = refl

set_mark : (marks : List Bool) (n i : ℕ) → i < length marks
    → is_gone (with_mark marks n) i ≡ (is_gone marks i || n == i)
set_mark marks n i within =
    elim (cases_eq n i) [
      | inl same ↦
          ap (λ k. get_or (set marks k true) i false) same
          ∙ get_or-set_same marks i true false within
          ∙ sym (ap (λ b. is_gone marks i || b) (eq-eqb n i same) ∙ or_true (is_gone marks i))
      | inr apart ↦
          get_or-set_other marks n i true false (λ e. apart (sym e))
          ∙ sym (ap (λ b. is_gone marks i || b) (ne_eqb n i apart) ∙ or_false (is_gone marks i))
    ]

marks_after : (numbers : List ℕ) (marks : List Bool) (i : ℕ) → i < length marks
    → is_gone (fold with_mark marks numbers) i ≡ (is_gone marks i || is_one_of numbers i)
marks_after [] marks i within = sym (or_false (is_gone marks i))
marks_after (n ∷ numbers) marks i within =
    marks_after numbers (with_mark marks n) i (omega (arith, length-set marks n true))
    ∙ ap (λ b. b || is_one_of numbers i) (set_mark marks n i within)
    ∙ or_next (is_gone marks i) (n == i) (is_one_of numbers i)

pub length-marks : (numbers : List ℕ) (marks : List Bool) → length (fold with_mark marks numbers)
    ≡ length marks
length-marks [] marks = refl
length-marks (n ∷ numbers) marks = length-marks numbers (with_mark marks n)
    ∙ length-set marks n true

-- a number past the end marks nothing
pub mark_past : (marks : List Bool) (n : ℕ) → length marks ≤ n → set marks n true ≡ marks
mark_past [] n past = refl
mark_past (m ∷ marks) zero past = absurd (omega arith)
mark_past (m ∷ marks) (suc n) past = ap (λ l. m ∷ l) (mark_past marks n (omega arith))

-- what is marked of nothing
pub are_marks : (numbers : List ℕ) (size : ℕ)
    → AreMarks numbers 0 (fold with_mark (replicate size false) numbers)
are_marks numbers size = record {
  each = λ i within.
      let all = length-marks numbers (replicate size false) in
      let many = length-replicate size false in
      marks_after numbers (replicate size false) i (omega arith)
      ∙ ap (λ b. b || is_one_of numbers i) (get_or-replicate size i false false (omega arith))
      ∙ ap (is_one_of numbers) (omega arith);
}

-- the marks of expired rows are those of their adaptors
expired_marks : (now age : ℕ) (marks : List Bool) (rows : List Row)
    → fold (expired_marked now age) marks rows
    ≡ fold with_mark marks (expired_adaptors now age rows)
expired_marks now age marks [] = refl
expired_marks now age marks (row ∷ rows) =
    by (is_expired now age row) (λ m. expired_marks now age m rows)
  where
    by : (b : Bool)
        → ((m : List Bool) → fold (expired_marked now age) m rows
        ≡ fold with_mark m (expired_adaptors now age rows))
        → fold (expired_marked now age) (if b then with_mark marks row.adaptor else marks) rows
        ≡ fold with_mark marks (map (λ (r : Row). r.adaptor)
        (if b then row ∷ filter (is_expired now age) rows else filter (is_expired now age) rows))
    by true rest = rest (with_mark marks row.adaptor)
    by false rest = rest marks

-- the marks behind the first
marks_behind : (numbers : List ℕ) (from : ℕ) (m : Bool) (marks : List Bool)
    → AreMarks numbers from (m ∷ marks)
    → AreMarks numbers (suc from) marks
marks_behind numbers from m marks are = record {
  each = λ i within. are.each (suc i) (omega arith) ∙ ap (is_one_of numbers) (omega arith);
}

first_mark : (numbers : List ℕ) (from : ℕ) (m : Bool) (marks : List Bool)
    → AreMarks numbers from (m ∷ marks)
    → m ≡ is_one_of numbers from
first_mark numbers from m marks are = are.each 0 (omega arith)
    ∙ ap (is_one_of numbers) (omega arith)

-- the marked numbers, in turn
numbers_from : (numbers : List ℕ) (from : ℕ) (marks : List Bool) → AreMarks numbers from marks
    → marked_from from marks ≡ numbers_of numbers from (length marks)
numbers_from numbers from [] are = refl
numbers_from numbers from (m ∷ marks) are =
    ap₂ (λ b l. if b then from ∷ l else l) (first_mark numbers from m marks are)
    (numbers_from numbers (suc from) marks (marks_behind numbers from m marks are))

-- the adaptors of expired rows, by the marks that the rows make
pub expired_numbers : (now age count : ℕ) (rows : List Row) (marks : List Bool)
    → marks ≡ fold (expired_marked now age) (replicate count false) rows
    → marked_from 0 marks ≡ numbers_of (expired_adaptors now age rows) 0 count
expired_numbers now age count rows marks made =
    let gone = expired_adaptors now age rows in
    let same : marks ≡ fold with_mark (replicate count false) gone =
    made ∙ expired_marks now age (replicate count false) rows in
    let size : length marks ≡ count =
    ap length same ∙ length-marks gone (replicate count false) ∙ length-replicate count false in
    numbers_from gone 0 marks (subst (AreMarks gone 0) (sym same) (are_marks gone count))
    ∙ ap (numbers_of gone 0) size

-- one mark more at the end
marked_push : (from : ℕ) (marks : List Bool) (m : Bool)
    → marked_from from (marks ++ m ∷ []) ≡ marked_from from marks ++ cond m
    ((from + length marks) ∷ []) []
marked_push from [] m = ap (λ n. cond m (n ∷ []) []) (omega arith)
marked_push from (k ∷ marks) m =
    by k (marked_push (suc from) marks m
    ∙ ap (λ n. marked_from (suc from) marks ++ cond m (n ∷ []) []) (omega arith))
  where
    by : (b : Bool)
        → marked_from (suc from) (marks ++ m ∷ [])
        ≡ marked_from (suc from) marks ++ cond m ((from + suc (length marks)) ∷ []) []
        → cond b (from ∷ marked_from (suc from) (marks ++ m ∷ []))
        (marked_from (suc from) (marks ++ m ∷ []))
        ≡ cond b (from ∷ marked_from (suc from) marks) (marked_from (suc from) marks)
        ++ cond m ((from + suc (length marks)) ∷ []) []
    by true e = ap (λ l. from ∷ l) e
    by false e = e

pub marked_next : (marks : List Bool) (i : ℕ) (m : Bool) → i < length marks → get_or marks i false
    ≡ m
    → marked_from 0 (take (i + 1) marks) ≡ marked_from 0 (take i marks) ++ cond m (i ∷ []) []
marked_next marks i m within is =
    ap (marked_from 0) (take_more marks i false within ∙ ap (λ b. take i marks ++ b ∷ []) is)
    ∙ marked_push 0 (take i marks) m
    ∙ ap (λ n. marked_from 0 (take i marks) ++ cond m (n ∷ []) [])
    (omega (arith, length-take-le i marks (omega arith)))

-- ---- what marks keep

-- each of the numbers is below this one
abbrev pub AreBelow : ℕ → List ℕ → Type 0
AreBelow n [] = Unit {0}
AreBelow n (i ∷ numbers) = (i < n) × AreBelow n numbers

module _ (numbers : List ℕ) (marks : List Bool) (are : AreMarks numbers 0 marks) where
  here : (i : ℕ) → i < length marks → is_gone marks i ≡ is_one_of numbers i
  here i within = are.each i within ∙ ap (is_one_of numbers) (omega arith)

  pub kept_chunks : (owners : List ℕ) (chunks : List Chunk) → AreBelow (length marks) owners
      → marked (map (is_left marks) owners) chunks ≡ without_chunks numbers owners chunks
  kept_chunks [] chunks below = refl
  kept_chunks (i ∷ owners) [] below = refl
  kept_chunks (i ∷ owners) (c ∷ chunks) below =
      ap (λ b. if not b then c ∷ marked (map (is_left marks) owners) chunks
      else marked (map (is_left marks) owners) chunks)
      (here i below.0)
      ∙ by (is_one_of numbers i) (kept_chunks owners chunks below.1)
    where
      by : (b : Bool) → marked (map (is_left marks) owners) chunks
          ≡ without_chunks numbers owners chunks
          → (if not b then c ∷ marked (map (is_left marks) owners) chunks
          else marked (map (is_left marks) owners) chunks)
          ≡ (if b then without_chunks numbers owners chunks
          else c ∷ without_chunks numbers owners chunks)
      by true e = e
      by false e = ap (λ l. c ∷ l) e

  pub kept_owners : (owners : List ℕ) → AreBelow (length marks) owners
      → filter (is_left marks) owners ≡ filter (λ i. not (is_one_of numbers i)) owners
  kept_owners [] below = refl
  kept_owners (i ∷ owners) below =
      ap₂ (λ b l. if not b then i ∷ l else l) (here i below.0) (kept_owners owners below.1)

  pub kept_rows : (rows : List Row) → All (λ (row : Row). row.adaptor < length marks) rows
      → filter (is_of_kept marks) rows ≡ filter
      (λ (row : Row). not (is_one_of numbers row.adaptor)) rows
  kept_rows [] known = refl
  kept_rows (row ∷ rows) known =
      ap₂ (λ b l. if not b then row ∷ l else l) (here row.adaptor (known 0 row (omega arith)))
      (kept_rows rows (λ i other within. known (suc i) other (omega (arith, within))))

  pub any_gone : (owners : List ℕ) → AreBelow (length marks) owners
      → list_any not (map (is_left marks) owners) ≡ list_any (is_one_of numbers) owners
  any_gone [] below = refl
  any_gone (i ∷ owners) below =
      ap₂ (λ a b. a || b) (twice (is_gone marks i) ∙ here i below.0) (any_gone owners below.1)
    where
      twice : (b : Bool) → not (not b) ≡ b
      twice true = refl
      twice false = refl

-- the last ends
back_last : (numbers all : List ℕ) (from : ℕ) (marks : List Bool) (committed last : List ℕ)
    → length committed ≡ length last → length marks ≡ length last → AreMarks numbers from marks
    → ((k : ℕ) → k < length committed → slice_index all (from + k) ≡ slice_index committed k)
    → back_to (length marks) marks committed last ≡ last_back numbers all from last
back_last numbers all from [] committed [] cs ms are same = refl
back_last numbers all from [] committed (o ∷ last) cs ms are same = absurd (omega arith)
back_last numbers all from (m ∷ marks) committed [] cs ms are same = absurd (omega arith)
back_last numbers all from (m ∷ marks) [] (o ∷ last) cs ms are same = absurd (omega arith)
back_last numbers all from (m ∷ marks) (c ∷ committed) (o ∷ last) cs ms are same =
    ap₂ (λ e l. e ∷ l)
    (ap₂ (λ b k. if b then k else o) (first_mark numbers from m marks are)
    (sym (ap (slice_index all) (omega arith) ∙ same 0 (omega arith))))
    (back_last numbers all (suc from) marks committed last (omega arith) (omega arith)
    (marks_behind numbers from m marks are)
    (λ k within. ap (slice_index all) (omega arith) ∙ same (suc k) (omega arith)))

pub kept_ends : (numbers : List ℕ) (marks : List Bool) (committed last : List ℕ) → length committed
    ≡ length last
    → length marks ≡ length last → AreMarks numbers 0 marks
    → ends_back marks committed last ≡ last_back numbers committed 0 last
kept_ends numbers marks committed last cs ms are =
    back_last numbers committed 0 marks committed last cs ms are
    (λ k within. ap (slice_index committed) (omega arith))
