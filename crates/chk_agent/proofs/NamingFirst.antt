-- The least default name that is free is found by one pass.
use Rattle.std.proofs.Common.{◌≡◌, ◌⊎◌, inl, inr, ℕ, zero, suc, ◌+◌, ◌≤◌, ◌<◌, ◌^◌, Bool, true}
use Rattle.std.proofs.Common.{false, not, ◌&&◌, List, [], ◌∷◌, ◌++◌, length, take, drop, bytes_eq}
use Rattle.std.proofs.Common.{Option, Some, None, ap, sym, subst, ◌∙◌, refl, arith, true≢false}
use Rattle.std.proofs.Common.{if◌then◌else◌, length-append, decimal}
use Rattle.std.specs.Prelude.{IsTrue, codes, replicate, position, slice_get, slice_set}
use Rattle.std.specs.Prelude.{option_and_then, nat_le}
use Rattle.std.specs.List.{position_from}
use Rattle.std.proofs.lemmas.Bool.{and_from, le-leb}
use Rattle.std.proofs.lemmas.Fmt.{length-decimal-le}
use Rattle.std.proofs.lemmas.Option.{same_Some, none-some}
use Rattle.std.proofs.lemmas.List.{take-append-drop}
use Rattle.std.proofs.lemmas.Iterator.Adapters.{position_from-zero}
use Rattle.chk_bytes.specs.Words.{is_word}
use Rattle.chk_bytes.specs.Numbers.{plain_number, limit}
use Rattle.chk_bytes.proofs.DecimalLemmas.{plain_number-decimal, plain_number-Some}
use Rattle.chk_bytes.proofs.StemLemmas.{decimal_plain}
use Rattle.chk_bytes.proofs.WordLemmas.{plain-append, plain_word}
use Rattle.chk_control.specs.Lines.{is_name}
use Rattle.chk_world.proofs.Ends.{bytes_same, bytes_self}
use Rattle.chk_agent_adaptor.specs.Adaptors.{Adaptor, is_past}
use Rattle.chk_agent.specs.States.{State}
use Rattle.chk_agent.specs.Adds.{default_name, named_in, IsNameFor}
use Rattle.chk_agent.specs.DefaultNames.{number_in, name_number, marked_one, marked, unmarked}
use Rattle.chk_agent.specs.DefaultNames.{IsLeastFree}
use Rattle.chk_agent.proofs.Soundness.{below_at}
use Rattle.chk_agent.proofs.AddingNames.{free_first}
use Rattle.chk_agent.proofs.AddingPast.{other, here, at_set, set_size}

-- ---- a default name and its number

named_by : (name : List ℕ) (n : ℕ) → number_in name ≡ Some n → name ≡ default_name n
named_by name n e = go (bytes_eq (take (length (codes "adaptor_")) name) (codes "adaptor_")) refl e
  where
    go : (b : Bool) → bytes_eq (take (length (codes "adaptor_")) name) (codes "adaptor_") ≡ b
        → option_and_then plain_number (if b then Some (drop (length (codes "adaptor_")) name) else None) ≡ Some n
        → name ≡ default_name n
    go true same e =
        let first = bytes_same (take (length (codes "adaptor_")) name) (codes "adaptor_") same in
        let rest = (plain_number-Some (drop (length (codes "adaptor_")) name) n e).0 in
        sym (take-append-drop (length (codes "adaptor_")) name) ∙ (λ i. first i ++ sym rest i)
    go false same e = absurd (none-some n e)

read_back : (n : ℕ) → n < limit → number_in (default_name n) ≡ Some n
read_back n small = plain_number-decimal n small

pub word_name : (n : ℕ) → n < 2 ^ 64 → IsTrue (is_word (default_name n))
word_name n small =
    let short = length-decimal-le 20 n (omega arith) (omega arith) small in
    let size = length-append (codes "adaptor_") (decimal n) in
    plain_word (default_name n) (plain-append (codes "adaptor_") (decimal n) refl (decimal_plain n small)) (omega (arith, size))
    (omega (arith, short, size))

pub good_name : (n : ℕ) → n < 2 ^ 64 → IsTrue (is_name (default_name n))
good_name n small =
    let short = length-decimal-le 20 n (omega arith) (omega arith) small in
    let size = length-append (codes "adaptor_") (decimal n) in
    and_from (nat_le (length (default_name n)) 64 && not (bytes_eq (default_name n) (codes "="))) (is_word (default_name n))
    (and_from (nat_le (length (default_name n)) 64) (not (bytes_eq (default_name n) (codes "=")))
    (le-leb (length (default_name n)) 64 (omega (arith, short, size))) refl) (word_name n small)

-- one that takes the number has the name and isn't past
takes : (a : Adaptor) (n : ℕ) → name_number a ≡ Some n → (not (is_past a.phase) && bytes_eq a.name (default_name n)) ≡ true
takes a n e = go (is_past a.phase) e
  where
    go : (b : Bool) → (if b then None else number_in a.name) ≡ Some n → (not b && bytes_eq a.name (default_name n)) ≡ true
    go true e = absurd (none-some n e)
    go false e = ap (λ name. bytes_eq name (default_name n)) (named_by a.name n e) ∙ bytes_self (default_name n)

taken_by : (a : Adaptor) (n : ℕ) → n < limit → (not (is_past a.phase) && bytes_eq a.name (default_name n)) ≡ true
    → name_number a ≡ Some n
taken_by a n small e = go (is_past a.phase) e
  where
    go : (b : Bool) → (not b && bytes_eq a.name (default_name n)) ≡ true → (if b then None else number_in a.name) ≡ Some n
    go true e = absurd (true≢false (sym e))
    go false e = ap number_in (bytes_same a.name (default_name n) e) ∙ read_back n small

-- ---- the marks

pub set_past : {X : Type 0} (xs : List X) (n : ℕ) (y : X) → length xs ≤ n → slice_set xs n y ≡ xs
set_past [] n y past = refl
set_past (x ∷ xs) zero y past = absurd (let z : ⊥ = omega (arith, past) in z)
set_past (x ∷ xs) (suc n) y past = ap (λ ys. x ∷ ys) (set_past xs n y (omega (arith, past)))

set_here : {X : Type 0} (xs : List X) (n : ℕ) (y x : X) → slice_get (slice_set xs n y) n ≡ Some x → y ≡ x
set_here [] n y x at = absurd (none-some x at)
set_here (z ∷ xs) zero y x at = same_Some y x at
set_here (z ∷ xs) (suc n) y x at = set_here xs n y x at

one_size : (taken : List Bool) (o : Option ℕ) → length (marked_one taken o) ≡ length taken
one_size taken None = refl
one_size taken (Some n) = set_size taken n true

marked_size : (adaptors : List Adaptor) (taken : List Bool) → length (marked taken adaptors) ≡ length taken
marked_size [] taken = refl
marked_size (a ∷ adaptors) taken = marked_size adaptors (marked_one taken (name_number a)) ∙ one_size taken (name_number a)

-- a number that is marked then was marked before, or is taken
marks_taken : (adaptors : List Adaptor) (taken : List Bool) (k i : ℕ) → slice_get (marked taken adaptors) k ≡ Some true
    → (slice_get taken k ≡ Some true) ⊎ (named_in (default_name k) i adaptors ≡ None → ⊥)
marks_taken [] taken k i at = inl at
marks_taken (a ∷ adaptors) taken k i at = elim (marks_taken adaptors (marked_one taken (name_number a)) k (i + 1) at) [
  | inl before ↦ go (name_number a) refl before
  | inr later ↦ inr (λ none. later (free_first (default_name k) i a adaptors none).1)
]
  where
    go : (o : Option ℕ) → name_number a ≡ o → slice_get (marked_one taken o) k ≡ Some true
        → (slice_get taken k ≡ Some true) ⊎ (named_in (default_name k) i (a ∷ adaptors) ≡ None → ⊥)
    go None is at = inl at
    go (Some n) is at = elim (at_set taken n true k true at) [
      | other e ↦ inl e
      | here e f ↦ inr (λ none.
          true≢false (sym (takes a k (is ∙ ap Some (sym e))) ∙ (free_first (default_name k) i a adaptors none).0))
    ]

-- one that isn't marked then wasn't before, and isn't taken
unmarked_free : (adaptors : List Adaptor) (taken : List Bool) (k i : ℕ) → k < limit → slice_get (marked taken adaptors) k ≡ Some false
    → (slice_get taken k ≡ Some false) × (named_in (default_name k) i adaptors ≡ None)
unmarked_free [] taken k i small at = (at, refl)
unmarked_free (a ∷ adaptors) taken k i small at =
    let r = unmarked_free adaptors (marked_one taken (name_number a)) k (i + 1) small at in
    (before (name_number a) r.0, free (not (is_past a.phase) && bytes_eq a.name (default_name k)) refl r.0 r.1)
  where
    before : (o : Option ℕ) → slice_get (marked_one taken o) k ≡ Some false → slice_get taken k ≡ Some false
    before None at = at
    before (Some n) at = elim (at_set taken n true k false at) [ other e ↦ e | here e f ↦ absurd (true≢false f) ]

    free : (b : Bool) → (not (is_past a.phase) && bytes_eq a.name (default_name k)) ≡ b
        → slice_get (marked_one taken (name_number a)) k ≡ Some false → named_in (default_name k) (i + 1) adaptors ≡ None
        → (if b then Some i else named_in (default_name k) (i + 1) adaptors) ≡ None
    free false is at none = none
    free true is at none =
        absurd (true≢false (set_here taken k true false
        (subst (λ o. slice_get (marked_one taken o) k ≡ Some false) (taken_by a k small is) at)))

-- ---- one is free

abbrev free_count : List Bool → ℕ
free_count [] = 0
free_count (true ∷ taken) = free_count taken
free_count (false ∷ taken) = suc (free_count taken)

set_count : (taken : List Bool) (n : ℕ) → free_count taken ≤ suc (free_count (slice_set taken n true))
set_count [] n = omega arith
set_count (true ∷ taken) zero = omega arith
set_count (false ∷ taken) zero = omega arith
set_count (true ∷ taken) (suc n) = set_count taken n
set_count (false ∷ taken) (suc n) = let h = set_count taken n in omega (arith, h)

one_count : (taken : List Bool) (o : Option ℕ) → free_count taken ≤ suc (free_count (marked_one taken o))
one_count taken None = omega arith
one_count taken (Some n) = set_count taken n

marked_count : (adaptors : List Adaptor) (taken : List Bool)
    → free_count taken ≤ length adaptors + free_count (marked taken adaptors)
marked_count [] taken = omega arith
marked_count (a ∷ adaptors) taken =
    let h = marked_count adaptors (marked_one taken (name_number a)) in
    let k = one_count taken (name_number a) in
    omega (arith, h, k)

unmarked_count : (n : ℕ) → free_count (replicate n false) ≡ n
unmarked_count zero = refl
unmarked_count (suc n) = ap suc (unmarked_count n)

none_left : (taken : List Bool) (i : ℕ) → position_from not i taken ≡ None → free_count taken ≡ 0
none_left [] i e = refl
none_left (true ∷ taken) i e = none_left taken (i + 1) e
none_left (false ∷ taken) i e = absurd (none-some i (sym e))

pub one_free : (adaptors : List Adaptor) → position not (marked (unmarked (length adaptors)) adaptors) ≡ None → ⊥
one_free adaptors e =
    let taken = marked (unmarked (length adaptors)) adaptors in
    let none = none_left taken 0 (sym (position_from-zero not taken) ∙ e) in
    let most = marked_count adaptors (unmarked (length adaptors)) in
    let all = unmarked_count (length adaptors + 1) in
    let z : ⊥ = omega (arith, none, most, all) in z

-- ---- the first that is free

record IsFirst (taken : List Bool) (i n : ℕ) : Type 0 where
  place : ℕ
  is : n ≡ i + place
  at : slice_get taken place ≡ Some false
  before : (j : ℕ) → j < place → slice_get taken j ≡ Some true

first_at : (taken : List Bool) (i n : ℕ) → position_from not i taken ≡ Some n → IsFirst taken i n
first_at [] i n e = absurd (none-some n e)
first_at (true ∷ taken) i n e =
    let r = first_at taken (i + 1) n e in
    let is = r.is in
    record { place = suc r.place; is = omega (arith, is); at = r.at; before = before r }
  where
    before : (r : IsFirst taken (i + 1) n) → (j : ℕ) → j < suc r.place → slice_get (true ∷ taken) j ≡ Some true
    before r zero below = refl
    before r (suc j) below = r.before j (omega (arith, below))
first_at (false ∷ taken) i n e =
    let is = same_Some i n e in
    record { place = 0; is = omega (arith, is); at = refl; before = λ j below. absurd (let z : ⊥ = omega (arith, below) in z) }

all_false : (n k : ℕ) → slice_get (replicate n false) k ≡ Some true → ⊥
all_false zero k at = none-some true at
all_false (suc n) zero at = true≢false (sym (same_Some false true at))
all_false (suc n) (suc k) at = all_false n k at

pub least_free : (adaptors : List Adaptor) → length adaptors ≤ 10000 → (n : ℕ)
    → position not (marked (unmarked (length adaptors)) adaptors) ≡ Some n → IsLeastFree adaptors n
least_free adaptors few n e =
    let taken = marked (unmarked (length adaptors)) adaptors in
    let f = first_at taken 0 n (sym (position_from-zero not taken) ∙ e) in
    let is : f.place ≡ n = (let is = f.is in omega (arith, is)) in
    let at : slice_get taken n ≡ Some false = subst (λ k. slice_get taken k ≡ Some false) is f.at in
    let below = below_at taken n false at in
    let size = marked_size adaptors (unmarked (length adaptors)) in
    let many = replicate_size (length adaptors + 1) in
    let small : n < 2 ^ 63 = omega (arith, below, size, many, few) in
    let r = unmarked_free adaptors (unmarked (length adaptors)) n 0 small at in
    record {
      some = not_zero n r.0;
      free = r.1;
      least = λ k some less none.
          elim (marks_taken adaptors (unmarked (length adaptors)) k 0
          (f.before k (let is = is in omega (arith, less, is)))) [ inl old ↦ not_marked k some old | inr taken ↦ taken none ];
    }
  where
    replicate_size : (n : ℕ) → length (replicate n false) ≡ n
    replicate_size zero = refl
    replicate_size (suc n) = ap suc (replicate_size n)

    not_zero : (n : ℕ) → slice_get (unmarked (length adaptors)) n ≡ Some false → 0 < n
    not_zero zero at = absurd (true≢false (same_Some true false at))
    not_zero (suc n) at = omega arith

    not_marked : (k : ℕ) → 0 < k → slice_get (unmarked (length adaptors)) k ≡ Some true → ⊥
    not_marked zero some at = let z : ⊥ = omega (arith, some) in z
    not_marked (suc k) some at = all_false (length adaptors + 1) k at

pub name_for : (s : State) (adaptors : List Adaptor) (n : ℕ) → adaptors ≡ s.adaptors → IsLeastFree adaptors n → (name : List ℕ)
    → name ≡ default_name n → IsNameFor s None name
name_for s adaptors n same least name is =
    let h = subst (λ xs. IsLeastFree xs n) same least in (n, h.some, is, subst (λ m. named_in m 0 s.adaptors ≡ None) (sym is) h.free, h.least)

-- there is a name for each `add`
pub a_name : (s : State) → length s.adaptors ≤ 10000 → (given : Option (List ℕ))
    → (name : List ℕ) × IsNameFor s given name
a_name s few (Some name) = (name, refl)
a_name s few None = go (position not (marked (unmarked (length s.adaptors)) s.adaptors)) refl
  where
    go : (o : Option ℕ) → position not (marked (unmarked (length s.adaptors)) s.adaptors) ≡ o
        → (name : List ℕ) × IsNameFor s None name
    go None e = absurd (one_free s.adaptors e)
    go (Some n) e = (
      default_name n,
      name_for s s.adaptors n refl (least_free s.adaptors few n e) (default_name n) refl,
    )
