-- Adaptors that go back: what becomes of each of them, and that their lines stay.
use Rattle.std.proofs.Common.{◌≡◌, inl, inr, ℕ, zero, suc, ◌+◌, ◌≤◌, ◌<◌, Bool, true, false, ◌||◌}
use Rattle.std.proofs.Common.{◌==◌, not, List, [], ◌∷◌, ◌++◌, length, take, map, Some, ap, sym, ◌∙◌}
use Rattle.std.proofs.Common.{refl, arith, nat_le, eqb-true, eq-eqb, if◌then◌else◌}
use Rattle.std.specs.Prelude.{slice_get, slice_index, slice_set}
use Rattle.std.proofs.lemmas.Bool.{le-leb, lt-leb, cases_lt}
use Rattle.std.proofs.lemmas.Option.{same_Some, none-some}
use Rattle.chk_tail.specs.Walks.{Spot}
use Rattle.chk_rotate.specs.Marks.{mark_at, place_of, kept_to, BeginsBelow, RiseTo}
use Rattle.chk_rotate.proofs.MarkLemmas.{kept_one, kept_none}
use Rattle.chk_agent_adaptor.specs.declared.adaptor.Phase.{Phase}
use Rattle.chk_agent_adaptor.specs.declared.adaptor.Phase.TheVariants.{Live, Stopping, Shrank, Past}
use Rattle.chk_agent_adaptor.specs.Adaptors.{Adaptor, is_past, line_at, stream_at, sent_back, phase_back}
use Rattle.chk_agent_adaptor.specs.Adaptors.{IsPlaced}
use Rattle.chk_agent_delivery.specs.Turns.{is_one_of}
use Rattle.chk_agent.specs.States.{lines_at}
use Rattle.chk_agent.specs.Settles.{all_back}
use Rattle.chk_agent.specs.Within.{Rising}

-- what becomes of one
abbrev pub back_one : List ℕ → List ℕ → ℕ → Adaptor → Adaptor
back_one gone committed i a = if is_one_of gone i then sent_back (slice_index committed i) a else a

pub back_at : (gone committed : List ℕ) (xs : List Adaptor) (i j k : ℕ) (a : Adaptor) → k ≡ i + j
    → slice_get (all_back gone committed i xs) j ≡ Some a
    → (x : Adaptor) × (slice_get xs j ≡ Some x) × (a ≡ back_one gone committed k x)
back_at gone committed [] i j k a is e = absurd (none-some a e)
back_at gone committed (x ∷ xs) i zero k a is e =
    let same : i ≡ k = omega (arith, is) in (x, refl, sym (same_Some _ a e) ∙ ap (λ k. back_one gone committed k x) same)
back_at gone committed (x ∷ xs) i (suc j) k a is e = back_at gone committed xs (suc i) j k a (omega (arith, is)) e

pub back_to : (gone committed : List ℕ) (xs : List Adaptor) (i j k : ℕ) (x : Adaptor) → k ≡ i + j → slice_get xs j ≡ Some x
    → slice_get (all_back gone committed i xs) j ≡ Some (back_one gone committed k x)
back_to gone committed [] i j k x is e = absurd (none-some x e)
back_to gone committed (y ∷ xs) i zero k x is e =
    let same : i ≡ k = omega (arith, is) in
    ap (λ x. Some (back_one gone committed i x)) (same_Some y x e) ∙ ap (λ k. Some (back_one gone committed k x)) same
back_to gone committed (y ∷ xs) i (suc j) k x is e = back_to gone committed xs (suc i) j k x (omega (arith, is)) e

pub back_size : (gone committed : List ℕ) (i : ℕ) (xs : List Adaptor) → length (all_back gone committed i xs) ≡ length xs
back_size gone committed i [] = refl
back_size gone committed i (x ∷ xs) = ap suc (back_size gone committed (suc i) xs)

-- ---- one more of them

one_more : (gone : List ℕ) (x k : ℕ) → is_one_of (gone ++ x ∷ []) k ≡ (is_one_of gone k || (x == k))
one_more [] x k = other (x == k)
  where
    other : (b : Bool) → (b || false) ≡ b
    other true = refl
    other false = refl
one_more (g ∷ gone) x k = go (g == k) (is_one_of (gone ++ x ∷ []) k) (is_one_of gone k) (x == k) (one_more gone x k)
  where
    go : (b c d e : Bool) → c ≡ (d || e) → (b || c) ≡ ((b || d) || e)
    go true c d e same = refl
    go false c d e same = same

back_other : (gone committed : List ℕ) (x i : ℕ) (xs : List Adaptor) → x < i
    → all_back (gone ++ x ∷ []) committed i xs ≡ all_back gone committed i xs
back_other gone committed x i [] below = refl
back_other gone committed x i (a ∷ xs) below =
    ap (λ b. (if b then sent_back (slice_index committed i) a else a) ∷ all_back (gone ++ x ∷ []) committed (suc i) xs)
    (one_more gone x i ∙ same (is_one_of gone i) (x == i) (λ e. let z : x ≡ i = eqb-true x i e in omega (arith, z, below)))
    ∙ ap (λ rest. back_one gone committed i a ∷ rest) (back_other gone committed x (suc i) xs (omega (arith, below)))
  where
    same : (b c : Bool) → (c ≡ true → ⊥) → (b || c) ≡ b
    same true c other = refl
    same false true other = absurd (other refl)
    same false false other = refl

pub back_more : (gone committed : List ℕ) (x i : ℕ) (xs : List Adaptor) (j : ℕ) (a : Adaptor) → slice_get xs j ≡ Some a → x ≡ i + j
    → is_one_of gone x ≡ false
    → slice_set (all_back gone committed i xs) j (sent_back (slice_index committed x) a) ≡ all_back (gone ++ x ∷ []) committed i xs
back_more gone committed x i [] j a e is new = absurd (none-some a e)
back_more gone committed x i (y ∷ xs) zero a e is new =
    let same : x ≡ i = omega (arith, is) in
    ap (λ a. sent_back (slice_index committed x) a ∷ all_back gone committed (suc i) xs) (sym (same_Some y a e))
    ∙ (ap (λ k. sent_back (slice_index committed k) y ∷ all_back gone committed (suc i) xs) same
    ∙ (ap (λ b. (if b then sent_back (slice_index committed i) y else y) ∷ all_back gone committed (suc i) xs)
    (sym (one_more gone x i ∙ either (is_one_of gone i) (x == i) (eq-eqb x i same)))
    ∙ ap (λ rest. back_one (gone ++ x ∷ []) committed i y ∷ rest) (sym (back_other gone committed x (suc i) xs (omega (arith, same))))))
  where
    either : (b c : Bool) → c ≡ true → (b || c) ≡ true
    either true c e = refl
    either false c e = e
back_more gone committed x i (y ∷ xs) (suc j) a e is new =
    ap (λ b. (if b then sent_back (slice_index committed i) y else y)
    ∷ slice_set (all_back gone committed (suc i) xs) j (sent_back (slice_index committed x) a))
    (sym (one_more gone x i ∙ same (is_one_of gone i) (x == i) (λ e. let z : x ≡ i = eqb-true x i e in omega (arith, z, is))))
    ∙ ap (λ rest. back_one (gone ++ x ∷ []) committed i y ∷ rest) (back_more gone committed x (suc i) xs j a e (omega (arith, is)) new)
  where
    same : (b c : Bool) → (c ≡ true → ⊥) → (b || c) ≡ b
    same true c other = refl
    same false true other = absurd (other refl)
    same false false other = refl

-- ---- no number comes twice

rising_from : (low : ℕ) (gone : List ℕ) (k : ℕ) → Rising low gone → k < length gone → low ≤ slice_index gone k
rising_from low [] k rise below = absurd (let z : ⊥ = omega (arith, below) in z)
rising_from low (g ∷ gone) zero rise below = rise.0
rising_from low (g ∷ gone) (suc k) rise below =
    let later = rising_from (suc g) gone k rise.1 (omega (arith, below)) in let first = rise.0 in omega (arith, later, first)

pub not_before : (low : ℕ) (gone : List ℕ) (k : ℕ) → Rising low gone → k < length gone → is_one_of (take k gone) (slice_index gone k) ≡ false
not_before low gone zero rise below = refl
not_before low [] (suc k) rise below = absurd (let z : ⊥ = omega (arith, below) in z)
not_before low (g ∷ gone) (suc k) rise below =
    let later = rising_from (suc g) gone k rise.1 (omega (arith, below)) in
    go (g == slice_index gone k) (is_one_of (take k gone) (slice_index gone k))
    (λ e. let z : g ≡ slice_index gone k = eqb-true g (slice_index gone k) e in omega
    (arith, z, later))
    (not_before (suc g) gone k rise.1 (omega (arith, below)))
  where
    go : (b c : Bool) → (b ≡ true → ⊥) → c ≡ false → (b || c) ≡ false
    go true c other e = absurd (other refl)
    go false c other e = e

-- ---- the lines stay

mark_kept : (marks : List Spot) (m : Spot) (x o : ℕ) → RiseTo (m ∷ marks) x → mark_at (kept_to o marks) m o ≡ mark_at marks m o
mark_kept [] m x o rise = refl
mark_kept (n ∷ marks) m x o rise = elim (cases_lt o n.first) [
  | inl above ↦
      let t : nat_le n.first o ≡ false = lt-leb n.first o above in
      ap (λ ms. mark_at ms m o) (kept_none n marks x o rise.1 above) ∙ ap (λ b. if b then mark_at marks n o else m) (sym t)
  | inr below ↦
      let on : n.first ≤ o = omega (arith, below) in
      let t : nat_le n.first o ≡ true = le-leb n.first o on in
      ap (λ ms. mark_at ms m o) (kept_one n marks o on)
      ∙ (ap (λ b. if b then mark_at (kept_to o marks) n o else m) t
      ∙ (mark_kept marks n x o rise.1 ∙ ap (λ b. if b then mark_at marks n o else m) (sym t)))
]

pub place_kept : (marks : List Spot) (x o : ℕ) → RiseTo marks x → BeginsBelow o marks → place_of (kept_to o marks) o ≡ place_of marks o
place_kept [] x o rise from = absurd from
place_kept (m ∷ marks) x o rise from =
    ap (λ ms. place_of ms o) (kept_one m marks o from) ∙ ap (λ (m : Spot). record m { offset = o }) (mark_kept marks m x o rise)

still_there : (p : Phase) → not (is_past (phase_back p)) ≡ not (is_past p)
still_there Live = refl
still_there (Stopping end) = refl
still_there Shrank = refl
still_there Past = refl

pub line_back : (o : ℕ) (a : Adaptor) → RiseTo a.marks a.read.offset → BeginsBelow o a.marks → line_at o (sent_back o a) ≡ line_at o a
line_back o a rise from =
    let place = place_kept a.marks a.read.offset o rise from in
    ap (λ live. record (line_at o (sent_back o a)) { live = live }) (still_there a.phase)
    ∙ ap (λ (p : Spot). record (line_at o a) { first = p.first; after = p.after }) place

-- all adaptors are placed
abbrev pub ArePlaced : List Adaptor → Type 0
ArePlaced xs = (i : ℕ) (a : Adaptor) → slice_get xs i ≡ Some a → IsPlaced a

pub lines_back : (gone committed : List ℕ) (i : ℕ) (xs : List Adaptor) (ends : List ℕ) → ArePlaced xs
    → ((j : ℕ) (a : Adaptor) → slice_get xs j ≡ Some a → BeginsBelow (slice_index ends j) a.marks)
    → ((j : ℕ) → j < length ends → slice_index ends j ≡ slice_index committed (i + j))
    → length xs ≤ length ends
    → lines_at (all_back gone committed i xs) ends ≡ lines_at xs ends
lines_back gone committed i [] ends placed from same few = refl
lines_back gone committed i (a ∷ xs) [] placed from same few = absurd (let z : ⊥ = omega (arith, few) in z)
lines_back gone committed i (a ∷ xs) (o ∷ ends) placed from same few =
    ap (λ l. l ∷ lines_at (all_back gone committed (suc i) xs) ends) (one (is_one_of gone i))
    ∙ ap (λ rest. line_at o a ∷ rest) (lines_back gone committed (suc i) xs ends (λ j b e. placed (suc j) b e) (λ j b e. from (suc j) b e)
    (λ j below. same (suc j) (omega (arith, below)) ∙ ap (slice_index committed) (let z : i + suc j ≡ suc i + j = omega arith in z)) (omega (arith, few)))
  where
    end : o ≡ slice_index committed i
    end = same 0 (omega arith) ∙ ap (slice_index committed) (let z : i + 0 ≡ i = omega arith in z)

    one : (b : Bool) → line_at o (if b then sent_back (slice_index committed i) a else a) ≡ line_at o a
    one true = ap (λ k. line_at o (sent_back k a)) (sym end) ∙ line_back o a (placed 0 a refl).rises (from 0 a refl)
    one false = refl

-- the streams stay
pub streams_back : (source : List ℕ) (gone committed : List ℕ) (i : ℕ) (xs : List Adaptor)
    → map (stream_at source) (all_back gone committed i xs) ≡ map (stream_at source) xs
streams_back source gone committed i [] = refl
streams_back source gone committed i (a ∷ xs) =
    ap (λ t. t ∷ map (stream_at source) (all_back gone committed (suc i) xs)) (one (is_one_of gone i))
    ∙ ap (λ rest. stream_at source a ∷ rest) (streams_back source gone committed (suc i) xs)
  where
    one : (b : Bool) → stream_at source (if b then sent_back (slice_index committed i) a else a) ≡ stream_at source a
    one true = refl
    one false = refl

-- ---- the loop over those that go back

pub none_back : (committed : List ℕ) (i : ℕ) (xs : List Adaptor) → all_back [] committed i xs ≡ xs
none_back committed i [] = refl
none_back committed i (a ∷ xs) = ap (λ rest. a ∷ rest) (none_back committed (suc i) xs)

take_next : (xs : List ℕ) (p : ℕ) → p < length xs → take (p + 1) xs ≡ take p xs ++ slice_index xs p ∷ []
take_next [] p below = absurd (let z : ⊥ = omega (arith, below) in z)
take_next (x ∷ xs) zero below = refl
take_next (x ∷ xs) (suc p) below =
    ap (λ k. take k (x ∷ xs)) (let z : suc p + 1 ≡ suc (p + 1) = omega arith in z) ∙ ap (λ ys. x ∷ ys) (take_next xs p (omega (arith, below)))

-- a number past the last adaptor
back_past : (gone committed : List ℕ) (x i : ℕ) (xs : List Adaptor) → i + length xs ≤ x
    → all_back (gone ++ x ∷ []) committed i xs ≡ all_back gone committed i xs
back_past gone committed x i [] past = refl
back_past gone committed x i (a ∷ xs) past =
    ap (λ b. (if b then sent_back (slice_index committed i) a else a) ∷ all_back (gone ++ x ∷ []) committed (suc i) xs)
    (one_more gone x i ∙ same (is_one_of gone i) (x == i) (λ e. let z : x ≡ i = eqb-true x i e in omega (arith, z, past)))
    ∙ ap (λ rest. back_one gone committed i a ∷ rest) (back_past gone committed x (suc i) xs (omega (arith, past)))
  where
    same : (b c : Bool) → (c ≡ true → ⊥) → (b || c) ≡ b
    same true c other = refl
    same false true other = absurd (other refl)
    same false false other = refl

module _ (gone committed : List ℕ) (rising : Rising 0 gone) (xs now : List Adaptor) (p : ℕ) (more : p < length gone)
    (so_far : now ≡ all_back (take p gone) committed 0 xs) where
  abbrev X : ℕ
  X = slice_index gone p

  -- the next one has not gone back yet
  pub before_back : (a : Adaptor) → slice_get now X ≡ Some a → slice_get xs X ≡ Some a
  before_back a at =
      let r = back_at (take p gone) committed xs 0 X X a (omega arith) (ap (λ ys. slice_get ys X) (sym so_far) ∙ at) in
      r.1 ∙ ap (λ y. Some y) (sym (r.2 ∙ ap (λ b. if b then sent_back (slice_index committed X) r.0 else r.0) (not_before 0 gone p rising more)))

  pub went_back : (a : Adaptor) → slice_get now X ≡ Some a
      → slice_set now X (sent_back (slice_index committed X) a) ≡ all_back (take (p + 1) gone) committed 0 xs
  went_back a at =
      ap (λ ys. slice_set ys X (sent_back (slice_index committed X) a)) so_far
      ∙ (back_more (take p gone) committed X 0 xs X a (before_back a at) (omega arith) (not_before 0 gone p rising more)
      ∙ ap (λ g. all_back g committed 0 xs) (sym (take_next gone p more)))

  pub none_there : length now ≤ X → now ≡ all_back (take (p + 1) gone) committed 0 xs
  none_there past =
      let size : length now ≡ length xs = ap length so_far ∙ back_size (take p gone) committed 0 xs in
      so_far ∙ (sym (back_past (take p gone) committed X 0 xs (omega (arith, size, past)))
      ∙ ap (λ g. all_back g committed 0 xs) (sym (take_next gone p more)))
