-- The places behind passed generations.
use Rattle.std.proofs.Common.{◌≡◌, inl, inr, ℕ, zero, suc, ◌-◌, ◌<◌, ◌≤◌, Bool, true, false, List}
use Rattle.std.proofs.Common.{[], ◌∷◌, ◌++◌, length, take, drop, get_or, nat_le, ap, sym, subst}
use Rattle.std.proofs.Common.{◌∙◌, refl, arith, if◌then◌else◌}
use Rattle.std.proofs.lemmas.Bool.{le-leb, lt-leb, cases_lt}
use Rattle.chk_tail.specs.Walks.{Spot}
use Rattle.chk_rotate.specs.Marks.{mark_at, place_of, forgotten, kept_to, BeginsBelow, RiseTo}
use Rattle.chk_rotate.specs.Marks.{last_of, newest_at}

-- how many begin at or below an offset
abbrev pub known : ℕ → List Spot → ℕ
known o marks = length (kept_to o marks)

-- one that begins at or below it, and one that doesn't
pub kept_one : (m : Spot) (marks : List Spot) (o : ℕ) → m.first ≤ o
    → kept_to o (m ∷ marks) ≡ m ∷ kept_to o marks
kept_one m marks o below = let t : nat_le m.first o ≡ true = le-leb m.first o below in rw t refl

kept_not : (m : Spot) (marks : List Spot) (o : ℕ) → o < m.first
    → kept_to o (m ∷ marks) ≡ kept_to o marks
kept_not m marks o above = let t : nat_le m.first o ≡ false = lt-leb m.first o above in rw t refl

-- behind one that doesn't none does
pub kept_none : (m : Spot) (marks : List Spot) (x o : ℕ) → RiseTo (m ∷ marks) x → o < m.first
    → kept_to o (m ∷ marks) ≡ []
kept_none m [] x o rise above = kept_not m [] o above
kept_none m (n ∷ marks) x o rise above =
    kept_not m (n ∷ marks) o above
    ∙ kept_none n marks x o rise.1 (let le = rise.0 in omega (arith, le, above))

kept_step : (m : Spot) (marks : List Spot) (x o : ℕ) → RiseTo (m ∷ marks) x
    → kept_to o marks ≡ take (known o marks) marks
    → kept_to o (m ∷ marks) ≡ take (known o (m ∷ marks)) (m ∷ marks)
kept_step m marks x o rise rest = elim (cases_lt o m.first) [
  | inl above ↦ let e = kept_none m marks x o rise above in e
      ∙ ap (λ k. take (length k) (m ∷ marks)) (sym e)
  | inr below ↦
      let e = kept_one m marks o (omega (arith, below)) in
      e ∙ (ap (λ ms. m ∷ ms) rest ∙ ap (λ k. take (length k) (m ∷ marks)) (sym e))
]

-- those that begin at or below an offset come first
pub kept_front : (marks : List Spot) (x o : ℕ) → RiseTo marks x
    → kept_to o marks ≡ take (known o marks) marks
kept_front [] x o rise = absurd rise
kept_front (m ∷ []) x o rise = kept_step m [] x o rise refl
kept_front (m ∷ n ∷ marks) x o rise =
    kept_step m (n ∷ marks) x o rise (kept_front (n ∷ marks) x o rise.1)

-- the place of an offset lies behind the last of them
pub place_at : (m : Spot) (marks : List Spot) (x o : ℕ) (d : Spot) → RiseTo (m ∷ marks) x
    → m.first ≤ o
    → mark_at marks m o ≡ get_or (m ∷ marks) (known o (m ∷ marks) - 1) d
place_at m [] x o d rise below =
    ap (λ ms. get_or (m ∷ []) (length ms - 1) d) (sym (kept_one m [] o below))
place_at m (n ∷ marks) x o d rise below = elim (cases_lt o n.first) [
  | inl above ↦
      let t : nat_le n.first o ≡ false = lt-leb n.first o above in
      let e : kept_to o (m ∷ n ∷ marks) ≡ m ∷ [] = kept_one m (n ∷ marks) o below
      ∙ ap (λ ms. m ∷ ms) (kept_none n marks x o rise.1 above) in
      ap (λ b. if b then mark_at marks n o else m) t
      ∙ ap (λ ms. get_or (m ∷ n ∷ marks) (length ms - 1) d) (sym e)
  | inr later ↦
      let on : n.first ≤ o = omega (arith, later) in
      let t : nat_le n.first o ≡ true = le-leb n.first o on in
      let e = kept_one m (n ∷ marks) o below in
      let f = kept_one n marks o on in
      let count : known o (m ∷ n ∷ marks) - 1 ≡ suc
      (known o (n ∷ marks) - 1) = let a = ap length e in let b = ap length f in
      omega (arith, a, b) in
      ap (λ b. if b then mark_at marks n o else m) t
      ∙ (place_at n marks x o d rise.1 on ∙ ap (λ i. get_or (m ∷ n ∷ marks) i d) (sym count))
]

-- those that are still needed are the last of them and the later ones
pub forgotten_rest : (marks : List Spot) (x o : ℕ) → RiseTo marks x
    → forgotten o marks ≡ drop (known o marks - 1) marks
forgotten_rest [] x o rise = absurd rise
forgotten_rest (m ∷ []) x o rise = elim (cases_lt o m.first) [
  | inl above ↦ ap (λ ms. drop (length ms - 1) (m ∷ [])) (sym (kept_not m [] o above))
  | inr below ↦ ap (λ ms. drop (length ms - 1) (m ∷ []))
      (sym (kept_one m [] o (omega (arith, below))))
]
forgotten_rest (m ∷ n ∷ marks) x o rise = elim (cases_lt o n.first) [
  | inl above ↦
      let t : nat_le n.first o ≡ false = lt-leb n.first o above in
      let e = kept_none n marks x o rise.1 above in
      let none : known o (m ∷ n ∷ marks) - 1 ≡ 0 = elim (cases_lt o m.first) [
        | inl past ↦ let a = ap length (kept_not m (n ∷ marks) o past ∙ e) in omega (arith, a)
        | inr first ↦ let a = ap length
            (kept_one m (n ∷ marks) o (omega (arith, first))) in let b = ap length e in
            omega (arith, a, b)
      ] in
      ap (λ b. if b then forgotten o (n ∷ marks) else m ∷ n ∷ marks) t
      ∙ ap (λ i. drop i (m ∷ n ∷ marks)) (sym none)
  | inr later ↦
      let on : n.first ≤ o = omega (arith, later) in
      let t : nat_le n.first o ≡ true = le-leb n.first o on in
      let le = rise.0 in
      let a = ap length (kept_one m (n ∷ marks) o (omega (arith, le, on))) in
      let b = ap length (kept_one n marks o on) in
      let count : known o (m ∷ n ∷ marks) - 1 ≡ suc
      (known o (n ∷ marks) - 1) = omega (arith, a, b) in
      ap (λ b. if b then forgotten o (n ∷ marks) else m ∷ n ∷ marks) t
      ∙ (forgotten_rest (n ∷ marks) x o rise.1 ∙ ap (λ i. drop i (m ∷ n ∷ marks)) (sym count))
]

-- what holds of both holds of either
pub either : {X : Type 0} (P : X → Type 0) (b : Bool) {x y : X} → P x → P y → P (if b then x else y)
either P true p q = p
either P false p q = q

-- ---- they rise

pub rise_more : (marks : List Spot) (x y : ℕ) → x ≤ y → RiseTo marks x → RiseTo marks y
rise_more [] x y le rise = rise
rise_more (m ∷ []) x y le rise = omega (arith, le, rise)
rise_more (m ∷ n ∷ marks) x y le rise = (rise.0, rise_more (n ∷ marks) x y le rise.1)

pub rise_push : (marks : List Spot) (n : Spot) (x y : ℕ) → RiseTo marks x → x ≤ n.first
    → n.first ≤ y → RiseTo (marks ++ n ∷ []) y
rise_push [] n x y rise on le = absurd rise
rise_push (m ∷ []) n x y rise on le = (omega (arith, rise, on), le)
rise_push (m ∷ k ∷ marks) n x y rise on le = (rise.0, rise_push (k ∷ marks) n x y rise.1 on le)

pub rise_kept : (marks : List Spot) (x o : ℕ) → RiseTo marks x → BeginsBelow o marks
    → RiseTo (kept_to o marks) o
rise_kept [] x o rise begins = absurd begins
rise_kept (m ∷ []) x o rise begins =
    subst (λ ms. RiseTo ms o) (sym (kept_one m [] o begins)) begins
rise_kept (m ∷ n ∷ marks) x o rise begins = elim (cases_lt o n.first) [
  | inl above ↦
      subst (λ ms. RiseTo ms o)
      (sym (kept_one m (n ∷ marks) o begins
      ∙ ap (λ ms. m ∷ ms) (kept_none n marks x o rise.1 above))) begins
  | inr later ↦
      let on : n.first ≤ o = omega (arith, later) in
      let e = kept_one n marks o on in
      let rest : RiseTo (n ∷ kept_to o marks) o = subst (λ ms. RiseTo ms o) e
      (rise_kept (n ∷ marks) x o rise.1 on) in
      subst (λ ms. RiseTo ms o) (sym (kept_one m (n ∷ marks) o begins ∙ ap (λ ms. m ∷ ms) e))
      (rise.0, rest)
]

pub rise_forgotten : (marks : List Spot) (x o : ℕ) → RiseTo marks x → RiseTo (forgotten o marks) x
rise_forgotten [] x o rise = rise
rise_forgotten (m ∷ []) x o rise = rise
rise_forgotten (m ∷ n ∷ marks) x o rise =
    either (λ ms. RiseTo ms x) (nat_le n.first o) (rise_forgotten (n ∷ marks) x o rise.1) rise

-- the first one begins there or below
pub first_begins : (m : Spot) (marks : List Spot) (x : ℕ) → RiseTo (m ∷ marks) x → m.first ≤ x
first_begins m [] x rise = rise
first_begins m (n ∷ marks) x rise =
    let le = rise.0 in
    let rest = first_begins n marks x rise.1 in omega (arith, le, rest)

-- the oldest ones rise too
pub rise_front : (marks : List Spot) (k x : ℕ) → RiseTo marks x → RiseTo (take (suc k) marks) x
rise_front [] k x rise = rise
rise_front (m ∷ marks) zero x rise = first_begins m marks x rise
rise_front (m ∷ []) (suc k) x rise = rise
rise_front (m ∷ n ∷ marks) (suc k) x rise = (rise.0, rise_front (n ∷ marks) k x rise.1)

-- they rise to whatever the last one doesn't begin above
pub rise_to : (marks : List Spot) (o x y : ℕ) → RiseTo marks x → (newest_at marks o).first ≤ y
    → RiseTo marks y
rise_to [] o x y rise le = rise
rise_to (m ∷ []) o x y rise le = le
rise_to (m ∷ n ∷ marks) o x y rise le = (rise.0, rise_to (n ∷ marks) o x y rise.1 le)

-- ---- the newest one

-- it begins where it begins, whichever offset is asked for
pub newest_first : (marks : List Spot) (o y : ℕ)
    → (newest_at marks o).first ≡ (newest_at marks y).first
newest_first [] o y = refl
newest_first (m ∷ marks) o y = refl

pub newest_begins : (marks : List Spot) (o x : ℕ) → RiseTo marks x → (newest_at marks o).first ≤ x
newest_begins [] o x rise = absurd rise
newest_begins (m ∷ []) o x rise = rise
newest_begins (m ∷ n ∷ marks) o x rise = newest_begins (n ∷ marks) o x rise.1

pub newest_index : (m : Spot) (marks : List Spot) (d : Spot)
    → last_of m marks ≡ get_or (m ∷ marks) (length (m ∷ marks) - 1) d
newest_index m [] d = refl
newest_index m (n ∷ marks) d =
    newest_index n marks d
    ∙ ap (λ i. get_or (m ∷ n ∷ marks) i d)
    (let z : suc (length (n ∷ marks) - 1) ≡ length (m ∷ n ∷ marks) - 1 = omega arith in z)

pub newest_push : (marks : List Spot) (n : Spot) (o : ℕ)
    → newest_at (marks ++ n ∷ []) o ≡ record n { offset = o }
newest_push [] n o = refl
newest_push (m ∷ []) n o = refl
newest_push (m ∷ k ∷ marks) n o = newest_push (k ∷ marks) n o

pub newest_forgotten : (marks : List Spot) (o y : ℕ)
    → newest_at (forgotten o marks) y ≡ newest_at marks y
newest_forgotten [] o y = refl
newest_forgotten (m ∷ []) o y = refl
newest_forgotten (m ∷ n ∷ marks) o y =
    either (λ ms. newest_at ms y ≡ newest_at (m ∷ n ∷ marks) y) (nat_le n.first o)
    (newest_forgotten (n ∷ marks) o y) refl

pub newest_kept : (marks : List Spot) (x o : ℕ) → RiseTo marks x → BeginsBelow o marks
    → newest_at (kept_to o marks) o ≡ place_of marks o
newest_kept [] x o rise begins = absurd begins
newest_kept (m ∷ []) x o rise begins = ap (λ ms. newest_at ms o) (kept_one m [] o begins)
newest_kept (m ∷ n ∷ marks) x o rise begins = elim (cases_lt o n.first) [
  | inl above ↦
      let t : nat_le n.first o ≡ false = lt-leb n.first o above in
      ap (λ ms. newest_at ms o)
      (kept_one m (n ∷ marks) o begins ∙ ap (λ ms. m ∷ ms) (kept_none n marks x o rise.1 above))
      ∙ ap (λ b. record (if b then mark_at marks n o else m) { offset = o }) (sym t)
  | inr later ↦
      let on : n.first ≤ o = omega (arith, later) in
      let t : nat_le n.first o ≡ true = le-leb n.first o on in
      let e = kept_one n marks o on in
      ap (λ ms. newest_at ms o) (kept_one m (n ∷ marks) o begins ∙ ap (λ ms. m ∷ ms) e)
      ∙ (ap (λ ms. newest_at ms o) (sym e)
      ∙ (newest_kept (n ∷ marks) x o rise.1 on
      ∙ ap (λ b. record (if b then mark_at marks n o else m) { offset = o }) (sym t)))
]
