-- A step of a reader takes as much as may be taken.
use Rattle.std.proofs.Common.{◌≡◌, ◌≢◌, ◌⊎◌, inl, inr, ℕ, zero, suc, ◌+◌, ◌-◌, ◌*◌, ◌≤◌, ◌<◌, Bool}
use Rattle.std.proofs.Common.{true, false, List, [], ◌∷◌, length, take, drop, min, get_or, Option}
use Rattle.std.proofs.Common.{Some, None, ap, sym, subst, ◌∙◌, refl, arith, true≢false, is_some}
use Rattle.std.proofs.Common.{nat_le, if◌then◌else◌, get_or-drop}
use Rattle.std.specs.Prelude.{◌==◌, option_to_list}
use Rattle.std.proofs.lemmas.Bool.{eq-eqb, ne_eqb, cases_eq, cases_lt, or_right, le-leb, leb-true}
use Rattle.std.proofs.lemmas.Bool.Decides.{nat_tests}
use Rattle.std.proofs.lemmas.List.{length-take, length-drop, get_or-take}
use Rattle.chk_site.specs.declared.suffixes.Piece.{Piece}
use Rattle.chk_site.specs.declared.acts.ActAnswer.TheVariants.{Done}
use Rattle.chk_site.specs.Honest.{AtLogRead}
use Rattle.chk_site.specs.Logs.{Shown, is_line_cut, ended}
use Rattle.chk_site.specs.CutLaws.{NoNewline}
use Rattle.chk_site.proofs.CutPlaces.{one_chain, cut_suc}
use Rattle.chk_site.specs.CutLaws.{MayStop}
use Rattle.chk_tail.specs.Taking.{to_last_newline, taken, TakesMost}
use Rattle.chk_site.specs.declared.limits.TheConstants.{PIECE_BYTES}
use Rattle.chk_tail.proofs.Newlines.{last_newline}

-- ---- cut places of a generation

abbrev run_behind : ℕ → ℕ → ℕ
run_behind b run = if b == 10 then 0 else if run == 131071 then 0 else run + 1

begin_cut : (closed : Bool) (bytes : List ℕ) → is_line_cut closed 0 bytes 0 ≡ true
begin_cut closed [] = refl
begin_cut closed (b ∷ bytes) = refl

-- the place behind a newline is one
newline_cut : (closed : Bool) (run : ℕ) (bytes : List ℕ) (i : ℕ) → i < length bytes
    → get_or bytes i 0 ≡ 10
    → is_line_cut closed run bytes (suc i) ≡ true
newline_cut closed run [] i below is = absurd (let z : ⊥ = omega (arith, below) in z)
newline_cut closed run (b ∷ bytes) zero below is =
    let t : (b == 10) ≡ true = eq-eqb b 10 is in
    cut_suc closed run b bytes 0
    ∙ (ap (λ c. is_line_cut closed (if c then 0 else if run == 131071 then 0 else run + 1) bytes 0)
    t ∙ begin_cut closed bytes)
newline_cut closed run (b ∷ bytes) (suc i) below is =
    cut_suc closed run b bytes (suc i)
    ∙ newline_cut closed (run_behind b run) bytes i (omega (arith, below)) is

run_small : (b run : ℕ) → run < 131072 → run_behind b run < 131072
run_small b run small = grind (arith, nat_tests)

line_end : (run : ℕ) (bytes : List ℕ) → run < 131072
    → is_line_cut true run bytes (length bytes) ≡ true
line_end run [] small = or_right (run == 0) true refl
line_end run (b ∷ bytes) small =
    cut_suc true run b bytes (length bytes)
    ∙ line_end (run_behind b run) bytes (run_small b run small)

-- ---- what a read gave

module _ (piece : Piece) (g : Shown) (at max : ℕ) (small : max ≤ PIECE_BYTES)
    (given : AtLogRead (Done (piece.bytes ∷ option_to_list piece.ended) 0 0) at max g) where
  abbrev B : List ℕ
  B = piece.bytes

  abbrev N : ℕ
  N = length piece.bytes

  abbrev K : ℕ
  K = to_last_newline piece.bytes

  bytes_are : B ≡ take max (drop at g.bytes)
  bytes_are = heads given.1
    where
      heads : {xs ys : List (List ℕ)} {x y : List ℕ} → x ∷ xs ≡ y ∷ ys → x ≡ y
      heads e = cc

  ends_are : option_to_list piece.ended ≡ ended g.suffix (nat_le (length g.bytes) (at + max))
  ends_are = tails given.1
    where
      tails : {xs ys : List (List ℕ)} {x y : List ℕ} → x ∷ xs ≡ y ∷ ys → xs ≡ ys
      tails e = cc

  size : N ≡ min max (length g.bytes - at)
  size =
      ap length bytes_are
      ∙ (length-take max (drop at g.bytes) ∙ ap (min max) (length-drop at g.bytes))

  byte_at : (i : ℕ) → i < N → get_or B i 0 ≡ get_or g.bytes (at + i) 0
  byte_at i below =
      let s = size in
      ap (λ l. get_or l i 0) bytes_are
      ∙ (get_or-take max (drop at g.bytes) i 0 (omega (arith, below, s))
      ∙ get_or-drop at g.bytes i 0)

  -- a generation that was ended was read to its end
  was_ended : (suffix : List ℕ) → piece.ended ≡ Some suffix → (is_some g.suffix ≡ true)
      × (at + N ≡ length g.bytes)
  was_ended suffix e =
      go g.suffix (nat_le (length g.bytes) (at + max)) refl refl
      (sym (ap option_to_list e) ∙ ends_are)
    where
      go : (o : Option (List ℕ)) (reached : Bool) → g.suffix ≡ o
          → nat_le (length g.bytes) (at + max) ≡ reached
          → suffix ∷ [] ≡ ended o reached → (is_some g.suffix ≡ true) × (at + N ≡ length g.bytes)
      go None reached f r e = absurd (cc)
      go (Some x) false f r e = absurd (cc)
      go (Some x) true f r e =
          let le = leb-true (length g.bytes) (at + max) r in
          let s = size in
          let inside = given.0 in
          (ap is_some f, omega (arith, le, s, inside))

  -- one that wasn't ended was not read to its end, or is the base file
  not_ended : piece.ended ≡ None → is_some g.suffix ≡ true → at + N ≡ length g.bytes → ⊥
  not_ended e some all =
      go g.suffix (nat_le (length g.bytes) (at + max)) refl some
      (sym (ap option_to_list e) ∙ ends_are)
    where
      go : (o : Option (List ℕ)) (reached : Bool) → nat_le (length g.bytes) (at + max) ≡ reached
          → is_some o ≡ true → [] ≡ ended o reached → ⊥
      go None reached r some e = true≢false (sym some)
      go (Some x) true r some e = cc
      go (Some x) false r some e =
          let s = size in
          true≢false (sym (le-leb (length g.bytes) (at + max) (omega (arith, all, s))) ∙ r)

  -- no newline behind the last one
  no_newline : NoNewline g.bytes (at + K) (N - K)
  no_newline =
      let l = last_newline B in
      let within = l.within in
      let s = size in
      let inside = given.0 in
      record {
        there = omega (arith, within, s, inside);
        lacks = λ i below is.
            l.behind (K + i) (omega arith) (omega (arith, below))
            (byte_at (K + i) (omega (arith, below))
            ∙ (ap (λ k. get_or g.bytes k 0)
            (let z : at + (K + i) ≡ at + K + i = omega arith in z) ∙ is));
      }

  -- behind the last newline, or from the place on, no cut place comes within a piece
  none_later : is_line_cut (is_some g.suffix) 0 g.bytes (at + K) ≡ true → piece.ended ≡ None
      → (q : ℕ) → at + K < q → q ≤ at + max
      → q ≤ length g.bytes → ((q - (at + K) ≡ PIECE_BYTES) → ⊥)
      → is_line_cut (is_some g.suffix) 0 g.bytes q ≡ true → ⊥
  none_later here e q on below inside whole cut =
      let s = size in
      let within = (last_newline B).within in
      let same : at + K + (q - (at + K)) ≡ q = omega (arith, on) in
      let chain = (one_chain (is_some g.suffix) g.bytes (at + K) (N - K)
      (q - (at + K)) here no_newline (omega (arith, s, within, on, below, inside))).0
      (subst (λ p. is_line_cut (is_some g.suffix) 0 g.bytes p ≡ true) (sym same) cut) in
      elim chain [
        | inl j ↦ no_multiple j.0 (q - (at + K)) j.1 (omega (arith, on))
            (omega (arith, below, on, small)) whole
        | inr c ↦
            let end = c.1 in
            not_ended e c.0 (omega (arith, end, same, s, below, given.0))
      ]
    where
      no_multiple : (j d : ℕ) → d ≡ 131072 * j → 0 < d → d ≤ PIECE_BYTES → (d ≡ PIECE_BYTES → ⊥)
          → ⊥
      no_multiple zero d is some small whole = omega (arith, is, some)
      no_multiple (suc zero) d is some small whole = whole (omega (arith, is))
      no_multiple (suc (suc j)) d is some small whole = omega (arith, is, small)

  most : (b : Bool) → MayStop b g at → (o : Option (List ℕ)) → piece.ended ≡ o
      → MayStop b g (at + taken b (is_some o) B)
      × ((q : ℕ) → at + taken b (is_some o) B < q → q ≤ at + max → q ≤ length g.bytes
      → MayStop b g q → ⊥)
  most false may o e = (
    tt,
    λ q on below inside stop. let s = size in
        let z : ⊥ = omega (arith, s, on, below, inside, given.0) in z,
  )
  most true may (Some suffix) e =
      let w = was_ended suffix e in
      let all = w.1 in (
        ap (λ c. is_line_cut c 0 g.bytes (at + N)) w.0
            ∙ (ap (is_line_cut true 0 g.bytes) all ∙ line_end 0 g.bytes (omega arith)),
        λ q on below inside stop. let z : ⊥ = omega (arith, all, on, inside) in z,
      )
  most true may None e = go (cases_eq K 0) (cases_eq N PIECE_BYTES)
    where
      T : ℕ
      T = if K == 0 then (if N == PIECE_BYTES then PIECE_BYTES else 0) else K

      Result : ℕ → Type 0
      Result n =
          (is_line_cut (is_some g.suffix) 0 g.bytes (at + n) ≡ true)
          × ((q : ℕ) → at + n < q → q ≤ at + max → q ≤ length g.bytes
          → is_line_cut (is_some g.suffix) 0 g.bytes q ≡ true → ⊥)

      here_at : K ≡ 0 → is_line_cut (is_some g.suffix) 0 g.bytes (at + K) ≡ true
      here_at none =
          ap (is_line_cut (is_some g.suffix) 0 g.bytes)
          (let z : at + K ≡ at = omega (arith, none) in z) ∙ may

      go : (K ≡ 0) ⊎ (K ≢ 0) → (N ≡ PIECE_BYTES) ⊎ (N ≢ PIECE_BYTES) → Result T
      go (inl none) (inl whole) =
          let t : (K == 0) ≡ true = eq-eqb K 0 none in
          let u : (N == PIECE_BYTES) ≡ true = eq-eqb N PIECE_BYTES whole in
          let there = (one_chain (is_some g.suffix) g.bytes (at + K) (N - K) PIECE_BYTES
          (here_at none) no_newline (omega (arith, none, whole))).1
          (inl (1, omega arith)) in
          subst Result (sym (ap (λ c. if c then
          (if N == PIECE_BYTES then PIECE_BYTES else 0) else K) t
          ∙ ap (λ c. if c then PIECE_BYTES else 0) u)) (
            ap (is_line_cut (is_some g.suffix) 0 g.bytes)
                (let z : at + PIECE_BYTES ≡ at + K + PIECE_BYTES = omega (arith, none) in z)
                ∙ there,
            λ q on below inside stop. let z : ⊥ = omega (arith, on, below, small) in z,
          )
      go (inl none) (inr part) =
          let t : (K == 0) ≡ true = eq-eqb K 0 none in
          let u : (N == PIECE_BYTES) ≡ false = ne_eqb N PIECE_BYTES part in
          subst Result (sym (ap (λ c. if c then
          (if N == PIECE_BYTES then PIECE_BYTES else 0) else K) t
          ∙ ap (λ c. if c then PIECE_BYTES else 0) u)) (
            ap (is_line_cut (is_some g.suffix) 0 g.bytes) (let z : at + 0 ≡ at = omega arith in z)
                ∙ may,
            λ q on below inside stop.
                none_later (here_at none) e q (omega (arith, on, none)) below inside
                (λ d. part (let s = size in omega (arith, d, none, s, inside, below, on, small)))
                stop,
          )
      go (inr some) whole =
          let t : (K == 0) ≡ false = ne_eqb K 0 some in
          let l = last_newline B in
          let pos : 0 < K = elim (cases_lt 0 K)
          [ inl on ↦ on | inr none ↦ absurd (some (omega (arith, none))) ] in
          let within = l.within in
          let s = size in
          let here : is_line_cut (is_some g.suffix) 0 g.bytes (at + K) ≡ true =
          ap (is_line_cut (is_some g.suffix) 0 g.bytes)
          (let z : at + K ≡ suc (at + (K - 1)) = omega (arith, pos) in z)
          ∙ newline_cut (is_some g.suffix) 0 g.bytes (at + (K - 1))
          (omega (arith, pos, within, s, given.0))
          (sym (byte_at (K - 1) (omega (arith, pos, within))) ∙ l.at pos) in
          subst Result (sym (ap (λ c. if c then
          (if N == PIECE_BYTES then PIECE_BYTES else 0) else K) t)) (
            here,
            λ q on below inside stop. none_later here e q on below inside
                (λ d. let z : ⊥ = omega (arith, d, pos, below, on, small) in z) stop,
          )

pub takes_most : (lines : Bool) (piece : Piece) (g : Shown) (at max : ℕ) → max ≤ PIECE_BYTES
    → MayStop lines g at
    → AtLogRead (Done (piece.bytes ∷ option_to_list piece.ended) 0 0) at max g
    → TakesMost lines piece g at max
takes_most lines piece g at max small may given =
    let m = most piece g at max small given lines may piece.ended refl in
    record { stop = m.0; last = m.1 }
