-- The lines of adaptors, one after the other.
use Rattle.std.proofs.Common.{◌≡◌, ℕ, zero, suc, ◌+◌, ◌≤◌, List, [], ◌∷◌, ◌++◌, length, map, take}
use Rattle.std.proofs.Common.{Some, ap, sym, ◌∙◌, refl, arith, add-one}
use Rattle.std.specs.Prelude.{slice_get, slice_index}
use Rattle.std.proofs.lemmas.Option.{same_Some, none-some}
use Rattle.chk_checkpoint.specs.declared.CheckLine.{CheckLine}
use Rattle.chk_checkpoint.specs.Lines.{shown}
use Rattle.chk_world.specs.Checkpoints.{Line}
use Rattle.chk_agent_adaptor.specs.Adaptors.{Adaptor, line_at}
use Rattle.chk_agent.specs.States.{lines_at}

pub take_next : {X : Type 0} (xs : List X) (i : ℕ) (x : X) → slice_get xs i ≡ Some x → take i xs ++ x ∷ [] ≡ take (suc i) xs
take_next [] i x at = absurd (none-some x at)
take_next (y ∷ xs) zero x at = ap (λ z. z ∷ []) (sym (same_Some y x at))
take_next (y ∷ xs) (suc i) x at = ap (λ ys. y ∷ ys) (take_next xs i x at)

pub take_all : {X : Type 0} (xs : List X) → take (length xs) xs ≡ xs
take_all [] = refl
take_all (x ∷ xs) = ap (λ ys. x ∷ ys) (take_all xs)

pub line_get : (adaptors : List Adaptor) (ends : List ℕ) (i : ℕ) (a : Adaptor) → slice_get adaptors i ≡ Some a
    → slice_get (lines_at adaptors ends) i ≡ Some (line_at (slice_index ends i) a)
line_get [] ends i a at = absurd (none-some a at)
line_get (b ∷ adaptors) [] zero a at = ap (λ c. Some (line_at 0 c)) (same_Some b a at)
line_get (b ∷ adaptors) [] (suc i) a at = line_get adaptors [] i a at
line_get (b ∷ adaptors) (o ∷ ends) zero a at = ap (λ c. Some (line_at o c)) (same_Some b a at)
line_get (b ∷ adaptors) (o ∷ ends) (suc i) a at = line_get adaptors ends i a at

-- one more line
pub lines_next : (adaptors : List Adaptor) (ends : List ℕ) (i : ℕ) (a : Adaptor) (lines : List Line) (l : Line)
    → slice_get adaptors i ≡ Some a → lines ≡ take i (lines_at adaptors ends) → l ≡ line_at (slice_index ends i) a
    → lines ++ l ∷ [] ≡ take (i + 1) (lines_at adaptors ends)
lines_next adaptors ends i a lines l at so_far is =
    ap (λ ls. ls ++ l ∷ []) so_far ∙ (ap (λ k. take i (lines_at adaptors ends) ++ k ∷ []) is
    ∙ (take_next (lines_at adaptors ends) i (line_at (slice_index ends i) a) (line_get adaptors ends i a at)
    ∙ ap (λ n. take n (lines_at adaptors ends)) (sym (add-one i))))

pub take_over : {X : Type 0} (n : ℕ) (xs : List X) → length xs ≤ n → take n xs ≡ xs
take_over zero [] over = refl
take_over (suc n) [] over = refl
take_over zero (x ∷ xs) over = absurd (let z : ⊥ = omega (arith, over) in z)
take_over (suc n) (x ∷ xs) over = ap (λ ys. x ∷ ys) (take_over n xs (omega (arith, over)))

pub pushed : (before after : List CheckLine) (l : CheckLine) → after ≡ before ++ l ∷ []
    → map shown after ≡ map shown before ++ shown l ∷ []
pushed before after l is = ap (map shown) is ∙ more before
  where
    more : (xs : List CheckLine) → map shown (xs ++ l ∷ []) ≡ map shown xs ++ shown l ∷ []
    more [] = refl
    more (x ∷ xs) = ap (λ ys. shown x ∷ ys) (more xs)
