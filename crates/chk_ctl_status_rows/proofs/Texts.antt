-- Texts that are put together line by line.
use Rattle.std.proofs.Common.{◌≡◌, ◌∙◌, ℕ, ◌+◌, ◌<◌, ◌≤◌, List, ◌++◌, drop, length}
use Rattle.std.proofs.Common.{get_or, ap, sym, append_assoc}
use Rattle.std.specs.Prelude.{flat_map}
use Rattle.std.proofs.lemmas.List.{append-nil}
use Rattle.std.proofs.Math.ListN.{drop_of_length-le}
use Rattle.chk_record_index.proofs.InTurn.{next_of}

-- one more line behind the text
pub line_more : {A : Type 0} (f : A → List ℕ) (xs : List A) (i : ℕ) (x : A)
    (text more line all : List ℕ) → i < length xs → x ≡ get_or xs i x → more ≡ text ++ line
    → line ≡ f x → text ++ flat_map f (drop i xs) ≡ all
    → more ++ flat_map f (drop (i + 1) xs) ≡ all
line_more {A = A} f xs i x text more line all low is added same before =
    let later = flat_map f (drop (i + 1) xs) in
    ap (λ (t : List ℕ). t ++ later) (added ∙ ap (λ (l : List ℕ). text ++ l) same)
    ∙ (append_assoc text (f x) later
    ∙ (ap (λ (rest : List A). text ++ flat_map f rest) (sym (next_of xs i x low is)) ∙ before))

-- none is left
pub lines_all : {A : Type 0} (f : A → List ℕ) (xs : List A) (i : ℕ) (text all : List ℕ)
    → length xs ≤ i → text ++ flat_map f (drop i xs) ≡ all → text ≡ all
lines_all {A = A} f xs i text all past before =
    sym (append-nil text)
    ∙ (ap (λ (rest : List A). text ++ flat_map f rest) (sym (drop_of_length-le xs past)) ∙ before)
