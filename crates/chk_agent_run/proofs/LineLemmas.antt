-- The lines of a text from a place on.
use Rattle.std.proofs.Common.{◌≡◌, ℕ, ◌+◌, ◌≤◌, ◌<◌, List, [], ◌∷◌, Some, None, length, take, drop, ap, sym, subst, ◌-◌, ◌∙◌, arith}
use Rattle.std.specs.Prelude.{◌==◌, nat_le, position}
use Rattle.std.proofs.lemmas.Bool.{cond-true, cond-false, le-leb, lt-leb}
use Rattle.std.proofs.lemmas.List.{length-take, length-drop, drop-drop, take_all}
use Rattle.std.proofs.lemmas.List.Quantifiers.{position-Some}
use Rattle.chk_bytes.specs.Words.{parts_at}
use Rattle.chk_bytes.proofs.PartLemmas.{parts_at-whole, parts_at-front, split_found, split_none}
use Rattle.chk_agent_run.specs.Lines.{lines_from}

pub from_here : (at : ℕ) (text : List ℕ) → at ≤ length text → lines_from at text ≡ parts_at 10 (drop at text)
from_here at text le =
    cond-true (nat_le at (length text)) (parts_at 10 (drop at text)) [] (le-leb at (length text) le)

pub none_behind : (at : ℕ) (text : List ℕ) → length text < at → lines_from at text ≡ []
none_behind at text lt =
    cond-false (nat_le at (length text)) (parts_at 10 (drop at text)) [] (lt-leb at (length text) lt)

-- a found newline stands within the text
pub found_within : (text : List ℕ) (size : ℕ) → position (λ b. b == 10) text ≡ Some size → size < length text
found_within text size found = (position-Some (λ b. b == 10) text size 0 found).0

pub line_found : (at : ℕ) (text : List ℕ) (size : ℕ) → at ≤ length text
    → position (λ b. b == 10) (drop at text) ≡ Some size
    → lines_from at text ≡ take size (drop at text) ∷ lines_from (at + length (take size (drop at text)) + 1) text
line_found at text size le found =
    let tail = drop at text in
    let split = split_found 10 size tail found in
    let within = found_within tail size found in
    let whole = length-drop at text in
    let long : length (take size tail) ≡ size = length-take size tail ∙ omega (arith, within) in
    let next : at + (size + 1) ≡ at + length (take size tail) + 1 = omega (arith, long) in
    from_here at text le
    ∙ (ap (parts_at 10) split.whole
    ∙ (parts_at-front 10 (take size tail) (drop (size + 1) tail) split.front_lacks
    ∙ ap (λ (ls : List (List ℕ)). take size tail ∷ ls)
    (ap (parts_at 10) (drop-drop (size + 1) at text ∙ ap (λ (k : ℕ). drop k text) next)
    ∙ sym (from_here (at + length (take size tail) + 1) text (omega (arith, long, within, whole))))))

pub line_last : (at : ℕ) (text : List ℕ) → at ≤ length text → position (λ b. b == 10) (drop at text) ≡ None
    → lines_from at text ≡ drop at text ∷ lines_from (at + length (drop at text) + 1) text
line_last at text le none =
    let tail = drop at text in
    let whole = length-drop at text in
    from_here at text le
    ∙ (parts_at-whole 10 tail (split_none 10 tail none)
    ∙ ap (λ (ls : List (List ℕ)). tail ∷ ls) (sym (none_behind (at + length tail + 1) text (omega (arith, whole)))))

-- what a slice from a place on has
pub slice_rest : (at : ℕ) (text : List ℕ) → take (length text - at) (drop at text) ≡ drop at text
slice_rest at text = take_all (length text - at) (drop at text) (let whole = length-drop at text in omega (arith, whole))

pub line_of_rest : (at : ℕ) (text rest : List ℕ) (size : ℕ) → rest ≡ drop at text → at ≤ length text
    → position (λ b. b == 10) rest ≡ Some size
    → lines_from at text ≡ take size rest ∷ lines_from (at + length (take size rest) + 1) text
line_of_rest at text rest size is le found =
    subst (λ (r : List ℕ). lines_from at text ≡ take size r ∷ lines_from (at + length (take size r) + 1) text) (sym is)
    (line_found at text size le (ap (position (λ b. b == 10)) (sym is) ∙ found))

pub last_of_rest : (at : ℕ) (text rest : List ℕ) → rest ≡ drop at text → at ≤ length text
    → position (λ b. b == 10) rest ≡ None
    → lines_from at text ≡ rest ∷ lines_from (at + length rest + 1) text
last_of_rest at text rest is le none =
    subst (λ (r : List ℕ). lines_from at text ≡ r ∷ lines_from (at + length r + 1) text) (sym is)
    (line_last at text le (ap (position (λ b. b == 10)) (sym is) ∙ none))

-- what a slice from a place on, of so many bytes, has
pub slice_line : (at size : ℕ) (text : List ℕ) → take (at + size - at) (drop at text) ≡ take size (drop at text)
slice_line at size text = ap (λ (k : ℕ). take k (drop at text)) (let same : at + size - at ≡ size = omega arith in same)
