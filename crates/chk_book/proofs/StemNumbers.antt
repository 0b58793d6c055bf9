-- The numbers that the names of segments say.
use Rattle.std.proofs.Common.{◌≡◌, ℕ, ◌<◌, ◌^◌, true, false, Option, Some, None, ap, ◌∙◌}
use Rattle.std.proofs.lemmas.Bool.{and_parts, ltb-true}
use Rattle.chk_bytes.proofs.DecimalLemmas.{plain_number-decimal}
use Rattle.chk_bytes.specs.Stems.{is_count}
use Rattle.chk_book.specs.Folders.{segment_stem}
use Rattle.chk_book.specs.SegmentNames.{counted_only, segment_number}

-- a count is below 2 ^ 63
pub count_small : (k : ℕ) → is_count k ≡ true → k < 2 ^ 63
count_small k count = ltb-true k (2 ^ 63) (and_parts _ _ count).1

-- the name of a segment has its number
pub number_of_stem : (k : ℕ) → is_count k ≡ true → segment_number (segment_stem k) ≡ Some k
number_of_stem k count =
    ap (λ o. counted_only o) (plain_number-decimal k (count_small k count))
    ∙ ap (λ b. elim b as (λ t. Option ℕ) [ true ↦ Some k | false ↦ None ]) count
