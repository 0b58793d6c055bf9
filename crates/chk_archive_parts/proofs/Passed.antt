-- A pass over a span, head by head.
use Rattle.std.proofs.Common.{◌≡◌, ℕ, ◌+◌, ◌-◌, ◌≤◌, ◌<◌, Bool, true, false, List, [], ◌∷◌, ◌++◌, length, take, drop, ap, sym, ◌∙◌, arith, length-take, append_assoc}
use Rattle.std.specs.Prelude.{flat_map, slice_index_or}
use Rattle.std.proofs.Math.ListN.{drop_of_length-le}
use Rattle.std.proofs.lemmas.Bool.Decides.{nat_tests}
use Rattle.std.proofs.lemmas.List.{append-nil, drop_more}
use Rattle.chk_record_index.specs.Heads.{Head}
use Rattle.chk_record_index.specs.Order.{no_head}
use Rattle.chk_archive_plan.specs.Passes.{between, head_goes, head_in}
use Rattle.chk_archive_plan.specs.declared.spans.Span.{Span}
use Rattle.chk_archive_parts.specs.declared.cuts.Cut.{Cut}
use Rattle.chk_archive_parts.specs.Cuts.{cuts_from}
use Rattle.chk_archive_parts.specs.Kept.{whole_from}
use Rattle.chk_archive_parts.proofs.KeptOnce.{between_more}

goes : (reached : ℕ) (h : Head) → h.begin ≤ reached → reached < h.key.seq → head_goes reached h ≡ true
goes reached h low high = grind (arith, nat_tests)

stays : (reached : ℕ) (h : Head) → (h.begin ≤ reached → h.key.seq ≤ reached) → head_goes reached h ≡ false
stays reached h none = grind (arith, nat_tests)

same_cut : (k : Cut) (i n : ℕ) → k.index ≡ i → k.skip ≡ n → record { index = i; skip = n } ≡ k
same_cut k i n index skip =
    ap (λ (j : ℕ). let c : Cut = record { index = j; skip = n } in c) (sym index)
    ∙ ap (λ (m : ℕ). let c : Cut = record { index = k.index; skip = m } in c) (sym skip)

-- what the pass takes from this place on up to the end
abbrev pub left : List Head → ℕ → ℕ → ℕ → List Cut
left heads end i reached = cuts_from i reached (between i end heads)

module _ (heads : List Head) (end : ℕ) where
  abbrev by_first : ℕ → ℕ → Head → Bool → List Cut
  by_first i reached h b = elim b [
    | true ↦ record { index = i; skip = reached - h.begin } ∷ left heads end (i + 1) h.key.seq
    | false ↦ left heads end (i + 1) reached
  ]

  first_of : (i reached : ℕ) (h : Head) → h ≡ head_in heads i → i < end → end ≤ length heads
      → left heads end i reached ≡ by_first i reached h (head_goes reached h)
  first_of i reached h is low high =
      ap (cuts_from i reached) (between_more heads i end no_head low high)
      ∙ ap (λ k. by_first i reached k (head_goes reached k)) (sym is)

  module _ (all cuts : List Cut) (i reached : ℕ) (so_far : cuts ++ left heads end i reached ≡ all) where
    module _ (h : Head) (is : h ≡ head_in heads i) (low : i < end) (high : end ≤ length heads) where
      -- the next head's record is taken
      pub passed_on : (k : Cut) → h.begin ≤ reached → reached < h.key.seq → k.index ≡ i → k.skip ≡ reached - h.begin
          → (cuts ++ k ∷ []) ++ left heads end (i + 1) h.key.seq ≡ all
      passed_on k below above index skip =
          append_assoc cuts (k ∷ []) (left heads end (i + 1) h.key.seq)
          ∙ (ap (λ l. cuts ++ l) (sym (first_of i reached h is low high
          ∙ (ap (by_first i reached h) (goes reached h below above)
          ∙ ap (λ x. x ∷ left heads end (i + 1) h.key.seq) (same_cut k i (reached - h.begin) index skip))))
          ∙ so_far)

      -- it is passed over
      pub passed_by : (h.begin ≤ reached → h.key.seq ≤ reached) → cuts ++ left heads end (i + 1) reached ≡ all
      passed_by none =
          ap (λ l. cuts ++ l) (sym (first_of i reached h is low high ∙ ap (by_first i reached h) (stays reached h none)))
          ∙ so_far

    pub passed_all : end ≤ i → cuts ≡ all
    passed_all low =
        let size = length-take end heads in
        sym (append-nil cuts)
        ∙ (ap (λ l. cuts ++ cuts_from i reached l) (sym (drop_of_length-le (take end heads) (omega (arith, low, size))))
        ∙ so_far)

-- each gives its part, one behind the other
module _ (f : Span → List Cut) (all cuts : List Cut) (spans : List Span) (i : ℕ)
    (so_far : cuts ++ flat_map f (drop i spans) ≡ all) where
  pub span_more : (now : List Cut) (d : Span) → i < length spans → now ≡ cuts ++ f (slice_index_or spans i d)
      → now ++ flat_map f (drop (i + 1) spans) ≡ all
  span_more now d low is =
      let x = slice_index_or spans i d in
      let later = flat_map f (drop (i + 1) spans) in
      ap (λ l. l ++ later) is
      ∙ (append_assoc cuts (f x) later ∙ (ap (λ l. cuts ++ flat_map f l) (sym (drop_more spans i d low)) ∙ so_far))

  pub spans_all : length spans ≤ i → cuts ≡ all
  spans_all low =
      sym (append-nil cuts) ∙ (ap (λ l. cuts ++ flat_map f l) (sym (drop_of_length-le spans low)) ∙ so_far)

-- records that are put as a whole
module _ (heads : List Head) (end : ℕ) (all cuts : List Cut) (i : ℕ)
    (so_far : cuts ++ whole_from i (between i end heads) ≡ all) where
  pub whole_more : (k : Cut) → i < end → end ≤ length heads → k.index ≡ i → k.skip ≡ 0
      → (cuts ++ k ∷ []) ++ whole_from (i + 1) (between (i + 1) end heads) ≡ all
  whole_more k low high index skip =
      let rest = whole_from (i + 1) (between (i + 1) end heads) in
      append_assoc cuts (k ∷ []) rest
      ∙ (ap (λ l. cuts ++ l) (sym (ap (whole_from i) (between_more heads i end no_head low high)
      ∙ ap (λ x. x ∷ rest) (same_cut k i 0 index skip))) ∙ so_far)

  pub whole_all : end ≤ i → cuts ≡ all
  whole_all low =
      let size = length-take end heads in
      sym (append-nil cuts)
      ∙ (ap (λ l. cuts ++ whole_from i l) (sym (drop_of_length-le (take end heads) (omega (arith, low, size)))) ∙ so_far)
