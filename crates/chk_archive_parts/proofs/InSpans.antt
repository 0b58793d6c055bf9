-- In which span a record past the gaps stands, and which stand before it there.
use Rattle.std.proofs.Common.{◌≡◌, inl, inr, ℕ, zero, suc, ◌+◌, ◌-◌, ◌≤◌, ◌<◌, List, [], ◌∷◌, ◌++◌, length, take, ap, sym, subst, ◌∙◌, refl, arith, length-drop, length-append}
use Rattle.std.specs.Prelude.{Contains, slice_index_or}
use Rattle.std.proofs.lemmas.Bool.{cases_lt}
use Rattle.std.proofs.lemmas.List.{get_or_append_left, get_or-append-add, get_or-append_right, length-take-le}
use Rattle.chk_world.proofs.Each.{later_one}
use Rattle.chk_record_index.specs.Heads.{Head}
use Rattle.chk_archive_plan.specs.Passes.{between}
use Rattle.chk_archive_plan.specs.declared.spans.Span.{Span}
use Rattle.chk_archive_parts.specs.declared.cuts.Cut.{Cut}
use Rattle.chk_archive_parts.specs.Kept.{whole_from, past_cuts}
use Rattle.chk_archive_parts.proofs.CutLists.{no_cut}

whole_size : (at : ℕ) (hs : List Head) → length (whole_from at hs) ≡ length hs
whole_size at [] = refl
whole_size at (h ∷ hs) = ap suc (whole_size (at + 1) hs)

whole_at : (at : ℕ) (hs : List Head) (j : ℕ) → j < length hs
    → slice_index_or (whole_from at hs) j no_cut ≡ record { index = at + j; skip = 0 }
whole_at at [] j low = absurd (let z : ⊥ = omega (arith, low) in z)
whole_at at (h ∷ hs) zero low = ap (λ (n : ℕ). record { index = n; skip = 0 }) (let z : at ≡ at + 0 = omega arith in z)
whole_at at (h ∷ hs) (suc j) low =
    whole_at (at + 1) hs j (omega (arith, low))
    ∙ ap (λ (n : ℕ). record { index = n; skip = 0 }) (let z : at + 1 + j ≡ at + suc j = omega arith in z)

-- the record stands past the gap of one of the spans, and those between the gap and it stand before its place among these
pub record InSpan (heads : List Head) (all left : List Span) (k : Cut) (place : ℕ) : Type 0 where
  pub span : Span
  pub one : Contains all span
  pub low : span.past ≤ k.index
  pub high : k.index < span.end
  pub whole : k.skip ≡ 0
  pub back : (i : ℕ) → span.past ≤ i → i < k.index
      → (j : ℕ) × (j < place) × (slice_index_or (past_cuts heads left) j no_cut ≡ record { index = i; skip = 0 })

pub in_span : (heads : List Head) (all left : List Span) → ((s : Span) → Contains left s → Contains all s)
    → ((s : Span) → Contains left s → (s.past ≤ s.end) × (s.end ≤ length heads))
    → (place : ℕ) → place < length (past_cuts heads left)
    → InSpan heads all left (slice_index_or (past_cuts heads left) place no_cut) place
in_span heads all [] in_all within place low = absurd (let z : ⊥ = omega (arith, low) in z)
in_span heads all (s ∷ ss) in_all within place low =
    let w = within s (0, omega arith, refl) in
    let past = w.0 in
    let hs = between s.past s.end heads in
    let b = whole_from s.past hs in
    let rest = past_cuts heads ss in
    let taken = length-take-le s.end heads w.1 in
    let dropped = length-drop s.past (take s.end heads) in
    let same = whole_size s.past hs in
    let size : length b ≡ s.end - s.past = omega (arith, taken, dropped, same) in
    let both = length-append b rest in
    elim (cases_lt place (length b)) [
      | inl here ↦
          let few : place < length hs = omega (arith, here, same) in
          let is : record { index = s.past + place; skip = 0 } ≡ slice_index_or (b ++ rest) place no_cut =
          sym (get_or_append_left b rest no_cut place here ∙ whole_at s.past hs place few) in
          subst (λ k. InSpan heads all (s ∷ ss) k place) is
          (record {
            span = s;
            one = in_all s (0, omega arith, refl);
            low = omega arith;
            high = omega (arith, here, size, past);
            whole = refl;
            back = λ i from before. (
              i - s.past,
              omega (arith, from, before),
              get_or_append_left b rest no_cut (i - s.past) (omega (arith, from, before, here))
                  ∙ (whole_at s.past hs (i - s.past) (omega (arith, from, before, few))
                  ∙ ap (λ (n : ℕ). record { index = n; skip = 0 })
                  (let z : s.past + (i - s.past) ≡ i = omega (arith, from) in z)),
            );
          })
      | inr there ↦
          let more : InSpan heads all ss (slice_index_or rest (place - length b) no_cut) (place - length b) =
          in_span heads all ss (λ t one. in_all t (later_one s ss t one)) (λ t one. within t (later_one s ss t one))
          (place - length b) (omega (arith, low, both, there)) in
          subst (λ k. InSpan heads all (s ∷ ss) k place) (sym (get_or-append_right b rest (length b) place no_cut refl there))
          (record {
            span = more.span;
            one = more.one;
            low = more.low;
            high = more.high;
            whole = more.whole;
            back = λ i from before.
                let j = more.back i from before in
                let less = j.1 in (
                  length b + j.0,
                  omega (arith, less, there),
                  get_or-append-add b rest j.0 no_cut ∙ j.2,
                );
          })
    ]
