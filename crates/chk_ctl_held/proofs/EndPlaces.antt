-- A stream's end among ends that rise, by the place where it would stand.
use Rattle.std.proofs.Common.{◌≡◌, ◌∙◌, inl, inr, ℕ, zero, suc, ◌+◌, ◌<◌, ◌≤◌, Bool, true, false, List, [], ◌∷◌, length, map, drop, ap, sym, subst, refl, arith, true≢false}
use Rattle.std.specs.Prelude.{if◌then◌else◌, nat_lt, slice_index_or, Option, Some, None}
use Rattle.std.specs.Cmp.{IsStrictWeakOrder}
use Rattle.std.specs.List.Sorted.{IsPartitionedBy}
use Rattle.std.proofs.lemmas.Bool.{cases_Bool, ltb-true, ltb-false}
use Rattle.std.proofs.lemmas.List.{drop_more}
use Rattle.std.proofs.lemmas.List.Sorted.{sorted_far}
use Rattle.chk_chunk.specs.Keys.{Stream, same_stream, stream_lt}
use Rattle.chk_world.specs.Books.{End}
use Rattle.chk_world.proofs.NameTests.{streams_same}
use Rattle.chk_record_index.proofs.Orders.{through, streams}
use Rattle.chk_record_index.proofs.Sorting.{as_std}
use Rattle.chk_book.specs.Books.{end_in}
use Rattle.chk_book.specs.Views.{end_view}
use Rattle.chk_book.specs.declared.lists.End.{End as Struct}
use Rattle.chk_ctl_held.specs.Order.{end_before, end_of, EndsRise, IsEndPlace}
use Rattle.chk_record_index.proofs.Apart.{not_of}

abbrev pub stream_at : List Struct → ℕ → Struct → Stream
stream_at ends k d = (end_view (slice_index_or ends k d)).stream

ordered : IsStrictWeakOrder end_before
ordered = as_std end_before (through (λ (e : Struct). (end_view e).stream) stream_lt streams.order)

pub parted : (ends : List Struct) (s : Stream) → EndsRise ends
    → IsPartitionedBy (λ (e : Struct). stream_lt (end_view e).stream s) ends
parted ends s rise i j d low high on = elim (cases_Bool (stream_lt (stream_at ends i d) s)) [
  | inl is_so ↦ is_so
  | inr not_so ↦
      absurd
      (true≢false
      (sym on
      ∙ streams.order.onward (stream_at ends j d) (stream_at ends i d) s
      (sorted_far end_before ordered ends rise i j d low high) not_so))
]

by_first : (s : Stream) (e : Struct) (es : List Struct) (b : Bool)
    → same_stream s (end_view e).stream ≡ b
    → end_of s (map end_view (e ∷ es))
    ≡ (if b then Some (end_view e) else end_of s (map end_view es))
by_first s e es b is =
    ap (λ (t : Bool). if t then Some (end_view e) else end_of s (map end_view es)) is

none_of : (s : Stream) (ends : List Struct)
    → ((k : ℕ) (d : Struct) → k < length ends → same_stream s (stream_at ends k d) ≡ false)
    → end_of s (map end_view ends) ≡ None
none_of s [] none = refl
none_of s (e ∷ es) none =
    by_first s e es false (none 0 e (omega arith))
    ∙ none_of s es (λ k d low. none (suc k) d (omega (arith, low)))

pub found_at : (s : Stream) (ends : List Struct) (at : ℕ) (x : Struct) → at < length ends
    → ((k : ℕ) (d : Struct) → k < at → stream_lt (stream_at ends k d) s ≡ true)
    → same_stream s (stream_at ends at x) ≡ true
    → end_of s (map end_view ends) ≡ Some (end_view (slice_index_or ends at x))
found_at s [] at x low before same = absurd (let z : ⊥ = omega (arith, low) in z)
found_at s (e ∷ es) zero x low before same = by_first s e es true same
found_at s (e ∷ es) (suc at) x low before same =
    by_first s e es false (not_of s (end_view e).stream (before 0 e (omega arith)))
    ∙ found_at s es at x (omega (arith, low))
    (λ k d less. before (suc k) d (omega (arith, less))) same

-- the end there isn't the stream's: no end is
pub absent_at : (s : Stream) (ends : List Struct) (at : ℕ) → EndsRise ends
    → IsEndPlace ends s at
    → ((d : Struct) → at < length ends → same_stream s (stream_at ends at d) ≡ false)
    → end_of s (map end_view ends) ≡ None
absent_at s ends at rise place other =
    none_of s ends (λ k d low. elim (cases_Bool (same_stream s (stream_at ends k d))) [
      | inr apart ↦ apart
      | inl same ↦ absurd (not_there k d low same)
    ])
  where
    not_there : (k : ℕ) (d : Struct) → k < length ends → same_stream s (stream_at ends k d) ≡ true
        → ⊥
    not_there k d low same = go (stream_lt (stream_at ends k d) s) refl
      where
        is : s ≡ stream_at ends k d
        is = streams_same s (stream_at ends k d) same

        late : stream_lt (stream_at ends k d) s ≡ false → at ≤ k
        late e = elim (cases_Bool (nat_lt k at)) [
          | inl less ↦ absurd (true≢false (sym (place.0 k d (omega arith) (ltb-true k at less)) ∙ e))
          | inr more ↦ let z = ltb-false k at more in omega (arith, z)
        ]

        go : (b : Bool) → stream_lt (stream_at ends k d) s ≡ b → ⊥
        go true below = true≢false (sym same ∙ not_of s (stream_at ends k d) below)
        go false above =
            let from = late above in
            let within : at < length ends = omega (arith, from, low) in
            let there = place.1 at d (omega arith) within in
            let far : stream_lt s (stream_at ends at d) ≡ false =
            subst (λ (t : Stream). stream_lt t (stream_at ends at d) ≡ false) (sym is)
            (sorted_far end_before ordered ends rise at k d from low) in
            true≢false (sym (streams.are_alike s (stream_at ends at d) far there) ∙ other d within)

-- going through the ends
pub next_end : (s : Stream) (ends : List Struct) (i : ℕ) (d : Struct) (b : Bool) → i < length ends
    → same_stream s (stream_at ends i d) ≡ b
    → end_of s (map end_view (drop i ends))
    ≡ (if b then Some (end_view (slice_index_or ends i d))
    else end_of s (map end_view (drop (i + 1) ends)))
next_end s ends i d b low is =
    ap (λ (l : List Struct). end_of s (map end_view l)) (drop_more ends i d low)
    ∙ by_first s (slice_index_or ends i d) (drop (i + 1) ends) b is

-- where the stream's records end, by its end
abbrev pub end_by : Option End → ℕ
end_by None = 0
end_by (Some e) = e.end

pub ends_by : (s : Stream) (es : List End) → end_in 0 es s ≡ end_by (end_of s es)
ends_by s [] = refl
ends_by s (d ∷ es) = go (same_stream s d.stream) (ends_by s es)
  where
    go : (b : Bool) → end_in 0 es s ≡ end_by (end_of s es)
        → (if b then d.end else end_in 0 es s) ≡ end_by (if b then Some d else end_of s es)
    go true rest = refl
    go false rest = rest
