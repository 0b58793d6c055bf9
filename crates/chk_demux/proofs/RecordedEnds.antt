-- A stream's end among ends that stand in order, looked for from a place on.
use Rattle.std.proofs.Common.{◌≡◌, ℕ, zero, suc, ◌+◌, ◌<◌, Bool, true, false, List, [], ◌∷◌, length, drop, map, get_or, refl, sym, ◌∙◌, ap, arith, if◌then◌else◌}
use Rattle.std.specs.Prelude.{slice_index_or}
use Rattle.std.proofs.lemmas.List.{drop_more}
use Rattle.chk_chunk.specs.Keys.{Stream, same_stream, stream_lt}
use Rattle.chk_world.specs.Books.{End}
use Rattle.chk_world.proofs.Each.{Each, each_as}
use Rattle.chk_archive_plan.proofs.Bridges.{each_index}
use Rattle.chk_book.specs.Books.{end_in}
use Rattle.chk_book.specs.Views.{end_view}
use Rattle.chk_book.specs.declared.lists.End.{End as EndStruct}
use Rattle.chk_archive_parts.proofs.EndsInOrder.{apart, apart_from, Sorted, behind_it}
use Rattle.chk_record_reader.proofs.OnePass.{stream_onward as before_on}
use Rattle.chk_demux.proofs.Streams.{seen_at}

-- an item of a list, as it is seen
pub shown : (xs : List EndStruct) (i : ℕ) (x : EndStruct) → x ≡ get_or xs i x
    → slice_index_or (map end_view xs) i (end_view x) ≡ end_view x
shown xs i x is = seen_at end_view xs i x ∙ ap end_view (sym is)

module _ (s : Stream) where
  before_one : (e : End) (es : List End) → stream_lt e.stream s ≡ true → end_in 0 (e ∷ es) s ≡ end_in 0 es s
  before_one e es before = ap (λ b. if b then e.end else end_in 0 es s) (apart_from e.stream s before)

  none_behind : (es : List End) → Each (λ (f : End). stream_lt s f.stream ≡ true) es → end_in 0 es s ≡ 0
  none_behind [] all = refl
  none_behind (f ∷ es) all =
      ap (λ b. if b then f.end else end_in 0 es s) (apart s f.stream all.0) ∙ none_behind es all.1

  -- the one at this place is passed
  pub one_passed : (es : List End) (n : ℕ) (d : End) → n < length es → stream_lt (slice_index_or es n d).stream s ≡ true
      → end_in 0 (drop (n + 1) es) s ≡ end_in 0 (drop n es) s
  one_passed es n d low before =
      sym (ap (λ l. end_in 0 l s) (drop_more es n d low) ∙ before_one (slice_index_or es n d) (drop (n + 1) es) before)

  -- all up to one that comes before the stream are passed
  pub all_passed : (es : List End) (n : ℕ) (d : End) → Sorted es → n < length es
      → stream_lt (slice_index_or es n d).stream s ≡ true → end_in 0 (drop (suc n) es) s ≡ end_in 0 es s
  all_passed [] n d o low before = absurd (let z : ⊥ = omega (arith, low) in z)
  all_passed (e ∷ es) zero d o low before = sym (before_one e es before)
  all_passed (e ∷ es) (suc n) d o low before =
      let at : stream_lt e.stream (slice_index_or es n d).stream ≡ true =
      each_index (λ (f : End). stream_lt e.stream f.stream ≡ true) es o.0 n (omega (arith, low)) d in
      all_passed es n d o.1 (omega (arith, low)) before
      ∙ sym (before_one e es (before_on e.stream (slice_index_or es n d).stream s at before))

  -- one that doesn't come before the stream is its own, or it has none
  pub stops_here : (es : List End) (n : ℕ) (d : End) → Sorted es → n < length es
      → stream_lt (slice_index_or es n d).stream s ≡ false
      → end_in 0 (drop n es) s
      ≡ (if same_stream s (slice_index_or es n d).stream then (slice_index_or es n d).end else 0)
  stops_here [] n d o low unlike = absurd (let z : ⊥ = omega (arith, low) in z)
  stops_here (e ∷ es) zero d o low unlike = go (same_stream s e.stream) refl
    where
      go : (b : Bool) → same_stream s e.stream ≡ b → (if b then e.end else end_in 0 es s) ≡ (if b then e.end else 0)
      go true same = refl
      go false other =
          none_behind es
          (each_as (λ (f : End). stream_lt e.stream f.stream ≡ true) (λ (f : End). stream_lt s f.stream ≡ true) es
          (λ f later. before_on s e.stream f.stream (behind_it e.stream s other unlike) later) o.0)
  stops_here (e ∷ es) (suc n) d o low unlike = stops_here es n d o.1 (omega (arith, low)) unlike
