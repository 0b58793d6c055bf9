-- Heads in order: their streams rise, and a stream's heads that run keep their order.
use Rattle.std.proofs.Common.{◌≡◌, ℕ, zero, suc, false, ◌||◌, List, [], ◌∷◌, Option, Some, None, arith}
use Rattle.std.specs.Prelude.{filter, nat_lt, nat_eq, ◌&&◌}
use Rattle.chk_site.specs.Files.{Files}
use Rattle.chk_chunk.specs.Keys.{Stream, same_stream, stream_lt}
use Rattle.chk_world.specs.Books.{End}
use Rattle.chk_world.proofs.Each.{each_at}
use Rattle.chk_record_index.specs.Heads.{Head}
use Rattle.chk_record_index.specs.Order.{no_head, head_before, in_head_order}
use Rattle.chk_record_index.proofs.Orders.{WeakOrder, lex, tested_through, numbers, streams}
use Rattle.chk_record_index.proofs.Sorting.{Sorted, sort_sorted}
use Rattle.chk_record_reader.specs.Segments.{heads_from}
use Rattle.chk_record_reader.specs.Courses.{is_head_of, end_of, break_by}
use Rattle.chk_record_reader.specs.Checking.{GoesWell}
use Rattle.chk_record_reader.proofs.Causes.{at_place}
use Rattle.chk_record_reader.proofs.SortedStream.{sorted_keeps}
use Rattle.chk_record_reader.proofs.SortedRuns.{order_keeps as run_keeps}
use Rattle.chk_join_sources.specs.Blocks.{head_in, StreamsRise}
use Rattle.chk_record_reader.proofs.MergedInto.{bytes_from as have_bytes, none_rises}
use Rattle.chk_record_index.proofs.Apart.{stream_not_before}

-- ---- the streams of heads in order rise

by_stream : WeakOrder head_before
by_stream =
    lex (λ (a b : Head). stream_lt a.key.stream b.key.stream)
    (λ (a b : Head). same_stream a.key.stream b.key.stream)
    (λ (a b : Head). nat_lt a.begin b.begin
    || (nat_eq a.begin b.begin && nat_lt a.key.seq b.key.seq))
    (tested_through (λ (a : Head). a.key.stream) stream_lt same_stream streams)
    (lex (λ (a b : Head). nat_lt a.begin b.begin) (λ (a b : Head). nat_eq a.begin b.begin)
    (λ (a b : Head). nat_lt a.key.seq b.key.seq)
    (tested_through (λ (a : Head). a.begin) nat_lt nat_eq numbers)
    (tested_through (λ (a : Head). a.key.seq) nat_lt nat_eq numbers).order)

sorted_rise : (hs : List Head) → Sorted head_before hs → StreamsRise hs
sorted_rise [] sorted i j less within = absurd (let z : ⊥ = omega (arith, within) in z)
sorted_rise (h ∷ hs) sorted i zero less within = absurd (let z : ⊥ = omega (arith, less) in z)
sorted_rise (h ∷ hs) sorted zero (suc j) less within =
    stream_not_before h (head_in hs j)
    (each_at (λ (k : Head). head_before k h ≡ false) hs (head_in hs j) sorted.0
    (at_place hs j no_head (omega (arith, within))))
sorted_rise (h ∷ hs) sorted (suc i) (suc j) less within =
    sorted_rise hs sorted.1 i j (omega (arith, less)) (omega (arith, within))

pub heads_rise : (hs : List Head) → StreamsRise (in_head_order hs)
heads_rise hs = sorted_rise (in_head_order hs) (sort_sorted head_before by_stream hs)

-- ---- putting heads in order leaves those of a stream

-- so putting all heads in order leaves those of a stream that goes on
pub order_keeps : (s : Stream) (es : List End) (most : ℕ) (held : Files) (ws : List (List ℕ))
    → GoesWell es (heads_from most held 0 ws) s
    → filter (is_head_of s) (in_head_order (heads_from most held 0 ws))
    ≡ filter (is_head_of s) (heads_from most held 0 ws)
order_keeps s es most held ws well = go (end_of s es) well.0
  where
    go : (o : Option End) → break_by s o (heads_from most held 0 ws) ≡ None
        → filter (is_head_of s) (in_head_order (heads_from most held 0 ws))
        ≡ filter (is_head_of s) (heads_from most held 0 ws)
    go None fine =
        sorted_keeps head_before (is_head_of s) (heads_from most held 0 ws)
        (none_rises s (heads_from most held 0 ws) fine)
    go (Some e) fine =
        run_keeps s e e.start (heads_from most held 0 ws) (have_bytes most held 0 ws) fine
