-- What the heads of an archive's records, in order, say of the archive.
use Rattle.std.proofs.Common.{◌≡◌, ℕ, zero, suc, ◌+◌, ◌<◌, false, ◌||◌, List, [], ◌∷◌, length, map}
use Rattle.std.proofs.Common.{Some, None, refl, ap, sym, subst, ◌∙◌, arith}
use Rattle.std.specs.Prelude.{filter, nat_lt, nat_eq, ◌&&◌}
use Rattle.chk_site.specs.Files.{Files}
use Rattle.chk_chunk.specs.Keys.{Stream, Chunk, same_stream, stream_lt, is_of}
use Rattle.chk_world.specs.TrueBooks.{HasBytes as HasRoom}
use Rattle.chk_world.specs.Books.{End, Book, chunks_of_stream, chunks_within, values}
use Rattle.chk_world.specs.Jobs.{Run}
use Rattle.chk_world.proofs.Each.{Each, each_at, each_filter}
use Rattle.chk_world.proofs.BooksTrue.{run_length, each_within, each_flat}
use Rattle.chk_record_index.specs.Heads.{Head}
use Rattle.chk_record_index.specs.Order.{no_head, head_before, in_head_order}
use Rattle.chk_record_index.specs.Pieces.{bytes_in}
use Rattle.chk_record_index.proofs.Orders.{WeakOrder, lex, tested_through, numbers, streams}
use Rattle.chk_record_index.proofs.Sorting.{Sorted, sort_sorted}
use Rattle.chk_book.specs.Folders.{most_in}
use Rattle.chk_record_reader.specs.Segments.{names_of, heads_from}
use Rattle.chk_record_reader.specs.Courses.{is_head_of, end_of, reached, first_break, IsBreakBy}
use Rattle.chk_record_reader.specs.Archives.{IsKnown, chunk_in}
use Rattle.chk_record_reader.proofs.AllRead.{known_from}
use Rattle.chk_record_reader.proofs.Joining.{chunks_from, begin_from, runs_from}
use Rattle.chk_record_reader.proofs.Causes.{at_place}
use Rattle.chk_join_sources.specs.declared.gathering.Side.{Side}
use Rattle.chk_join_sources.specs.Blocks.{head_in, stream_in, StreamsRise}
use Rattle.chk_join_sources.specs.Reading.{AreAmong}
use Rattle.chk_join_sources.specs.Choosing.{IsSideInOrder}
use Rattle.chk_join_sources.specs.Differing.{bytes_of}
use Rattle.chk_join.specs.Joined.{records_of_book}
use Rattle.chk_join.specs.Preparing.{IsGathered}
use Rattle.chk_record_reader.proofs.SortedStream.{each_sort}
use Rattle.chk_record_reader.proofs.SortedRuns.{order_keeps}
use Rattle.chk_join.proofs.Taken.{side_chunks, side_bytes}
use Rattle.chk_record_reader.proofs.HeadStreams.{chunks_of_heads}
use Rattle.chk_record_reader.proofs.MergedInto.{bytes_from as all_have_bytes}
use Rattle.chk_record_index.proofs.Apart.{stream_not_before as not_before}

-- ---- the streams of heads in order rise

by_stream : WeakOrder head_before
by_stream =
    lex (λ (a b : Head). stream_lt a.key.stream b.key.stream) (λ (a b : Head). same_stream a.key.stream b.key.stream)
    (λ (a b : Head). nat_lt a.begin b.begin || (nat_eq a.begin b.begin && nat_lt a.key.seq b.key.seq))
    (tested_through (λ (a : Head). a.key.stream) stream_lt same_stream streams)
    (lex (λ (a b : Head). nat_lt a.begin b.begin) (λ (a b : Head). nat_eq a.begin b.begin)
    (λ (a b : Head). nat_lt a.key.seq b.key.seq)
    (tested_through (λ (a : Head). a.begin) nat_lt nat_eq numbers)
    (tested_through (λ (a : Head). a.key.seq) nat_lt nat_eq numbers).order)

rises : (hs : List Head) → Sorted head_before hs → (i j : ℕ) → i < j → j < length hs
    → stream_lt (stream_in hs j) (stream_in hs i) ≡ false
rises [] sorted i j less within = absurd (let z : ⊥ = omega (arith, within) in z)
rises (h ∷ hs) sorted i zero less within = absurd (let z : ⊥ = omega (arith, less) in z)
rises (h ∷ hs) sorted zero (suc j) less within =
    not_before h (head_in hs j)
    (each_at (λ (k : Head). head_before k h ≡ false) hs (head_in hs j) sorted.0 (at_place hs j no_head (omega (arith, within))))
rises (h ∷ hs) sorted (suc i) (suc j) less within = rises hs sorted.1 i j (omega (arith, less)) (omega (arith, within))

pub heads_rise : (hs : List Head) → StreamsRise (in_head_order hs)
heads_rise hs i j less within = rises (in_head_order hs) (sort_sorted head_before by_stream hs) i j less within

-- ---- the heads have bytes

module _ (folder : List ℕ) (b : Book) (held : Files) where
  abbrev Names : List (List ℕ)
  Names = names_of folder b

  abbrev Most : ℕ
  Most = most_in folder

  abbrev Hs : List Head
  Hs = heads_from Most held 0 Names

  chunks : map (chunk_in Names held) Hs ≡ records_of_book folder b held
  chunks = chunks_from Most Names held 0 [] Names refl refl

  module _ (side : Side) (is : IsGathered folder b held side) where
    -- the side of a folder
    pub is_side : (all : List (List ℕ)) → AreAmong all Names → IsSideInOrder Most all held side
    is_side all among = record {
      side = record {
        among = subst (AreAmong all) (sym is.names_are) among;
        known = subst (λ ns. Each (IsKnown Most ns held) side.heads.now) (sym is.names_are)
            (subst (Each (IsKnown Most Names held)) (sym is.heads_are)
            (each_sort (IsKnown Most Names held) head_before Hs (known_from Most Names held 0 [] Names refl refl)));
      };
      rise = subst StreamsRise (sym is.heads_are) (heads_rise Hs);
    }

    -- a stream with an end
    module _ (s : Stream) (e : End) (has : end_of s b.ends ≡ Some e) where
      well : (first_break s e e.start Hs ≡ None) × (reached s e.start Hs ≡ e.end)
      well = subst (λ o. IsBreakBy s o Hs None) has (is.runs.well s)

      abbrev F : Head → Chunk
      F = chunk_in Names held

      -- its heads stand for its records
      pub stream_records : side_chunks side held s
          ≡ chunks_of_stream s (records_of_book folder b held)
      stream_records =
          ap (λ ns. map (chunk_in ns held) (filter (is_head_of s) side.heads.now)) is.names_are
          ∙ (ap (λ hs. map F (filter (is_head_of s) hs)) is.heads_are
          ∙ (ap (map F) (order_keeps s e e.start Hs (all_have_bytes Most held 0 Names) well.0)
          ∙ (sym (chunks_of_heads s F Hs (λ h. refl)) ∙ ap (chunks_of_stream s) chunks)))

      -- its bytes are the values of its records
      pub stream_bytes : bytes_of side held s ≡ values (chunks_of_stream s (records_of_book folder b held))
      stream_bytes = side_bytes side held s ∙ ap values stream_records

      pub stream_runs : Run e.start e.start (chunks_of_stream s (records_of_book folder b held)) e.end
      stream_runs =
          subst (λ cs. Run e.start e.start (chunks_of_stream s cs) e.end) chunks
          (subst (Run e.start e.start (chunks_of_stream s (map F Hs))) well.1
          (runs_from s e Names held e.start Hs (begin_from Most Names held 0 [] Names refl refl) well.0))

      pub stream_length : e.start + length (bytes_of side held s) ≡ e.end
      stream_length =
          ap (λ v. e.start + length v) stream_bytes
          ∙ run_length e.start e.start (chunks_of_stream s (records_of_book folder b held)) e.end
          (each_filter HasRoom (is_of s) (records_of_book folder b held)
          (each_flat HasRoom (λ w. chunks_within Most (bytes_in (held w))) Names (λ w. each_within Most (bytes_in (held w)))))
          stream_runs
