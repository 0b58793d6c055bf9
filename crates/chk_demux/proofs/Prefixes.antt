-- At every moment of a legal history the demultiplexed records of a stream are the first ones of its archive's split.
use Rattle.std.proofs.Common.{◌≡◌, ◌⊎◌, inl, inr, ℕ, Bool, true, false, List, [], ◌∷◌, ◌++◌, Some, ap, sym, subst, ◌∙◌, refl, append_assoc}
use Rattle.std.specs.Prelude.{Contains, filter, map, bytes_eq}
use Rattle.std.specs.List.{list_any}
use Rattle.chk_site.specs.History.{Step, History, files_after}
use Rattle.chk_chunk.specs.Keys.{Stream, Chunk, is_of}
use Rattle.chk_world.specs.Names.{ArchiveFolder, DemuxFolder, BookFile, file}
use Rattle.chk_world.specs.Checkpoints.{line_of}
use Rattle.chk_world.specs.Books.{End, Book, book_in, book_of, chunks_named, chunks_of_stream, values}
use Rattle.chk_world.specs.Streams.{Founding, founding, founded_by, or_else, start_at, start_of}
use Rattle.chk_world.specs.Committed.{archive_of_stream}
use Rattle.chk_world.specs.Jobs.{BookNamesSyncedSegments, Continues}
use Rattle.chk_world.specs.Splits.{Record, ends_from, record_in, split, records_named, demuxed_records}
use Rattle.chk_world.specs.Rules.{Legal}
use Rattle.chk_world.proofs.NameTests.{streams_same}
use Rattle.chk_world.proofs.Segments.{named_sound, names_segments, NamedAreSound, NewlyPublished, book_after, segment_stays, new_stays, chunks_same, book_is, archive_grows}
use Rattle.chk_world.proofs.BooksTrue.{books_stay_true}
use Rattle.chk_world.proofs.Each.{each_at, filter_each, filter_in, first_in}
use Rattle.chk_demux_split.proofs.RecordLemmas.{split_pieces, split_grows}
use Rattle.chk_demux_split.specs.Splitting.{pieces_of}

-- no bytes have no records
pub split_none : (stamped : List (List ℕ)) (s : Stream) (start : ℕ) → split stamped s start [] ≡ []
split_none stamped s start = split_pieces stamped s start [] ∙ by (list_any (bytes_eq s.kind) stamped)
  where
    by : (t : Bool) → ends_from start (pieces_of t []) ≡ []
    by true = refl
    by false = refl

-- the first ones of some first ones
on_and_on : (a b c : List Record) → Continues a b → Continues b c → Continues a c
on_and_on a b c p q = (p.0 ++ q.0, q.1 ∙ (ap (λ l. l ++ q.0) p.1 ∙ append_assoc a p.0 q.0))

-- a stream that has an archive has begun
pub has_begun : (stamped : List (List ℕ)) (history : History) → Legal stamped history → (s : Stream) (c : Chunk) (cs : List Chunk)
    → chunks_of_stream s (chunks_named (files_after history) ArchiveFolder (book_of (files_after history) ArchiveFolder)) ≡ c ∷ cs
    → (f : Founding) × (founding history s ≡ Some f)
has_begun stamped history legal s c cs is =
    let b = book_of (files_after history) ArchiveFolder in
    let all = chunks_named (files_after history) ArchiveFolder b in
    let t : BookNamesSyncedSegments ArchiveFolder history b = books_stay_true stamped history legal ArchiveFolder in
    let passed : Contains (filter (is_of s) all) c = first_in (filter (is_of s) all) c cs is in
    let of : is_of s c ≡ true = each_at (λ c. is_of s c ≡ true) (filter (is_of s) all) c (filter_each (is_of s) all) passed in
    let here = t.listed c (filter_in (is_of s) all c passed) in
    let e : End = here.1 in
    let h = t.starts e (here.0, here.2, here.3) in
    let stream : e.stream ≡ s = here.4 ∙ sym (streams_same s c.key.stream of) in
    (h.0, subst (λ u. founding history u ≡ Some h.0) stream h.1)

module _ (stamped : List (List ℕ)) (history : History) (step : Step) (legal : Legal stamped (step ∷ history)) (s : Stream) where
  abbrev Old : List ℕ
  Old = archive_of_stream (files_after history) s

  start_stays : (f : Founding) → founding history s ≡ Some f → start_of (step ∷ history) s ≡ start_of history s
  start_stays f is =
      ap (λ o. start_at (or_else o (founded_by (line_of step.files s) (step.logs s.name)))) is ∙ sym (ap start_at is)

  -- the split goes on as the archive grows
  split_on : Continues (split stamped s (start_of history s) Old)
      (split stamped s (start_of (step ∷ history) s) (archive_of_stream step.files s))
  split_on = go (chunks_of_stream s (chunks_named (files_after history) ArchiveFolder (book_of (files_after history) ArchiveFolder))) refl
    where
      go : (cs : List Chunk)
          → chunks_of_stream s (chunks_named (files_after history) ArchiveFolder (book_of (files_after history) ArchiveFolder)) ≡ cs
          → Continues (split stamped s (start_of history s) Old)
          (split stamped s (start_of (step ∷ history) s) (archive_of_stream step.files s))
      go [] is =
          let none : split stamped s (start_of history s) Old ≡ [] =
          ap (λ l. split stamped s (start_of history s) (values l)) is ∙ split_none stamped s (start_of history s) in
          let all = split stamped s (start_of (step ∷ history) s) (archive_of_stream step.files s) in
          (all, sym (ap (λ l. l ++ all) none))
      go (c ∷ cs) is =
          let f = has_begun stamped history legal.0 s c cs is in
          let grows = archive_grows stamped history step legal s in
          let more = split_grows stamped s (start_of history s) Old grows.0 in (
            more.0,
            ap (λ n. split stamped s n (archive_of_stream step.files s)) (start_stays f.0 f.1)
                ∙ (ap (split stamped s (start_of history s)) grows.1 ∙ more.1),
          )

  -- and so do the records
  records_on : Continues (demuxed_records (files_after history) s) (split stamped s (start_of history s) Old)
      → Continues (demuxed_records step.files s) (split stamped s (start_of history s) Old)
  records_on before = go (book_after stamped DemuxFolder history step legal).outcome
    where
      sound : NamedAreSound DemuxFolder (files_after history)
      sound = named_sound stamped history legal.0 DemuxFolder

      go : (file step.files (BookFile DemuxFolder) ≡ file (files_after history) (BookFile DemuxFolder))
          ⊎ NewlyPublished stamped DemuxFolder history step (file step.files (BookFile DemuxFolder))
          → Continues (demuxed_records step.files s) (split stamped s (start_of history s) Old)
      go (inl same) =
          let b = book_of (files_after history) DemuxFolder in
          let as_before = chunks_same step.files (files_after history) DemuxFolder b
          (λ g c. segment_stays stamped DemuxFolder history step legal sound g c) in
          subst (λ l. Continues l (split stamped s (start_of history s) Old))
          (sym (ap (λ c. records_named step.files c s) (ap book_in same)
          ∙ ap (λ l. map record_in (chunks_of_stream s l)) as_before)) before
      go (inr p) =
          let b : Book = p.book in
          let names : BookNamesSyncedSegments DemuxFolder history b = names_segments stamped DemuxFolder history b p.good in
          let as_before = chunks_same step.files (files_after history) DemuxFolder b
          (λ g c. new_stays stamped DemuxFolder history step legal p names g c) in
          let now = book_is (file step.files (BookFile DemuxFolder)) p.f b p.there p.is in
          subst (λ l. Continues l (split stamped s (start_of history s) Old))
          (sym (ap (λ c. records_named step.files c s) now
          ∙ ap (λ l. map record_in (chunks_of_stream s l)) as_before)) (p.good.1 s).are

pub records_are_the_split : (stamped : List (List ℕ)) (history : History) → Legal stamped history → (s : Stream)
    → Continues (demuxed_records (files_after history) s)
    (split stamped s (start_of history s) (archive_of_stream (files_after history) s))
records_are_the_split stamped [] legal s = (split stamped s 0 [], refl)
records_are_the_split stamped (step ∷ history) legal s =
    on_and_on (demuxed_records step.files s)
    (split stamped s (start_of history s) (archive_of_stream (files_after history) s))
    (split stamped s (start_of (step ∷ history) s) (archive_of_stream step.files s))
    (records_on stamped history step legal s (records_are_the_split stamped history legal.0 s))
    (split_on stamped history step legal s)
