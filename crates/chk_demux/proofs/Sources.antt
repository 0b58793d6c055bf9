-- What a run's parts suppose of what the job knows holds of it in a legal history.
use Rattle.std.proofs.Common.{◌≡◌, ℕ, zero, suc, ◌<◌, ◌≤◌, true, false, ◌||◌, List, [], ◌∷◌, ◌++◌, length, Option, Some, None, ap, ap₂, sym, subst, ◌∙◌, refl, arith, if◌then◌else◌}
use Rattle.std.specs.Prelude.{Contains, IsTrue, IsFalse, codes, map, flat_map, nat_lt, nat_eq, max}
use Rattle.std.specs.List.{list_all, list_any}
use Rattle.std.proofs.lemmas.Bool.{and_parts, and_from, ltb-true}
use Rattle.std.proofs.lemmas.List.Elements.{Contains-append_left}
use Rattle.std.proofs.lemmas.List.Folds.{list_all-append}
use Rattle.chk_bytes.specs.Stems.{is_count}
use Rattle.chk_site.specs.Files.{File, IsSettled}
use Rattle.chk_site.specs.Effect.{IsSmallFile}
use Rattle.chk_site.specs.History.{History, files_after}
use Rattle.chk_site.proofs.Small.{all_small}
use Rattle.chk_chunk.specs.Keys.{chunk_limit}
use Rattle.chk_world.specs.Names.{ArchiveFolder, DemuxFolder, BookFile, SegmentFile, read, file}
use Rattle.chk_world.specs.ArchiveRuns.{in_order}
use Rattle.chk_world.specs.Books.{Segment, Book, Version, book_in, book_of, chunks_within, chunks_in, segment_chunks, is_book, is_segment, segments_rise, is_end, ends_rise, is_aside, fits_version}
use Rattle.chk_world.specs.Committed.{OnFile, HasFile}
use Rattle.chk_world.specs.Jobs.{IsSoundSegment, segment_list, all_segments}
use Rattle.chk_world.specs.Laws.{IsWholeBook}
use Rattle.chk_world.specs.Rules.{Legal}
use Rattle.chk_world.specs.Sight.{Sight, sight, own_book}
use Rattle.chk_world.proofs.Each.{each_from, later_one}
use Rattle.chk_world.proofs.NameLemmas.{read-spell}
use Rattle.chk_world.proofs.SmallFiles.{readable}
use Rattle.chk_world.proofs.SpelledLemmas.{book_so}
use Rattle.chk_world.proofs.Segments.{counts_in, none_in, book_is}
use Rattle.chk_world.proofs.BooksTrue.{books_stay_true, each_named}
use Rattle.chk_record_index.specs.Order.{in_head_order}
use Rattle.chk_record_index.specs.Pieces.{bytes_in}
use Rattle.chk_book.specs.Folders.{segment_name}
use Rattle.chk_book.specs.Books.{end_in}
use Rattle.chk_record_reader.specs.Segments.{names_of, AreSettled}
use Rattle.chk_archive_parts.specs.Gathering.{held, held_at, CanBeRead, own_segment, IsSoundFile, AreSound, heads_of}
use Rattle.chk_archive_parts.specs.Records.{chunks_held, found_in, AreRecords}
use Rattle.chk_archive_parts.proofs.FoundRecords.{records_in_order}
use Rattle.chk_archive_parts.proofs.OneFile.{file_known}
use Rattle.chk_archive_parts.proofs.OneSegment.{segment_spelled}
use Rattle.chk_demux.specs.Demuxed.{all_named}
use Rattle.chk_demux.specs.Splitting.{split_from, RunsSo, SplitAll}
use Rattle.chk_demux.specs.Writes.{IsFree}
use Rattle.chk_world.proofs.LogEnds.{legal_modelled}
use Rattle.chk_record_reader.proofs.BothLimits.{limits_agree}

-- ---- chunks of at most so many bytes are chunks of at most more

-- ---- the archive's segments

module _ (stamped : List (List ℕ)) (history : History) (legal : Legal stamped history) where
  abbrev v : Sight
  v = sight history

  abbrev b : Book
  b = own_book v ArchiveFolder

  module _ (g : Segment) (one : Contains b.segments g) where
    named : Contains (all_segments b) g
    named = Contains-append_left b.segments (segment_list b.aside) g one

    counted : is_count g.number ≡ true
    counted =
        counts_in (file (files_after history) (BookFile ArchiveFolder)) ((readable stamped history legal).books ArchiveFolder) g named

    abbrev W : List ℕ
    W = segment_name (codes "archive") g.number

    reads_segment : read W ≡ SegmentFile ArchiveFolder g.number
    reads_segment = ap read (segment_spelled g.number) ∙ read-spell (SegmentFile ArchiveFolder g.number) counted

    segment_held : held v W ≡ file (files_after history) (SegmentFile ArchiveFolder g.number)
    segment_held =
        ap (held_at v) reads_segment
        ∙ ap (λ t. if t then file (files_after history) (SegmentFile ArchiveFolder g.number) else None) counted

    sound_now : HasFile (file (files_after history) (SegmentFile ArchiveFolder g.number)) (IsSoundSegment ArchiveFolder g)
    sound_now = (books_stay_true stamped history legal ArchiveFolder).sound g named

    segment_sound : IsSoundFile v W
    segment_sound = go (file (files_after history) (SegmentFile ArchiveFolder g.number)) refl sound_now
      where
        can_read : CanBeRead v (read W)
        can_read = subst (CanBeRead v) (sym reads_segment) (own_segment g.number counted)

        go : (o : Option File) → file (files_after history) (SegmentFile ArchiveFolder g.number) ≡ o
            → HasFile o (IsSoundSegment ArchiveFolder g) → IsSoundFile v W
        go None e h = absurd h
        go (Some f) e h = record {
          can = can_read;
          file = f;
          there = segment_held ∙ e;
          chunks = h.chunks;
          small = subst IsSmallFile (file_known v W can_read history refl)
              ((all_small history (legal_modelled stamped history legal)).files W);
        }

    segment_settled : IsSettled (held v W) × IsSmallFile (held v W)
    segment_settled = (go (file (files_after history) (SegmentFile ArchiveFolder g.number)) refl sound_now, segment_sound.small)
      where
        go : (o : Option File) → file (files_after history) (SegmentFile ArchiveFolder g.number) ≡ o
            → HasFile o (IsSoundSegment ArchiveFolder g) → IsSettled (held v W)
        go None e h = absurd h
        go (Some f) e h = subst IsSettled (sym (segment_held ∙ e)) (h.synced_is ∙ sym h.length_is)

    segment_chunks_are : chunks_held v W ≡ segment_chunks (files_after history) ArchiveFolder g
    segment_chunks_are = go (file (files_after history) (SegmentFile ArchiveFolder g.number)) refl sound_now
      where
        go : (o : Option File) → file (files_after history) (SegmentFile ArchiveFolder g.number) ≡ o
            → HasFile o (IsSoundSegment ArchiveFolder g)
            → chunks_held v W ≡ segment_chunks (files_after history) ArchiveFolder g
        go None e h = absurd h
        go (Some f) e h =
            ap (λ o. chunks_within chunk_limit (bytes_in o)) (segment_held ∙ e)
            ∙ (sym (limits_agree f.bytes h.chunks) ∙ ap chunks_in (sym e))

  -- the files that are read are sound
  pub archive_sound : AreSound v (names_of (codes "archive") b)
  archive_sound w one = go b.segments (λ g k. k) one
    where
      go : (gs : List Segment) → ((g : Segment) → Contains gs g → Contains b.segments g)
          → Contains (map (λ (g : Segment). segment_name (codes "archive") g.number) gs) w → IsSoundFile v w
      go [] of k = absurd (none_in w k)
      go (g ∷ gs) of (zero, low, is) = subst (IsSoundFile v) is (segment_sound g (of g (0, omega arith, refl)))
      go (g ∷ gs) of (suc k, low, is) = go gs (λ f m. of f (later_one g gs f m)) (k, omega (arith, low), is)

  -- and wholly on the disk
  pub archive_settled : AreSettled (names_of (codes "archive") b) (held v)
  archive_settled w one = go b.segments (λ g k. k) one
    where
      go : (gs : List Segment) → ((g : Segment) → Contains gs g → Contains b.segments g)
          → Contains (map (λ (g : Segment). segment_name (codes "archive") g.number) gs) w
          → IsSettled (held v w) × IsSmallFile (held v w)
      go [] of k = absurd (none_in w k)
      go (g ∷ gs) of (zero, low, is) =
          subst (λ x. IsSettled (held v x) × IsSmallFile (held v x)) is (segment_settled g (of g (0, omega arith, refl)))
      go (g ∷ gs) of (suc k, low, is) = go gs (λ f m. of f (later_one g gs f m)) (k, omega (arith, low), is)

  -- and hold just the archive's records
  pub archive_found : found_in v (names_of (codes "archive") b) ≡ all_named (files_after history) ArchiveFolder
  archive_found = go b.segments (λ g k. k)
    where
      go : (gs : List Segment) → ((g : Segment) → Contains gs g → Contains b.segments g)
          → flat_map (chunks_held v) (map (λ (g : Segment). segment_name (codes "archive") g.number) gs)
          ≡ flat_map (segment_chunks (files_after history) ArchiveFolder) gs
      go [] of = refl
      go (g ∷ gs) of =
          ap₂ (λ x y. x ++ y) (segment_chunks_are g (of g (0, omega arith, refl))) (go gs (λ f m. of f (later_one g gs f m)))

  pub archive_records : AreRecords v (names_of (codes "archive") b) (in_head_order (heads_of v 0 (names_of (codes "archive") b)))
      (in_order (all_named (files_after history) ArchiveFolder))
  archive_records =
      subst (λ cs. AreRecords v (names_of (codes "archive") b) (in_head_order (heads_of v 0 (names_of (codes "archive") b)))
      (in_order cs)) archive_found (records_in_order v (names_of (codes "archive") b) archive_sound)

  -- each of its streams runs
  pub archive_runs : (d : Book) → SplitAll (all_named (files_after history) ArchiveFolder) b.ends d
  archive_runs d =
      each_from (λ e. RunsSo (all_named (files_after history) ArchiveFolder) e (split_from d e)) b.ends
      (λ e one. record {
        bytes = each_named (files_after history) ArchiveFolder (book_of (files_after history) ArchiveFolder);
        first = e.start;
        run = (books_stay_true stamped history legal ArchiveFolder).ends e one;
        from_on = above e.start (end_in 0 d.ends e.stream);
      })
    where
      above : (m n : ℕ) → m ≤ max m n
      above m n = grind arith

-- ---- the next segment's number

segments_below : (w : Version) (b : Book) → is_book w b ≡ true → list_all (is_segment b.next) (all_segments b) ≡ true
segments_below w b h =
    let p1 = and_parts (is_count b.next) _ h in
    let p2 = and_parts (nat_lt (length b.segments) 4294967296) _ p1.1 in
    let p3 = and_parts (list_all (is_segment b.next) b.segments) _ p2.1 in
    let p4 = and_parts (segments_rise b.segments) _ p3.1 in
    let p5 = and_parts (nat_lt (length b.ends) 4294967296) _ p4.1 in
    let p6 = and_parts (list_all is_end b.ends) _ p5.1 in
    let p7 = and_parts (ends_rise b.ends) _ p6.1 in
    let p8 = and_parts (is_aside b.next b.segments b.aside) (fits_version w b) p7.1 in
    list_all-append (is_segment b.next) b.segments (segment_list b.aside) ∙ and_from _ _ p3.0 (aside_is b.aside p8.0)
  where
    aside_is : (o : Option Segment) → is_aside b.next b.segments o ≡ true → list_all (is_segment b.next) (segment_list o) ≡ true
    aside_is None e = refl
    aside_is (Some g) e = and_from _ _ (and_parts (is_segment b.next g) _ e).0 refl

none_named : (next : ℕ) (gs : List Segment) → list_all (is_segment next) gs ≡ true
    → list_any (λ (g : Segment). nat_eq g.number next) gs ≡ false
none_named next [] all = refl
none_named next (g ∷ gs) all =
    let p = and_parts (is_segment next g) (list_all (is_segment next) gs) all in
    let q = and_parts (is_count g.number) _ p.0 in
    let low : g.number < next = ltb-true g.number next (and_parts (nat_lt g.number next) _ q.1).0 in
    let first : nat_eq g.number next ≡ false = grind (arith, low) in
    ap (λ t. t || list_any (λ (g : Segment). nat_eq g.number next) gs) first ∙ none_named next gs p.1

free_in : (o : Option File) → OnFile o IsWholeBook → IsTrue (is_count (book_in o).next)
    × IsFalse (list_any (λ (g : Segment). nat_eq g.number (book_in o).next) (all_segments (book_in o)))
free_in None w = (refl, refl)
free_in (Some f) w =
    let so = book_so f.bytes w.book w.is in
    subst (λ (x : Book). IsTrue (is_count x.next) × IsFalse (list_any (λ (g : Segment). nat_eq g.number x.next) (all_segments x)))
    (sym (book_is (Some f) f w.book refl w.is))
    ((and_parts (is_count w.book.next) _ so.1).0, none_named w.book.next (all_segments w.book) (segments_below so.0 w.book so.1))

-- the records' next segment can be written
pub records_free : (stamped : List (List ℕ)) (history : History) → Legal stamped history
    → IsFree (sight history) (own_book (sight history) DemuxFolder).next
records_free stamped history legal =
    let x = free_in (file (files_after history) (BookFile DemuxFolder)) ((readable stamped history legal).books DemuxFolder) in
    record { next = refl; count = x.0; unnamed = x.1 }
