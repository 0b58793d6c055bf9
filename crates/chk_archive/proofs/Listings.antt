-- The files that a run reads are sound, and hold what it finds.
use Rattle.std.proofs.Common.{◌≡◌, ◌⊎◌, inl, inr, ℕ, zero, suc, Bool, true, false, cond, List, [], ◌∷◌, ◌++◌, Option, Some, None, ap, sym, subst, ◌∙◌, refl, arith, true≢false, if◌then◌else◌, append-nil, bytes_eq}
use Rattle.std.specs.Prelude.{IsSome, Contains, codes, filter, map, flat_map}
use Rattle.std.specs.List.{list_any}
use Rattle.std.proofs.lemmas.Bool.{and_from}
use Rattle.std.proofs.lemmas.Grind.{flat_map-append}
use Rattle.std.proofs.lemmas.List.Elements.{Contains-append_right}
use Rattle.chk_bytes.specs.Stems.{Stem, is_stem, is_count, stem_text}
use Rattle.chk_site.specs.Files.{File}
use Rattle.chk_site.specs.Effect.{IsSmallFile}
use Rattle.chk_site.specs.Honest.{in_folder}
use Rattle.chk_site.specs.History.{files_after}
use Rattle.chk_site.proofs.Small.{all_small}
use Rattle.chk_chunk.specs.Keys.{chunk_limit}
use Rattle.chk_world.specs.Names.{ArchiveFolder, Name, BookFile, SegmentFile, DoneFile, spell, read, file}
use Rattle.chk_world.specs.Books.{Segment, Book, book_in, AllChunks, chunks_within, chunks_in, segment_chunks, aside_in, book_of}
use Rattle.chk_world.specs.Committed.{OnFile, HasFile, sink_chunks, aside_chunks}
use Rattle.chk_world.specs.ArchiveRuns.{Listing, last_listing, is_closed, sink_path, listed_chunks, found}
use Rattle.chk_world.specs.DoneSinks.{IsDoneName}
use Rattle.chk_world.specs.Jobs.{IsSoundSegment, segment_list, all_segments}
use Rattle.chk_world.specs.Rules.{Legal}
use Rattle.chk_world.specs.Sight.{Sight, own_files, shows_done}
use Rattle.chk_world.proofs.NameLemmas.{read-spell, spell-read}
use Rattle.chk_world.proofs.Law.{shape}
use Rattle.chk_world.proofs.SmallFiles.{readable}
use Rattle.chk_world.specs.Laws.{IsDoneSink, wrote}
use Rattle.chk_world.proofs.Segments.{counts_in, none_in}
use Rattle.chk_world.proofs.BooksTrue.{books_stay_true}
use Rattle.chk_world.proofs.CompleteRuns.{listed}
use Rattle.chk_world.proofs.Each.{later_one}
use Rattle.chk_record_index.specs.Pieces.{bytes_in}
use Rattle.chk_book.specs.Folders.{segment_name}
use Rattle.chk_archive_parts.specs.Gathering.{held, held_at, CanBeRead, own_segment, shown_sink, IsSoundFile, AreSound}
use Rattle.chk_archive_parts.specs.Records.{chunks_held, found_in}
use Rattle.chk_archive_parts.proofs.OneFile.{file_known}
use Rattle.chk_archive_parts.proofs.OneSegment.{segment_spelled}
use Rattle.chk_archive.specs.FolderNames.{closed_in}
use Rattle.chk_archive.specs.Listed.{IsListed, sources_in}
use Rattle.chk_archive.proofs.SinksGo.{good_stem, in_any}
use Rattle.chk_world.proofs.LogEnds.{legal_modelled}
use Rattle.chk_record_reader.proofs.BothLimits.{limits_agree}

-- ---- lists

pub in_cons : (x : List ℕ) (xs : List (List ℕ)) (w : List ℕ) → Contains (x ∷ xs) w → (x ≡ w) ⊎ Contains xs w
in_cons x xs w (zero, low, is) = inl is
in_cons x xs w (suc k, low, is) = inr (k, omega (arith, low), is)

pub in_append : (xs ys : List (List ℕ)) (w : List ℕ) → Contains (xs ++ ys) w → Contains xs w ⊎ Contains ys w
in_append [] ys w one = inr one
in_append (x ∷ xs) ys w one = elim (in_cons x (xs ++ ys) w one) [
  | inl is ↦ inl (0, omega arith, is)
  | inr later ↦ elim (in_append xs ys w later) [
    | inl k ↦ inl (later_one x xs w k)
    | inr k ↦ inr k
  ]
]

-- ---- what the job knows at its listing

module _ (stamped : List (List ℕ)) (names : List (List ℕ)) (b : Book) (v : Sight)
    (at : IsListed stamped names b v) where
  abbrev pub L : Listing
  L = at.shows.listing

  last : last_listing at.history ≡ Some L
  last = ap (λ (u : Sight). u.listing) at.is ∙ at.shows.last

  pub legal_then : Legal stamped L.upto
  legal_then = (listed stamped at.history at.legal L last).legal

  -- its own files were the same then
  pub own_then : (n : Name) → own_files (files_after L.upto) n ≡ v.own n
  own_then n = at.shows.own_then n

  pub book_then : book_of (files_after L.upto) ArchiveFolder ≡ b
  book_then = ap book_in (own_then (BookFile ArchiveFolder)) ∙ at.book

  small_held : (w : List ℕ) → CanBeRead v (read w) → IsSmallFile (held v w)
  small_held w can = subst IsSmallFile (file_known v w can at.history at.is)
      ((all_small at.history (legal_modelled stamped at.history at.legal)).files w)

  -- ---- a segment that the book names

  module _ (g : Segment) (one : Contains (all_segments b) g) where
    pub counted : is_count g.number ≡ true
    counted =
        counts_in (file (files_after L.upto) (BookFile ArchiveFolder))
        ((readable stamped L.upto legal_then).books ArchiveFolder) g
        (subst (λ (c : Book). Contains (all_segments c) g) (sym book_then) one)

    abbrev W : List ℕ
    W = segment_name (codes "archive") g.number

    pub reads_segment : read W ≡ SegmentFile ArchiveFolder g.number
    reads_segment = ap read (segment_spelled g.number)
        ∙ read-spell (SegmentFile ArchiveFolder g.number) counted

    -- it is the file of then
    pub segment_held : held v W ≡ file (files_after L.upto) (SegmentFile ArchiveFolder g.number)
    segment_held =
        ap (held_at v) reads_segment
        ∙ (sym (own_then (SegmentFile ArchiveFolder g.number))
        ∙ ap (λ t. if t then file (files_after L.upto) (SegmentFile ArchiveFolder g.number) else None)
        counted)

    sound_then : HasFile (file (files_after L.upto) (SegmentFile ArchiveFolder g.number))
        (IsSoundSegment ArchiveFolder g)
    sound_then =
        (books_stay_true stamped L.upto legal_then ArchiveFolder).sound g
        (subst (λ (c : Book). Contains (all_segments c) g) (sym book_then) one)

    pub segment_sound : IsSoundFile v W
    segment_sound = go (file (files_after L.upto) (SegmentFile ArchiveFolder g.number)) refl sound_then
      where
        can_read : CanBeRead v (read W)
        can_read = subst (CanBeRead v) (sym reads_segment) (own_segment g.number counted)

        go : (o : Option File) → file (files_after L.upto) (SegmentFile ArchiveFolder g.number) ≡ o
            → HasFile o (IsSoundSegment ArchiveFolder g) → IsSoundFile v W
        go None e h = absurd h
        go (Some f) e h = record {
          can = can_read;
          file = f;
          there = segment_held ∙ e;
          chunks = h.chunks;
          small = small_held W can_read;
        }

    pub segment_chunks_are : chunks_held v W ≡ segment_chunks (files_after L.upto) ArchiveFolder g
    segment_chunks_are = go (file (files_after L.upto) (SegmentFile ArchiveFolder g.number)) refl sound_then
      where
        go : (o : Option File) → file (files_after L.upto) (SegmentFile ArchiveFolder g.number) ≡ o
            → HasFile o (IsSoundSegment ArchiveFolder g)
            → chunks_held v W ≡ segment_chunks (files_after L.upto) ArchiveFolder g
        go None e h = absurd h
        go (Some f) e h =
            ap (λ o. chunks_within chunk_limit (bytes_in o)) (segment_held ∙ e)
            ∙ (sym (limits_agree f.bytes h.chunks) ∙ ap chunks_in (sym e))

  -- ---- a done sink that the listing shows

  module _ (name : List ℕ) (one : Contains names name) (closed : is_closed name ≡ true) where
    pub done : IsDoneName name (read (sink_path name))
    done = at.shows.done name one closed

    abbrev X : Stem
    X = done.0

    known : is_stem X ≡ true
    known = good_stem (sink_path name) X done.1

    pub shown : shows_done v.listing X ≡ true
    shown =
        ap (λ l. shows_done l X) at.shows.last
        ∙ and_from (is_stem X) (list_any (bytes_eq (stem_text X ++ codes ".done")) L.names) known
        (in_any L.names (stem_text X ++ codes ".done")
        (subst (λ ns. Contains ns (stem_text X ++ codes ".done")) (sym at.shows.are)
        (subst (λ n. Contains names n) done.2 one)))

    -- it is the file of then
    pub sink_held : held v (sink_path name) ≡ files_after L.upto (sink_path name)
    sink_held =
        ap (held_at v) done.1
        ∙ (sym (at.shows.sinks_then X)
        ∙ (ap (λ t. if t then file (files_after L.upto) (DoneFile X) else None)
        (ap (λ l. shows_done l X) (sym at.shows.last) ∙ shown)
        ∙ ap (files_after L.upto) (sym (sym (spell-read (sink_path name)) ∙ ap spell done.1))))

    pub sink_sound : IsSoundFile v (sink_path name)
    sink_sound = go (files_after L.upto (sink_path name)) refl (at.shows.there name one)
      where
        can_read : CanBeRead v (read (sink_path name))
        can_read = subst (CanBeRead v) (sym done.1) (shown_sink X shown)

        spelled : sink_path name ≡ spell (DoneFile X)
        spelled = sym (spell-read (sink_path name)) ∙ ap spell done.1

        form : (f : File) → files_after L.upto (sink_path name) ≡ Some f → AllChunks chunk_limit f.bytes
        form f e =
            let s = (shape stamped L.upto legal_then X known).done in
            (subst (λ o. OnFile o (IsDoneSink (wrote X L.upto)))
            (ap (files_after L.upto) (sym spelled) ∙ e) s).chunks

        go : (o : Option File) → files_after L.upto (sink_path name) ≡ o → IsSome o
            → IsSoundFile v (sink_path name)
        go None e h = absurd (true≢false (sym h))
        go (Some f) e h = record {
          can = can_read;
          file = f;
          there = sink_held ∙ e;
          chunks = form f e;
          small = small_held (sink_path name) can_read;
        }

    pub sink_chunks_are : chunks_held v (sink_path name) ≡ sink_chunks (files_after L.upto (sink_path name))
    sink_chunks_are = go (files_after L.upto (sink_path name)) refl (at.shows.there name one)
      where
        go : (o : Option File) → files_after L.upto (sink_path name) ≡ o → IsSome o
            → chunks_held v (sink_path name) ≡ sink_chunks (files_after L.upto (sink_path name))
        go None e h = absurd (true≢false (sym h))
        go (Some f) e h =
            ap (λ o. chunks_within chunk_limit (bytes_in o)) (sink_held ∙ e) ∙ ap sink_chunks (sym e)

  -- ---- all of them

  closed_sound : (left : List (List ℕ)) → ((n : List ℕ) → Contains left n → Contains names n)
      → (w : List ℕ) → Contains (closed_in left) w → IsSoundFile v w
  closed_sound [] in_names w one = absurd (none_in w one)
  closed_sound (n ∷ ns) in_names w one =
      go (is_closed n) refl one (closed_sound ns (λ m k. in_names m (later_one n ns m k)) w)
    where
      go : (t : Bool) → is_closed n ≡ t
          → Contains (map (in_folder (codes "sinks")) (cond t (n ∷ filter is_closed ns) (filter is_closed ns))) w
          → (Contains (closed_in ns) w → IsSoundFile v w) → IsSoundFile v w
      go true e k rest = elim (in_cons (sink_path n) (closed_in ns) w k) [
        | inl is ↦ subst (IsSoundFile v) is (sink_sound n (in_names n (0, omega arith, refl)) e)
        | inr later ↦ rest later
      ]
      go false e k rest = rest k

  pub sources_sound : AreSound v (sources_in b names)
  sources_sound w one =
      elim (in_append (map (λ (g : Segment). segment_name (codes "archive") g.number) (segment_list b.aside))
      (closed_in names) w one) [
        | inl k ↦ aside_sound b.aside
            (λ g k. Contains-append_right b.segments (segment_list b.aside) g k) k
        | inr k ↦ closed_sound names (λ n k. k) w k
      ]
    where
      aside_sound : (o : Option Segment)
          → ((g : Segment) → Contains (segment_list o) g → Contains (all_segments b) g)
          → Contains (map (λ (g : Segment). segment_name (codes "archive") g.number) (segment_list o)) w
          → IsSoundFile v w
      aside_sound None of k = absurd (none_in w k)
      aside_sound (Some g) of k = elim (in_cons (segment_name (codes "archive") g.number) [] w k) [
        | inl is ↦ subst (IsSoundFile v) is (segment_sound g (of g (0, omega arith, refl)))
        | inr later ↦ absurd (none_in w later)
      ]

  closed_chunks : (left : List (List ℕ)) → ((n : List ℕ) → Contains left n → Contains names n)
      → found_in v (closed_in left) ≡ flat_map (listed_chunks (files_after L.upto)) left
  closed_chunks [] in_names = refl
  closed_chunks (n ∷ ns) in_names =
      go (is_closed n) refl (closed_chunks ns (λ m k. in_names m (later_one n ns m k)))
    where
      go : (t : Bool) → is_closed n ≡ t
          → found_in v (closed_in ns) ≡ flat_map (listed_chunks (files_after L.upto)) ns
          → found_in v (map (in_folder (codes "sinks")) (cond t (n ∷ filter is_closed ns) (filter is_closed ns)))
          ≡ (if t then sink_chunks (files_after L.upto (sink_path n)) else [])
          ++ flat_map (listed_chunks (files_after L.upto)) ns
      go true e rest =
          ap (λ l. l ++ found_in v (closed_in ns)) (sink_chunks_are n (in_names n (0, omega arith, refl)) e)
          ∙ ap (λ l. sink_chunks (files_after L.upto (sink_path n)) ++ l) rest
      go false e rest = rest

  aside_chunks_are : (o : Option Segment)
      → ((g : Segment) → Contains (segment_list o) g → Contains (all_segments b) g)
      → found_in v (map (λ (g : Segment). segment_name (codes "archive") g.number) (segment_list o))
      ≡ aside_in (files_after L.upto) ArchiveFolder o
  aside_chunks_are None of = refl
  aside_chunks_are (Some g) of =
      append-nil (chunks_held v (segment_name (codes "archive") g.number))
      ∙ segment_chunks_are g (of g (0, omega arith, refl))

  -- they hold what the run finds
  pub found_is : found_in v (sources_in b names) ≡ found L
  found_is =
      let asides = map (λ (g : Segment). segment_name (codes "archive") g.number) (segment_list b.aside) in
      flat_map-append (chunks_held v) asides (closed_in names)
      ∙ (ap (λ l. l ++ found_in v (closed_in names))
      (aside_chunks_are b.aside (λ g k. Contains-append_right b.segments (segment_list b.aside) g k)
      ∙ ap (λ (c : Book). aside_in (files_after L.upto) ArchiveFolder c.aside) (sym book_then))
      ∙ ap (λ l. aside_chunks (files_after L.upto) ++ l)
      (closed_chunks names (λ n k. k)
      ∙ ap (flat_map (listed_chunks (files_after L.upto))) (sym at.shows.are)))
