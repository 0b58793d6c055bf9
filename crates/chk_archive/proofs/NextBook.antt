-- The next book of a run may be published, and says what the run took.
use Rattle.std.proofs.Common.{◌≡◌, ◌⊎◌, inl, inr, ℕ, zero, suc, ◌+◌, ◌<◌, Bool, true, false, cond, List, [], ◌∷◌, ◌++◌, length, Option, Some, None, ap, sym, subst, ◌∙◌, refl, arith, if◌then◌else◌, append-nil, length-append}
use Rattle.std.specs.Prelude.{Any, Contains, filter, flat_map, nat_lt}
use Rattle.std.proofs.lemmas.Grind.{flat_map-append}
use Rattle.std.proofs.lemmas.Option.{none-some}
use Rattle.std.proofs.lemmas.List.Elements.{filter-append, Contains-append_left, Contains-append_right}
use Rattle.chk_bytes.specs.Stems.{Stem, is_count}
use Rattle.chk_site.specs.Files.{File, Files}
use Rattle.chk_site.specs.History.{History, files_after}
use Rattle.chk_chunk.specs.Keys.{Stream, Chunk, is_of, chunk_end}
use Rattle.chk_world.specs.Names.{ArchiveFolder, BookFile, SegmentFile, DoneFile, file}
use Rattle.chk_world.specs.Books.{Segment, End, Book, book_of, chunks_in, segment_chunks, chunks_named, chunks_of_stream, values, aside_in}
use Rattle.chk_world.specs.Committed.{HasFile, aside_chunks, archive_of_stream, archived_end}
use Rattle.chk_world.specs.Streams.{start_of}
use Rattle.chk_world.specs.ArchiveRuns.{with_end, last_listing, in_order, found, once}
use Rattle.chk_world.specs.Jobs.{IsSoundSegment, BookNamesSyncedSegments, segment_list, all_segments, aside_after, NewBook}
use Rattle.chk_world.specs.Rules.{Legal}
use Rattle.chk_world.specs.Sight.{Sight, sight, shows_done}
use Rattle.chk_world.specs.TrueBooks.{HasBytes}
use Rattle.chk_world.proofs.Each.{Each, first_in, each_from, each_as, each_at, each_filter, filter_in, filter_each}
use Rattle.chk_world.proofs.NameTests.{streams_same}
use Rattle.chk_world.proofs.SmallFiles.{readable}
use Rattle.chk_world.proofs.Segments.{chunks_same, aside_same, counts_in, none_in, values_append}
use Rattle.chk_world.proofs.BooksTrue.{books_stay_true, has_start_is}
use Rattle.chk_world.proofs.KeptTrue.{source_true}
use Rattle.chk_world.proofs.OwnArchive.{own_aside_is}
use Rattle.chk_archive_plan.specs.Plan.{goes_on, part_past, parts_from, reached_from, parts_of, ends_of, is_past, set_aside}
use Rattle.chk_archive_plan.specs.NextBooks.{StartsSo, NamesParts, AsideIs}
use Rattle.chk_archive_plan.proofs.Parts.{ends_at, parts_at}
use Rattle.chk_archive_plan.proofs.SetAside.{run_may}
use Rattle.chk_archive_plan.proofs.Runs.{all_put}
use Rattle.chk_archive_plan.proofs.Gives.{gain_from}
use Rattle.chk_book.specs.Segmenting.{end_of, raised_all}
use Rattle.chk_archive_parts.specs.Writes.{HoldsChunks}
use Rattle.chk_archive.specs.Listed.{IsListed}
use Rattle.chk_archive.specs.Taking.{PartsAdded, nothing_taken, one_added, AsideNamed, none_kept, old_kept, new_kept}
use Rattle.chk_archive.proofs.Listings.{legal_then, own_then, book_then}
use Rattle.chk_record_reader.proofs.BothLimits.{limits_agree}
use Rattle.chk_archive.proofs.FoundSources.{K, then_files, StillThere, source_found, are_found, founded, found_bytes, true_book, listed_end}
use Rattle.chk_archive_parts.proofs.InTurn.{from_both}
use Rattle.chk_archive.specs.Numbers.{Numbered}
use Rattle.chk_archive.proofs.BookFacts.{numbered}
use Rattle.chk_archive_parts.proofs.EndsInOrder.{sorted, Has, has_any, any_has}
use Rattle.chk_archive.proofs.ByStream.{SameByStream, each_by_stream}
use Rattle.chk_archive.proofs.RaisedEnds.{EndsAre, ends_by, pass_ends, same_ends, ends_follow, starts_follow, all_listed, parts_listed}

known_file : (t : Bool) (o : Option File) (f : File) → (if t then o else None) ≡ Some f → o ≡ Some f
known_file true o f e = e
known_file false o f e = absurd (none-some f e)

-- the key of a part is that of a chunk
part_keys : (P : Stream → ℕ → Type 0) (ends : Stream → ℕ) (cs : List Chunk)
    → Each (λ (c : Chunk). P c.key.stream c.key.start) cs
    → Each (λ (c : Chunk). P c.key.stream c.key.start) (parts_of ends cs)
part_keys P ends [] all = tt
part_keys P ends (c ∷ cs) all =
    go (goes_on (ends c.key.stream) c)
    (part_keys P (with_end ends c.key.stream (chunk_end c)) cs all.1)
    (part_keys P ends cs all.1)
  where
    go : (t : Bool)
        → Each (λ (c : Chunk). P c.key.stream c.key.start)
        (parts_of (with_end ends c.key.stream (chunk_end c)) cs)
        → Each (λ (c : Chunk). P c.key.stream c.key.start) (parts_of ends cs)
        → Each (λ (c : Chunk). P c.key.stream c.key.start) (elim t as (λ t. List Chunk) [
          | true ↦ part_past (ends c.key.stream) c
              ∷ parts_of (with_end ends c.key.stream (chunk_end c)) cs
          | false ↦ parts_of ends cs
        ])
    go true on off = (all.0, on)
    go false on off = off

module _ (stamped : List (List ℕ)) (names : List (List ℕ)) (b : Book) (v : Sight)
    (at : IsListed stamped names b v) where
  abbrev pub Ends : Stream → ℕ
  Ends = archived_end (K stamped names b v at).upto

  abbrev pub Cs : List Chunk
  Cs = in_order (found (K stamped names b v at))

  abbrev T : Files
  T = then_files stamped names b v at

  pub facts : Numbered b
  facts = subst Numbered (book_then stamped names b v at)
      (numbered (file T (BookFile ArchiveFolder))
      ((readable stamped (K stamped names b v at).upto (legal_then stamped names b v at)).books ArchiveFolder))

  counted : (g : Segment) → Contains (all_segments b) g → is_count g.number ≡ true
  counted g one =
      counts_in (file T (BookFile ArchiveFolder))
      ((readable stamped (K stamped names b v at).upto (legal_then stamped names b v at)).books ArchiveFolder) g
      (subst (λ (c : Book). Contains (all_segments c) g) (sym (book_then stamped names b v at)) one)

  -- ---- a later moment, at which nothing that counts has changed

  module _ (h : History) (same_sinks : (x : Stem) → (sight h).sinks x ≡ v.sinks x)
      (same_old : (k : ℕ) → k < b.next
      → (sight h).own (SegmentFile ArchiveFolder k) ≡ v.own (SegmentFile ArchiveFolder k)) where
    abbrev F : Files
    F = files_after h

    old_file : (g : Segment) → Contains (all_segments b) g
        → file F (SegmentFile ArchiveFolder g.number) ≡ file T (SegmentFile ArchiveFolder g.number)
    old_file g one =
        let count = counted g one in
        let small = facts.below g one in
        sym (ap (λ t. if t then file F (SegmentFile ArchiveFolder g.number) else None) count)
        ∙ (same_old g.number small
        ∙ (sym (own_then stamped names b v at (SegmentFile ArchiveFolder g.number))
        ∙ ap (λ t. if t then file T (SegmentFile ArchiveFolder g.number) else None) count))

    named_now : chunks_named F ArchiveFolder b ≡ chunks_named T ArchiveFolder b
    named_now = chunks_same F T ArchiveFolder b old_file

    old_archive : (s : Stream) → values (chunks_of_stream s (chunks_named F ArchiveFolder b)) ≡ archive_of_stream T s
    old_archive s =
        ap (λ l. values (chunks_of_stream s l)) named_now
        ∙ ap (λ (c : Book). values (chunks_of_stream s (chunks_named T ArchiveFolder c)))
        (sym (book_then stamped names b v at))

    -- a segment that was written
    new_file : (g : Segment) (cs : List Chunk) → (w : HoldsChunks (sight h) g cs)
        → file F (SegmentFile ArchiveFolder g.number) ≡ Some w.file
    new_file g cs w = known_file (is_count g.number) (file F (SegmentFile ArchiveFolder g.number)) w.file w.there

    new_chunks : (g : Segment) (cs : List Chunk) → HoldsChunks (sight h) g cs
        → segment_chunks F ArchiveFolder g ≡ cs
    new_chunks g cs w = ap chunks_in (new_file g cs w) ∙ (limits_agree w.file.bytes w.is.form ∙ w.is.are)

    -- the named records are the old ones and the parts
    all_named : (new : Book) (parts : List Chunk) → PartsAdded (sight h) b new parts
        → chunks_named F ArchiveFolder new ≡ chunks_named F ArchiveFolder b ++ parts
    all_named new parts (nothing_taken none segments ends) =
        ap (flat_map (segment_chunks F ArchiveFolder)) segments
        ∙ (sym (append-nil (chunks_named F ArchiveFolder b)) ∙ ap (λ l. chunks_named F ArchiveFolder b ++ l) (sym none))
    all_named new parts (one_added g low some w segments ends) =
        ap (flat_map (segment_chunks F ArchiveFolder)) segments
        ∙ (flat_map-append (segment_chunks F ArchiveFolder) b.segments (g ∷ [])
        ∙ ap (λ l. chunks_named F ArchiveFolder b ++ l)
        (append-nil (segment_chunks F ArchiveFolder g) ∙ new_chunks g parts w))

    of_stream : (new : Book) (parts : List Chunk) → PartsAdded (sight h) b new parts
        → SameByStream parts (parts_of Ends Cs)
        → (s : Stream) → chunks_of_stream s (chunks_named F ArchiveFolder new)
        ≡ chunks_of_stream s (chunks_named F ArchiveFolder b) ++ parts_from (Ends s) (filter (is_of s) Cs)
    of_stream new parts added parts_are s =
        ap (filter (is_of s)) (all_named new parts added)
        ∙ (filter-append (is_of s) (chunks_named F ArchiveFolder b) parts
        ∙ ap (λ l. chunks_of_stream s (chunks_named F ArchiveFolder b) ++ l)
        (parts_are s ∙ parts_at Ends Cs s))

    -- how far the archives go by a book with the parts
    pub now_reached : (new : Book) (parts : List Chunk) → PartsAdded (sight h) b new parts
        → SameByStream parts (parts_of Ends Cs)
        → (s : Stream) → start_of (K stamped names b v at).upto s
        + length (values (chunks_of_stream s (chunks_named F ArchiveFolder new)))
        ≡ ends_of Ends Cs s
    now_reached new parts added parts_are s =
        let cs = filter (is_of s) Cs in
        let all = ap (λ l. length (values l)) (of_stream new parts added parts_are s) in
        let both = ap length (values_append (chunks_of_stream s (chunks_named F ArchiveFolder b)) (parts_from (Ends s) cs))
        ∙ length-append (values (chunks_of_stream s (chunks_named F ArchiveFolder b))) (values (parts_from (Ends s) cs)) in
        let gain = gain_from (Ends s) cs
        (each_filter HasBytes (is_of s) Cs
        (each_from HasBytes Cs (λ c one. found_bytes stamped names b v at c (all_put (found (K stamped names b v at)) c one)))) in
        let size = ap length (old_archive s) in
        let end = ends_at Ends Cs s in
        omega (arith, all, both, gain, size, end)

  -- ---- and at which the archive has the book still

  module _ (h : History) (same_sinks : (x : Stem) → (sight h).sinks x ≡ v.sinks x)
      (same_old : (k : ℕ) → k < b.next
      → (sight h).own (SegmentFile ArchiveFolder k) ≡ v.own (SegmentFile ArchiveFolder k))
      (book_now : book_of (files_after h) ArchiveFolder ≡ b) where
    abbrev N : Files
    N = files_after h

    asides_now : aside_chunks N ≡ aside_chunks T
    asides_now =
        ap (λ (c : Book). aside_in N ArchiveFolder c.aside) book_now
        ∙ (aside_same N T ArchiveFolder b.aside
        (λ g k. old_file h same_sinks same_old g (Contains-append_right b.segments (segment_list b.aside) g k))
        ∙ ap (λ (c : Book). aside_in T ArchiveFolder c.aside) (sym (book_then stamped names b v at)))

    pub still : StillThere stamped names b v at N
    still = record {
      sinks = λ x f e. known_file
          (shows_done (last_listing h) x) (file N (DoneFile x)) f
          (same_sinks x ∙ e);
      asides = asides_now;
    }

    archive_now : (s : Stream) → archive_of_stream N s ≡ archive_of_stream T s
    archive_now s =
        ap (λ (c : Book). values (chunks_of_stream s (chunks_named N ArchiveFolder c))) book_now
        ∙ old_archive h same_sinks same_old s

    -- where a chunk of the stream was found, its archive ends where it did
    end_now : Legal stamped h → (c : Chunk) → Contains (found (K stamped names b v at)) c
        → archived_end h c.key.stream ≡ Ends c.key.stream
    end_now legal c one =
        let was = (founded stamped names b v at c one).is_true.start in
        let now = (source_true stamped h legal c (source_found stamped names b v at N still c one)).is_true.start in
        let size : length (archive_of_stream N c.key.stream) ≡ length (archive_of_stream T c.key.stream) =
        ap length (archive_now c.key.stream) in
        omega (arith, was, now, size)

    reached_now : Legal stamped h → (s : Stream)
        → (archived_end h s ≡ Ends s) ⊎ (filter (is_of s) Cs ≡ [])
    reached_now legal s = go (filter (is_of s) Cs) refl
      where
        go : (l : List Chunk) → filter (is_of s) Cs ≡ l → (archived_end h s ≡ Ends s) ⊎ (l ≡ [])
        go [] e = inr refl
        go (c ∷ l) e =
            let one : Contains (filter (is_of s) Cs) c = first_in (filter (is_of s) Cs) c l e in
            let of = each_at (λ c. is_of s c ≡ true) (filter (is_of s) Cs) c (filter_each (is_of s) Cs) one in
            let there = all_put (found (K stamped names b v at)) c (filter_in (is_of s) Cs c one) in
            inl (subst (λ t. archived_end h t ≡ Ends t)
            (sym (streams_same s c.key.stream of)) (end_now legal c there))

    -- ---- the next book, at such a moment

    module _ (legal : Legal stamped h) (new : Book) (parts kept : List Chunk)
        (added : PartsAdded (sight h) b new parts) (aside_named : AsideNamed (sight h) b new kept)
        (parts_are : SameByStream parts (parts_of Ends Cs))
        (kept_are : kept ≡ set_aside (ends_of Ends Cs) Cs) where
      old_book : BookNamesSyncedSegments ArchiveFolder h b
      old_book = subst (BookNamesSyncedSegments ArchiveFolder h) book_now
          (books_stay_true stamped h legal ArchiveFolder)

      new_sound : (g : Segment) (cs : List Chunk) → HoldsChunks (sight h) g cs
          → HasFile (file N (SegmentFile ArchiveFolder g.number)) (IsSoundSegment ArchiveFolder g)
      new_sound g cs w =
          subst (λ o. HasFile o (IsSoundSegment ArchiveFolder g)) (sym (new_file h same_sinks same_old g cs w))
          (record {
            length_is = sym w.size;
            synced_is = w.synced ∙ sym w.size;
            chunks = w.is.form;
          })

      named : chunks_named N ArchiveFolder new ≡ chunks_named N ArchiveFolder b ++ parts
      named = all_named h same_sinks same_old new parts added

      -- the pass from the ends of now is that from the ends of then
      same_parts : (s : Stream) → parts_from (Ends s) (filter (is_of s) Cs)
          ≡ parts_from (archived_end h s) (filter (is_of s) Cs)
      same_parts s = elim (reached_now legal s) [
        | inl is ↦ ap (λ n. parts_from n (filter (is_of s) Cs)) (sym is)
        | inr none ↦ ap (parts_from (Ends s)) none ∙ sym (ap (parts_from (archived_end h s)) none)
      ]

      same_reach : (c : Chunk) → Contains Cs c → ends_of Ends Cs c.key.stream ≡ ends_of (archived_end h) Cs c.key.stream
      same_reach c one =
          let s = c.key.stream in
          ends_at Ends Cs s
          ∙ (ap (λ n. reached_from n (filter (is_of s) Cs))
          (sym (end_now legal c (all_put (found (K stamped names b v at)) c one)))
          ∙ sym (ends_at (archived_end h) Cs s))

      -- ---- the ends

      old_ends : EndsAre Ends b.ends
      old_ends = each_from (λ (e : End). e.end ≡ Ends e.stream) b.ends (listed_end stamped names b v at)

      all_ends : EndsAre (ends_of Ends Cs) (raised_all parts b.ends)
      all_ends =
          each_as (λ (e : End). e.end ≡ ends_by Ends parts e.stream) (λ (e : End). e.end ≡ ends_of Ends Cs e.stream)
          (raised_all parts b.ends)
          (λ e is. is ∙ (same_ends Ends parts (parts_of Ends Cs) parts_are e.stream
          ∙ ap (λ (f : Stream → ℕ). f e.stream) (pass_ends Ends Cs)))
          (ends_follow Ends parts b.ends (sorted b.ends facts.rise) old_ends)

      abbrev Start : End → Type 0
      Start e = StartsSo b Cs e

      old_starts : Each Start b.ends
      old_starts = each_from Start b.ends (λ e one. inl (one.0, e, one.1, one.2, (refl, refl)))

      new_starts : Each (λ (c : Chunk). Start (end_of c)) parts
      new_starts =
          each_by_stream (λ (c : Chunk). Start (end_of c)) parts (parts_of Ends Cs) parts_are
          (part_keys
          (λ s n. Any (λ (f : End). (f.stream ≡ s) × (f.start ≡ n)) b.ends
          ⊎ Any (λ (d : Chunk). (d.key.stream ≡ s) × (d.key.start ≡ n)) Cs) Ends Cs
          (each_from (λ (c : Chunk). Start (end_of c)) Cs (λ c one. inr (one.0, c, one.1, one.2, (refl, refl)))))

      all_starts : Each Start (raised_all parts b.ends)
      all_starts = starts_follow Start (λ e n p. p) parts b.ends old_starts new_starts

      all_are : (es : List End) → es ≡ raised_all parts b.ends → (e : End) → Contains es e
          → StartsSo b Cs e × (e.end ≡ ends_of Ends Cs e.stream)
      all_are es is e one =
          let k = subst (λ l. Contains l e) is one in (
            each_at Start (raised_all parts b.ends) e all_starts k,
            each_at (λ (e : End). e.end ≡ ends_of Ends Cs e.stream) (raised_all parts b.ends) e all_ends k,
          )

      new_ends : new.ends ≡ raised_all parts b.ends
      new_ends = go added
        where
          go : PartsAdded (sight h) b new parts → new.ends ≡ raised_all parts b.ends
          go (nothing_taken none segments ends) = ends ∙ ap (λ l. raised_all l b.ends) (sym none)
          go (one_added g low some w segments ends) = ends

      -- the stream's archive ends where it did
      end_of_start : (e : End) → StartsSo b Cs e → archived_end h e.stream ≡ Ends e.stream
      end_of_start e (inl k) =
          let f : End = k.1 in
          let one : Contains b.ends f = (k.0, k.2, k.3) in
          let was = has_start_is (K stamped names b v at).upto f ((true_book stamped names b v at).starts f one) in
          let now = has_start_is h f (old_book.starts f one) in
          let size : length (archive_of_stream N f.stream) ≡ length (archive_of_stream T f.stream) =
          ap length (archive_now f.stream) in
          let same_end : archived_end h f.stream ≡ Ends f.stream = omega (arith, was, now, size) in
          subst (λ s. archived_end h s ≡ Ends s) k.4.0 same_end
      end_of_start e (inr k) =
          subst (λ s. archived_end h s ≡ Ends s) k.4.0
          (end_now legal k.1 (all_put (found (K stamped names b v at)) k.1 (k.0, k.2, k.3)))

      end_reached : (e : End) → StartsSo b Cs e → e.end ≡ ends_of Ends Cs e.stream
          → e.end ≡ reached_from (archived_end h e.stream) (filter (is_of e.stream) Cs)
      end_reached e starts is =
          is ∙ (ends_at Ends Cs e.stream
          ∙ ap (λ m. reached_from m (filter (is_of e.stream) Cs)) (sym (end_of_start e starts)))

      -- ---- it names sound segments

      each_sound : (g : Segment) → Contains (all_segments new) g
          → HasFile (file N (SegmentFile ArchiveFolder g.number)) (IsSoundSegment ArchiveFolder g)
      each_sound g one = elim (from_both new.segments (segment_list new.aside) g one) [
        | inl k ↦ of_parts added k
        | inr k ↦ of_aside aside_named k
      ]
        where
          only : (f g : Segment) → Contains (f ∷ []) g → f ≡ g
          only f g (zero, low, at) = at
          only f g (suc k, low, at) = absurd (let z : ⊥ = omega (arith, low) in z)

          of_parts : PartsAdded (sight h) b new parts → Contains new.segments g
              → HasFile (file N (SegmentFile ArchiveFolder g.number)) (IsSoundSegment ArchiveFolder g)
          of_parts (nothing_taken none segments ends) k =
              old_book.sound g (Contains-append_left b.segments (segment_list b.aside) g
              (subst (λ l. Contains l g) segments k))
          of_parts (one_added f low some w segments ends) k =
              elim (from_both b.segments (f ∷ []) g (subst (λ l. Contains l g) segments k)) [
                | inl old ↦ old_book.sound g (Contains-append_left b.segments (segment_list b.aside) g old)
                | inr last ↦ subst (λ (x : Segment). HasFile (file N (SegmentFile ArchiveFolder x.number)) (IsSoundSegment ArchiveFolder x))
                    (only f g last) (new_sound f parts w)
              ]

          of_aside : AsideNamed (sight h) b new kept → Contains (segment_list new.aside) g
              → HasFile (file N (SegmentFile ArchiveFolder g.number)) (IsSoundSegment ArchiveFolder g)
          of_aside (none_kept none aside) k =
              absurd (none_in g (subst (λ o. Contains (segment_list o) g) aside k))
          of_aside (old_kept same_aside aside) k =
              old_book.sound g (Contains-append_right b.segments (segment_list b.aside) g
              (subst (λ o. Contains (segment_list o) g) aside k))
          of_aside (new_kept f low w aside) k =
              subst (λ (x : Segment). HasFile (file N (SegmentFile ArchiveFolder x.number)) (IsSoundSegment ArchiveFolder x))
              (only f g (subst (λ o. Contains (segment_list o) g) aside k)) (new_sound f kept w)

      each_listed : (c : Chunk) → Contains (chunks_named N ArchiveFolder new) c
          → Any (λ (e : End). e.stream ≡ c.key.stream) new.ends
      each_listed c one =
          subst (Any (λ (e : End). e.stream ≡ c.key.stream)) (sym new_ends)
          (any_has c.key.stream (raised_all parts b.ends)
          (elim (from_both (chunks_named N ArchiveFolder b) parts c (subst (λ l. Contains l c) named one)) [
            | inl old ↦ all_listed c.key.stream parts b.ends (has_any c.key.stream b.ends (old_book.listed c old))
            | inr part ↦ each_at (λ (c : Chunk). Has c.key.stream (raised_all parts b.ends)) parts c
                (parts_listed parts b.ends) part
          ]))

      names_parts : NamesParts h b new Cs
      names_parts = record {
        sound = each_sound;
        chunks = λ s. of_stream h same_sinks same_old new parts added parts_are s ∙ ap (λ l. chunks_of_stream s (chunks_named N ArchiveFolder b) ++ l) (same_parts s);
        listed = each_listed;
        starts = λ e one. (all_are new.ends new_ends e one).0;
        ends = λ e one. let k = all_are new.ends new_ends e one in end_reached e k.0 k.1;
      }

      -- ---- what is set aside

      aside_is_kept : aside_after h new ≡ kept
      aside_is_kept = go aside_named
        where
          go : AsideNamed (sight h) b new kept → aside_after h new ≡ kept
          go (none_kept none aside) = ap (aside_in N ArchiveFolder) aside ∙ sym none
          go (old_kept same_aside aside) =
              ap (aside_in N ArchiveFolder) aside
              ∙ (ap (λ (c : Book). aside_in N ArchiveFolder c.aside) (sym book_now)
              ∙ (sym (own_aside_is stamped h legal) ∙ same_aside))
          go (new_kept g low w aside) = ap (aside_in N ArchiveFolder) aside ∙ new_chunks h same_sinks same_old g kept w

      same_past : (cs : List Chunk) → Each (λ c. ends_of Ends Cs c.key.stream ≡ ends_of (archived_end h) Cs c.key.stream) cs
          → filter (is_past (ends_of Ends Cs)) cs ≡ filter (is_past (ends_of (archived_end h) Cs)) cs
      same_past [] all = refl
      same_past (c ∷ cs) all =
          ap (λ n. cond (nat_lt n (chunk_end c)) (c ∷ filter (is_past (ends_of Ends Cs)) cs) (filter (is_past (ends_of Ends Cs)) cs)) all.0
          ∙ ap (λ l. cond (nat_lt (ends_of (archived_end h) Cs c.key.stream) (chunk_end c)) (c ∷ l) l) (same_past cs all.1)

      aside_so : AsideIs h new Cs
      aside_so =
          aside_is_kept ∙ (kept_are
          ∙ ap once (same_past Cs
          (each_from (λ c. ends_of Ends Cs c.key.stream ≡ ends_of (archived_end h) Cs c.key.stream) Cs same_reach)))

      -- so it may be published
      pub may_follow : NewBook stamped ArchiveFolder h new
      may_follow =
          run_may stamped h legal b new book_now Cs (are_found stamped names b v at h still) names_parts aside_so
