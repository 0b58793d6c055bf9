-- What stands once the listed done sinks are removed makes the run that the report says.
use Rattle.std.proofs.Common.{◌≡◌, ℕ, ◌+◌, ◌<◌, ◌≤◌, ◌^◌, Bool, true, false, List, [], ◌∷◌, ◌++◌, length, Option, Some, None, ap, refl, append-nil, sym, subst, ◌∙◌, arith, if◌then◌else◌}
use Rattle.std.specs.Prelude.{IsTrue, Contains, count_by, find, nat_le, nat_lt}
use Rattle.chk_site.specs.History.{History, files_after}
use Rattle.chk_chunk.specs.Keys.{Stream, Chunk}
use Rattle.chk_world.specs.Names.{ArchiveFolder, SegmentFile, DoneFile, file, spell}
use Rattle.chk_world.specs.Books.{Segment, Book, book_of, chunks_in, segment_chunks}
use Rattle.chk_world.specs.Jobs.{segment_list, all_segments}
use Rattle.chk_site.specs.Files.{File}
use Rattle.chk_bytes.specs.Stems.{is_count}
use Rattle.chk_world.proofs.Segments.{flat_same}
use Rattle.std.proofs.lemmas.Bool.{and_parts, ltb-true}
use Rattle.std.proofs.lemmas.Option.{none-some}
use Rattle.std.proofs.lemmas.List.Elements.{Contains-append_left}
use Rattle.chk_world.specs.Committed.{aside_chunks, archive_of_stream, archived_end}
use Rattle.chk_world.specs.Streams.{start_of}
use Rattle.chk_world.specs.ArchiveRuns.{Listing, last_listing, is_closed, is_unclosed, sink_path, total_gain, found, in_order}
use Rattle.chk_world.specs.Rules.{Legal}
use Rattle.chk_world.specs.Sight.{Sight, sight, shows_done, own_book, own_chunks, own_archive, own_aside}
use Rattle.chk_world.proofs.NameLemmas.{spell-read}
use Rattle.chk_world.proofs.OwnArchive.{own_archive_is, own_aside_is}
use Rattle.chk_archive_plan.proofs.Runs.{run_is}
use Rattle.chk_archive.specs.Archived.{RunDone, NoStray}
use Rattle.chk_archive.specs.Counting.{IsCounted}
use Rattle.chk_archive.specs.Listed.{IsListed}
use Rattle.chk_archive.specs.Sinks.{HaveGone, as_sight}
use Rattle.chk_archive.specs.Merged.{few_stay, many_merged, IsMergeOf}
use Rattle.chk_archive.specs.Numbers.{Numbered}
use Rattle.chk_archive.specs.Written.{taken_parts, needed_behind, one_merge, HoldInOne, IsMerge, AreOld, HasWritten}
use Rattle.chk_archive.specs.Taking.{PartsAdded, nothing_taken, one_added, TookAll}
use Rattle.chk_archive.proofs.MergeFacts.{facts as ending}
use Rattle.chk_archive.proofs.NextBook.{facts}
use Rattle.chk_archive.proofs.Listings.{own_then, counted}
use Rattle.chk_record_reader.proofs.BothLimits.{limits_agree}
use Rattle.chk_archive_parts.specs.Writes.{HoldsChunks}
use Rattle.chk_archive.specs.declared.taking.Taken.{Taken}
use Rattle.chk_archive.specs.declared.counting.Counted.{Counted}
use Rattle.chk_archive.proofs.FoundSources.{K}
use Rattle.chk_archive.proofs.Listings.{done, shown}
use Rattle.chk_archive.proofs.SinksSaved.{listing_is, reached_is, aside_is}

module _ (stamped : List (List ℕ)) (names : List (List ℕ)) (b : Book) (v : Sight)
    (at : IsListed stamped names b v) (new : Book) (t : Taken) (u : Sight) (took : TookAll v new t u)
    (h : History) (legal : Legal stamped h) (gone : HaveGone u.own names (sight h))
    (last : last_listing h ≡ u.listing) where
  abbrev L : Listing
  L = K stamped names b v at

  own_is : (sight h).own ≡ u.own
  own_is = λ i n. gone.own_now n i

  last_is : last_listing h ≡ Some L
  last_is = last ∙ (took.listing ∙ at.shows.last)

  archive_is : (s : Stream) → archive_of_stream (files_after h) s ≡ own_archive u s
  archive_is s = sym (own_archive_is stamped h legal s) ∙ ap (λ o. own_archive (as_sight o) s) own_is

  aside_now : aside_chunks (files_after h) ≡ own_aside u
  aside_now = sym (own_aside_is stamped h legal) ∙ ap (λ o. own_aside (as_sight o)) own_is

  book_now : book_of (files_after h) ArchiveFolder ≡ new
  book_now = ap (λ o. own_book (as_sight o) ArchiveFolder) own_is ∙ took.book

  sink_gone : (name : List ℕ) → Contains L.names name → IsTrue (is_closed name)
      → files_after h (sink_path name) ≡ None
  sink_gone name listed closed =
      let one : Contains names name = subst (λ ns. Contains ns name) at.shows.are listed in
      let d = done stamped names b v at name one closed in
      let there : shows_done (last_listing h) d.0 ≡ true =
      ap (λ l. shows_done l d.0) (last ∙ took.listing) ∙ shown stamped names b v at name one closed in
      ap (files_after h) (sym (spell-read (sink_path name)) ∙ ap spell d.1)
      ∙ (sym (ap (λ k. if k then file (files_after h) (DoneFile d.0) else None) there) ∙ gone.gone d.0)

  -- ---- the segments

  -- a segment that the job knows holds what its file holds
  file_of : (k : ℕ) → is_count k ≡ true → file (files_after h) (SegmentFile ArchiveFolder k) ≡ u.own (SegmentFile ArchiveFolder k)
  file_of k count =
      sym (ap (λ t. if t then file (files_after h) (SegmentFile ArchiveFolder k) else None) count)
      ∙ ap (λ o. o (SegmentFile ArchiveFolder k)) own_is

  known_file : (t : Bool) (o : Option File) (f : File) → (if t then o else None) ≡ Some f → o ≡ Some f
  known_file true o f e = e
  known_file false o f e = absurd (none-some f e)

  held_chunks : (g : Segment) (cs : List Chunk) → HoldsChunks u g cs → segment_chunks (files_after h) ArchiveFolder g ≡ cs
  held_chunks g cs w =
      ap chunks_in (known_file (is_count g.number) (file (files_after h) (SegmentFile ArchiveFolder g.number)) w.file
      (ap (λ o. o (SegmentFile ArchiveFolder g.number)) own_is ∙ w.there))
      ∙ (limits_agree w.file.bytes w.is.form ∙ w.is.are)

  facts_then : Numbered b
  facts_then = facts stamped names b v at

  abbrev Old : List Segment
  Old = (own_book v ArchiveFolder).segments

  parts_held : (ps : List Chunk) → ps ≡ taken_parts L → PartsAdded u (own_book v ArchiveFolder) new ps
      → (gs : List Segment) × (new.segments ≡ Old ++ gs) × HoldInOne (files_after h) ps gs
  parts_held ps is (nothing_taken none segments ends) =
      ([], segments ∙ sym (append-nil Old), subst (λ l. HoldInOne (files_after h) l []) (sym none) refl)
  parts_held ps is (one_added g low some holds segments ends) = (g ∷ [], segments, go ps some (held_chunks g ps holds))
    where
      go : (ps : List Chunk) → (ps ≡ [] → ⊥) → segment_chunks (files_after h) ArchiveFolder g ≡ ps → HoldInOne (files_after h) ps (g ∷ [])
      go [] some are = absurd (some refl)
      go (p ∷ ps) some are = (g, refl, are)

  -- the merge's records stood at the listing as the run left them
  merge_held : (loaded : Book) (g : Segment) → g.number ≡ loaded.next → b.segments ≡ g ∷ []
      → ((k : Segment) → Contains loaded.segments k → IsTrue (is_count k.number))
      → own_chunks v ArchiveFolder (g ∷ []) ≡ in_order (own_chunks v ArchiveFolder loaded.segments)
      → IsMerge loaded L (files_after h) g
  merge_held loaded g number alone counts records =
      let one : Contains (all_segments b) g =
      Contains-append_left b.segments (segment_list b.aside) g (subst (λ l. Contains l g) (sym alone) (0, omega arith, refl)) in
      let small : g.number < (own_book v ArchiveFolder).next =
      subst (λ (x : Book). g.number < x.next) (sym at.book) (facts_then.below g one) in
      record {
        number = number;
        records =
            ap chunks_in (file_of g.number (counted_then g one) ∙ took.old g.number small)
            ∙ (sym (append-nil (chunks_in (v.own (SegmentFile ArchiveFolder g.number))))
            ∙ (records
            ∙ ap in_order
            (flat_same (λ (k : Segment). chunks_in (v.own (SegmentFile ArchiveFolder k.number)))
            (segment_chunks (files_after L.upto) ArchiveFolder) loaded.segments
            (λ k mine. ap chunks_in
            (sym (own_then stamped names b v at (SegmentFile ArchiveFolder k.number))
            ∙ ap (λ t. if t then file (files_after L.upto) (SegmentFile ArchiveFolder k.number) else None) (counts k mine))))));
      }
    where
      counted_then : (g : Segment) → Contains (all_segments b) g → is_count g.number ≡ true
      counted_then g one = counted stamped names b v at g one

  old_are : (loaded : Book) → IsMergeOf loaded b v → AreOld loaded L (files_after h) Old
  old_are loaded (few_stay few same) = record {
    few = λ low. ap (λ (x : Book). x.segments) (at.book ∙ same);
    many = λ many. absurd (let z : ⊥ = omega (arith, few, many) in z);
  }
  old_are loaded (many_merged many g number alone next counts records) = record {
    few = λ low. absurd (let z : ⊥ = omega (arith, low, many) in z);
    many = λ k. (
      g,
      ap (λ (x : Book). x.segments) at.book ∙ alone,
      merge_held loaded g number alone counts records,
    );
  }

  few_then : (loaded : Book) → IsMergeOf loaded b v → 16 ≤ length loaded.segments → length b.segments ≤ 1
  few_then loaded (few_stay few same) many = absurd (let z : ⊥ = omega (arith, few, many) in z)
  few_then loaded (many_merged many g number alone next counts records) k = let one = ap length alone in omega (arith, one)

  next_then : (loaded : Book) → IsMergeOf loaded b v → b.next ≡ loaded.next + one_merge loaded
  next_then loaded (few_stay few same) =
      let next = ap (λ (x : Book). x.next) same in
      let none : nat_le 16 (length loaded.segments) ≡ false = grind (arith, few) in
      let zero : one_merge loaded ≡ 0 = ap (λ t. if t then 1 else 0) none in
      omega (arith, next, zero)
  next_then loaded (many_merged many g number alone next counts records) =
      let some : nat_le 16 (length loaded.segments) ≡ true = grind (arith, many) in
      let one : one_merge loaded ≡ 1 = ap (λ t. if t then 1 else 0) some in
      omega (arith, next, one)

  -- the book at the end
  book_end : Numbered new
  book_end = ending stamped h legal new book_now

  last_number : new.next < 2 ^ 63
  last_number = ltb-true new.next (2 ^ 63) (and_parts (nat_lt 0 new.next) (nat_lt new.next (2 ^ 63)) book_end.count).1

  same_listing : took.l ≡ L
  same_listing = listing_is stamped names b v at new t u took

  enough : (own_book v ArchiveFolder).next + needed_behind L ≤ new.next
  enough = subst (λ (l : Listing). (own_book v ArchiveFolder).next + needed_behind l ≤ new.next) same_listing took.numbers

  has_written : (loaded : Book) → IsMergeOf loaded b v → HasWritten loaded L h
  has_written loaded merge =
      let added : PartsAdded u (own_book v ArchiveFolder) new (taken_parts L) =
      subst (λ (l : Listing). PartsAdded u (own_book v ArchiveFolder) new (taken_parts l)) same_listing took.added in
      let p = parts_held (taken_parts L) refl added in
      record {
        old = Old;
        new = p.0;
        segments = ap (λ (x : Book). x.segments) book_now ∙ p.1;
        old_are = old_are loaded merge;
        new_are = p.2;
      }

  -- the report says what was done
  pub run_done : (loaded : Book) (c : Counted) → IsCounted names c → NoStray loaded L.upto → IsMergeOf loaded b v
      → RunDone loaded (record {
        unclosed = c.unclosed;
        first_unclosed = c.first_unclosed;
        taken = t.taken;
        held = t.held;
        removed = c.closed;
        ends = new.ends;
      }) h
  run_done loaded c counted strays merge = record {
    listing = L;
    last = last_is;
    ran = run_is h L c.unclosed t.taken t.held c.closed
        (subst (λ ns. c.unclosed ≡ count_by is_unclosed ns) (sym at.shows.are) counted.unclosed)
        (subst (λ (l : Listing). t.taken ≡ total_gain (archived_end l.upto) (in_order (found l)))
        (listing_is stamped names b v at new t u took) took.taken)
        (λ s. ap (λ l. start_of L.upto s + length l) (archive_is s) ∙ reached_is stamped names b v at new t u took s)
        (aside_now ∙ aside_is stamped names b v at new t u took)
        (took.held ∙ sym (ap length aside_now))
        (subst (λ ns. c.closed ≡ count_by is_closed ns) (sym at.shows.are) counted.closed)
        sink_gone;
    first = subst (λ ns. c.first_unclosed ≡ find is_unclosed ns) (sym at.shows.are) counted.first;
    ends = sym (ap (λ (x : Book). x.ends) book_now);
    no_stray = strays;
    merged = λ many.
        let low = few_then loaded merge many in
        let more = took.few in
        let was = ap (λ (x : Book). length x.segments) at.book in
        let now = ap (λ (x : Book). length x.segments) book_now in
        omega (arith, low, more, was, now);
    written = has_written loaded merge;
    numbers =
        let needed = enough in
        let was = ap (λ (x : Book). x.next) at.book in
        let first = next_then loaded merge in
        let below = last_number in
        omega (arith, needed, was, first, below);
  }
