-- Where a history is legal the archive's named segments are whole, and their records run as the
-- book says.
use Rattle.std.proofs.Common.{◌≡◌, ℕ, zero, suc, Bool, true, false, List, [], ◌∷◌, ◌++◌, map, Option, Some, None, ap, sym, subst, ◌∙◌, refl, arith, if◌then◌else◌}
use Rattle.std.specs.Prelude.{Contains, bytes_eq, codes, flat_map}
use Rattle.std.proofs.lemmas.Bool.{false_from_ne_true}
use Rattle.std.proofs.lemmas.Option.{same_Some, none-some}
use Rattle.std.proofs.lemmas.List.Elements.{Contains-append_left}
use Rattle.chk_bytes.specs.Stems.{is_count}
use Rattle.chk_site.specs.Files.{File, Files, IsSettled}
use Rattle.chk_site.specs.History.{History, files_after}
use Rattle.chk_site.proofs.Small.{all_small}
use Rattle.chk_chunk.specs.Keys.{Stream, Chunk, is_of, same_stream, chunk_limit}
use Rattle.chk_world.specs.Names.{ArchiveFolder, Name, BookFile, SegmentFile, read, file}
use Rattle.chk_world.specs.Books.{Segment, End, Book, book_of, AllChunks, chunks_in, chunks_within, chunks_named, chunks_of_stream, segment_chunks}
use Rattle.chk_world.specs.Jobs.{Run, IsSoundSegment, BookNamesSyncedSegments, segment_list, all_segments}
use Rattle.chk_world.specs.Rules.{Legal}
use Rattle.chk_world.proofs.BooksTrue.{books_stay_true}
use Rattle.chk_world.proofs.Each.{Each, first_in, each_from, each_at, filter_in, filter_each, later_one}
use Rattle.chk_world.proofs.Ends.{bytes_same}
use Rattle.chk_world.proofs.NameLemmas.{read-spell}
use Rattle.chk_world.proofs.NameTests.{streams_same}
use Rattle.chk_world.proofs.Segments.{counts_in, none_in}
use Rattle.chk_world.proofs.SmallFiles.{readable}
use Rattle.chk_record_index.specs.Pieces.{bytes_in}
use Rattle.chk_book.specs.Folders.{segment_name, most_in}
use Rattle.chk_record_reader.specs.Segments.{names_of, AreSettled, IsSound, chunks_in_files}
use Rattle.chk_record_reader.specs.Courses.{end_of, is_end_of}
use Rattle.chk_record_reader.specs.Archives.{RunsSo, IsDamagedAt}
use Rattle.chk_record_reader.specs.Merging.{AreApart}
use Rattle.chk_record_reader.proofs.Undamaged.{undamaged}
use Rattle.chk_archive_parts.proofs.OneSegment.{segment_spelled, has_some}
use Rattle.chk_archive.specs.Numbers.{Numbered}
use Rattle.chk_archive.proofs.BookFacts.{numbered}
use Rattle.chk_world.proofs.LogEnds.{legal_modelled}
use Rattle.chk_record_reader.proofs.BothLimits.{limits_agree}
use Rattle.chk_world.proofs.Rounds.{stream_self}

pub in_map : {X Y : Type 0} (f : X → Y) (xs : List X) (y : Y) → Contains (map f xs) y
    → (x : X) × Contains xs x × (f x ≡ y)
in_map f [] y one = absurd (none_in y one)
in_map f (x ∷ xs) y (zero, low, at) = (x, (0, omega arith, refl), at)
in_map f (x ∷ xs) y (suc k, low, at) =
    let r = in_map f xs y (k, omega (arith, low), at) in (r.0, later_one x xs r.0 r.1, r.2)

-- ---- the end of a stream in a list

end_there : (s : Stream) (es : List End) (e : End) → Contains es e → e.stream ≡ s → end_of s es ≡ None → ⊥
end_there s [] e one is none = none_in e one
end_there s (d ∷ es) e (zero, low, at) is none =
    let mine : is_end_of s d ≡ true =
    subst (λ (x : End). same_stream s x.stream ≡ true) (sym at)
    (subst (λ t. same_stream s t ≡ true) (sym is) (stream_self s)) in
    none-some d (sym none ∙ ap (λ b. if b then Some d else end_of s es) mine)
end_there s (d ∷ es) e (suc k, low, at) is none =
    go (is_end_of s d) none (λ n. end_there s es e (k, omega (arith, low), at) is n)
  where
    go : (b : Bool) → (if b then Some d else end_of s es) ≡ None → (end_of s es ≡ None → ⊥) → ⊥
    go true n rest = none-some d (sym n)
    go false n rest = rest n

end_is : (s : Stream) (es : List End) (e : End) → end_of s es ≡ Some e → Contains es e × (e.stream ≡ s)
end_is s [] e is = absurd (none-some e is)
end_is s (d ∷ es) e is = go (is_end_of s d) refl is (λ i. end_is s es e i)
  where
    go : (b : Bool) → is_end_of s d ≡ b → (if b then Some d else end_of s es) ≡ Some e
        → (end_of s es ≡ Some e → Contains es e × (e.stream ≡ s)) → Contains (d ∷ es) e × (e.stream ≡ s)
    go true mine i rest =
        let same = same_Some d e i in (
          (0, omega arith, same),
          ap (λ (x : End). x.stream) (sym same) ∙ sym (streams_same s d.stream mine),
        )
    go false mine i rest = let r = rest i in (later_one d es e r.0, r.1)

module _ (stamped : List (List ℕ)) (h : History) (legal : Legal stamped h) (b : Book)
    (book : book_of (files_after h) ArchiveFolder ≡ b) where
  abbrev F : Files
  F = files_after h

  abbrev Names : List (List ℕ)
  Names = names_of (codes "archive") b

  pub facts : Numbered b
  facts = subst Numbered book
      (numbered (file F (BookFile ArchiveFolder)) ((readable stamped h legal).books ArchiveFolder))

  pub true_book : BookNamesSyncedSegments ArchiveFolder h b
  true_book = subst (BookNamesSyncedSegments ArchiveFolder h) book (books_stay_true stamped h legal ArchiveFolder)

  pub counted : (g : Segment) → Contains (all_segments b) g → is_count g.number ≡ true
  counted g one =
      counts_in (file F (BookFile ArchiveFolder)) ((readable stamped h legal).books ArchiveFolder) g
      (subst (λ (c : Book). Contains (all_segments c) g) (sym book) one)

  named : (g : Segment) → Contains b.segments g → Contains (all_segments b) g
  named g one = Contains-append_left b.segments (segment_list b.aside) g one

  -- the file of a named segment
  abbrev Found : List ℕ → Segment → Type 0
  Found w g = (f : File) × (F w ≡ Some f) × IsSoundSegment ArchiveFolder g f

  found : (g : Segment) → Contains b.segments g → Found (segment_name (codes "archive") g.number) g
  found g one =
      let s = has_some (file F (SegmentFile ArchiveFolder g.number)) (IsSoundSegment ArchiveFolder g)
      (true_book.sound g (named g one)) in
      (s.0, ap F (segment_spelled g.number) ∙ s.1, s.2)

  of_name : (w : List ℕ) → Contains Names w → (g : Segment) × Found w g
  of_name w one =
      let m = in_map (λ (g : Segment). segment_name (codes "archive") g.number) b.segments w one in
      (m.0, subst (λ x. Found x m.0) m.2 (found m.0 m.1))

  pub settled : AreSettled Names F
  settled w one =
      let x = of_name w one in
      let f : File = x.1.0 in (
        subst IsSettled (sym x.1.1) (x.1.2.synced_is ∙ sym x.1.2.length_is),
        (all_small h (legal_modelled stamped h legal)).files w,
      )

  sound : Each (IsSound (most_in (codes "archive")) F) Names
  sound =
      each_from (IsSound (most_in (codes "archive")) F) Names
      (λ w one.
      let x = of_name w one in
      subst (λ o. AllChunks chunk_limit (bytes_in o)) (sym x.1.1) x.1.2.chunks)

  -- the named records by either limit
  one_chunks : (g : Segment) → Contains b.segments g
      → chunks_within chunk_limit (bytes_in (F (segment_name (codes "archive") g.number))) ≡ segment_chunks F ArchiveFolder g
  one_chunks g one =
      let x = found g one in
      ap (λ o. chunks_within chunk_limit (bytes_in o)) x.1
      ∙ (sym (limits_agree x.0.bytes x.2.chunks)
      ∙ (ap chunks_in (sym x.1) ∙ ap (λ w. chunks_in (F w)) (segment_spelled g.number)))

  pub named_chunks : chunks_in_files (most_in (codes "archive")) F Names ≡ chunks_named F ArchiveFolder b
  named_chunks = go b.segments (λ g one. one)
    where
      go : (gs : List Segment) → ((g : Segment) → Contains gs g → Contains b.segments g)
          → flat_map (λ w. chunks_within chunk_limit (bytes_in (F w)))
          (map (λ (g : Segment). segment_name (codes "archive") g.number) gs)
          ≡ flat_map (segment_chunks F ArchiveFolder) gs
      go [] within = refl
      go (g ∷ gs) within =
          ap (λ l. l ++ flat_map (λ w. chunks_within chunk_limit (bytes_in (F w)))
          (map (λ (g : Segment). segment_name (codes "archive") g.number) gs))
          (one_chunks g (within g (0, omega arith, refl)))
          ∙ ap (λ l. segment_chunks F ArchiveFolder g ++ l) (go gs (λ x one. within x (later_one g gs x one)))

  abbrev Cs : List Chunk
  Cs = chunks_named F ArchiveFolder b

  run_named : (s : Stream) (o : Option End) → end_of s b.ends ≡ o → RunsSo o (chunks_of_stream s Cs)
  run_named s None e = go (chunks_of_stream s Cs) refl
    where
      go : (l : List Chunk) → chunks_of_stream s Cs ≡ l → l ≡ []
      go [] is = refl
      go (c ∷ l) is =
          let one : Contains (chunks_of_stream s Cs) c = first_in (chunks_of_stream s Cs) c l is in
          let of = each_at (λ c. is_of s c ≡ true) (chunks_of_stream s Cs) c (filter_each (is_of s) Cs) one in
          let k = true_book.listed c (filter_in (is_of s) Cs c one) in
          absurd (end_there s b.ends k.1 (k.0, k.2, k.3) (k.4 ∙ sym (streams_same s c.key.stream of)) e)
  run_named s (Some d) e =
      let i = end_is s b.ends d e in
      subst (λ t. Run d.start d.start (chunks_of_stream t Cs) d.end) i.1 (true_book.ends d i.0)

  run_so : (s : Stream) → RunsSo (end_of s b.ends) (chunks_of_stream s (chunks_in_files (most_in (codes "archive")) F Names))
  run_so s =
      subst (λ cs. RunsSo (end_of s b.ends) (chunks_of_stream s cs)) (sym named_chunks)
      (run_named s (end_of s b.ends) refl)

  pub never_damaged : (s : Stream) (name : List ℕ) (at : ℕ) → IsDamagedAt (codes "archive") b F s name at → ⊥
  never_damaged s name at d = undamaged (codes "archive") b F sound run_so s name at d

  -- the next segment is none of them
  pub apart : AreApart Names (segment_name (codes "archive") b.next)
  apart w one = false_from_ne_true (bytes_eq w (segment_name (codes "archive") b.next)) (λ e.
      let m = in_map (λ (g : Segment). segment_name (codes "archive") g.number) b.segments w one in
      let same : segment_name (codes "archive") m.0.number ≡ segment_name (codes "archive") b.next =
      m.2 ∙ bytes_same w (segment_name (codes "archive") b.next) e in
      let names : SegmentFile ArchiveFolder m.0.number ≡ SegmentFile ArchiveFolder b.next =
      sym (read-spell (SegmentFile ArchiveFolder m.0.number) (counted m.0 (named m.0 m.1)))
      ∙ (ap read (sym (segment_spelled m.0.number) ∙ (same ∙ segment_spelled b.next))
      ∙ read-spell (SegmentFile ArchiveFolder b.next) facts.count) in
      let numbers : m.0.number ≡ b.next = ap number_of names in
      let below = facts.below m.0 (named m.0 m.1) in
      omega (arith, numbers, below))
    where
      number_of : Name → ℕ
      number_of (SegmentFile folder k) = k
      number_of n = 0
