-- The plan over what was found takes its parts, and keeps what lies past a gap.
use Rattle.std.proofs.Common.{◌≡◌, inl, inr, ℕ, zero, suc, ◌+◌, ◌<◌, ◌≤◌, Bool, true, false, cond, List, [], ◌∷◌, ◌++◌, length, map, Option, Some, None, ap, sym, subst, ◌∙◌, refl, arith, true≢false, append-nil, not, if◌then◌else◌}
use Rattle.std.proofs.lemmas.Bool.{and_parts, and_from}
use Rattle.std.proofs.lemmas.List.{length-map, get_or-map}
use Rattle.std.specs.Prelude.{IsTrue, Contains, codes, count_by, filter, filter_map, option_map, flat_map, slice_index_or}
use Rattle.std.specs.List.{cons_option}
use Rattle.std.proofs.lemmas.List.Sums.{sum_by-append, sum_by-cons}
use Rattle.std.proofs.lemmas.List.Elements.{Contains-append_right}
use Rattle.chk_chunk.specs.Keys.{Stream, Chunk, chunk_limit, same_data}
use Rattle.chk_seqfile.specs.Entries.{Placed, records_of}
use Rattle.chk_world.specs.Names.{ArchiveFolder, Name, SegmentFile, DoneFile, read, file}
use Rattle.chk_world.specs.Books.{Segment, Book, chunks_in, chunk_of, is_nothing}
use Rattle.chk_world.specs.TrueBooks.{HasBytes}
use Rattle.chk_world.specs.ArchiveRuns.{in_order, found, total_gain, once, is_closed, sink_path}
use Rattle.chk_world.specs.Jobs.{segment_list, all_segments}
use Rattle.chk_world.specs.Sight.{Sight, own_chunks, own_aside}
use Rattle.chk_record_index.specs.Heads.{Head, head_of, head_at, heads_in}
use Rattle.chk_record_index.specs.Order.{in_head_order, no_head}
use Rattle.chk_record_index.specs.Pieces.{bytes_in}
use Rattle.chk_site.specs.Honest.{in_folder}
use Rattle.chk_world.proofs.Segments.{none_in}
use Rattle.chk_world.proofs.Each.{Each, each_from, each_at, later_one}
use Rattle.chk_book.specs.Books.{end_in}
use Rattle.chk_book.specs.Folders.{segment_name}
use Rattle.chk_archive_plan.specs.HeadsOf.{AreHeads}
use Rattle.chk_archive_plan.specs.Passes.{head_in, IsSpan, AreSpans}
use Rattle.chk_archive_plan.specs.Plan.{parts_of, ends_of, set_aside}
use Rattle.chk_archive_plan.specs.Laws.{BeginAt, SpansGive}
use Rattle.chk_archive_plan.specs.declared.spans.Span.{Span}
use Rattle.chk_archive_plan.proofs.Gives.{plans_give}
use Rattle.chk_archive_plan.proofs.ChunkOrder.{in_order_ordered}
use Rattle.chk_archive_plan.proofs.HeadOrder.{heads_sort}
use Rattle.chk_archive_plan.proofs.Runs.{all_put}
use Rattle.chk_archive_parts.specs.declared.cuts.Cut.{Cut}
use Rattle.chk_record_reader.specs.ReadBack.{chunk_at}
use Rattle.chk_record_reader.proofs.Records.{chunks_of_heads}
use Rattle.chk_archive_parts.specs.Cuts.{no_chunk, cut_chunk, cut_chunks, AreWithin}
use Rattle.chk_archive_parts.specs.Kept.{past_chunks, is_first, are_old_aside, IsFirst}
use Rattle.chk_archive_parts.specs.Gathering.{held, heads_of}
use Rattle.chk_archive_parts.specs.Records.{IsRecordOf, AreRecords, chunks_held}
use Rattle.chk_archive_parts.proofs.CutLists.{zip_at, no_cut}
use Rattle.chk_archive_parts.proofs.KeptOnce.{Differ, same_length as zip_size}
use Rattle.chk_archive_parts.proofs.AsideStays.{aside_stays}
use Rattle.chk_archive_parts.proofs.Fetches.{any_default}
use Rattle.chk_archive_parts.proofs.FoundRecords.{records_in_order, are_heads}
use Rattle.chk_archive_parts.proofs.CutParts.{cuts_are_parts}
use Rattle.chk_archive_parts.proofs.OldAsides.{old_asides_are_whole}
use Rattle.chk_archive.specs.FolderNames.{closed_in}
use Rattle.chk_archive.specs.Listed.{IsListed, aside_files, sources_in}
use Rattle.chk_archive.specs.Taking.{IsPlanned, IsWhole, CanPrepare, asked, stays_aside}
use Rattle.chk_archive.specs.Written.{one_for, same_chunks, one_aside}
use Rattle.chk_archive.specs.declared.taking.Planned.{Planned}
use Rattle.chk_archive.proofs.Listings.{sources_sound, found_is, own_then, in_append, in_cons, segment_chunks_are, reads_segment, counted}
use Rattle.chk_archive.proofs.FoundSources.{K, then_files, each_found, known_end}
use Rattle.chk_archive.proofs.NextBook.{Ends, Cs, facts}

-- ---- how many heads are of the first file

all_first : (rs : List Placed) → count_by is_first (filter_map (head_at chunk_limit 0) rs)
    ≡ length (filter_map (head_at chunk_limit 0) rs)
all_first [] = refl
all_first (r ∷ rs) = go (chunk_of chunk_limit r) (all_first rs)
  where
    go : (o : Option Chunk)
        → count_by is_first (filter_map (head_at chunk_limit 0) rs) ≡ length (filter_map (head_at chunk_limit 0) rs)
        → count_by is_first (cons_option (option_map (head_of 0 r.at) o) (filter_map (head_at chunk_limit 0) rs))
        ≡ length (cons_option (option_map (head_of 0 r.at) o) (filter_map (head_at chunk_limit 0) rs))
    go None rest = rest
    go (Some c) rest =
        let s = sum_by-cons (λ x. cond (is_first x) 1 0) (head_of 0 r.at c) (filter_map (head_at chunk_limit 0) rs) in
        omega (arith, s, rest)

none_first : (n : ℕ) → 0 < n → (rs : List Placed)
    → count_by is_first (filter_map (head_at chunk_limit n) rs) ≡ 0
none_first n low [] = refl
none_first n low (r ∷ rs) = go (chunk_of chunk_limit r) (none_first n low rs)
  where
    go : (o : Option Chunk) → count_by is_first (filter_map (head_at chunk_limit n) rs) ≡ 0
        → count_by is_first (cons_option (option_map (head_of n r.at) o) (filter_map (head_at chunk_limit n) rs)) ≡ 0
    go None rest = rest
    go (Some c) rest =
        let h = head_of n r.at c in
        let other : is_first h ≡ false = grind (arith, low) in
        sum_by-cons (λ x. cond (is_first x) 1 0) h (filter_map (head_at chunk_limit n) rs)
        ∙ (ap (λ t. cond t 1 0 + count_by is_first (filter_map (head_at chunk_limit n) rs)) other
        ∙ ap (λ k. 0 + k) rest)

later_none : (v : Sight) (n : ℕ) → 0 < n → (ws : List (List ℕ)) → count_by is_first (heads_of v n ws) ≡ 0
later_none v n low [] = refl
later_none v n low (w ∷ ws) =
    let a = sum_by-append (λ x. cond (is_first x) 1 0) (heads_in chunk_limit n (bytes_in (held v w))) (heads_of v (n + 1) ws) in
    let b = none_first n low (records_of (bytes_in (held v w))) in
    let c = later_none v (n + 1) (omega arith) ws in
    omega (arith, a, b, c)

first_count : (v : Sight) (w : List ℕ) (ws : List (List ℕ))
    → count_by is_first (heads_of v 0 (w ∷ ws)) ≡ length (heads_in chunk_limit 0 (bytes_in (held v w)))
first_count v w ws =
    let a = sum_by-append (λ x. cond (is_first x) 1 0) (heads_in chunk_limit 0 (bytes_in (held v w))) (heads_of v (0 + 1) ws) in
    let b = all_first (records_of (bytes_in (held v w))) in
    let c = later_none v (0 + 1) (omega arith) ws in
    omega (arith, a, b, c)

-- ---- lists that have the same chunks

same_sizes : (xs ys : List Chunk) → same_chunks xs ys ≡ true → length xs ≡ length ys
same_sizes [] [] same = refl
same_sizes [] (y ∷ ys) same = absurd (true≢false (sym same))
same_sizes (x ∷ xs) [] same = absurd (true≢false (sym same))
same_sizes (x ∷ xs) (y ∷ ys) same = ap suc (same_sizes xs ys (and_parts (same_data x y) (same_chunks xs ys) same).1)

same_at : (xs ys : List Chunk) → same_chunks xs ys ≡ true → (i : ℕ) → i < length xs
    → same_data (slice_index_or xs i no_chunk) (slice_index_or ys i no_chunk) ≡ true
same_at [] ys same i low = absurd (let z : ⊥ = omega (arith, low) in z)
same_at (x ∷ xs) [] same i low = absurd (true≢false (sym same))
same_at (x ∷ xs) (y ∷ ys) same zero low = (and_parts (same_data x y) (same_chunks xs ys) same).0
same_at (x ∷ xs) (y ∷ ys) same (suc i) low =
    same_at xs ys (and_parts (same_data x y) (same_chunks xs ys) same).1 i (omega (arith, low))

-- ---- the plan

module _ (stamped : List (List ℕ)) (names : List (List ℕ)) (b : Book) (v : Sight)
    (at : IsListed stamped names b v) where
  abbrev pub Files : List (List ℕ)
  Files = sources_in b names

  abbrev pub Hs : List Head
  Hs = in_head_order (heads_of v 0 Files)

  abbrev pub Found : List Chunk
  Found = found (K stamped names b v at)

  abbrev Ordered : List Chunk
  Ordered = Cs stamped names b v at

  abbrev Reached : Stream → ℕ
  Reached = Ends stamped names b v at

  -- the heads in order are those of the records in order
  pub all_records : AreRecords v Files Hs Ordered
  all_records =
      subst (λ cs. AreRecords v Files Hs (in_order cs)) (found_is stamped names b v at)
      (records_in_order v Files (sources_sound stamped names b v at))

  heads_found : AreHeads (heads_of v 0 Files) Found
  heads_found = subst (AreHeads (heads_of v 0 Files)) (found_is stamped names b v at) (are_heads v Files)

  heads_ordered : AreHeads Hs Ordered
  heads_ordered = heads_sort (heads_of v 0 Files) Found heads_found

  module _ (p : Planned) (planned : IsPlanned b Hs p) where
    abbrev pub Spans : List Span
    Spans = p.spans.items

    from_span : (here to : ℕ) (ss : List Span) → AreSpans planned.known Hs here ss to → (s : Span)
        → (k : ℕ) → k < length ss → slice_index_or ss k s ≡ s → IsSpan planned.known Hs s
    from_span here to [] all s k low is = absurd (let z : ⊥ = omega (arith, low) in z)
    from_span here to (t ∷ ss) all s zero low is = subst (IsSpan planned.known Hs) is all.1
    from_span here to (t ∷ ss) all s (suc k) low is = from_span t.end to ss all.2 s k (omega (arith, low)) is

    begin_at : BeginAt Reached Hs Spans
    begin_at s one =
        let i : IsSpan planned.known Hs s = from_span 0 (length Hs) Spans planned.spans s one.0 one.1 one.2 in
        let low : s.first < length Hs = let beyond = i.beyond in let within = i.within in omega (arith, beyond, within) in
        let size = zip_size (IsRecordOf v Files) Hs Ordered all_records.each in
        let c : Chunk = slice_index_or Ordered s.first no_chunk in
        let r : IsRecordOf v Files (head_in Hs s.first) c = zip_at (IsRecordOf v Files) Hs Ordered all_records.each s.first low no_head no_chunk in
        let few : s.first < length Ordered = omega (arith, low, size) in
        let there : Contains Ordered c = (s.first, few, any_default Ordered s.first c no_chunk few) in
        let key = ap (λ (d : Chunk). d.key) r.is in
        i.from ∙ (planned.ends (head_in Hs s.first)
        ∙ (ap (λ k. end_in k.start b.ends k.stream) key
        ∙ (known_end stamped names b v at c (all_put Found c there)
        ∙ ap (λ k. Reached k.stream) (sym key))))

    gives : SpansGive Reached Hs Ordered Spans
    gives = plans_give planned.known (heads_of v 0 Files) Found Spans Reached heads_found (each_found stamped names b v at)
        planned.spans begin_at

    pub parts_are : cut_chunks Ordered p.cuts ≡ parts_of Reached Ordered
    parts_are =
        ap (cut_chunks Ordered) planned.cuts
        ∙ cuts_are_parts planned.known (heads_of v 0 Files) Found Spans Reached heads_found (each_found stamped names b v at)
        planned.spans begin_at

    pub kept_are : once (past_chunks Ordered Spans) ≡ set_aside (ends_of Reached Ordered) Ordered
    kept_are = ap once (sym gives.past)

    pub taken_is : p.taken ≡ total_gain Reached Ordered
    taken_is = planned.taken ∙ sym gives.gain

  -- ---- what is asked of the book and the files

  abbrev number_of : Name → ℕ
  number_of (SegmentFile folder k) = k
  number_of n = 0

  abbrev is_sink : Name → Bool
  is_sink (DoneFile x) = true
  is_sink n = false

  files_old : (w : List ℕ) → Contains Files w → (k : ℕ) → b.next ≤ k → read w ≡ SegmentFile ArchiveFolder k → ⊥
  files_old w one k low e = elim (in_append (aside_files b) (closed_in names) w one) [
    | inl a ↦ of_aside b.aside (λ g j. Contains-append_right b.segments (segment_list b.aside) g j) a
    | inr c ↦ of_sinks names (λ n j. j) c
  ]
    where
      of_aside : (o : Option Segment) → ((g : Segment) → Contains (segment_list o) g → Contains (all_segments b) g)
          → Contains (map (λ (g : Segment). segment_name (codes "archive") g.number) (segment_list o)) w → ⊥
      of_aside None of j = none_in w j
      of_aside (Some g) of j = elim (in_cons (segment_name (codes "archive") g.number) [] w j) [
        | inl is ↦
            let g_in = of g (0, omega arith, refl) in
            let small = (facts stamped names b v at).below g g_in in
            let same : g.number ≡ k = ap number_of (sym (reads_segment stamped names b v at g g_in) ∙ (ap read is ∙ e)) in
            let z : ⊥ = omega (arith, small, low, same) in z
        | inr later ↦ none_in w later
      ]

      of_sinks : (left : List (List ℕ)) → ((n : List ℕ) → Contains left n → Contains names n)
          → Contains (closed_in left) w → ⊥
      of_sinks [] in_names j = none_in w j
      of_sinks (n ∷ ns) in_names j =
          test (is_closed n) refl j (of_sinks ns (λ m i. in_names m (later_one n ns m i)))
        where
          test : (t : Bool) → is_closed n ≡ t
              → Contains (map (in_folder (codes "sinks")) (cond t (n ∷ filter is_closed ns) (filter is_closed ns))) w
              → (Contains (closed_in ns) w → ⊥) → ⊥
          test false is j rest = rest j
          test true is j rest = elim (in_cons (sink_path n) (closed_in ns) w j) [
            | inr later ↦ rest later
            | inl same ↦
                let done = at.shows.done n (in_names n (0, omega arith, refl)) is in
                true≢false (ap is_sink (sym done.1 ∙ (ap read same ∙ e)))
          ]

  -- the aside segment's file has what is set aside
  aside_is : (g : Segment) → b.aside ≡ Some g → own_aside v ≡ chunks_held v (segment_name (codes "archive") g.number)
  aside_is g named =
      let one : Contains (all_segments b) g = Contains-append_right b.segments (segment_list b.aside) g
      (subst (λ o. Contains (segment_list o) g) (sym named) (0, omega arith, refl)) in
      let count_is = counted stamped names b v at g one in
      let held_own : v.own (SegmentFile ArchiveFolder g.number)
      ≡ file (then_files stamped names b v at) (SegmentFile ArchiveFolder g.number) =
      sym (own_then stamped names b v at (SegmentFile ArchiveFolder g.number))
      ∙ ap (λ t. if t then file (then_files stamped names b v at) (SegmentFile ArchiveFolder g.number) else None) count_is in
      ap (λ (c : Book). flat_map (λ (x : Segment). chunks_in (v.own (SegmentFile ArchiveFolder x.number))) (segment_list c.aside)) at.book
      ∙ (ap (λ o. flat_map (λ (x : Segment). chunks_in (v.own (SegmentFile ArchiveFolder x.number))) (segment_list o)) named
      ∙ (append-nil (chunks_in (v.own (SegmentFile ArchiveFolder g.number)))
      ∙ (ap chunks_in held_own ∙ sym (segment_chunks_are stamped names b v at g one))))

  files_are : (g : Segment) → b.aside ≡ Some g → Files ≡ segment_name (codes "archive") g.number ∷ closed_in names
  files_are g named =
      ap (λ o. map (λ (g : Segment). segment_name (codes "archive") g.number) (segment_list o) ++ closed_in names) named

  -- so many records it has
  count_are : (count : ℕ) → count ≡ count_by is_first (heads_of v 0 Files) → (g : Segment) → b.aside ≡ Some g
      → count ≡ length (heads_in chunk_limit 0 (bytes_in (held v (segment_name (codes "archive") g.number))))
  count_are count is g named =
      is ∙ (ap (λ fs. count_by is_first (heads_of v 0 fs)) (files_are g named)
      ∙ first_count v (segment_name (codes "archive") g.number) (closed_in names))

  whole_aside : (count : ℕ) → count ≡ count_by is_first (heads_of v 0 Files) → (kept : List Cut)
      → AreWithin (length Hs) kept → IsWhole v b Hs count kept (cut_chunks Ordered kept)
  whole_aside count is kept within g named old =
      let w = segment_name (codes "archive") g.number in
      aside_is g named
      ∙ sym (old_asides_are_whole v w (closed_in names) Hs Ordered kept
      (ap (λ fs. in_head_order (heads_of v 0 fs)) (files_are g named))
      (subst (λ fs. AreRecords v fs Hs Ordered) (files_are g named) all_records)
      (subst (λ n. IsTrue (are_old_aside Hs n kept)) (count_are count is g named) old) within)

  -- what is kept as it was set aside stays
  stays_so : (count : ℕ) → count ≡ count_by is_first (heads_of v 0 Files) → (p : Planned) → IsPlanned b Hs p
      → (k : Cut) (ks : List Cut) → Each (IsFirst Ordered p.spans.items) (k ∷ ks) → Differ (cut_chunks Ordered (k ∷ ks))
      → same_chunks (cut_chunks Ordered (k ∷ ks)) (own_aside v) ≡ true → stays_aside b Hs count (k ∷ ks) ≡ true
  stays_so count is p planned k ks first differ same = go b.aside refl
    where
      go : (o : Option Segment) → b.aside ≡ o → stays_aside b Hs count (k ∷ ks) ≡ true
      go None named =
          absurd (true≢false (sym same ∙ ap (same_chunks (cut_chunks Ordered (k ∷ ks)))
          (ap (λ (c : Book). own_chunks v ArchiveFolder (segment_list c.aside)) at.book
          ∙ ap (λ o. own_chunks v ArchiveFolder (segment_list o)) named)))
      go (Some g) named =
          let w = segment_name (codes "archive") g.number in
          let bytes = bytes_in (held v w) in
          let all = heads_in chunk_limit 0 bytes in
          let are : own_aside v ≡ map (chunk_at bytes) all = aside_is g named ∙ sym (chunks_of_heads chunk_limit 0 bytes) in
          let alike : same_chunks (cut_chunks Ordered (k ∷ ks)) (map (chunk_at bytes) all) ≡ true =
          subst (λ l. same_chunks (cut_chunks Ordered (k ∷ ks)) l ≡ true) are same in
          let sizes = same_sizes (cut_chunks Ordered (k ∷ ks)) (map (chunk_at bytes) all) alike in
          let one = length-map (k ∷ ks) (cut_chunk Ordered) in
          let two = length-map all (chunk_at bytes) in
          and_from (not (is_nothing b.aside)) (are_old_aside Hs count (k ∷ ks)) (ap (λ o. not (is_nothing o)) named)
          (subst (λ n. are_old_aside Hs n (k ∷ ks) ≡ true) (sym (count_are count is g named))
          (aside_stays v w (closed_in names) Hs Ordered planned.known p.spans.items (k ∷ ks)
          (ap (λ fs. in_head_order (heads_of v 0 fs)) (files_are g named))
          (subst (λ fs. AreRecords v fs Hs Ordered) (files_are g named) all_records)
          (in_order_ordered Found)
          (each_from HasBytes Ordered (λ c there. each_at HasBytes Found c (each_found stamped names b v at) (all_put Found c there)))
          planned.spans first differ (omega (arith, sizes, one, two))
          (λ i low.
          ap (λ c. same_data c (chunk_at bytes (head_in all i))) (sym (get_or-map (cut_chunk Ordered) (k ∷ ks) i no_cut no_chunk low))
          ∙ (ap (same_data (slice_index_or (cut_chunks Ordered (k ∷ ks)) i no_chunk))
          (sym (get_or-map (chunk_at bytes) all i no_head no_chunk (omega (arith, low, sizes, one, two))))
          ∙ same_at (cut_chunks Ordered (k ∷ ks)) (map (chunk_at bytes) all) alike i (omega (arith, low, one))))))

  -- a segment for what is set aside is asked for only where it is needed
  pub asks_as_needed : (count : ℕ) → count ≡ count_by is_first (heads_of v 0 Files) → (p : Planned) → IsPlanned b Hs p
      → (kept : List Cut) → Each (IsFirst Ordered p.spans.items) kept → Differ (cut_chunks Ordered kept)
      → asked (stays_aside b Hs count kept) (cut_chunks Ordered kept) ≤ one_aside (cut_chunks Ordered kept) (own_aside v)
  asks_as_needed count is p planned [] first differ = none (is_nothing b.aside)
    where
      none : (t : Bool) → asked t [] ≤ one_aside [] (own_aside v)
      none true = omega arith
      none false = omega arith
  asks_as_needed count is p planned (k ∷ ks) first differ = by (stays_aside b Hs count (k ∷ ks)) refl
    where
      by : (t : Bool) → stays_aside b Hs count (k ∷ ks) ≡ t
          → asked t (cut_chunks Ordered (k ∷ ks)) ≤ one_aside (cut_chunks Ordered (k ∷ ks)) (own_aside v)
      by true e = omega arith
      by false e = test (same_chunks (cut_chunks Ordered (k ∷ ks)) (own_aside v)) refl
        where
          test : (t : Bool) → same_chunks (cut_chunks Ordered (k ∷ ks)) (own_aside v) ≡ t
              → one_for (cut_chunks Ordered (k ∷ ks)) ≤ one_aside (cut_chunks Ordered (k ∷ ks)) (own_aside v)
          test true same = absurd (true≢false (sym (stays_so count is p planned k ks first differ same) ∙ e))
          test false other =
              let one : one_aside (cut_chunks Ordered (k ∷ ks)) (own_aside v) ≡ 1 = ap (λ t. if t then 0 else 1) other in
              omega (arith, one)

  pub can_prepare : (count : ℕ) → count ≡ count_by is_first (heads_of v 0 Files) → (kept : List Cut)
      → AreWithin (length Hs) kept → CanPrepare v b Files Hs count kept (cut_chunks Ordered kept)
  can_prepare count is kept within = record {
    book = at.book;
    numbers = facts stamped names b v at;
    files_old = files_old;
    whole = whole_aside count is kept within;
  }
