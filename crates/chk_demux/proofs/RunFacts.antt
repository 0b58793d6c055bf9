-- What a demux run supposes of what the job knows, and what its end says, at a legal history.
use Rattle.std.proofs.Common.{◌≡◌, ℕ, ◌+◌, ◌-◌, ◌^◌, ◌≤◌, ◌<◌, if◌then◌else◌, List, [], ◌∷◌, ◌++◌, length, map, Option, Some, None, ap, ap₂, sym, subst, ◌∙◌, refl, arith}
use Rattle.std.specs.Prelude.{Contains, codes, filter, flat_map}
use Rattle.std.proofs.lemmas.List.{map-append}
use Rattle.std.proofs.lemmas.List.Elements.{filter-append}
use Rattle.chk_world.proofs.Rounds.{stream_self}
use Rattle.chk_site.specs.History.{History, files_after}
use Rattle.chk_chunk.specs.Keys.{Stream, Chunk, is_of}
use Rattle.chk_world.specs.Names.{ArchiveFolder, DemuxFolder, BookFile, SegmentFile}
use Rattle.chk_world.specs.ArchiveRuns.{in_order}
use Rattle.chk_world.specs.Books.{Segment, End, Book, book_in, book_of, chunks_in, values}
use Rattle.chk_world.specs.Jobs.{NewBook}
use Rattle.chk_world.specs.Rules.{Legal}
use Rattle.chk_world.specs.Sight.{Sight, sight, own_book, own_chunks}
use Rattle.chk_world.specs.Committed.{archive_of_stream}
use Rattle.chk_world.specs.Splits.{record_in, split}
use Rattle.chk_world.specs.Streams.{start_of}
use Rattle.chk_world.specs.TrueBooks.{HasBytes}
use Rattle.chk_world.proofs.Each.{Each, each_as, each_at, each_filter, later_one}
use Rattle.chk_world.proofs.Segments.{flat_same}
use Rattle.chk_world.proofs.BooksTrue.{books_stay_true, each_append, each_named, has_start_is}
use Rattle.chk_record_index.specs.Heads.{Head}
use Rattle.chk_record_index.specs.Order.{in_head_order}
use Rattle.chk_archive_plan.proofs.Runs.{all_put}
use Rattle.chk_record_reader.specs.Segments.{names_of}
use Rattle.chk_archive_parts.specs.Gathering.{heads_of}
use Rattle.chk_book.specs.Segmenting.{with_segment}
use Rattle.chk_book.specs.declared.segmenter.Segmenter.{Segmenter}
use Rattle.chk_demux.specs.Demuxed.{all_named, NamesStamped, OneMore, HasKey, DemuxDone, IsDue}
use Rattle.chk_demux.specs.Beginning.{own_earlier}
use Rattle.chk_demux.specs.Entering.{MayEnter, SameBeside, NamesMore, Entered}
use Rattle.chk_demux.specs.Running.{IsReady, CanSplit, archive_heads}
use Rattle.chk_demux.specs.Splitting.{RunsSo, SplitAll, split_from, stream_chunks, all_chunks, all_left}
use Rattle.chk_demux.specs.Writes.{HasSome, HoldsChunks, bytes_of}
use Rattle.chk_demux.specs.declared.report.DemuxReport.{DemuxReport}
use Rattle.chk_demux.proofs.ArchiveWell.{archive_well}
use Rattle.chk_demux.proofs.ChunksInOrder.{runs_in_order, all_run, same_chunks, same_left}
use Rattle.chk_demux.proofs.NewKeys.{keys_found}
use Rattle.chk_demux.proofs.NewRecords.{whole_split, left_is, new_fits, archive_sorted, archive_rises, records_rise}
use Rattle.chk_demux.proofs.NextRecords.{may_publish}
use Rattle.chk_demux.proofs.Ordered.{all_in_order, of_stream}
use Rattle.chk_demux.proofs.SortedEnds.{just_of}
use Rattle.chk_demux.proofs.Sources.{archive_sound, archive_settled, archive_found, archive_records, archive_runs, records_free}
use Rattle.chk_demux.proofs.Started.{named_known}

-- the new records, of these archived ones
abbrev pub News : List (List ℕ) → Book → Book → Sight → List Chunk → List Chunk
News types a b v cs = all_chunks types b (archive_heads v a) cs a.ends

-- the report counts them
pub record Counts (types : List (List ℕ)) (a b : Book) (v : Sight) (cs : List Chunk) (r : DemuxReport) : Type 0 where
  pub taken : r.taken ≡ bytes_of (News types a b v cs)
  pub entries : r.entries ≡ length (News types a b v cs)
  pub left : r.left ≡ all_left types b cs a.ends

pub record CanRun (stamped types : List (List ℕ)) (a b : Book) (v : Sight) : Type 0 where
  pub cs : List Chunk
  pub can : CanSplit a b v cs
  pub book : own_book v DemuxFolder ≡ b
  pub may : MayEnter stamped v b (News types a b v cs)
  pub done : (h : History) → Legal stamped h → (s : Option Segmenter) → HasSome s (News types a b v cs)
      → Entered v b (News types a b v cs) s (sight h) → (0 < length (News types a b v cs) → b.next ≡ 2 ^ 63 - 1 → ⊥)
      → (r : DemuxReport) → Counts types a b v cs r → DemuxDone stamped (own_earlier v) r h
  pub due : (h : History) → Legal stamped h → sight h ≡ v → 0 < length (News types a b v cs) → IsDue stamped h

each_flat_in : (P : Chunk → Type 0) (f : End → List Chunk) (es : List End) → ((e : End) → Contains es e → Each P (f e))
    → Each P (flat_map f es)
each_flat_in P f [] all = tt
each_flat_in P f (e ∷ es) all =
    each_append P (f e) (flat_map f es) (all e (0, omega arith, refl))
    (each_flat_in P f es (λ d one. all d (later_one e es d one)))

each_back : (P : Chunk → Type 0) (xs ys : List Chunk) → Each P (xs ++ ys) → Each P ys
each_back P [] ys all = all
each_back P (x ∷ xs) ys all = each_back P xs ys all.1

-- the book names one more segment where there are records
one_more : (s : Option Segmenter) (outs : List Chunk) (b new : Book) → HasSome s outs → NamesMore s b outs new
    → OneMore b.segments outs new.segments
one_more None outs b new some m = subst (λ l. OneMore b.segments l new.segments) (sym m.0) m.1
one_more (Some s) [] b new some m = absurd (let z : ⊥ = omega (arith, some) in z)
one_more (Some s) (c ∷ outs) b new some m = m

-- the first one of new records is still to be written
is_due : (stamped : List (List ℕ)) (h : History) (olds outs : List Chunk) → olds ≡ all_named (files_after h) DemuxFolder
    → ((s : Stream) → map record_in (filter (is_of s) (olds ++ outs)) ≡ split stamped s (start_of h s) (archive_of_stream (files_after h) s))
    → 0 < length outs → IsDue stamped h
is_due stamped h olds [] are splits some = absurd (let z : ⊥ = omega (arith, some) in z)
is_due stamped h olds (c ∷ outs) are splits some = record {
  stream = s;
  record_is = record_in c;
  more = map record_in (filter (is_of s) outs);
  split_is =
      sym (splits s)
      ∙ (ap (map record_in) (filter-append (is_of s) olds (c ∷ outs) ∙ ap (λ l. filter (is_of s) olds ++ l) own)
      ∙ (map-append record_in (filter (is_of s) olds) (c ∷ filter (is_of s) outs)
      ∙ ap (λ l. map record_in (filter (is_of s) l) ++ record_in c ∷ map record_in (filter (is_of s) outs)) are));
}
  where
    s : Stream
    s = c.key.stream

    own : filter (is_of s) (c ∷ outs) ≡ c ∷ filter (is_of s) outs
    own = ap (λ t. if t then c ∷ filter (is_of s) outs else filter (is_of s) outs) (stream_self s)

module _ (stamped types : List (List ℕ)) (named : NamesStamped stamped types) (history : History)
    (legal : Legal stamped history) where
  abbrev V : Sight
  V = sight history

  abbrev A : Book
  A = own_book V ArchiveFolder

  abbrev D : Book
  D = own_book V DemuxFolder

  abbrev Heads : List Head
  Heads = in_head_order (heads_of V 0 (names_of (codes "archive") A))

  abbrev Cs : List Chunk
  Cs = all_named (files_after history) ArchiveFolder

  abbrev Olds : List Chunk
  Olds = all_named (files_after history) DemuxFolder

  abbrev Outs : List Chunk
  Outs = News types A D V Cs

  -- ---- where the archive is the same

  module _ (h : History) (then_legal : Legal stamped h) (same_book : own_book (sight h) ArchiveFolder ≡ A)
      (same_segments : (k : ℕ) → (sight h).own (SegmentFile ArchiveFolder k) ≡ V.own (SegmentFile ArchiveFolder k)) where
    same_archive : all_named (files_after h) ArchiveFolder ≡ Cs
    same_archive =
        sym (named_known stamped h then_legal ArchiveFolder)
        ∙ (ap (λ (x : Book). own_chunks (sight h) ArchiveFolder x.segments) same_book
        ∙ (flat_same (λ (g : Segment). chunks_in ((sight h).own (SegmentFile ArchiveFolder g.number)))
        (λ (g : Segment). chunks_in (V.own (SegmentFile ArchiveFolder g.number))) A.segments
        (λ g one. ap chunks_in (same_segments g.number))
        ∙ named_known stamped history legal ArchiveFolder))

    starts_then : (s : Stream) (e : End) → Contains A.ends e → e.stream ≡ s → e.start ≡ start_of h s
    starts_then s e one is =
        let true_then = books_stay_true stamped h then_legal ArchiveFolder in
        has_start_is h e (true_then.starts e (subst (λ (x : Book). Contains x.ends e) (sym same_book) one))
        ∙ ap (start_of h) is

    split_then : (s : Stream) → map record_in (filter (is_of s) (Olds ++ Outs))
        ≡ split stamped s (start_of h s) (archive_of_stream (files_after h) s)
    split_then s =
        whole_split stamped types named history legal Heads s (start_of h s) (starts_then s)
        ∙ ap (λ l. split stamped s (start_of h s) (values (filter (is_of s) l))) (sym same_archive)

  -- ---- where no number is left for their segment

  due_here : (h : History) → Legal stamped h → sight h ≡ V → 0 < length Outs → IsDue stamped h
  due_here h then_legal same some =
      is_due stamped h Olds Outs olds
      (split_then h then_legal (ap (λ (v : Sight). own_book v ArchiveFolder) same)
      (λ k. ap (λ (v : Sight). v.own (SegmentFile ArchiveFolder k)) same)) some
    where
      olds : Olds ≡ all_named (files_after h) DemuxFolder
      olds =
          sym (named_known stamped history legal DemuxFolder)
          ∙ (ap (λ (v : Sight). own_chunks v DemuxFolder (own_book v DemuxFolder).segments) (sym same)
          ∙ named_known stamped h then_legal DemuxFolder)

  may_enter : MayEnter stamped V D Outs
  may_enter = (refl, enter)
    where
      enter : (g : Segment) → g.number ≡ D.next → (h : History) → Legal stamped h → own_book (sight h) DemuxFolder ≡ D
          → SameBeside D.next V (sight h) → HoldsChunks (sight h) g Outs
          → NewBook stamped DemuxFolder h (with_segment D g Outs)
      enter g number h then_legal same_records beside holds =
          let same_book : own_book (sight h) ArchiveFolder ≡ A = ap book_in (beside (BookFile ArchiveFolder) refl refl) in
          let same = same_archive h then_legal same_book (λ k. beside (SegmentFile ArchiveFolder k) refl refl) in
          let is : all_chunks types (own_book (sight h) DemuxFolder) Heads (all_named (files_after h) ArchiveFolder)
          (own_book (sight h) ArchiveFolder).ends ≡ Outs =
          ap (λ (x : Book). all_chunks types (own_book (sight h) DemuxFolder) Heads (all_named (files_after h) ArchiveFolder) x.ends) same_book
          ∙ (ap (λ (x : Book). all_chunks types x Heads (all_named (files_after h) ArchiveFolder) A.ends) same_records
          ∙ ap (λ l. all_chunks types D Heads l A.ends) same) in
          subst (NewBook stamped DemuxFolder h) (ap₂ (λ x l. with_segment x g l) same_records is)
          (may_publish stamped types named h then_legal Heads g (subst (HoldsChunks (sight h) g) (sym is) holds))

  -- ---- once the segment is entered

  module _ (h : History) (then_legal : Legal stamped h) (s : Option Segmenter) (some : HasSome s Outs)
      (entered : Entered V D Outs s (sight h)) where
    archive_is : all_named (files_after h) ArchiveFolder ≡ Cs
    archive_is = same_archive h then_legal entered.archive entered.segments

    records_are : all_named (files_after h) DemuxFolder ≡ (own_earlier V).records ++ Outs
    records_are = sym (named_known stamped h then_legal DemuxFolder) ∙ entered.records

    records_here : all_named (files_after h) DemuxFolder ≡ Olds ++ Outs
    records_here = records_are ∙ ap (λ l. l ++ Outs) (named_known stamped history legal DemuxFolder)

    bytes : Each HasBytes Outs
    bytes =
        each_back HasBytes Olds Outs
        (subst (Each HasBytes) records_here (each_named (files_after h) DemuxFolder (book_of (files_after h) DemuxFolder)))

    each_key : (e : End) → Contains A.ends e → Each (HasKey Cs) (stream_chunks types D Heads Cs e)
    each_key e one =
        let own : Each HasBytes (stream_chunks types D Heads Cs e) =
        subst (Each HasBytes)
        (just_of (stream_chunks types D Heads Cs) (λ e. of_stream Heads e _) A.ends
        (archive_sorted stamped types named history legal Heads) e one)
        (each_filter HasBytes (is_of e.stream) Outs bytes) in
        each_as (HasKey (in_order Cs)) (HasKey Cs) (stream_chunks types D Heads Cs e)
        (λ c has. (has.0, all_put Cs has.0 has.1, has.2))
        (keys_found V (names_of (codes "archive") A) Heads (in_order Cs) e (split_from D e) (archive_records stamped history legal)
        (runs_in_order Cs e (split_from D e)
        (each_at (λ (e : End). RunsSo Cs e (split_from D e)) A.ends e (archive_runs stamped history legal D) one))
        (split_from D e) _ (low (split_from D e)) (new_fits stamped types named history legal Heads e one) own)
      where
        low : (n : ℕ) → n ≤ n
        low n = omega arith

    done_so : (0 < length Outs → D.next ≡ 2 ^ 63 - 1 → ⊥) → (r : DemuxReport) → Counts types A D V Cs r
        → DemuxDone stamped (own_earlier V) r h
    done_so number r counts = record {
      all = λ s.
          ap (λ l. map record_in (filter (is_of s) l)) records_here
          ∙ split_then h then_legal entered.archive entered.segments s;
      added = Outs;
      are = records_are;
      segments = one_more s Outs D (own_book (sight h) DemuxFolder) some entered.more;
      number = number;
      order = all_in_order types D Heads Cs A.ends (archive_rises stamped types named history legal Heads);
      keys = subst (λ l. Each (HasKey l) Outs) (sym archive_is)
          (each_flat_in (HasKey Cs) (stream_chunks types D Heads Cs) A.ends each_key);
      taken = counts.taken;
      entries = counts.entries;
      left =
          ap₂ (λ x y. x + y) counts.left (ap bytes_of records_here)
          ∙ (left_is stamped types named history legal Heads ∙ ap bytes_of (sym archive_is));
    }

  -- what is split is the archive's records in order, of which each stream's are the same
  same_news : News types A D V (in_order Cs) ≡ Outs
  same_news = same_chunks types D Heads Cs A.ends (archive_runs stamped history legal D)

  can_run_here : CanRun stamped types A D V
  can_run_here = record {
    cs = in_order Cs;
    can = record {
      sound = archive_sound stamped history legal;
      well = archive_well stamped history legal;
      records = archive_records stamped history legal;
      runs = all_run types D Heads Cs A.ends (archive_runs stamped history legal D);
      unsorted = subst (λ l. SplitAll l A.ends D) (sym (archive_found stamped history legal)) (archive_runs stamped history legal D);
      sorted = archive_rises stamped types named history legal Heads;
      settled = archive_settled stamped history legal;
      rises = records_rise stamped types named history legal Heads;
      free = records_free stamped history legal;
    };
    book = refl;
    may = subst (MayEnter stamped V D) (sym same_news) may_enter;
    done = λ h legal_then s some entered number r counts.
        done_so h legal_then s (subst (HasSome s) same_news some) (subst (λ l. Entered V D l s (sight h)) same_news entered)
        (λ one. number (subst (λ (l : List Chunk). 0 < length l) (sym same_news) one)) r (record {
          taken = counts.taken ∙ ap bytes_of same_news;
          entries = counts.entries ∙ ap length same_news;
          left = counts.left ∙ same_left types D Heads Cs A.ends (archive_runs stamped history legal D);
        });
    due = λ h legal_then same some. due_here h legal_then same (subst (λ (l : List Chunk). 0 < length l) same_news some);
  }

pub can_run : (stamped types : List (List ℕ)) → NamesStamped stamped types → (a b : Book) (v : Sight) → IsReady stamped a b v
    → CanRun stamped types a b v
can_run stamped types named a b v r =
    subst (λ x. CanRun stamped types x b v) r.has_archive
    (subst (λ x. CanRun stamped types (own_book v ArchiveFolder) x v) r.has_demux
    (subst (λ w. CanRun stamped types (own_book w ArchiveFolder) (own_book w DemuxFolder) w) r.is
    (can_run_here stamped types named r.history r.legal)))
