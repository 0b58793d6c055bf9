-- What was prepared is published, and so all is taken.
use Rattle.std.proofs.Common.{◌≡◌, ℕ, ◌+◌, ◌<◌, ◌≤◌, Bool, true, false, not, if◌then◌else◌, List, [], ◌∷◌, length, Option, Some, None, Ok, Err, Result, ap, sym, subst, ◌∙◌, refl, arith, true≢false, append-nil, length-append}
use Rattle.std.specs.Prelude.{codes, count_by, filter, flat_map}
use Rattle.std.proofs.lemmas.Bool.{and_parts, and_from}
use Rattle.chk_bytes.specs.Stems.{Stem}
use Rattle.chk_site.specs.declared.acts.OutsideFault.{OutsideFault}
use Rattle.chk_site.specs.declared.acts.OutsideFault.TheVariants.{Outside as site_failed, NoMemory as no_memory}
use Rattle.chk_site.specs.Acts.{Deed}
use Rattle.chk_site.specs.History.{History, Every, files_after}
use Rattle.chk_site.specs.Site.{Adds}
use Rattle.chk_site.specs.Runs.{Leads}
use Rattle.chk_site.proofs.Leads.{leads_as, leads_then}
use Rattle.chk_chunk.specs.Keys.{Chunk, is_of, same_data}
use Rattle.chk_world.specs.Names.{ArchiveFolder, SegmentFile}
use Rattle.chk_world.specs.Committed.{aside_chunks}
use Rattle.chk_world.specs.Books.{is_nothing, Segment, End, Book, chunks_in, chunks_named, chunks_of_stream, values, book_of}
use Rattle.chk_world.specs.ArchiveRuns.{total_gain, once, found}
use Rattle.chk_world.specs.Streams.{start_of}
use Rattle.chk_world.specs.Jobs.{segment_list}
use Rattle.chk_world.specs.Rules.{Legal}
use Rattle.chk_world.specs.Places.{As}
use Rattle.chk_world.specs.Sight.{job, Sight, sight, own_files, own_book, own_chunks, own_aside, AtJob}
use Rattle.chk_world.specs.JobSteps.{IsOf}
use Rattle.chk_world.proofs.Segments.{flat_same, data_self}
use Rattle.chk_world.proofs.OwnArchive.{own_archive_is, own_aside_is}
use Rattle.chk_record_index.specs.Faults.{job_fault, IsOfRead}
use Rattle.chk_record_index.specs.declared.fault.JobFault.{JobFault}
use Rattle.chk_record_index.specs.declared.fault.JobFault.TheVariants.{Outside, Damaged, Spent, NoMemory}
use Rattle.chk_archive_plan.specs.Plan.{parts_of, ends_of, set_aside}
use Rattle.chk_archive_parts.specs.declared.cuts.Cut.{Cut}
use Rattle.chk_record_index.specs.Heads.{Head}
use Rattle.chk_archive_parts.specs.Cuts.{cut_chunks, AreWithin}
use Rattle.chk_archive_parts.specs.Kept.{is_first, are_old_aside, past_chunks, KeptTold, IsFirst}
use Rattle.chk_archive_parts.proofs.KeptOnce.{Differ, once_differ}
use Rattle.chk_archive.specs.Starts.{HaveStartsIn, ToldOtherStart}
use Rattle.chk_archive.proofs.StartsAgree.{starts_of_records, no_other_start}
use Rattle.chk_archive_plan.specs.declared.spans.Span.{Span}
use Rattle.chk_archive_plan.specs.Passes.{AreSpans}
use Rattle.chk_archive_plan.proofs.Runs.{all_put}
use Rattle.chk_record_index.specs.Order.{in_head_order}
use Rattle.chk_world.proofs.BooksTrue.{has_start_is}
use Rattle.chk_world.proofs.Each.{Each, each_from}
use Rattle.chk_archive_parts.specs.Gathering.{heads_of, Found}
use Rattle.chk_archive_parts.specs.Records.{AreRecords}
use Rattle.chk_archive_parts.specs.Writes.{HoldsChunks}
use Rattle.chk_archive_parts.proofs.OneFile.{Knows}
use Rattle.chk_archive_parts.proofs.FromKnown.{from_known, reach, reach_known}
use Rattle.chk_archive.specs.Archived.{ReplacesBook, MergesBy, merge_replaces}
use Rattle.chk_archive.specs.Listed.{IsListed, sources_in}
use Rattle.chk_archive_parts.specs.Publishing.{IsPublished, MayFollow, Published}
use Rattle.chk_archive_parts.proofs.Published.{replaces_no_start, quiet_replace}
use Rattle.chk_archive.specs.declared.taking.Planned.{Planned}
use Rattle.chk_archive.specs.Taking.{AreSorted, IsPlanned, CanPrepare, MayFollowIf, PartsAdded, nothing_taken, one_added, AsideNamed, none_kept, old_kept, new_kept, asked, IsReady, Prepared, stays_aside, TookAll, TookSo}
use Rattle.chk_archive.specs.Sinks.{as_sight}
use Rattle.chk_archive.specs.Written.{one_for, same_chunks, one_aside, taken_parts, kept_aside, needed_behind}
use Rattle.chk_archive.specs.declared.taking.Taken.{Taken}
use Rattle.chk_archive.proofs.ByStream.{SameByStream}
use Rattle.chk_archive.proofs.Listings.{legal_then, own_then}
use Rattle.chk_record_reader.proofs.BothLimits.{limits_agree}
use Rattle.chk_archive.proofs.FoundSources.{K, founded, true_book}
use Rattle.chk_archive.proofs.NextBook.{Ends, Cs, may_follow, now_reached}
use Rattle.chk_archive.proofs.Preparing.{below_book, below_segment}
use Rattle.chk_archive.proofs.FoundPlan.{Files, Hs, all_records, can_prepare, asks_as_needed, parts_are, kept_are, taken_is}
use Rattle.chk_archive.proofs.Readied.{merges_start, quiet_merge}

-- ---- over a publication

module _ (u : Sight) (c : Book) (w : Sight) (p : IsPublished ArchiveFolder u c w) where
  segment_stays : (k : ℕ) → w.own (SegmentFile ArchiveFolder k) ≡ u.own (SegmentFile ArchiveFolder k)
  segment_stays k = p.own (SegmentFile ArchiveFolder k) refl

  holds_still : (g : Segment) (ds : List Chunk) → HoldsChunks u g ds → HoldsChunks w g ds
  holds_still g ds h = record {
    file = h.file;
    there = segment_stays g.number ∙ h.there;
    is = h.is;
    synced = h.synced;
    size = h.size;
  }

  pub added_still : (b new : Book) (parts : List Chunk) → PartsAdded u b new parts → PartsAdded w b new parts
  added_still b new parts (nothing_taken none segments ends) = nothing_taken none segments ends
  added_still b new parts (one_added g low some holds segments ends) =
      one_added g low some (holds_still g parts holds) segments ends

  chunks_still : (o : Option Segment)
      → flat_map (λ (g : Segment). chunks_in (w.own (SegmentFile ArchiveFolder g.number))) (segment_list o)
      ≡ flat_map (λ (g : Segment). chunks_in (u.own (SegmentFile ArchiveFolder g.number))) (segment_list o)
  chunks_still o =
      flat_same (λ (g : Segment). chunks_in (w.own (SegmentFile ArchiveFolder g.number)))
      (λ (g : Segment). chunks_in (u.own (SegmentFile ArchiveFolder g.number))) (segment_list o)
      (λ g one. ap chunks_in (segment_stays g.number))

  pub aside_still : (b new : Book) (kept : List Chunk) → own_book w ArchiveFolder ≡ own_book u ArchiveFolder
      → AsideNamed u b new kept → AsideNamed w b new kept
  aside_still b new kept same (none_kept none is) = none_kept none is
  aside_still b new kept same (old_kept are is) =
      old_kept
      (ap (λ (x : Book). flat_map (λ (g : Segment). chunks_in (w.own (SegmentFile ArchiveFolder g.number))) (segment_list x.aside)) same
      ∙ (chunks_still (own_book u ArchiveFolder).aside ∙ are)) is
  aside_still b new kept same (new_kept g low holds is) = new_kept g low (holds_still g kept holds) is

  -- the aside segment of the book that is published
  pub aside_now : (b : Book) (kept : List Chunk) → own_book u ArchiveFolder ≡ b → AsideNamed u b c kept
      → own_aside w ≡ kept
  aside_now b kept book named =
      ap (λ (x : Book). flat_map (λ (g : Segment). chunks_in (w.own (SegmentFile ArchiveFolder g.number))) (segment_list x.aside)) p.book
      ∙ (chunks_still c.aside ∙ go named)
    where
      go : AsideNamed u b c kept
          → flat_map (λ (g : Segment). chunks_in (u.own (SegmentFile ArchiveFolder g.number))) (segment_list c.aside) ≡ kept
      go (none_kept none is) =
          ap (λ o. flat_map (λ (g : Segment). chunks_in (u.own (SegmentFile ArchiveFolder g.number))) (segment_list o)) is ∙ sym none
      go (old_kept are is) =
          ap (λ o. flat_map (λ (g : Segment). chunks_in (u.own (SegmentFile ArchiveFolder g.number))) (segment_list o)) is
          ∙ (ap (λ (x : Book). flat_map (λ (g : Segment). chunks_in (u.own (SegmentFile ArchiveFolder g.number))) (segment_list x.aside)) (sym book)
          ∙ are)
      go (new_kept g low holds is) =
          ap (λ o. flat_map (λ (g : Segment). chunks_in (u.own (SegmentFile ArchiveFolder g.number))) (segment_list o)) is
          ∙ (append-nil (chunks_in (u.own (SegmentFile ArchiveFolder g.number)))
          ∙ (ap chunks_in holds.there ∙ (limits_agree holds.file.bytes holds.is.form ∙ holds.is.are)))

-- there is at most one segment more
one_more : (u : Sight) (old new : Book) (parts : List Chunk) → PartsAdded u old new parts
    → length new.segments ≤ length old.segments + 1
one_more u old new parts (nothing_taken none segments ends) = let same = ap length segments in omega (arith, same)
one_more u old new parts (one_added g low some holds segments ends) =
    let same = ap length segments in
    let both = length-append old.segments (g ∷ []) in
    omega (arith, same, both)

-- what the job knows to be set aside was so at the listing
old_aside : (stamped : List (List ℕ)) (names : List (List ℕ)) (b : Book) (v : Sight) (at : IsListed stamped names b v)
    → own_aside v ≡ aside_chunks (files_after (K stamped names b v at).upto)
old_aside stamped names b v at =
    let same : own_files (files_after (K stamped names b v at).upto) ≡ v.own = λ i n. own_then stamped names b v at n i in
    sym (ap (λ o. own_aside (as_sight o)) same)
    ∙ own_aside_is stamped (K stamped names b v at).upto (legal_then stamped names b v at)

-- a segment is needed only where one was asked for
same_self : (cs : List Chunk) → same_chunks cs cs ≡ true
same_self [] = refl
same_self (c ∷ cs) = and_from (same_data c c) (same_chunks cs cs) (data_self c) (same_self cs)

aside_low : (stays : Bool) (old kept : List Chunk) → (stays ≡ true → kept ≡ old) → one_aside kept old ≤ asked stays kept
aside_low true old kept same =
    let none : one_aside kept old ≡ 0 =
    ap (λ t. if t then 0 else one_for kept) (ap (same_chunks kept) (sym (same refl)) ∙ same_self kept) in
    omega (arith, none)
aside_low false old kept same = go (same_chunks kept old)
  where
    go : (t : Bool) → (if t then 0 else one_for kept) ≤ one_for kept
    go true = omega arith
    go false = omega arith

-- ---- of what was listed

module _ (stamped : List (List ℕ)) (names : List (List ℕ)) (b : Book) (v : Sight)
    (at : IsListed stamped names b v) (new : Book) (parts kept : List Chunk)
    (parts_are : parts ≡ parts_of (Ends stamped names b v at) (Cs stamped names b v at))
    (kept_are : kept ≡ set_aside (ends_of (Ends stamped names b v at) (Cs stamped names b v at)) (Cs stamped names b v at))
    (stays : Bool) (stays_are : stays ≡ true → kept ≡ own_aside v) (asks : asked stays kept ≤ one_aside kept (own_aside v)) where
  by_stream : SameByStream parts (parts_of (Ends stamped names b v at) (Cs stamped names b v at))
  by_stream s = ap (filter (is_of s)) parts_are

  asides_then : own_aside v ≡ aside_chunks (files_after (K stamped names b v at).upto)
  asides_then = old_aside stamped names b v at

  -- the numbers that the book takes are enough
  needed_most : needed_behind (K stamped names b v at) ≤ one_for parts + asked stays kept
  needed_most =
      subst (λ (ps : List Chunk). one_for ps + one_aside
      (kept_aside (K stamped names b v at)) (aside_chunks (files_after (K stamped names b v at).upto)) ≤ one_for parts + asked stays kept) parts_are
      (subst (λ (ks : List Chunk). one_for parts + one_aside ks
      (aside_chunks (files_after (K stamped names b v at).upto)) ≤ one_for parts + asked stays kept) kept_are
      (let low = aside_low stays (aside_chunks (files_after (K stamped names b v at).upto)) kept
      (λ e. stays_are e ∙ asides_then) in
      omega (arith, low)))

  -- and no more are asked for
  needed_least : one_for parts + asked stays kept ≤ needed_behind (K stamped names b v at)
  needed_least =
      subst (λ (ps : List Chunk). one_for parts + asked stays kept ≤ one_for ps + one_aside
      (kept_aside (K stamped names b v at)) (aside_chunks (files_after (K stamped names b v at).upto))) parts_are
      (subst (λ (ks : List Chunk). one_for parts + asked stays kept ≤ one_for parts + one_aside ks
      (aside_chunks (files_after (K stamped names b v at).upto))) kept_are
      (let less = subst (λ (o : List Chunk). asked stays kept ≤ one_aside kept o) asides_then asks in omega (arith, less)))

  module _ (u : Sight) (changed : Bool) (ready : IsReady v b new parts kept stays changed u) where
    book_ready : own_book u ArchiveFolder ≡ b
    book_ready = below_book b.next v u ready.same ∙ at.book

    module _ (h : History) (c : Book) (p : IsPublished ArchiveFolder u c (sight h)) where
      sinks_then : (x : Stem) → (sight h).sinks x ≡ v.sinks x
      sinks_then x = p.sinks x ∙ ready.same.sinks x

      old_then : (k : ℕ) → k < b.next → (sight h).own (SegmentFile ArchiveFolder k) ≡ v.own (SegmentFile ArchiveFolder k)
      old_then k small = p.own (SegmentFile ArchiveFolder k) refl ∙ below_segment b.next v u ready.same k small

    may_ready : MayFollow stamped ArchiveFolder u new
    may_ready h legal p =
        let same : own_book (sight h) ArchiveFolder ≡ own_book u ArchiveFolder = p.book in
        may_follow stamped names b v at h (sinks_then h (own_book u ArchiveFolder) p) (old_then h (own_book u ArchiveFolder) p)
        (same ∙ book_ready) legal new parts kept
        (added_still u (own_book u ArchiveFolder) (sight h) p b new parts ready.parts_are)
        (aside_still u (own_book u ArchiveFolder) (sight h) p b new kept same ready.aside) by_stream kept_are

    pub may_if : MayFollowIf stamped u new changed
    may_if = (λ e. may_ready, λ e. book_ready ∙ sym (ready.unchanged e))

    pub took_all : (t : Taken) → t.taken ≡ total_gain (Ends stamped names b v at) (Cs stamped names b v at)
        → t.held ≡ length kept → (h : History) → Legal stamped h → IsPublished ArchiveFolder u new (sight h)
        → TookAll v new t (sight h)
    took_all t taken held h legal p =
        let aside = aside_now u new (sight h) p b kept book_ready ready.aside in
        let book : book_of (files_after h) ArchiveFolder ≡ new = p.book in
        record {
          listing = p.listing ∙ ready.same.listing;
          sinks = sinks_then h new p;
          book = p.book;
          few = subst (λ (x : Book). length new.segments ≤ length x.segments + 1) (sym at.book)
              (one_more u b new parts ready.parts_are);
          l = K stamped names b v at;
          last = p.listing ∙ (ready.same.listing ∙ at.shows.last);
          reached = λ s.
              ap (λ x. start_of (K stamped names b v at).upto s + length x)
              (own_archive_is stamped h legal s
              ∙ ap (λ (x : Book). values (chunks_of_stream s (chunks_named (files_after h) ArchiveFolder x))) book)
              ∙ now_reached stamped names b v at h (sinks_then h new p) (old_then h new p) new parts
              (added_still u new (sight h) p b new parts ready.parts_are) by_stream s;
          aside = aside ∙ kept_are;
          taken = taken;
          held = held ∙ sym (ap length aside);
          added = subst (λ (x : Book). PartsAdded (sight h) x new (taken_parts (K stamped names b v at))) (sym at.book)
              (subst (PartsAdded (sight h) b new) parts_are (added_still u new (sight h) p b new parts ready.parts_are));
          old = subst (λ (x : Book). (k : ℕ) → k < x.next
              → (sight h).own (SegmentFile ArchiveFolder k) ≡ v.own (SegmentFile ArchiveFolder k)) (sym at.book) (old_then h new p);
          numbers = subst (λ (x : Book). x.next + needed_behind (K stamped names b v at) ≤ new.next) (sym at.book)
              (let most = needed_most in let exact = ready.numbers in omega (arith, most, exact));
        }

  -- ---- over histories

  pub prepare_fails : (r : Result Bool JobFault) (fault : JobFault) → r ≡ Err fault → (h : History)
      → Prepared stamped v b new parts kept stays r h → TookSo stamped v b new (Err fault) h
  prepare_fails r fault e h k = go fault (subst (λ x. Prepared stamped v b new parts kept stays x h) e k)
    where
      go : (fault : JobFault) → Prepared stamped v b new parts kept stays (Err fault) h → TookSo stamped v b new (Err fault) h
      go (Outside call) k = k
      go (Damaged name place) k = k
      go (Spent n) k = record {
        legal = k.legal;
        may_act = k.may_act;
        alive = λ runs.
            let x = k.alive runs in
            let lacks = x.1 in
            let least = needed_least in
            record {
              number = x.0;
              l = K stamped names b v at;
              last = x.3 ∙ at.shows.last;
              lacks = omega (arith, lacks, least);
            };
      }
      go NoMemory k = k

  module _ (changed : Bool) (first : Result Bool JobFault) (e : first ≡ Ok changed)
      (r : Result (Unit {0}) OutsideFault) {a m z : Option History}
      (told : Adds a m (Leads (As stamped job) (Knows stamped v) (Prepared stamped v b new parts kept stays first)))
      (own : Adds m z (Every (IsOf ReplacesBook)))
      (second : (u : Sight) → MayFollowIf stamped u new changed
      → Adds m z (Leads (As stamped job) (Knows stamped u) (Published stamped ArchiveFolder u new r))) where
    is_prepared : Adds a m (Leads (As stamped job) (Knows stamped v) (AtJob stamped (IsReady v b new parts kept stays changed)))
    is_prepared = leads_as (λ h k. k) (λ h k. subst (λ x. Prepared stamped v b new parts kept stays x h) e k) told

    pub publish_fails : (fault : OutsideFault) → r ≡ Err fault
        → Adds a z (Leads (As stamped job) (Knows stamped v) (TookSo stamped v b new (Err (job_fault fault))))
    publish_fails fault is =
        leads_then is_prepared
        (from_known stamped ReplacesBook (replaces_no_start (codes "archive")) (quiet_replace (codes "archive")) (IsReady v b new parts kept stays changed)
        (TookSo stamped v b new (Err (job_fault fault))) own
        (λ h k runs.
        let u = sight h in
        reach_known stamped h (IsReady v b new parts kept stays changed) (TookSo stamped v b new (Err (job_fault fault)))
        (leads_as (λ g j. j) (λ g j. of_fault fault g (subst (λ x. Published stamped ArchiveFolder u new x g) is j))
        (second u (may_if u changed (k.alive runs)))) k)
        (λ h x. of_fault fault h x.legal))
      where
        of_fault : (fault : OutsideFault) (h : History) → Legal stamped h → TookSo stamped v b new (Err (job_fault fault)) h
        of_fault (site_failed call) h legal = legal
        of_fault no_memory h legal = legal

    pub published_all : (t : Taken) → t.taken ≡ total_gain (Ends stamped names b v at) (Cs stamped names b v at)
        → t.held ≡ length kept → (value : Unit {0}) → r ≡ Ok value
        → Adds a z (Leads (As stamped job) (Knows stamped v) (TookSo stamped v b new (Ok t)))
    published_all t taken held value is =
        leads_then is_prepared
        (from_known stamped ReplacesBook (replaces_no_start (codes "archive")) (quiet_replace (codes "archive")) (IsReady v b new parts kept stays changed)
        (TookSo stamped v b new (Ok t)) own
        (λ h k runs.
        let u = sight h in
        let ready = k.alive runs in
        reach_known stamped h (IsReady v b new parts kept stays changed) (TookSo stamped v b new (Ok t))
        (leads_as (λ g j. j)
        (λ g j.
        let x = subst (λ y. Published stamped ArchiveFolder u new y g) is j in
        record {
          legal = x.legal;
          may_act = x.may_act;
          alive = λ still. took_all u changed ready t taken held g x.legal (x.alive still);
        })
        (second u (may_if u changed ready))) k)
        (λ h x. record { legal = x.legal; may_act = x.may_act; alive = λ runs. absurd (x.alive runs) }))

-- ---- the calls of the book's replacement merge

pub of_replace : (call : Deed) → ReplacesBook call → MergesBy call
of_replace call k = merge_replaces call k

-- where nothing is changed
pub unchanged_book : (v : Sight) (b : Book) → own_book v ArchiveFolder ≡ b → IsPublished ArchiveFolder v b v
unchanged_book v b book =
    record { listing = refl; sinks = λ x. refl; own = λ n apart. refl; book = book }

-- ---- for files and heads that are these

module _ (stamped : List (List ℕ)) (names : List (List ℕ)) (b : Book) (v : Sight)
    (at : IsListed stamped names b v) (files : List (List ℕ)) (heads : List Head)
    (files_are : files ≡ Files stamped names b v at) (heads_are : heads ≡ Hs stamped names b v at) where
  pub all_args : AreRecords v files heads (Cs stamped names b v at)
  all_args =
      subst (λ f. AreRecords v f heads (Cs stamped names b v at)) (sym files_are)
      (subst (λ h. AreRecords v (Files stamped names b v at) h (Cs stamped names b v at)) (sym heads_are)
      (all_records stamped names b v at))

  pub can_args : (count : ℕ) (before : List Head) → count ≡ count_by is_first before → before ≡ heads_of v 0 files
      → (kept : List Cut) → AreWithin (length heads) kept
      → CanPrepare v b files heads count kept (cut_chunks (Cs stamped names b v at) kept)
  can_args count before is first kept within =
      subst (λ f. CanPrepare v b f heads count kept (cut_chunks (Cs stamped names b v at) kept)) (sym files_are)
      (subst (λ h. CanPrepare v b (Files stamped names b v at) h count kept (cut_chunks (Cs stamped names b v at) kept)) (sym heads_are)
      (can_prepare stamped names b v at count
      (is ∙ (ap (count_by is_first) first ∙ ap (λ f. count_by is_first (heads_of v 0 f)) files_are)) kept
      (subst (λ h. AreWithin (length h) kept) heads_are within)))

-- ---- for files and heads that are so

module _ (stamped : List (List ℕ)) (names : List (List ℕ)) (b : Book) (v : Sight)
    (at : IsListed stamped names b v) (files : List (List ℕ)) (heads : List Head) (old : ℕ)
    (sorted : AreSorted v (sources_in b names) files heads old) where
  pub in_order_are : heads ≡ Hs stamped names b v at
  in_order_are = sorted.heads_are ∙ ap (λ f. in_head_order (heads_of v 0 f)) sorted.files_are

  pub records_are : AreRecords v files heads (Cs stamped names b v at)
  records_are = all_args stamped names b v at files heads sorted.files_are in_order_are

  pub can_be : (kept : List Cut) → AreWithin (length heads) kept
      → CanPrepare v b files heads old kept (cut_chunks (Cs stamped names b v at) kept)
  can_be kept within =
      can_args stamped names b v at files heads sorted.files_are in_order_are old (heads_of v 0 files) sorted.count refl kept within

  -- no record has another start than its stream
  pub starts_are : HaveStartsIn b.ends heads
  starts_are =
      starts_of_records (start_of (K stamped names b v at).upto) v files b.ends heads (Cs stamped names b v at) records_are
      (each_from (λ (e : End). e.start ≡ start_of (K stamped names b v at).upto e.stream) b.ends
      (λ e one. has_start_is (K stamped names b v at).upto e ((true_book stamped names b v at).starts e one)))
      (each_from (λ (c : Chunk). c.key.start ≡ start_of (K stamped names b v at).upto c.key.stream) (Cs stamped names b v at)
      (λ c one. (founded stamped names b v at c (all_put (found (K stamped names b v at)) c one)).is_true.start))

  pub start_fails : (new : Book) (fault : JobFault) → ToldOtherStart files b.ends heads fault → (h : History)
      → AtJob stamped (λ u. u ≡ v) h → TookSo stamped v b new (Err fault) h
  start_fails new (Outside call) told h k = absurd told
  start_fails new (Damaged name place) told h k = absurd (no_other_start files b.ends heads starts_are name place told)
  start_fails new (Spent n) told h k = absurd told
  start_fails new NoMemory told h k = k.legal

  module _ (p : Planned) (planned : IsPlanned b heads p) where
    planned_so : IsPlanned b (Hs stamped names b v at) p
    planned_so = subst (λ h. IsPlanned b h p) in_order_are planned

    pub spans_are : AreSpans planned.known heads 0 p.spans.items (length heads)
    spans_are = planned.spans

    pub parts_so : cut_chunks (Cs stamped names b v at) p.cuts ≡ taken_parts (K stamped names b v at)
    parts_so = parts_are stamped names b v at p planned_so

    pub kept_so : once (past_chunks (Cs stamped names b v at) p.spans.items) ≡ kept_aside (K stamped names b v at)
    kept_so = kept_are stamped names b v at p planned_so

    -- a segment for what is set aside is asked for only where it is needed
    pub asks_so : (kept : List Cut) → Each (IsFirst (Cs stamped names b v at) p.spans.items) kept
        → cut_chunks (Cs stamped names b v at) kept ≡ kept_aside (K stamped names b v at)
        → asked (stays_aside b heads old kept) (cut_chunks (Cs stamped names b v at) kept)
        ≤ one_aside (cut_chunks (Cs stamped names b v at) kept) (own_aside v)
    asks_so kept first is =
        subst (λ h. asked (stays_aside b h old kept) (cut_chunks (Cs stamped names b v at) kept)
        ≤ one_aside (cut_chunks (Cs stamped names b v at) kept) (own_aside v)) (sym in_order_are)
        (asks_as_needed stamped names b v at old
        (sorted.count ∙ ap (λ f. count_by is_first (heads_of v 0 f)) sorted.files_are) p planned_so kept first
        (subst Differ (sym (is ∙ sym kept_so)) (once_differ (past_chunks (Cs stamped names b v at) p.spans.items))))

    pub gain_so : p.taken ≡ total_gain (Ends stamped names b v at) (Cs stamped names b v at)
    gain_so = taken_is stamped names b v at p planned_so

-- what stays is what the aside segment has
pub stays_whole : (v : Sight) (b : Book) (files : List (List ℕ)) (heads : List Head) (count : ℕ) (cs : List Chunk) (kept : List Cut)
    → CanPrepare v b files heads count kept (cut_chunks cs kept) → stays_aside b heads count kept ≡ true
    → cut_chunks cs kept ≡ own_aside v
stays_whole v b files heads count cs [] can is =
    sym (ap (λ (x : Book). own_chunks v ArchiveFolder (segment_list x.aside)) can.book
    ∙ ap (λ o. own_chunks v ArchiveFolder (segment_list o)) (nothing b.aside is))
  where
    nothing : (o : Option Segment) → is_nothing o ≡ true → o ≡ None
    nothing None e = refl
    nothing (Some g) e = absurd (true≢false (sym e))
stays_whole v b files heads count cs (k ∷ ks) can is =
    let p = and_parts (not (is_nothing b.aside)) (are_old_aside heads count (k ∷ ks)) is in
    let g = something b.aside p.0 in
    sym (can.whole g.0 g.1 p.1)
  where
    something : (o : Option Segment) → not (is_nothing o) ≡ true → (g : Segment) × (o ≡ Some g)
    something None e = absurd (true≢false (sym e))
    something (Some g) e = (g, refl)

-- ---- behind the gathering

module _ (stamped : List (List ℕ)) (v : Sight) (b new : Book) (ws : List (List ℕ)) where
  took_bottom : (r : Result Taken JobFault) (h : History) → AtJob stamped (λ u. ⊥) h → TookSo stamped v b new r h
  took_bottom (Ok t) h z = record { legal = z.legal; may_act = z.may_act; alive = λ runs. absurd (z.alive runs) }
  took_bottom (Err (Outside call)) h z = z.legal
  took_bottom (Err (Damaged name place)) h z = record { legal = z.legal; may_act = z.may_act; alive = z.alive }
  took_bottom (Err (Spent n)) h z = record { legal = z.legal; may_act = z.may_act; alive = λ runs. absurd (z.alive runs) }
  took_bottom (Err NoMemory) h z = z.legal

  pub found_fails : (fault : JobFault) → IsOfRead fault → (h : History) → Found stamped v ws (Err fault) h
      → TookSo stamped v b new (Err fault) h
  found_fails (Outside call) only h k = k
  found_fails (Damaged name place) only h k = k
  found_fails (Spent n) only h k = absurd only
  found_fails NoMemory only h k = k

  pub kept_fails : (cs : List Chunk) (spans : List Span) (fault : JobFault) → IsOfRead fault → (h : History)
      → KeptTold stamped v cs spans (Err fault) h → TookSo stamped v b new (Err fault) h
  kept_fails cs spans (Outside call) only h k = k
  kept_fails cs spans (Damaged name place) only h k = k
  kept_fails cs spans (Spent n) only h k = absurd only
  kept_fails cs spans NoMemory only h k = k

  -- behind reads that told a fact
  pub then_taken : (X : Type 0) (r : Result Taken JobFault) {a m z : Option History}
      → Adds a m (Leads (As stamped job) (Knows stamped v) (AtJob stamped (λ u. (u ≡ v) × X)))
      → Adds m z (Every (IsOf MergesBy))
      → (X → Adds m z (Leads (As stamped job) (Knows stamped v) (TookSo stamped v b new r)))
      → Adds a z (Leads (As stamped job) (Knows stamped v) (TookSo stamped v b new r))
  then_taken X r first own told =
      leads_then first
      (from_known stamped MergesBy merges_start quiet_merge (λ u. (u ≡ v) × X)
      (TookSo stamped v b new r) own
      (λ h k runs.
      let x = k.alive runs in
      reach stamped h (Knows stamped v) (TookSo stamped v b new r) (told x.1)
      (record { legal = k.legal; may_act = k.may_act; alive = λ still. x.0 }))
      (λ h y. took_bottom r h y))
