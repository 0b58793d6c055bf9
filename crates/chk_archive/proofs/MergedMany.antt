-- Many segments are merged into one, and the book that names it is published.
use Rattle.std.proofs.Common.{◌≡◌, ◌⊎◌, inl, inr, ℕ, ◌<◌, ◌≤◌, Bool, true, false, List, [], ◌++◌, length, Option, None, Ok, Err, Result, ap, sym, subst, ◌∙◌, refl, arith, if◌then◌else◌, append-nil}
use Rattle.std.specs.Prelude.{IsTrue, IsFalse, Contains, codes, nat_eq}
use Rattle.std.specs.List.{list_any}
use Rattle.std.proofs.lemmas.Bool.{or_left}
use Rattle.std.proofs.lemmas.List.Elements.{Contains-append_left}
use Rattle.chk_bytes.specs.Stems.{is_count}
use Rattle.chk_site.specs.declared.acts.OutsideFault.{OutsideFault}
use Rattle.chk_site.specs.declared.acts.OutsideFault.TheVariants.{Outside as site_failed, NoMemory as no_memory}
use Rattle.chk_site.specs.Files.{File, Files}
use Rattle.chk_site.specs.History.{Step, History, Every, files_after}
use Rattle.chk_site.specs.Site.{Adds}
use Rattle.chk_site.specs.Runs.{Leads, anyhow}
use Rattle.chk_site.proofs.Leads.{leads_as, leads_then}
use Rattle.chk_chunk.specs.Keys.{chunk_limit}
use Rattle.chk_world.specs.Names.{ArchiveFolder, Name, SegmentFile}
use Rattle.chk_world.specs.Books.{Segment, Book, book_of, chunks_in, chunks_within, chunks_of_stream}
use Rattle.chk_world.specs.ArchiveRuns.{in_order}
use Rattle.chk_world.specs.Jobs.{segment_list, all_segments}
use Rattle.chk_world.specs.Rules.{Legal}
use Rattle.chk_world.specs.Places.{As, Foreign}
use Rattle.chk_world.specs.Sight.{job, Sight, sight, own_book, AtJob}
use Rattle.chk_world.specs.JobSteps.{IsOf, ReadsOrWrites, SparesFile}
use Rattle.chk_world.proofs.Lifts.{with_own}
use Rattle.chk_world.proofs.NameTests.{same_name, name_same, nat_self}
use Rattle.chk_world.proofs.Segments.{flat_same, none_in}
use Rattle.chk_world.proofs.Spares.{own_spared}
use Rattle.chk_record_index.specs.Faults.{job_fault}
use Rattle.chk_record_index.specs.Pieces.{bytes_in}
use Rattle.chk_record_index.specs.declared.fault.JobFault.{JobFault}
use Rattle.chk_record_index.specs.declared.fault.JobFault.TheVariants.{Outside, Damaged, Spent, NoMemory}
use Rattle.chk_book.specs.Causes.{SpentBook}
use Rattle.chk_book.specs.Folders.{segment_name}
use Rattle.chk_record_reader.specs.Segments.{names_of, HasFiles, AreSettled}
use Rattle.chk_record_reader.specs.Merging.{SparesBoth, AreApart, MergedInto, HasMerged}
use Rattle.chk_archive_parts.specs.Writes.{SameBut, IsFree}
use Rattle.chk_archive_parts.proofs.OneSegment.{segment_spelled, segment_own, same_self, still_unnamed}
use Rattle.chk_archive_parts.proofs.FromKnown.{from_known, reach, reach_known}
use Rattle.chk_archive.specs.Archived.{ReplacesBook}
use Rattle.chk_archive.specs.FolderNames.{names_segment}
use Rattle.chk_archive.specs.Tidying.{IsTidy}
use Rattle.chk_archive.specs.Merged.{few_stay, many_merged, IsMerged, Merged}
use Rattle.chk_archive_parts.specs.Publishing.{IsPublished, MayFollow, Published}
use Rattle.chk_archive_parts.proofs.Published.{replaces_no_start, quiet_replace}
use Rattle.chk_archive.proofs.BookFacts.{unnamed}
use Rattle.chk_archive.proofs.Preparing.{but_book}
use Rattle.chk_archive.proofs.MergeSteps.{no_merge_starts, quiet_merging, over_merge}
use Rattle.chk_archive.proofs.MergeFacts.{facts, counted, in_map, settled, named_chunks, never_damaged, apart}
use Rattle.chk_record_reader.proofs.BothLimits.{limits_agree}
use Rattle.chk_archive.proofs.MergedBook.{IsMergedFor, known_chunks, merged_may}
use Rattle.chk_archive.proofs.MergeOrder.{merged_in_order}

-- fewer than 16 are left as they are
pub few_left : (b : Book) (u : Sight) → IsTidy b u → length b.segments < 16 → IsMerged b b u
few_left b u tidy few = record {
  book = tidy.book;
  strays = λ k count. elim (tidy.strays k count) [ inl none ↦ inl none | inr named ↦ inr (inl named) ];
  merged = few_stay few refl;
}

-- what the merging leaves, before the book is published
abbrev pub MergedSo : List (List ℕ) → Book → Book → Result (Unit {0}) JobFault → History → Type 0
MergedSo stamped b new (Ok value) h = AtJob stamped (IsMergedFor b new) h
MergedSo stamped b new (Err fault) h = Merged stamped b new (Err fault) h

bottom_so : (stamped : List (List ℕ)) (b new : Book) (r : Result (Unit {0}) JobFault) (h : History)
    → AtJob stamped (λ u. ⊥) h → MergedSo stamped b new r h
bottom_so stamped b new (Ok value) h z = record { legal = z.legal; may_act = z.may_act; alive = λ runs. absurd (z.alive runs) }
bottom_so stamped b new (Err (Outside call)) h z = z.legal
bottom_so stamped b new (Err (Damaged name at)) h z = record { legal = z.legal; may_act = z.may_act; alive = z.alive }
bottom_so stamped b new (Err (Spent n)) h z = record { legal = z.legal; may_act = z.may_act; alive = λ runs. absurd (z.alive runs) }
bottom_so stamped b new (Err NoMemory) h z = z.legal

module _ (stamped : List (List ℕ)) (b : Book) (h : History) (legal : Legal stamped h) (tidy : IsTidy b (sight h)) where
  abbrev F : Files
  F = files_after h

  abbrev Names : List (List ℕ)
  Names = names_of (codes "archive") b

  abbrev W : List ℕ
  W = segment_name (codes "archive") b.next

  book : book_of F ArchiveFolder ≡ b
  book = tidy.book

  free : IsFree (sight h) [] b.next
  free = record {
    apart = λ w one. absurd (none_in w one);
    count = (facts stamped h legal b book).count;
    unnamed = subst (λ (c : Book). IsFalse (list_any (λ (g : Segment). nat_eq g.number b.next) (all_segments c))) (sym tidy.book)
        (unnamed b (facts stamped h legal b book) b.next (omega arith));
  }

  spares : (before : History) (step : Step) → Legal stamped before → Foreign stamped job before step
      → SparesBoth Names W before step
  spares before step ok f = (λ w one. of_named w one, of_segment b.next free.count)
    where
      of_segment : (k : ℕ) → IsTrue (is_count k) → SparesFile (segment_name (codes "archive") k) before step
      of_segment k count =
          subst (λ w. SparesFile w before step) (sym (segment_spelled k))
          (own_spared stamped (SegmentFile ArchiveFolder k) (record { own = refl; known = count }) before step ok f)

      of_named : (w : List ℕ) → Contains Names w → SparesFile w before step
      of_named w one =
          let m = in_map (λ (g : Segment). segment_name (codes "archive") g.number) b.segments w one in
          subst (λ x. SparesFile x before step) m.2
          (of_segment m.0.number (counted stamped h legal b book m.0 (Contains-append_left b.segments (segment_list b.aside) m.0 m.1)))

  but_segment : (v u : Sight) (o : Option File) → SameBut b.next v u
      → SameBut b.next v (with_own u (SegmentFile ArchiveFolder b.next) o)
  but_segment v u o s = record {
    listing = s.listing;
    own = λ n apart. ap (λ b. if b then o else u.own n) apart ∙ s.own n apart;
    sinks = s.sinks;
  }

  -- ---- afterwards

  module _ (g : History) (ok : Legal stamped g) (same : SameBut b.next (sight h) (sight g)) where
    book_after : own_book (sight g) ArchiveFolder ≡ b
    book_after = but_book b.next (sight h) (sight g) same ∙ tidy.book

    strays_after : (k : ℕ) → IsTrue (is_count k)
        → ((sight g).own (SegmentFile ArchiveFolder k) ≡ None) ⊎ ((k ≡ b.next) ⊎ IsTrue (names_segment b k))
    strays_after k count = go (same_name (SegmentFile ArchiveFolder k) (SegmentFile ArchiveFolder b.next)) refl
      where
        number_of : Name → ℕ
        number_of (SegmentFile folder k) = k
        number_of n = 0

        go : (t : Bool) → same_name (SegmentFile ArchiveFolder k) (SegmentFile ArchiveFolder b.next) ≡ t
            → ((sight g).own (SegmentFile ArchiveFolder k) ≡ None) ⊎ ((k ≡ b.next) ⊎ IsTrue (names_segment b k))
        go true e = inr (inl (ap number_of (name_same (SegmentFile ArchiveFolder k) (SegmentFile ArchiveFolder b.next) e)))
        go false e = elim (tidy.strays k count) [
          | inl none ↦ inl (same.own (SegmentFile ArchiveFolder k) e ∙ none)
          | inr named ↦ inr (inr named)
        ]

    merged_for : (new : Book) → HasFiles Names F g → MergedInto (codes "archive") b new F g → IsMergedFor b new (sight g)
    merged_for new has m = record {
      book = book_after;
      strays = strays_after;
      f = m.f;
      there = segment_own g b.next free.count ∙ m.there;
      synced = m.synced;
      sound = m.sound;
      same = λ s.
          m.same s
          ∙ ap (chunks_of_stream s)
          (flat_same (λ w. chunks_within chunk_limit (bytes_in (F w))) (λ w. chunks_within chunk_limit (bytes_in (files_after g w))) Names
          (λ w one. ap (λ o. chunks_within chunk_limit (bytes_in o)) (sym (has w one)))
          ∙ (named_chunks stamped g ok b book_after ∙ sym (known_chunks stamped g ok b book_after)));
      in_turn = m.in_turn
          ∙ (merged_in_order chunk_limit F Names
          ∙ ap in_order
          (flat_same (λ w. chunks_within chunk_limit (bytes_in (F w))) (λ w. chunks_within chunk_limit (bytes_in (files_after g w))) Names
          (λ w one. ap (λ o. chunks_within chunk_limit (bytes_in o)) (sym (has w one)))
          ∙ (named_chunks stamped g ok b book_after ∙ sym (known_chunks stamped g ok b book_after))));
      counts = λ k one. counted stamped h legal b book k (Contains-append_left b.segments (segment_list b.aside) k one);
      next = m.next;
      alone = m.alone;
      ends = m.ends;
      aside = m.aside;
    }

  after : (new : Book) (r : Result (Unit {0}) JobFault) → SpentBook b r → 16 ≤ length b.segments → (g : History)
      → AtJob stamped (SameBut b.next (sight h)) g → HasMerged (codes "archive") b new F r g → MergedSo stamped b new r g
  after new (Ok value) spent many g k m = record {
    legal = k.legal;
    may_act = k.may_act;
    alive = λ runs. merged_for g k.legal (k.alive runs) new m.0 m.1;
  }
  after new (Err (Outside call)) spent many g k m = k.legal
  after new (Err (Damaged name at)) spent many g k m = record {
    legal = k.legal;
    may_act = k.may_act;
    alive = λ runs. never_damaged stamped h legal b book m.1.0 name at m.1.1;
  }
  after new (Err (Spent n)) spent many g k m = record {
    legal = k.legal;
    may_act = k.may_act;
    alive = λ runs. (spent.0, many, spent.1, book_after g k.legal (k.alive runs));
  }
  after new (Err NoMemory) spent many g k m = k.legal

-- a merge of a tidy archive's segments
pub merged_so : (stamped : List (List ℕ)) (b new : Book) (r : Result (Unit {0}) JobFault) → SpentBook b r
    → 16 ≤ length b.segments → {old mid : Option History}
    → ((held : Files) → AreSettled (names_of (codes "archive") b) held
    → AreApart (names_of (codes "archive") b) (segment_name (codes "archive") b.next) → Adds old mid
    (Leads (anyhow (SparesBoth (names_of (codes "archive") b) (segment_name (codes "archive") b.next)))
    (HasFiles (names_of (codes "archive") b) held) (HasMerged (codes "archive") b new held r)))
    → Adds old mid (Every (IsOf (ReadsOrWrites (segment_name (codes "archive") b.next))))
    → Adds old mid (Leads (As stamped job) (AtJob stamped (IsTidy b)) (MergedSo stamped b new r))
merged_so stamped b new r spent many raw own =
    let w = segment_name (codes "archive") b.next in
    from_known stamped (ReadsOrWrites w) (no_merge_starts w) (quiet_merging w) (IsTidy b) (MergedSo stamped b new r) own
    (λ h k runs.
    let tidy : IsTidy b (sight h) = k.alive runs in
    let v : Sight = sight h in
    let held : Files = files_after h in
    let names = names_of (codes "archive") b in
    let at = free stamped b h k.legal tidy in
    reach stamped h (λ g. AtJob stamped (SameBut b.next v) g × HasFiles names held g) (MergedSo stamped b new r)
    (leads_as (λ g x. x) (λ g x. after stamped b h k.legal tidy new r spent many g x.0 x.1)
    (over_merge stamped (SameBut b.next v) b.next at.count (still_unnamed v [] b.next at)
    (λ u o s. but_segment stamped b h k.legal tidy v u o s) (SparesBoth names w) (spares stamped b h k.legal tidy)
    (HasFiles names held) (HasMerged (codes "archive") b new held r)
    (raw held (settled stamped h k.legal b tidy.book) (apart stamped h k.legal b tidy.book)) own))
    (record { legal = k.legal; may_act = k.may_act; alive = λ r. same_self b.next v }, λ x one. refl))
    (λ h z. bottom_so stamped b new r h z)

-- a refusal
pub merge_fails : (stamped : List (List ℕ)) (b new last : Book) (fault : JobFault) (h : History)
    → MergedSo stamped b new (Err fault) h → Merged stamped b last (Err fault) h
merge_fails stamped b new last (Outside call) h k = k
merge_fails stamped b new last (Damaged name at) h k = k
merge_fails stamped b new last (Spent n) h k = k
merge_fails stamped b new last NoMemory h k = k

-- ---- the publication

published_merged : (b new : Book) → 16 ≤ length b.segments → (u w : Sight) → IsMergedFor b new u → IsPublished ArchiveFolder u new w
    → IsMerged b new w
published_merged b new many u w m p = record {
  book = p.book;
  strays = λ k count. elim (m.strays k count) [
    | inl none ↦ inl (p.own (SegmentFile ArchiveFolder k) refl ∙ none)
    | inr (inl next) ↦ inr (inl (names_next k next))
    | inr (inr named) ↦ inr (inr named)
  ];
  merged = many_merged many (record { number = b.next; length = length m.f.bytes }) refl m.alone m.next m.counts
      (append-nil (chunks_in (w.own (SegmentFile ArchiveFolder b.next)))
      ∙ (ap chunks_in (p.own (SegmentFile ArchiveFolder b.next) refl ∙ m.there)
      ∙ (limits_agree m.f.bytes m.sound
      ∙ (m.in_turn ∙ ap in_order
      (flat_same (λ (g : Segment). chunks_in (u.own (SegmentFile ArchiveFolder g.number)))
      (λ (g : Segment). chunks_in (w.own (SegmentFile ArchiveFolder g.number))) b.segments
      (λ g one. ap chunks_in (sym (p.own (SegmentFile ArchiveFolder g.number) refl))))))));
}
  where
    names_next : (k : ℕ) → k ≡ b.next → names_segment new k ≡ true
    names_next k next =
        ap (λ gs. list_any (λ (g : Segment). nat_eq g.number k) (gs ++ segment_list new.aside)) m.alone
        ∙ or_left (nat_eq b.next k) _ (subst (λ n. nat_eq n k ≡ true) next (nat_self k))

module _ (stamped : List (List ℕ)) (b new : Book) (many : 16 ≤ length b.segments) (r : Result (Unit {0}) OutsideFault)
    {a m z : Option History}
    (told : Adds a m (Leads (As stamped job) (AtJob stamped (IsTidy b)) (AtJob stamped (IsMergedFor b new))))
    (own : Adds m z (Every (IsOf ReplacesBook)))
    (second : (u : Sight) → MayFollow stamped ArchiveFolder u new
    → Adds m z (Leads (As stamped job) (AtJob stamped (λ w. w ≡ u)) (Published stamped ArchiveFolder u new r))) where
  pub publish_fails : (last : Book) (fault : OutsideFault) → r ≡ Err fault
      → Adds a z (Leads (As stamped job) (AtJob stamped (IsTidy b)) (Merged stamped b last (Err (job_fault fault))))
  publish_fails last fault is =
      leads_then told
      (from_known stamped ReplacesBook (replaces_no_start (codes "archive")) (quiet_replace (codes "archive")) (IsMergedFor b new)
      (Merged stamped b last (Err (job_fault fault))) own
      (λ h k runs.
      reach_known stamped h (IsMergedFor b new) (Merged stamped b last (Err (job_fault fault)))
      (leads_as (λ g j. j) (λ g j. of_fault fault g (subst (λ x. Published stamped ArchiveFolder (sight h) new x g) is j))
      (second (sight h) (merged_may stamped b new (sight h) (k.alive runs)))) k)
      (λ h x. of_fault fault h x.legal))
    where
      of_fault : (fault : OutsideFault) (h : History) → Legal stamped h → Merged stamped b last (Err (job_fault fault)) h
      of_fault (site_failed call) h legal = legal
      of_fault no_memory h legal = legal

  pub all_merged : (value : Unit {0}) → r ≡ Ok value
      → Adds a z (Leads (As stamped job) (AtJob stamped (IsTidy b)) (Merged stamped b new (Ok value)))
  all_merged value is =
      leads_then told
      (from_known stamped ReplacesBook (replaces_no_start (codes "archive")) (quiet_replace (codes "archive")) (IsMergedFor b new) (Merged stamped b new (Ok value)) own
      (λ h k runs.
      let ready = k.alive runs in
      reach_known stamped h (IsMergedFor b new) (Merged stamped b new (Ok value))
      (leads_as (λ g j. j)
      (λ g j.
      let x = subst (λ y. Published stamped ArchiveFolder (sight h) new y g) is j in
      record {
        legal = x.legal;
        may_act = x.may_act;
        alive = λ still. published_merged b new many (sight h) (sight g) ready (x.alive still);
      })
      (second (sight h) (merged_may stamped b new (sight h) ready))) k)
      (λ h x. record { legal = x.legal; may_act = x.may_act; alive = λ runs. absurd (x.alive runs) }))
