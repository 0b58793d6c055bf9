-- After the first segment the second one can be written, and then the next book stands ready.
use Rattle.std.proofs.Common.{◌≡◌, ◌⊎◌, inl, inr, ℕ, ◌+◌, ◌-◌, ◌<◌, ◌≤◌, ◌^◌, Bool, true, false, not, ◌&&◌, ◌||◌, List, [], ◌∷◌, Option, Ok, Err, Result, ap, sym, subst, ◌∙◌, refl, arith}
use Rattle.std.specs.Prelude.{IsFalse, Contains, nat_eq, nat_lt, flat_map}
use Rattle.std.specs.List.{AllZip}
use Rattle.std.proofs.lemmas.List.Elements.{Contains-append_right}
use Rattle.std.proofs.lemmas.Bool.{cases_Bool, or_parts, and_parts, and_from, ltb-true}
use Rattle.chk_bytes.specs.Stems.{is_count}
use Rattle.chk_site.specs.Effect.{IsSmallFile}
use Rattle.chk_site.specs.Acts.{Deed, Starts}
use Rattle.chk_site.specs.History.{History, Every}
use Rattle.chk_site.specs.Site.{Adds}
use Rattle.chk_site.specs.Runs.{Leads}
use Rattle.chk_site.proofs.Leads.{leads_as, leads_then}
use Rattle.chk_chunk.specs.Keys.{Chunk, chunk_limit}
use Rattle.chk_world.specs.Names.{ArchiveFolder, Name, BookFile, SegmentFile, read}
use Rattle.chk_world.specs.Books.{Segment, Book, chunks_in, is_nothing}
use Rattle.chk_archive_parts.specs.Kept.{are_old_aside}
use Rattle.chk_world.specs.Jobs.{segment_list}
use Rattle.chk_world.specs.Places.{As}
use Rattle.chk_world.specs.Sight.{job, Sight, sight, own_book, own_aside, AtJob}
use Rattle.chk_world.specs.JobSteps.{IsOf, reads, asks}
use Rattle.chk_world.proofs.NameTests.{same_name, name_same}
use Rattle.chk_world.proofs.Segments.{flat_same}
use Rattle.chk_world.proofs.ToldCalls.{talks}
use Rattle.chk_record_index.specs.Heads.{Head, heads_in}
use Rattle.chk_record_index.specs.Pieces.{bytes_in}
use Rattle.chk_record_index.specs.declared.fault.JobFault.{JobFault}
use Rattle.chk_record_index.specs.declared.fault.JobFault.TheVariants.{Outside, Damaged, Spent, NoMemory}
use Rattle.chk_record_reader.specs.ReadBack.{chunk_at}
use Rattle.chk_archive_parts.specs.declared.cuts.Cut.{Cut}
use Rattle.chk_archive_parts.specs.Cuts.{cut_chunks}
use Rattle.chk_archive_parts.specs.Gathering.{held, held_at, CanBeRead, own_book_file, own_segment, shown_sink, AreSound}
use Rattle.chk_archive_parts.specs.Records.{file_at, IsRecordOf, AreRecords}
use Rattle.chk_archive_parts.specs.Writes.{IsFree, HoldsChunks}
use Rattle.chk_archive_parts.proofs.OneFile.{Knows, can_still}
use Rattle.chk_archive_parts.proofs.Fetches.{any_default}
use Rattle.chk_archive_parts.proofs.FromKnown.{from_known, reach_known}
use Rattle.chk_archive_parts.proofs.OneSegment.{quiet_write}
use Rattle.chk_archive.specs.Archived.{writes_book, names_book, MergesBy, merge_reads, merge_writes, merge_replaces}
use Rattle.chk_archive.specs.FolderNames.{names_segment}
use Rattle.chk_archive.specs.Taking.{SameBelow, IsWhole, CanPrepare, PartsAdded, nothing_taken, one_added, AsideNamed, none_kept, old_kept, new_kept, HasParts, no_parts, with_parts, PartsTaken, HasAside, AsideKept, IsReady, Prepared, stays_aside}
use Rattle.chk_archive.proofs.BookFacts.{unnamed}
use Rattle.chk_archive.specs.Written.{one_for}
use Rattle.chk_archive.proofs.Preparing.{below_both, below_book, below_segment, one_some}

-- ---- the kind of calls

pub merges_start : MergesBy Starts → ⊥
merges_start (merge_reads call k) = elim k [ ]
merges_start (merge_writes n call k) = elim k [ ]
merges_start (merge_replaces call (writes_book c k)) = elim k [ ]

pub quiet_merge : (call : Deed) → MergesBy call → talks call ≡ false
quiet_merge call (merge_reads c (reads name at max)) = refl
quiet_merge call (merge_reads c (asks name)) = refl
quiet_merge call (merge_writes n c k) = quiet_write _ c k
quiet_merge call (merge_replaces c (writes_book d k)) = quiet_write _ d k
quiet_merge call (merge_replaces c names_book) = refl

-- ---- what is read is as it was

module _ (next : ℕ) (v u : Sight) (same : SameBelow next v u) where
  held_same : (w : List ℕ) → CanBeRead v (read w)
      → ((k : ℕ) → next ≤ k → read w ≡ SegmentFile ArchiveFolder k → ⊥) → held u w ≡ held v w
  held_same w can old = go (read w) can old
    where
      go : (n : Name) → CanBeRead v n → ((k : ℕ) → next ≤ k → n ≡ SegmentFile ArchiveFolder k → ⊥)
          → held_at u n ≡ held_at v n
      go n own_book_file old = same.own (BookFile ArchiveFolder) old
      go n (own_segment k count) old = same.own (SegmentFile ArchiveFolder k) old
      go n (shown_sink x shown) old = same.sinks x

  module _ (files : List (List ℕ)) (heads : List Head) (cs : List Chunk) (records : AreRecords v files heads cs)
      (old : (w : List ℕ) → Contains files w → (k : ℕ) → next ≤ k → read w ≡ SegmentFile ArchiveFolder k → ⊥) where
    held_now : (w : List ℕ) → Contains files w → held u w ≡ held v w
    held_now w one = held_same w (records.sound w one).can (old w one)

    still_sound : AreSound u files
    still_sound w one =
        let s = records.sound w one in
        record {
          can = can_still v u (read w) same.listing s.can;
          file = s.file;
          there = held_now w one ∙ s.there;
          chunks = s.chunks;
          small = subst IsSmallFile (sym (held_now w one)) s.small;
        }

    still_one : (h : Head) (c : Chunk) → IsRecordOf v files h c → IsRecordOf u files h c
    still_one h c r =
        let w = file_at files h.file in
        let is = held_now w (h.file, r.within, any_default files h.file w [] r.within) in
        record {
          within = r.within;
          known = subst (λ o. Contains (heads_in chunk_limit h.file (bytes_in o)) h) (sym is) r.known;
          is = subst (λ o. chunk_at (bytes_in o) h ≡ c) (sym is) r.is;
          begin = r.begin;
        }

    still_each : (hs : List Head) (ds : List Chunk) → AllZip (IsRecordOf v files) hs ds → AllZip (IsRecordOf u files) hs ds
    still_each [] [] zip = tt
    still_each [] (d ∷ ds) zip = absurd zip
    still_each (h ∷ hs) [] zip = absurd zip
    still_each (h ∷ hs) (d ∷ ds) zip = (still_one h d zip.0, still_each hs ds zip.1)

    pub still_records : AreRecords u files heads cs
    still_records = record { sound = still_sound; each = still_each heads cs records.each }

-- ---- the second segment

-- it goes by the book's aside segment
stays_same : (heads : List Head) (count : ℕ) (kept : List Cut) (b c : Book) → b.aside ≡ c.aside
    → stays_aside b heads count kept ≡ stays_aside c heads count kept
stays_same heads count [] b c same = ap is_nothing same
stays_same heads count (k ∷ ks) b c same = ap (λ o. not (is_nothing o) && are_old_aside heads count (k ∷ ks)) same

module _ (v : Sight) (old mid : Book) (files : List (List ℕ)) (heads : List Head) (count : ℕ) (kept : List Cut)
    (cs parts : List Chunk) (can : CanPrepare v old files heads count kept (cut_chunks cs kept)) where
  pub same_then : (u : Sight) → HasParts v old mid parts u → SameBelow old.next v u
  same_then u (no_parts none is same) = same
  same_then u (with_parts g number w is spent some same) = same

  next_then : (u : Sight) → HasParts v old mid parts u
      → (mid.next ≡ old.next) ⊎ ((mid.next ≡ old.next + 1) × (old.next ≡ 2 ^ 63 - 1 → ⊥))
  next_then u (no_parts none is same) = inl (ap (λ (c : Book). c.next) is)
  next_then u (with_parts g number w is spent some same) =
      inr (ap (λ (c : Book). c.next) is ∙ ap (λ n. n + 1) number, spent)

  pub exact_then : (u : Sight) → HasParts v old mid parts u → mid.next ≡ old.next + one_for parts
  exact_then u (no_parts none is same) =
      let next = ap (λ (c : Book). c.next) is in
      let zero_for = ap one_for none in
      omega (arith, next, zero_for)
  exact_then u (with_parts g number w is spent some same) =
      let next = ap (λ (c : Book). c.next) is in
      let one = one_some parts some in
      omega (arith, next, number, one)

  aside_then : (u : Sight) → HasParts v old mid parts u → mid.aside ≡ old.aside
  aside_then u (no_parts none is same) = ap (λ (c : Book). c.aside) is
  aside_then u (with_parts g number w is spent some same) = ap (λ (c : Book). c.aside) is

  pub low_then : (u : Sight) → HasParts v old mid parts u → old.next ≤ mid.next
  low_then u p = elim (next_then u p) [
    | inl is ↦ omega (arith, is)
    | inr k ↦ let is = k.0 in omega (arith, is)
  ]

  counted_then : (u : Sight) → HasParts v old mid parts u → is_count mid.next ≡ true
  counted_then u p = elim (next_then u p) [
    | inl is ↦ ap is_count is ∙ can.numbers.count
    | inr k ↦
        let a = and_parts (nat_lt 0 old.next) (nat_lt old.next (2 ^ 63)) can.numbers.count in
        let small = ltb-true old.next (2 ^ 63) a.1 in
        let apart : old.next < 2 ^ 63 - 1 = elim (cases_Bool (nat_eq old.next (2 ^ 63 - 1))) [
          | inl same ↦ absurd (k.1 (grind (arith, same)))
          | inr other ↦ grind (arith, other, small)
        ] in
        ap is_count k.0
        ∙ and_from (nat_lt 0 (old.next + 1)) (nat_lt (old.next + 1) (2 ^ 63)) (grind arith) (grind (arith, apart))
  ]

  pub free_then : (u : Sight) → HasParts v old mid parts u → IsFree u files mid.next
  free_then u p = record {
    apart = λ w one. elim (cases_Bool (same_name (read w) (SegmentFile ArchiveFolder mid.next))) [
      | inr other ↦ other
      | inl same ↦ absurd (can.files_old w one mid.next (low_then u p)
          (name_same (read w) (SegmentFile ArchiveFolder mid.next) same))
    ];
    count = counted_then u p;
    unnamed = subst (λ b. IsFalse (names_segment b mid.next))
        (sym (below_book old.next v u (same_then u p) ∙ can.book)) (unnamed old can.numbers mid.next (low_then u p));
  }

  pub free_first : IsFree v files old.next
  free_first = record {
    apart = λ w one. elim (cases_Bool (same_name (read w) (SegmentFile ArchiveFolder old.next))) [
      | inr other ↦ other
      | inl same ↦ absurd (can.files_old w one old.next (omega arith)
          (name_same (read w) (SegmentFile ArchiveFolder old.next) same))
    ];
    count = can.numbers.count;
    unnamed = subst (λ b. IsFalse (names_segment b old.next)) (sym can.book)
        (unnamed old can.numbers old.next (omega arith));
  }

  aside_same_then : (u : Sight) → SameBelow old.next v u → own_aside u ≡ own_aside v
  aside_same_then u same =
      ap (λ (b : Book). flat_map (λ (g : Segment). chunks_in (u.own (SegmentFile ArchiveFolder g.number))) (segment_list b.aside))
      (below_book old.next v u same ∙ can.book)
      ∙ (flat_same (λ (g : Segment). chunks_in (u.own (SegmentFile ArchiveFolder g.number)))
      (λ (g : Segment). chunks_in (v.own (SegmentFile ArchiveFolder g.number))) (segment_list old.aside)
      (λ g one. ap chunks_in (below_segment old.next v u same g.number
      (can.numbers.below g (Contains-append_right old.segments (segment_list old.aside) g one))))
      ∙ ap (λ (b : Book). flat_map (λ (g : Segment). chunks_in (v.own (SegmentFile ArchiveFolder g.number))) (segment_list b.aside))
      (sym can.book))

  pub whole_then : (u : Sight) → HasParts v old mid parts u → IsWhole u mid heads count kept (cut_chunks cs kept)
  whole_then u p g is all =
      aside_same_then u (same_then u p) ∙ can.whole g (sym (aside_then u p) ∙ is) all

  -- ---- and then

  module _ (new : Book) where
    moved : (u w : Sight) → SameBelow mid.next u w → (g : Segment) → g.number < mid.next → (ds : List Chunk)
        → HoldsChunks u g ds → HoldsChunks w g ds
    moved u w same g small ds h = record {
      file = h.file;
      there = below_segment mid.next u w same g.number small ∙ h.there;
      is = h.is;
      synced = h.synced;
      size = h.size;
    }

    parts_then : (u w : Sight) → HasParts v old mid parts u → (stays changed : Bool)
        → HasAside u mid new (cut_chunks cs kept) stays changed w → PartsAdded w old new parts
    parts_then u w (no_parts none is same) stays changed a =
        nothing_taken none (a.segments ∙ ap (λ (c : Book). c.segments) is) (a.ends ∙ ap (λ (c : Book). c.ends) is)
    parts_then u w (with_parts g number holds is spent some same) stays changed a =
        let next = ap (λ (c : Book). c.next) is in
        one_added g (omega (arith, number)) some (moved u w a.same g (omega (arith, next)) parts holds)
        (a.segments ∙ ap (λ (c : Book). c.segments) is) (a.ends ∙ ap (λ (c : Book). c.ends) is)

    aside_kept : (u w : Sight) → HasParts v old mid parts u → (ds : List Chunk) → AsideNamed w mid new ds
        → AsideNamed w old new ds
    aside_kept u w p ds (none_kept none is) = none_kept none is
    aside_kept u w p ds (old_kept are is) = old_kept are (is ∙ aside_then u p)
    aside_kept u w p ds (new_kept g low holds is) = let more = low_then u p in new_kept g (omega (arith, low, more)) holds is

    pub is_ready : (u w : Sight) → HasParts v old mid parts u → (stays changed b : Bool)
        → HasAside u mid new (cut_chunks cs kept) stays changed w
        → (b ≡ false → (changed ≡ false) × (mid ≡ old)) → IsReady v old new parts (cut_chunks cs kept) stays b w
    is_ready u w p stays changed b a when = record {
      same = below_both old.next mid.next (low_then u p) v u w (same_then u p) a.same;
      parts_are = parts_then u w p stays changed a;
      aside = aside_kept u w p (cut_chunks cs kept) a.aside;
      numbers =
          let first = exact_then u p in
          let second = a.numbers in
          omega (arith, first, second);
      unchanged = λ e. a.unchanged (when e).0 ∙ (when e).1;
    }

    -- ---- over histories

    module _ (stamped : List (List ℕ)) (records : AreRecords v files heads cs) (stays : Bool) where
      pub parts_fail : (r : Result (Unit {0}) JobFault) (fault : JobFault) → r ≡ Err fault → (h : History)
          → PartsTaken stamped v old mid parts r h
          → Prepared stamped v old new parts (cut_chunks cs kept) stays (Err fault) h
      parts_fail r fault e h k = go fault (subst (λ x. PartsTaken stamped v old mid parts x h) e k)
        where
          go : (fault : JobFault) → PartsTaken stamped v old mid parts (Err fault) h
              → Prepared stamped v old new parts (cut_chunks cs kept) stays (Err fault) h
          go (Outside call) k = k
          go (Damaged name at) k = k
          go (Spent n) k = record {
            legal = k.legal;
            may_act = k.may_act;
            alive = λ runs. let x = k.alive runs in let lacks = x.1 in (x.0, omega (arith, lacks), x.2, x.3);
          }
          go NoMemory k = k

      -- the second one, whatever it answers
      abbrev Second : Result Bool JobFault → Bool → Result Bool JobFault
      Second (Ok changed) takes = Ok (takes || changed)
      Second (Err fault) takes = Err fault

      after_second : (u : Sight) → HasParts v old mid parts u → (takes : Bool)
          → (takes ≡ false → mid ≡ old) → (r : Result Bool JobFault) (h : History)
          → AsideKept stamped u mid new (cut_chunks cs kept) stays r h
          → Prepared stamped v old new parts (cut_chunks cs kept) stays (Second r takes) h
      after_second u p takes none (Ok changed) h k = record {
        legal = k.legal;
        may_act = k.may_act;
        alive = λ runs. is_ready u (sight h) p stays changed (takes || changed) (k.alive runs)
            (λ e. let q = or_parts takes changed e in (q.1, none q.0));
      }
      after_second u p takes none (Err (Outside call)) h k = k
      after_second u p takes none (Err (Damaged name at)) h k = k
      after_second u p takes none (Err (Spent n)) h k = record {
        legal = k.legal;
        may_act = k.may_act;
        alive = λ runs.
            let x = k.alive runs in
            let was : own_book (sight h) ArchiveFolder ≡ own_book v ArchiveFolder =
            x.3 ∙ below_book old.next v u (same_then u p) in
            let next = ap (λ (c : Book). c.next) (was ∙ can.book) in
            let first = exact_then u p in
            let last = x.1 in
            let one = x.2 in
            (x.0, omega (arith, next, first, last, one), was, x.4 ∙ (same_then u p).listing);
      }
      after_second u p takes none (Err NoMemory) h k = k

      nothing_then : (takes : Bool) (r : Result Bool JobFault) (h : History) → AtJob stamped (λ u. ⊥) h
          → Prepared stamped v old new parts (cut_chunks cs kept) stays (Second r takes) h
      nothing_then takes (Ok changed) h z =
          record { legal = z.legal; may_act = z.may_act; alive = λ runs. absurd (z.alive runs) }
      nothing_then takes (Err (Outside call)) h z = z.legal
      nothing_then takes (Err (Damaged name at)) h z =
          record { legal = z.legal; may_act = z.may_act; alive = z.alive }
      nothing_then takes (Err (Spent n)) h z =
          record { legal = z.legal; may_act = z.may_act; alive = λ runs. absurd (z.alive runs) }
      nothing_then takes (Err NoMemory) h z = z.legal

      pub both : (value : Unit {0}) (first : Result (Unit {0}) JobFault) → first ≡ Ok value
          → (takes : Bool) → (takes ≡ false → mid ≡ old) → (r : Result Bool JobFault)
          → {a m z : Option History}
          → Adds a m (Leads (As stamped job) (Knows stamped v) (PartsTaken stamped v old mid parts first))
          → Adds m z (Every (IsOf MergesBy))
          → ((u : Sight) → AreRecords u files heads cs → IsFree u files mid.next
          → IsWhole u mid heads count kept (cut_chunks cs kept)
          → Adds m z (Leads (As stamped job) (Knows stamped u)
          (AsideKept stamped u mid new (cut_chunks cs kept) (stays_aside mid heads count kept) r)))
          → stays ≡ stays_aside old heads count kept
          → Adds a z (Leads (As stamped job) (Knows stamped v)
          (Prepared stamped v old new parts (cut_chunks cs kept) stays (Second r takes)))
      both value first e takes none r told own second is_stays =
          leads_then
          (leads_as (λ h k. k) (λ h k. subst (λ x. PartsTaken stamped v old mid parts x h) e k) told)
          (from_known stamped MergesBy merges_start quiet_merge (HasParts v old mid parts)
          (Prepared stamped v old new parts (cut_chunks cs kept) stays (Second r takes)) own
          (λ h k runs.
          let u = sight h in
          let p = k.alive runs in
          reach_known stamped h (HasParts v old mid parts)
          (Prepared stamped v old new parts (cut_chunks cs kept) stays (Second r takes))
          (leads_as (λ g j. j) (λ g j. after_second u p takes none r g
          (subst (λ x. AsideKept stamped u mid new (cut_chunks cs kept) x r g)
          (stays_same heads count kept mid old (aside_then u p) ∙ sym is_stays) j))
          (second u (still_records old.next v u (same_then u p) files heads cs records can.files_old) (free_then u p)
          (whole_then u p))) k)
          (λ h z. nothing_then takes r h z))
