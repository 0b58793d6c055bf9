-- The joined archive's book may be published.
use Rattle.chk_join.proofs.Begun.{joined_book}
use Rattle.chk_archive_parts.proofs.FromKnown.{from_known, reach_known}
use Rattle.chk_archive_parts.proofs.Published.{published, publishes, replaces_no_start, quiet_replace}
use Rattle.chk_world.specs.Places.{As}
use Rattle.chk_replace.specs.Replace.{replacement}
use Rattle.chk_site.proofs.Leads.{leads_as}
use Rattle.chk_site.specs.Runs.{Leads, MadeInTurn}
use Rattle.chk_site.specs.Site.{Adds}
use Rattle.std.proofs.Common.{◌≡◌, inl, inr, ℕ, zero, suc, true, List, [], ◌∷◌}
use Rattle.std.proofs.Common.{◌++◌, length, Option, Some, None, refl, ap, sym, subst, ◌∙◌, arith}
use Rattle.std.proofs.Common.{append-nil, if◌then◌else◌, Result, Ok, Err}
use Rattle.std.specs.Prelude.{IsTrue, Contains, flat_map, codes, nat_lt}
use Rattle.std.specs.List.{list_all}
use Rattle.std.proofs.lemmas.Bool.{and_parts}
use Rattle.chk_bytes.specs.Stems.{is_count}
use Rattle.chk_site.specs.Files.{Files}
use Rattle.chk_site.specs.History.{History, files_after}
use Rattle.chk_chunk.specs.Keys.{Chunk}
use Rattle.chk_world.specs.Names.{JoinedFolder, SegmentFile, file}
use Rattle.chk_world.specs.Books.{Segment, Book}
use Rattle.chk_world.specs.Books.{chunks_in, chunks_named, chunks_of_stream}
use Rattle.chk_world.specs.Books.{segment_chunks, ends_rise, Version, is_book, is_segment, is_end}
use Rattle.chk_world.specs.Books.{segments_rise, book_bytes, written_version}
use Rattle.chk_world.specs.Committed.{HasFile}
use Rattle.chk_world.specs.Jobs.{Run, IsSoundSegment, BookNamesSyncedSegments, segment_list}
use Rattle.chk_world.specs.Jobs.{all_segments}
use Rattle.chk_world.specs.Sight.{Sight, sight, own_book, job, AtJob}
use Rattle.chk_archive_parts.specs.Publishing.{IsPublished, MayFollow, Published, ReplacesBookOf}
use Rattle.chk_archive_parts.proofs.OneSegment.{some_has}
use Rattle.chk_archive_parts.proofs.EndsInOrder.{Sorted, sorted}
use Rattle.chk_record_index.specs.declared.fault.JobFault.{JobFault}
use Rattle.chk_record_index.specs.declared.fault.JobFault.TheVariants.{Outside, Damaged, Spent, NoMemory}
use Rattle.chk_book.specs.Publishing.{site_result}
use Rattle.chk_join.specs.Runs.{AreRuns}
use Rattle.chk_join.specs.Preparing.{HoldsSegmentSo, HoldsAlone}
use Rattle.chk_join.specs.Publishing.{HoldsBook, EndsLegally}
use Rattle.chk_join.proofs.RunFacts.{runs_listed, runs_stream, end_is_in, none_in}
use Rattle.chk_record_reader.proofs.BothLimits.{limits_agree}

-- ---- the book

-- the job knows the segment's file
segment_known : (history : History) (n : ℕ) → IsTrue (is_count n)
    → (sight history).own (SegmentFile JoinedFolder n) ≡ file (files_after history) (SegmentFile JoinedFolder n)
segment_known history n count =
    ap (λ b. if b then file (files_after history) (SegmentFile JoinedFolder n) else None) count

module _ (stamped : List (List ℕ)) (b : Book) (v : Sight) (cs : List Chunk) (runs : AreRuns b.ends cs)
    (rise : ends_rise b.ends ≡ true) (h : History)
    (p : IsPublished JoinedFolder v (own_book v JoinedFolder) (sight h)) where
  abbrev F : Files
  F = files_after h

  in_order : Sorted b.ends
  in_order = sorted b.ends rise

  there : (g : Segment) (s : HoldsSegmentSo g cs v) → file F (SegmentFile JoinedFolder g.number) ≡ Some s.f
  there g s =
      sym (segment_known h g.number s.count) ∙ (p.own (SegmentFile JoinedFolder g.number) refl ∙ s.there)

  -- the segments are sound, where there are none or this one
  none_sound : b.segments ≡ [] → b.aside ≡ None → (g : Segment) → Contains (all_segments b) g
      → HasFile (file F (SegmentFile JoinedFolder g.number)) (IsSoundSegment JoinedFolder g)
  none_sound none beside g one =
      absurd (none_in g
      (subst (λ gs. Contains (gs ++ []) g) none
      (subst (λ o. Contains (b.segments ++ segment_list o) g) beside one)))

  one_sound : (g : Segment) → b.segments ≡ g ∷ [] → b.aside ≡ None → HoldsSegmentSo g cs v → (k : Segment)
      → Contains (all_segments b) k
      → HasFile (file F (SegmentFile JoinedFolder k.number)) (IsSoundSegment JoinedFolder k)
  one_sound g are beside s k one =
      let is : g ≡ k =
      only_one g k
      (subst (λ gs. Contains (gs ++ []) k) are
      (subst (λ o. Contains (b.segments ++ segment_list o) k) beside one)) in
      subst (λ (x : Segment). HasFile (file F (SegmentFile JoinedFolder x.number)) (IsSoundSegment JoinedFolder x)) is
      (some_has (file F (SegmentFile JoinedFolder g.number)) (IsSoundSegment JoinedFolder g) s.f (there g s)
      (record { length_is = s.length_is; synced_is = s.synced_is; chunks = s.form }))
    where
      only_one : (x y : Segment) → Contains (x ∷ []) y → x ≡ y
      only_one x y (zero, low, at) = at
      only_one x y (suc n, low, at) = absurd (let z : ⊥ = omega (arith, low) in z)

  none_named : b.segments ≡ [] → cs ≡ [] → chunks_named F JoinedFolder b ≡ cs
  none_named none empty = ap (flat_map (segment_chunks F JoinedFolder)) none ∙ sym empty

  one_named : (g : Segment) → b.segments ≡ g ∷ [] → HoldsSegmentSo g cs v → chunks_named F JoinedFolder b ≡ cs
  one_named g are s =
      ap (flat_map (segment_chunks F JoinedFolder)) are
      ∙ (append-nil (segment_chunks F JoinedFolder g)
      ∙ (ap chunks_in (there g s) ∙ (limits_agree s.f.bytes s.form ∙ s.are)))

  book_is : ((g : Segment) → Contains (all_segments b) g
      → HasFile (file F (SegmentFile JoinedFolder g.number)) (IsSoundSegment JoinedFolder g))
      → chunks_named F JoinedFolder b ≡ cs → BookNamesSyncedSegments JoinedFolder h b
  book_is sound named = record {
    sound = sound;
    listed = λ c one. runs_listed b.ends cs c runs (subst (λ l. Contains l c) named one);
    ends = λ e one.
        subst (λ l. Run e.start e.start (chunks_of_stream e.stream l) e.end) (sym named)
        (runs_stream e.stream b.ends cs e in_order runs (end_is_in b.ends in_order e one)).0.run;
    starts = λ e one. tt;
  }

  names : HoldsAlone b cs v → BookNamesSyncedSegments JoinedFolder h b
  names (beside, inl k) = book_is (none_sound k.0 beside) (none_named k.0 k.1)
  names (beside, inr k) = book_is (one_sound k.0 k.1.0 beside k.1.1) (one_named k.0 k.1.0 k.1.1)

pub book_may : (stamped : List (List ℕ)) (b : Book) (v : Sight) → ends_rise b.ends ≡ true → HoldsBook b v
    → MayFollow stamped JoinedFolder v b
book_may stamped b v rise holds h legal p = names stamped b v holds.0 holds.1.0 rise h p holds.1.1

-- ---- its publishing

-- the streams of a book that can be spelled stand in order
pub spelled_rise : (w : Version) (b : Book) → is_book w b ≡ true → ends_rise b.ends ≡ true
spelled_rise w b h =
    let p1 = and_parts (is_count b.next) _ h in
    let p2 = and_parts (nat_lt (length b.segments) 4294967296) _ p1.1 in
    let p3 = and_parts (list_all (is_segment b.next) b.segments) _ p2.1 in
    let p4 = and_parts (segments_rise b.segments) _ p3.1 in
    let p5 = and_parts (nat_lt (length b.ends) 4294967296) _ p4.1 in
    let p6 = and_parts (list_all is_end b.ends) _ p5.1 in
    (and_parts (ends_rise b.ends) _ p6.1).0

pub told_published : (stamped : List (List ℕ)) (b : Book) → is_book (written_version b) b ≡ true
    → (result : Result (Unit {0}) JobFault) {old new : Option History}
    → MadeInTurn (replacement job joined_book (book_bytes (written_version b) b)) (site_result result) old new
    → Adds old new (Leads (As stamped job) (AtJob stamped (HoldsBook b)) (EndsLegally stamped result))
told_published stamped b can result script =
    from_known stamped (ReplacesBookOf (codes "joined")) (replaces_no_start (codes "joined")) (quiet_replace (codes "joined"))
    (HoldsBook b) (EndsLegally stamped result) (publishes (codes "joined") (book_bytes (written_version b) b) script)
    (λ h k runs.
    reach_known stamped h (HoldsBook b) (EndsLegally stamped result)
    (leads_as (λ g x. x) (λ g x. published_legal (sight h) result g x)
    (published stamped JoinedFolder (sight h) b
    (book_may stamped b (sight h) (spelled_rise (written_version b) b can) (k.alive runs)) can (codes "joined") refl script)) k)
    (λ h z. bottom result h z)
  where
    published_legal : (v : Sight) (result : Result (Unit {0}) JobFault) (g : History)
        → Published stamped JoinedFolder v b (site_result result) g → EndsLegally stamped result g
    published_legal v (Ok value) g x = record { legal = x.legal; may_act = x.may_act; alive = λ runs. tt }
    published_legal v (Err (Outside call)) g x = x
    published_legal v (Err (Damaged name at)) g x = x
    published_legal v (Err (Spent n)) g x = x
    published_legal v (Err NoMemory) g x = x

    bottom : (result : Result (Unit {0}) JobFault) (g : History) → AtJob stamped (λ v. ⊥) g → EndsLegally stamped result g
    bottom (Ok value) g z = record { legal = z.legal; may_act = z.may_act; alive = λ runs. tt }
    bottom (Err fault) g z = z.legal
