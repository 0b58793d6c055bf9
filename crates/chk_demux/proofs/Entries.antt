-- The new records' segment is entered.
use Rattle.std.proofs.Common.{◌≡◌, ℕ, zero, suc, false, List, [], ◌∷◌, ◌++◌, Option, Some, None, Ok, Err, Result, ap, ap₂, sym, subst, arith, ◌∙◌, refl, append-nil}
use Rattle.std.specs.Prelude.{codes, nat_eq, Contains}
use Rattle.std.specs.List.{list_any}
use Rattle.std.proofs.lemmas.Bool.{or_parts}
use Rattle.std.proofs.lemmas.List.Elements.{Contains-append_left}
use Rattle.std.proofs.lemmas.Grind.{flat_map-append}
use Rattle.chk_site.specs.declared.acts.OutsideFault.{OutsideFault}
use Rattle.chk_site.specs.declared.acts.OutsideFault.TheVariants.{Outside as site_failed, NoMemory as no_memory}
use Rattle.chk_site.specs.History.{History, Every}
use Rattle.chk_site.specs.Site.{Adds}
use Rattle.chk_site.specs.Runs.{Leads}
use Rattle.chk_site.proofs.Leads.{leads_as, leads_then}
use Rattle.chk_chunk.specs.Keys.{Chunk}
use Rattle.chk_world.specs.Names.{ArchiveFolder, DemuxFolder, BookFile, SegmentFile}
use Rattle.chk_world.specs.Books.{Segment, Book, chunks_in, book_in}
use Rattle.chk_world.specs.Jobs.{NewBook, all_segments, segment_list}
use Rattle.chk_world.proofs.Segments.{flat_same}
use Rattle.chk_world.specs.Places.{As}
use Rattle.chk_world.specs.Sight.{job, Sight, sight, own_chunks, AtJob}
use Rattle.chk_world.specs.JobSteps.{IsOf}
use Rattle.chk_record_index.specs.declared.fault.JobFault.{JobFault}
use Rattle.chk_book.specs.declared.segmenter.Segmenter.{Segmenter}
use Rattle.chk_archive_parts.proofs.FromKnown.{from_known, reach_known}
use Rattle.chk_archive_parts.proofs.OneFile.{Knows}
use Rattle.chk_demux.specs.Demuxed.{ReplacesBook}
use Rattle.chk_demux.specs.Working.{EndsSo, job_result}
use Rattle.chk_demux.specs.Writes.{IsFree, SoFar, IsSoFar}
use Rattle.chk_archive_parts.specs.Publishing.{IsPublished, MayFollow, Published}
use Rattle.chk_archive_parts.proofs.Published.{replaces_no_start, quiet_replace}
use Rattle.chk_demux.specs.Entering.{MayEnter, Entered}
use Rattle.chk_demux.proofs.Ends.{ends_bottom, so_done}
use Rattle.chk_demux.proofs.OneSegment.{HasWritten}

module _ (stamped : List (List ℕ)) (v : Sight) (b : Book) (outs : List Chunk) (free : IsFree v b.next)
    (may : MayEnter stamped v b outs) where
  -- where none were written
  pub none_entered : (u : Sight) → SoFar v outs None u → Entered v b outs None u
  none_entered u p =
      subst (Entered v b outs None) (sym p.1) (record {
        archive = refl;
        segments = λ k. refl;
        records =
            ap (λ (x : Book). own_chunks v DemuxFolder x.segments) may.0
            ∙ (sym (append-nil (own_chunks v DemuxFolder b.segments))
            ∙ ap (λ l. own_chunks v DemuxFolder b.segments ++ l) (sym p.0));
        more = (p.0, ap (λ (x : Book). x.segments) may.0);
      })

  -- the old segments have other numbers
  others : (gs : List Segment) → list_any (λ (g : Segment). nat_eq g.number b.next) gs ≡ false
      → (g : Segment) → Contains gs g → nat_eq g.number b.next ≡ false
  others [] misses g (k, low, at) = absurd (let z : ⊥ = omega (arith, low) in z)
  others (f ∷ gs) misses g (zero, low, at) =
      subst (λ (x : Segment). nat_eq x.number b.next ≡ false) at
      (or_parts (nat_eq f.number b.next) (list_any (λ (g : Segment). nat_eq g.number b.next) gs) misses).0
  others (f ∷ gs) misses g (suc k, low, at) =
      others gs (or_parts (nat_eq f.number b.next) (list_any (λ (g : Segment). nat_eq g.number b.next) gs) misses).1
      g (k, omega (arith, low), at)

  other : (g : Segment) → Contains b.segments g → nat_eq g.number b.next ≡ false
  other g one =
      others (all_segments b)
      (subst (λ (x : Book). list_any (λ (g : Segment). nat_eq g.number b.next) (all_segments x) ≡ false) may.0 free.unnamed)
      g (Contains-append_left b.segments (segment_list b.aside) g one)

  module _ (new : Book) (w : Sight) (p : HasWritten v b new outs w) where
    may_follow : MayFollow stamped DemuxFolder w new
    may_follow history legal q =
        subst (NewBook stamped DemuxFolder history) (sym p.book)
        (may.1 p.segment p.number history legal
        (q.book ∙ (ap book_in (p.same.own (BookFile DemuxFolder) refl) ∙ may.0))
        (λ n beside apart. q.own n beside ∙ p.same.own n apart)
        (record {
          file = p.holds.file;
          there = q.own (SegmentFile DemuxFolder p.segment.number) refl ∙ p.holds.there;
          is = p.holds.is;
          synced = p.holds.synced;
          size = p.holds.size;
        }))

    entered_now : (s : Segmenter) (u : Sight) → IsPublished DemuxFolder w new u → Entered v b outs (Some s) u
    entered_now s u q =
        let there : u.own (SegmentFile DemuxFolder p.segment.number) ≡ Some p.holds.file =
        q.own (SegmentFile DemuxFolder p.segment.number) refl ∙ p.holds.there in
        record {
          archive = ap book_in (q.own (BookFile ArchiveFolder) refl ∙ p.same.own (BookFile ArchiveFolder) refl);
          segments = λ k. q.own (SegmentFile ArchiveFolder k) refl ∙ p.same.own (SegmentFile ArchiveFolder k) refl;
          records =
              ap (λ (x : Book). own_chunks u DemuxFolder x.segments) (q.book ∙ p.book)
              ∙ (flat_map-append (λ (g : Segment). chunks_in (u.own (SegmentFile DemuxFolder g.number))) b.segments (p.segment ∷ [])
              ∙ ap₂ (λ x y. x ++ y)
              (flat_same (λ (g : Segment). chunks_in (u.own (SegmentFile DemuxFolder g.number)))
              (λ (g : Segment). chunks_in (v.own (SegmentFile DemuxFolder g.number))) b.segments
              (λ g one. ap chunks_in (q.own (SegmentFile DemuxFolder g.number) refl
              ∙ p.same.own (SegmentFile DemuxFolder g.number) (other g one))))
              (append-nil (chunks_in (u.own (SegmentFile DemuxFolder p.segment.number)))
              ∙ (ap chunks_in there ∙ p.holds.is.are)));
          more = (p.segment, ap (λ (x : Book). x.segments) (q.book ∙ p.book));
        }

  module _ (s : Segmenter) (new : Book) (first : Result (Unit {0}) JobFault) (r : Result (Unit {0}) OutsideFault)
      {a m z : Option History}
      (finished : Adds a m (Leads (As stamped job) (AtJob stamped (IsSoFar v outs s))
      (EndsSo stamped (λ value u. HasWritten v b new outs u) first)))
      (value : Unit {0}) (done : first ≡ Ok value) (own : Adds m z (Every (IsOf ReplacesBook)))
      (second : (w : Sight) → MayFollow stamped DemuxFolder w new
      → Adds m z (Leads (As stamped job) (Knows stamped w) (Published stamped DemuxFolder w new r))) where
    ended : (r : Result (Unit {0}) OutsideFault) (w : Sight) → HasWritten v b new outs w → (h : History)
        → Published stamped DemuxFolder w new r h → EndsSo stamped (λ (value : Unit {0}) u. Entered v b outs (Some s) u) (job_result r) h
    ended (Ok value) w p h k = record {
      legal = k.legal;
      may_act = k.may_act;
      alive = λ runs. entered_now new w p s (sight h) (k.alive runs);
    }
    ended (Err (site_failed call)) w p h k = k
    ended (Err no_memory) w p h k = k

    pub entered_so : Adds a z (Leads (As stamped job) (AtJob stamped (IsSoFar v outs s))
        (EndsSo stamped (λ value u. Entered v b outs (Some s) u) (job_result r)))
    entered_so =
        let C : History → Type 0 = EndsSo stamped (λ (value : Unit {0}) u. Entered v b outs (Some s) u) (job_result r) in
        leads_then
        (so_done stamped (AtJob stamped (IsSoFar v outs s)) (λ value u. HasWritten v b new outs u) first value done finished)
        (from_known stamped ReplacesBook (replaces_no_start (codes "demux")) (quiet_replace (codes "demux")) (HasWritten v b new outs) C own
        (λ h k runs.
        let w = sight h in
        let p = k.alive runs in
        reach_known stamped h (HasWritten v b new outs) C
        (leads_as (λ g j. j) (λ g j. ended r w p g j) (second w (may_follow new w p))) k)
        (λ h y. ends_bottom stamped (λ value u. Entered v b outs (Some s) u) (job_result r) h y))
