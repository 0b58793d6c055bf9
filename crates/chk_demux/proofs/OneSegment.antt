-- One segment of records that no book names is written.
use Rattle.std.proofs.Common.{◌≡◌, ℕ, ◌-◌, ◌^◌, true, false, List, [], ◌∷◌, ◌++◌, length, Option, None, Ok, Err, Result, ap, sym, subst, ◌∙◌, refl, if◌then◌else◌, arith}
use Rattle.std.specs.Prelude.{IsTrue, IsFalse, codes, nat_eq, OnOk, IfOk, IfErr}
use Rattle.std.specs.List.{list_any}
use Rattle.std.proofs.lemmas.Bool.{and_from}
use Rattle.chk_bytes.specs.Stems.{is_count}
use Rattle.chk_bytes.proofs.WordLemmas.{plain_word}
use Rattle.chk_site.specs.Files.{File}
use Rattle.chk_site.specs.History.{History, Every, files_after, is_stopped}
use Rattle.chk_site.specs.Site.{Adds}
use Rattle.chk_site.specs.Runs.{Leads, anyhow}
use Rattle.chk_site.proofs.Leads.{leads_as}
use Rattle.chk_chunk.specs.Keys.{Chunk, record_limit}
use Rattle.chk_world.specs.Names.{DemuxFolder, BookFile, SegmentFile, spell, file}
use Rattle.chk_world.specs.Books.{Book, Segment, book_in}
use Rattle.chk_world.specs.Jobs.{all_segments, is_named}
use Rattle.chk_world.specs.Places.{As}
use Rattle.chk_world.specs.Sight.{job, Sight, sight, AtJob}
use Rattle.chk_world.specs.JobSteps.{IsOf, WritesTo, SparesFile}
use Rattle.chk_world.proofs.Lifts.{with_own}
use Rattle.chk_world.proofs.Spares.{writes_segment}
use Rattle.chk_record_index.specs.declared.fault.JobFault.{JobFault}
use Rattle.chk_record_index.specs.Faults.{IsOfWrite, IsOfBegin}
use Rattle.chk_record_index.specs.declared.fault.JobFault.TheVariants.{Outside, Damaged, Spent, NoMemory}
use Rattle.chk_book.specs.Causes.{SpentBook}
use Rattle.chk_book.specs.Folders.{is_folder, segment_name, most_in}
use Rattle.chk_book.specs.Segmenting.{Writing, HoldsSegment, IsFinished, IsSegmentOf, all_bytes, segment_of, with_segment, begun}
use Rattle.chk_book.specs.Written.{IsAt, taken, HasTaken, HasBegun, HasEnded}
use Rattle.chk_book.specs.declared.segmenter.Segmenter.{Segmenter}
use Rattle.chk_archive_parts.proofs.FromKnown.{from_known, reach, with_fact}
use Rattle.chk_archive_parts.proofs.OneSegment.{has_some, some_has, quiet_write}
use Rattle.chk_world.proofs.Lifts.{no_write_starts}
use Rattle.chk_demux.specs.Working.{EndsSo, Failed}
use Rattle.chk_demux.specs.Writes.{SameBut, IsFree, IsSoFar, SoFar, IsForDemux, HoldsChunks}
use Rattle.chk_demux.proofs.Ends.{ends_bottom}

-- ---- the folder and the name

pub demux_folder : is_folder (codes "demux") ≡ true
demux_folder = and_from _ _ (plain_word (codes "demux") refl (omega arith) (omega arith)) refl

pub segment_spelled : (k : ℕ) → segment_name (codes "demux") k ≡ spell (SegmentFile DemuxFolder k)
unfolding spell
segment_spelled k = refl

-- what the job knows of it is the file
pub segment_own : (history : History) (k : ℕ) → IsTrue (is_count k)
    → (sight history).own (SegmentFile DemuxFolder k) ≡ files_after history (segment_name (codes "demux") k)
segment_own history k count =
    ap (λ b. if b then file (files_after history) (SegmentFile DemuxFolder k) else None) count
    ∙ ap (files_after history) (sym (segment_spelled k))

-- ---- what the job knows beside it

pub same_self : (k : ℕ) (v : Sight) → SameBut k v v
same_self k v = record { listing = refl; own = λ n apart. refl; sinks = λ x. refl }

same_free : (k : ℕ) (v u : Sight) (o : Option File) → SameBut k v u
    → SameBut k v (with_own u (SegmentFile DemuxFolder k) o)
same_free k v u o s = record {
  listing = s.listing;
  own = λ n apart. ap (λ b. if b then o else u.own n) apart ∙ s.own n apart;
  sinks = s.sinks;
}

-- the book of the records doesn't name it
still_unnamed : (v : Sight) (k : ℕ) → IsFree v k → (history : History) → SameBut k v (sight history)
    → is_named (files_after history) (SegmentFile DemuxFolder k) ≡ false
still_unnamed v k free history s =
    subst (λ (b : Book). IsFalse (list_any (λ (g : Segment). nat_eq g.number k) (all_segments b)))
    (ap book_in (sym (s.own (BookFile DemuxFolder) refl))) free.unnamed

-- a call that writes it promises what it does in every legal history
module _ (stamped : List (List ℕ)) (v : Sight) (k : ℕ) (free : IsFree v k) (A B : History → Type 0)
    {old new : Option History} where
  pub over_segment : Adds old new (Leads (anyhow (SparesFile (segment_name (codes "demux") k))) A B)
      → Adds old new (Every (IsOf (WritesTo (segment_name (codes "demux") k))))
      → Adds old new (Leads (As stamped job) (λ h. AtJob stamped (SameBut k v) h × Unit {0} × A h)
      (λ h. AtJob stamped (SameBut k v) h × Unit {0} × B h))
  over_segment raw own =
      writes_segment stamped (SameBut k v) DemuxFolder k free.count A B (still_unnamed v k free)
      (λ u o s. same_free k v u o s)
      (subst (λ w. Adds old new (Leads (anyhow (SparesFile w)) A B)) (segment_spelled k) raw)
      (subst (λ w. Adds old new (Every (IsOf (WritesTo w)))) (segment_spelled k) own)

-- ---- it is begun

module _ (stamped : List (List ℕ)) (v : Sight) (outs : List Chunk) (b : Book) (free : IsFree v b.next) where
  known : (h : History) → AtJob stamped (SoFar v outs None) h → AtJob stamped (SameBut b.next v) h
  known h k = record {
    legal = k.legal;
    may_act = k.may_act;
    alive = λ runs. subst (SameBut b.next v) (sym (k.alive runs).1) (same_self b.next v);
  }

  begun_at : (s : Segmenter) → IsAt s (begun (codes "demux") b.next) → (h : History)
      → AtJob stamped (SameBut b.next v) h → HasBegun (codes "demux") b (Ok s) h → AtJob stamped (IsSoFar v [] s) h
  begun_at s at h same has = record {
    legal = same.legal;
    may_act = same.may_act;
    alive = λ runs.
        let f = has_some (files_after h (segment_name (codes "demux") b.next))
        (λ f. f.bytes ≡ (begun (codes "demux") b.next).held) has in
        record {
          same = subst (λ n. SameBut n v (sight h)) (sym at.number) (same.alive runs);
          w = begun (codes "demux") b.next;
          at = at;
          folder = refl;
          chunks_are = refl;
          file = f.0;
          there = ap (λ n. (sight h).own (SegmentFile DemuxFolder n)) at.number
              ∙ (segment_own h b.next free.count ∙ f.1);
          held = f.2;
        };
  }

  not_begun : (b.next ≡ 2 ^ 63 - 1 → ⊥) → (fault : JobFault) → IsOfBegin fault → SpentBook {T = Segmenter} b (Err fault)
      → (h : History) → AtJob stamped (SameBut b.next v) h → Failed stamped fault h
  not_begun below (Outside call) only spent h k = k.legal
  not_begun below (Damaged name place) only spent h k = absurd only
  not_begun below (Spent n) only spent h k = absurd (below spent.1)
  not_begun below NoMemory only spent h k = k.legal

  pub opened : (b.next ≡ 2 ^ 63 - 1 → ⊥) → (r : Result Segmenter JobFault)
      → IfOk r (λ s. IsAt s (begun (codes "demux") b.next)) → IfErr r IsOfBegin → SpentBook b r → {old new : Option History}
      → Adds old new (Leads (anyhow (SparesFile (segment_name (codes "demux") b.next))) (λ h. Unit {0})
      (HasBegun (codes "demux") b r))
      → Adds old new (Every (IsOf (WritesTo (segment_name (codes "demux") b.next))))
      → Adds old new (Leads (As stamped job) (AtJob stamped (SoFar v outs None))
      (EndsSo stamped (λ s u. IsSoFar v [] s u) r))
  opened below r at only spent raw own =
      leads_as (λ h k. (known h k, tt, tt)) (λ h z. go r at only spent h z.0 z.2)
      (over_segment stamped v b.next free (λ h. Unit {0}) (HasBegun (codes "demux") b r) raw own)
    where
      go : (r : Result Segmenter JobFault) → IfOk r (λ s. IsAt s (begun (codes "demux") b.next)) → IfErr r IsOfBegin
          → SpentBook b r → (h : History) → AtJob stamped (SameBut b.next v) h → HasBegun (codes "demux") b r h
          → EndsSo stamped (λ s u. IsSoFar v [] s u) r h
      go (Ok s) at only spent h same has = begun_at s at h same has
      go (Err fault) at only spent h same has = not_begun below fault only spent h same

  -- where none were written yet they are these
  pub opened_so : (r : Result Segmenter JobFault) {old new : Option History}
      → Adds old new (Every (IsOf (WritesTo (segment_name (codes "demux") b.next))))
      → Adds old new (Leads (As stamped job) (AtJob stamped (SoFar v outs None))
      (EndsSo stamped (λ s u. IsSoFar v [] s u) r))
      → Adds old new (Leads (As stamped job) (AtJob stamped (SoFar v outs None))
      (EndsSo stamped (λ s u. IsSoFar v outs s u) r))
  opened_so r own told =
      let W : List ℕ = segment_name (codes "demux") b.next in
      leads_as
      (λ h k. record {
        legal = k.legal;
        may_act = k.may_act;
        alive = λ runs. (((k.alive runs).0, (k.alive runs).1), (k.alive runs).0);
      })
      (λ h z. go r h z.0 z.1)
      (with_fact stamped (WritesTo W) (no_write_starts W) (quiet_write W) (outs ≡ []) (SoFar v outs None)
      (EndsSo stamped (λ s u. IsSoFar v [] s u) r) own told)
    where
      go : (r : Result Segmenter JobFault) (h : History) → EndsSo stamped (λ s u. IsSoFar v [] s u) r h
          → (is_stopped h ≡ false → outs ≡ []) → EndsSo stamped (λ s u. IsSoFar v outs s u) r h
      go (Ok s) h k none = record {
        legal = k.legal;
        may_act = k.may_act;
        alive = λ runs. subst (λ l. IsSoFar v l s (sight h)) (sym (none runs)) (k.alive runs);
      }
      go (Err fault) h k none = k

pub begun_for : (s : Segmenter) (n : ℕ) → (n ≡ 2 ^ 63 - 1 → ⊥) → IsAt s (begun (codes "demux") n) → s.who ≡ job
    → IsForDemux n s
begun_for s n below at who =
    record { below = below; who = who; number = at.number; w = begun (codes "demux") n; at = at; folder = refl }

-- ---- a record is put behind the others

module _ (k : ℕ) (s t : Segmenter) (c : Chunk) (r : Result (Unit {0}) JobFault) (f : IsForDemux k s)
    (at : (w : Writing) → IsAt s w → OnOk r (IsAt t (taken s w c))) (who : t.who ≡ s.who) where
  pub still_for : OnOk r (IsForDemux k t)
  still_for = go r (at f.w f.at)
    where
      go : (r : Result (Unit {0}) JobFault) → OnOk r (IsAt t (taken s f.w c)) → OnOk r (IsForDemux k t)
      go (Ok value) a = record {
        below = f.below;
        who = who ∙ f.who;
        number = a.number ∙ (sym f.at.number ∙ f.number);
        w = taken s f.w c;
        at = a;
        folder = f.folder;
      }
      go (Err fault) a = tt

-- its own steps write that segment
pub writes_it : (k : ℕ) (s : Segmenter) (f : IsForDemux k s) → {old new : Option History}
    → ((w : Writing) → IsAt s w → s.who ≡ job
    → Adds old new (Every (IsOf (WritesTo (segment_name w.folder w.number)))))
    → Adds old new (Every (IsOf (WritesTo (segment_name (codes "demux") k))))
writes_it k s f {old = old} {new = new} own =
    subst (λ n. Adds old new (Every (IsOf (WritesTo (segment_name (codes "demux") n))))) (sym f.at.number ∙ f.number)
    (subst (λ d. Adds old new (Every (IsOf (WritesTo (segment_name d f.w.number))))) f.folder
    (own f.w f.at f.who))

module _ (stamped : List (List ℕ)) (v : Sight) (k : ℕ) (s t : Segmenter) (of : s.number ≡ k) (free : IsFree v k)
    (chunks : List Chunk) (c : Chunk) (r : Result (Unit {0}) JobFault) {old new : Option History}
    (raw : (w : Writing) → IsAt s w → Adds old new
    (Leads (anyhow (SparesFile (segment_name w.folder w.number))) (HoldsSegment w) (HasTaken s w c r)))
    (at : (w : Writing) → IsAt s w → OnOk r (IsAt t (taken s w c)))
    (own : Adds old new (Every (IsOf (WritesTo (segment_name (codes "demux") k))))) where
  abbrev W : List ℕ
  W = segment_name (codes "demux") k

  named : (w : Writing) → IsAt s w → w.folder ≡ codes "demux" → segment_name w.folder w.number ≡ W
  named w a folder = ap (λ f. segment_name f w.number) folder
      ∙ ap (segment_name (codes "demux")) (sym a.number ∙ of)

  ended : (r : Result (Unit {0}) JobFault) (w : Writing) → IsAt s w → w.folder ≡ codes "demux"
      → w.chunks ≡ chunks → OnOk r (IsAt t (taken s w c)) → IfErr r IsOfWrite → (h : History)
      → AtJob stamped (SameBut k v) h → HasTaken s w c r h
      → EndsSo stamped (λ value u. IsSoFar v (chunks ++ c ∷ []) t u) r h
  ended (Ok value) w a folder are after only h same taken_so = record {
    legal = same.legal;
    may_act = same.may_act;
    alive = λ runs.
        let number : t.number ≡ k = after.number ∙ (sym a.number ∙ of) in
        let f = has_some (files_after h (segment_name w.folder w.number))
        (λ f. f.bytes ≡ (taken s w c).held) taken_so in
        record {
          same = subst (λ n. SameBut n v (sight h)) (sym number) (same.alive runs);
          w = taken s w c;
          at = after;
          folder = folder;
          chunks_are = ap (λ l. l ++ c ∷ []) are;
          file = f.0;
          there = ap (λ n. (sight h).own (SegmentFile DemuxFolder n)) number
              ∙ (segment_own h k free.count
              ∙ (ap (files_after h) (sym (named w a folder)) ∙ f.1));
          held = f.2;
        };
  }
  ended (Err (Outside call)) w a folder are after only h same taken_so = same.legal
  ended (Err (Damaged name place)) w a folder are after only h same taken_so = absurd only
  ended (Err (Spent n)) w a folder are after only h same taken_so = absurd only
  ended (Err NoMemory) w a folder are after only h same taken_so = same.legal

  holds : (h : History) (p : IsSoFar v chunks s (sight h)) → HoldsSegment p.w h
  holds h p =
      some_has (files_after h (segment_name p.w.folder p.w.number)) (λ f. f.bytes ≡ p.w.held) p.file
      (ap (files_after h) (named p.w p.at p.folder)
      ∙ (sym (segment_own h k free.count)
      ∙ (ap (λ n. (sight h).own (SegmentFile DemuxFolder n)) (sym of) ∙ p.there))) p.held

  pub put_so : IfErr r IsOfWrite
      → Adds old new (Leads (As stamped job) (AtJob stamped (IsSoFar v chunks s))
      (EndsSo stamped (λ value u. IsSoFar v (chunks ++ c ∷ []) t u) r))
  put_so only =
      let C : History → Type 0 = EndsSo stamped (λ value u. IsSoFar v (chunks ++ c ∷ []) t u) r in
      from_known stamped (WritesTo W) (no_write_starts W) (quiet_write W) (IsSoFar v chunks s) C own
      (λ h j runs.
      let p : IsSoFar v chunks s (sight h) = j.alive runs in
      let w : Writing = p.w in
      reach stamped h (λ h. AtJob stamped (SameBut k v) h × Unit {0} × HoldsSegment w h) C
      (leads_as (λ h k. k)
      (λ h z. ended r w p.at p.folder p.chunks_are (at w p.at) only h z.0 z.2)
      (over_segment stamped v k free (HoldsSegment w) (HasTaken s w c r)
      (subst (λ n. Adds old new (Leads (anyhow (SparesFile n)) (HoldsSegment w) (HasTaken s w c r)))
      (named w p.at p.folder) (raw w p.at)) own))
      (record { legal = j.legal; may_act = j.may_act; alive = λ r. subst (λ n. SameBut n v (sight h)) of p.same }, tt, holds h p))
      (λ h z. ends_bottom stamped (λ value u. IsSoFar v (chunks ++ c ∷ []) t u) r h z)

-- ---- it is finished

-- all that the job knew is the same, but for the segment, which holds these records, and the new book has it
pub record HasWritten (v : Sight) (old new : Book) (chunks : List Chunk) (u : Sight) : Type 0 where
  pub same : SameBut old.next v u
  pub segment : Segment
  pub number : segment.number ≡ old.next
  pub holds : HoldsChunks u segment chunks
  pub book : new ≡ with_segment old segment chunks

module _ (stamped : List (List ℕ)) (v : Sight) (s : Segmenter) (b after : Book) (of : s.number ≡ b.next)
    (free : IsFree v b.next) (chunks : List Chunk) (r : Result (Unit {0}) JobFault) {old new : Option History}
    (raw : (w : Writing) → IsAt s w → Adds old new
    (Leads (anyhow (SparesFile (segment_name w.folder w.number))) (HoldsSegment w) (HasEnded w b after r)))
    (own : Adds old new (Every (IsOf (WritesTo (segment_name (codes "demux") b.next))))) where
  abbrev V : List ℕ
  V = segment_name (codes "demux") b.next

  numbered : (w : Writing) → IsAt s w → w.number ≡ b.next
  numbered w a = sym a.number ∙ of

  called : (w : Writing) → IsAt s w → w.folder ≡ codes "demux" → segment_name w.folder w.number ≡ V
  called w a folder = ap (λ f. segment_name f w.number) folder
      ∙ ap (segment_name (codes "demux")) (numbered w a)

  all_there : (w : Writing) → IsAt s w → w.folder ≡ codes "demux" → w.chunks ≡ chunks
      → (h : History) → IsFinished w h → HoldsChunks (sight h) (segment_of w) chunks
  all_there w a folder are h fin =
      let f = has_some (files_after h (segment_name w.folder w.number))
      (λ f. (f.bytes ≡ all_bytes w) × (f.synced ≡ length (all_bytes w))) fin in
      record {
        file = f.0;
        there = ap (λ n. (sight h).own (SegmentFile DemuxFolder n)) (numbered w a)
            ∙ (segment_own h b.next free.count
            ∙ (ap (files_after h) (sym (called w a folder)) ∙ f.1));
        is = subst (λ l. IsSegmentOf record_limit l chunks) (sym f.2.0)
            (subst (λ l. IsSegmentOf record_limit (all_bytes w) l) are
            (subst (λ g. IsSegmentOf (most_in g) (all_bytes w) w.chunks) folder a.sound));
        synced = f.2.1 ∙ sym (ap length f.2.0);
        size = sym (ap length f.2.0);
      }

  finished : (r : Result (Unit {0}) JobFault) (w : Writing) → IsAt s w → w.folder ≡ codes "demux"
      → w.chunks ≡ chunks → IfErr r IsOfWrite → (h : History)
      → AtJob stamped (SameBut b.next v) h → HasEnded w b after r h
      → EndsSo stamped (λ value u. HasWritten v b after chunks u) r h
  finished (Ok value) w a folder are only h same fin = record {
    legal = same.legal;
    may_act = same.may_act;
    alive = λ runs. record {
      same = same.alive runs;
      segment = segment_of w;
      number = numbered w a;
      holds = all_there w a folder are h fin.0;
      book = fin.1 ∙ ap (with_segment b (segment_of w)) are;
    };
  }
  finished (Err (Outside call)) w a folder are only h same fin = same.legal
  finished (Err (Damaged name place)) w a folder are only h same fin = absurd only
  finished (Err (Spent n)) w a folder are only h same fin = absurd only
  finished (Err NoMemory) w a folder are only h same fin = same.legal

  still_holds : (h : History) (p : IsSoFar v chunks s (sight h)) → HoldsSegment p.w h
  still_holds h p =
      some_has (files_after h (segment_name p.w.folder p.w.number)) (λ f. f.bytes ≡ p.w.held) p.file
      (ap (files_after h) (called p.w p.at p.folder)
      ∙ (sym (segment_own h b.next free.count)
      ∙ (ap (λ n. (sight h).own (SegmentFile DemuxFolder n)) (sym of) ∙ p.there))) p.held

  pub finish_so : IfErr r IsOfWrite
      → Adds old new (Leads (As stamped job) (AtJob stamped (IsSoFar v chunks s))
      (EndsSo stamped (λ value u. HasWritten v b after chunks u) r))
  finish_so only =
      let C : History → Type 0 = EndsSo stamped (λ value u. HasWritten v b after chunks u) r in
      from_known stamped (WritesTo V) (no_write_starts V) (quiet_write V) (IsSoFar v chunks s) C own
      (λ h k runs.
      let p : IsSoFar v chunks s (sight h) = k.alive runs in
      let w : Writing = p.w in
      reach stamped h (λ h. AtJob stamped (SameBut b.next v) h × Unit {0} × HoldsSegment w h) C
      (leads_as (λ h k. k)
      (λ h z. finished r w p.at p.folder p.chunks_are only h z.0 z.2)
      (over_segment stamped v b.next free (HoldsSegment w) (HasEnded w b after r)
      (subst (λ n. Adds old new (Leads (anyhow (SparesFile n)) (HoldsSegment w) (HasEnded w b after r)))
      (called w p.at p.folder) (raw w p.at)) own)) (
        record {
          legal = k.legal;
          may_act = k.may_act;
          alive = λ r. subst (λ n. SameBut n v (sight h)) of p.same;
        },
        tt,
        still_holds h p,
      ))
      (λ h z. ends_bottom stamped (λ value u. HasWritten v b after chunks u) r h z)
