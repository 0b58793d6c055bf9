-- One segment of the archive that no book names is written.
use Rattle.std.proofs.Common.{◌≡◌, ℕ, false, List, [], ◌∷◌, ◌++◌, length, Option, Some, None, Ok, Err, Result, ap, sym, subst, ◌∙◌, refl, if◌then◌else◌}
use Rattle.std.specs.Prelude.{IsTrue, IsFalse, codes, nat_eq, OnOk, IfErr}
use Rattle.std.specs.List.{list_any}
use Rattle.chk_bytes.specs.Stems.{is_count}
use Rattle.chk_site.specs.Files.{File}
use Rattle.chk_site.specs.Acts.{Deed, Starts}
use Rattle.chk_site.specs.History.{History, Every, files_after}
use Rattle.chk_site.specs.Site.{Adds}
use Rattle.chk_site.specs.Runs.{Leads, anyhow}
use Rattle.chk_site.proofs.Leads.{leads_as}
use Rattle.chk_chunk.specs.Keys.{Chunk, chunk_limit}
use Rattle.chk_world.specs.Names.{ArchiveFolder, BookFile, SegmentFile, spell, file}
use Rattle.chk_world.specs.Books.{Book, Segment, book_in}
use Rattle.chk_world.specs.Committed.{HasFile}
use Rattle.chk_world.specs.Jobs.{all_segments, is_named}
use Rattle.chk_world.specs.Places.{As}
use Rattle.chk_world.specs.Sight.{job, Sight, sight, AtJob}
use Rattle.chk_world.specs.JobSteps.{IsOf, WritesTo, removes, creates, appends, syncs, SparesFile}
use Rattle.chk_world.proofs.Lifts.{with_own, no_write_starts}
use Rattle.chk_world.proofs.Spares.{writes_segment}
use Rattle.chk_world.proofs.ToldCalls.{talks}
use Rattle.chk_record_index.specs.declared.fault.JobFault.{JobFault}
use Rattle.chk_record_index.specs.Faults.{IsOfWrite, IsOfBegin}
use Rattle.chk_record_index.specs.declared.fault.JobFault.TheVariants.{Outside, Damaged, Spent, NoMemory}
use Rattle.chk_book.specs.Folders.{segment_name, most_in}
use Rattle.chk_book.specs.Segmenting.{Writing, HoldsSegment, IsFinished, IsSegmentOf, all_bytes, segment_of, begun}
use Rattle.chk_book.specs.Written.{IsAt, taken, HasTaken, HasBegun}
use Rattle.chk_book.specs.declared.segmenter.Segmenter.{Segmenter}
use Rattle.chk_archive_parts.specs.Writes.{SameBut, IsFree, IsSoFar, PutSo, HoldsChunks, with_new, HasEntered, Written}
use Rattle.chk_archive_parts.specs.declared.writing.Purpose.{Purpose}
use Rattle.chk_archive_parts.proofs.OneFile.{Knows}
use Rattle.chk_archive_parts.proofs.FromKnown.{from_known, reach}

-- ---- the name

pub segment_spelled : (k : ℕ) → segment_name (codes "archive") k ≡ spell (SegmentFile ArchiveFolder k)
unfolding spell
segment_spelled k = refl

-- what the job knows of it is the file
pub segment_own : (history : History) (k : ℕ) → IsTrue (is_count k)
    → (sight history).own (SegmentFile ArchiveFolder k)
    ≡ files_after history (segment_name (codes "archive") k)
segment_own history k count =
    ap (λ b. if b then file (files_after history) (SegmentFile ArchiveFolder k) else None) count
    ∙ ap (files_after history) (sym (segment_spelled k))

pub has_some : (o : Option File) (Q : File → Type 0) → HasFile o Q → (f : File) × (o ≡ Some f) × Q f
has_some None Q h = absurd h
has_some (Some f) Q h = (f, refl, h)

pub some_has : (o : Option File) (Q : File → Type 0) (f : File) → o ≡ Some f → Q f → HasFile o Q
some_has o Q f is q = subst (λ o. HasFile o Q) (sym is) q

pub quiet_write : (w : List ℕ) (call : Deed) → WritesTo w call → talks call ≡ false
quiet_write w call removes = refl
quiet_write w call creates = refl
quiet_write w call (appends piece) = refl
quiet_write w call syncs = refl

-- ---- what the job knows beside it

pub same_self : (k : ℕ) (v : Sight) → SameBut k v v
same_self k v = record { listing = refl; own = λ n apart. refl; sinks = λ x. refl }

same_free : (k : ℕ) (v u : Sight) (o : Option File) → SameBut k v u
    → SameBut k v (with_own u (SegmentFile ArchiveFolder k) o)
same_free k v u o s = record {
  listing = s.listing;
  own = λ n apart. ap (λ b. if b then o else u.own n) apart ∙ s.own n apart;
  sinks = s.sinks;
}

-- the book that the archive has doesn't name it
pub still_unnamed : (v : Sight) (files : List (List ℕ)) (k : ℕ) → IsFree v files k → (history : History) → SameBut k v (sight history)
    → is_named (files_after history) (SegmentFile ArchiveFolder k) ≡ false
still_unnamed v files k free history s =
    subst (λ (b : Book). IsFalse (list_any (λ (g : Segment). nat_eq g.number k) (all_segments b)))
    (ap book_in (sym (s.own (BookFile ArchiveFolder) refl))) free.unnamed

-- a call that writes it promises what it does in every legal history
module _ (stamped : List (List ℕ)) (v : Sight) (files : List (List ℕ)) (k : ℕ) (free : IsFree v files k) (A B : History → Type 0)
    {old new : Option History} where
  pub over_segment : Adds old new (Leads (anyhow (SparesFile (segment_name (codes "archive") k))) A B)
      → Adds old new (Every (IsOf (WritesTo (segment_name (codes "archive") k))))
      → Adds old new (Leads (As stamped job) (λ h. AtJob stamped (SameBut k v) h × Unit {0} × A h)
      (λ h. AtJob stamped (SameBut k v) h × Unit {0} × B h))
  over_segment raw own =
      writes_segment stamped (SameBut k v) ArchiveFolder k free.count A B (still_unnamed v files k free)
      (λ u o s. same_free k v u o s)
      (subst (λ w. Adds old new (Leads (anyhow (SparesFile w)) A B)) (segment_spelled k) raw)
      (subst (λ w. Adds old new (Every (IsOf (WritesTo w)))) (segment_spelled k) own)

-- ---- where the site was stopped before

pub put_bottom : (stamped : List (List ℕ)) (v : Sight) (chunks : List Chunk) (s : Segmenter)
    (r : Result (Unit {0}) JobFault) (h : History) → AtJob stamped (λ u. ⊥) h → PutSo stamped v chunks s r h
put_bottom stamped v chunks s (Ok value) h z =
    record { legal = z.legal; may_act = z.may_act; alive = λ runs. absurd (z.alive runs) }
put_bottom stamped v chunks s (Err (Outside call)) h z = z.legal
put_bottom stamped v chunks s (Err (Damaged name at)) h z =
    record { legal = z.legal; may_act = z.may_act; alive = z.alive }
put_bottom stamped v chunks s (Err (Spent n)) h z = z.legal
put_bottom stamped v chunks s (Err NoMemory) h z = z.legal

pub written_bottom : (stamped : List (List ℕ)) (enter : Book → Segment → Book) (v : Sight) (b after : Book)
    (chunks : List Chunk) (r : Result (Unit {0}) JobFault) (h : History)
    → AtJob stamped (λ u. ⊥) h → Written stamped enter v b after chunks r h
written_bottom stamped enter v b after chunks (Ok value) h z =
    record { legal = z.legal; may_act = z.may_act; alive = λ runs. absurd (z.alive runs) }
written_bottom stamped enter v b after chunks (Err (Outside call)) h z = z.legal
written_bottom stamped enter v b after chunks (Err (Damaged name at)) h z =
    record { legal = z.legal; may_act = z.may_act; alive = z.alive }
written_bottom stamped enter v b after chunks (Err (Spent n)) h z =
    record { legal = z.legal; may_act = z.may_act; alive = λ runs. absurd (z.alive runs) }
written_bottom stamped enter v b after chunks (Err NoMemory) h z = z.legal

-- ---- it is begun

pub begun_so : (stamped : List (List ℕ)) (v : Sight) (files : List (List ℕ)) (b : Book) → IsFree v files b.next
    → (s : Segmenter) → IsAt s (begun (codes "archive") b.next) → {old new : Option History}
    → Adds old new (Leads (anyhow (SparesFile (segment_name (codes "archive") b.next))) (λ h. Unit {0})
    (HasBegun (codes "archive") b (Ok s)))
    → Adds old new (Every (IsOf (WritesTo (segment_name (codes "archive") b.next))))
    → Adds old new (Leads (As stamped job) (Knows stamped v) (AtJob stamped (IsSoFar v [] s)))
begun_so stamped v files b free s at raw own =
    leads_as
    (λ h k. (
      record {
        legal = k.legal;
        may_act = k.may_act;
        alive = λ runs. subst (SameBut b.next v) (sym (k.alive runs)) (same_self b.next v);
      },
      tt,
      tt,
    ))
    (λ h z. record {
      legal = z.0.legal;
      may_act = z.0.may_act;
      alive = λ runs.
          let f = has_some (files_after h (segment_name (codes "archive") b.next))
          (λ f. f.bytes ≡ (begun (codes "archive") b.next).held) z.2 in
          record {
            same = subst (λ n. SameBut n v (sight h)) (sym at.number) (z.0.alive runs);
            w = begun (codes "archive") b.next;
            at = at;
            folder = refl;
            chunks_are = refl;
            file = f.0;
            there = ap (λ n. (sight h).own (SegmentFile ArchiveFolder n)) at.number
                ∙ (segment_own h b.next free.count ∙ f.1);
            held = f.2;
          };
    })
    (over_segment stamped v files b.next free (λ h. Unit {0}) (HasBegun (codes "archive") b (Ok s)) raw own)

-- it was refused
pub not_begun : (stamped : List (List ℕ)) (v : Sight) (files : List (List ℕ)) (b : Book) → IsFree v files b.next
    → (enter : Book → Segment → Book) (after : Book) (chunks : List Chunk) (fault : JobFault)
    → IsOfBegin fault → {old new : Option History}
    → Adds old new (Leads (anyhow (SparesFile (segment_name (codes "archive") b.next))) (λ h. Unit {0})
    (HasBegun (codes "archive") b (Err fault)))
    → Adds old new (Every (IsOf (WritesTo (segment_name (codes "archive") b.next))))
    → Adds old new (Leads (As stamped job) (Knows stamped v)
    (Written stamped enter v b after chunks (Err fault)))
not_begun stamped v files b free enter after chunks fault only raw own =
    leads_as
    (λ h k. (
      record {
        legal = k.legal;
        may_act = k.may_act;
        alive = λ runs. subst (SameBut b.next v) (sym (k.alive runs)) (same_self b.next v);
      },
      tt,
      tt,
    ))
    (λ h z. go fault only h z.0)
    (over_segment stamped v files b.next free (λ h. Unit {0}) (HasBegun (codes "archive") b (Err fault)) raw own)
  where
    go : (fault : JobFault) → IsOfBegin fault → (h : History) → AtJob stamped (SameBut b.next v) h
        → Written stamped enter v b after chunks (Err fault) h
    go (Outside call) only h k = k.legal
    go (Damaged name place) only h k = absurd only
    go (Spent n) only h k = k
    go NoMemory only h k = k.legal

-- ---- a chunk is put behind the others

module _ (stamped : List (List ℕ)) (v : Sight) (files : List (List ℕ)) (s t : Segmenter) (free : IsFree v files s.number)
    (chunks : List Chunk) (c : Chunk) (r : Result (Unit {0}) JobFault) {old new : Option History}
    (raw : (w : Writing) → IsAt s w → Adds old new
    (Leads (anyhow (SparesFile (segment_name w.folder w.number))) (HoldsSegment w) (HasTaken s w c r)))
    (at : (w : Writing) → IsAt s w → OnOk r (IsAt t (taken s w c)))
    (own : Adds old new (Every (IsOf (WritesTo (segment_name (codes "archive") s.number))))) where
  abbrev W : List ℕ
  W = segment_name (codes "archive") s.number

  named : (w : Writing) → IsAt s w → w.folder ≡ codes "archive" → segment_name w.folder w.number ≡ W
  named w a folder = ap (λ f. segment_name f w.number) folder
      ∙ ap (segment_name (codes "archive")) (sym a.number)

  ended : (r : Result (Unit {0}) JobFault) (w : Writing) → IsAt s w → w.folder ≡ codes "archive"
      → w.chunks ≡ chunks → OnOk r (IsAt t (taken s w c)) → IfErr r IsOfWrite → (h : History)
      → AtJob stamped (SameBut s.number v) h → HasTaken s w c r h
      → PutSo stamped v (chunks ++ c ∷ []) t r h
  ended (Ok value) w a folder are after only h same taken_so = record {
    legal = same.legal;
    may_act = same.may_act;
    alive = λ runs.
        let number : t.number ≡ s.number = after.number ∙ sym a.number in
        let f = has_some (files_after h (segment_name w.folder w.number))
        (λ f. f.bytes ≡ (taken s w c).held) taken_so in
        record {
          same = subst (λ n. SameBut n v (sight h)) (sym number) (same.alive runs);
          w = taken s w c;
          at = after;
          folder = folder;
          chunks_are = ap (λ l. l ++ c ∷ []) are;
          file = f.0;
          there = ap (λ n. (sight h).own (SegmentFile ArchiveFolder n)) number
              ∙ (segment_own h s.number free.count
              ∙ (ap (files_after h) (sym (named w a folder)) ∙ f.1));
          held = f.2;
        };
  }
  ended (Err (Outside call)) w a folder are after only h same taken_so = same.legal
  ended (Err (Damaged name place)) w a folder are after only h same taken_so = absurd only
  ended (Err (Spent n)) w a folder are after only h same taken_so = same.legal
  ended (Err NoMemory) w a folder are after only h same taken_so = same.legal

  holds : (h : History) (p : IsSoFar v chunks s (sight h)) → HoldsSegment p.w h
  holds h p =
      some_has (files_after h (segment_name p.w.folder p.w.number)) (λ f. f.bytes ≡ p.w.held) p.file
      (ap (files_after h) (named p.w p.at p.folder)
      ∙ (sym (segment_own h s.number free.count) ∙ p.there)) p.held

  pub put_so : IfErr r IsOfWrite
      → Adds old new (Leads (As stamped job) (AtJob stamped (IsSoFar v chunks s))
      (PutSo stamped v (chunks ++ c ∷ []) t r))
  put_so only =
      from_known stamped (WritesTo W) (no_write_starts W) (quiet_write W) (IsSoFar v chunks s)
      (PutSo stamped v (chunks ++ c ∷ []) t r) own
      (λ h k runs.
      let p : IsSoFar v chunks s (sight h) = k.alive runs in
      let w : Writing = p.w in
      reach stamped h (λ h. AtJob stamped (SameBut s.number v) h × Unit {0} × HoldsSegment w h)
      (PutSo stamped v (chunks ++ c ∷ []) t r)
      (leads_as (λ h k. k)
      (λ h z. ended r w p.at p.folder p.chunks_are (at w p.at) only h z.0 z.2)
      (over_segment stamped v files s.number free (HoldsSegment w) (HasTaken s w c r)
      (subst (λ n. Adds old new (Leads (anyhow (SparesFile n)) (HoldsSegment w) (HasTaken s w c r)))
      (named w p.at p.folder) (raw w p.at)) own))
      (record { legal = k.legal; may_act = k.may_act; alive = λ r. p.same }, tt, holds h p))
      (λ h z. put_bottom stamped v (chunks ++ c ∷ []) t r h z)

-- ---- it is finished

module _ (stamped : List (List ℕ)) (v : Sight) (files : List (List ℕ)) (s : Segmenter) (b after : Book) (of : s.number ≡ b.next)
    (free : IsFree v files b.next) (chunks : List Chunk) (purpose : Purpose)
    (r : Result (Unit {0}) JobFault) {old new : Option History}
    (raw : (w : Writing) → IsAt s w → Adds old new
    (Leads (anyhow (SparesFile (segment_name w.folder w.number))) (HoldsSegment w) (HasEntered purpose w b after r)))
    (own : Adds old new (Every (IsOf (WritesTo (segment_name (codes "archive") b.next))))) where
  abbrev V : List ℕ
  V = segment_name (codes "archive") b.next

  numbered : (w : Writing) → IsAt s w → w.number ≡ b.next
  numbered w a = sym a.number ∙ of

  called : (w : Writing) → IsAt s w → w.folder ≡ codes "archive" → segment_name w.folder w.number ≡ V
  called w a folder = ap (λ f. segment_name f w.number) folder
      ∙ ap (segment_name (codes "archive")) (numbered w a)

  all_there : (w : Writing) → IsAt s w → w.folder ≡ codes "archive" → w.chunks ≡ chunks
      → (h : History) → IsFinished w h → HoldsChunks (sight h) (segment_of w) chunks
  all_there w a folder are h fin =
      let f = has_some (files_after h (segment_name w.folder w.number))
      (λ f. (f.bytes ≡ all_bytes w) × (f.synced ≡ length (all_bytes w))) fin in
      record {
        file = f.0;
        there = ap (λ n. (sight h).own (SegmentFile ArchiveFolder n)) (numbered w a)
            ∙ (segment_own h b.next free.count
            ∙ (ap (files_after h) (sym (called w a folder)) ∙ f.1));
        is = subst (λ l. IsSegmentOf chunk_limit l chunks) (sym f.2.0)
            (subst (λ l. IsSegmentOf chunk_limit (all_bytes w) l) are
            (subst (λ g. IsSegmentOf (most_in g) (all_bytes w) w.chunks) folder a.sound));
        synced = f.2.1 ∙ sym (ap length f.2.0);
        size = sym (ap length f.2.0);
      }

  finished : (r : Result (Unit {0}) JobFault) (w : Writing) → IsAt s w → w.folder ≡ codes "archive"
      → w.chunks ≡ chunks → IfErr r IsOfWrite → (h : History)
      → AtJob stamped (SameBut b.next v) h → HasEntered purpose w b after r h
      → Written stamped (with_new purpose chunks) v b after chunks r h
  finished (Ok value) w a folder are only h same fin = record {
    legal = same.legal;
    may_act = same.may_act;
    alive = λ runs. record {
      same = same.alive runs;
      segment = segment_of w;
      number = numbered w a;
      holds = all_there w a folder are h fin.0;
      book = fin.1 ∙ ap (λ l. with_new purpose l b (segment_of w)) are;
    };
  }
  finished (Err (Outside call)) w a folder are only h same fin = same.legal
  finished (Err (Damaged name place)) w a folder are only h same fin = absurd only
  finished (Err (Spent n)) w a folder are only h same fin = same
  finished (Err NoMemory) w a folder are only h same fin = same.legal

  still_holds : (h : History) (p : IsSoFar v chunks s (sight h)) → HoldsSegment p.w h
  still_holds h p =
      some_has (files_after h (segment_name p.w.folder p.w.number)) (λ f. f.bytes ≡ p.w.held) p.file
      (ap (files_after h) (called p.w p.at p.folder)
      ∙ (sym (segment_own h b.next free.count)
      ∙ (ap (λ n. (sight h).own (SegmentFile ArchiveFolder n)) (sym of) ∙ p.there))) p.held

  pub finish_so : IfErr r IsOfWrite
      → Adds old new (Leads (As stamped job) (AtJob stamped (IsSoFar v chunks s))
      (Written stamped (with_new purpose chunks) v b after chunks r))
  finish_so only =
      from_known stamped (WritesTo V) (no_write_starts V) (quiet_write V) (IsSoFar v chunks s)
      (Written stamped (with_new purpose chunks) v b after chunks r) own
      (λ h k runs.
      let p : IsSoFar v chunks s (sight h) = k.alive runs in
      let w : Writing = p.w in
      reach stamped h (λ h. AtJob stamped (SameBut b.next v) h × Unit {0} × HoldsSegment w h)
      (Written stamped (with_new purpose chunks) v b after chunks r)
      (leads_as (λ h k. k)
      (λ h z. finished r w p.at p.folder p.chunks_are only h z.0 z.2)
      (over_segment stamped v files b.next free (HoldsSegment w) (HasEntered purpose w b after r)
      (subst (λ n. Adds old new (Leads (anyhow (SparesFile n)) (HoldsSegment w) (HasEntered purpose w b after r)))
      (called w p.at p.folder) (raw w p.at)) own)) (
        record {
          legal = k.legal;
          may_act = k.may_act;
          alive = λ r. subst (λ n. SameBut n v (sight h)) of p.same;
        },
        tt,
        still_holds h p,
      ))
      (λ h z. written_bottom stamped (with_new purpose chunks) v b after chunks r h z)
