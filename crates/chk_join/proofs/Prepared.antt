-- What a join leads to before its publishing, in every legal history.
use Rattle.std.proofs.Common.{◌≡◌, inl, inr, ℕ, List, length, Option, Ok, Err, Result, ap, sym}
use Rattle.std.proofs.Common.{subst, ◌∙◌, if◌then◌else◌, None}
use Rattle.std.specs.Prelude.{IsTrue}
use Rattle.chk_bytes.specs.Stems.{is_count}
use Rattle.chk_site.specs.History.{History, Every, files_after}
use Rattle.chk_site.specs.Site.{Adds}
use Rattle.chk_site.specs.Runs.{Leads, anyhow}
use Rattle.chk_chunk.specs.Keys.{Chunk, chunk_limit}
use Rattle.chk_world.specs.Names.{JoinedFolder, SegmentFile, file}
use Rattle.chk_world.specs.Books.{Book, AllChunks, chunks_within}
use Rattle.chk_world.specs.Places.{As}
use Rattle.chk_world.specs.Sight.{job, sight, AtJob}
use Rattle.chk_world.specs.JobSteps.{IsOf, SparesFile}
use Rattle.chk_record_index.specs.declared.fault.JobFault.{JobFault}
use Rattle.chk_record_index.specs.declared.fault.JobFault.TheVariants.{Outside, Damaged, Spent, NoMemory}
use Rattle.chk_book.specs.Books.{book_view}
use Rattle.chk_book.specs.Folders.{segment_name}
use Rattle.chk_book.specs.Segmenting.{Writing, all_bytes, segment_of}
use Rattle.chk_join_sources.specs.Copying.{joined_segment}
use Rattle.chk_archive_parts.proofs.OneSegment.{has_some}
use Rattle.chk_join.specs.Beginning.{HasBook, HasBegun}
use Rattle.chk_join.specs.Runs.{IsWritten, IsAlone}
use Rattle.chk_join.specs.Preparing.{StandsReady, HoldsSegmentSo, HoldsAlone, PreparedLegal}
use Rattle.chk_join.specs.Working.{PreparesBy}
use Rattle.chk_join.specs.declared.preparing.Prepared.{Prepared}
use Rattle.chk_join.specs.declared.preparing.Prepared.TheVariants.{Ready, Differs}
use Rattle.chk_join.proofs.StepsKept.{segment_spelled, told_prepared}

-- what the job knows of a segment of `joined` is its file
segment_own : (history : History) (k : ℕ) → IsTrue (is_count k)
    → (sight history).own (SegmentFile JoinedFolder k) ≡ files_after history (joined_segment k)
segment_own history k count =
    ap (λ b. if b then file (files_after history) (SegmentFile JoinedFolder k) else None) count
    ∙ ap (files_after history) (sym (segment_spelled k))

module _ (stamped : List (List ℕ)) (next : ℕ) (count : IsTrue (is_count next)) (h : History) where
  segment_so : (cs : List Chunk) (w : Writing) → IsWritten next cs w h → HoldsSegmentSo (segment_of w) cs (sight h)
  segment_so cs w is =
      let n : IsTrue (is_count w.number) = subst (λ k. IsTrue (is_count k)) (sym is.number_is) count in
      let f = has_some (files_after h (segment_name w.folder w.number))
      (λ f. (f.bytes ≡ all_bytes w) × (f.synced ≡ length (all_bytes w))) is.finished in
      record {
        count = n;
        f = f.0;
        there = segment_own h w.number n ∙ (ap (λ t. files_after h (segment_name t w.number)) (sym is.folder_is) ∙ f.1);
        length_is = ap length f.2.0;
        synced_is = f.2.1;
        form = subst (AllChunks chunk_limit) (sym f.2.0) is.form.form;
        are = ap (chunks_within chunk_limit) f.2.0 ∙ (is.form.are ∙ is.chunks_are);
      }

  holds : (b : Book) (cs : List Chunk) → IsAlone next b.ends b cs h → HoldsAlone b cs (sight h)
  holds b cs (aside, inl k) = (aside, inl (k.1.0, k.1.1.0))
  holds b cs (aside, inr k) = (aside, inr (segment_of k.1.0, (k.1.1.0, segment_so cs k.1.0 k.1.1.1.1)))

  ready : (b : Book) (result : Result Prepared JobFault) → AtJob stamped (HasBook b) h → StandsReady next result h
      → PreparedLegal stamped result h
  ready b (Ok (Ready c r)) k x = record {
    legal = k.legal;
    may_act = k.may_act;
    alive = λ runs. (x.0, (x.1.0, holds (book_view c) x.0 x.1.1));
  }
  ready b (Ok (Differs d)) k x = k.legal
  ready b (Err fault) k x = k.legal

-- where the site was stopped before nothing more is claimed
bottom : (stamped : List (List ℕ)) (result : Result Prepared JobFault) (h : History) → AtJob stamped (λ v. ⊥) h
    → PreparedLegal stamped result h
bottom stamped (Ok (Ready c r)) h z =
    record { legal = z.legal; may_act = z.may_act; alive = λ runs. absurd (z.alive runs) }
bottom stamped (Ok (Differs d)) h z = z.legal
bottom stamped (Err fault) h z = z.legal

pub prepared_legal : (stamped : List (List ℕ)) (b : Book) (result : Result Prepared JobFault) {old new : Option History}
    → Adds old new (Every (IsOf (PreparesBy b)))
    → Adds old new (Leads (anyhow (SparesFile (joined_segment b.next))) (λ h. Unit {0}) (StandsReady b.next result))
    → Adds old new (Leads (As stamped job) (AtJob stamped (HasBook b)) (PreparedLegal stamped result))
prepared_legal stamped b result own stands =
    told_prepared stamped b (StandsReady b.next result) (PreparedLegal stamped result)
    (λ count h k x. ready stamped b.next count h b result k x) (bottom stamped result) own stands

-- the book of `joined` wasn't loaded
pub unprepared_legal : (stamped : List (List ℕ)) (fault : JobFault) (h : History)
    → HasBegun stamped (Err fault) h → PreparedLegal stamped (Err fault) h
unprepared_legal stamped (Outside call) h k = k
unprepared_legal stamped (Damaged name at) h k = k.legal
unprepared_legal stamped (Spent n) h k = k
unprepared_legal stamped NoMemory h k = k
