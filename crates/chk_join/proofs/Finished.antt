-- What stands behind a join.
use Rattle.std.proofs.Common.{◌≡◌, inl, inr, ℕ, false, List, ◌∷◌, ◌++◌, length, map, Some, refl, ap}
use Rattle.std.proofs.Common.{sym, subst, ◌∙◌, bytes_eq, append-nil}
use Rattle.std.specs.Prelude.{codes, unwrap_or}
use Rattle.std.proofs.lemmas.Bool.{or_from}
use Rattle.chk_site.specs.Files.{Files}
use Rattle.chk_site.specs.Acts.{Deed, touches}
use Rattle.chk_site.specs.History.{History, Every, Others, files_after}
use Rattle.chk_replace.specs.Replace.{tmp}
use Rattle.chk_chunk.specs.Keys.{Stream, Chunk, chunk_limit}
use Rattle.chk_world.specs.Books.{Segment, End, Book, book_in, empty_book, chunks_within}
use Rattle.chk_world.specs.Books.{chunks_of_stream}
use Rattle.chk_world.specs.JobSteps.{IsOf, removes, creates, appends, syncs}
use Rattle.chk_record_index.specs.Pieces.{bytes_in}
use Rattle.chk_book.specs.Folders.{segment_name, segment_stem}
use Rattle.chk_book.specs.Segmenting.{all_bytes, segment_of}
use Rattle.chk_record_reader.specs.Segments.{chunks_in_files}
use Rattle.chk_record_reader.proofs.Frames.{stays_so}
use Rattle.chk_archive_parts.specs.Publishing.{ReplacesBookOf, writes_book, names_book}
use Rattle.chk_archive_parts.proofs.OneSegment.{has_some, some_has}
use Rattle.chk_join_sources.specs.Copying.{joined_segment}
use Rattle.chk_join.specs.Archives.{join, Agree}
use Rattle.chk_join.specs.Runs.{IsAlone, AreRuns, bytes_of}
use Rattle.chk_join.specs.Joined.{joined_folder, folder_book, archive_with, archive_by, archive_in}
use Rattle.chk_join.specs.Joined.{records_of_book, records_in, AreJoined, of_joined, LeavesFolders}
use Rattle.chk_join.specs.Joined.{NamesAlone, JoinDone}
use Rattle.chk_join.specs.Publishing.{HasNewBook}
use Rattle.chk_join.specs.declared.report.JoinReport.{JoinReport}
use Rattle.chk_join.proofs.Begun.{joined_book}
use Rattle.chk_join.proofs.Apart.{apart_named}
use Rattle.chk_join.proofs.Whole.{one_spared}

-- ---- the new book names what was written

module _ (b : Book) (h : History) (new : HasNewBook b h) where
  pub book_now : folder_book (files_after h) joined_folder ≡ b
  book_now = ap book_in new.1.0 ∙ ap (λ o. unwrap_or o empty_book) new.1.1

  -- the segments' chunks
  records_now : (next : ℕ) (cs : List Chunk) → IsAlone next b.ends b cs h → records_of_book joined_folder b (files_after h) ≡ cs
  records_now next cs (beside, inl k) =
      ap (λ gs. chunks_in_files chunk_limit (files_after h) (map (λ (g : Segment). segment_name joined_folder g.number) gs)) k.1.0
      ∙ sym k.1.1.0
  records_now next cs (beside, inr k) =
      let w = k.1.0 in
      let is = k.1.1.1.1 in
      let f = has_some (files_after h (segment_name w.folder w.number))
      (λ f. (f.bytes ≡ all_bytes w) × (f.synced ≡ length (all_bytes w))) is.finished in
      ap (λ gs. chunks_in_files chunk_limit (files_after h) (map (λ (g : Segment). segment_name joined_folder g.number) gs)) k.1.1.0
      ∙ (append-nil (chunks_within chunk_limit (bytes_in (files_after h (segment_name joined_folder w.number))))
      ∙ (ap (λ v. chunks_within chunk_limit (bytes_in (files_after h (segment_name v w.number)))) (sym is.folder_is)
      ∙ (ap (λ o. chunks_within chunk_limit (bytes_in o)) f.1
      ∙ (ap (chunks_within chunk_limit) f.2.0 ∙ (is.form.are ∙ is.chunks_are)))))

  alone_now : (next : ℕ) (cs : List Chunk) → IsAlone next b.ends b cs h → NamesAlone next b
  alone_now next cs (beside, inl k) = (beside, inl (k.1.0, k.1.1.1))
  alone_now next cs (beside, inr k) =
      (beside, inr (segment_of k.1.0, (k.1.1.0, (k.1.1.1.1.number_is, k.1.1.1.0))))

  -- so the archive of `joined` is theirs
  pub join_done : (files : Files) (left right : List ℕ) (next : ℕ) (cs : List Chunk) (report : JoinReport)
      → next ≡ (folder_book files joined_folder).next → Agree (archive_in files left) (archive_in files right) → IsAlone next b.ends b cs h
      → ((s : Stream) → archive_with b cs s ≡ join (archive_in files left) (archive_in files right) s)
      → report.bytes ≡ bytes_of cs → report.streams ≡ length b.ends
      → AreJoined (archive_in files left) (archive_in files right) (records_in files left)
      (records_in files right) cs
      → AreRuns b.ends cs → JoinDone files left right report h
  join_done files left right next cs report old agree alone is bytes streams records runs = record {
    file = new.0;
    there = new.1.0;
    book = new.1.1 ∙ ap (λ (c : Book). Some c) (sym book_now);
    alone = subst (λ n. NamesAlone n (folder_book (files_after h) joined_folder)) old
        (subst (NamesAlone next) (sym book_now) (alone_now next cs alone));
    agree = agree;
    is = λ s.
        ap (λ (c : Book). archive_by joined_folder c (files_after h) s) book_now
        ∙ (ap (λ l. archive_with b l s) (records_now next cs alone) ∙ is s);
    records = λ s. ap (chunks_of_stream s) now ∙ records s;
    order = subst (λ (c : Book). AreRuns c.ends (records_of_book joined_folder c (files_after h)))
        (sym book_now)
        (subst (AreRuns b.ends) (sym (records_now next cs alone)) runs);
    streams = streams ∙ ap (λ (c : Book). length c.ends) (sym book_now);
    bytes = bytes
        ∙ (ap bytes_of (sym (records_now next cs alone))
        ∙ ap (λ (c : Book). bytes_of (records_of_book joined_folder c (files_after h))) (sym book_now));
  }
    where
      now : records_in (files_after h) joined_folder ≡ cs
      now = ap (λ (c : Book). records_of_book joined_folder c (files_after h)) book_now
          ∙ records_now next cs alone

-- ---- the publishing leaves the segments

pub quiet_segment : (n : ℕ) (call : Deed) → ReplacesBookOf joined_folder call → touches call (joined_segment n) ≡ false
quiet_segment n call (writes_book c removes) = refl
quiet_segment n call (writes_book c creates) = refl
quiet_segment n call (writes_book c (appends piece)) = refl
quiet_segment n call (writes_book c syncs) = refl
quiet_segment n call names_book = refl

-- and the files of other folders
pub quiet_other : (folder x : List ℕ) → bytes_eq folder joined_folder ≡ false → (call : Deed)
    → ReplacesBookOf joined_folder call → touches call (folder ++ 47 ∷ x) ≡ false
quiet_other folder x other call (writes_book c removes) = apart_named folder x (codes "book.tmp") refl other
quiet_other folder x other call (writes_book c creates) = apart_named folder x (codes "book.tmp") refl other
quiet_other folder x other call (writes_book c (appends piece)) = apart_named folder x (codes "book.tmp") refl other
quiet_other folder x other call (writes_book c syncs) = apart_named folder x (codes "book.tmp") refl other
quiet_other folder x other call names_book =
    or_from (bytes_eq (folder ++ 47 ∷ x) joined_book) (bytes_eq (folder ++ 47 ∷ x) (tmp joined_book))
    (apart_named folder x (codes "book") refl other) (apart_named folder x (codes "book.tmp") refl other)

-- what stands of the written segment stays
pub alone_stays : (left right : List ℕ) (next : ℕ) (es : List End) (b : Book) (cs : List Chunk) (added history : History)
    → Every (IsOf (ReplacesBookOf joined_folder)) added history → Others (LeavesFolders left right) added history
    → IsAlone next es b cs history → IsAlone next es b cs (added ++ history)
alone_stays left right next es b cs added history made others (beside, inl k) = (beside, inl k)
alone_stays left right next es b cs added history made others (beside, inr k) =
    let w = k.1.0 in
    let is = k.1.1.1.1 in
    let name = segment_name w.folder w.number in
    let f = has_some (files_after history name)
    (λ f. (f.bytes ≡ all_bytes w) × (f.synced ≡ length (all_bytes w))) is.finished in
    let same : name ≡ joined_segment w.number = ap (λ v. segment_name v w.number) is.folder_is in
    let there : files_after history (joined_segment w.number) ≡ Some f.0 = ap (files_after history) (sym same) ∙ f.1 in
    let stays : files_after (added ++ history) (joined_segment w.number) ≡ Some f.0 =
    stays_so (ReplacesBookOf joined_folder) (joined_segment w.number) (Some f.0) (quiet_segment w.number)
    (f.2.1 ∙ sym (ap length f.2.0)) added history made
    (one_spared (ReplacesBookOf joined_folder) left right (joined_segment w.number) (of_joined (segment_stem w.number))
    added history made others) there in (
      beside,
      inr (
        k.0,
        (
          w,
          (
            k.1.1.0,
            (
              k.1.1.1.0,
              record {
                folder_is = is.folder_is;
                number_is = is.number_is;
                chunks_are = is.chunks_are;
                form = is.form;
                finished = some_has (files_after (added ++ history) name)
                    (λ f. (f.bytes ≡ all_bytes w) × (f.synced ≡ length (all_bytes w))) f.0
                    (ap (files_after (added ++ history)) same ∙ stays) f.2;
              },
            ),
          ),
        ),
      ),
    )
