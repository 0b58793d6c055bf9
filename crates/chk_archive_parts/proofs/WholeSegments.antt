-- A segment is begun, written and finished.
use Rattle.std.proofs.Common.{◌≡◌, ◌∙◌, ℕ, List, [], Option, Ok, Err, Result, ap, sym, subst, refl, Bool, true, false, true≢false, arith}
use Rattle.std.specs.Prelude.{codes, IfErr}
use Rattle.std.proofs.lemmas.Bool.{and_from}
use Rattle.chk_site.specs.History.{History, Every}
use Rattle.chk_site.specs.Site.{Adds}
use Rattle.chk_site.specs.Runs.{Leads, anyhow}
use Rattle.chk_site.proofs.Leads.{leads_as, leads_then}
use Rattle.chk_chunk.specs.Keys.{Chunk}
use Rattle.chk_world.specs.Books.{Book, Segment}
use Rattle.chk_world.specs.Places.{As}
use Rattle.chk_world.specs.Sight.{job, Sight, AtJob}
use Rattle.chk_world.specs.JobSteps.{IsOf, WritesTo, SparesFile}
use Rattle.chk_record_index.specs.Faults.{IsOfRead, IsOfWrite}
use Rattle.chk_record_index.specs.declared.fault.JobFault.{JobFault}
use Rattle.chk_record_index.specs.declared.fault.JobFault.TheVariants.{Outside, Damaged, Spent, NoMemory}
use Rattle.chk_bytes.proofs.WordLemmas.{plain_word}
use Rattle.chk_book.specs.Folders.{is_folder, segment_name}
use Rattle.chk_book.specs.Segmenting.{Writing, HoldsSegment, begun}
use Rattle.chk_book.specs.Written.{IsAt, HasEnded, HasEndedAside}
use Rattle.chk_book.specs.declared.segmenter.Segmenter.{Segmenter}
use Rattle.chk_archive_parts.specs.Writes.{IsFree, IsForArchive, IsSoFar, PutSo, with_new, HasEntered, Written}
use Rattle.chk_archive_parts.specs.declared.writing.Purpose.{Purpose}
use Rattle.chk_archive_parts.specs.declared.writing.Purpose.TheVariants.{Parts, Aside}
use Rattle.chk_archive_parts.proofs.OneFile.{Knows}
use Rattle.chk_archive_parts.proofs.OneSegment.{finish_so}

-- the archive's folder can be named
pub archive_folder : is_folder (codes "archive") ≡ true
archive_folder = and_from _ _ (plain_word (codes "archive") refl (omega arith) (omega arith)) refl

-- what is for the aside segment is of no part
pub aside_is_other : (p : Purpose) → p ≡ Aside → p ≡ Parts → ⊥
aside_is_other p other is = true≢false (ap is_parts (sym is ∙ other))
  where
    is_parts : Purpose → Bool
    is_parts Parts = true
    is_parts Aside = false

pub begun_for : (s : Segmenter) (n : ℕ) → IsAt s (begun (codes "archive") n) → IsForArchive s
begun_for s n at = record { w = begun (codes "archive") n; at = at; folder = refl }

-- what was begun couldn't be written
pub write_fails : (stamped : List (List ℕ)) (v : Sight) (enter : Book → Segment → Book) (b after : Book)
    (s t : Segmenter) (chunks : List Chunk) (result : Result (Unit {0}) JobFault) (fault : JobFault)
    → result ≡ Err fault → IsOfRead fault → {old mid new : Option History}
    → Adds old mid (Leads (As stamped job) (Knows stamped v) (AtJob stamped (IsSoFar v [] s)))
    → Adds mid new (Leads (As stamped job) (AtJob stamped (IsSoFar v [] s)) (PutSo stamped v chunks t result))
    → Adds old new (Leads (As stamped job) (Knows stamped v) (Written stamped enter v b after chunks (Err fault)))
write_fails stamped v enter b after s t chunks result fault e only first told =
    leads_then first
    (leads_as (λ h k. k) (λ h k. go fault only h (subst (λ r. PutSo stamped v chunks t r h) e k)) told)
  where
    go : (fault : JobFault) → IsOfRead fault → (h : History) → PutSo stamped v chunks t (Err fault) h
        → Written stamped enter v b after chunks (Err fault) h
    go (Outside call) only h k = k
    go (Damaged name at) only h k = k
    go (Spent n) only h k = absurd only
    go NoMemory only h k = k

-- it was written
pub all_written : (stamped : List (List ℕ)) (v : Sight) (s t : Segmenter) (chunks : List Chunk)
    (result : Result (Unit {0}) JobFault) (value : Unit {0}) → result ≡ Ok value → {old mid new : Option History}
    → Adds old mid (Leads (As stamped job) (Knows stamped v) (AtJob stamped (IsSoFar v [] s)))
    → Adds mid new (Leads (As stamped job) (AtJob stamped (IsSoFar v [] s)) (PutSo stamped v chunks t result))
    → Adds old new (Leads (As stamped job) (Knows stamped v) (AtJob stamped (IsSoFar v chunks t)))
all_written stamped v s t chunks result value e first told =
    leads_then first
    (leads_as (λ h k. k) (λ h k. subst (λ r. PutSo stamped v chunks t r h) e k) told)

-- and is entered
module _ (stamped : List (List ℕ)) (v : Sight) (files : List (List ℕ)) (s : Segmenter) (b after : Book)
    (of : s.number ≡ b.next) (free : IsFree v files b.next) (chunks : List Chunk) (purpose : Purpose)
    (r : Result (Unit {0}) JobFault) (only : IfErr r IsOfWrite) {old mid new : Option History}
    (so_far : Adds old mid (Leads (As stamped job) (Knows stamped v) (AtJob stamped (IsSoFar v chunks s))))
    (own : Adds mid new (Every (IsOf (WritesTo (segment_name (codes "archive") s.number))))) where
  pub entered : ((w : Writing) → IsAt s w → Adds mid new
      (Leads (anyhow (SparesFile (segment_name w.folder w.number))) (HoldsSegment w) (HasEntered purpose w b after r)))
      → Adds old new (Leads (As stamped job) (Knows stamped v) (Written stamped (with_new purpose chunks) v b after chunks r))
  entered raw =
      leads_then so_far
      (finish_so stamped v files s b after of free chunks purpose r raw
      (subst (λ n. Adds mid new (Every (IsOf (WritesTo (segment_name (codes "archive") n))))) of own) only)

-- what the book's two calls leave
pub for_parts : (r : Result (Unit {0}) JobFault) (w : Writing) (b after : Book) (h : History) → HasEnded w b after r h
    → HasEntered Parts w b after r h
for_parts (Ok value) w b after h k = k
for_parts (Err fault) w b after h k = k

pub for_aside : (r : Result (Unit {0}) JobFault) (w : Writing) (b after : Book) (h : History) → HasEndedAside w b after r h
    → HasEntered Aside w b after r h
for_aside (Ok value) w b after h k = k
for_aside (Err fault) w b after h k = k
