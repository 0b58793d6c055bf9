-- What the publishing of the joined archive's book leaves.
use Rattle.std.specs.Prelude.{◌≡◌, ◌⊎◌, ℕ, List, Some, Option, Result, Ok, Err, codes}
use Rattle.chk_site.specs.Files.{File}
use Rattle.chk_site.specs.History.{History, Every}
use Rattle.chk_replace.specs.Load.{Has}
use Rattle.chk_chunk.specs.Keys.{Chunk}
use Rattle.chk_world.specs.Books.{Book, read_book}
use Rattle.chk_world.specs.Rules.{Legal}
use Rattle.chk_world.specs.Sight.{Sight, AtJob}
use Rattle.chk_record_index.specs.declared.fault.JobFault.{JobFault}
use Rattle.chk_book.specs.Folders.{book_name}
use Rattle.chk_site.specs.Acts.{Deed}
use Rattle.chk_world.specs.JobSteps.{IsOf}
use Rattle.chk_record_index.specs.Pieces.{AsksInPieces}
use Rattle.chk_record_index.specs.declared.fault.JobFault.TheVariants.{Outside}
use Rattle.chk_join_sources.specs.declared.difference.Difference.{Difference}
use Rattle.chk_join.specs.declared.report.JoinReport.{JoinReport}
use Rattle.chk_join.specs.declared.fault.JoinFault.{JoinFault}
use Rattle.chk_join.specs.declared.fault.JoinFault.TheVariants.{Job, Differ, NoMemory}
use Rattle.chk_join.specs.Faults.{JoinFailsLast}
use Rattle.chk_join.specs.Runs.{AreRuns}
use Rattle.chk_join.specs.Preparing.{HoldsAlone}

-- by what the job knows, the segment that the book names has records that run as it says
abbrev pub HoldsBook : Book → Sight → Type 0
HoldsBook b v = (cs : List Chunk) × (AreRuns b.ends cs × HoldsAlone b cs v)

-- the file of the joined archive's book holds this one
abbrev pub HasNewBook : Book → History → Type 0
HasNewBook b history =
    (f : File) × (Has (book_name (codes "joined")) (Some f) history × (read_book f.bytes ≡ Some b))

-- the history is legal, and at Ok the job may act where the site wasn't stopped
abbrev pub EndsLegally : {T F : Type 0} → List (List ℕ) → Result T F → History → Type 0
EndsLegally stamped (Ok value) history = AtJob stamped (λ v. Unit {0}) history
EndsLegally stamped (Err fault) history = Legal stamped history

-- at Ok it does; else it does, or the file is the old one
abbrev pub PublishedSo : Option File → Book → Result (Unit {0}) JobFault → History → Type 0
PublishedSo old b (Ok value) history = HasNewBook b history
PublishedSo old b (Err fault) history = Has (book_name (codes "joined")) old history ⊎ HasNewBook b history

-- ---- the same of a join

-- at Ok the report is this one, and the book is published
abbrev pub FinishedSo : Option File → Book → JoinReport → Result JoinReport JoinFault → History → Type 0
FinishedSo old b report (Ok r) history = (r ≡ report) × HasNewBook b history
FinishedSo old b report (Err fault) history = Has (book_name (codes "joined")) old history ⊎ HasNewBook b history

-- a call failed, or there was no memory
abbrev pub IsFinishFault : JoinFault → Type 0
IsFinishFault (Job (Outside call)) = Unit {0}
IsFinishFault (Job fault) = ⊥
IsFinishFault (Differ source kind name at) = ⊥
IsFinishFault NoMemory = Unit {0}

-- its own calls are of this kind and ask for pieces; one that failed is the last one
pub record WorkedSo {T : Type 0} (K : Deed → Type 0) (r : Result T JoinFault) (added history : History) : Type 0 where
  pub own : Every (IsOf K) added history
  pub pieces : Every AsksInPieces added history
  pub last : JoinFailsLast r added history

abbrev pub differ_fault : Difference → JoinFault
differ_fault d = Differ d.source d.kind d.name d.at
