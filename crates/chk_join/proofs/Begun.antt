-- The beginning of a join.
use Rattle.std.proofs.Common.{◌≡◌, ℕ, false, true, List, ◌++◌, Option, Ok, Err, Result, refl, subst}
use Rattle.std.proofs.Common.{arith}
use Rattle.std.specs.Prelude.{codes}
use Rattle.std.proofs.lemmas.Bool.{and_from}
use Rattle.chk_bytes.proofs.WordLemmas.{plain_word}
use Rattle.chk_site.specs.declared.acts.OutsideFault.{OutsideFault}
use Rattle.chk_site.specs.declared.acts.OutsideFault.TheVariants.{Outside as site_failed}
use Rattle.chk_site.specs.declared.acts.OutsideFault.TheVariants.{NoMemory as no_memory}
use Rattle.chk_site.specs.Files.{File, IsSettled}
use Rattle.chk_site.specs.Acts.{Deed, touches}
use Rattle.chk_site.specs.History.{History, Every}
use Rattle.chk_site.specs.Site.{Adds}
use Rattle.chk_site.specs.Runs.{Leads, anyhow}
use Rattle.chk_site.proofs.Runs.{adds_as}
use Rattle.chk_site.proofs.Leads.{leads_as, owned_anyhow}
use Rattle.chk_replace.specs.Load.{Has}
use Rattle.chk_world.specs.Names.{JoinedFolder}
use Rattle.chk_world.specs.Places.{As}
use Rattle.chk_world.specs.Rules.{Legal}
use Rattle.chk_world.specs.Sight.{job}
use Rattle.chk_world.specs.JobSteps.{IsOf, ReadsFile, SparesFile}
use Rattle.chk_record_index.specs.Faults.{FailsLast, IsOfRead, job_fault}
use Rattle.chk_record_index.specs.Pieces.{AsksInPieces}
use Rattle.chk_record_index.specs.declared.fault.JobFault.{JobFault}
use Rattle.chk_record_index.specs.declared.fault.JobFault.TheVariants.{Outside, Damaged, Spent, NoMemory}
use Rattle.chk_book.specs.Folders.{is_folder, book_name}
use Rattle.chk_book.specs.Loaded.{LoadedBook, book_result}
use Rattle.chk_book.specs.declared.book.Book.{Book as Struct}
use Rattle.chk_record_reader.proofs.Frames.{stays_so}
use Rattle.chk_join.specs.Beginning.{HasStarted, HasBegun, Begins, begins_starting, begins_reading}
use Rattle.chk_join.specs.Working.{Worked, Starting, starts}
use Rattle.chk_join.proofs.BookLoads.{HasLoaded}
use Rattle.chk_archive_parts.proofs.Works.{works_as}
use Rattle.chk_book.proofs.Works.{worked}

abbrev pub joined_book : List ℕ
joined_book = book_name (codes "joined")

-- a start that was refused
pub begin_refused : (stamped : List (List ℕ)) (r : Result (Unit {0}) OutsideFault) (fault : OutsideFault) → r ≡ Err fault
    → {old new : Option History} → Adds old new (Leads (As stamped job) (Legal stamped) (HasStarted stamped r))
    → Adds old new (Leads (As stamped job) (Legal stamped) (HasBegun stamped (Err (job_fault fault))))
begin_refused stamped r fault e {old = old} {new = new} told =
    go fault (subst (λ (x : Result (Unit {0}) OutsideFault). Adds old new
    (Leads (As stamped job) (Legal stamped) (HasStarted stamped x))) e told)
  where
    go : (fault : OutsideFault) → Adds old new (Leads (As stamped job) (Legal stamped) (Legal stamped))
        → Adds old new (Leads (As stamped job) (Legal stamped) (HasBegun stamped (Err (job_fault fault))))
    go (site_failed call) t = t
    go no_memory t = t

-- the book that was loaded
pub begun_so : (stamped : List (List ℕ)) (r : Result Struct JobFault) {A : History → Type 0} {old new : Option History}
    → Adds old new (Leads (As stamped job) A (HasLoaded stamped (λ v. Unit {0}) JoinedFolder r))
    → Adds old new (Leads (As stamped job) A (HasBegun stamped (book_result r)))
begun_so stamped r told = leads_as (λ h k. k) (λ h k. go r h k) told
  where
    go : (r : Result Struct JobFault) (h : History) → HasLoaded stamped (λ v. Unit {0}) JoinedFolder r h
        → HasBegun stamped (book_result r) h
    go (Ok b) h k = record { legal = k.legal; may_act = k.may_act; alive = λ runs. (k.alive runs).1 }
    go (Err (Damaged name at)) h k = k
    go (Err (Outside call)) h k = k
    go (Err (Spent n)) h k = k
    go (Err NoMemory) h k = k

-- ---- files

quiet_start : (w : List ℕ) (call : Deed) → Starting call → touches call w ≡ false
quiet_start w call starts = refl

-- the start leaves the file
pub start_stays : (w : List ℕ) (file : Option File) → IsSettled file → {old new : Option History}
    → Adds old new (Every (IsOf Starting))
    → Adds old new (Leads (anyhow (SparesFile w)) (Has w file) (Has w file))
start_stays w file settled own =
    adds_as (Leads (anyhow (SparesFile w)) (Has w file) (Has w file)) own
    (λ added history made. record {
      leads = λ others has. stays_so Starting w file (quiet_start w) settled added history made others has;
      own = owned_anyhow added history;
    })

pub start_not_loaded : (file : Option File) (fault : OutsideFault) {P : History → History → Type 0}
    {A : History → Type 0} {old new : Option History} → Adds old new P
    → Adds old new (Leads (anyhow (SparesFile joined_book)) A
    (LoadedBook (codes "joined") file (Err (job_fault fault))))
start_not_loaded file fault {A = A} told =
    adds_as (Leads (anyhow (SparesFile joined_book)) A (LoadedBook (codes "joined") file (Err (job_fault fault)))) told
    (λ added history p. record { leads = λ others has. go fault (added ++ history); own = owned_anyhow added history })
  where
    go : (fault : OutsideFault) (h : History) → LoadedBook (codes "joined") file (Err (job_fault fault)) h
    go (site_failed call) h = tt
    go no_memory h = tt

-- ---- calls

pub start_begins : {T : Type 0} (r : Result T JobFault) {old new : Option History} → Adds old new (Worked Starting r)
    → Adds old new (Worked Begins r)
start_begins r told = works_as Starting Begins go r told
  where
    go : (call : Deed) → Starting call → Begins call
    go call starts = begins_starting

pub load_begins : {T : Type 0} (r : Result T JobFault) {old new : Option History} → Adds old new (Every (IsOf ReadsFile))
    → Adds old new (Every AsksInPieces) → Adds old new (FailsLast r) → Adds old new (Worked Begins r)
load_begins r own pieces last =
    works_as ReadsFile Begins (λ call k. begins_reading call k) r (worked ReadsFile r own pieces last)
