-- The load of a folder's book in a legal history.
use Rattle.std.proofs.Common.{◌≡◌, ℕ, List, Option, Ok, Err, Result, ap, sym, subst, ◌∙◌, refl}
use Rattle.chk_site.specs.declared.acts.OutsideFault.{OutsideFault}
use Rattle.chk_site.specs.declared.acts.OutsideFault.TheVariants.{Outside as site_failed, NoMemory as no_memory}
use Rattle.chk_record_index.specs.Faults.{FailsLast, job_fault}
use Rattle.chk_site.specs.Files.{File}
use Rattle.chk_site.specs.Effect.{IsSmallFile}
use Rattle.chk_site.specs.Acts.{Deed, Starts}
use Rattle.chk_site.specs.History.{History, Every, files_after}
use Rattle.chk_site.specs.Site.{Adds}
use Rattle.chk_site.specs.Runs.{Leads, anyhow}
use Rattle.chk_site.proofs.Leads.{leads_as}
use Rattle.chk_site.proofs.Small.{all_small}
use Rattle.chk_replace.specs.Load.{Has}
use Rattle.chk_world.specs.Names.{Folder, ArchiveFolder, DemuxFolder, BookFile, folder_text, spell}
use Rattle.chk_world.specs.Books.{book_in}
use Rattle.chk_world.specs.Laws.{IsWholeBook}
use Rattle.chk_world.specs.Committed.{OnFile}
use Rattle.chk_world.specs.Places.{As, AtTold}
use Rattle.chk_world.specs.Rules.{Legal}
use Rattle.chk_world.specs.Sight.{job, Sight, own_book, AtJob}
use Rattle.chk_world.specs.JobSteps.{IsOf, ReadsFile, reads, asks, SparesFile}
use Rattle.chk_world.proofs.Spares.{reads_own}
use Rattle.chk_world.proofs.SmallFiles.{readable}
use Rattle.chk_record_index.specs.declared.fault.JobFault.{JobFault}
use Rattle.chk_record_index.specs.declared.fault.JobFault.TheVariants.{Outside, Damaged, Spent, NoMemory}
use Rattle.chk_record_index.specs.Pieces.{AsksInPieces}
use Rattle.chk_book.specs.Books.{book_view}
use Rattle.chk_book.specs.Folders.{book_name}
use Rattle.chk_book.specs.Loaded.{LoadedBook, book_result}
use Rattle.chk_book.specs.declared.book.Book.{Book as Struct}
use Rattle.chk_archive_parts.proofs.FromKnown.{from_known, reach}
use Rattle.chk_demux.specs.Demuxed.{Earlier}
use Rattle.chk_demux.specs.Beginning.{HasRecords, HasStarted, HasBegun, Begins, only_reads}
use Rattle.chk_demux.specs.Working.{Worked}
use Rattle.chk_demux.specs.declared.beginning.Books.{Books}
use Rattle.chk_archive_parts.proofs.Published.{book_named}
use Rattle.chk_archive_parts.proofs.Works.{works_value, works_as}
use Rattle.chk_book.proofs.Works.{worked}
use Rattle.chk_world.proofs.LogEnds.{legal_modelled}
use Rattle.chk_archive_parts.proofs.Beginning.{undamaged, quiet_read}

-- at Ok the folder has this book, and the job knows what it knew; it is never damaged
abbrev pub HasLoaded : List (List ℕ) → (Sight → Type 0) → Folder → Result Struct JobFault → History → Type 0
HasLoaded stamped P f (Ok b) h = AtJob stamped (λ v. P v × (own_book v f ≡ book_view b)) h
HasLoaded stamped P f (Err (Damaged name at)) h = AtTold stamped job (λ h. ⊥) h
HasLoaded stamped P f (Err fault) h = Legal stamped h

no_start : ReadsFile Starts → ⊥
no_start k = go Starts refl k
  where
    go : (call : Deed) → call ≡ Starts → ReadsFile call → ⊥
    go call is (reads name at max) = absurd (cc)
    go call is (asks name) = absurd (cc)

bottom : (stamped : List (List ℕ)) (P : Sight → Type 0) (f : Folder) (r : Result Struct JobFault) (h : History)
    → AtJob stamped (λ u. ⊥) h → HasLoaded stamped P f r h
bottom stamped P f (Ok b) h z = record { legal = z.legal; may_act = z.may_act; alive = λ runs. absurd (z.alive runs) }
bottom stamped P f (Err (Damaged name at)) h z = record { legal = z.legal; may_act = z.may_act; alive = z.alive }
bottom stamped P f (Err (Outside call)) h z = z.legal
bottom stamped P f (Err (Spent n)) h z = z.legal
bottom stamped P f (Err NoMemory) h z = z.legal

module _ (stamped : List (List ℕ)) (P : Sight → Type 0) (f : Folder) (text : List ℕ) (is : text ≡ folder_text f)
    (r : Result Struct JobFault) {old new : Option History}
    (whole : (o : Option File) → IsSmallFile o → Adds old new
    (Leads (anyhow (SparesFile (book_name text))) (Has (book_name text) o) (LoadedBook text o (book_result r))))
    (own : Adds old new (Every (IsOf ReadsFile))) where
  ended : (r : Result Struct JobFault) (o : Option File) → OnFile o IsWholeBook → (h : History)
      → AtJob stamped (λ u. P u × (u.own (BookFile f) ≡ o)) h → LoadedBook text o (book_result r) h → HasLoaded stamped P f r h
  ended (Ok b) o sound h k l = record {
    legal = k.legal;
    may_act = k.may_act;
    alive = λ runs. ((k.alive runs).0, ap book_in (k.alive runs).1 ∙ sym l.1);
  }
  ended (Err (Damaged name at)) o sound h k l =
      record { legal = k.legal; may_act = k.may_act; alive = λ runs. undamaged o at sound l.1 }
  ended (Err (Outside call)) o sound h k l = k.legal
  ended (Err (Spent n)) o sound h k l = k.legal
  ended (Err NoMemory) o sound h k l = k.legal

  pub book_loaded : Adds old new (Leads (As stamped job) (AtJob stamped P) (HasLoaded stamped P f r))
  book_loaded =
      from_known stamped ReadsFile no_start quiet_read P (HasLoaded stamped P f r) own
      (λ h k runs.
      let o : Option File = files_after h (spell (BookFile f)) in
      let Q : Sight → Type 0 = λ u. P u × (u.own (BookFile f) ≡ o) in
      let name : book_name text ≡ spell (BookFile f) = book_named f text is in
      let small : IsSmallFile o = (all_small h (legal_modelled stamped h k.legal)).files (spell (BookFile f)) in
      reach stamped h (λ h. AtJob stamped Q h × Unit {0} × Has (spell (BookFile f)) o h) (HasLoaded stamped P f r)
      (leads_as (λ g j. j) (λ g z. ended r o ((readable stamped h k.legal).books f) g z.0 z.2)
      (reads_own stamped Q (BookFile f) (record { own = refl; known = refl })
      (Has (spell (BookFile f)) o) (LoadedBook text o (book_result r))
      (subst (λ n. Adds old new (Leads (anyhow (SparesFile n)) (Has n o) (LoadedBook text o (book_result r)))) name (whole o small))
      own))
      (record { legal = k.legal; may_act = k.may_act; alive = λ runs. (k.alive runs, refl) }, tt, refl))
      (λ h z. bottom stamped P f r h z)

-- a start that was refused
pub begin_refused : (stamped : List (List ℕ)) (before : Earlier) (r : Result (Unit {0}) OutsideFault) (fault : OutsideFault)
    → r ≡ Err fault → {A : History → Type 0} {old new : Option History}
    → Adds old new (Leads (As stamped job) A (HasStarted stamped before r))
    → Adds old new (Leads (As stamped job) A (HasBegun stamped before (Err (job_fault fault))))
begin_refused stamped before r fault e {A = A} {old = old} {new = new} told =
    go fault (subst (λ (x : Result (Unit {0}) OutsideFault). Adds old new (Leads (As stamped job) A (HasStarted stamped before x))) e told)
  where
    go : (fault : OutsideFault) → Adds old new (Leads (As stamped job) A (Legal stamped))
        → Adds old new (Leads (As stamped job) A (HasBegun stamped before (Err (job_fault fault))))
    go (site_failed call) t = t
    go no_memory t = t

-- and a book that wasn't loaded
pub load_refused : (stamped : List (List ℕ)) (before : Earlier) (P : Sight → Type 0) (f : Folder) (r : Result Struct JobFault)
    (fault : JobFault) → r ≡ Err fault → {A : History → Type 0} {old new : Option History}
    → Adds old new (Leads (As stamped job) A (HasLoaded stamped P f r))
    → Adds old new (Leads (As stamped job) A (HasBegun stamped before (Err fault)))
load_refused stamped before P f r fault e {A = A} {old = old} {new = new} told =
    leads_as (λ h k. k) (λ h k. go fault h (subst (λ (x : Result Struct JobFault). HasLoaded stamped P f x h) e k)) told
  where
    go : (fault : JobFault) (h : History) → HasLoaded stamped P f (Err fault) h → HasBegun stamped before (Err fault) h
    go (Outside call) h k = k
    go (Damaged name at) h k = k
    go (Spent n) h k = k
    go NoMemory h k = k

-- one that was
pub load_done : (stamped : List (List ℕ)) (P : Sight → Type 0) (f : Folder) (r : Result Struct JobFault)
    (b : Struct) → r ≡ Ok b → {A : History → Type 0} {old new : Option History}
    → Adds old new (Leads (As stamped job) A (HasLoaded stamped P f r))
    → Adds old new (Leads (As stamped job) A (AtJob stamped (λ v. P v × (own_book v f ≡ book_view b))))
load_done stamped P f r b e told =
    leads_as (λ h k. k) (λ h k. subst (λ (x : Result Struct JobFault). HasLoaded stamped P f x h) e k) told

-- and both
pub both_loaded : (stamped : List (List ℕ)) (before : Earlier) (a d : Struct) {A : History → Type 0} {old new : Option History}
    → Adds old new (Leads (As stamped job) A (AtJob stamped
    (λ v. (HasRecords before v × (own_book v ArchiveFolder ≡ book_view a)) × (own_book v DemuxFolder ≡ book_view d))))
    → Adds old new (Leads (As stamped job) A (HasBegun stamped before (Ok (record { archive = a; demux = d }))))
both_loaded stamped before a d told =
    leads_as (λ h k. k)
    (λ h k. record {
      legal = k.legal;
      may_act = k.may_act;
      alive = λ runs. record { records = (k.alive runs).0.0; archive = (k.alive runs).0.1; demux = (k.alive runs).1 };
    }) told

-- the load's calls are of a beginning
pub loads : (r : Result Struct JobFault) {old new : Option History} → Adds old new (Every (IsOf ReadsFile))
    → Adds old new (Every AsksInPieces) → Adds old new (FailsLast r) → Adds old new (Worked Begins r)
loads r own pieces last =
    works_as ReadsFile Begins (λ call k. only_reads call k) r (worked ReadsFile r own pieces last)

pub loads_done : (r : Result Struct JobFault) (a d : Struct) → r ≡ Ok d → {old new : Option History}
    → Adds old new (Worked Begins r) → Adds old new (Worked {T = Books} Begins (Ok (record { archive = a; demux = d })))
loads_done r a d e {old} {new} told =
    works_value Struct Books Begins d (record { archive = a; demux = d })
    (subst (λ (x : Result Struct JobFault). Adds old new (Worked Begins x)) e told)
