-- The start of the job leaves the archive's book.
use Rattle.std.proofs.Common.{◌≡◌, ℕ, inl, inr, Bool, true, false, List, ◌∷◌, Option, Ok, Err, Result, ap, sym, ◌∙◌, refl, true≢false}
use Rattle.std.specs.Prelude.{MatchResult}
use Rattle.chk_site.specs.declared.acts.OutsideFault.{OutsideFault}
use Rattle.chk_site.specs.declared.acts.CallFault.{CallFault}
use Rattle.chk_site.specs.declared.acts.ActAnswer.{ActAnswer}
use Rattle.chk_site.specs.Acts.{is_done}
use Rattle.chk_site.specs.History.{Step, History, Every, files_after}
use Rattle.chk_site.specs.Site.{Adds, own_step, answered, plain, WasDone, IsDone, Calls, Ends}
use Rattle.chk_site.specs.Runs.{Leads}
use Rattle.chk_site.proofs.Runs.{adds_as, adds_both}
use Rattle.chk_site.proofs.Leads.{Shows, leads_as, done_leads, ends_leads}
use Rattle.chk_replace.proofs.CallSteps.{OfOwn, call_each}
use Rattle.chk_world.specs.Names.{ArchiveFolder, BookFile, file}
use Rattle.chk_world.specs.Books.{Book, book_of, book_in}
use Rattle.chk_world.specs.Places.{As, Foreign}
use Rattle.chk_world.specs.Rules.{Legal}
use Rattle.chk_world.specs.Sight.{job, AtJob}
use Rattle.chk_record_index.specs.Pieces.{AsksInPieces}
use Rattle.chk_world.specs.JobSteps.{IsOf}
use Rattle.chk_world.proofs.Frames.{files_stay}
use Rattle.chk_world.proofs.OwnFiles.{done_file, refused_file}
use Rattle.chk_world.proofs.ToldCalls.{owned, told_start}
use Rattle.chk_archive.specs.Archived.{Begun}
use Rattle.chk_archive.specs.Beginning.{HasStartedSo, Begins, starts}
use Rattle.chk_archive.specs.Tidying.{HasBook}
use Rattle.chk_archive_parts.proofs.Beginning.{no_read, StartQ}

module _ (stamped : List (List ℕ)) (loaded : Book) where
  -- others leave it
  keeps : (before : History) (step : Step) → Begun stamped loaded before →
      (f : Foreign stamped job before step)
      → Begun stamped loaded (step ∷ before)
  keeps before step h f = (
    (h.0, f.obeys),
    ap book_in (files_stay stamped job before step (BookFile ArchiveFolder) f
        (record { own = refl; known = refl })) ∙ h.1,
  )

  book_stays : (answer : ActAnswer) → WasDone answer
      → Shows (Begun stamped loaded) (λ h. book_of (files_after h) ArchiveFolder
      ≡ loaded) StartQ answer
  book_stays answer was before files logs running honest h = ap book_in (same (is_done answer) refl)
      ∙ h.1
    where
      step : Step
      step = own_step StartQ answer files logs

      same : (b : Bool) → is_done answer ≡ b
          → file files (BookFile ArchiveFolder) ≡ file (files_after before) (BookFile ArchiveFolder)
      same true e = done_file before step (BookFile ArchiveFolder) honest e refl
      same false e = refused_file before step (BookFile ArchiveFolder) honest was e

  pub started : (given : Result (Unit {0}) CallFault) {old new : Option History} → IsDone given
      → Adds old new (Calls StartQ (answered plain given))
      → Adds old new (Leads (As stamped job) (Begun stamped loaded)
      (AtJob stamped (HasBook loaded)))
  started given is told =
      adds_both (Leads (As stamped job) (Begun stamped loaded) (AtJob stamped (HasBook loaded)))
      (told_start stamped job (λ h. Unit {0}) given refl
      (λ before answer files logs was legal. tt) is told)
      (done_leads {S = As stamped job} {B = λ h. book_of (files_after h) ArchiveFolder
      ≡ loaded} given (owned stamped StartQ refl) is
      (λ before step theirs f h. keeps before step h f) book_stays told)
      (λ added history x y. record {
        leads = λ others h.
            let z = x.leads others h.0 in
            record { legal = z.legal; may_act = z.may_act; alive = λ runs. y.leads others h };
        own = x.own;
      })

  pub not_started : (given : Result (Unit {0}) CallFault)
      (fault : OutsideFault) {old new : Option History}
      → Ends StartQ.call given fault → Adds old new (Calls StartQ (answered plain given))
      → Adds old new (Leads (As stamped job) (Begun stamped loaded) (Legal stamped))
  not_started given fault ends told =
      leads_as (λ h k. k.0) (λ h k. k)
      (ends_leads (λ f. Legal stamped) plain given fault (owned stamped StartQ refl) ends
      (λ before step theirs f h. (h, f.obeys))
      (λ before files logs running honest h. (
        h,
        record { honest = honest; named = refl; starts = tt; own_files = tt; logs = tt; requests = tt; rule = (refl, tt) },
      ))
      (λ left before files logs running honest h. (
        h,
        record { honest = honest; named = refl; starts = tt; own_files = tt; logs = tt; requests = tt; rule = (refl, tt) },
      ))
      (λ before stopped h. h) (λ before h. h) told)

start_is : OfOwn (IsOf Begins) StartQ
start_is before answer files logs running honest =
    inr (record { own = refl; running = running; honest = honest; by = refl }, starts)

pub start_works : (given : Result (Unit {0}) CallFault) {old new : Option History}
    → Adds old new (Calls StartQ (answered plain given)) → Adds old new (Every (IsOf Begins))
start_works given told =
    adds_as (Every (IsOf Begins)) told
    (λ added history calls. call_each (IsOf Begins) (answered plain given)
    (λ before step theirs. inl theirs) start_is calls)

-- by the call's result
pub start_so : (stamped : List (List ℕ)) (loaded : Book) (r : Result (Unit {0}) OutsideFault)
    (given : Result (Unit {0}) CallFault)
    {old new : Option History} → MatchResult r (λ _. IsDone given)
    (λ fault. Ends StartQ.call given fault)
    → Adds old new (Calls StartQ (answered plain given))
    → Adds old new (Leads (As stamped job) (Begun stamped loaded) (HasStartedSo stamped loaded r))
start_so stamped loaded (Ok value) given is told = started stamped loaded given is told
start_so stamped loaded
    (Err fault) given ends told = not_started stamped loaded given fault ends told

pub start_pieces : (given : Result (Unit {0}) CallFault) {old new : Option History}
    → Adds old new (Calls StartQ (answered plain given)) → Adds old new (Every AsksInPieces)
start_pieces given told =
    adds_as (Every AsksInPieces) told
    (λ added history calls. call_each AsksInPieces (answered plain given)
    (λ before step theirs mine name at max is. absurd (true≢false (sym mine ∙ theirs.0)))
    (λ before answer files logs running honest mine name at max is. absurd (no_read name at max is)) calls)
