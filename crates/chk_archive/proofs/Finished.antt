-- What was taken, and then the removal of the listed done sinks, make the run.
use Rattle.std.proofs.Common.{◌≡◌, ℕ, false, List, Option, Ok, Err, Result, subst, refl}
use Rattle.chk_site.specs.declared.acts.OutsideFault.{OutsideFault}
use Rattle.chk_site.specs.declared.acts.OutsideFault.TheVariants.{Outside as site_failed, NoMemory as no_memory}
use Rattle.chk_site.specs.Acts.{Deed, Starts, Reads}
use Rattle.chk_site.specs.Files.{File}
use Rattle.chk_site.specs.History.{History, Every}
use Rattle.chk_site.specs.Site.{Adds}
use Rattle.chk_site.specs.Runs.{Leads}
use Rattle.chk_site.proofs.Leads.{leads_as, leads_then}
use Rattle.chk_world.specs.Names.{Name}
use Rattle.chk_world.specs.Books.{Book}
use Rattle.chk_world.specs.ArchiveRuns.{last_listing}
use Rattle.chk_world.specs.Rules.{Legal}
use Rattle.chk_world.specs.Places.{As, AtTold}
use Rattle.chk_world.specs.Sight.{job, Sight, sight, AtJob}
use Rattle.chk_world.specs.JobSteps.{IsOf}
use Rattle.chk_world.proofs.ToldCalls.{talks}
use Rattle.chk_record_index.specs.Faults.{job_fault}
use Rattle.chk_record_index.specs.declared.fault.JobFault.{JobFault}
use Rattle.chk_record_index.specs.declared.fault.JobFault.TheVariants.{Outside, Damaged, Spent, NoMemory}
use Rattle.chk_archive_parts.proofs.OneFile.{Knows}
use Rattle.chk_archive_parts.proofs.FromKnown.{from_known, reach}
use Rattle.chk_archive.specs.Archived.{Archived, RunDone, NoStray, MergesBy}
use Rattle.chk_archive.specs.Counting.{IsCounted}
use Rattle.chk_archive.specs.Listed.{IsListed}
use Rattle.chk_archive.specs.Merged.{IsMergeOf}
use Rattle.chk_archive.specs.Running.{FinishesBy, takes_by, removes_closed}
use Rattle.chk_archive.specs.Sinks.{MayGo, SinksRemoved, RemovesShown, removes_shown}
use Rattle.chk_archive.specs.Taking.{TookAll, TookSo}
use Rattle.chk_archive.specs.Written.{for_new}
use Rattle.chk_archive.specs.declared.counting.Counted.{Counted}
use Rattle.chk_archive.specs.declared.taking.Taken.{Taken}
use Rattle.chk_archive.proofs.FoundSources.{K}
use Rattle.chk_archive.proofs.ListingKept.{keeps_listing, removals_list_nothing}
use Rattle.chk_archive.proofs.SinksSaved.{may_go}
use Rattle.chk_archive.proofs.RunsDone.{run_done}

-- ---- the removals, by their kind

no_start : (names : List (List ℕ)) → RemovesShown names Starts → ⊥
no_start names h = elim h [ ]

quiet : (names : List (List ℕ)) (call : Deed) → RemovesShown names call → talks call ≡ false
quiet names call (removes_shown name one closed) = refl

pub removals_read_nothing : (names : List (List ℕ)) (call : Deed) → RemovesShown names call
    → (name : List ℕ) (place max : ℕ) → call ≡ Reads name place max → ⊥
removals_read_nothing names call (removes_shown name one closed) which place max is = absurd (cc)

pub of_take : (call : Deed) → MergesBy call → FinishesBy call
of_take call k = takes_by call k

pub of_removal : (names : List (List ℕ)) (call : Deed) → RemovesShown names call → FinishesBy call
of_removal names call (removes_shown name one closed) = removes_closed name closed

-- ---- a run that went no further

pub take_fails : (stamped : List (List ℕ)) (v : Sight) (old new loaded : Book) (fault : JobFault) (h : History)
    → TookSo stamped v old new (Err fault) h → Archived stamped loaded (Err fault) h
take_fails stamped v old new loaded (Outside call) h k = k
take_fails stamped v old new loaded (Damaged name place) h k = k
take_fails stamped v old new loaded (Spent n) h k = record {
  legal = k.legal;
  may_act = k.may_act;
  alive = λ runs. let t = k.alive runs in (t.number, for_new t.l t.last t.lacks);
}
take_fails stamped v old new loaded NoMemory h k = k

pub of_fault : (stamped : List (List ℕ)) (loaded : Book) (fault : OutsideFault) (h : History) → Legal stamped h
    → Archived stamped loaded (Err (job_fault fault)) h
of_fault stamped loaded (site_failed call) h legal = legal
of_fault stamped loaded no_memory h legal = legal

-- ---- the removal

module _ (stamped : List (List ℕ)) (names : List (List ℕ)) (b : Book) (v : Sight)
    (at : IsListed stamped names b v) (loaded new : Book) (t : Taken)
    (r : Result (Unit {0}) OutsideFault) {a m z : Option History}
    (told : Adds a m (Leads (As stamped job) (Knows stamped v) (AtJob stamped (TookAll v new t))))
    (own : Adds m z (Every (IsOf (RemovesShown names))))
    (second : (own : Name → Option File)
    → Adds m z (Leads (As stamped job) (AtJob stamped (MayGo own names)) (SinksRemoved stamped own names r))) where
  -- from where all is taken
  from_taken : (C : History → Type 0)
      → ((h g : History) → TookAll v new t (sight h) → SinksRemoved stamped (sight h).own names r g
      → last_listing g ≡ last_listing h → C g)
      → ((h : History) → AtJob stamped (λ u. ⊥) h → C h)
      → Adds a z (Leads (As stamped job) (Knows stamped v) C)
  from_taken C ends bottom =
      leads_then told
      (from_known stamped (RemovesShown names) (no_start names) (quiet names) (TookAll v new t) C own
      (λ h k runs.
      let took = k.alive runs in
      reach stamped h (λ g. AtJob stamped (MayGo (sight h).own names) g × (last_listing g ≡ last_listing h)) C
      (leads_as (λ g j. j) (λ g j. ends h g took j.0 j.1)
      (keeps_listing stamped (RemovesShown names) (removals_list_nothing names)
      (AtJob stamped (MayGo (sight h).own names)) (SinksRemoved stamped (sight h).own names r) (last_listing h)
      (second (sight h).own) own)) (
        record {
          legal = k.legal;
          may_act = k.may_act;
          alive = λ still. may_go stamped names b v at new t (sight h) took;
        },
        refl,
      ))
      bottom)

  pub removal_fails : (fault : OutsideFault) → r ≡ Err fault
      → Adds a z (Leads (As stamped job) (Knows stamped v) (Archived stamped loaded (Err (job_fault fault))))
  removal_fails fault is =
      from_taken (Archived stamped loaded (Err (job_fault fault)))
      (λ h g took j last. of_fault stamped loaded fault g (subst (λ y. SinksRemoved stamped (sight h).own names y g) is j))
      (λ h k. of_fault stamped loaded fault h k.legal)

  pub run_finished : (c : Counted) → IsCounted names c → NoStray loaded (K stamped names b v at).upto
      → IsMergeOf loaded b v → (value : Unit {0}) → r ≡ Ok value
      → Adds a z (Leads (As stamped job) (Knows stamped v) (AtTold stamped job (RunDone loaded (record {
        unclosed = c.unclosed;
        first_unclosed = c.first_unclosed;
        taken = t.taken;
        held = t.held;
        removed = c.closed;
        ends = new.ends;
      }))))
  run_finished c counted strays merge value is =
      from_taken _
      (λ h g took j last.
      let x = subst (λ y. SinksRemoved stamped (sight h).own names y g) is j in
      record {
        legal = x.legal;
        may_act = x.may_act;
        alive = λ still.
            run_done stamped names b v at new t (sight h) took g x.legal (x.alive still) last loaded c counted strays merge;
      })
      (λ h k. record { legal = k.legal; may_act = k.may_act; alive = λ runs. absurd (k.alive runs) })
