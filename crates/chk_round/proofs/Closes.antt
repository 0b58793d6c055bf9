-- The collector closes its sink, and the archive job runs once.
use Rattle.std.proofs.Common.{◌≡◌, ℕ, List, ◌++◌, Option, Result, Ok, Err, refl, sym, subst, ap}
use Rattle.std.specs.Prelude.{Contains}
use Rattle.chk_site.specs.declared.acts.Who.{Who}
use Rattle.chk_site.specs.History.{History, files_after}
use Rattle.chk_site.specs.Site.{Adds}
use Rattle.chk_site.specs.Runs.{Leads}
use Rattle.chk_site.proofs.Family.{leads_family}
use Rattle.chk_site.proofs.Leads.{leads_as, leads_then}
use Rattle.chk_world.specs.Books.{Book, book_of}
use Rattle.chk_world.specs.Names.{ArchiveFolder}
use Rattle.chk_world.specs.Places.{As, AtTold}
use Rattle.chk_world.specs.Rules.{Legal}
use Rattle.chk_world.specs.Sight.{job}
use Rattle.chk_world.specs.Together.{Together}
use Rattle.chk_sink.specs.declared.fault.SinkFault.{SinkFault}
use Rattle.chk_sink.specs.declared.fault.SinkFault.TheVariants.{Outside as sink_failed, Damaged as sink_damaged, Spent as sink_spent, NoMemory as sink_wanting}
use Rattle.chk_sink.specs.Closes.{IsOfTick}
use Rattle.chk_sink.specs.Held.{Matches as SinksMatch}
use Rattle.chk_sink.specs.States.{State as Sinks, process}
use Rattle.chk_collector.specs.Finishing.{Finished}
use Rattle.chk_agent.specs.Facts.{Matches as AgentMatches}
use Rattle.chk_agent.specs.Fits.{IsSound}
use Rattle.chk_agent.specs.States.{State as Agents}
use Rattle.chk_record_index.specs.declared.fault.JobFault.{JobFault}
use Rattle.chk_record_index.specs.declared.fault.JobFault.TheVariants.{Outside as job_failed, Damaged as job_damaged, Spent as job_spent, NoMemory as job_wanting}
use Rattle.chk_archive.specs.declared.report.Report.{Report}
use Rattle.chk_archive.specs.Archived.{Archived, Begun}
use Rattle.chk_archive.specs.Reporting.{report_result}
use Rattle.chk_round.specs.Closing.{Closed, HasRun}
use Rattle.chk_round.specs.Faults.{of_job, of_sinks}
use Rattle.chk_round.specs.Joint.{AreIn, BothAt}
use Rattle.chk_round.specs.Spent.{IsSpentArchive}
use Rattle.chk_round.proofs.Sides.{collector_acts, job_acts}

-- ---- the archive run, whatever the book was

abbrev pub RunAt : List (List ℕ) → Result Report JobFault → History → Type 0
RunAt stamped (Ok r) history = AtTold stamped job (HasRun r) history
RunAt stamped (Err (job_damaged name at)) history = AtTold stamped job (λ h. ⊥) history
RunAt stamped (Err (job_spent n)) history = AtTold stamped job (IsSpentArchive n) history
RunAt stamped (Err fault) history = Legal stamped history

run_at : (stamped : List (List ℕ)) (loaded : Book) (r : Result Report JobFault) (h : History)
    → Archived stamped loaded (report_result r) h → RunAt stamped r h
run_at stamped loaded (Ok r) h x = record { legal = x.legal; may_act = x.may_act; alive = λ running. (loaded, x.alive running) }
run_at stamped loaded (Err (job_failed call)) h x = x
run_at stamped loaded (Err (job_damaged name at)) h x = x
run_at stamped loaded (Err (job_spent n)) h x = x
run_at stamped loaded (Err job_wanting) h x = x

pub run_told : (stamped : List (List ℕ)) (r : Result Report JobFault) {old new : Option History} → Book
    → ((loaded : Book) → Adds old new (Leads (As stamped job) (Begun stamped loaded) (Archived stamped loaded (report_result r))))
    → Adds old new (Leads (As stamped job) (Legal stamped) (RunAt stamped r))
run_told stamped r any each =
    leads_family (Begun stamped) (λ loaded. Archived stamped loaded (report_result r)) (Legal stamped) (RunAt stamped r) any each
    (λ added history all legal.
    run_at stamped (book_of (files_after history) ArchiveFolder) r (added ++ history)
    (all (book_of (files_after history) ArchiveFolder) (legal, refl)))

-- ---- the ends

job_ended : (stamped : List (List ℕ)) (s : Sinks) (a : Agents) (fault : JobFault) (h : History)
    → RunAt stamped (Err fault) h → Closed stamped s a (Err (of_job fault)) h
job_ended stamped s a (job_failed call) h x = x
job_ended stamped s a (job_damaged name at) h x = record { legal = x.legal; never = x.alive }
job_ended stamped s a (job_spent n) h x = x
job_ended stamped s a job_wanting h x = x

run_legal : (stamped : List (List ℕ)) (r : Result Report JobFault) (h : History) → RunAt stamped r h → Legal stamped h
run_legal stamped (Ok r) h x = x.legal
run_legal stamped (Err (job_failed call)) h x = x
run_legal stamped (Err (job_damaged name at)) h x = x.legal
run_legal stamped (Err (job_spent n)) h x = x.legal
run_legal stamped (Err job_wanting) h x = x

sinks_ended : (stamped : List (List ℕ)) (s t : Sinks) (a : Agents) (fault : SinkFault) → IsOfTick fault → (h : History)
    → Finished stamped s t (Err fault) h → Closed stamped t a (Err (of_sinks fault)) h
sinks_ended stamped s t a (sink_failed call) only h x = x.legal
sinks_ended stamped s t a (sink_damaged name at) only h x =
    record { legal = x.legal; never = λ running. (x.alive running).sound name at refl }
sinks_ended stamped s t a (sink_spent born) only h x = absurd only
sinks_ended stamped s t a sink_wanting only h x = x.legal

module _ (stamped : List (List ℕ)) (started acting : List Who) (s t : Sinks) (a : Agents) (sound : IsSound a)
    (run : AreIn started acting s a) where
  abbrev Go : (History → Type 0) → (History → Type 0) → Option History → Option History → Type 0
  Go A B old new = Adds old new (Leads (Together stamped started acting) A B)

  -- the collector finishes
  finish_beside : (r : Result (Unit {0}) SinkFault) {old new : Option History}
      → Adds old new (Leads (As stamped (process s)) (SinksMatch stamped s) (Finished stamped s t r))
      → Go (BothAt stamped s a) (λ h. Finished stamped s t r h × AgentMatches stamped a h) old new
  finish_beside r told =
      leads_as (λ h x. (x.0, (x.1.0, x.1.1.0))) (λ h x. (x.0, x.1.0))
      (collector_acts stamped started acting s.collector a sound run.collector_started run.collector_acts run.agent_started
      (λ h x. x.legal) told)

  pub unfinished : (fault : SinkFault) → IsOfTick fault → {old new : Option History}
      → Adds old new (Leads (As stamped (process s)) (SinksMatch stamped s) (Finished stamped s t (Err fault)))
      → Go (BothAt stamped s a) (Closed stamped t a (Err (of_sinks fault))) old new
  unfinished fault only told =
      leads_as (λ h x. x) (λ h x. sinks_ended stamped s t a fault only h x.0) (finish_beside (Err fault) told)

  t_in : t.collector ≡ s.collector → Contains started (process t)
  t_in same = subst (Contains started) (ap (λ n. record (process s) { name = n }) (sym same)) run.collector_started

  module _ (j_in : Contains started job) (j_acts : Contains acting job) (same : t.collector ≡ s.collector)
      {old mid : Option History}
      (first : Adds old mid (Leads (As stamped (process s)) (SinksMatch stamped s) (Finished stamped s t (Ok tt)))) where
    both : Go (BothAt stamped s a) (λ h. Legal stamped h × (SinksMatch stamped t h × AgentMatches stamped a h)) old mid
    both =
        leads_as (λ h x. x)
        (λ h x. (x.0.legal, (record { legal = x.0.legal; may_act = x.0.may_act; alive = λ running. (x.0.alive running).holds }, x.1)))
        (finish_beside (Ok tt) first)

    archive_beside : (r : Result Report JobFault) {new : Option History} → Adds mid new (Leads (As stamped job) (Legal stamped) (RunAt stamped r))
        → Go (λ h. Legal stamped h × (SinksMatch stamped t h × AgentMatches stamped a h))
        (λ h. RunAt stamped r h × (SinksMatch stamped t h × AgentMatches stamped a h)) mid new
    archive_beside r told =
        job_acts stamped started acting t a sound j_in j_acts (t_in same) run.agent_started (run_legal stamped r) told

    pub unarchived : (fault : JobFault) {new : Option History} → Adds mid new (Leads (As stamped job) (Legal stamped) (RunAt stamped (Err fault)))
        → Go (BothAt stamped s a) (Closed stamped t a (Err (of_job fault))) old new
    unarchived fault told =
        leads_then both
        (leads_as (λ h x. x) (λ h x. job_ended stamped t a fault h x.0) (archive_beside (Err fault) told))

    pub closed : (r : Report) {new : Option History} → Adds mid new (Leads (As stamped job) (Legal stamped) (RunAt stamped (Ok r)))
        → Go (BothAt stamped s a) (Closed stamped t a (Ok r)) old new
    closed r told = leads_then both (archive_beside (Ok r) told)
