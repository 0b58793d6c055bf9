-- An archive run and the lines that are printed behind it.
use Rattle.std.proofs.Common.{◌≡◌, ℕ, false, List, ◌++◌, Option, Ok, Err, Result, map, ap, sym, subst, ◌∙◌, append_assoc, arith}
use Rattle.chk_site.specs.declared.acts.OutsideFault.{OutsideFault}
use Rattle.chk_site.specs.declared.acts.OutsideFault.TheVariants.{Outside as site_failed, NoMemory as no_memory}
use Rattle.chk_site.specs.declared.acts.Who.{Who}
use Rattle.chk_site.specs.History.{History, Every, is_stopped}
use Rattle.chk_site.specs.Site.{Adds, LastFailed}
use Rattle.chk_site.specs.Runs.{Leads, own_acts}
use Rattle.chk_site.proofs.Runs.{adds_as, adds_then, every_join}
use Rattle.chk_site.proofs.Leads.{leads_as, leads_then}
use Rattle.chk_replace.proofs.CallSteps.{script_last}
use Rattle.chk_site.proofs.LastCalls.{last_of_both as last_then}
use Rattle.chk_world.specs.Books.{Book}
use Rattle.chk_world.specs.Rules.{Legal}
use Rattle.chk_world.specs.Places.{As}
use Rattle.chk_world.specs.Sight.{job}
use Rattle.chk_world.specs.JobSteps.{IsOf}
use Rattle.chk_record_index.specs.declared.fault.JobFault.{JobFault}
use Rattle.chk_record_index.specs.Faults.{FailsLast, job_fault}
use Rattle.chk_archive_parts.proofs.StepKinds.{as_kind}
use Rattle.chk_archive.specs.Archived.{Archived, Begun, ArchivesBy, ListedOnce}
use Rattle.chk_archive.specs.Reports.{Report}
use Rattle.chk_archive.proofs.OnceListed.{Counted, listed_then}
use Rattle.chk_cmd_output.specs.Printing.{PrintsInTurn, Print, by, printed}
use Rattle.chk_cmd_output.proofs.Printed.{prints_made, prints_told, prints_join, prints_run}
use Rattle.chk_cmd_archive.proofs.CallKinds.{archive_silent, Tells, of_archive, of_print, prints_list_nothing, says}
use Rattle.chk_cmd_archive.specs.Telling.{report_lines, ArchivesAndTells}
use Rattle.chk_cmd_archive.proofs.TrueLines.{StaysDone, prints_lead, lines_truly}
use Rattle.chk_archive.proofs.Finished.{of_fault}
use Rattle.chk_cmd_output.proofs.CallKinds.{prints_own}

fails_later : (T : Type 0) (fault : OutsideFault) (b a history : History) → LastFailed {T = Unit {0}} (Err fault) b (a ++ history)
    → FailsLast {T = T} (Err (job_fault fault)) (b ++ a) history
fails_later T (site_failed call) b a history last = last_then {T = Unit {0}} (Err (site_failed call)) b a history last
fails_later T no_memory b a history last = tt

-- an archive run that left this report, and then its lines
module _ (r : Report) (result : Result (Unit {0}) OutsideFault) {old mid new : Option History}
    (archives_own : Adds old mid (Every (IsOf ArchivesBy)))
    (who : Who) (by_job : who ≡ job) (given : PrintsInTurn who (report_lines r) result mid new) where
  abbrev prints : PrintsInTurn job (report_lines r) result mid new
  prints = subst (λ (w : Who). PrintsInTurn w (report_lines r) result mid new) by_job given

  pub told_done : (stamped : List (List ℕ)) (loaded : Book) → result ≡ Ok tt
      → Adds old mid (Leads (As stamped job) (Begun stamped loaded) (Archived stamped loaded (Ok r)))
      → Adds old new (Leads (As stamped job) (Begun stamped loaded) (Archived stamped loaded (Ok r)))
  told_done stamped loaded is told =
      leads_then told
      (subst (λ (x : Result (Unit {0}) OutsideFault). Adds mid new (Leads (As stamped job) (Archived stamped loaded (Ok r)) (StaysDone stamped loaded r x))) is
      (prints_lead stamped loaded r (lines_truly r) prints))

  pub told_fails : (stamped : List (List ℕ)) (loaded : Book) (fault : OutsideFault) → result ≡ Err fault
      → Adds old mid (Leads (As stamped job) (Begun stamped loaded) (Archived stamped loaded (Ok r)))
      → Adds old new (Leads (As stamped job) (Begun stamped loaded) (Archived stamped loaded (Err (job_fault fault))))
  told_fails stamped loaded fault is told =
      leads_then told
      (leads_as (λ h k. k) (λ h legal. of_fault stamped loaded fault h legal)
      (subst (λ (x : Result (Unit {0}) OutsideFault). Adds mid new (Leads (As stamped job) (Archived stamped loaded (Ok r)) (StaysDone stamped loaded r x))) is
      (prints_lead stamped loaded r (lines_truly r) prints)))

  pub own_both : Adds old new (Every (IsOf ArchivesAndTells))
  own_both =
      adds_then (Every (IsOf ArchivesAndTells)) (as_kind ArchivesBy ArchivesAndTells of_archive archives_own)
      (as_kind Tells ArchivesAndTells of_print (prints_own Tells says prints))
      (λ a b history p q. every_join (IsOf ArchivesAndTells) b a history p q)

  pub once_both : Adds old mid (Counted 1) → Adds old new (Counted 1)
  once_both once = listed_then once (prints_list_nothing prints)

  pub once_fails : (T : Type 0) (fault : JobFault) → Adds old mid (Counted 1) → Adds old new (ListedOnce {T = T} (Err fault))
  once_fails T fault once =
      adds_as (ListedOnce {T = T} (Err fault)) (once_both once) (λ added history n. omega (arith, n))

  pub prints_both : result ≡ Ok tt → Adds old new (λ added history. printed (own_acts added) ≡ map (by job) (report_lines r))
  prints_both is =
      adds_then (λ added history. printed (own_acts added) ≡ map (by job) (report_lines r)) (archive_silent archives_own)
      (prints_told (subst (λ (x : Result (Unit {0}) OutsideFault). PrintsInTurn job (report_lines r) x mid new) is prints))
      (λ a b history p q. prints_join b a ∙ (ap (λ (x : List Print). x ++ printed (own_acts b)) p ∙ q))

  pub runs_both : result ≡ Ok tt → Adds old new (λ added history. is_stopped (added ++ history) ≡ false)
  runs_both is =
      adds_then (λ added history. is_stopped (added ++ history) ≡ false) archives_own
      (prints_run (subst (λ (x : Result (Unit {0}) OutsideFault). PrintsInTurn job (report_lines r) x mid new) is prints))
      (λ a b history p q. subst (λ (h : History). is_stopped h ≡ false) (sym (append_assoc b a history)) q)

  pub last_both : (T : Type 0) (fault : OutsideFault) → result ≡ Err fault → Adds old new (FailsLast {T = T} (Err (job_fault fault)))
  last_both T fault is =
      adds_then (FailsLast {T = T} (Err (job_fault fault))) archives_own
      (script_last (prints_made (subst (λ (x : Result (Unit {0}) OutsideFault). PrintsInTurn job (report_lines r) x mid new) is prints)))
      (λ a b history p q. fails_later T fault b a history q)
