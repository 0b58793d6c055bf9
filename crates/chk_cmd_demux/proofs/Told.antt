-- A demux run and the line that is printed behind it.
use Rattle.std.proofs.Common.{◌≡◌, inl, inr, ℕ, false, List, [], ◌∷◌, ◌++◌, Option, Ok, Err, Result, ap, sym, subst, ◌∙◌, append_assoc}
use Rattle.chk_site.specs.declared.acts.OutsideFault.{OutsideFault}
use Rattle.chk_site.specs.declared.acts.OutsideFault.TheVariants.{Outside as site_failed, NoMemory as no_memory}
use Rattle.chk_site.specs.declared.acts.Who.{Who}
use Rattle.chk_site.specs.History.{History, Every, is_stopped}
use Rattle.chk_site.specs.Site.{Adds, LastFailed}
use Rattle.chk_site.specs.Runs.{Leads, own_acts}
use Rattle.chk_site.proofs.Runs.{adds_then, every_join}
use Rattle.chk_site.proofs.Leads.{leads_as, leads_then}
use Rattle.chk_replace.proofs.CallSteps.{script_last}
use Rattle.chk_site.proofs.LastCalls.{last_of_both as last_then}
use Rattle.chk_world.specs.Rules.{Legal}
use Rattle.chk_world.specs.Places.{As}
use Rattle.chk_world.specs.Sight.{job}
use Rattle.chk_world.specs.JobSteps.{IsOf}
use Rattle.chk_record_index.specs.declared.fault.JobFault.{JobFault}
use Rattle.chk_record_index.specs.Faults.{FailsLast, job_fault}
use Rattle.chk_archive_parts.proofs.StepKinds.{as_kind}
use Rattle.chk_demux.specs.Demuxed.{Earlier, Begun, Demuxed, DemuxesBy}
use Rattle.chk_demux.specs.declared.report.DemuxReport.{DemuxReport}
use Rattle.chk_cmd_output.specs.Printing.{PrintsInTurn, Print, by, printed}
use Rattle.chk_cmd_output.proofs.Printed.{prints_made, prints_told, prints_join, prints_run}
use Rattle.chk_cmd_demux.proofs.CallKinds.{demux_silent, Tells, of_demux, of_print, says}
use Rattle.chk_cmd_output.proofs.AtMost.{at_most}
use Rattle.chk_cmd_demux.proofs.Lines.{demux_is_no_report}
use Rattle.chk_cmd_demux.proofs.Prints.{StaysDone, prints_lead}
use Rattle.chk_cmd_demux.specs.Telling.{run_line, IsTold, DemuxesAndTells}
use Rattle.chk_cmd_output.proofs.CallKinds.{prints_own}

of_fault : (stamped : List (List ℕ)) (before : Earlier) (fault : OutsideFault) (h : History) → Legal stamped h
    → Demuxed stamped before (Err (job_fault fault)) h
of_fault stamped before (site_failed call) h legal = legal
of_fault stamped before no_memory h legal = legal

fails_later : (fault : OutsideFault) (b a history : History) → LastFailed {T = Unit {0}} (Err fault) b (a ++ history)
    → FailsLast {T = DemuxReport} (Err (job_fault fault)) (b ++ a) history
fails_later (site_failed call) b a history last = last_then {T = Unit {0}} (Err (site_failed call)) b a history last
fails_later no_memory b a history last = tt

-- a demux run that left this report, and then its line
module _ (r : DemuxReport) (result : Result (Unit {0}) OutsideFault) {old mid new : Option History}
    (demuxes_own : Adds old mid (Every (IsOf DemuxesBy)))
    (who : Who) (by_job : who ≡ job) (given : PrintsInTurn who (run_line r ∷ []) result mid new) where
  abbrev prints : PrintsInTurn job (run_line r ∷ []) result mid new
  prints = subst (λ (w : Who). PrintsInTurn w (run_line r ∷ []) result mid new) by_job given

  told_prints : (stamped : List (List ℕ)) (before : Earlier) (x : Result (Unit {0}) OutsideFault) → result ≡ x
      → Adds old mid (Leads (As stamped job) (Begun stamped before) (Demuxed stamped before (Ok r)))
      → Adds old new (Leads (As stamped job) (Begun stamped before) (StaysDone stamped before r x))
  told_prints stamped before x is told =
      leads_then told
      (subst (λ (x : Result (Unit {0}) OutsideFault). Adds mid new (Leads (As stamped job) (Demuxed stamped before (Ok r)) (StaysDone stamped before r x))) is
      (prints_lead stamped before r (demux_is_no_report r.taken r.entries r.left, tt) prints))

  pub told_done : (stamped : List (List ℕ)) (before : Earlier) → result ≡ Ok tt
      → Adds old mid (Leads (As stamped job) (Begun stamped before) (Demuxed stamped before (Ok r)))
      → Adds old new (Leads (As stamped job) (Begun stamped before) (Demuxed stamped before (Ok r)))
  told_done stamped before is told = told_prints stamped before (Ok tt) is told

  pub told_fails : (stamped : List (List ℕ)) (before : Earlier) (fault : OutsideFault) → result ≡ Err fault
      → Adds old mid (Leads (As stamped job) (Begun stamped before) (Demuxed stamped before (Ok r)))
      → Adds old new (Leads (As stamped job) (Begun stamped before) (Demuxed stamped before (Err (job_fault fault))))
  told_fails stamped before fault is told =
      leads_as (λ h k. k) (λ h legal. of_fault stamped before fault h legal) (told_prints stamped before (Err fault) is told)

  pub own_both : Adds old new (Every (IsOf DemuxesAndTells))
  own_both =
      adds_then (Every (IsOf DemuxesAndTells)) (as_kind DemuxesBy DemuxesAndTells of_demux demuxes_own)
      (as_kind Tells DemuxesAndTells of_print (prints_own Tells says prints))
      (λ a b history p q. every_join (IsOf DemuxesAndTells) b a history p q)

  pub prints_both : result ≡ Ok tt → Adds old new (λ added history. printed (own_acts added) ≡ by job (run_line r) ∷ [])
  prints_both is =
      adds_then (λ added history. printed (own_acts added) ≡ by job (run_line r) ∷ []) (demux_silent demuxes_own)
      (prints_told (subst (λ (x : Result (Unit {0}) OutsideFault). PrintsInTurn job (run_line r ∷ []) x mid new) is prints))
      (λ a b history p q. prints_join b a ∙ (ap (λ (x : List Print). x ++ printed (own_acts b)) p ∙ q))

  -- where the print ended the work
  pub prints_none : (fault : JobFault) → Adds old new (IsTold (Err fault))
  prints_none fault =
      adds_then (IsTold (Err fault)) (demux_silent demuxes_own) (at_most prints)
      (λ a b history p q.
      let all : printed (own_acts (b ++ a)) ≡ printed (own_acts b) = prints_join b a ∙ ap (λ (x : List Print). x ++ printed (own_acts b)) p in
      elim q [ inl none ↦ inl (all ∙ none) | inr one ↦ inr (r, all ∙ one) ])

  pub runs_both : result ≡ Ok tt → Adds old new (λ added history. is_stopped (added ++ history) ≡ false)
  runs_both is =
      adds_then (λ added history. is_stopped (added ++ history) ≡ false) demuxes_own
      (prints_run (subst (λ (x : Result (Unit {0}) OutsideFault). PrintsInTurn job (run_line r ∷ []) x mid new) is prints))
      (λ a b history p q. subst (λ (h : History). is_stopped h ≡ false) (sym (append_assoc b a history)) q)

  pub last_both : (fault : OutsideFault) → result ≡ Err fault → Adds old new (FailsLast {T = DemuxReport} (Err (job_fault fault)))
  last_both fault is =
      adds_then (FailsLast {T = DemuxReport} (Err (job_fault fault))) demuxes_own
      (script_last (prints_made (subst (λ (x : Result (Unit {0}) OutsideFault). PrintsInTurn job (run_line r ∷ []) x mid new) is prints)))
      (λ a b history p q. fails_later fault b a history q)
