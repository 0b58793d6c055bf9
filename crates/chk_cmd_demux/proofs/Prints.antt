-- The rules allow the job to print the line of its report, and the run stays done.
use Rattle.std.proofs.Common.{◌≡◌, ℕ, Bool, false, List, [], ◌∷◌, Option, Ok, Err, Result, MatchBool, ◌&&◌, None, if◌then◌else◌, ap, sym, subst, refl}
use Rattle.std.specs.Prelude.{IsTrue}
use Rattle.chk_site.specs.declared.acts.OutsideFault.{OutsideFault}
use Rattle.chk_site.specs.declared.acts.Call.TheVariants.{Say}
use Rattle.chk_site.specs.declared.acts.CallFault.{CallFault}
use Rattle.chk_site.specs.declared.acts.ActAnswer.{ActAnswer}
use Rattle.chk_site.specs.Files.{Files}
use Rattle.chk_site.specs.Logs.{Logs}
use Rattle.chk_site.specs.Acts.{tail_in}
use Rattle.chk_site.specs.History.{Step, History, files_after}
use Rattle.chk_site.specs.Honest.{Honest}
use Rattle.chk_site.specs.Site.{Adds, own_step, plain, answered, Calls, Ends}
use Rattle.chk_site.specs.Runs.{Leads}
use Rattle.chk_site.proofs.Stays.{unnamed_stays}
use Rattle.chk_site.proofs.Leads.{leads_as, leads_then, leads_none}
use Rattle.chk_bytes.specs.Stems.{Stem}
use Rattle.chk_world.specs.Names.{Name, DoneFile, spell, is_known}
use Rattle.chk_world.specs.ArchiveRuns.{last_listing, is_one_line, is_report}
use Rattle.chk_world.specs.Jobs.{TrueReport, ReportIsTrue}
use Rattle.chk_world.specs.Rules.{Legal}
use Rattle.chk_world.specs.Places.{As, AtTold}
use Rattle.chk_world.specs.Sight.{sight, job, is_job_file, own_files, listed_sinks, shows_done}
use Rattle.chk_world.proofs.PlacesStay.{Stays}
use Rattle.chk_world.proofs.SightStays.{sight_stays}
use Rattle.chk_world.proofs.ToldCalls.{MayCall, told_ok, told_ends}
use Rattle.chk_demux.specs.Demuxed.{Earlier, DemuxDone}
use Rattle.chk_demux.specs.declared.report.DemuxReport.{DemuxReport}
use Rattle.chk_demux.proofs.DoneStays.{done_stays}
use Rattle.chk_cmd_output.specs.Printing.{PrintsInTurn, all_printed, unprinted, printed_on, ended, printing}

-- none of these lines is the report of an archive run
abbrev pub AllOthers : List (List ℕ) → Type 0
AllOthers [] = Unit {0}
AllOthers (line ∷ lines) = (is_report line ≡ false) × AllOthers lines

-- by the result of the prints: the run is done still, or the history is legal
abbrev pub StaysDone : List (List ℕ) → Earlier → DemuxReport → Result (Unit {0}) OutsideFault → History → Type 0
StaysDone stamped before r (Ok value) history = AtTold stamped job (DemuxDone stamped before r) history
StaysDone stamped before r (Err fault) history = Legal stamped history

module _ (stamped : List (List ℕ)) (before : Earlier) (r : DemuxReport) where
  abbrev Done : History → Type 0
  Done = DemuxDone stamped before r

  stays : Stays stamped job Done
  stays history step legal f d =
      done_stays stamped history (step ∷ history) legal (legal, f.obeys) (sight_stays stamped history step legal f) before r d

  report_true : (h : History) (line : List ℕ) → IsTrue (is_one_line line) → is_report line ≡ false → ReportIsTrue h line
  report_true h line one other = (one, subst (λ (b : Bool). MatchBool b (TrueReport h line) (Unit {0})) (sym other) tt)

  module _ (line : List ℕ) (one : IsTrue (is_one_line line)) (other : is_report line ≡ false) where
    may : MayCall stamped (printing job line) refl Done
    may h answer files logs legal d =
        record { own_files = tt; logs = tt; requests = tt; rule = (refl, report_true h line one other) }

    module _ (h : History) (answer : ActAnswer) (files : Files) (logs : Logs) (is : answer ≡ plain {T = Unit {0}} tt)
        (honest : Honest h (own_step (printing job line) answer files logs)) where
      files_same : (w : List ℕ) → files w ≡ files_after h w
      files_same w =
          unnamed_stays h (own_step (printing job line) answer files logs) w honest.modelled refl
          (ap (λ (a : ActAnswer). tail_in a w) is)

      print_sight : sight (own_step (printing job line) answer files logs ∷ h) ≡ sight h
      print_sight =
          let step : Step = own_step (printing job line) answer files logs in
          let own : (n : Name) → own_files files n ≡ own_files (files_after h) n =
          λ n. ap (λ o. if is_job_file n && is_known n then o else None) (files_same (spell n)) in
          let sinks : (x : Stem) → listed_sinks (last_listing (step ∷ h)) files x ≡ listed_sinks (last_listing h) (files_after h) x =
          λ x. ap (λ o. if shows_done (last_listing h) x then o else None) (files_same (spell (DoneFile x))) in
          λ i. record { listing = last_listing h; own = λ n. own n i; sinks = λ x. sinks x i }

    says_on : {old new : Option History} → Adds old new (Calls (printing job line) (Ok (plain {T = Unit {0}} tt)))
        → Adds old new (Leads (As stamped job) (AtTold stamped job Done) (AtTold stamped job Done))
    says_on told =
        told_ok stamped (printing job line) refl Done Done (plain {T = Unit {0}} tt) stays may tt
        (λ h answer files logs is legal d.
        done_stays stamped h (own_step (printing job line) answer files logs ∷ h) legal.0 legal
        (print_sight h answer files logs is legal.1.honest) before r d) told

    says_ends : (given : Result (Unit {0}) CallFault) (fault : OutsideFault) {old new : Option History} → Ends Say given fault
        → Adds old new (Calls (printing job line) (answered plain given))
        → Adds old new (Leads (As stamped job) (AtTold stamped job Done) (Legal stamped))
    says_ends given fault ends told =
        leads_as (λ h k. k) (λ h k. k.legal)
        (told_ends stamped (printing job line) refl Done (λ f h. Unit {0}) plain given fault stays may
        (λ h answer files logs is legal d. tt) (λ history d. tt) ends told)

  -- the line of the report, printed
  pub prints_lead : {lines : List (List ℕ)} {result : Result (Unit {0}) OutsideFault} {old new : Option History} → AllOthers lines
      → PrintsInTurn job lines result old new
      → Adds old new (Leads (As stamped job) (AtTold stamped job Done) (StaysDone stamped before r result))
  prints_lead all all_printed = leads_none _ (λ h k. k)
  prints_lead all unprinted = leads_none _ (λ h k. k.legal)
  prints_lead all (printed_on {line = line} one told rest) = leads_then (says_on line one all.0 told) (prints_lead all.1 rest)
  prints_lead all (ended {line = line} {fault = fault} given one ends told) = says_ends line one all.0 given fault ends told
