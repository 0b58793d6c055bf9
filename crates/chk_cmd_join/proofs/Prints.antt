-- The rules allow the job to print the line of its report.
use Rattle.std.proofs.Common.{◌≡◌, ℕ, Bool, false, List, [], ◌∷◌, Option, Ok, Result, MatchBool, sym, subst, refl}
use Rattle.std.specs.Prelude.{IsTrue}
use Rattle.chk_site.specs.declared.acts.OutsideFault.{OutsideFault}
use Rattle.chk_site.specs.declared.acts.Call.TheVariants.{Say}
use Rattle.chk_site.specs.declared.acts.CallFault.{CallFault}
use Rattle.chk_site.specs.History.{History}
use Rattle.chk_site.specs.Site.{Adds, plain, answered, Calls, Ends}
use Rattle.chk_site.specs.Runs.{Leads}
use Rattle.chk_site.proofs.Leads.{leads_as, leads_then, leads_none}
use Rattle.chk_world.specs.ArchiveRuns.{is_one_line, is_report}
use Rattle.chk_world.specs.Jobs.{TrueReport, ReportIsTrue}
use Rattle.chk_world.specs.Rules.{Legal}
use Rattle.chk_world.specs.Places.{As, AtTold}
use Rattle.chk_world.specs.Sight.{job}
use Rattle.chk_world.proofs.PlacesStay.{Stays}
use Rattle.chk_world.proofs.ToldCalls.{MayCall, told_ok, told_ends}
use Rattle.chk_cmd_output.specs.Printing.{PrintsInTurn, all_printed, unprinted, printed_on, ended, printing}

-- none of these lines is the report of an archive run
abbrev pub AllOthers : List (List ℕ) → Type 0
AllOthers [] = Unit {0}
AllOthers (line ∷ lines) = (is_report line ≡ false) × AllOthers lines

module _ (stamped : List (List ℕ)) where
  abbrev Any_ : History → Type 0
  Any_ h = Unit {0}

  stays : Stays stamped job Any_
  stays history step legal f d = tt

  report_true : (h : History) (line : List ℕ) → IsTrue (is_one_line line) → is_report line ≡ false
      → ReportIsTrue h line
  report_true h line one other =
      (one, subst (λ (b : Bool). MatchBool b (TrueReport h line) (Unit {0})) (sym other) tt)

  module _ (line : List ℕ) (one : IsTrue (is_one_line line)) (other : is_report line ≡ false) where
    may : MayCall stamped (printing job line) refl Any_
    may h answer files logs legal d =
        record {
          own_files = tt;
          logs = tt;
          requests = tt;
          rule =
              (refl, report_true h line one other);
        }

    says_on : {old new : Option History} → Adds old new
        (Calls (printing job line) (Ok (plain {T = Unit {0}} tt)))
        → Adds old new (Leads (As stamped job) (AtTold stamped job Any_) (AtTold stamped job Any_))
    says_on told =
        told_ok stamped (printing job line) refl Any_ Any_ (plain {T = Unit {0}} tt) stays may tt
        (λ h answer files logs is legal d. tt) told

    says_ends : (given : Result (Unit {0}) CallFault)
        (fault : OutsideFault) {old new : Option History} → Ends Say given fault
        → Adds old new (Calls (printing job line) (answered plain given))
        → Adds old new (Leads (As stamped job) (AtTold stamped job Any_) (Legal stamped))
    says_ends given fault ends told =
        leads_as (λ h k. k) (λ h k. k.legal)
        (told_ends stamped (printing job line) refl Any_
        (λ f h. Unit {0}) plain given fault stays may
        (λ h answer files logs is legal d. tt) (λ history d. tt) ends told)

  -- lines that are printed in turn
  pub prints_lead : {lines : List (List ℕ)} {result : Result
      (Unit {0}) OutsideFault} {old new : Option History} → AllOthers lines
      → PrintsInTurn job lines result old new
      → Adds old new (Leads (As stamped job) (AtTold stamped job Any_) (Legal stamped))
  prints_lead all all_printed = leads_none _ (λ h k. k.legal)
  prints_lead all unprinted = leads_none _ (λ h k. k.legal)
  prints_lead all (printed_on {line = line} one told rest) =
      leads_then (says_on line one all.0 told) (prints_lead all.1 rest)
  prints_lead all (ended {line = line} {fault = fault} given one ends told) =
      says_ends line one all.0 given fault ends told
