-- What an agent prints leaves what the history holds of it.
use Rattle.std.proofs.Common.{◌≡◌, ℕ, true, List, Option, Ok, Result, refl}
use Rattle.chk_site.specs.declared.acts.Who.{Who}
use Rattle.chk_site.specs.declared.acts.OutsideFault.{OutsideFault}
use Rattle.chk_site.specs.History.{History}
use Rattle.chk_site.specs.Site.{plain}
use Rattle.chk_site.proofs.Leads.{leads_none, leads_then}
use Rattle.chk_agent.specs.States.{State, process}
use Rattle.chk_agent.specs.Fits.{IsSound}
use Rattle.chk_agent.proofs.TurningTold.{TalksOn}
use Rattle.chk_agent_run.proofs.CallsTold.{IsFree, call_told}
use Rattle.chk_cmd_output.specs.Printing.{PrintsInTurn, all_printed, unprinted, printed_on, ended, printing}

module _ (s : State) (who : Who) (by : who ≡ process s) (sound : IsSound s)
    (ready : s.ready ≡ true) where
  free_print : (line : List ℕ) → IsFree s (printing who line)
  free_print line = record {
    by = by;
    quiet = λ answer files logs. refl;
    sends_none = λ answer files logs. tt;
    rule = λ before answer files logs. tt;
  }

  pub prints_talk : {lines : List (List ℕ)} {result : Result (Unit {0}) OutsideFault}
      {old new : Option History}
      → PrintsInTurn who lines result old new → TalksOn s s old new
  prints_talk (all_printed {now = now}) stamped = leads_none now (λ h k. k)
  prints_talk (unprinted {now = now}) stamped = leads_none now (λ h k. k)
  prints_talk (printed_on {line = line} one told rest) stamped =
      leads_then (call_told s sound ready (printing who line) (free_print line)
      (plain {T = Unit {0}}) (λ value. tt) stamped (Ok (tt {0})) told)
      (prints_talk rest stamped)
  prints_talk (ended {line = line} given one ends told) stamped =
      call_told s sound ready (printing who line) (free_print line) (plain {T = Unit {0}})
      (λ value. tt) stamped given told
