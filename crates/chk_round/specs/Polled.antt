-- What one poll leads to.
use Rattle.std.specs.Prelude.{ℕ, List, Option, Result, Err}
use Rattle.chk_site.specs.declared.acts.Who.{Who}
use Rattle.chk_site.specs.History.{History}
use Rattle.chk_site.specs.Runs.{Leads}
use Rattle.chk_site.specs.Site.{Adds}
use Rattle.chk_world.specs.Rules.{Legal}
use Rattle.chk_world.specs.Together.{Together}
use Rattle.chk_sink.specs.States.{State as Sinks}
use Rattle.chk_agent.specs.States.{State as Agents}
use Rattle.chk_round.specs.declared.faults.RoundFault.{RoundFault}
use Rattle.chk_round.specs.declared.faults.RoundFault.TheVariants.{Length}
use Rattle.chk_round.specs.Joint.{AreIn, BothAt, GoesOn}

-- of a length it is said only with what came before
abbrev pub PolledTo : List (List ℕ) → Sinks → Agents → Result (Unit {0}) RoundFault → History → Type 0
PolledTo stamped s a (Err (Length stem got want)) history = Legal stamped history
PolledTo stamped s a result history = GoesOn stamped s a result history

abbrev pub PollTo : Sinks → Agents → Sinks → Agents → Result (Unit {0}) RoundFault → Option History
    → Option History → Type 0
PollTo s a t b result old new =
    (stamped : List (List ℕ)) (started acting : List Who) → AreIn started acting s a
    → Adds old new (Leads (Together stamped started acting) (BothAt stamped s a) (PolledTo stamped t b result))
