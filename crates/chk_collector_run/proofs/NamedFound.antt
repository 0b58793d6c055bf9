-- Where each taking finds all committed, it finds committed what was named.
use Rattle.std.proofs.Common.{◌≡◌, ℕ, List, [], ◌∷◌, ◌++◌, Option, Result, Ok, Err}
use Rattle.chk_site.specs.declared.acts.Role.TheVariants.{Collector}
use Rattle.chk_site.specs.declared.acts.Who.{Who}
use Rattle.chk_site.specs.History.{History, Every}
use Rattle.chk_site.specs.Runs.{Leads}
use Rattle.chk_site.specs.Site.{Adds}
use Rattle.chk_site.proofs.Runs.{adds_both}
use Rattle.chk_world.specs.Rules.{Legal}
use Rattle.chk_world.specs.Together.{Outside, Together}
use Rattle.chk_world.proofs.NamedEnds.{named_ends_are_committed}
use Rattle.chk_sink.specs.declared.fault.SinkFault.{SinkFault}
use Rattle.chk_sink.specs.declared.fault.SinkFault.TheVariants.{Outside as failed, Damaged, Spent, NoMemory}
use Rattle.chk_collector_run.specs.Legality.{FindsCommitted, FindsReached, Finds, FindsNamed}
use Rattle.chk_collector_run.specs.Runs.{Collected}

-- however the command ends, the history is legal
collected_legal : (stamped : List (List ℕ)) (who : Who) (result : Result (Unit {0}) SinkFault)
    (h : History) → Collected stamped who result h → Legal stamped h
collected_legal stamped who (Ok value) h x = x.legal
collected_legal stamped who (Err (failed call)) h x = x
collected_legal stamped who (Err (Damaged name at)) h x = x.legal
collected_legal stamped who (Err (Spent born)) h x = x.legal
collected_legal stamped who (Err NoMemory) h x = x

each_reached : (stamped : List (List ℕ)) (who : Who) → who.role ≡ Collector
    → (added history : History) → Legal stamped (added ++ history)
    → Every (FindsCommitted who.name) added history → Every (FindsReached who) added history
each_reached stamped who role [] history legal finds = tt
each_reached stamped who role (step ∷ added) history legal finds = (
  each_reached stamped who role added history legal.0 finds.0,
  λ own takes. named_ends_are_committed stamped (added ++ history) legal.0 who role
      (finds.1 own takes),
)

pub finds_named : (stamped : List (List ℕ)) (who : Who) → who.role ≡ Collector
    → (started acting : List Who) (result : Result (Unit {0}) SinkFault) {old new : Option History}
    → Adds old new (Leads (Together stamped started acting) (Legal stamped)
    (Collected stamped who result))
    → Adds old new (Finds (Outside stamped started) who.name (Legal stamped))
    → Adds old new (FindsNamed (Outside stamped started) who (Legal stamped))
finds_named stamped who role started acting result told found =
    adds_both (FindsNamed (Outside stamped started) who (Legal stamped)) told found
    (λ added history x y others legal. each_reached stamped who role added history
    (collected_legal stamped who result (added ++ history) (x.leads others legal)) (y others legal))
