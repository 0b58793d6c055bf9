-- What a call leaves of the agent, and what it leads to, carried over the next one.
use Rattle.std.proofs.Common.{◌≡◌, ℕ, true, List, Option, ◌∙◌, sym, refl}
use Rattle.chk_site.specs.History.{History}
use Rattle.chk_site.specs.Site.{Adds}
use Rattle.chk_site.specs.Runs.{Leads}
use Rattle.chk_site.proofs.Leads.{leads_none}
use Rattle.chk_world.specs.Places.{As, Talking}
use Rattle.chk_agent.specs.States.{State, process}
use Rattle.chk_agent.specs.Facts.{Matches}
use Rattle.chk_agent.proofs.TurningTold.{TalksOn, IsSameAgent, same_agent, same_then, talks_then, talking_as}

-- the calls so far were the agent's, and left it the same and ready
pub record Carried (s t : State) (old new : Option History) : Type 0 where
  pub same : IsSameAgent s t
  pub talks : TalksOn s t old new

pub carried_none : (s : State) (now : Option History) → Carried s s now now
carried_none s now = record { same = same_agent s; talks = λ stamped. leads_none now (λ h x. x) }

pub carried_then : (s t u : State) {old mid new : Option History} → Carried s t old mid → Carried t u mid new → Carried s u old new
carried_then s t u p q = record {
  same = same_then s t u p.same q.same;
  talks = talks_then s t u p.same p.talks q.talks;
}

-- one more call, by its clauses; both states are ready
pub carried_by : (s t : State) → t.source ≡ s.source → s.ready ≡ true → t.ready ≡ true
    → {old new : Option History} → TalksOn s t old new → Carried s t old new
carried_by s t source ready still talks = record {
  same = record { source = source; ready = still ∙ sym ready };
  talks = talks;
}

-- the same of a call that leaves messages alone
pub quietly : (s t : State) {old new : Option History}
    → ((stamped : List (List ℕ)) → Adds old new (Leads (As stamped (process s)) (Matches stamped s) (Matches stamped t)))
    → TalksOn s t old new
quietly s t told = λ stamped. talking_as (process s) stamped (told stamped)

-- the last call of some, whatever it left
pub ends_with : (s t u : State) {old mid new : Option History} → Carried s t old mid → TalksOn t u mid new → TalksOn s u old new
ends_with s t u p q = talks_then s t u p.same p.talks q
