-- A chain of turns.
use Rattle.std.proofs.Common.{◌≡◌, ℕ, ◌+◌, ◌<◌, suc, List, [], Option, Result, Ok, Err, sym, subst, ◌∙◌, add-one}
use Rattle.chk_site.specs.declared.acts.Who.{Who}
use Rattle.chk_site.specs.History.{History}
use Rattle.chk_site.specs.Runs.{Leads}
use Rattle.chk_site.specs.Site.{Adds}
use Rattle.chk_site.proofs.Leads.{leads_then, leads_as, leads_none}
use Rattle.chk_site.proofs.Runs.{adds_as, adds_none}
use Rattle.chk_world.specs.Places.{Foreign, Talking}
use Rattle.chk_sink.specs.declared.fault.SinkFault.{SinkFault}
use Rattle.chk_sink.specs.Faults.{FailsLast}
use Rattle.chk_sink.specs.Held.{Matches}
use Rattle.chk_sink.specs.States.{State, IsSameStart, process}
use Rattle.chk_collector.specs.Replies.{MayHaveRisen}
use Rattle.chk_tee_sender.specs.declared.Subscriber.{Subscriber}
use Rattle.chk_collector_run.specs.Legality.{IsSettled, TurnEnds, ChainEnds, Finds, TurnCause}
use Rattle.chk_collector_run.specs.Turns.{IsCollectorTurn, IsCutTurn, AreCollectorTurns, over, turn, AreTurned}
use Rattle.chk_collector_run.proofs.Counts.{same_start, not_risen, risen_then, turn_after, last_then}
use Rattle.chk_collector.proofs.PutLoop.{same_then as start_then}
use Rattle.chk_collector_run.proofs.Takings.{finds_then}
use Rattle.chk_collector_run.proofs.Turning.{same_process}

-- one turn more
turns_then : {who : Who} {door : List ℕ} {most wait n : ℕ} {s t u : State}
    {a b c : List Subscriber} {old mid new : Option History}
    → AreCollectorTurns who door most wait n s a old t b mid
    → IsCollectorTurn who door most wait t b mid u c new
    → AreCollectorTurns who door most wait (suc n) s a old u c new
turns_then over next = turn next over
turns_then (turn first rest) next = turn first (turns_then rest next)

-- what is known once so many turns were done
pub record TurnsSoFar (who : Who) (door : List ℕ) (most n : ℕ) (first s : State)
    (given a : List Subscriber) (old now : Option History) (before count : ℕ) : Type 0 where
  pub who_is : who ≡ process s
  pub script : AreCollectorTurns who door most 1000 n first given old s a now
  pub told : (stamped : List (List ℕ)) → Adds old now (Leads (Talking stamped who) (Matches stamped
      first) (Matches stamped s))
  pub finds : (stamped : List (List ℕ)) → Adds old now (Finds (Foreign stamped who) who.name
      (Matches stamped first))
  pub same : IsSameStart first s
  pub settled : IsSettled s
  pub risen : MayHaveRisen before count

pub turns_begin : (who : Who) (door : List ℕ) (most : ℕ) (s : State) (a : List Subscriber)
    (now : Option History) (count : ℕ) → who ≡ process s → IsSettled s
    → TurnsSoFar who door most 0 s s a a now now count count
turns_begin who door most s a now count is settled = record {
  who_is = is;
  script = over;
  told = λ stamped. leads_none now (λ h x. x);
  finds = λ stamped. adds_none now (Finds (Foreign stamped who) who.name (Matches stamped s))
      (λ history others h. tt);
  same = same_start s;
  settled = settled;
  risen = not_risen count;
}

module _ {who : Who} {door : List ℕ} {most n : ℕ} {first s : State} {given a : List Subscriber}
    {old now : Option History} {before count : ℕ}
    (far : TurnsSoFar who door most n first s given a old now before count) (t : State)
    (b : List Subscriber) (new : Option History) (later : ℕ) where
  -- what one more turn says, with this result
  pub record TurnSays (result : Result (Unit {0}) SinkFault) : Type 0 where
    pub told : (stamped : List (List ℕ)) → Adds now new (Leads (Talking stamped who) (Matches
        stamped s) (TurnEnds stamped t result))
    pub finds : (stamped : List (List ℕ)) → IsSettled s
        → Adds now new (Finds (Foreign stamped who) who.name (Matches stamped s))
    pub same : IsSameStart s t
    pub cause : TurnCause count later result

  finds_on : (stamped : List (List ℕ)) (result : Result (Unit {0}) SinkFault) → TurnSays result
      → Adds old new (Finds (Foreign stamped who) who.name (Matches stamped first))
  finds_on stamped result says = finds_then who.name (far.told stamped) (far.finds stamped)
      (says.finds stamped far.settled)

  pub turns_on : TurnSays (Ok tt) → IsCollectorTurn who door most 1000 s a now t b new
      → IsSettled t → TurnsSoFar who door most (n + 1) first t given b old new before later
  turns_on says next settled = record {
    who_is = far.who_is ∙ sym (same_process s t says.same);
    script = subst (λ k. AreCollectorTurns who door most 1000 k first given old t b new) (sym (add-one n))
        (turns_then far.script next);
    told = λ stamped.
        leads_then (far.told stamped)
        (leads_as (λ h x. x) (λ h x. record {
          legal = x.legal;
          may_act = x.may_act;
          alive = λ r.
              (x.alive r).holds;
        })
        (says.told stamped));
    finds = λ stamped. finds_on stamped (Ok tt) says;
    same = start_then first s t far.same says.same;
    settled = settled;
    risen = risen_then before count later far.risen says.cause;
  }

  -- the turn was cut short
  module _ (turns : ℕ) (fault : SinkFault) (says : TurnSays (Err fault)) where
    pub chain_script : n < turns → IsCutTurn who door most 1000 fault s a now t b new
        → AreTurned who door most 1000 turns first given old (Err fault) t b new
    chain_script within cut = record {
      done = n;
      within = within;
      u = s;
      standing = a;
      turned = now;
      each =
          far.script;
      cut = cut;
    }

    pub chain_told : (stamped : List (List ℕ))
        → Adds old new (Leads (Talking stamped who) (Matches stamped first) (ChainEnds stamped t
        (Err fault)))
    chain_told stamped = leads_then (far.told stamped) (says.told stamped)

    pub chain_finds : (stamped : List (List ℕ))
        → Adds old new (Finds (Foreign stamped who) who.name (Matches stamped first))
    chain_finds stamped = finds_on stamped (Err fault) says

    pub chain_same : IsSameStart first t
    chain_same = start_then first s t far.same says.same

    pub chain_last : Adds now new (FailsLast {T = Unit {0}} (Err fault))
        → Adds old new (FailsLast {T = Unit {0}} (Err fault))
    chain_last last = last_then {T = Unit {0}} (Err fault) (far.told []) last

    pub chain_cause : TurnCause before later (Err fault)
    chain_cause = turn_after before count later (Err fault) far.risen says.cause

-- all turns were done
pub chain_over : {who : Who} {door : List ℕ} {most n : ℕ} {first s : State}
    {given a : List Subscriber} {old now : Option History} {before count : ℕ}
    → TurnsSoFar who door most n first s given a old now before count
    → Adds old now (FailsLast {T = Unit {0}} (Ok tt))
chain_over far = adds_as (FailsLast {T = Unit {0}} (Ok tt)) (far.told []) (λ a h x. tt)
