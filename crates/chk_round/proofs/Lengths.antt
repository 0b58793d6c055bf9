-- A poll that gave a length below an answered offset.
use Rattle.std.proofs.Common.{◌≡◌, ℕ, ◌≤◌, Bool, true, false, Option, Some, None, Ok, Err, refl, sym, subst, arith, if◌then◌else◌}
use Rattle.chk_site.specs.declared.acts.Who.{Who}
use Rattle.chk_site.specs.History.{History}
use Rattle.chk_site.specs.Site.{Adds}
use Rattle.chk_sink.specs.Closes.{IsMarked}
use Rattle.chk_sink.specs.States.{State as Sinks, Writing, is_closed_at, seen_first, ticked, ticked_state}
use Rattle.chk_agent_delivery.specs.declared.answers.Below.{Below}
use Rattle.chk_agent.specs.States.{State as Agents}
use Rattle.chk_exchange.specs.Exchanges.{PollsInside}
use Rattle.chk_round.specs.declared.faults.RoundFault.{RoundFault}
use Rattle.chk_round.specs.declared.faults.RoundFault.TheVariants.{Length}
use Rattle.chk_round.specs.Faults.{FailsInside, RoundCause}
use Rattle.chk_round.specs.Lengths.{HasCommitted, PolledOnce}
use Rattle.chk_round.specs.Scripts.{Anything, IsNoRead}

module _ (b : Below) (fault : RoundFault) (is : fault ≡ Length b.stem b.got b.want) where
  pub below_inside : {old new : Option History} → Adds old new Anything
      → Adds old new (FailsInside {T = Unit {0}} (Err fault))
  below_inside {old = old} {new = new} p = subst (λ f. Adds old new (FailsInside {T = Unit {0}} (Err f))) (sym is) p

  pub below_cause : (before now : ℕ) → now ≡ before → RoundCause {T = Unit {0}} before now (Err fault)
  below_cause before now same =
      subst (λ f. RoundCause {T = Unit {0}} before now (Err f)) (sym is) (let z : before ≤ now = omega (arith, same) in z)

  pub below_no_read : IsNoRead fault
  below_no_read = subst IsNoRead (sym is) tt

  pub below_once : {old new : Option History} {who : Who} {s u : Sinks} {a c : Agents}
      → PollsInside who s a (Ok (Some b)) u c old new
      → PolledOnce who s a (Err fault) u c old new
  below_once {old = old} {new = new} {who = who} {s = s} {u = u} {a = a} {c = c} polls =
      subst (λ f. PolledOnce who s a (Err f) u c old new) (sym is) polls

-- a tick that was done leaves all committed
pub ticked_all : (now : ℕ) (s : Sinks) → HasCommitted (ticked_state now s)
ticked_all now s = record { marked = go s.current; settled = refl }
  where
    go : (w : Option Writing) → IsMarked (ticked s.rotate now w)
    go None = tt
    go (Some o) = pick (is_closed_at s.rotate now o)
      where
        pick : (b : Bool) → IsMarked (if b then None else Some (record {
          size = o.size;
          sync_end = o.sync_end;
          marked = o.size;
          seen = Some (seen_first o.seen now);
        }))
        pick true = tt
        pick false = refl
