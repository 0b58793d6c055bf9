-- The polls so far, behind a commit.
use Rattle.std.proofs.Common.{◌≡◌, ◌≢◌, ℕ, ◌≤◌, ◌<◌, List, [], length, Option, Result, Ok, refl, ap, ◌∙◌, arith}
use Rattle.chk_site.specs.declared.acts.Who.{Who}
use Rattle.chk_site.specs.History.{History}
use Rattle.chk_site.specs.Site.{Adds}
use Rattle.chk_acks.specs.declared.row.Row.{Row}
use Rattle.chk_acks.specs.Sound.{IsSound as IsSoundTable}
use Rattle.chk_sink.specs.States.{IsSameStart, State as Sinks}
use Rattle.chk_agent_delivery.specs.States.{State as Delivery, free_rows}
use Rattle.chk_agent_delivery.specs.Turns.{asked_stems}
use Rattle.chk_agent.specs.States.{State as Agents}
use Rattle.chk_agent_drain.proofs.Unmarked.{some_asked}
use Rattle.chk_round.specs.declared.faults.RoundFault.{RoundFault}
use Rattle.chk_round.specs.Joint.{IsSameAgent, JointTo}
use Rattle.chk_round.specs.Lengths.{PollsOn}
use Rattle.chk_round.specs.OwnRows.{OwnTo}
use Rattle.chk_round.specs.Sending.{SendsOn}
use Rattle.chk_round.specs.Calls.{RestCalls}
use Rattle.chk_round.proofs.Acts.{rest_none, rest_then}
use Rattle.chk_round.proofs.Joining.{joint_none, joint_then, same_none, same_then}
use Rattle.chk_round.proofs.OwnRows.{own_none, own_then}
use Rattle.chk_round.proofs.Sent.{sends_on_none, sends_on_then}

-- sinks of the same start
pub starts_none : (s : Sinks) → IsSameStart s s
starts_none s = record { collector = refl; born = refl; rotate = refl; number = omega arith }

pub starts_then : (s t u : Sinks) → IsSameStart s t → IsSameStart t u → IsSameStart s u
starts_then s t u p q =
    let one = p.number in
    let two = q.number in
    record {
      collector = q.collector ∙ p.collector;
      born = q.born ∙ p.born;
      rotate = q.rotate ∙ p.rotate;
      number = omega (arith, one, two);
    }

-- ---- what some exchanges leave, and lead to

pub record Talked (s : Sinks) (a : Agents) (t : Sinks) (b : Agents) (old now : Option History) (before after : ℕ) : Type 0 where
  pub joint : JointTo s a t b (Ok tt) old now
  pub rows : OwnTo s a t b (Ok tt) old now
  pub starts : IsSameStart s t
  pub same : IsSameAgent a b
  pub sends : SendsOn a b old now
  pub acts : Adds old now RestCalls
  pub count : before ≤ after

pub talked_none : (s : Sinks) (a : Agents) (now : Option History) (n : ℕ) → Talked s a s a now now n n
talked_none s a now n = record {
  joint = joint_none s a now;
  rows = own_none s a now;
  starts = starts_none s;
  same = same_none a;
  sends = sends_on_none a now;
  acts = rest_none now;
  count = omega arith;
}

module _ {s t : Sinks} {a b : Agents} {old now : Option History} {before mid : ℕ} (so : Talked s a t b old now before mid)
    (u : Sinks) (c : Agents) {new : Option History} (after : ℕ) where
  pub talked_own : (r : Result (Unit {0}) RoundFault) → OwnTo t b u c r now new → OwnTo s a u c r old new
  talked_own r rows = own_then s t u a b c r so.starts.collector so.same.source so.rows so.joint rows

  pub talked_more : JointTo t b u c (Ok tt) now new → IsSameStart t u → IsSameAgent b c
      → SendsOn b c now new → Adds now new RestCalls → OwnTo t b u c (Ok tt) now new → mid ≤ after
      → Talked s a u c old new before after
  talked_more joint starts same sends more rows on =
      let first = so.count in
      record {
        joint = joint_then s t u a b c (Ok tt) so.starts.collector so.same.source so.joint joint;
        rows = talked_own (Ok tt) rows;
        starts = starts_then s t u so.starts starts;
        same = same_then a b c so.same same;
        sends = sends_on_then a b c so.sends sends;
        acts = rest_then so.acts more;
        count = omega (arith, first, on);
      }

  pub talked_ends : (r : Result (Unit {0}) RoundFault) → JointTo t b u c r now new → JointTo s a u c r old new
  talked_ends r joint = joint_then s t u a b c r so.starts.collector so.same.source so.joint joint

-- ---- rows

-- where fewer rows are free than there is room for, one is there
rows_there : (d : Delivery) (wanted : ℕ) → wanted ≤ d.table.room → free_rows d < wanted → d.table.rows ≢ []
rows_there d wanted few short none =
    let rows = ap {A = List Row} length none in
    let z : ⊥ = omega (arith, few, short, rows) in
    z

pub may_ask : (a b : Agents) (wanted : ℕ) → IsSameAgent a b → wanted ≤ a.delivery.table.room → free_rows b.delivery < wanted
    → IsSoundTable b.delivery.table → asked_stems b.delivery.table ≢ []
may_ask a b wanted same few short sound =
    let room = same.rest.room in
    some_asked b.delivery.table sound (rows_there b.delivery wanted (omega (arith, few, room)) short)

pub record Polling (who : Who) (s : Sinks) (a : Agents) (t : Sinks) (b : Agents)
    (old now : Option History) (before after : ℕ) : Type 0 where
  pub talked : Talked s a t b old now before after
  pub queue : b.delivery.queue ≡ a.delivery.queue
  pub on : PollsOn who s a t b old now

pub polling_none : (who : Who) (s : Sinks) (a : Agents) (now : Option History) (n : ℕ)
    → Polling who s a s a now now n n
polling_none who s a now n = record {
  talked = talked_none s a now n;
  queue = refl;
  on = PollsOn.begins;
}
