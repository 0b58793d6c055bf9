-- What the calls of a round show where a length below an answered offset ends it, damage, a spent
-- number or another reply than the one that was made.
use Rattle.std.specs.Prelude.{◌≡◌, ℕ, false, List, Option, Some, None, Result, Ok, Err}
use Rattle.chk_bytes.specs.Stems.{Stem}
use Rattle.chk_site.specs.declared.acts.Who.{Who}
use Rattle.chk_site.specs.History.{History}
use Rattle.chk_site.specs.Site.{Adds}
use Rattle.chk_sink.specs.Closes.{IsMarked}
use Rattle.chk_sink.specs.States.{State as Sinks}
use Rattle.chk_agent.specs.States.{State as Agents}
use Rattle.chk_exchange.specs.Exchanges.{PollsInside}
use Rattle.chk_round.specs.declared.faults.RoundFault.{RoundFault}
use Rattle.chk_round.specs.declared.faults.RoundFault.TheVariants.{Checkpoint, Damaged, Growing, Length, Refused, Shrank, Spent}
use Rattle.chk_round.specs.Scripts.{Anything}
use Rattle.chk_round.specs.Sites.{EndsLast, IsEnd, WorkEnds}

-- all that the collector holds is committed, and it has left no other sink under writing
pub record HasCommitted (s : Sinks) : Type 0 where
  pub marked : IsMarked s.current
  pub settled : s.abandoned ≡ false

-- polls one after the other, none of which gave a length below an answered offset
pub data PollsOn (who : Who) (s : Sinks) (a : Agents) : Sinks → Agents → Option History
    → Option History → Type 0 where
  begins : {now : Option History} → PollsOn who s a s a now now
  goes_on : {t u : Sinks} {b c : Agents} {old mid new : Option History}
      → PollsOn who s a t b old mid → PollsInside who t b (Ok None) u c mid new
      → PollsOn who s a u c old new

-- one poll, which gave this length below an answered offset, or none, or ended otherwise
abbrev pub PolledOnce : Who → Sinks → Agents → Result (Unit {0}) RoundFault → Sinks → Agents
    → Option History → Option History → Type 0
PolledOnce who s a (Ok value) t b old new = PollsInside who s a (Ok None) t b old new
PolledOnce who s a (Err (Length stem got want)) t b old new =
    PollsInside who s a (Ok (Some (record { stem = stem; got = got; want = want }))) t b old new
PolledOnce who s a (Err (Damaged name at)) t b old new = WorkEnds (Damaged name at) old new
PolledOnce who s a (Err (Checkpoint at)) t b old new = WorkEnds (Checkpoint at) old new
PolledOnce who s a (Err (Spent n)) t b old new = WorkEnds (Spent n) old new
PolledOnce who s a (Err (Refused code)) t b old new = WorkEnds (Refused code) old new
PolledOnce who s a (Err fault) t b old new = Unit {0}

-- The last one of these exchanges is a poll whose first length below an answered offset is this
-- one. Behind a moment at which the collector had committed all, nothing else came but polls.
pub record PolledBelow (stem : Stem) (got want : ℕ) (old new : Option History) : Type 0 where
  pub who : Who
  pub committed : Sinks
  pub waiting : Agents
  pub sinks : Sinks
  pub agent : Agents
  pub sinks_then : Sinks
  pub agent_then : Agents
  pub behind : Option History
  pub mid : Option History
  pub went : Adds old behind Anything
  pub all : HasCommitted committed
  pub polls_on : PollsOn who committed waiting sinks agent behind mid
  pub polls : PolledOnce who sinks agent (Err (Length stem got want)) sinks_then agent_then mid new

-- What an end behind the starts shows: a length comes of such a poll, and damage, a spent number and
-- a refusal of the work that came last.
abbrev pub WorkShown : {T : Type 0} → Result T RoundFault → Option History → Option History → Type 0
WorkShown (Err (Length stem got want)) old new = PolledBelow stem got want old new
WorkShown (Err (Damaged name at)) old new = EndsLast (WorkEnds (Damaged name at)) old new
WorkShown (Err (Checkpoint at)) old new = EndsLast (WorkEnds (Checkpoint at)) old new
WorkShown (Err (Spent n)) old new = EndsLast (WorkEnds (Spent n)) old new
WorkShown (Err (Refused code)) old new = EndsLast (WorkEnds (Refused code)) old new
WorkShown result old new = Unit {0}

-- what an end of a round of this source shows, whose starts are among these calls
abbrev pub EndShown : {T : Type 0} → List ℕ → Result T RoundFault → Option History → Option History
    → Type 0
EndShown source (Err (Length stem got want)) old new = PolledBelow stem got want old new
EndShown source (Err (Damaged name at)) old new = EndsLast (IsEnd source (Damaged name at)) old new
EndShown source (Err (Checkpoint at)) old new = EndsLast (IsEnd source (Checkpoint at)) old new
EndShown source (Err (Spent n)) old new = EndsLast (IsEnd source (Spent n)) old new
EndShown source (Err (Refused code)) old new = EndsLast (IsEnd source (Refused code)) old new
EndShown source result old new = Unit {0}

-- the fault is neither of a read of a log nor of a poll
abbrev pub IsPlain : RoundFault → Type 0
IsPlain (Growing path reads) = ⊥
IsPlain (Shrank path had is) = ⊥
IsPlain (Length stem got want) = ⊥
IsPlain fault = Unit {0}
