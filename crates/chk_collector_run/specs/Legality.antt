-- What a collector's turns lead to, from a legal history on.
use Rattle.std.specs.Prelude.{◌≡◌, ◌⊎◌, ℕ, ◌≤◌, true, false, IsTrue, List, ◌∷◌, Result, Ok, Err}
use Rattle.chk_site.specs.declared.acts.Who.{Who}
use Rattle.chk_site.specs.Acts.{Deed, Takes, deed}
use Rattle.chk_site.specs.History.{Step, History, Every, Others, files_after}
use Rattle.chk_site.specs.Site.{Rose}
use Rattle.chk_world.specs.Collectors.{Handling, begun}
use Rattle.chk_http_grammar.specs.Messages.{Ack}
use Rattle.chk_world.specs.NamedEnds.{IsAllCommitted, HasNamed, IsReached, gave_up}
use Rattle.chk_world.specs.Places.{AtTold}
use Rattle.chk_sink.specs.declared.fault.SinkFault.{SinkFault}
use Rattle.chk_sink.specs.declared.fault.SinkFault.TheVariants.{Outside, Damaged}
use Rattle.chk_sink.specs.Closes.{IsMarked}
use Rattle.chk_sink.specs.Held.{Holds, Handles, Matches}
use Rattle.chk_sink.specs.States.{State, process}

-- the mark of the sink that is written to says all of it, and no other is under writing: so it is
-- after a start and after a tick
pub record IsSettled (s : State) : Type 0 where
  pub none_left : s.abandoned ≡ false
  pub marked : IsMarked s.current

-- the history holds the sinks, and all of each sink under writing is committed
pub record TurnHolds (s : State) (history : History) : Type 0 where
  pub holds : Holds s history
  pub committed : IsAllCommitted s.collector (files_after history)

-- the history holds the sinks, and these bytes are all that the collector got of the message that
-- it took last, which it hasn't
-- answered
abbrev pub HasTaken : List (List ℕ) → State → ℕ → List ℕ → History → Type 0
HasTaken stamped s t bytes history =
    AtTold stamped (process s) (λ front. (others : List Handling) × Handles s (begun t bytes ∷
    others) front) history

-- The told history stays legal and holds the sinks, and behind a whole turn all is committed.
-- Nothing of the collector's own is
-- ever damaged.
abbrev pub TurnEnds : List (List ℕ) → State → Result (Unit {0}) SinkFault → History → Type 0
TurnEnds stamped s (Ok value) history = AtTold stamped (process s) (TurnHolds s) history
TurnEnds stamped s (Err (Damaged name at)) history = AtTold stamped (process s) (λ front. ⊥) history
TurnEnds stamped s (Err fault) history = Matches stamped s history

-- the same behind a chain of turns
abbrev pub ChainEnds : List (List ℕ) → State → Result (Unit {0}) SinkFault → History → Type 0
ChainEnds stamped s (Ok value) history = Matches stamped s history
ChainEnds stamped s (Err fault) history = TurnEnds stamped s (Err fault) history

-- The call takes a message for which it may wait 1,000 milliseconds, as the first one of a turn
-- does. The further takings of a turn wait 20 milliseconds or none.
abbrev pub opens_turn : Deed → Type 0
opens_turn (Takes door wait) = wait ≡ 1000
opens_turn call = ⊥

-- where the step takes the first message of a turn, all of each sink under writing of this
-- collector is committed before it
abbrev pub FindsCommitted : List ℕ → History → Step → Type 0
FindsCommitted name before step = step.own ≡ true → opens_turn (deed step.act)
    → IsAllCommitted name (files_after before)

-- where others do as is supposed, and A holds before, each own step among them that takes the first
-- message of a turn finds all committed
abbrev pub Finds : (History → Step → Type 0) → List ℕ → (History → Type 0) → History → History
    → Type 0
Finds Supposed name A added history = Others Supposed added history → A history
    → Every (FindsCommitted name) added history

-- Only a call that failed raises the count. It may have been one of a message, which ends that
-- message alone.
abbrev pub TurnCause : ℕ → ℕ → Result (Unit {0}) SinkFault → Type 0
TurnCause before now (Err (Outside call)) = Rose before now × (before ≤ now)
TurnCause before now result = (now ≡ before) ⊎ (Rose before now × (before ≤ now))

-- ---- the ends that the collector named

-- each end that it named in a good reply to a post is at or below its sink's committed length, or
-- was until the job removed the done sink, but for sinks that were given up
abbrev pub NamedAreReached : Who → History → Type 0
NamedAreReached who history =
    (a : Ack) → HasNamed who history a → IsReached history a ⊎ IsTrue (gave_up a.stem history)

-- where the step takes the first message of a turn, each named end is reached before it
abbrev pub FindsReached : Who → History → Step → Type 0
FindsReached who before step = step.own ≡ true → opens_turn (deed step.act)
    → NamedAreReached who before

-- where others do as is supposed, and A holds before, each own step among them that takes the first
-- message of a turn finds each named end reached
abbrev pub FindsNamed : (History → Step → Type 0) → Who → (History → Type 0) → History → History
    → Type 0
FindsNamed Supposed who A added history = Others Supposed added history → A history
    → Every (FindsReached who) added history
