-- The laws.
use Rattle.std.specs.Prelude.{◌≡◌, ℕ, List, ◌∷◌, ◌++◌, Result, Some}
use Rattle.chk_site.specs.declared.acts.OutsideFault.{OutsideFault}
use Rattle.chk_site.specs.declared.acts.Who.{Who}
use Rattle.chk_site.specs.Acts.{Answers, deed}
use Rattle.chk_site.specs.History.{Step, History}
use Rattle.chk_chunk.specs.Keys.{Chunk}
use Rattle.chk_http_grammar.specs.Messages.{Ack}
use Rattle.chk_world.specs.Collectors.{Handling, handling_of, view}
use Rattle.chk_tee.specs.Filters.{passing}
use Rattle.chk_tee_sender.specs.Offers.{IsPlacedPost, teeds_of}
use Rattle.chk_world.specs.Rules.{Legal}
use Rattle.chk_tee.specs.Messages.{Teed, IsTee}
use Rattle.chk_tee.specs.declared.filters.Filter.{Filter}
use Rattle.chk_cmd_subscribe.specs.Runs.{HasSubscribed}
use Rattle.chk_tee_laws.specs.Passed.{HasPassed, IsMessageOf, AreInOrder, collector_named}
use Rattle.chk_tee_laws.specs.Printed.{PrintsPassed}

-- In every legal history what passes of a collector is of its own sinks, and by start, number and
-- offset it rises strictly.
abbrev pub PassedRises : Type 0
PassedRises =
    (stamped : List (List ℕ)) (history : History) → Legal stamped history
    → (name : List ℕ) (f : Filter) (items : List Teed)
    → HasPassed (collector_named name) f history items → AreInOrder name items

-- One list at most passes of a process.
abbrev pub PassedIsOne : Type 0
PassedIsOne =
    (who : Who) (f : Filter) (history : History) (items others : List Teed)
    → HasPassed who f history items
    → HasPassed who f history others → items ≡ others

-- No history is without such a list.
abbrev pub PassedIsThere : Type 0
PassedIsThere = (who : Who) (f : Filter) (history : History)
    → ¬ ((items : List Teed) → ¬ (HasPassed who f history items))

-- Where a run of a watcher made these calls, and the history behind it is legal, the chunks that it
-- printed of each collector are a part of what passes of it, whatever was lost, repeated or late.
abbrev pub PrintedIsPassed : Type 0
PrintedIsPassed =
    (stamped : List (List ℕ)) (who : Who) (door : List ℕ) (turns : ℕ)
    (result : Result (Unit {0}) OutsideFault) (added history : History)
    → Legal stamped (added ++ history)
    → HasSubscribed who door turns result (Some history) (Some (added ++ history))
    → PrintsPassed who result added history

-- Where a process answers so a message that it took, and the message and the answer are a post that
-- is passed on, then what a subscriber is sent of it is a message of what passes.
abbrev pub PassedOnIsMessage : Type 0
PassedOnIsMessage =
    (who : Who) (f : Filter) (history : History) (step : Step) (t : ℕ) (request reply : List ℕ)
    (h : Handling) (chunks : List Chunk) (acks : List Ack) (bytes : List ℕ)
    → step.act.who ≡ who → deed step.act ≡ Answers t reply
    → handling_of t (view who history).handled ≡ Some h → h.bytes ≡ request
    → IsPlacedPost request reply chunks acks → IsTee (passing f (teeds_of chunks acks)) bytes
    → IsMessageOf who f (step ∷ history) bytes
