-- What stands behind a request: where its calls led the sinks, and which calls they were.
use Rattle.std.specs.Prelude.{◌≡◌, ◌⊎◌, ℕ, zero, suc, ◌<◌, ◌≤◌, List, [], ◌∷◌, length, Contains, Option, Some, None, Result, Ok, Err}
use Rattle.chk_bytes.specs.Stems.{Stem}
use Rattle.chk_site.specs.Acts.{Deed}
use Rattle.chk_site.specs.History.{History}
use Rattle.chk_chunk.specs.Keys.{Chunk}
use Rattle.chk_http_grammar.specs.Messages.{Ack, PollRequest, IsPostOf}
use Rattle.chk_world.specs.Works.{Works}
use Rattle.chk_sink.specs.declared.fault.SinkFault.{SinkFault}
use Rattle.chk_sink.specs.declared.fault.SinkFault.TheVariants.{NoMemory}
use Rattle.chk_sink.specs.Faults.{ended_by}
use Rattle.chk_sink.specs.States.{State, Writing, process}
use Rattle.chk_sink.specs.Puts.{IsPlaced, LeavesAfterPut, SpentExactly, GoesOn}
use Rattle.chk_sink.specs.Works.{OfPut, OfQuestion}

-- ---- the state

-- so many puts were done, one after the other
pub data Puts : ℕ → State → State → Type 0 where
  begins : {s : State} → Puts zero s s
  goes_on : {n : ℕ} {s t u : State} → Puts n s t → GoesOn t u → Puts (suc n) s u

-- the next put was refused: so many were done before, of so many at most
pub record IsRefusedNext (most count : ℕ) (reached new : State) (fault : SinkFault) : Type 0 where
  pub few : count < most
  pub leaves : LeavesAfterPut reached new fault
  pub spent : SpentExactly {T = Stem × ℕ} reached (Err fault)

-- there was no memory for the line of the last put
pub record IsUnwritten (most count : ℕ) (reached new : State) (fault : SinkFault) : Type 0 where
  pub few : count ≤ most
  pub wants : fault ≡ NoMemory
  pub same : new ≡ reached

-- of so many puts some were done, and the next one was refused, or there was no memory for the line of the last
pub record PutsThen (most : ℕ) (old new : State) (fault : SinkFault) : Type 0 where
  pub count : ℕ
  pub reached : State
  pub puts : Puts count old reached
  pub ends : IsRefusedNext most count reached new fault ⊎ IsUnwritten most count reached new fault

-- the last line is the place of the sink that is written to
abbrev pub EndsInPlace : State → List Ack → Type 0
EndsInPlace s [] = Unit {0}
EndsInPlace s (a ∷ []) = IsPlaced s (a.stem, a.number)
EndsInPlace s (a ∷ (b ∷ acks)) = EndsInPlace s (b ∷ acks)

-- the same sink was first seen at the same moment
abbrev pub IsSeenAlike : Option Writing → Option Writing → Type 0
IsSeenAlike old None = Unit {0}
IsSeenAlike None (Some n) = ⊥
IsSeenAlike (Some o) (Some n) = n.seen ≡ o.seen

-- no tick has seen the sink
abbrev pub IsUnseen : Option Writing → Type 0
IsUnseen None = Unit {0}
IsUnseen (Some n) = n.seen ≡ None

-- the moment at which a tick first saw the sink that is written to stays, and a new one was seen by none
pub record KeepsSeen (old new : State) : Type 0 where
  pub same : new.number ≡ old.number → IsSeenAlike old.current new.current
  pub new_one : old.number < new.number → IsUnseen new.current

-- ---- the calls

-- those of a put that comes behind some others
abbrev pub OfPosts : State → Deed → Type 0
OfPosts s call = (n : ℕ) × (t : State) × Puts n s t × OfPut t call

-- those of the question for one of these stems
abbrev pub OfPoll : List Stem → Deed → Type 0
OfPoll stems call = (x : Stem) × Contains stems x × OfQuestion x call

-- a post calls for puts, a poll for the lengths of its stems, and no other request for anything
abbrev pub OfRequest : List ℕ → State → Deed → Type 0
OfRequest bytes s call =
    ((chunks : List Chunk) × IsPostOf chunks bytes × OfPosts s call)
    ⊎ ((stems : List Stem) × PollRequest stems bytes × OfPoll stems call)

-- where a request without a reply led the sinks, by what came of its calls: nothing changed, or of a post each chunk was put
-- or the next put was refused so
abbrev pub LeavesUnanswered : List ℕ → State → State → Result (Unit {0}) SinkFault → Type 0
LeavesUnanswered request old new (Ok value) =
    (new ≡ old) ⊎ ((chunks : List Chunk) × IsPostOf chunks request × Puts (length chunks) old new)
LeavesUnanswered request old new (Err fault) =
    (new ≡ old) ⊎ ((chunks : List Chunk) × IsPostOf chunks request × PutsThen (length chunks) old new fault)

-- where there is no memory for a reply: what came of the sinks' calls, which calls they were, and the state, which a post alone
-- changes
pub record Unanswered (request : List ℕ) (old new : State) (told_before told_after : Option History) : Type 0 where
  pub done : Result (Unit {0}) SinkFault
  pub own : Works (process old) (OfRequest request old) (ended_by done) told_before told_after
  pub state : LeavesUnanswered request old new done
