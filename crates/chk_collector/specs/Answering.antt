-- What the told history holds before a request is answered, and behind it.
use Rattle.std.specs.Prelude.{◌≡◌, ◌⊎◌, ℕ, List, [], ◌∷◌, map, Result, Ok, Err}
use Rattle.chk_site.specs.Acts.{Answers}
use Rattle.chk_site.specs.History.{History}
use Rattle.chk_chunk.specs.Keys.{Chunk}
use Rattle.chk_http_grammar.specs.Messages.{IsPostOf, ack_of}
use Rattle.chk_world.specs.Collectors.{Handling, Appended, CollectorRule, Tells, begun, view, with_appends}
use Rattle.chk_world.specs.Places.{AtTold}
use Rattle.chk_sink.specs.States.{State, process}
use Rattle.chk_sink.specs.Held.{Holds, Handles, Ready}
use Rattle.chk_sink.specs.Puts.{IsHeader}

-- a message of which these bytes were got, which isn't answered, and since whose taking these
-- appends were made
abbrev pub taken_with : ℕ → List ℕ → List Appended → Handling
taken_with t request earlier = with_appends earlier (begun t request)

-- These bytes are all that the collector got of the message that it took last; before it took the
-- others. Since then it has made these appends, as where the message was handled before and there
-- was no memory for its reply.
abbrev pub Taken : List (List ℕ) → State → ℕ → List ℕ → List Appended → List Handling → History
    → Type 0
Taken stamped s t request earlier others history =
    Ready stamped s (taken_with t request earlier ∷ others) history

-- the history holds the sinks, and the reply may be the answer to this taking
pub record MayAnswer (s : State) (t : ℕ) (reply : List ℕ) (history : History) : Type 0 where
  pub holds : Holds s history
  pub may : CollectorRule (process s) history (view (process s) history) (Answers t reply)

-- the appends are headers of sinks, and records of the first of these chunks, in order and one each
abbrev pub TellFirst : List Chunk → List Appended → Type 0
TellFirst chunks [] = Unit {0}
TellFirst [] (w ∷ appends) = IsHeader w × TellFirst [] appends
TellFirst (c ∷ cs) (w ∷ appends) =
    (IsHeader w × TellFirst (c ∷ cs) appends) ⊎ (Tells c (ack_of w.stem w.end) w × TellFirst cs appends)

-- What stands in the sinks behind a request, whatever its reply. The history holds the sinks, and
-- behind the earlier appends these were made: of a post the records of its first chunks, and of any
-- other message none.
pub record Stands (s : State) (t : ℕ) (request : List ℕ) (earlier : List Appended)
    (others : List Handling) (history : History) : Type 0 where
  pub appends : List Appended
  pub handled : Handles s (map (with_appends appends) (taken_with t request earlier ∷ others))
      history
  pub first : (chunks : List Chunk) → IsPostOf chunks request → TellFirst chunks appends
  pub none : ((chunks : List Chunk) → IsPostOf chunks request → ⊥) → appends ≡ []

-- the reply may be the answer to this taking, and what was appended since stands
pub record AnsweredSo (s : State) (t : ℕ) (request : List ℕ) (earlier : List Appended)
    (others : List Handling) (reply : List ℕ) (history : History) : Type 0 where
  pub answer : MayAnswer s t reply history
  pub stands : Stands s t request earlier others history

-- the same of a told history; without memory there is no reply
abbrev pub Answered : {E : Type 0} → List (List ℕ) → State → ℕ → List ℕ → List Appended
    → List Handling → Result (List ℕ) E → History → Type 0
Answered stamped s t request earlier others (Ok reply) history =
    AtTold stamped (process s) (AnsweredSo s t request earlier others reply) history
Answered stamped s t request earlier others (Err fault) history =
    AtTold stamped (process s) (Stands s t request earlier others) history
