-- The messages of a history: what was sent, what was taken of it, and what was answered.
use Rattle.std.specs.Prelude.{ℕ, Bool, false, ◌&&◌, ◌==◌, not, List, [], ◌∷◌, ◌++◌, filter, bytes_eq, codes, Option, Some, None, if◌then◌else◌}
use Rattle.chk_site.specs.declared.acts.Who.{Who}
use Rattle.chk_site.specs.declared.acts.Role.TheVariants.{Collector}
use Rattle.chk_site.specs.declared.acts.ActAnswer.{ActAnswer}
use Rattle.chk_site.specs.declared.acts.ActAnswer.TheVariants.{Done}
use Rattle.chk_site.specs.Acts.{Deed, Starts, Sends, Takes, TakesMore, Answers, deed, is_done, same_role, same_who}
use Rattle.chk_site.specs.History.{History}

-- the mailbox inside the process
abbrev pub self_address : List ℕ
self_address = codes "self"

-- a message that was sent, also where its call failed
pub record Message : Type 0 where
  pub sender : Who
  pub address : List ℕ
  pub bytes : List ℕ
  pub done : Bool

-- the message m, where this call sent it
abbrev pub message_in : ℕ → Deed → Who → Bool → Option Message → Option Message
message_in m (Sends n address bytes) who done earlier =
    if m == n then Some (record { sender = who; address = address; bytes = bytes; done = done }) else earlier
message_in m call who done earlier = earlier

-- the message of this number
abbrev pub message : History → ℕ → Option Message
message [] m = None
message (step ∷ history) m = message_in m (deed step.act) step.act.who (is_done step.act.answer) (message history m)

-- what has been taken so far of a message: `of` is its number, or 0
pub record Taken : Type 0 where
  pub taker : Who
  pub door : List ℕ
  pub of : ℕ
  pub bytes : List ℕ

-- a taking with a further piece, where it is its taker who took it
abbrev pub with_more : Who → List ℕ → Option Taken → Option Taken
with_more who more None = None
with_more who more (Some t) =
    if same_who who t.taker
    then Some (record { taker = t.taker; door = t.door; of = t.of; bytes = t.bytes ++ more })
    else Some t

-- the taking t after this act
abbrev pub taken_in : ℕ → Deed → ActAnswer → Who → Option Taken → Option Taken
taken_in t (Takes door wait) (Done (bytes ∷ words) number of) who earlier =
    if t == number then Some (record { taker = who; door = door; of = of; bytes = bytes }) else earlier
taken_in t (TakesMore n) (Done (bytes ∷ words) number of) who earlier = if t == n then with_more who bytes earlier else earlier
taken_in t call answer who earlier = earlier

-- the taking of this number
abbrev pub taken : History → ℕ → Option Taken
taken [] t = None
taken (step ∷ history) t = taken_in t (deed step.act) step.act.answer step.act.who (taken history t)

-- an answer to a taking: whether its call was done, and whether the taking was at the mailbox
pub record Reply : Type 0 where
  pub bytes : List ℕ
  pub done : Bool
  pub inside : Bool

-- the taking is this process's, of the message m
abbrev pub is_of : Who → ℕ → Option Taken → Bool
is_of who m None = false
is_of who m (Some t) = same_who who t.taker && t.of == m

-- the taking was at the mailbox
abbrev pub is_inside : Option Taken → Bool
is_inside None = false
is_inside (Some t) = bytes_eq t.door self_address

-- the answers to the message m after this act
abbrev pub replies_in : ℕ → Deed → Who → Bool → History → List Reply → List Reply
replies_in m (Answers t bytes) who done history earlier =
    if same_role who.role Collector && is_of who m (taken history t)
    then record { bytes = bytes; done = done; inside = is_inside (taken history t) } ∷ earlier
    else earlier
replies_in m call who done history earlier = earlier

-- the answers that collectors made to their own takings of this message, the newest first
abbrev pub replies : History → ℕ → List Reply
replies [] m = []
replies (step ∷ history) m =
    replies_in m (deed step.act) step.act.who (is_done step.act.answer) history (replies history m)

-- what waits in the mailbox after this act
abbrev pub waiting_in : Deed → ActAnswer → Bool → List ℕ → List ℕ
waiting_in Starts answer own waiting = if own then [] else waiting
waiting_in (Sends n address bytes) (Done words number of) own waiting =
    if bytes_eq address self_address then waiting ++ n ∷ [] else waiting
waiting_in (Takes door wait) (Done (bytes ∷ words) number of) own waiting =
    if bytes_eq door self_address then filter (λ n. not (n == of)) waiting else waiting
waiting_in call answer own waiting = waiting

-- the messages that wait in the mailbox for this taker, the oldest first: sent there since its start and not yet taken
abbrev pub waiting : Who → History → List ℕ
waiting who [] = []
waiting who (step ∷ history) = waiting_in (deed step.act) step.act.answer (same_who who step.act.who) (waiting who history)
