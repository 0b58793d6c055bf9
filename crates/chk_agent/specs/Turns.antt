-- The posts and polls of an agent, and a turn: fill, post and its reply, poll and its reply, settle.
use Rattle.std.specs.Prelude.{◌≡◌, ℕ, Bool, true, false, Option, Result, Ok, Err}
use Rattle.chk_bytes.specs.declared.NoMemory.{NoMemory as Wanting}
use Rattle.chk_site.specs.History.{History}
use Rattle.chk_agent_delivery.specs.declared.answers.Posted.{Posted}
use Rattle.chk_agent_delivery.specs.declared.answers.Answered.{Answered}
use Rattle.chk_agent_delivery.specs.declared.answers.Polled.{Polled}
use Rattle.chk_agent_delivery.specs.declared.answers.Polled.TheVariants.{Sent as poll_sent}
use Rattle.chk_agent_delivery.specs.declared.answers.Polled.TheVariants.{Failed as poll_failed}
use Rattle.chk_agent_delivery.specs.declared.answers.PollAnswer.{PollAnswer}
use Rattle.chk_agent_delivery.specs.States.{State as Delivery}
use Rattle.chk_agent_delivery.specs.Scripts.{IsPosted, IsPostReplied, IsPolled, IsPollReplied}
use Rattle.chk_agent_delivery.specs.Turns.{is_due, polled_at}
use Rattle.chk_agent.specs.declared.answers.AgentFault.{AgentFault}
use Rattle.chk_agent.specs.declared.answers.AgentFault.TheVariants.{NoMemory}
use Rattle.chk_agent.specs.declared.answers.Filled.{Filled}
use Rattle.chk_agent.specs.declared.answers.Settled.{Settled}
use Rattle.chk_agent.specs.States.{State, process, to_step}
use Rattle.chk_agent.specs.Fills.{IsFilled}
use Rattle.chk_agent.specs.Pieces.{gave_piece}
use Rattle.chk_agent.specs.Settles.{IsSettled}

abbrev pub with_delivery : State → Delivery → State
with_delivery s d = record s { delivery = d }

-- the answer of a call that takes no file, as an agent's
abbrev pub as_agent : {T : Type 0} → Result T Wanting → Result T AgentFault
as_agent (Ok value) = Ok value
as_agent (Err fault) = Err NoMemory

-- ---- the four calls

pub record Posts (s : State) (result : Result Posted AgentFault) (t : State) (old new : Option History) : Type 0 where
  pub given : Result Posted Wanting
  pub delivery : Delivery
  pub made : IsPosted (process s) s.delivery given delivery old new
  pub result_is : result ≡ as_agent given
  pub state_is : t ≡ with_delivery s delivery

pub record GetsPostReply (now : ℕ) (s : State) (result : Result Answered AgentFault) (t : State) (old new : Option History) : Type 0 where
  pub given : Result Answered Wanting
  pub delivery : Delivery
  pub made : IsPostReplied (process s) now s.delivery given delivery old new
  pub result_is : result ≡ as_agent given
  pub state_is : t ≡ with_delivery s delivery

pub record Polls (s : State) (result : Result Polled AgentFault) (t : State) (old new : Option History) : Type 0 where
  pub given : Result Polled Wanting
  pub delivery : Delivery
  pub made : IsPolled (process s) s.delivery given delivery old new
  pub result_is : result ≡ as_agent given
  pub state_is : t ≡ with_delivery s delivery

pub record GetsLengths (s : State) (result : Result PollAnswer AgentFault) (t : State) (old new : Option History) : Type 0 where
  pub given : Result PollAnswer Wanting
  pub delivery : Delivery
  pub made : IsPollReplied (process s) s.delivery given delivery old new
  pub result_is : result ≡ as_agent given
  pub state_is : t ≡ with_delivery s delivery

-- ---- a poll, where one is due

-- the moment of a poll that was sent is kept
abbrev pub note_poll : ℕ → State → State
note_poll now s = with_delivery s (polled_at now s.delivery)

pub data PollsIfDue (now : ℕ) (s : State) : Result (Unit {0}) AgentFault → State → Option History → Option History → Type 0 where
  not_due : {at : Option History} → is_due now s.delivery ≡ false → PollsIfDue now s (Ok tt) s at at
  unsent : {t : State} {old new : Option History} → is_due now s.delivery ≡ true → Polls s (Ok poll_failed) t old new
      → PollsIfDue now s (Ok tt) t old new
  asked : {t u : State} {old mid new : Option History} (count : ℕ) (answer : PollAnswer) → is_due now s.delivery ≡ true
      → Polls s (Ok (poll_sent count)) t old mid → GetsLengths (note_poll now t) (Ok answer) u mid new
      → PollsIfDue now s (Ok tt) u old new
  refused : {t : State} {old new : Option History} (fault : AgentFault) → is_due now s.delivery ≡ true
      → Polls s (Err fault) t old new → PollsIfDue now s (Err fault) t old new
  unanswered : {t u : State} {old mid new : Option History} (count : ℕ) (fault : AgentFault) → is_due now s.delivery ≡ true
      → Polls s (Ok (poll_sent count)) t old mid → GetsLengths (note_poll now t) (Err fault) u mid new
      → PollsIfDue now s (Err fault) u old new

-- ---- a turn

-- Each part in its order, up to one that was refused. It answers whether a step gave as much as one may.
pub data IsTurned (now : ℕ) (s : State) : Result Bool AgentFault → State → Option History → Option History → Type 0 where
  unfilled : {t : State} {old new : Option History} (fault : AgentFault)
      → IsFilled (to_step s) 0 s (Err fault) t old new → IsTurned now s (Err fault) t old new
  unposted : {t u : State} {old mid new : Option History} (filled : Filled) (fault : AgentFault)
      → IsFilled (to_step s) 0 s (Ok filled) t old mid → Posts t (Err fault) u mid new → IsTurned now s (Err fault) u old new
  unanswered : {t u v : State} {old mid next new : Option History} (filled : Filled) (posted : Posted) (fault : AgentFault)
      → IsFilled (to_step s) 0 s (Ok filled) t old mid → Posts t (Ok posted) u mid next
      → GetsPostReply now u (Err fault) v next new → IsTurned now s (Err fault) v old new
  unpolled : {t u v w : State} {old mid next then new : Option History} (filled : Filled) (posted : Posted) (answered : Answered)
      (fault : AgentFault)
      → IsFilled (to_step s) 0 s (Ok filled) t old mid → Posts t (Ok posted) u mid next
      → GetsPostReply now u (Ok answered) v next then → PollsIfDue now v (Err fault) w then new
      → IsTurned now s (Err fault) w old new
  unsettled : {t u v w x : State} {old mid next then late new : Option History} (filled : Filled) (posted : Posted) (answered : Answered)
      (fault : AgentFault)
      → IsFilled (to_step s) 0 s (Ok filled) t old mid → Posts t (Ok posted) u mid next
      → GetsPostReply now u (Ok answered) v next then → PollsIfDue now v (Ok tt) w then late
      → IsSettled now w (Err fault) x late new → IsTurned now s (Err fault) x old new
  turned : {t u v w x : State} {old mid next then late new : Option History} (filled : Filled) (posted : Posted) (answered : Answered)
      (settled : Settled)
      → IsFilled (to_step s) 0 s (Ok filled) t old mid → Posts t (Ok posted) u mid next
      → GetsPostReply now u (Ok answered) v next then → PollsIfDue now v (Ok tt) w then late
      → IsSettled now w (Ok settled) x late new → IsTurned now s (Ok (gave_piece s t)) x old new
