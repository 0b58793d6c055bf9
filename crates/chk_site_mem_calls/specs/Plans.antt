-- A call that is to be made.
use Rattle.std.specs.Prelude.{◌≡◌, ℕ, false, List, [], ◌∷◌, Result, Ok, Err}
use Rattle.chk_site.specs.declared.acts.Act.{Act}
use Rattle.chk_site.specs.declared.acts.CallFault.{CallFault}
use Rattle.chk_site.specs.declared.acts.CallFault.TheVariants.{Failed, NoMemory}
use Rattle.chk_site.specs.declared.acts.ActAnswer.{ActAnswer}
use Rattle.chk_site.specs.declared.acts.ActAnswer.TheVariants.{Done, Refused}
use Rattle.chk_site.specs.declared.acts.Who.{Who}
use Rattle.chk_site.specs.Acts.{Deed, Gets, Takes, deed_by, is_stop}
use Rattle.chk_site.specs.History.{History}
use Rattle.chk_site.specs.Honest.{Agrees, MailboxOrder}
use Rattle.chk_site.specs.Messages.{replies}
use Rattle.chk_site.specs.Site.{Asked}
use Rattle.chk_site_mem_store.specs.State.{State}
use Rattle.chk_site_mem_store.specs.Told.{told_of}
use Rattle.chk_site_mem_calls.specs.declared.mail.Mailbox.{Mailbox}
use Rattle.chk_site_mem_calls.specs.Mail.{IsMailbox, waits}
use Rattle.chk_site_mem_calls.specs.Replies.{got_of}
use Rattle.chk_site_mem_calls.specs.declared.plan.Planned.{Planned}

-- the act of a call with this answer
abbrev pub act_of : Asked → ActAnswer → Act
act_of q answer = record { who = q.who; call = q.call; words = q.words; number = q.number; max = q.max; answer = answer }

-- an act that is to be made, and what its call gives then
abbrev pub planned_as : {T : Type 0} → Act → Result T CallFault → Planned T
planned_as act gives = record { act = act; gives = gives }

-- the act's answer says what the call gives: a value, or a refusal for the state of the files
abbrev pub AnswersAs : {T : Type 0} → (T → ActAnswer) → Result T CallFault → ActAnswer → Type 0
AnswersAs how (Ok value) answer = answer ≡ how value
AnswersAs how (Err Failed) answer = ⊥
AnswersAs how (Err NoMemory) answer = ⊥
AnswersAs how (Err fault) answer = answer ≡ Refused fault

-- what is taken at a door is the oldest message that waits there, whole, but for the takings of these numbers, which are repeated
pub record TakesOldest (repeated : List ℕ) (history : History) (who : Who) (door : List ℕ) (words : List (List ℕ)) (of : ℕ) : Type 0 where
  pub box : Mailbox
  pub at : IsMailbox who door repeated box
  pub oldest : MailboxOrder history (waits box history) words of

-- no message is lost: the oldest is taken, but for these takings that are repeated, and an answer that was made is got whole
abbrev pub LosesNothing : List ℕ → History → Who → Deed → ActAnswer → Type 0
LosesNothing repeated history who (Takes door wait) (Done words number of) = TakesOldest repeated history who door words of
LosesNothing repeated history who (Gets m) (Done words number of) = words ≡ got_of (replies history m) ∷ []
LosesNothing repeated history who call answer = Unit {0}

-- the planned act is one of this call; its answer agrees with what is kept, loses nothing and says what the call gives
pub record Plans {T : Type 0} (q : Asked) (how : T → ActAnswer) (s : State) (planned : Planned T) : Type 0 where
  pub act_is : planned.act ≡ act_of q planned.act.answer
  pub agrees : Agrees (told_of s.kept) q.who (deed_by q.call q.words q.number q.max) planned.act.answer
  pub loses : LosesNothing s.repeats.numbers (told_of s.kept) q.who (deed_by q.call q.words q.number q.max) planned.act.answer
  pub answers : AnswersAs how planned.gives planned.act.answer
  pub runs : is_stop planned.act.answer ≡ false
