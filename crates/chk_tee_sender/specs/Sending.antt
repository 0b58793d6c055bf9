-- Which sends a tee makes, and who is dropped.
use Rattle.std.specs.Prelude.{◌≡◌, ◌⊎◌, ℕ, suc, ◌<◌, ◌≤◌, List, [], ◌∷◌, length, Option, Result, Ok, Err}
use Rattle.chk_bytes.specs.declared.NoMemory.{NoMemory}
use Rattle.chk_site.specs.declared.acts.Who.{Who}
use Rattle.chk_site.specs.declared.acts.Call.TheVariants.{Send}
use Rattle.chk_site.specs.declared.acts.CallFault.{CallFault}
use Rattle.chk_site.specs.declared.acts.CallFault.TheVariants.{Failed, NoMemory as no_memory}
use Rattle.chk_site.specs.History.{History}
use Rattle.chk_site.specs.Site.{Adds, Asked, asked, answered, sized, CallsSome, Rose}
use Rattle.chk_tee.specs.Messages.{Teed, IsTee, written_tee}
use Rattle.chk_tee.specs.Filters.{passing}
use Rattle.chk_tee_sender.specs.declared.Subscriber.{Subscriber}
use Rattle.chk_tee_sender.specs.declared.sending.Sending.{Sending}
use Rattle.chk_tee_sender.specs.declared.sending.Sending.TheVariants.{Nothing, Sent, Lost}

-- the chunks that a subscriber wants
abbrev pub wanted : Subscriber → List Teed → List Teed
wanted s items = passing s.filter items

-- the call that sends these chunks to a subscriber, as the message of this number
abbrev pub sending : Who → Subscriber → List Teed → ℕ → Asked
sending who s items n = asked who Send (s.address ∷ written_tee (wanted s items) ∷ []) n 0

-- The subscriber was sent just the chunks that it wants, in one message of them, and the site answered so.
pub record IsSentTo (who : Who) (items : List Teed) (s : Subscriber) (given : Result ℕ CallFault) (old new : Option History) : Type 0 where
  pub some : 0 < length (wanted s items)
  pub tee : IsTee (wanted s items) (written_tee (wanted s items))
  pub told : Adds old new (CallsSome (sending who s items) (λ n. answered sized given))

-- what became of one subscriber
abbrev pub IsPassedTo : Who → List Teed → Subscriber → Result Sending NoMemory → Option History → Option History → Type 0
IsPassedTo who items s (Ok Nothing) old new = (wanted s items ≡ []) × (new ≡ old)
IsPassedTo who items s (Ok Sent) old new = (n : ℕ) × IsSentTo who items s (Ok n) old new
IsPassedTo who items s (Ok Lost) old new = IsSentTo who items s (Err Failed) old new
IsPassedTo who items s (Err fault) old new = (new ≡ old) ⊎ IsSentTo who items s (Err no_memory) old new

-- The subscribers in turn: who wants none of the chunks is sent nothing, each other one is sent one message, and who couldn't
-- be sent it is dropped. Those that stay are given, and how many were sent to and dropped. Want of memory ends it.
pub data PassesOn (who : Who) (items : List Teed) : List Subscriber → List Subscriber → ℕ → ℕ → Result (Unit {0}) NoMemory
    → Option History → Option History → Type 0 where
  all_passed : {now : Option History} → PassesOn who items [] [] 0 0 (Ok tt) now now
  wanting : {rest : List Subscriber} {fault : NoMemory} {now : Option History}
      → PassesOn who items rest rest 0 0 (Err fault) now now
  passed_by : {s : Subscriber} {rest stay : List Subscriber} {sent lost : ℕ} {end : Result (Unit {0}) NoMemory}
      {old mid new : Option History}
      → IsPassedTo who items s (Ok Nothing) old mid → PassesOn who items rest stay sent lost end mid new
      → PassesOn who items (s ∷ rest) (s ∷ stay) sent lost end old new
  sent_to : {s : Subscriber} {rest stay : List Subscriber} {sent lost : ℕ} {end : Result (Unit {0}) NoMemory}
      {old mid new : Option History}
      → IsPassedTo who items s (Ok Sent) old mid → PassesOn who items rest stay sent lost end mid new
      → PassesOn who items (s ∷ rest) (s ∷ stay) (suc sent) lost end old new
  dropped : {s : Subscriber} {rest stay : List Subscriber} {sent lost : ℕ} {end : Result (Unit {0}) NoMemory}
      {old mid new : Option History}
      → IsPassedTo who items s (Ok Lost) old mid → PassesOn who items rest stay sent lost end mid new
      → PassesOn who items (s ∷ rest) stay sent (suc lost) end old new
  ended : {s : Subscriber} {rest : List Subscriber} {fault : NoMemory} {old new : Option History}
      → IsPassedTo who items s (Err fault) old new
      → PassesOn who items (s ∷ rest) (s ∷ rest) 0 0 (Err fault) old new

-- only a send that failed raises the count, and then a subscriber is dropped
abbrev pub SendCause : ℕ → ℕ → Result Sending NoMemory → Type 0
SendCause before now (Ok Lost) = Rose before now × (before ≤ now)
SendCause before now result = now ≡ before
