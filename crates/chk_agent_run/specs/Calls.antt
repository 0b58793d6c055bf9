-- One call on the outside, and what it is taken for.
use Rattle.std.specs.Prelude.{◌≡◌, ℕ, [], ◌∷◌, List, Option, Result, Ok, Err}
use Rattle.chk_site.specs.declared.acts.Who.{Who}
use Rattle.chk_site.specs.declared.acts.Call.{Call}
use Rattle.chk_site.specs.declared.acts.Call.TheVariants.{Take, Clock, Pause}
use Rattle.chk_site.specs.declared.acts.CallFault.{CallFault}
use Rattle.chk_site.specs.declared.acts.CallFault.TheVariants.{Failed, NoMemory as site_wanting}
use Rattle.chk_site.specs.declared.acts.ActAnswer.{ActAnswer}
use Rattle.chk_site.specs.declared.suffixes.Taking.{Taking}
use Rattle.chk_site.specs.History.{History}
use Rattle.chk_site.specs.Site.{Adds, Asked, asked, answered, sized, plain, taking_given, Calls, CallsSome}
use Rattle.chk_agent.specs.declared.answers.AgentFault.{AgentFault}
use Rattle.chk_agent.specs.declared.answers.AgentFault.TheVariants.{Outside, NoMemory}

-- what a call's answer is taken for: its value, its failure, or want of memory
abbrev pub Gives : {T : Type 0} → Call → Result T CallFault → Result T AgentFault → Type 0
Gives call (Ok value) result = result ≡ Ok value
Gives call (Err Failed) result = result ≡ Err (Outside call)
Gives call (Err site_wanting) result = result ≡ Err NoMemory
Gives call (Err fault) result = ⊥

-- one call was made, and is taken for this
pub record Made {T : Type 0} (q : Asked) (how : T → ActAnswer) (result : Result T AgentFault) (old new : Option History) : Type 0 where
  pub given : Result T CallFault
  pub gives : Gives q.call given result
  pub told : Adds old new (Calls q (answered how given))

-- a message was taken at the door, where one was there; nothing was waited for
pub record Took (who : Who) (door : List ℕ) (result : Result (Option Taking) AgentFault) (old new : Option History) : Type 0 where
  pub given : Result (Option Taking) CallFault
  pub gives : Gives Take given result
  pub told : Adds old new
      (CallsSome (λ of. asked who Take (door ∷ []) 0 0) (λ of. answered (taking_given of) given))

-- the time was asked for
abbrev pub Clocked : Who → Result ℕ AgentFault → Option History → Option History → Type 0
Clocked who result old new = Made (asked who Clock [] 0 0) sized result old new

-- so many milliseconds were waited
abbrev pub Paused : Who → ℕ → Result (Unit {0}) AgentFault → Option History → Option History → Type 0
Paused who pause result old new = Made (asked who Pause [] pause 0) plain result old new
