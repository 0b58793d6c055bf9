-- The faults of an agent's calls.
use Rattle.std.specs.Prelude.{◌≡◌, ℕ, ◌≤◌, Bool, true, false, ◌++◌, Result, Ok, Err}
use Rattle.chk_site.specs.declared.acts.OutsideFault.{OutsideFault}
use Rattle.chk_site.specs.declared.acts.OutsideFault.TheVariants.{Outside as site_failed}
use Rattle.chk_site.specs.declared.acts.OutsideFault.TheVariants.{NoMemory as no_memory}
use Rattle.chk_site.specs.History.{History, is_stopped}
use Rattle.chk_site.specs.Site.{Rose, EndsIn}
use Rattle.chk_checkpoint.specs.declared.fault.CheckFault.{CheckFault}
use Rattle.chk_checkpoint.specs.declared.fault.CheckFault.TheVariants.{Damaged as check_damaged}
use Rattle.chk_checkpoint.specs.declared.fault.CheckFault.TheVariants.{Outside as check_failed}
use Rattle.chk_checkpoint.specs.declared.fault.CheckFault.TheVariants.{NoMemory as check_wanting}
use Rattle.chk_agent_delivery.specs.declared.answers.Posted.{Posted}
use Rattle.chk_agent_delivery.specs.declared.answers.Posted.TheVariants.{Failed as post_failed}
use Rattle.chk_agent_delivery.specs.declared.answers.Answered.{Answered}
use Rattle.chk_agent_delivery.specs.declared.answers.Answered.TheVariants.{Silent}
use Rattle.chk_agent_delivery.specs.declared.answers.Polled.{Polled}
use Rattle.chk_agent_delivery.specs.declared.answers.Polled.TheVariants.{Failed as poll_failed}
use Rattle.chk_agent_delivery.specs.declared.answers.PollAnswer.{PollAnswer}
use Rattle.chk_agent_delivery.specs.declared.answers.PollAnswer.TheVariants.{Silent as poll_silent}
use Rattle.chk_agent.specs.declared.answers.AgentFault.{AgentFault}
use Rattle.chk_agent.specs.declared.answers.AgentFault.TheVariants.{Damaged, Outside, NoMemory}

-- a fault of the outside as an agent's
abbrev pub fault_of : OutsideFault → AgentFault
fault_of (site_failed call) = Outside call
fault_of no_memory = NoMemory

-- a fault of a load as an agent's
abbrev pub loaded_fault : CheckFault → AgentFault
loaded_fault (check_damaged at) = Damaged at
loaded_fault (check_failed call) = Outside call
loaded_fault check_wanting = NoMemory

-- without a failed call the count stays; a call whose failure is no error may raise it
abbrev pub AgentCause : {T : Type 0} → ℕ → ℕ → Result T AgentFault → Type 0
AgentCause before now (Err (Outside call)) = Rose before now × (before ≤ now)
AgentCause before now result = before ≤ now

-- the call that failed is the last one, where the site wasn't stopped
abbrev pub FailsLast : {T : Type 0} → Result T AgentFault → History → History → Type 0
FailsLast (Err (Outside call)) added history = is_stopped (added ++ history) ≡ false → EndsIn call added
FailsLast result added history = Unit {0}

-- only a start answers that the checkpoint is damaged
abbrev pub IsUndamaged : {T : Type 0} → Result T AgentFault → Type 0
IsUndamaged (Err (Damaged at)) = ⊥
IsUndamaged result = Unit {0}

-- a post or a poll, or the question for its reply, failed; it is no error
abbrev pub fails_post : Result Posted AgentFault → Bool
fails_post (Ok post_failed) = true
fails_post result = false

abbrev pub fails_answer : Result Answered AgentFault → Bool
fails_answer (Ok Silent) = true
fails_answer result = false

abbrev pub fails_poll : Result Polled AgentFault → Bool
fails_poll (Ok poll_failed) = true
fails_poll result = false

abbrev pub fails_lengths : Result PollAnswer AgentFault → Bool
fails_lengths (Ok poll_silent) = true
fails_lengths result = false
