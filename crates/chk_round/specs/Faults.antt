-- Why a round isn't done.
use Rattle.std.specs.Prelude.{◌≡◌, ◌⊎◌, ℕ, ◌≤◌, false, ◌++◌, Result, Err}
use Rattle.chk_site.specs.History.{History, is_stopped}
use Rattle.chk_site.specs.Site.{EndsIn, Rose}
use Rattle.chk_site.specs.Runs.{own_acts}
use Rattle.chk_sink.specs.declared.fault.SinkFault.{SinkFault}
use Rattle.chk_sink.specs.declared.fault.SinkFault.TheVariants.{Outside as sink_failed, Damaged as sink_damaged, Spent as sink_spent, NoMemory as sink_wanting}
use Rattle.chk_agent.specs.declared.answers.AgentFault.{AgentFault}
use Rattle.chk_agent.specs.declared.answers.AgentFault.TheVariants.{Outside as agent_failed, Damaged as agent_damaged, NoMemory as agent_wanting}
use Rattle.chk_exchange.specs.declared.fault.ExchangeFault.{ExchangeFault}
use Rattle.chk_exchange.specs.declared.fault.ExchangeFault.TheVariants.{Outside as inside_failed, NoMemory as inside_wanting, Damaged as inside_damaged, Spent as inside_spent, Refused as inside_refused}
use Rattle.chk_record_index.specs.declared.fault.JobFault.{JobFault}
use Rattle.chk_exchange.specs.Faults.{FailedInside}
use Rattle.chk_record_index.specs.declared.fault.JobFault.TheVariants.{Outside as job_failed, Damaged as job_damaged, Spent as job_spent, NoMemory as job_wanting}
use Rattle.chk_round.specs.declared.faults.RoundFault.{RoundFault}
use Rattle.chk_round.specs.declared.faults.RoundFault.TheVariants.{Outside, NoMemory, Damaged, Spent, Checkpoint, Refused}

-- a fault of the sinks as one of the round
abbrev pub of_sinks : SinkFault → RoundFault
of_sinks (sink_failed call) = Outside call
of_sinks (sink_damaged name at) = Damaged name at
of_sinks (sink_spent born) = Spent born
of_sinks sink_wanting = NoMemory

-- a fault of an exchange
abbrev pub of_exchange : ExchangeFault → RoundFault
of_exchange (inside_failed call) = Outside call
of_exchange inside_wanting = NoMemory
of_exchange (inside_damaged name at) = Damaged name at
of_exchange (inside_spent number) = Spent number
of_exchange (inside_refused code) = Refused code

-- a fault of the job
abbrev pub of_job : JobFault → RoundFault
of_job (job_failed call) = Outside call
of_job (job_damaged name at) = Damaged name at
of_job (job_spent number) = Spent number
of_job job_wanting = NoMemory

-- a fault of the agent
abbrev pub of_agent : AgentFault → RoundFault
of_agent (agent_failed call) = Outside call
of_agent (agent_damaged at) = Checkpoint at
of_agent agent_wanting = NoMemory

-- only a call of the outside that failed is told where the count rose
abbrev pub RoundCause : {T : Type 0} → ℕ → ℕ → Result T RoundFault → Type 0
RoundCause before now (Err (Outside call)) = Rose before now × (before ≤ now)
RoundCause before now result = before ≤ now

-- the call that failed is the last one, where the site wasn't stopped
abbrev pub FailsLast : {T : Type 0} → Result T RoundFault → History → History → Type 0
FailsLast (Err (Outside call)) added history = is_stopped (added ++ history) ≡ false → EndsIn call added
FailsLast result added history = Unit {0}

-- a call failed, or there was no memory
abbrev pub IsOfCall : RoundFault → Type 0
IsOfCall (Outside call) = Unit {0}
IsOfCall NoMemory = Unit {0}
IsOfCall fault = ⊥

-- Where the site wasn't stopped, the call that failed is the last one; or it failed while a message
-- inside the process was handled, and behind it the site itself made only the answering and the
-- getting.
abbrev pub FailsInside : {T : Type 0} → Result T RoundFault → History → History → Type 0
FailsInside (Err (Outside call)) added history =
    is_stopped (added ++ history) ≡ false → EndsIn call added ⊎ FailedInside call (own_acts added)
FailsInside result added history = Unit {0}
