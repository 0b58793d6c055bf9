-- A collector and an agent that have begun, at the time that the agent asked for.
use Rattle.std.specs.Prelude.{ℕ, Result, Ok, Err}
use Rattle.chk_sink.specs.States.{State as Sinks}
use Rattle.chk_agent.specs.States.{State as Agents}
use Rattle.chk_round.specs.declared.faults.RoundFault.{RoundFault}
use Rattle.chk_round.specs.declared.starting.Pair.{Pair}

-- these two at this time
abbrev pub pair_at : Sinks → Agents → ℕ → Pair
pair_at s a now = record { collector = s; agent = a; now = now }

-- the time of a pair
abbrev pub moment_of : Result Pair RoundFault → Result ℕ RoundFault
moment_of (Ok pair) = Ok pair.now
moment_of (Err fault) = Err fault
