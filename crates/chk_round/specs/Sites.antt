-- By which of its works a round ended, and what the calls of that work show.
use Rattle.std.specs.Prelude.{◌⊎◌, ℕ, List, Option, Err}
use Rattle.chk_site.specs.History.{History, Every}
use Rattle.chk_site.specs.Runs.{Leads}
use Rattle.chk_site.specs.Site.{Adds}
use Rattle.chk_world.specs.Books.{Book}
use Rattle.chk_world.specs.JobSteps.{IsOf}
use Rattle.chk_world.specs.Knowing.{agent}
use Rattle.chk_world.specs.Places.{As}
use Rattle.chk_world.specs.Sight.{job}
use Rattle.chk_world.specs.Works.{Works}
use Rattle.chk_sink.specs.declared.fault.SinkFault.{SinkFault}
use Rattle.chk_sink.specs.Closes.{IsOfTick}
use Rattle.chk_sink.specs.Damage.{DamageCause, SpentCause}
use Rattle.chk_sink.specs.Faults.{ended_by}
use Rattle.chk_sink.specs.States.{State as Sinks, process}
use Rattle.chk_sink.specs.Works.{OfStart, OfTick}
use Rattle.chk_agent.specs.declared.answers.AgentFault.{AgentFault}
use Rattle.chk_agent.specs.Starts.{FindsCheckpoint, StartsAndReads}
use Rattle.chk_agent.specs.States.{State as Agents}
use Rattle.chk_archive.specs.Archived.{Archived, ArchivesBy, Begun}
use Rattle.chk_archive.specs.Shown.{ShowsArchived}
use Rattle.chk_exchange.specs.declared.fault.ExchangeFault.{ExchangeFault}
use Rattle.chk_exchange.specs.Exchanges.{PollsInside, PostsInside}
use Rattle.chk_record_index.specs.declared.fault.JobFault.{JobFault}
use Rattle.chk_round.specs.declared.faults.RoundFault.{RoundFault}
use Rattle.chk_round.specs.Faults.{of_agent, of_exchange, of_job, of_sinks}
use Rattle.chk_round.specs.Processes.{c1}
use Rattle.chk_round.specs.Scripts.{Anything}

-- A start of the round ended so. The collector `c1` started: a file that it read is damaged, or the
-- number of its starts is the last one. Or this source's agent started: its checkpoint is damaged.
pub data StartEnds (source : List ℕ) : RoundFault → Option History → Option History → Type 0 where
  collector_starts : {old new : Option History} (fault : SinkFault)
      → Works c1 (OfStart c1) (ended_by {T = Sinks} (Err fault)) old new
      → Adds old new (DamageCause {T = Sinks} (Err fault))
      → Adds old new (SpentCause {T = Sinks} (Err fault)) → StartEnds source (of_sinks fault) old new
  agent_starts : {old new : Option History} (fault : AgentFault)
      → StartsAndReads {T = Agents} (agent source) (Err fault) old new
      → FindsCheckpoint {T = Agents} (λ s. s.saved) (agent source) (Err fault) old new
      → StartEnds source (of_agent fault) old new

-- from a legal history an archive run that began with this book led to such an end
abbrev pub ArchivedSo : JobFault → Option History → Option History → Type 0
ArchivedSo fault old new =
    (stamped : List (List ℕ)) (loaded : Book) → Adds old new
    (Leads (As stamped job) (Begun stamped loaded) (Archived stamped loaded (Err fault)))

-- A work behind the starts ended so. A collector committed and closed its sinks: a file that it read
-- is damaged. A message was handled inside the process: its reply told so, or it wasn't what the agent
-- got. Or the job ran: own reads of that run show why a file is told to be damaged, and why the
-- numbers are told to be spent; and from a legal history it led to what is said of such an end, so
-- that
-- the numbers are spent only where none is left for a segment that was needed.
pub data WorkEnds : RoundFault → Option History → Option History → Type 0 where
  ticks : {old new : Option History} (s : Sinks) (fault : SinkFault) → IsOfTick fault
      → Works (process s) (OfTick s) (ended_by {T = Unit {0}} (Err fault)) old new
      → Adds old new (DamageCause {T = Unit {0}} (Err fault)) → WorkEnds (of_sinks fault) old new
  posts : {old new : Option History} (now : ℕ) (s t : Sinks) (a b : Agents) (fault : ExchangeFault)
      → PostsInside (process s) now s a (Err fault) t b old new
      → WorkEnds (of_exchange fault) old new
  polls : {old new : Option History} (s t : Sinks) (a b : Agents) (fault : ExchangeFault)
      → PollsInside (process s) s a (Err fault) t b old new → WorkEnds (of_exchange fault) old new
  archives : {old new : Option History} (fault : JobFault)
      → Adds old new (Every (IsOf ArchivesBy))
      → Adds old new (ShowsArchived {T = Unit {0}} (Err fault)) → ArchivedSo fault old new
      → WorkEnds (of_job fault) old new

-- the last ones of these calls are such an end
pub record EndsLast (Ends : Option History → Option History → Type 0) (old new : Option History)
    : Type 0 where
  pub behind : Option History
  pub went : Adds old behind Anything
  pub ends : Ends behind new

-- it was a start or a work behind the starts
abbrev pub IsEnd : List ℕ → RoundFault → Option History → Option History → Type 0
IsEnd source fault old new = StartEnds source fault old new ⊎ WorkEnds fault old new
