-- A drain as a command: its script, and what the status 0 says of it.
use Rattle.std.specs.Prelude.{ℕ, List, ◌++◌, Option, Some, Result, Ok}
use Rattle.chk_site.specs.History.{History}
use Rattle.chk_failover.specs.Turns.{Turns}
use Rattle.chk_agent.specs.declared.agent.Rules.{Rules}
use Rattle.chk_agent_run.specs.declared.run.TheConstants.{ROWS, QUEUE}
use Rattle.chk_cmd_drain.specs.declared.faults.DrainFault.{DrainFault}
use Rattle.chk_cmd_drain.specs.declared.run.Work.{Work}
use Rattle.chk_cmd_drain.specs.Done.{DrainDone}
use Rattle.chk_cmd_drain.specs.Drains.{HasDrained}
use Rattle.chk_cmd_line.specs.Commands.{DrainAsked}
use Rattle.chukwa_run.specs.declared.draining.Setting.{Setting}
use Rattle.chukwa_run.specs.Processes.{the_agent}
use Rattle.chk_cmd_load.specs.Processes.{chukwa}

-- the ring stands at its first address
abbrev pub ring_at : List (List ℕ) → Turns
ring_at addresses = record { addresses = addresses; place = 0; failures = 0 }

-- polls lie 1,000 ms apart, and no chunk expires within the run
abbrev pub drain_rules : List ℕ → Rules
drain_rules cluster =
    record { rows = ROWS; queue = QUEUE; poll = 1000; expire = 300000; cluster = cluster }

abbrev pub drain_work : DrainAsked → Work
drain_work w = record { initial = w.initial; reads = w.reads; polls = w.polls }

-- with what a drain is run
abbrev pub setting_of : DrainAsked → Setting
setting_of w = record {
  who = the_agent w.source;
  writer = chukwa;
  ring = ring_at w.collectors;
  rules = drain_rules w.cluster;
  work = drain_work w;
}

-- the script of a drain in this setting
abbrev pub HasDrainedIn : Setting → Result Unit DrainFault → Option History → Option History
    → Type 0
HasDrainedIn s result old new = HasDrained s.who s.writer s.ring s.rules s.work result old new

-- The script of the run: the reads of the initial file, the start, the time, the lines of the file,
-- and the drain. Where it is done, the checkpoint says how far each stream that was live was read,
-- and just the lines of these streams were printed; where none was live, nothing more.
abbrev pub DrainScript : DrainAsked → Result Unit DrainFault → History → History → Type 0
DrainScript w result earlier added =
    HasDrainedIn (setting_of w) result (Some earlier) (Some (added ++ earlier))

-- Each live line of the checkpoint is at the end that the whole log of its stream had at a moment
-- behind the start, and just the live lines were printed then. Live are the streams that were so
-- at the start, and those that the initial file adds.
pub record DrainWhole (w : DrainAsked) (earlier added : History) : Type 0 where
  pub ran : DrainScript w (Ok tt) earlier added
  pub done : DrainDone (the_agent w.source) chukwa w.initial added earlier
