-- Which processes act for a command, and what is supposed of all others.
use Rattle.std.specs.Prelude.{ℕ, List, [], ◌∷◌, ◌++◌, codes}
use Rattle.chk_site.specs.declared.acts.Who.{Who}
use Rattle.chk_site.specs.declared.acts.Role.TheVariants.{Agent as agent_role, Collector as collector_role, Writer}
use Rattle.chk_site.specs.Runs.{Side}
use Rattle.chk_world.specs.Sight.{job}
use Rattle.chk_world.specs.Together.{Together}
use Rattle.chk_round.specs.Processes.{processes}
use Rattle.chk_cmd_line.specs.Commands.{Asked, Round, Agent, Collector, Drain, Archive, Demux, Salvage, Load, Udp, Subscribe, Join}
use Rattle.chk_cmd_load.specs.Processes.{chukwa}

abbrev pub the_agent : List ℕ → Who
the_agent source = record { role = agent_role; name = source }

-- the writer of datagrams of this name
abbrev pub the_writer : List ℕ → Who
the_writer name = record { role = Writer; name = name }

-- the watcher of a run
abbrev pub the_watcher : Who
the_watcher = record { role = Writer; name = codes "tee" }

abbrev pub the_collector : List ℕ → Who
the_collector name = record { role = collector_role; name = name }

-- The processes that a command starts. Of these nobody else acts as one, and no stop of others
-- names a file.
abbrev pub started_by : Asked → List Who
started_by (Round w) = processes w.source
started_by (Agent w) = the_agent w.source ∷ []
started_by (Collector w) = the_collector w.name ∷ []
started_by (Drain w) = the_agent w.source ∷ []
started_by Archive = job ∷ []
started_by (Demux kinds) = job ∷ []
started_by (Salvage file) = []
started_by (Load lines) = processes (codes "load")
started_by (Udp w) = []
started_by (Subscribe w) = []
started_by (Join w) = job ∷ []

-- a writer of datagrams and a watcher act too, though nothing is supposed of others on their account
abbrev pub acting_first : Asked → List Who
acting_first (Udp w) = the_writer w.name ∷ []
acting_first (Subscribe w) = the_watcher ∷ []
acting_first command = started_by command

-- And those that act for it. The writer needs no start, and all files outside the folders are
-- every writer's, so nothing is supposed of stops that name one.
abbrev pub acting_for : Asked → List Who
acting_for command = acting_first command ++ chukwa ∷ []

-- the side of a run: each step of others obeys its rule, and each of its own is by one of these
abbrev pub RunSide : List (List ℕ) → Asked → Side
RunSide stamped command = Together stamped (started_by command) (acting_for command)
