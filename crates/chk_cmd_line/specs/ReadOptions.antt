-- The options of a command, which are read before its other words.
use Rattle.std.specs.Prelude.{◌≡◌, ◌&&◌, false, option_map, map, Option, Some, None, IsTrue, List, [], ◌∷◌, length}
use Rattle.chk_bytes.specs.Words.{is_word}
use Rattle.clap.specs.Walk.{Row, Text}
use Rattle.chk_cmd_line.specs.Names.{most, is_source, are_words}
use Rattle.chk_cmd_line.specs.Options.{plain_of}
use Rattle.chk_cmd_line.specs.Good.{IsIn, IsWordIfAny}
use Rattle.chk_cmd_line.specs.Asked.{given, asked_round, asked_agent, asked_collector, asked_drain, round_with, agent_with, collector_with, drain_with}
use Rattle.chk_cmd_line.specs.declared.reading.RoundOptions.{RoundOptions}
use Rattle.chk_cmd_line.specs.declared.reading.AgentOptions.{AgentOptions}
use Rattle.chk_cmd_line.specs.declared.reading.CollectorOptions.{CollectorOptions}
use Rattle.chk_cmd_line.specs.declared.reading.DrainOptions.{DrainOptions}
use Rattle.chk_cmd_line.specs.declared.reading.Peers.{Peers}
use Rattle.chk_cmd_line.specs.declared.reading.Logs.{Logs}

-- with them the other words tell what is asked for; where they are wrong, nothing is asked for
abbrev pub ReadsRoundOptions : List Row → Option RoundOptions → Type 0
ReadsRoundOptions rows (Some o) =
    asked_round rows ≡ given (plain_of rows) (round_with o.class o.reads o.cluster.now)
ReadsRoundOptions rows None = asked_round rows ≡ None

abbrev pub ReadsAgentOptions : List Row → Option AgentOptions → Type 0
ReadsAgentOptions rows (Some o) =
    asked_agent rows
    ≡ given (plain_of rows)
    (agent_with (option_map (λ w. w.now) o.initial) (option_map (λ w. w.now) o.control)
    o.turns o.poll o.expire o.pause o.cluster.now)
ReadsAgentOptions rows None = asked_agent rows ≡ None

abbrev pub ReadsCollectorOptions : List Row → Option CollectorOptions → Type 0
ReadsCollectorOptions rows (Some o) =
    asked_collector rows
    ≡ given (plain_of rows)
    (collector_with o.rotate o.turns o.messages (option_map (λ w. w.now) o.tee))
ReadsCollectorOptions rows None = asked_collector rows ≡ None

abbrev pub ReadsDrainOptions : List Row → Option DrainOptions → Type 0
ReadsDrainOptions rows (Some o) =
    asked_drain rows
    ≡ given (plain_of rows)
    (drain_with (option_map (λ w. w.now) o.initial) o.reads o.polls o.cluster.now)
ReadsDrainOptions rows None = asked_drain rows ≡ None

-- they are good ones
abbrev pub AreGoodRound : RoundOptions → Type 0
AreGoodRound o = IsTrue (is_word o.cluster.now) × IsIn 1 most o.reads

abbrev pub AreGoodAgent : AgentOptions → Type 0
AreGoodAgent o =
    IsTrue (is_word o.cluster.now)
    × IsWordIfAny (option_map (λ w. w.now) o.initial)
    × IsWordIfAny (option_map (λ w. w.now) o.control)
    × IsIn 1 most o.turns × IsIn 0 most o.poll × IsIn 0 most o.expire
    × IsIn 0 200 o.pause

abbrev pub AreGoodCollector : CollectorOptions → Type 0
AreGoodCollector o =
    IsIn 0 most o.rotate × IsIn 1 most o.turns × IsIn 1 64 o.messages
    × IsWordIfAny (option_map (λ w. w.now) o.tee)

abbrev pub AreGoodDrain : DrainOptions → Type 0
AreGoodDrain o =
    IsTrue (is_word o.cluster.now)
    × IsWordIfAny (option_map (λ w. w.now) o.initial)
    × IsIn 1 most o.reads × IsIn 1 1000000 o.polls

-- they aren't a source and collectors
abbrev pub ArePeersWrong : Option (List Text) → Type 0
ArePeersWrong None = Unit {0}
ArePeersWrong (Some []) = Unit {0}
ArePeersWrong (Some (source ∷ collectors)) =
    (is_source source && are_words 1 64 collectors) ≡ false

-- they aren't a source, a type and logs
abbrev pub AreLogsWrong : Option (List Text) → Type 0
AreLogsWrong (Some (source ∷ kind ∷ logs)) =
    (is_source source && is_word kind && are_words 1 (length logs) logs) ≡ false
AreLogsWrong plain = Unit {0}

-- the words of `agent` and `drain` that are no options
abbrev pub ReadsPeers : List Row → Option Peers → Type 0
ReadsPeers rows (Some p) =
    plain_of rows ≡ Some (p.source.now ∷ map (λ w. w.now) p.collectors.now)
ReadsPeers rows None = ArePeersWrong (plain_of rows)

abbrev pub AreGoodPeers : Peers → Type 0
AreGoodPeers p =
    IsTrue (is_source p.source.now)
    × IsTrue (are_words 1 64 (map (λ w. w.now) p.collectors.now))

-- the words of `round` that are no options
abbrev pub ReadsLogs : List Row → Option Logs → Type 0
ReadsLogs rows (Some l) =
    plain_of rows ≡ Some (l.source.now ∷ l.kind.now ∷ map (λ w. w.now) l.paths.now)
ReadsLogs rows None = AreLogsWrong (plain_of rows)

abbrev pub AreGoodLogs : Logs → Type 0
AreGoodLogs l =
    IsTrue (is_source l.source.now) × IsTrue (is_word l.kind.now)
    × IsTrue (are_words 1 (length (map (λ w. w.now) l.paths.now)) (map (λ w. w.now) l.paths.now))
