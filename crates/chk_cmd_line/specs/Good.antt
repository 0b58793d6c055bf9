-- What holds of the words of each command.
use Rattle.std.specs.Prelude.{ℕ, ◌≤◌, List, length, IfSome, IsTrue, Option}
use Rattle.std.specs.List.{list_all}
use Rattle.chk_bytes.specs.Words.{is_word}
use Rattle.chk_bytes.specs.Stems.{is_collector}
use Rattle.chk_cmd_line.specs.Names.{is_source, are_words, most}
use Rattle.chk_cmd_line.specs.Datagrams.{IsGoodUdp}
use Rattle.chk_cmd_line.specs.Subscribing.{IsGoodSubscribe}
use Rattle.chk_cmd_line.specs.Joining.{IsGoodJoin}
use Rattle.chk_cmd_line.specs.Commands.{Asked, Round, Agent, Collector, Drain, Archive, Demux, Salvage, Load, Udp, Subscribe, Join, RoundAsked, AgentAsked, CollectorAsked, DrainAsked}

-- the number is in these bounds
abbrev pub IsIn : ℕ → ℕ → ℕ → Type 0
IsIn least most n = (least ≤ n) × (n ≤ most)

-- the word, if it is there
abbrev pub IsWordIfAny : Option (List ℕ) → Type 0
IsWordIfAny word = IfSome word (λ text. IsTrue (is_word text))

-- the words of `round`
abbrev pub IsGoodRound : RoundAsked → Type 0
IsGoodRound w =
    IsTrue (is_source w.source) × IsTrue (is_word w.kind)
    × IsTrue (are_words 1 (length w.logs) w.logs)
    × IsTrue (is_word w.cluster) × IsIn 1 most w.reads

-- the words of `agent`
abbrev pub IsGoodAgent : AgentAsked → Type 0
IsGoodAgent w =
    IsTrue (is_source w.source) × IsTrue (are_words 1 64 w.collectors) × IsTrue (is_word w.cluster)
    × IsWordIfAny w.initial × IsWordIfAny w.control
    × IsIn 1 most w.turns × IsIn 0 most w.poll × IsIn 0 most w.expire
    × IsIn 0 200 w.pause

-- the words of `collector`
abbrev pub IsGoodCollector : CollectorAsked → Type 0
IsGoodCollector w =
    IsTrue (is_collector w.name) × IsTrue (is_word w.address)
    × IsIn 0 most w.rotate × IsIn 1 most w.turns × IsIn 1 64 w.messages × IsWordIfAny w.tee

-- the words of `drain`
abbrev pub IsGoodDrain : DrainAsked → Type 0
IsGoodDrain w =
    IsTrue (is_source w.source) × IsTrue (are_words 1 64 w.collectors) × IsTrue (is_word w.cluster)
    × IsWordIfAny w.initial × IsIn 1 most w.reads × IsIn 1 1000000 w.polls

-- the words of a command
abbrev pub IsGood : Asked → Type 0
IsGood (Round w) = IsGoodRound w
IsGood (Agent w) = IsGoodAgent w
IsGood (Collector w) = IsGoodCollector w
IsGood (Drain w) = IsGoodDrain w
IsGood Archive = Unit {0}
IsGood (Demux kinds) = IsTrue (list_all is_word kinds)
IsGood (Salvage file) = IsTrue (is_word file)
IsGood (Load lines) = IsIn 1 200000 lines
IsGood (Udp w) = IsGoodUdp w
IsGood (Subscribe w) = IsGoodSubscribe w
IsGood (Join w) = IsGoodJoin w
