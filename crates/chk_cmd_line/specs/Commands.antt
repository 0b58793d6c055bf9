-- What a run is asked for: a command with its options and words.
use Rattle.std.specs.Prelude.{◌≡◌, ℕ, List, map, Option, Some, None, option_map, Result, Ok, Err}
use Rattle.chk_control.specs.declared.Class.{Class}
use Rattle.chk_cmd_line.specs.declared.commands.WordsFault.{WordsFault}
use Rattle.chk_cmd_line.specs.declared.commands.WordsFault.TheVariants.{Usage, NoMemory}
use Rattle.chk_cmd_line.specs.declared.commands.RoundWords.{RoundWords}
use Rattle.chk_cmd_line.specs.declared.commands.AgentWords.{AgentWords}
use Rattle.chk_cmd_line.specs.declared.commands.CollectorWords.{CollectorWords}
use Rattle.chk_cmd_line.specs.declared.commands.DrainWords.{DrainWords}
use Rattle.chk_cmd_line.specs.Datagrams.{UdpAsked, udp_of}
use Rattle.chk_cmd_line.specs.Subscribing.{SubscribeAsked, subscribe_of}
use Rattle.chk_cmd_line.specs.Joining.{JoinAsked, join_of}
use Rattle.chk_cmd_line.specs.declared.commands.Command.{Command}
use Rattle.chk_cmd_line.specs.declared.commands.Command.TheVariants as words

-- the words of `round`
pub record RoundAsked : Type 0 where
  pub class : Class
  pub reads : ℕ
  pub cluster : List ℕ
  pub source : List ℕ
  pub kind : List ℕ
  pub logs : List (List ℕ)

-- the words of `agent`
pub record AgentAsked : Type 0 where
  pub initial : Option (List ℕ)
  pub control : Option (List ℕ)
  pub turns : ℕ
  pub poll : ℕ
  pub expire : ℕ
  pub pause : ℕ
  pub cluster : List ℕ
  pub source : List ℕ
  pub collectors : List (List ℕ)

-- the words of `collector`
pub record CollectorAsked : Type 0 where
  pub rotate : ℕ
  pub turns : ℕ
  pub messages : ℕ
  pub tee : Option (List ℕ)
  pub name : List ℕ
  pub address : List ℕ

-- the words of `drain`
pub record DrainAsked : Type 0 where
  pub initial : Option (List ℕ)
  pub reads : ℕ
  pub polls : ℕ
  pub cluster : List ℕ
  pub source : List ℕ
  pub collectors : List (List ℕ)

-- what a run is asked for
pub data Asked : Type 0 where
  Round : RoundAsked → Asked
  Agent : AgentAsked → Asked
  Collector : CollectorAsked → Asked
  Drain : DrainAsked → Asked
  Archive : Asked
  Demux : List (List ℕ) → Asked
  Salvage : List ℕ → Asked
  Load : ℕ → Asked
  Udp : UdpAsked → Asked
  Subscribe : SubscribeAsked → Asked
  Join : JoinAsked → Asked

-- the texts that borrowed words lend
abbrev pub round_of : RoundWords → RoundAsked
round_of w = record {
  class = w.class;
  reads = w.reads;
  cluster = w.cluster.now;
  source = w.source.now;
  kind = w.kind.now;
  logs = map (λ log. log.now) w.logs.items;
}

abbrev pub agent_of : AgentWords → AgentAsked
agent_of w = record {
  initial = option_map (λ file. file.now) w.initial;
  control = option_map (λ address. address.now) w.control;
  turns = w.turns;
  poll = w.poll;
  expire = w.expire;
  pause = w.pause;
  cluster = w.cluster.now;
  source = w.source.now;
  collectors = map (λ address. address.now) w.collectors.items;
}

abbrev pub collector_of : CollectorWords → CollectorAsked
collector_of w = record {
  rotate = w.rotate;
  turns = w.turns;
  messages = w.messages;
  tee = option_map (λ w. w.now) w.tee;
  name = w.name.now;
  address = w.address.now;
}

abbrev pub drain_of : DrainWords → DrainAsked
drain_of w = record {
  initial = option_map (λ file. file.now) w.initial;
  reads = w.reads;
  polls = w.polls;
  cluster = w.cluster.now;
  source = w.source.now;
  collectors = map (λ address. address.now) w.collectors.items;
}

-- what a command asks for
abbrev pub asked_of : Command → Asked
asked_of (words.Round w) = Round (round_of w)
asked_of (words.Agent w) = Agent (agent_of w)
asked_of (words.Collector w) = Collector (collector_of w)
asked_of (words.Drain w) = Drain (drain_of w)
asked_of words.Archive = Archive
asked_of (words.Demux kinds) = Demux (map (λ kind. kind.now) kinds.items)
asked_of (words.Salvage file) = Salvage file.now
asked_of (words.Load lines) = Load lines
asked_of (words.Udp w) = Udp (udp_of w)
asked_of (words.Subscribe w) = Subscribe (subscribe_of w)
asked_of (words.Join w) = Join (join_of w)

-- the command where one is asked for, and Usage exactly where none is, unless there was no memory
abbrev pub ReadsCommand : Option Asked → Result Command WordsFault → Type 0
ReadsCommand asked (Ok command) = asked ≡ Some (asked_of command)
ReadsCommand asked (Err Usage) = asked ≡ None
ReadsCommand asked (Err NoMemory) = Unit {0}
