-- What a poll inside the process tells at least.
use Rattle.std.specs.Prelude.{◌≡◌, ℕ, ◌≤◌, ◌<◌, List, Contains, Option, Some, None}
use Rattle.chk_site.specs.declared.acts.Who.{Who}
use Rattle.chk_site.specs.History.{History, Others, files_after}
use Rattle.chk_site.specs.Site.{Adds}
use Rattle.chk_http_grammar.specs.Messages.{IsReply}
use Rattle.chk_world.specs.Committed.{committed_length}
use Rattle.chk_world.specs.Together.{Outside}
use Rattle.chk_sink.specs.Least.{EachFront}
use Rattle.chk_sink.specs.States.{State as Sinks}
use Rattle.chk_collector.specs.Outcomes.{Replied, body_of, code_of}
use Rattle.chk_agent_delivery.specs.declared.answers.Below.{Below}
use Rattle.chk_agent.specs.States.{State as Agents, process as agent_of}
use Rattle.chk_exchange.specs.Legality.{BothAt}

-- some steps
abbrev pub Goes : Option History → Option History → Type 0
Goes old new = Adds old new (λ added history. Unit {0})

-- Within these steps the collector handled a request of these bytes and made this reply, which is
-- read so.
pub record RepliedIn (s u : Sinks) (old new : Option History) (request reply : List ℕ)
    : Type 0 where
  pub before : ℕ
  pub now : ℕ
  pub mid : Option History
  pub next : Option History
  pub went : Goes old mid
  pub replied : Replied request s u before now mid next reply
  pub read : IsReply (code_of replied.outcome) (body_of replied.outcome) reply
  pub left : Goes next new

-- of one of the collector's sinks the length is at least what is committed all the while
abbrev pub IsToldOf : Who → Sinks → Agents → Below → Option History → Option History → Type 0
IsToldOf who s a below old new =
    (stamped : List (List ℕ)) (started acting : List Who) (k : ℕ) → Contains started who
    → Contains started (agent_of a) → Contains acting who → Contains acting (agent_of a)
    → below.stem.collector ≡ s.collector
    → Adds old new (λ added history. Others (Outside stamped started) added history
    → BothAt stamped s a history
    → EachFront (λ h. k ≤ committed_length (files_after h) below.stem) added history
    → k ≤ below.got)

-- Where a poll leaves an answered offset above the length that it gives, that length is below it.
-- Of one of the collector's sinks it is at least what is committed all the while, whoever asks for
-- the sink's files meanwhile.
abbrev pub TellsLeast : Who → Sinks → Agents → Option Below → Option History → Option History
    → Type 0
TellsLeast who s a None old new = Unit {0}
TellsLeast who s a (Some below) old new =
    (below.got < below.want) × IsToldOf who s a below old new
