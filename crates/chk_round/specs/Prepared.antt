-- What a round takes memory for before its first call.
use Rattle.std.specs.Prelude.{ℕ, List}
use Rattle.chk_world.specs.Knowing.{agent}
use Rattle.chk_world.specs.Sight.{job}
use Rattle.chk_round.specs.declared.preparing.Prepared.{Prepared}
use Rattle.chk_round.specs.declared.whos.Processes.{Processes}
use Rattle.chk_round.specs.declared.words.Limits.{Limits}
use Rattle.chk_round.specs.declared.words.RoundWords.{RoundWords}
use Rattle.chk_round.specs.Processes.{c1}
use Rattle.chk_round.specs.Starts.{inside, rules_of}

-- the three processes
abbrev pub processes_of : List ℕ → Processes
processes_of source = record { collecting = c1; reading = agent source; archiving = job }

-- with the ring and the rules of the agent
abbrev pub prepared_of : RoundWords → Limits → Prepared
prepared_of w limits = record {
  processes = processes_of w.source;
  ring = inside;
  rules = rules_of w limits;
}
