use Rattle.chk_udp_laws.proofs.Commands.{commands_are_runs}
use Rattle.chk_udp_laws.proofs.laws.law_commands_are_runs.Goals as goal

pub returns : goal.returns
returns c = record {
  runs = commands_are_runs;
}
