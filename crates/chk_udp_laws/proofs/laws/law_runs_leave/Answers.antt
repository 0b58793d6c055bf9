use Rattle.chk_udp_laws.proofs.Wholes.{runs_leave}
use Rattle.chk_udp_laws.proofs.laws.law_runs_leave.Goals as goal

pub returns : goal.returns
returns c = record {
  leaves = runs_leave;
}
