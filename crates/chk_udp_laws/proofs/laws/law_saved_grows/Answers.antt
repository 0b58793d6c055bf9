use Rattle.chk_udp_laws.proofs.Growing.{saved_grows}
use Rattle.chk_udp_laws.proofs.laws.law_saved_grows.Goals as goal

pub returns : goal.returns
returns c = record {
  grows = saved_grows;
}
