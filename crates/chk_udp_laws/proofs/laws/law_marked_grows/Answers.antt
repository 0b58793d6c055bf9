use Rattle.chk_udp_laws.proofs.Law.{marked_grows}
use Rattle.chk_udp_laws.proofs.laws.law_marked_grows.Goals as goal

pub returns : goal.returns
returns c = record {
  grows = marked_grows;
}
