use Rattle.chk_udp_laws.proofs.Law.{saved_is_marked}
use Rattle.chk_udp_laws.proofs.laws.law_saved_is_marked.Goals as goal

pub returns : goal.returns
returns c = record {
  kept = saved_is_marked;
}
