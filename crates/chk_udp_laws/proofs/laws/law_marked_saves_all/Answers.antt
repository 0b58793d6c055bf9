use Rattle.chk_udp_laws.proofs.Law.{marked_saves_all}
use Rattle.chk_udp_laws.proofs.laws.law_marked_saves_all.Goals as goal

pub returns : goal.returns
returns c = record {
  saves = marked_saves_all;
}
