use Rattle.chk_udp_laws.proofs.Finding.{turns_find_tidy}
use Rattle.chk_udp_laws.proofs.laws.law_turns_find_tidy.Goals as goal

pub returns : goal.returns
returns c = record {
  finds = turns_find_tidy;
}
