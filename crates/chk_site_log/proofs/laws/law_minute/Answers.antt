use Rattle.chk_site_log.proofs.Apart.{apart}
use Rattle.chk_site_log.proofs.laws.law_minute.Goals as goal

pub returns : goal.returns
returns c = record { apart = apart }
