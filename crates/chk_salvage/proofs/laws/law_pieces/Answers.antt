use Rattle.chk_salvage.proofs.RunLemmas.{run_gives_records}
use Rattle.chk_salvage.proofs.laws.law_pieces.Goals as goal

pub returns : goal.returns
returns c = run_gives_records
