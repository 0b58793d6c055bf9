use Rattle.chk_bytes.proofs.NumberLemmas.{be16-spelled, be32-spelled, be64-spelled}
use Rattle.chk_bytes.proofs.laws.numbers_read_back.Goals as goal

pub returns-clause-two_spelled : goal.returns-clause-two_spelled
returns-clause-two_spelled c = be16-spelled

pub returns-clause-four_spelled : goal.returns-clause-four_spelled
returns-clause-four_spelled c = be32-spelled

pub returns-clause-eight_spelled : goal.returns-clause-eight_spelled
returns-clause-eight_spelled c = be64-spelled
