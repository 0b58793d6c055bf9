use Rattle.chk_bytes.proofs.StemLemmas.{read_stem-stem_text, read_stem-Some}
use Rattle.chk_bytes.proofs.laws.stems_read_back.Goals as goal

pub returns-clause-read : goal.returns-clause-read
returns-clause-read c = read_stem-stem_text

pub returns-clause-spelled : goal.returns-clause-spelled
returns-clause-spelled c = read_stem-Some
