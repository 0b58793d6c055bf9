use Rattle.chk_seqfile.proofs.FileLemmas.{records_of-cut, read_header-of_cut}
use Rattle.chk_seqfile.proofs.laws.law_cut.Goals as goal

pub returns-clause-records : goal.returns-clause-records
returns-clause-records c = records_of-cut

pub returns-clause-header : goal.returns-clause-header
returns-clause-header c = read_header-of_cut
