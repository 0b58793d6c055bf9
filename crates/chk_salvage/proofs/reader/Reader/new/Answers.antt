use Rattle.std.proofs.Common.{sym}
use Rattle.chk_seqfile.proofs.RecordLemmas.{records_of-header}
use Rattle.chk_salvage.proofs.SalvageLemmas.{salvage_of-header}
use Rattle.chk_salvage.proofs.FrontLemmas.{read_so_header}
use Rattle.chk_salvage.proofs.reader.Reader.new.Goals as goal

pub returns-clause-records : goal.returns-clause-records
returns-clause-records c = sym (records_of-header c.args.bytes.now c.in_ok-head.head (sym c.in_ok-head.ensures.exact))

pub returns-clause-items : goal.returns-clause-items
returns-clause-items c = sym (salvage_of-header c.args.bytes.now c.in_ok-head.head (sym c.in_ok-head.ensures.exact))

pub returns-clause-read : goal.returns-clause-read
returns-clause-read c = read_so_header c.args.bytes.now c.in_ok-head.head (sym c.in_ok-head.ensures.exact)
