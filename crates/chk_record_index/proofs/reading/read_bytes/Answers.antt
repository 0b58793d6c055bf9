use Rattle.chk_record_index.proofs.PieceReads.{bytes_given_so, none_given_so}
use Rattle.chk_record_index.specs.Pieces.{asks_for}
use Rattle.chk_record_index.proofs.Showing.{gave_bytes, gave_none, gave_nothing}
use Rattle.chk_record_index.proofs.reading.read_bytes.Goals as goal

pub returns-in-Ok-Some-clause-raw : goal.returns-in-Ok-Some-clause-raw
returns-in-Ok-Some-clause-raw g c =
    bytes_given_so c.args.name.now c.args.at c.args.most c.in-Ok-Some.bytes (rw c.in-Ok-Some.field-0-is at c.in-Ok-Some.ensures.raw)

pub returns-in-Ok-None-clause-raw : goal.returns-in-Ok-None-clause-raw
returns-in-Ok-None-clause-raw g c =
    rw c.new.ensures (none_given_so c.args.name.now c.args.at c.args.most (rw c.in-Ok-None.field-0-is at c.in-Ok-None.ensures.raw))

pub returns-in-Ok-Some-clause-shown : goal.returns-in-Ok-Some-clause-shown
returns-in-Ok-Some-clause-shown g c =
    gave_bytes c.args.name.now c.args.at (asks_for c.args.most c.args.at) c.in-Ok-Some.bytes (rw c.in-Ok-Some.field-0-is at c.in-Ok-Some.ensures.shown)

pub returns-in-Ok-None-clause-shown : goal.returns-in-Ok-None-clause-shown
returns-in-Ok-None-clause-shown g c =
    rw c.new.ensures (gave_none c.args.name.now c.args.at (asks_for c.args.most c.args.at) (rw c.in-Ok-None.field-0-is at c.in-Ok-None.ensures.shown))

pub returns-in-Err-clause-shown : goal.returns-in-Err-clause-shown
returns-in-Err-clause-shown g c = gave_nothing c.args.name.now c.args.at (asks_for c.args.most c.args.at) c.in-Err.fault c.in-Err.ensures.shown
