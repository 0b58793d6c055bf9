use Rattle.std.proofs.Common.{◌-◌, ◌^◌}
use Rattle.chk_record_index.proofs.FedRecords.{GoesOver}
use Rattle.chk_record_index.proofs.gather.Heads.take_fed.Given as goal

abbrev pub invariant-loop-found : goal.invariant-loop-found
invariant-loop-found l = GoesOver l.most l.file l.fn.pieces l.pieces l.fn.self l.self l.place

abbrev pub decreases-loop-found : goal.decreases-loop-found
decreases-loop-found l = 2 ^ 64 - l.place
