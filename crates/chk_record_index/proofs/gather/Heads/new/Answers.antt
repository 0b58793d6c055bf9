use Rattle.std.proofs.Common.{rules}
use Rattle.chk_record_index.proofs.gather.Heads.new.Goals as goal

pub invariant_of-result : goal.invariant_of-result
invariant_of-result c = record { known = search rules; kept = c.new-4.ensures c.new.result.items }
