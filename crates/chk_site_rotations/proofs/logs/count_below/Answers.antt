use Rattle.std.proofs.Common.{rules, of_calls}
use Rattle.std.specs.Prelude.{string_bytes}
use Rattle.std.proofs.lemmas.List.Sorted.{IsPartitionPoint-from_clause}
use Rattle.chk_bytes.specs.Words.{text_lt}
use Rattle.chk_site_rotations.specs.declared.log.Log.{Log}
use Rattle.chk_site_rotations.proofs.Paths.{lower_first}
use Rattle.chk_site_rotations.proofs.logs.count_below.Goals as goal

pub returns-clause-place : goal.returns-clause-place
returns-clause-place c = λ o.
    let point = IsPartitionPoint-from_clause (λ (log : Log). text_lt (string_bytes log.path) c.args.path.now) c.args.logs.now c.partition_point.result
    c.partition_point.ensures.partitioned (lower_first c.args.logs.now c.args.path.now o) (λ a r f h. search (rules, of_calls)) in
    record { lower = point.0; others = point.1 }
