use Rattle.std.proofs.Common.{rules, of_calls}
use Rattle.std.proofs.lemmas.List.Sorted.{IsPartitionPoint-from_clause}
use Rattle.chk_bytes.specs.Words.{text_lt}
use Rattle.chk_site_listings.proofs.Fronts.{lower_first}
use Rattle.chk_site_listings.proofs.names.count_below.Goals as goal

pub returns-clause-place : goal.returns-clause-place
returns-clause-place c = λ o.
    let point = IsPartitionPoint-from_clause (λ name. text_lt name c.args.text.now) c.args.names.now c.partition_point.result
    c.partition_point.ensures.partitioned (lower_first c.args.names.now c.args.text.now o) (λ a r f h. search (rules, of_calls)) in
    record { lower = point.0; others = point.1 }
