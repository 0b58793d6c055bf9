use Rattle.std.proofs.Common.{rules, of_calls}
use Rattle.std.proofs.lemmas.List.Sorted.{IsPartitionPoint-from_clause}
use Rattle.chk_site_listings.specs.Names.{begins}
use Rattle.chk_site_listings.proofs.Fronts.{fronts_first}
use Rattle.chk_site_listings.proofs.names.count_beginning.Goals as goal

pub returns-clause-place : goal.returns-clause-place
returns-clause-place c = λ o.
    let point = IsPartitionPoint-from_clause (begins c.args.front.now) c.args.names.now c.partition_point.result
    c.partition_point.ensures.partitioned (fronts_first c.args.names.now c.args.front.now o) (λ a r f h. search (rules, of_calls)) in
    record { fronts = point.0; others = point.1 }
