use Rattle.std.proofs.Common.{rules, ◌≡◌}
use Rattle.std.specs.Borrow.{Bor}
use Rattle.std.proofs.lemmas.Fn.{always_returns_same}
use Rattle.chk_record_index.specs.declared.origins.Origin.{Origin}
use Rattle.chk_record_index.specs.Order.{origin_before}
use Rattle.chk_record_index.proofs.Ranks.{parted, ranked}
use Rattle.chk_record_index.proofs.gather.order.rank_of.Goals as goal

pub returns : goal.returns
returns c = λ origins order.
    let sorted = c.args.sorted.now in
    let of : Origin = c.args.of.now in
    ranked origins sorted of c.partition_point.result c.partition_point.ensures.bound order
    (c.partition_point.ensures.partitioned (λ (x : Bor Origin). origin_before x.now of) (always_returns_same _ (λ a r. r ≡ origin_before a.0.now.now of) _ (λ a r f k. search rules)) (parted sorted of order.rise))
