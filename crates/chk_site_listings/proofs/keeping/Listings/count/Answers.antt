use Rattle.std.proofs.Common.{◌≡◌, length, take_all, sum_by, ap, ◌∙◌, subst, arith}
use Rattle.chk_site_listings.specs.Keeping.{name_count, IsBounded}
use Rattle.chk_site_listings.proofs.Rooms.{counted}
use Rattle.chk_site_listings.proofs.keeping.Listings.count.Goals as goal

pub overflow_add-count : goal.overflow_add-count
overflow_add-count c =
    let next = counted c.deref-listing-items.result.now c.args.self.now _ _ _ c.listing-item.result
    (c.deref-listing-items.ensures.value ∙ c.self.view_is) c.loop-listing-test.true c.listing-item.is
    c.len-count.ensures c.loop-listing.invariant in
    let few = next.1 in
    let bounds : IsBounded c.args.self.now = subst IsBounded c.self.view_is c.self.invariant in
    let most = bounds.names in
    omega (arith, few, most)

pub loop-listing-preserved : goal.loop-listing-preserved
loop-listing-preserved c =
    (counted c.deref-listing-items.result.now c.args.self.now _ _ _ c.listing-item.result
    (c.deref-listing-items.ensures.value ∙ c.self.view_is) c.loop-listing-test.true c.listing-item.is
    c.len-count.ensures c.loop-listing.invariant).0

pub returns-clause-count : goal.returns-clause-count
returns-clause-count c =
    let same : c.deref-listing-items.result.now ≡ c.args.self.now = c.deref-listing-items.ensures.value ∙ c.self.view_is in
    let long : length c.deref-listing-items.result.now ≡ length c.args.self.now = ap length same in
    let past = c.loop-listing-test.false in
    c.loop-listing.invariant
    ∙ ap (sum_by name_count) (take_all c.loop-listing.listing-index c.args.self.now (omega (arith, long, past)))
