use Rattle.std.proofs.Common.{refl}
use Rattle.chk_site_listings.proofs.Fronts.{all_found}
use Rattle.chk_site_listings.proofs.names.Listing.beginning_with.Goals as goal

pub returns-clause-fronts : goal.returns-clause-fronts
returns-clause-fronts c =
    let below = c.count_below-from.ensures in
    let count = c.count_beginning-count.ensures in
    all_found c.args.self.now.names.items c.deref.result.now c.deref-2.result.now _ c.args.front.now _ _
    c.deref.ensures.value c.deref-2.ensures.value refl below.within below.place count.within count.place
