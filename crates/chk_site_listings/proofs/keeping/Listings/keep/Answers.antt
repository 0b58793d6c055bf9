use Rattle.std.proofs.Common.{is_ok, ap, ◌∙◌, arith}
use Rattle.chk_site_listings.specs.Keeping.{with_room}
use Rattle.chk_site_listings.proofs.Rooms.{IsBounded-pushed}
use Rattle.chk_site_listings.proofs.keeping.Listings.keep.Goals as goal

pub invariant_of-self : goal.invariant_of-self
invariant_of-self c =
    rw c.push-kept.ensures.items (IsBounded-pushed c.args.listing c.args.self.now _
    (grind (arith, c.len.ensures, c.if-len-gt-MOST_NAMES.false))
    (c.self-2.view_is ∙ (c.make_place.ensures ∙ ap (λ n. with_room n c.args.self.now) c.len-2.ensures))
    (is_ok c.push-kept.result))

pub returns-clause-bounded : goal.returns-clause-bounded
returns-clause-bounded c = invariant_of-self c
