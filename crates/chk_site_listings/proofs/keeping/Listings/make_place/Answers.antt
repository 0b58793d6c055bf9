use Rattle.std.proofs.Common.{◌≡◌, sym, ◌∙◌, arith, true}
use Rattle.chk_site_listings.specs.Keeping.{has_room}
use Rattle.chk_site_listings.proofs.Rooms.{with_room-all}
use Rattle.chk_site_listings.proofs.keeping.Listings.make_place.Goals as goal

pub returns-else-not-has_place : goal.returns-else-not-has_place
returns-else-not-has_place c =
    let room : has_room c.args.names c.loop-self.self ≡ true = grind (arith, c.has_place.ensures, c.if-not-has_place.false) in
    sym (with_room-all c.args.names c.loop-self.self room) ∙ c.loop-self.invariant
