use Rattle.std.proofs.Common.{◌≡◌, length}
use Rattle.chk_site_listings.specs.Keeping.{with_room}
use Rattle.chk_site_listings.proofs.keeping.Listings.make_place.Given as goal

abbrev pub invariant-loop-self : goal.invariant-loop-self
invariant-loop-self l = with_room l.names l.self ≡ with_room l.names l.initial.self

abbrev pub decreases-loop-self : goal.decreases-loop-self
decreases-loop-self l = length l.self
