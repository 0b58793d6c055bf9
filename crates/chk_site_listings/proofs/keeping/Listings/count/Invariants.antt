use Rattle.std.proofs.Common.{◌≡◌, take}
use Rattle.std.specs.Prelude.{sum_by}
use Rattle.chk_site_listings.specs.Keeping.{name_count}
use Rattle.chk_site_listings.proofs.keeping.Listings.count.Given as goal

abbrev pub invariant-loop-listing : goal.invariant-loop-listing
invariant-loop-listing l = l.count ≡ sum_by name_count (take l.listing-index l.fn.self)
