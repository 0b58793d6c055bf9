use Rattle.std.proofs.Common.{sym, ◌∙◌}
use Rattle.chk_site_listings.proofs.Takes.{IsTaken-removed}
use Rattle.chk_site_listings.proofs.keeping.Listings.take.Goals as goal

pub returns-clause-taken : goal.returns-clause-taken
returns-clause-taken c =
    IsTaken-removed c.self.inside.kept.items c.args.self.now _ c.args.folder.now c.remove.result c.in_ok-place.place
    c.self.view_is (sym c.place_of.ensures.place ∙ c.in_ok-place.was) c.remove.ensures.value c.remove.ensures.items
