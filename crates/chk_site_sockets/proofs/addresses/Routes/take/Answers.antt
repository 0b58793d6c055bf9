use Rattle.std.proofs.Common.{◌≡◌, ℕ, List, get_or, Some, position, remove, length, refl, sym, ◌∙◌}
use Rattle.std.proofs.lemmas.List.Quantifiers.{position-Some}
use Rattle.std.proofs.lemmas.Option.{slice_get_read}
use Rattle.chk_site_sockets.specs.declared.addresses.Route.{Route}
use Rattle.chk_site_sockets.specs.Addresses.{is_of, IsTaken}
use Rattle.chk_site_sockets.proofs.addresses.Routes.take.Goals as goal

-- the first route of the text is removed
IsTaken-removed : (old new : List Route) (text : List ℕ) (r : Route) (i : ℕ)
    → position (is_of text) old ≡ Some i → r ≡ get_or old i r
    → new ≡ remove old i → IsTaken old new text r.address
IsTaken-removed old new text r i first there left =
    let p = position-Some (is_of text) old i r first in
    record {
      place = i;
      route = r;
      first = first;
      there = slice_get_read old (length old) i r refl p.0 there;
      found = refl;
      left = left;
    }

pub returns-clause-taken : goal.returns-clause-taken
returns-clause-taken c =
    IsTaken-removed c.args.self.now.kept.items c.remove.new.self.items c.args.text.now
    c.remove.result c.in_ok-place.place (sym c.place_of.ensures ∙ c.in_ok-place.was)
    c.remove.ensures.value c.remove.ensures.items
