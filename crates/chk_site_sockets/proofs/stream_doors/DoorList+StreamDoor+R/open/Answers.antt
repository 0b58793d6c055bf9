use Rattle.std.proofs.Common.{sym, ◌∙◌, rules}
use Rattle.std.specs.Prelude.{string_bytes}
use Rattle.chk_site_sockets.proofs.DoorLemmas.{kept_open, kept_stands, named_there}
use Rattle.chk_site_sockets.proofs.stream_doors.DoorList+StreamDoor+R.open.Goals as goal

pub returns-in-Some-clause-place : goal.returns-in-Some-clause-place
returns-in-Some-clause-place g c =
    named_there (λ d. string_bytes d.name) c.args.name.now c.args.self.now.open.items
    c.in-Some.place (sym c.in-Some.ensures)

pub returns-clause-held : goal.returns-clause-held
returns-clause-held g c =
    kept_open c.keep.result c.args.self.now.open.items c.make_place.new.items.items
    c.keep.new.self.open.items (λ d. string_bytes d.name) c.args.name.now
    _ (sym c.place_of.ensures ∙ c.in_default.is) (search rules) (search rules)
    c.keep.ensures.held

pub returns-clause-place : goal.returns-clause-place
returns-clause-place g c =
    kept_stands c.keep.result c.make_place.new.items.items c.keep.new.self.open.items
    (λ d. string_bytes d.name) c.args.name.now _ (search rules) c.keep.ensures.held
    c.keep.ensures.place
