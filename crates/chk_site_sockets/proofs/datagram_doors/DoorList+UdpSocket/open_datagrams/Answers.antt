use Rattle.std.proofs.Common.{sym, ◌∙◌, rules}
use Rattle.std.specs.Prelude.{string_bytes}
use Rattle.chk_site_sockets.proofs.DoorLemmas.{kept_open}
use Rattle.chk_site_sockets.proofs.datagram_doors.DoorList+UdpSocket.open_datagrams.Goals as goal

pub returns-clause-held : goal.returns-clause-held
returns-clause-held g c =
    kept_open c.keep.result c.args.self.now.open.items c.make_place.new.items.items
    c.keep.new.self.open.items (λ d. string_bytes d.name) c.args.name.now
    _ (sym c.place_of.ensures ∙ c.in_default.is) (search rules) (search rules)
    c.keep.ensures.held
