use Rattle.std.proofs.Common.{refl}
use Rattle.chk_site_sockets.proofs.DoorLemmas.{read_there, taken_at}
use Rattle.chk_site_sockets.proofs.stream_doors.DoorList+StreamDoor+R.take.Goals as goal

pub returns-clause-takes : goal.returns-clause-takes
returns-clause-takes g c =
    taken_at c.args.self.now.open.items c.open.new.self.open.items _ _ _ c.args.name.now
    c.args.number c.in_ok-place.place c.index_mut.result.now
    (record { name = c.index_mut.result.now.name; door = c.take.new.self }) (λ taken. taken.number)
    c.take.new.self.taken c.take.result c.in_ok-place.ensures.held c.in_ok-place.ensures.place
    (read_there _ _ _ c.in_ok-place.ensures.within c.index_mut.ensures.value)
    refl refl refl c.take.ensures.taken c.take.ensures.none
    c.take.ensures.failed
