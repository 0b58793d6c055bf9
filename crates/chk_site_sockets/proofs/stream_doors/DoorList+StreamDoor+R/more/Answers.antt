use Rattle.std.proofs.Common.{sym, refl}
use Rattle.chk_site_sockets.proofs.DoorLemmas.{goes_on, read_there, within}
use Rattle.chk_site_sockets.proofs.stream_doors.DoorList+StreamDoor+R.more.Goals as goal

pub returns-in-Some-clause-more : goal.returns-in-Some-clause-more
returns-in-Some-clause-more g c =
    goes_on c.args.self.now.open.items _ _ _ _ c.args.taking c.in-Some.place c.index_mut.result.now
    (record { name = c.index_mut.result.now.name; door = c.more.new.self }) (λ taken. taken.number)
    c.more.new.self.taken c.more.result (sym c.in-Some.ensures)
    (read_there _ _ _ (within _ _ _ (sym c.in-Some.ensures)) c.index_mut.ensures.value) refl refl
    refl c.more.ensures.same c.more.ensures.given c.more.ensures.ended
