use Rattle.std.proofs.Common.{sym, refl}
use Rattle.chk_site_sockets.proofs.DoorLemmas.{answered, read_there, within}
use Rattle.chk_site_sockets.proofs.stream_doors.DoorList+StreamDoor+R.answer.Goals as goal

pub returns-in-Some-clause-answer : goal.returns-in-Some-clause-answer
returns-in-Some-clause-answer g c =
    answered c.args.self.now.open.items _ _ _ c.args.taking c.in-Some.place
    c.index_mut.result.now
    (record { name = c.index_mut.result.now.name; door = c.answer.new.self })
    (λ taken. taken.number) c.answer.new.self.taken _ _ (sym c.in-Some.ensures)
    (read_there _ _ _ (within _ _ _ (sym c.in-Some.ensures)) c.index_mut.ensures.value)
    refl refl refl c.answer.ensures.ended c.answer.ensures.put
