use Rattle.std.proofs.Common.{sym, rules}
use Rattle.chk_site_errors.specs.declared.faults.SystemFault.{SystemFault}
use Rattle.chk_site_sockets.specs.Doors.{taking_at}
use Rattle.chk_site_sockets.proofs.DoorLemmas.{open_as, takes_as}
use Rattle.chk_site_sockets.proofs.messages.Messages.take.Goals as goal

pub returns-clause-streams : goal.returns-clause-streams
returns-clause-streams g c outside streams =
    takes_as SystemFault SystemFault _ _ _ _ _ _ c.in_ok-number.number _
    (taking_at c.in_ok-number.number)
    c.in_ok-bytes.bytes c.noted-2.result (c.in_ok-bytes.ensures.streams streams) (search rules)
    (sym c.in_ok-number.ensures.next) c.noted-2.ensures.taking

pub returns-clause-datagrams : goal.returns-clause-datagrams
returns-clause-datagrams g c outside datagrams =
    open_as _ _ _ _ _ (c.in_ok-bytes.ensures.datagrams datagrams) (search rules)
