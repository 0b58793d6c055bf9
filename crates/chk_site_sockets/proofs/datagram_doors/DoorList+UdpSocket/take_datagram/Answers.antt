use Rattle.chk_site_sockets.proofs.DoorLemmas.{datagram_taken}
use Rattle.chk_site_sockets.proofs.datagram_doors.DoorList+UdpSocket.take_datagram.Goals as goal

pub returns-clause-takes : goal.returns-clause-takes
returns-clause-takes g c = datagram_taken _ _ _ _ _ c.in_ok-place.ensures.held
