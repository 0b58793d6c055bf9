use Rattle.std.proofs.Common.{◌-◌, length}
use Rattle.chk_record_index.specs.Recents.{StayKept}
use Rattle.chk_record_index.proofs.recents.Recents.make_places.Given as goal

abbrev pub invariant-loop-alloc : goal.invariant-loop-alloc
invariant-loop-alloc l = StayKept l.fn.self l.self

abbrev pub decreases-loop-alloc : goal.decreases-loop-alloc
decreases-loop-alloc l = 64 - length l.self.places.items
