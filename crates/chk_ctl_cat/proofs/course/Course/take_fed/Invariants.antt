use Rattle.std.proofs.Common.{◌-◌, ◌^◌}
use Rattle.chk_ctl_cat.specs.Courses.{stream_of}
use Rattle.chk_ctl_cat.specs.Recents.{IsRecent}
use Rattle.chk_ctl_cat.proofs.FedCourses.{GoesAlong}
use Rattle.chk_ctl_cat.proofs.course.Course.take_fed.Given as goal

abbrev pub invariant-loop-found : goal.invariant-loop-found
invariant-loop-found l = record {
  along : GoesAlong l.most l.fn.pieces l.pieces l.fn.self l.self l.fn.out l.out l.place;
  recent : IsRecent (stream_of l.self) l.recent;
}

abbrev pub decreases-loop-found : goal.decreases-loop-found
decreases-loop-found l = 2 ^ 64 - l.place
