use Rattle.std.proofs.Common.{◌≡◌, map, drop}
use Rattle.chk_book.specs.Views.{end_view}
use Rattle.chk_ctl_cat.specs.Courses.{stream_of}
use Rattle.chk_ctl_cat.specs.Streams.{end_of}
use Rattle.chk_ctl_cat.proofs.stream.end_of.Given as goal

abbrev pub invariant-loop-end : goal.invariant-loop-end
invariant-loop-end l =
    end_of (stream_of l.course) (map end_view (drop l.end-index l.ends)) ≡ end_of (stream_of l.course) (map end_view l.ends)
