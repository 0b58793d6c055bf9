use Rattle.std.proofs.Common.{length, ◌-◌, map}
use Rattle.chk_book.specs.Views.{end_view}
use Rattle.chk_archive_merge.specs.Tours.{GoesFurther}
use Rattle.chk_archive_merge.proofs.tour.Tour.seek.Given as goal

abbrev pub invariant-loop-self : goal.invariant-loop-self
invariant-loop-self l = GoesFurther (map end_view l.ends) l.fn.self l.self

abbrev pub decreases-loop-self : goal.decreases-loop-self
decreases-loop-self l = length l.ends - l.self.stream
