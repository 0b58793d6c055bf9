use Rattle.std.proofs.Common.{◌≡◌, drop}
use Rattle.chk_book.specs.Views.{end_view}
use Rattle.chk_record_reader.specs.Streams.{stream_of}
use Rattle.chk_record_reader.specs.Courses.{first_break, reached}
use Rattle.chk_record_reader.proofs.courses.course_break.Given as goal

abbrev pub invariant-loop-index : goal.invariant-loop-index
invariant-loop-index l = record {
  breaks : first_break (stream_of l.stream) (end_view l.end) l.end.start l.heads
      ≡ first_break (stream_of l.stream) (end_view l.end) l.reached (drop l.index l.heads);
  reaches : reached (stream_of l.stream) l.end.start l.heads ≡ reached
      (stream_of l.stream) l.reached (drop l.index l.heads);
}
