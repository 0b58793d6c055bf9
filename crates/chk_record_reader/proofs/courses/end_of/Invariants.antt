use Rattle.std.proofs.Common.{◌≡◌, map, drop}
use Rattle.chk_book.specs.Views.{end_view}
use Rattle.chk_record_reader.specs.Streams.{stream_of}
use Rattle.chk_record_reader.specs.Courses.{end_of}
use Rattle.chk_record_reader.proofs.courses.end_of.Given as goal

abbrev pub invariant-loop-end : goal.invariant-loop-end
invariant-loop-end l =
    end_of (stream_of l.stream) (map end_view (drop l.end-index l.ends)) ≡ end_of
    (stream_of l.stream) (map end_view l.ends)
