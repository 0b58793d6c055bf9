use Rattle.std.proofs.Common.{◌≡◌, drop}
use Rattle.chk_record_reader.specs.Streams.{stream_of}
use Rattle.chk_record_reader.specs.Courses.{first_head}
use Rattle.chk_record_reader.proofs.courses.first_head.Given as goal

abbrev pub invariant-loop-index : goal.invariant-loop-index
invariant-loop-index l = first_head (stream_of l.stream) l.heads ≡ first_head (stream_of l.stream)
    (drop l.index l.heads)
