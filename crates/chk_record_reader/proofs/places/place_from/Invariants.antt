use Rattle.std.proofs.Common.{◌≡◌, map, drop}
use Rattle.chk_book.specs.Views.{end_view}
use Rattle.chk_record_reader.specs.Streams.{stream_of}
use Rattle.chk_record_reader.specs.Archives.{end_place}
use Rattle.chk_record_reader.proofs.places.place_from.Given as goal

abbrev pub invariant-loop-end : goal.invariant-loop-end
invariant-loop-end l =
    end_place l.starts (stream_of l.stream) l.place (map end_view (drop l.end-index l.ends))
    ≡ end_place l.starts (stream_of l.stream) l.first (map end_view l.ends)
