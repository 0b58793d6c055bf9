-- The stream that texts name.
use Rattle.chk_chunk.specs.Keys.{Stream}
use Rattle.chk_record_reader.specs.declared.courses.StreamRef.{StreamRef}

abbrev pub stream_of : StreamRef → Stream
stream_of s = record { source = s.source.now; kind = s.kind.now; name = s.name.now }
