-- The stream that borrowed texts name.
use Rattle.chk_chunk.specs.Keys.{Stream}
use Rattle.chk_ctl_held.specs.declared.streams.StreamRef.{StreamRef}

abbrev pub stream_of : StreamRef → Stream
stream_of s = record { source = s.source.now; kind = s.kind.now; name = s.name.now }
