-- What the structs of a chunk and a key stand for.
use Rattle.std.specs.Prelude.{List, All, IsTrue, map}
use Rattle.chk_chunk.specs.Keys.{Chunk, Key, is_chunk}
use Rattle.chk_chunk.specs.declared.Chunk.{Chunk as OwnedChunk}
use Rattle.chk_chunk.specs.declared.ChunkRef.{ChunkRef}
use Rattle.chk_chunk.specs.declared.KeyRef.{KeyRef}

-- the key that a borrowed key is
abbrev pub lent_key : KeyRef → Key
lent_key k = record {
  stream = record { source = k.source.now; kind = k.kind.now; name = k.name.now };
  start = k.start;
  cluster = k.cluster.now;
  seq = k.seq;
}

-- the chunk that a borrowed chunk is
abbrev pub lent_chunk : ChunkRef → Chunk
lent_chunk c = record {
  key = record {
    stream = record { source = c.source.now; kind = c.kind.now; name = c.name.now };
    start = c.start;
    cluster = c.cluster.now;
    seq = c.seq;
  };
  value = c.body.now;
}

-- the chunk that an owned chunk is
abbrev pub chunk_of : OwnedChunk → Chunk
chunk_of c = record {
  key = record {
    stream = record { source = c.source; kind = c.kind; name = c.name };
    start = c.start;
    cluster = c.cluster;
    seq = c.seq;
  };
  value = c.body;
}

-- the chunks that owned chunks are
abbrev pub chunks_of : List OwnedChunk → List Chunk
chunks_of chunks = map chunk_of chunks

-- each can be spelled
abbrev pub AreValid : List OwnedChunk → Type 0
AreValid chunks = All (λ c. IsTrue (is_chunk (chunk_of c))) chunks
