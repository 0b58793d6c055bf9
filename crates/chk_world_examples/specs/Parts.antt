-- Parts of an archive that the job's rule refuses for one of the things that a part owes, each beside one that differs in it and is allowed.
use Rattle.chk_world_examples.specs.Texts.{sink, hello, head, done_sink, stream, chunk}
use Rattle.std.specs.Prelude.{[], ◌≡◌, ℕ, ◌-◌, ◌≤◌, ◌<◌, Bool, List, ◌++◌, drop, Some, None, bytes_eq, if◌then◌else◌, codes, IsTrue}
use Rattle.chk_seqfile.specs.Entries.{record_entry}
use Rattle.chk_site.specs.Files.{Files}
use Rattle.chk_chunk.specs.Keys.{Stream, Chunk, is_of, chunk_begin, chunk_end, key_1}
use Rattle.chk_world.specs.Committed.{sink_chunks}
use Rattle.chk_world.specs.Jobs.{IsSource, IsPartAt}

-- one file of this name, a sink with this chunk
abbrev pub sink_with : List ℕ → Chunk → Files
sink_with name c n =
    if bytes_eq n name then Some (record { bytes = head ++ record_entry (key_1 c.key) c.value; synced = 0 }) else None

-- what a done sink of one chunk gives
abbrev pub given : Bool → Chunk → List Chunk
given b c = sink_chunks (if b then Some (record { bytes = head ++ record_entry (key_1 c.key) c.value; synced = 0 }) else None)

-- a chunk that begins behind a gap
abbrev pub late : Chunk
late = record { key = record chunk.key { seq = 9 }; value = hello }

-- a thing that a part owes, or none
pub data Thing : Type 0 where
  NoThing : Thing
  ItsSource : Thing
  ItsStream : Thing
  ItsBegin : Thing
  ItsEnd : Thing
  ItsKey : Thing
  ItsValue : Thing

-- a thing that isn't left out
abbrev pub but : Thing → Thing → Type 0 → Type 0
but ItsSource ItsSource P = Unit {0}
but ItsStream ItsStream P = Unit {0}
but ItsBegin ItsBegin P = Unit {0}
but ItsEnd ItsEnd P = Unit {0}
but ItsKey ItsKey P = Unit {0}
but ItsValue ItsValue P = Unit {0}
but left_out thing P = P

-- all that a part of this chunk owes, but that thing
pub record PartBut (left_out : Thing) (files : Files) (s : Stream) (reached : ℕ) (whole part : Chunk) : Type 0 where
  pub source : but left_out ItsSource (IsSource files whole)
  pub of : but left_out ItsStream (IsTrue (is_of s whole))
  pub begins : but left_out ItsBegin (chunk_begin whole ≤ reached)
  pub past : but left_out ItsEnd (reached < chunk_end whole)
  pub key : but left_out ItsKey (part.key ≡ whole.key)
  pub value : but left_out ItsValue (part.value ≡ drop (reached - chunk_begin whole) whole.value)

-- a part that is refused for that thing alone
pub record RefusedFor (thing : Thing) (files : Files) (s : Stream) (reached : ℕ) (whole part : Chunk) : Type 0 where
  pub others : PartBut thing files s reached whole part
  pub refused : IsPartAt files s reached part → ⊥

-- a part with this data
abbrev pub part_with : List ℕ → Chunk
part_with value = record { key = chunk.key; value = value }

-- the archive's chunk stands in a done sink, and the archive ends here
abbrev pub at_done : Files
at_done = sink_with done_sink chunk

-- a stream of another type
abbrev pub other_stream : Stream
other_stream = record stream { kind = codes "Other" }

-- the chunk in another cluster's name
abbrev pub other_key : Chunk
other_key = record { key = record chunk.key { cluster = codes "east" }; value = hello }

-- parts of an archive. Where all things hold it is a part
pub record PartsAreRefused : Type 0 where
  pub allowed : (files : Files) (s : Stream) (reached : ℕ) (whole part : Chunk) → PartBut NoThing files s reached whole part
      → IsPartAt files s reached part
  -- a part is the data of its chunk
  pub false_part : RefusedFor ItsValue at_done stream 0 chunk (part_with (codes "jello\n"))
  pub true_part : PartBut NoThing at_done stream 0 chunk (part_with hello)
  -- a part is what lies past the end that was reached
  pub whole_again : RefusedFor ItsValue at_done stream 3 chunk (part_with hello)
  pub rest_of_chunk : PartBut NoThing at_done stream 3 chunk (part_with (codes "lo\n"))
  -- some of its chunk lies past that end
  pub no_part : RefusedFor ItsEnd at_done stream 6 chunk (part_with [])
  pub last_byte : PartBut NoThing at_done stream 5 chunk (part_with (codes "\n"))
  -- no byte is left out before it
  pub past_a_gap : RefusedFor ItsBegin (sink_with done_sink late) stream 0 late late
  pub no_gap : PartBut NoThing (sink_with done_sink late) stream 3 late late
  -- a part is of its stream and has its chunk's key
  pub of_another_stream : RefusedFor ItsStream at_done other_stream 0 chunk (part_with hello)
  pub with_another_key : RefusedFor ItsKey at_done stream 0 chunk other_key
  -- its chunk stands in a done sink, and not in one under writing
  pub not_done : RefusedFor ItsSource (sink_with sink chunk) stream 0 chunk (part_with hello)
