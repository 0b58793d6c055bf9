-- How one stream's records go on from each other, and what of them is wanted.
use Rattle.std.specs.Prelude.{◌≡◌, ◌⊎◌, ℕ, ◌-◌, ◌≤◌, Bool, true, false, List, [], ◌∷◌, ◌++◌, take, drop, flat_map, filter_map, Option, Some, None}
use Rattle.chk_chunk.specs.Keys.{Stream, Key, Chunk, chunk_begin, is_of}
use Rattle.chk_seqfile.specs.Entries.{Placed, records_of}
use Rattle.chk_salvage.specs.declared.pieces.Pieces.{Pieces}
use Rattle.chk_salvage.specs.declared.fed.Fed.TheVariants.{More}
use Rattle.chk_salvage.specs.Feeding.{fed_place, fed_limit, fed_marker, IsFed, Stands}
use Rattle.chk_world.specs.Books.{chunk_of, chunks_of_stream}
use Rattle.chk_world.specs.Jobs.{Run}
use Rattle.chk_record_index.specs.Feeding.{AreChunks, IsSpoiled}
use Rattle.chk_ctl_cat.specs.declared.course.Course.{Course}

-- the stream that is followed
abbrev pub stream_of : Course → Stream
stream_of c = record { source = c.source.now; kind = c.kind.now; name = c.name.now }

-- it is the same stream with the same ends, and the same bytes are wanted of it
pub record KeepsCourse (old new : Course) : Type 0 where
  pub stream : stream_of new ≡ stream_of old
  pub start : new.start ≡ old.start
  pub end : new.end ≡ old.end
  pub begin : new.begin ≡ old.begin

-- a chunk
abbrev pub chunk_with : Key → List ℕ → Chunk
chunk_with k value = record { key = k; value = value }

-- what of a chunk lies at this offset or behind it
abbrev pub wanted_of : ℕ → Chunk → List ℕ
wanted_of begin k = drop (begin - chunk_begin k) k.value

-- what of a stream's chunks does, joined
abbrev pub wanted : Stream → ℕ → List Chunk → List ℕ
wanted s begin ks = flat_map (wanted_of begin) (chunks_of_stream s ks)

-- the stream's chunks among these go on from each other, and from what was reached before
abbrev pub GoesOver : Course → List Chunk → ℕ → Type 0
GoesOver c ks to = Run c.start c.reached (chunks_of_stream (stream_of c) ks) to

-- what of them is wanted
abbrev pub wanted_by : Course → List Chunk → List ℕ
wanted_by c ks = wanted (stream_of c) c.begin ks

-- the chunk is of the stream, and doesn't go on from what was reached, or it ends past the stream's end
pub record IsOff (c : Course) (k : Chunk) : Type 0 where
  pub of : is_of (stream_of c) k ≡ true
  pub off : k.key.start ≡ c.start → chunk_begin k ≡ c.reached → k.key.seq ≤ c.end → ⊥

-- the course went over the chunk, and what is wanted of it stands behind the rest; or the chunk is off, and all is as before
abbrev pub TookChunk : Bool → Chunk → Course → Course → List ℕ → List ℕ → Type 0
TookChunk true k old new out out' = GoesOver old (k ∷ []) new.reached × (out' ≡ out ++ wanted_by old (k ∷ []))
TookChunk false k old new out out' = IsOff old k × (new.reached ≡ old.reached) × (out' ≡ out)

-- the record is no chunk, or it is off
abbrev pub IsWrong : ℕ → Course → Placed → Type 0
IsWrong most c r = (chunk_of most r ≡ None) ⊎ ((k : Chunk) × (chunk_of most r ≡ Some k) × IsOff c k)

-- the same of a record
abbrev pub TookRecord : Bool → ℕ → Placed → Course → Course → List ℕ → List ℕ → Type 0
TookRecord true most r old new out out' = (k : Chunk) × (chunk_of most r ≡ Some k) × TookChunk true k old new out out'
TookRecord false most r old new out out' = IsWrong most old r × (new.reached ≡ old.reached) × (out' ≡ out)

-- the chunks that records are
abbrev pub chunks_at : ℕ → List Placed → List Chunk
chunks_at most rs = filter_map (chunk_of most) rs

-- behind the records up to the one place these stand up to the other one, each a chunk; the course went over them
pub record Followed (most : ℕ) (old new : Course) (from to : ℕ) (fed out out' : List ℕ) : Type 0 where
  pub more : List Placed
  pub records : records_of (take to fed) ≡ records_of (take from fed) ++ more
  pub chunks : AreChunks most more
  pub over : GoesOver old (chunks_at most more) new.reached
  pub text : out' ≡ out ++ wanted_by old (chunks_at most more)

-- the next record behind this place stands there, and is off
pub record IsOffAt (most : ℕ) (c : Course) (fed : List ℕ) (place at : ℕ) : Type 0 where
  pub end : ℕ
  pub next : Placed
  pub chunk : Chunk
  pub stands : records_of (take end fed) ≡ records_of (take place fed) ++ next ∷ []
  pub at_is : at ≡ next.at
  pub is : chunk_of most next ≡ Some chunk
  pub off : IsOff c chunk

-- all that was fed was gone over, and the reader wants more; or at this place stands what can't stand there, whatever follows
abbrev pub FollowedFed : ℕ → Course → Course → Pieces → Pieces → List ℕ → List ℕ → List ℕ → Option ℕ → Type 0
FollowedFed most old new p q out out' fed None =
    IsFed q fed × Followed most old new (fed_place p) (fed_place q) fed out out'
    × Stands (fed_limit p) fed (fed_marker q) (fed_place q) More
FollowedFed most old new p q out out' fed (Some at) =
    (place : ℕ) × Followed most old new (fed_place p) place fed out out'
    × (IsSpoiled most (fed_limit p) fed at ⊎ IsOffAt most new fed place at)
