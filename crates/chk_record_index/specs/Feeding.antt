-- How heads are taken of what was fed to a reader, and where a file stops being one of chunks.
use Rattle.std.specs.Prelude.{◌≡◌, ◌≢◌, ◌⊎◌, ℕ, ◌+◌, List, [], ◌∷◌, ◌++◌, length, take, filter_map, unwrap_or, true, Option, Some, None, Err}
use Rattle.chk_bytes.specs.Words.{BeginsWith}
use Rattle.chk_seqfile.specs.Headers.{read_header}
use Rattle.chk_seqfile.specs.Entries.{Placed, records_of}
use Rattle.chk_seqfile.specs.declared.headers.HeaderFault.{HeaderFault}
use Rattle.chk_seqfile.specs.declared.headers.HeaderFault.TheVariants.{Short}
use Rattle.chk_seqfile.specs.declared.entries.Why.{Why}
use Rattle.chk_seqfile.specs.declared.entries.Why.TheVariants.{Torn}
use Rattle.chk_salvage.specs.declared.pieces.Pieces.{Pieces}
use Rattle.chk_salvage.specs.declared.fed.Fed.TheVariants.{More}
use Rattle.chk_salvage.specs.Front.{IsReadSo, DamageAt}
use Rattle.chk_salvage.specs.Longs.{IsLong}
use Rattle.chk_salvage.specs.Feeding.{fed_place, fed_limit, fed_marker, IsFed, Stands}
use Rattle.chk_salvage.specs.Ahead.{IsAhead, placed_ahead}
use Rattle.chk_salvage.specs.declared.fed.Ahead.{Ahead}
use Rattle.chk_world.specs.Books.{chunk_of}
use Rattle.chk_record_index.specs.Heads.{Head, head_at, IsTaken}

-- each of the records is a chunk of at most so many bytes
abbrev pub AreChunks : ℕ → List Placed → Type 0
AreChunks most records = length (filter_map (chunk_of most) records) ≡ length records

-- others may stand behind them
abbrev pub HasMore : List Head → List Head → Type 0
HasMore old new = (more : List Head) × (new ≡ old ++ more)

-- how much longer than its value a record may say that it is: a key has at most 16,409 bytes
abbrev pub slack : ℕ
slack = 131072

-- the longest record that is read where values have at most so many bytes
abbrev pub limit_of : ℕ → ℕ
limit_of most = most + slack

-- the reader went on over these records, each a chunk, and their heads stand behind the others
pub record WentOver (most file : ℕ) (p q : Pieces) (fed : List ℕ) (old new : List Head) : Type 0 where
  pub state : IsFed q fed
  pub more : List Placed
  pub records : records_of (take (fed_place q) fed) ≡ records_of (take (fed_place p) fed) ++ more
  pub chunks : AreChunks most more
  pub heads : new ≡ old ++ filter_map (head_at most file) more

-- why bytes can't begin a file of chunks, whatever follows: the header is refused; what stands there is no entry, or is too
-- long; the record there is no chunk. All records before it are chunks
pub data IsSpoiled (most limit : ℕ) (fed : List ℕ) (at : ℕ) : Type 0 where
  bad_header : (fault : HeaderFault) → read_header fed ≡ Err fault → fault ≢ Short → at ≡ 0 → IsSpoiled most limit fed at
  bad_entry : (marker : List ℕ) (why : Why) → IsReadSo marker fed at → DamageAt marker fed at why → why ≢ Torn
      → AreChunks most (records_of (take at fed)) → IsSpoiled most limit fed at
  long_entry : (marker : List ℕ) (need : ℕ) → IsReadSo marker fed at → IsLong limit fed at need
      → AreChunks most (records_of (take at fed)) → IsSpoiled most limit fed at
  bad_record : (marker : List ℕ) (end : ℕ) (before : List Placed) (r : Placed) → IsReadSo marker fed end → chunk_of most r ≡ None
      → r.at ≡ at → records_of (take end fed) ≡ before ++ r ∷ [] → AreChunks most before → IsSpoiled most limit fed at

-- all that was fed was gone over, and the reader wants more; or the file is spoiled
abbrev pub TookFed : ℕ → ℕ → Pieces → Pieces → List ℕ → List Head → List Head → Option ℕ → Type 0
TookFed most file p q fed old new None =
    WentOver most file p q fed old new × Stands (fed_limit p) fed (fed_marker q) (fed_place q) More
TookFed most file p q fed old new (Some at) = IsSpoiled most (fed_limit p) fed at

-- the head of the record that is ahead stands behind the others, whatever its value is, and its last byte stands there; or
-- nothing was taken
abbrev pub TookAhead : ℕ → ℕ → Pieces → List Head → List Head → Option ℕ → Type 0
TookAhead most file p old new None = new ≡ old
TookAhead most file p old new (Some last) = (a : Ahead) × IsAhead p a × (a.end ≡ last + 1)
    × ((value : List ℕ) → length value ≡ a.size → IsTaken true most file (placed_ahead a value) old new)

-- the place behind the last byte, if there is one
abbrev pub behind : ℕ → Option ℕ → ℕ
behind place None = place
behind place (Some last) = last + 1

-- the reader was fed the piece: behind what it was fed, or from the last byte of a record on, which it passed over with
-- whatever is missing before that byte
pub record FedFrom (p q : Pieces) (last : Option ℕ) (piece : List ℕ) : Type 0 where
  pub place : fed_place q ≡ behind (fed_place p) last
  pub state : (fed missing : List ℕ) → IsFed p fed → length fed + length missing ≡ unwrap_or last (length fed) → IsFed q (fed ++ (missing ++ piece))

-- the file isn't one of chunks: it ends within its header, or within an entry, or a front of it can't begin one
pub data IsBadAt (most : ℕ) (bytes : List ℕ) (at : ℕ) : Type 0 where
  no_header : read_header bytes ≡ Err Short → at ≡ 0 → IsBadAt most bytes at
  torn : (marker : List ℕ) → IsReadSo marker bytes at → DamageAt marker bytes at Torn → AreChunks most (records_of (take at bytes))
      → IsBadAt most bytes at
  spoiled : (front : List ℕ) → BeginsWith bytes front → IsSpoiled most (limit_of most) front at → IsBadAt most bytes at

-- the bytes end at this place, behind a whole entry; or there they end within their header, or within an entry
abbrev pub IsEnd : List ℕ → ℕ → Option ℕ → Type 0
IsEnd bytes place None = (marker : List ℕ) × IsReadSo marker bytes place × (place ≡ length bytes)
IsEnd bytes place (Some at) =
    (at ≡ place) × ((read_header bytes ≡ Err Short × (at ≡ 0)) ⊎ ((marker : List ℕ) × IsReadSo marker bytes at × DamageAt marker bytes at Torn))
