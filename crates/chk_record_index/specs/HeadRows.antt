-- Which heads the rows stand for.
use Rattle.std.specs.Prelude.{◌≡◌, ℕ, ◌-◌, ◌<◌, ◌≤◌, ◌==◌, ◌&&◌, Bool, List, ◌++◌, map, length, drop, bytes_eq, slice_index, slice_index_or, All}
use Rattle.chk_chunk.specs.Keys.{Key, IsKey, no_cluster}
use Rattle.chk_record_index.specs.declared.origins.Origin.{Origin}
use Rattle.chk_record_index.specs.declared.recent.Recent.{Recent}
use Rattle.chk_record_index.specs.declared.recents.Recents.{Recents}
use Rattle.chk_record_index.specs.declared.recents.Next.{Next}
use Rattle.chk_record_index.specs.declared.gather.Row.{Row}
use Rattle.chk_record_index.specs.declared.gather.Heads.TheInside.{Inside}
use Rattle.chk_record_index.specs.Heads.{Head}

abbrev pub no_origin : Origin
no_origin = record { source = no_cluster; kind = no_cluster; name = no_cluster; start = 0; cluster = no_cluster }

-- a key without its sequence id
abbrev pub origin_of : Key → Origin
origin_of k = record {
  source = k.stream.source;
  kind = k.stream.kind;
  name = k.stream.name;
  start = k.start;
  cluster = k.cluster;
}

-- the origin is that of the key
abbrev pub is_origin_of : Key → Origin → Bool
is_origin_of k o =
    o.start == k.start && (bytes_eq o.name k.stream.name && (bytes_eq o.source k.stream.source
    && (bytes_eq o.kind k.stream.kind && bytes_eq o.cluster k.cluster)))

-- the key's origin stands at this place
pub record HasOrigin (origins : List Origin) (i : ℕ) (k : Key) : Type 0 where
  pub there : i < length origins
  pub is : slice_index_or origins i no_origin ≡ origin_of k

-- others may stand behind them
abbrev pub HasGrown : List Origin → List Origin → Type 0
HasGrown old new = (more : List Origin) × (new ≡ old ++ more)

-- the key of an origin with this sequence id
abbrev pub origin_key : Origin → ℕ → Key
origin_key o seq = record {
  stream = record { source = o.source; kind = o.kind; name = o.name };
  start = o.start;
  cluster = o.cluster;
  seq = seq;
}

-- its first offset
abbrev pub row_begin : Row → ℕ
row_begin r = r.end - r.size

-- the head that a row stands for
abbrev pub head_in_row : List Origin → Row → Head
head_in_row origins r = record {
  key = origin_key (slice_index_or origins r.origin no_origin) r.end;
  begin = row_begin r;
  file = r.file;
  at = r.at;
}

abbrev pub heads_view : Inside → List Head
heads_view h = map (head_in_row h.origins.items) h.rows.items

-- the recent bytes are this key, and its origin has the recent number
pub record IsRecent (origins : List Origin) (r : Recent) (k : Key) : Type 0 where
  pub is : IsKey k r.key
  pub start : k.start ≡ r.start
  pub origin : HasOrigin origins r.origin k

-- where there are recent bytes, they are a key of one of the origins
abbrev pub IsKept : List Origin → Recent → Type 0
IsKept origins r = 0 < length r.key → (k : Key) × IsRecent origins r k

-- so it is at each place
pub record AreKept (origins : List Origin) (rs : Recents) : Type 0 where
  pub each : All (IsKept origins) rs.places.items

-- each row's origin is there, and so are those of the kept keys
pub record AreSoundRows (h : Inside) : Type 0 where
  pub known : All (λ (r : Row). r.origin < length h.origins.items) h.rows.items
  pub kept : AreKept h.origins.items h.recents

-- as long as a version and a sequence id at least, and the same but for the sequence id
pub record AreAlike (a b : List ℕ) : Type 0 where
  pub long : 9 ≤ length a
  pub size : length a ≡ length b
  pub first : slice_index a 0 ≡ slice_index b 0
  pub rest : drop 9 a ≡ drop 9 b

-- the key with this sequence id
abbrev pub with_seq : ℕ → Key → Key
with_seq seq k = record { stream = k.stream; start = k.start; cluster = k.cluster; seq = seq }

-- whichever key the recent bytes are, the bytes are that key with this sequence id
pub record IsNext (r : Recent) (bytes : List ℕ) (seq : ℕ) : Type 0 where
  pub some : 0 < length r.key
  pub is : (k : Key) → IsKey k r.key → k.start ≡ r.start → IsKey (with_seq seq k) bytes

-- the bytes are a key with this sequence id and this start, whose origin has this number
pub record IsKnown (origins : List Origin) (bytes : List ℕ) (next : Next) : Type 0 where
  pub key : Key
  pub is : IsKey key bytes
  pub seq : key.seq ≡ next.seq
  pub start : key.start ≡ next.start
  pub origin : HasOrigin origins next.origin key
