-- A record of which its lengths and its key have come, but not all of its value.
use Rattle.std.specs.Prelude.{◌≡◌, ℕ, ◌+◌, ◌<◌, ◌≤◌, ◌^◌, List, [], ◌∷◌, ◌++◌, length, take, Some}
use Rattle.chk_bytes.specs.Numbers.{spelled_at}
use Rattle.chk_seqfile.specs.declared.entries.Why.TheVariants.{Torn}
use Rattle.chk_seqfile.specs.Entries.{Placed, records_of}
use Rattle.chk_salvage.specs.Front.{IsReadSo, DamageAt}
use Rattle.chk_salvage.specs.Feeding.{fed_place, fed_rest, fed_limit, fed_marker, IsFed}
use Rattle.chk_salvage.specs.declared.pieces.Pieces.{Pieces}
use Rattle.chk_salvage.specs.declared.fed.Ahead.{Ahead}

-- the bytes begin with the lengths of a record whose key has k bytes and whose value has v, and with its key
pub record HasHead (bytes : List ℕ) (k v : ℕ) : Type 0 where
  pub small : 8 + k + v < 2 ^ 31
  pub come : 16 + k ≤ length bytes
  pub size : spelled_at 0 4 bytes ≡ 8 + k + v
  pub key_part : spelled_at 4 4 bytes ≡ 4 + k
  pub key_size : spelled_at 8 4 bytes ≡ k
  pub value_size : spelled_at (12 + k) 4 bytes ≡ v

-- the record that is ahead, with this value
abbrev pub placed_ahead : Ahead → List ℕ → Placed
placed_ahead a value = record { at = a.at; end = a.end; key = a.key.now; value = value }

-- what the file is up to the record's end: a SequenceFile, whose last record is this one with some value
pub record IsWholeBy (marker fed missing : List ℕ) (a : Ahead) : Type 0 where
  pub so : IsReadSo marker (fed ++ missing) a.end
  pub value : List ℕ
  pub size : length value ≡ a.size
  pub records : records_of (take a.end (fed ++ missing)) ≡ records_of (take a.at fed) ++ placed_ahead a value ∷ []

-- a record within the limit begins at the place, and not all of it was fed: whatever bytes follow up to its end, it is
-- that record; where fewer follow, it is torn
pub record IsAhead (p : Pieces) (a : Ahead) : Type 0 where
  pub marker : List ℕ
  pub opened : fed_marker p ≡ Some marker
  pub at : a.at ≡ fed_place p
  pub end : a.end ≡ a.at + (16 + length a.key.now + a.size)
  pub come : 16 + length a.key.now ≤ length (fed_rest p)
  pub owed : a.at + length (fed_rest p) < a.end
  pub within : 8 + length a.key.now + a.size ≤ fed_limit p
  pub fits : a.end < 2 ^ 63
  pub whole : (fed missing : List ℕ) → IsFed p fed → length fed + length missing ≡ a.end → IsWholeBy marker fed missing a
  pub torn : (fed more : List ℕ) → IsFed p fed → length fed + length more < a.end
      → IsReadSo marker (fed ++ more) a.at × DamageAt marker (fed ++ more) a.at Torn

-- a record with a key of k bytes and a value of v begins there, and not all of it was fed
pub record OwesValue (p : Pieces) (k v : ℕ) : Type 0 where
  pub marker : List ℕ
  pub opened : fed_marker p ≡ Some marker
  pub head : HasHead (fed_rest p) k v
  pub owed : length (fed_rest p) < 16 + k + v
  pub within : 8 + k + v ≤ fed_limit p
  pub fits : fed_place p + (16 + k + v) < 2 ^ 63
