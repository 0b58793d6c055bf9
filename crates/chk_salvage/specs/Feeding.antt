-- What a reader that is fed has been fed, and what it answers.
use Rattle.std.specs.Prelude.{◌≡◌, ◌≢◌, ◌⊎◌, ℕ, ◌+◌, ◌<◌, ◌≤◌, List, [], ◌∷◌, ◌++◌, length, take, drop, Option, Some, None, Err}
use Rattle.chk_seqfile.specs.declared.headers.HeaderFault.TheVariants.{Short}
use Rattle.chk_seqfile.specs.declared.entries.Why.TheVariants.{Torn}
use Rattle.chk_seqfile.specs.Headers.{read_header}
use Rattle.chk_seqfile.specs.Entries.{Placed, records_of}
use Rattle.chk_salvage.specs.Front.{IsReadSo, DamageAt}
use Rattle.chk_salvage.specs.Longs.{IsLong, NotLong}
use Rattle.chk_salvage.specs.Views.{placed_of}
use Rattle.chk_salvage.specs.declared.pieces.Pieces.{Pieces}
use Rattle.chk_salvage.specs.declared.fed.Fed.{Fed}
use Rattle.chk_salvage.specs.declared.fed.Fed.TheVariants.{Entry, More, Header, Damaged, Long}

-- the place behind the header, the last entry or the last sync entry, and 0 before the header's end
abbrev pub fed_place : Pieces → ℕ
fed_place p = p.place

-- the bytes fed from that place on
abbrev pub fed_rest : Pieces → List ℕ
fed_rest p = drop p.used p.bytes.items

-- the longest record that it takes
abbrev pub fed_limit : Pieces → ℕ
fed_limit p = p.limit

-- the marker, once the header has ended
abbrev pub fed_marker : Pieces → Option (List ℕ)
fed_marker p = p.marker

-- before the header's end it stands at 0; behind it, what it has passed is a SequenceFile
abbrev pub IsFedSo : Option (List ℕ) → List ℕ → ℕ → Type 0
IsFedSo None fed place = place ≡ 0
IsFedSo (Some marker) fed place = IsReadSo marker fed place

-- these bytes were fed, in whatever pieces
pub record IsFed (p : Pieces) (fed : List ℕ) : Type 0 where
  pub within : fed_place p ≤ length fed
  pub rest : drop (fed_place p) fed ≡ fed_rest p
  pub so : IsFedSo (fed_marker p) fed (fed_place p)

-- how many of the bytes are read, and what stands there, after an answer. A record is no longer than the limit. More comes where the bytes are a proper front
-- of a header, or where behind the header nothing or a part of an entry stands that isn't too long; Header where
-- the header is refused for another reason; Damaged where more bytes can't mend what stands there; Long where a record
-- is too long
abbrev pub Stands : ℕ → List ℕ → Option (List ℕ) → ℕ → Fed → Type 0
Stands limit fed marker place (Entry e) = (e.end ≡ place) × (8 + length e.key.now + length e.value.now ≤ limit)
Stands limit fed None place More = read_header fed ≡ Err Short
Stands limit fed (Some marker) place More =
    ((place ≡ length fed) ⊎ DamageAt marker fed place Torn) × NotLong limit fed place × (length fed < place + (limit + 8))
Stands limit fed None place (Header fault) = (read_header fed ≡ Err fault) × (fault ≢ Short)
Stands limit fed (Some marker) place (Header fault) = ⊥
Stands limit fed None place (Damaged at why) = ⊥
Stands limit fed (Some marker) place (Damaged at why) =
    (at ≡ place) × DamageAt marker fed place why × (why ≢ Torn) × NotLong limit fed place
Stands limit fed None place (Long at need) = ⊥
Stands limit fed (Some marker) place (Long at need) = (at ≡ place) × IsLong limit fed place need

-- the answer is no record
abbrev pub GivesNone : Fed → Type 0
GivesNone (Entry e) = ⊥
GivesNone More = Unit {0}
GivesNone (Header fault) = Unit {0}
GivesNone (Damaged at why) = Unit {0}
GivesNone (Long at need) = Unit {0}

-- the record that an answer gives, if it gives one
abbrev pub record_fed : Fed → List Placed
record_fed (Entry e) = placed_of e ∷ []
record_fed More = []
record_fed (Header fault) = []
record_fed (Damaged at why) = []
record_fed (Long at need) = []

-- the answer, by the bytes fed, whatever the pieces were: the records that were given are those of the bytes up to the
-- place
pub record Answers (old new : Pieces) (fed : List ℕ) (answer : Fed) : Type 0 where
  pub state : IsFed new fed
  pub records : records_of (take (fed_place new) fed) ≡ records_of (take (fed_place old) fed) ++ record_fed answer
  pub stands : Stands (fed_limit new) fed (fed_marker new) (fed_place new) answer
  pub stays : (stop : Fed) → GivesNone stop → Stands (fed_limit old) fed (fed_marker old) (fed_place old) stop
      → (answer ≡ stop) × (fed_place new ≡ fed_place old)

-- after a call of `next`
pub record Answered (old new : Pieces) (answer : Fed) : Type 0 where
  pub limit : fed_limit new ≡ fed_limit old
  pub onward : fed_place old ≤ fed_place new
  pub by_fed : (fed : List ℕ) → IsFed old fed → Answers old new fed answer
