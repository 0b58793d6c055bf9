-- A splitter: what it has of a stream's bytes, and what a feed gives.
use Rattle.std.specs.Prelude.{◌≡◌, ◌⊎◌, ℕ, ◌+◌, ◌≤◌, Bool, ◌||◌, nat_lt, List, [], ◌∷◌, ◌++◌, length, if◌then◌else◌}
use Rattle.chk_chunk.specs.Keys.{chunk_limit, record_limit}
use Rattle.chk_world.specs.Splits.{lines_from, has_stamp, records_behind, stamped_records}

-- the complete records of some bytes: by stamps, or each line
abbrev pub pieces_of : Bool → List ℕ → List (List ℕ)
pieces_of by_stamps bytes =
    if by_stamps then stamped_records (lines_from [] bytes) else lines_from [] bytes

-- how it splits, the record that is given, the lines of the one that has begun, and the line that
-- isn't complete
pub record Splitting : Type 0 where
  pub by_stamps : Bool
  pub given : List ℕ
  pub begun : List ℕ
  pub line : List ℕ

-- before the first byte
abbrev pub fresh : Bool → Splitting
fresh by_stamps = record { by_stamps = by_stamps; given = []; begun = []; line = [] }

-- what was given is let go
abbrev pub without_given : Splitting → Splitting
without_given s = record s { given = [] }

-- a record, where one is given
abbrev pub record_of : List ℕ → List (List ℕ)
record_of [] = []
record_of (b ∷ bytes) = (b ∷ bytes) ∷ []

-- the records of lines behind those of the record that has begun, where one has
abbrev pub records_after : List ℕ → List (List ℕ) → List (List ℕ)
records_after [] lines = stamped_records lines
records_after (b ∷ begun) lines = records_behind (b ∷ begun) lines

-- the records that it will give of so many more bytes
abbrev pub records_ahead : Splitting → List ℕ → List (List ℕ)
records_ahead s more =
    if s.by_stamps then records_after s.begun (lines_from s.line more) else lines_from s.line more

-- A feed of these bytes: none is lost, whatever comes behind them is split as it would have been,
-- and the record that is given is the one that they complete.
pub record Feeds (old new : Splitting) (bytes : List ℕ) : Type 0 where
  pub kind : new.by_stamps ≡ old.by_stamps
  pub kept : old.begun ++ old.line ++ bytes ≡ new.given ++ new.begun ++ new.line
  pub ahead : (more : List ℕ)
      → records_ahead old (bytes ++ more) ≡ record_of new.given ++ records_ahead new more
  pub most : length new.given + length new.begun + length new.line ≤ record_limit + chunk_limit

-- of the bytes, so many were taken: all of them, or those up to the end of a line
abbrev pub TakesLine : Splitting → List ℕ → ℕ → Type 0
TakesLine s bytes taken = (taken ≡ length bytes) ⊎ (s.line ≡ [])

-- the line begins a record behind the one that has begun
abbrev pub begins_record : List ℕ → List ℕ → Bool
begins_record begun line = has_stamp line || nat_lt record_limit (length begun + length line)

-- how many bytes of the record that has begun, and of the line that has ended behind it, are a
-- complete record
abbrev pub complete_size : Bool → List ℕ → List ℕ → ℕ
complete_size by_stamps [] line = if by_stamps then 0 else length line
complete_size by_stamps (b ∷ begun) line =
    if by_stamps then (if begins_record (b ∷ begun) line then length (b ∷ begun) else 0)
    else length (b ∷ begun) + length line
