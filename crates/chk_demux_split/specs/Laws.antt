-- What feeds give, one after the other, and where a split goes on.
use Rattle.std.specs.Prelude.{◌≡◌, ℕ, ◌+◌, Bool, List, [], ◌∷◌, ◌++◌, length, drop, sum_by}
use Rattle.chk_bytes.specs.Words.{joined}
use Rattle.chk_chunk.specs.Keys.{Stream}
use Rattle.std.specs.Prelude.{bytes_eq}
use Rattle.std.specs.List.{list_any}
use Rattle.chk_world.specs.Splits.{Record, ends_from, split}
use Rattle.chk_demux_split.specs.Splitting.{Splitting, Feeds, fresh, record_of, pieces_of}

-- a feed: the bytes that it took, and the splitter behind it
pub record Feed : Type 0 where
  pub bytes : List ℕ
  pub after : Splitting

-- feeds, one after the other
abbrev pub AreFeeds : Splitting → List Feed → Type 0
AreFeeds s [] = Unit {0}
AreFeeds s (f ∷ feeds) = Feeds s f.after f.bytes × AreFeeds f.after feeds

-- all that was fed
abbrev pub fed : List Feed → List ℕ
fed [] = []
fed (f ∷ feeds) = f.bytes ++ fed feeds

-- all records that were given
abbrev pub given : List Feed → List (List ℕ)
given [] = []
given (f ∷ feeds) = record_of f.after.given ++ given feeds

-- the splitter behind the last one
abbrev pub behind : Splitting → List Feed → Splitting
behind s [] = s
behind s (f ∷ feeds) = behind f.after feeds

-- However the bytes are cut, what was given is the split of all that was fed, in order, and what is
-- held is the rest of it.
pub record IsWholeSplit (by_stamps : Bool) (feeds : List Feed) : Type 0 where
  pub records : given feeds ≡ pieces_of by_stamps (fed feeds)
  pub rest : fed feeds
      ≡ joined (given feeds) ++ (behind (fresh by_stamps) feeds).begun
      ++ (behind (fresh by_stamps) feeds).line

abbrev pub FeedsSplit : Type 0
FeedsSplit =
    (by_stamps : Bool) (feeds : List Feed) → AreFeeds (fresh by_stamps) feeds
    → IsWholeSplit by_stamps feeds

-- the records of a stream's split are these, with their ends
abbrev pub SplitIsPieces : Type 0
SplitIsPieces =
    (stamped : List (List ℕ)) (s : Stream) (start : ℕ) (bytes : List ℕ)
    → split stamped s start bytes
    ≡ ends_from start (pieces_of (list_any (bytes_eq s.kind) stamped) bytes)

-- the bytes of some records
abbrev pub size_of : List Record → ℕ
size_of records = sum_by (λ (r : Record). length r.bytes) records

-- the records behind the first ones are the split of the bytes behind them: a run may begin at the
-- end of any record
abbrev pub SplitGoesOn : Type 0
SplitGoesOn =
    (stamped : List (List ℕ)) (s : Stream) (start : ℕ) (bytes : List ℕ) (first more : List Record)
    → split stamped s start bytes ≡ first ++ more
    → more ≡ split stamped s (start + size_of first) (drop (size_of first) bytes)

-- the records of the first bytes are the first records of all bytes
abbrev pub SplitGrows : Type 0
SplitGrows =
    (stamped : List (List ℕ)) (s : Stream) (start : ℕ) (first later : List ℕ)
    → (more : List Record)
    × (split stamped s start (first ++ later) ≡ split stamped s start first ++ more)
