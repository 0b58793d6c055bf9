-- What each read of a step gives, where the site tells its history.
use Rattle.std.specs.Prelude.{◌≡◌, false, ◌∷◌, ◌++◌, Ok}
use Rattle.chk_site.specs.declared.suffixes.Piece.{Piece}
use Rattle.chk_site.specs.CutLaws.{MayStop}
use Rattle.chk_site.specs.Logs.{part_of, read_from}
use Rattle.chk_site.specs.History.{Step, History, logs_after, is_stopped}
use Rattle.chk_site.specs.Site.{answered, Calls, piece_given}
use Rattle.chk_tail.specs.Taking.{asks_at, TakesMost}
use Rattle.chk_tail.specs.Walks.{Spot, Way, part, in_file, reading}

-- A read of the told history, where the site wasn't stopped: after steps of others it was of a
-- generation, of which what a reader takes is the most, where it stood at a place at which it may
-- stop.
pub record ReadsMost (way : Way) (p : Spot) (piece : Piece) (added history : History) : Type 0
  where
    pub others : History
    pub step : Step
    pub added_is : added ≡ step ∷ others
    pub most :
        let g = read_from (part_of (part way.rotated p.after))
        (logs_after (others ++ history) way.path) in
        MayStop way.lines g (in_file p)
        → TakesMost way.lines piece g (in_file p) (asks_at p.offset)

-- each read of a walk that gave a piece is so
abbrev pub EachReadTakesMost : Type 0
EachReadTakesMost =
    (way : Way) (p : Spot) (piece : Piece) (added history : History)
    → is_stopped history ≡ false
    → Calls (reading way p) (answered piece_given (Ok piece)) added history
    → ReadsMost way p piece added history
