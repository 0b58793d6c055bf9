-- Which chunks a sieve lets through.
use Rattle.std.specs.Prelude.{◌≡◌, ℕ, ◌<◌, Bool, true, false, ◌&&◌, ◌||◌, ◌==◌, nat_lt, bytes_eq, List, [], ◌∷◌, ◌++◌, length, get_or, if◌then◌else◌}
use Rattle.chk_bytes.specs.Stems.{Stem}
use Rattle.chk_tee_sender.specs.declared.sieve.Mark.{Mark}

-- a place in a sink
abbrev pub mark_of : Stem → ℕ → Mark
mark_of stem offset = record { stem = stem; offset = offset }

-- they are places of one collector's sinks
abbrev pub same_collector : Mark → Mark → Bool
same_collector a b = bytes_eq a.stem.collector b.stem.collector

-- the second is above the first, by start, number and offset
abbrev pub later : Mark → Mark → Bool
later a b =
    nat_lt a.stem.born b.stem.born
    || (a.stem.born == b.stem.born
    && (nat_lt a.stem.number b.stem.number || (a.stem.number == b.stem.number && nat_lt a.offset b.offset)))

-- the place is above the one of its collector that is kept
abbrev pub is_fresh : List Mark → Mark → Bool
is_fresh [] p = true
is_fresh (m ∷ ms) p = if same_collector m p then later m p else is_fresh ms p

-- the greater of two places
abbrev pub greater : Mark → Mark → Mark
greater m p = if later m p then p else m

-- what is kept after it was asked for
abbrev pub asked_for : List Mark → Mark → List Mark
asked_for [] p = p ∷ []
asked_for (m ∷ ms) p = if same_collector m p then greater m p ∷ ms else m ∷ asked_for ms p

-- the first kept place of the collector stands there
pub record IsFirst (marks : List Mark) (p : Mark) (i : ℕ) : Type 0 where
  pub within : i < length marks
  pub same : same_collector (get_or marks i p) p ≡ true
  pub before : (k : ℕ) → k < i → same_collector (get_or marks k p) p ≡ false

-- no place of the collector is kept
abbrev pub HasNone : List Mark → Mark → Type 0
HasNone marks p = (k : ℕ) → k < length marks → same_collector (get_or marks k p) p ≡ false

-- ---- the law

-- what is kept after it was asked for these, one after the other
abbrev pub asked_for_all : List Mark → List Mark → List Mark
asked_for_all marks [] = marks
asked_for_all marks (p ∷ ps) = asked_for_all (asked_for marks p) ps

-- the place is above each of these that is of its collector
abbrev pub is_above : List Mark → Mark → Bool
is_above [] p = true
is_above (q ∷ asked) p = (if same_collector q p then later q p else true) && is_above asked p

-- A place is fresh exactly where it is above every one that it was asked for before of the same collector.
abbrev pub FreshIsAbove : Type 0
FreshIsAbove = (asked : List Mark) (p : Mark) → is_fresh (asked_for_all [] asked) p ≡ is_above asked p

-- those of the places that are fresh, where it is asked for all of them in turn
abbrev pub let_through : List Mark → List Mark → List Mark
let_through marks [] = []
let_through marks (p ∷ ps) =
    if is_fresh marks p then p ∷ let_through (asked_for marks p) ps else let_through (asked_for marks p) ps

-- each of them is above those of its collector that stand before it
abbrev pub rises : List Mark → List Mark → Bool
rises before [] = true
rises before (p ∷ ps) = is_above before p && rises (before ++ p ∷ []) ps

-- What is let through of one collector rises strictly, so each place once.
abbrev pub EachOnce : Type 0
EachOnce = (asked : List Mark) → rises [] (let_through [] asked) ≡ true
