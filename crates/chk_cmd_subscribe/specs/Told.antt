-- What a run prints in all.
use Rattle.std.specs.Prelude.{◌≡◌, ℕ, true, List, [], ◌∷◌, ◌++◌, length, map, Result, Ok, Err}
use Rattle.chk_site.specs.declared.acts.Who.{Who}
use Rattle.chk_site.specs.declared.acts.OutsideFault.{OutsideFault}
use Rattle.chk_site.specs.History.{History}
use Rattle.chk_site.specs.Runs.{own_acts}
use Rattle.chk_tee.specs.Messages.{Teed}
use Rattle.chk_tee_sender.specs.Sieves.{mark_of, rises}
use Rattle.chk_tee_sender.specs.declared.sieve.Mark.{Mark}
use Rattle.chk_cmd_output.specs.Printing.{by, printed}
use Rattle.chk_cmd_subscribe.specs.Lines.{chunk_line, end_line}

-- the places of these chunks
abbrev pub places : List Teed → List Mark
places [] = []
places (t ∷ ts) = mark_of t.stem t.offset ∷ places ts

-- just these lines were printed, or the first of them where a call failed
abbrev pub PrintsUpTo : Who → Result (Unit {0}) OutsideFault → List (List ℕ) → History → Type 0
PrintsUpTo who (Ok done) lines added = printed (own_acts added) ≡ map (by who) lines
PrintsUpTo who (Err fault) lines added =
    (first : List (List ℕ)) × (rest : List (List ℕ)) × (lines ≡ first ++ rest)
    × (printed (own_acts added) ≡ map (by who) first)

-- the lines of these chunks, and the last line
abbrev pub all_lines : List Teed → ℕ → List (List ℕ)
all_lines chunks refused = map chunk_line chunks ++ end_line (length chunks) refused ∷ []

-- What was printed are the lines of some chunks and how many they are. Each of the chunks lies above those of its collector
-- that stand before it, so none is printed twice.
abbrev pub PrintsOnce : Who → Result (Unit {0}) OutsideFault → History → History → Type 0
PrintsOnce who result added history =
    (chunks : List Teed) × (refused : ℕ) × (rises [] (places chunks) ≡ true)
    × PrintsUpTo who result (all_lines chunks refused) added
