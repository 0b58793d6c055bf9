-- What a load that is a command comes to.
use Rattle.std.specs.Prelude.{◌≡◌, ◌⊎◌, ℕ, [], ◌∷◌, ◌++◌, codes, Some, Ok, Err}
use Rattle.chk_site.specs.History.{History}
use Rattle.chk_site.specs.Runs.{Owns, own_acts}
use Rattle.chk_site.specs.Site.{EndsIn}
use Rattle.chk_round.specs.declared.faults.RoundFault.{RoundFault}
use Rattle.chk_round.specs.declared.faults.RoundFault.TheVariants as rounds
use Rattle.chk_round.specs.LastPolls.{LastPoll}
use Rattle.chk_round.specs.Spent.{IsSpentRound}
use Rattle.chk_cmd_load.specs.declared.ends.LoadEnd.{LoadEnd}
use Rattle.chk_cmd_load.specs.declared.ends.LoadEnd.TheVariants as loads
use Rattle.chk_cmd_load.specs.declared.ends.LoadReport.{LoadReport}
use Rattle.chk_cmd_load.specs.Loads.{EndsAsRound, LoadDone, LoadsBy, RoundEndsSo, summary_line}
use Rattle.chk_cmd_load.specs.Pieces.{AppendsFront, HasAppended, done_print, of_writer}
use Rattle.chk_cmd_line.specs.declared.endings.Ending.{Ending}
use Rattle.chk_cmd_line.specs.declared.endings.Ending.TheVariants.{Outside, NoMemory, Damaged, Length, Growing, Unclosed, Shrank, Spent, Refused, Differ}

-- The writer appended just the generated lines to the three logs and printed just this summary, and
-- all other calls were those of the round: a done round of these logs behind the appends, with its
-- class, cluster and reads.
pub record LoadedOnce (lines : ℕ) (report : LoadReport) (earlier added : History) : Type 0 where
  pub own : Owns LoadsBy added earlier
  pub appended : HasAppended lines (own_acts added)
  pub printed : of_writer done_print (own_acts added) ≡ summary_line report ∷ []
  pub script : RoundEndsSo lines (Ok report) (Some earlier) (Some (added ++ earlier))

abbrev pub LoadDid : ℕ → History → History → Type 0
LoadDid lines earlier added = (report : LoadReport) × LoadedOnce lines report earlier added

-- and the steps behind the appends are a whole round of the three logs, whose report the summary tells
abbrev pub LoadWhole : ℕ → History → History → Type 0
LoadWhole lines earlier added =
    (report : LoadReport) × LoadedOnce lines report earlier added × LoadDone lines (Ok report) added earlier

-- ---- how it ends otherwise

-- all lines were appended, and the round behind that ended by this fault
abbrev pub IsRoundOfLoad : ℕ → RoundFault → History → History → Type 0
IsRoundOfLoad lines fault earlier added =
    HasAppended lines (own_acts added)
    × EndsAsRound lines fault (Some earlier) (Some (added ++ earlier))

-- A call of the load's own that failed is the last one. Each other end than want of memory comes
-- from the round, before which all lines were appended: it is the round's fault, or the checkpoint
-- of its agent is damaged, or the round is done and found a sink of another collector.
abbrev pub LoadFault : ℕ → History → Ending → History → Type 0
LoadFault lines earlier (Outside call) added =
    (EndsIn call added × AppendsFront lines (own_acts added))
    ⊎ IsRoundOfLoad lines (rounds.Outside call) earlier added
LoadFault lines earlier NoMemory added = Unit {0}
LoadFault lines earlier (Damaged name at) added =
    IsRoundOfLoad lines (rounds.Damaged name at) earlier added
    ⊎ ((name ≡ codes "agents/load.check")
    × IsRoundOfLoad lines (rounds.Checkpoint at) earlier added)
LoadFault lines earlier (Length stem got want) added =
    IsRoundOfLoad lines (rounds.Length stem got want) earlier added
LoadFault lines earlier (Growing path reads) added =
    IsRoundOfLoad lines (rounds.Growing path reads) earlier added
LoadFault lines earlier (Unclosed name) added =
    HasAppended lines (own_acts added)
    × RoundEndsSo lines (Err (loads.Unclosed name)) (Some earlier) (Some (added ++ earlier))
LoadFault lines earlier (Shrank path had has) added =
    IsRoundOfLoad lines (rounds.Shrank path had has) earlier added
LoadFault lines earlier (Spent number) added =
    IsRoundOfLoad lines (rounds.Spent number) earlier added
LoadFault lines earlier (Refused code) added =
    IsRoundOfLoad lines (rounds.Refused code) earlier added
LoadFault lines earlier (Differ source kind stream at) added = ⊥

-- no summary was printed
pub record LoadCut (lines : ℕ) (earlier : History) (e : Ending) (added : History) : Type 0 where
  pub own : Owns LoadsBy added earlier
  pub unprinted : of_writer done_print (own_acts added) ≡ []
  pub fault : LoadFault lines earlier e added

-- In a legal history nothing of the program's own is damaged, no log is shorter than what was read of
-- it, and the agent gets the replies that were made. A sink of another collector under writing ends
-- only a load that is done. Where a number is spent it is that of the collector's starts, of its sinks
-- or of the archive's segments. A length was told by the last poll, of a sink of `c1` that was given
-- up, since one of its start was full.
abbrev pub LoadFits : ℕ → History → Ending → History → Type 0
LoadFits lines earlier (Damaged name at) added = ⊥
LoadFits lines earlier (Refused code) added = ⊥
LoadFits lines earlier (Shrank path had has) added = ⊥
LoadFits lines earlier (Unclosed name) added = LoadDone lines (Err (loads.Unclosed name)) added earlier
LoadFits lines earlier (Length stem got want) added =
    LastPoll (codes "c1") stem got want (added ++ earlier)
LoadFits lines earlier (Spent n) added = IsSpentRound (codes "c1") n (added ++ earlier)
LoadFits lines earlier e added = Unit {0}

-- ---- which ending a fault is

-- the same fault of the round; where there is no memory to name the checkpoint, it is want of memory
abbrev pub IsRoundEnding : RoundFault → Ending → Type 0
IsRoundEnding (rounds.Outside call) e = e ≡ Outside call
IsRoundEnding rounds.NoMemory e = e ≡ NoMemory
IsRoundEnding (rounds.Damaged name at) e = e ≡ Damaged name at
IsRoundEnding (rounds.Checkpoint at) e = (e ≡ Damaged (codes "agents/load.check") at) ⊎ (e ≡ NoMemory)
IsRoundEnding (rounds.Length stem got want) e = e ≡ Length stem got want
IsRoundEnding (rounds.Growing path reads) e = e ≡ Growing path reads
IsRoundEnding (rounds.Shrank path had size) e = e ≡ Shrank path had size
IsRoundEnding (rounds.Spent number) e = e ≡ Spent number
IsRoundEnding (rounds.Refused code) e = e ≡ Refused code

-- the same fault of the load
abbrev pub IsLoadEnding : LoadEnd → Ending → Type 0
IsLoadEnding (loads.Outside call) e = e ≡ Outside call
IsLoadEnding loads.NoMemory e = e ≡ NoMemory
IsLoadEnding (loads.Round fault) e = IsRoundEnding fault e
IsLoadEnding (loads.Unclosed name) e = e ≡ Unclosed name
