-- A round as a command: what the status 0 says of it, and what its other ends show.
use Rattle.std.specs.Prelude.{◌≡◌, ◌⊎◌, ℕ, List, ◌++◌, codes, Some, Result, Ok, Err}
use Rattle.chk_site.specs.History.{History}
use Rattle.chk_world.specs.Names.{CheckFile, spell}
use Rattle.chk_round.specs.declared.faults.RoundFault.{RoundFault}
use Rattle.chk_round.specs.declared.faults.RoundFault.TheVariants as rounds
use Rattle.chk_round.specs.declared.words.RoundWords.{RoundWords}
use Rattle.chk_round.specs.LastPolls.{LastPoll}
use Rattle.chk_round.specs.Spent.{IsSpentRound}
use Rattle.chk_cmd_round.specs.declared.ends.RoundEnd.{RoundEnd}
use Rattle.chk_cmd_round.specs.declared.ends.RoundEnd.TheVariants.{Fault, Unclosed as FoundUnclosed}
use Rattle.chk_cmd_round.specs.Running.{DoneAndTold, EndsByCall, RunsRound}
use Rattle.chk_cmd_line.specs.Commands.{RoundAsked}
use Rattle.chk_cmd_line.specs.declared.endings.Ending.{Ending}
use Rattle.chk_cmd_line.specs.declared.endings.Ending.TheVariants.{Outside, NoMemory, Damaged, Length, Growing, Unclosed, Shrank, Spent, Refused, Differ}

-- these are the words, owned
pub record AreWordsOf (w : RoundAsked) (given : RoundWords) : Type 0 where
  pub source : given.source ≡ w.source
  pub kind : given.kind ≡ w.kind
  pub class : given.class ≡ w.class
  pub reads : given.reads ≡ w.reads
  pub cluster : given.cluster ≡ w.cluster
  pub logs : given.logs.items ≡ w.logs

-- ---- the status 0

-- the script of the run: a round, and then its lines
abbrev pub RoundScript : RoundAsked → Result (Unit {0}) RoundEnd → History → History → Type 0
RoundScript w result earlier added =
    RunsRound w.source w.kind w.class w.cluster w.logs w.reads result (Some earlier) (Some (added ++ earlier))

-- the round was done in the first of these steps, and in those behind it just its lines were printed
pub record RoundWhole (w : RoundAsked) (earlier added : History) : Type 0 where
  pub ran : RoundScript w (Ok tt) earlier added
  pub done : DoneAndTold w.source w.kind w.cluster w.logs (Ok tt) added earlier

-- ---- the other ends

-- the same fault; where there is no memory to name the checkpoint, it is want of memory
abbrev pub IsFaultEnding : List ℕ → RoundFault → Ending → Type 0
IsFaultEnding source (rounds.Outside call) e = e ≡ Outside call
IsFaultEnding source rounds.NoMemory e = e ≡ NoMemory
IsFaultEnding source (rounds.Damaged name at) e = e ≡ Damaged name at
IsFaultEnding source (rounds.Checkpoint at) e = (e ≡ Damaged (spell (CheckFile source)) at) ⊎ (e ≡ NoMemory)
IsFaultEnding source (rounds.Length stem got want) e = e ≡ Length stem got want
IsFaultEnding source (rounds.Growing path reads) e = e ≡ Growing path reads
IsFaultEnding source (rounds.Shrank path had has) e = e ≡ Shrank path had has
IsFaultEnding source (rounds.Spent number) e = e ≡ Spent number
IsFaultEnding source (rounds.Refused code) e = e ≡ Refused code

abbrev pub IsRoundEnding : List ℕ → RoundEnd → Ending → Type 0
IsRoundEnding source (Fault fault) e = IsFaultEnding source fault e
IsRoundEnding source (FoundUnclosed name) e = e ≡ Unclosed name

-- the script was cut short by this fault
abbrev pub IsRoundCut : RoundAsked → RoundFault → History → History → Type 0
IsRoundCut w fault earlier added = RoundScript w (Err (Fault fault)) earlier added

-- the call that failed is the last one, or one inside the round; the file is that of the script's fault, or the agent's own checkpoint; a sink under writing is told behind all lines
abbrev pub RoundCut : RoundAsked → History → Ending → History → Type 0
RoundCut w earlier (Outside call) added =
    EndsByCall (Err (Fault (rounds.Outside call))) added earlier × IsRoundCut w (rounds.Outside call) earlier added
RoundCut w earlier NoMemory added = Unit {0}
RoundCut w earlier (Damaged name at) added =
    IsRoundCut w (rounds.Damaged name at) earlier added
    ⊎ ((name ≡ spell (CheckFile w.source)) × IsRoundCut w (rounds.Checkpoint at) earlier added)
RoundCut w earlier (Length stem got want) added = IsRoundCut w (rounds.Length stem got want) earlier added
RoundCut w earlier (Growing path reads) added = IsRoundCut w (rounds.Growing path reads) earlier added
RoundCut w earlier (Unclosed name) added = RoundScript w (Err (FoundUnclosed name)) earlier added
RoundCut w earlier (Shrank path had has) added = IsRoundCut w (rounds.Shrank path had has) earlier added
RoundCut w earlier (Spent number) added = IsRoundCut w (rounds.Spent number) earlier added
RoundCut w earlier (Refused code) added = IsRoundCut w (rounds.Refused code) earlier added
RoundCut w earlier (Differ source kind stream at) added = ⊥

-- In a legal history nothing of its own is damaged, no log is shorter than what was read of it, and the
-- agent gets the replies that were made. Where a number is spent it is that of the collector's starts,
-- of its sinks or of the archive's segments. A length was told by the last poll, of a sink of `c1` that
-- was given up, since one of its start was full. Where another collector's sink is under writing,
-- all else was done and told.
abbrev pub RoundFits : RoundAsked → History → Ending → History → Type 0
RoundFits w earlier (Damaged name at) added = ⊥
RoundFits w earlier (Refused code) added = ⊥
RoundFits w earlier (Shrank path had has) added = ⊥
RoundFits w earlier (Unclosed name) added = DoneAndTold w.source w.kind w.cluster w.logs (Err (FoundUnclosed name)) added earlier
RoundFits w earlier (Length stem got want) added =
    LastPoll (codes "c1") stem got want (added ++ earlier)
RoundFits w earlier (Spent n) added = IsSpentRound (codes "c1") n (added ++ earlier)
RoundFits w earlier e added = Unit {0}
