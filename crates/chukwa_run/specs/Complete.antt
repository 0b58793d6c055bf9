-- What may still end a run in which no call failed, from a legal history and beside others that obey.
use Rattle.std.specs.Prelude.{◌≡◌, ℕ, false, List, ◌++◌, codes, Err}
use Rattle.chk_site.specs.History.{History, is_stopped}
use Rattle.chk_site.specs.Runs.{Since}
use Rattle.chk_round.specs.declared.faults.RoundFault.TheVariants as rounds
use Rattle.chk_round.specs.LastPolls.{LastPoll}
use Rattle.chk_round.specs.Spent.{IsSpentRound}
use Rattle.chk_cmd_round.specs.declared.ends.RoundEnd.TheVariants.{Unclosed as FoundUnclosed}
use Rattle.chk_cmd_round.specs.Running.{DoneAndTold}
use Rattle.chk_cmd_load.specs.declared.ends.LoadEnd.TheVariants as loads
use Rattle.chk_cmd_load.specs.Loads.{LoadDone}
use Rattle.chk_cmd_drain.specs.declared.faults.DrainFault.TheVariants as drains
use Rattle.chk_cmd_line.specs.Commands.{RoundAsked, AgentAsked, CollectorAsked, DrainAsked}
use Rattle.chk_cmd_line.specs.Commands.{Asked, Round, Agent, Collector, Drain, Archive, Demux, Salvage, Load, Udp, Subscribe, Join}
use Rattle.chk_cmd_line.specs.Endings.{ending_status, ending_line}
use Rattle.chk_cmd_line.specs.declared.endings.Ending.{Ending}
use Rattle.chk_cmd_line.specs.declared.endings.Ending.TheVariants.{Damaged, Length, Growing, Unclosed, Spent, Refused}
use Rattle.chukwa_run.specs.Demuxing.{DemuxFits}
use Rattle.chukwa_run.specs.Draining.{DrainScript}
use Rattle.chukwa_run.specs.Endings.{EndedBy}
use Rattle.chukwa_run.specs.Datagrams.{LeftOfUdp}
use Rattle.chukwa_run.specs.Joining.{LeftOfJoin}
use Rattle.chukwa_run.specs.Loading.{IsRoundOfLoad}
use Rattle.chukwa_run.specs.RoundRuns.{IsRoundCut, RoundScript}
use Rattle.chukwa_run.specs.Showing.{IsBadLine, IsBadDrainLine, ArchiveFits, CollectorFits, ShowsBadHeader}
use Rattle.chukwa_run.specs.Whole.{Whole}

-- ---- command by command: what may still end it, and what that shows

-- a log gave bytes at each of the stated reads; a sink of another collector was under writing at the
-- listing, and all else was done and told; numbers of starts, of sinks or of segments are spent; the
-- last poll gave a length below an answered offset, of a sink of `c1` that was given up, since one
-- of its start was full
abbrev pub LeftOfRound : RoundAsked → History → Ending → History → Type 0
LeftOfRound w earlier (Growing path reads) added = IsRoundCut w (rounds.Growing path reads) earlier added
LeftOfRound w earlier (Unclosed name) added =
    RoundScript w (Err (FoundUnclosed name)) earlier added
    × DoneAndTold w.source w.kind w.cluster w.logs (Err (FoundUnclosed name)) added earlier
LeftOfRound w earlier (Spent n) added = IsSpentRound (codes "c1") n (added ++ earlier)
LeftOfRound w earlier (Length stem got want) added =
    IsRoundCut w (rounds.Length stem got want) earlier added
    × LastPoll (codes "c1") stem got want (added ++ earlier)
LeftOfRound w earlier e added = ⊥

-- a line of the initial file is neither blank, nor of a stream that is read, nor an accepted `add`
abbrev pub LeftOfAgent : AgentAsked → History → Ending → History → Type 0
LeftOfAgent w earlier (Damaged name at) added = IsBadLine w name at earlier added
LeftOfAgent w earlier e added = ⊥

-- a line of the file of its subscribers is wrong, or the number of its starts is the last one
abbrev pub LeftOfCollector : CollectorAsked → History → Ending → History → Type 0
LeftOfCollector w earlier (Damaged name at) added = CollectorFits w earlier (Damaged name at) added
LeftOfCollector w earlier (Spent n) added = CollectorFits w earlier (Spent n) added
LeftOfCollector w earlier e added = ⊥

-- a line of the initial file, as of an agent; a log gave bytes at each of the stated reads; the polls
-- didn't reach an answered offset within their number; all addresses in a row gave no good reply
abbrev pub LeftOfDrain : DrainAsked → History → Ending → History → Type 0
LeftOfDrain w earlier (Damaged name at) added = IsBadDrainLine w name at earlier added
LeftOfDrain w earlier (Growing path reads) added =
    DrainScript w (Err (drains.Growing path reads)) earlier added
LeftOfDrain w earlier (Length stem got want) added =
    DrainScript w (Err (drains.Pending stem got want)) earlier added
LeftOfDrain w earlier (Refused code) added = DrainScript w (Err (drains.Refused code)) earlier added
LeftOfDrain w earlier e added = ⊥

-- no number is left for a segment that is needed now
abbrev pub LeftOfArchive : History → Ending → History → Type 0
LeftOfArchive earlier (Spent n) added = ArchiveFits (added ++ earlier) (Spent n)
LeftOfArchive earlier e added = ⊥

-- no number is left for a record that is still to be written
abbrev pub LeftOfDemux : List (List ℕ) → History → Ending → History → Type 0
LeftOfDemux kinds earlier (Spent n) added = DemuxFits kinds (added ++ earlier) (Spent n)
LeftOfDemux kinds earlier e added = ⊥

-- the file's header is refused
abbrev pub LeftOfSalvage : List ℕ → History → Ending → History → Type 0
LeftOfSalvage file earlier (Damaged name at) added = ShowsBadHeader file name at added earlier
LeftOfSalvage file earlier e added = ⊥

-- as of a round, behind the appends of all lines
abbrev pub LeftOfLoad : ℕ → History → Ending → History → Type 0
LeftOfLoad lines earlier (Growing path reads) added =
    IsRoundOfLoad lines (rounds.Growing path reads) earlier added
LeftOfLoad lines earlier (Unclosed name) added =
    LoadDone lines (Err (loads.Unclosed name)) added earlier
LeftOfLoad lines earlier (Spent n) added =
    IsRoundOfLoad lines (rounds.Spent n) earlier added × IsSpentRound (codes "c1") n (added ++ earlier)
LeftOfLoad lines earlier (Length stem got want) added =
    IsRoundOfLoad lines (rounds.Length stem got want) earlier added
    × LastPoll (codes "c1") stem got want (added ++ earlier)
LeftOfLoad lines earlier e added = ⊥

-- ---- all of them

-- The ending may still come, and this shows it. So no failed call ends a run here, and no log that is
-- shorter than what was read of it; a file that isn't in its grammar ends only an agent, a drain, a
-- salvage or a join, and refusals only a drain.
abbrev pub LeftOver : Asked → History → Ending → History → Type 0
LeftOver (Round w) earlier e added = LeftOfRound w earlier e added
LeftOver (Agent w) earlier e added = LeftOfAgent w earlier e added
LeftOver (Collector w) earlier e added = LeftOfCollector w earlier e added
LeftOver (Drain w) earlier e added = LeftOfDrain w earlier e added
LeftOver Archive earlier e added = LeftOfArchive earlier e added
LeftOver (Demux kinds) earlier e added = LeftOfDemux kinds earlier e added
LeftOver (Salvage file) earlier e added = LeftOfSalvage file earlier e added
LeftOver (Load lines) earlier e added = LeftOfLoad lines earlier e added
LeftOver (Udp w) earlier e added = LeftOfUdp w earlier e added
LeftOver (Subscribe w) earlier e added = ⊥
LeftOver (Join w) earlier e added = LeftOfJoin w earlier e added

-- All was done, with the status 0; or there was no memory, with the status 4; or an ending that is
-- left over came in the end, with its status, and behind it at most its line was said.
pub data Completed (Done : History → Type 0) (Left : Ending → History → Type 0) (added earlier : History)
    : ℕ → Type 0 where
  whole : Done added → Completed Done Left added earlier 0
  wanting : Completed Done Left added earlier 4
  left : (e : Ending) → EndedBy (Left e) (ending_line e) added earlier
      → Completed Done Left added earlier (ending_status e)

-- the history goes on from the earlier one, and where the site wasn't stopped the run was completed
abbrev pub Completes : List (List ℕ) → Asked → ℕ → History → History → Type 0
Completes stamped command status earlier history =
    Since earlier
    (λ added. is_stopped (added ++ earlier) ≡ false
    → Completed (Whole stamped command earlier) (LeftOver command earlier) added earlier status)
    history
