-- What a round prints, and how it ends by what its archive run found.
use Rattle.std.specs.Prelude.{ℕ, Bool, false, List, [], ◌∷◌, ◌++◌, codes, bytes_eq, map, slice_get, if◌then◌else◌, Option, Some, None, Result, Ok, Err}
use Rattle.chk_bytes.specs.Stems.{Stem, read_stem}
use Rattle.chk_bytes.specs.Words.{before_end}
use Rattle.chk_site.specs.declared.acts.Who.{Who}
use Rattle.chk_site.specs.declared.acts.OutsideFault.{OutsideFault}
use Rattle.chk_site.specs.declared.acts.OutsideFault.TheVariants.{Outside as site_failed, NoMemory as site_wanting}
use Rattle.chk_site.specs.History.{History}
use Rattle.chk_world.specs.Checkpoints.{Line}
use Rattle.chk_agent_adaptor.specs.Adaptors.{Adaptor, line_at}
use Rattle.chk_agent.specs.States.{State, committed_at}
use Rattle.chk_archive.specs.Reports.{Report}
use Rattle.chk_cmd_line.specs.Lines.{stream_line}
use Rattle.chk_cmd_output.specs.Printing.{Print, PrintsInTurn, by}
use Rattle.chk_cmd_archive.specs.Telling.{run_line}
use Rattle.chk_round.specs.declared.faults.RoundFault.TheVariants.{Outside, NoMemory}
use Rattle.chk_cmd_round.specs.declared.ends.RoundEnd.{RoundEnd}
use Rattle.chk_cmd_round.specs.declared.ends.RoundEnd.TheVariants.{Fault, Unclosed}

-- ---- the lines

-- the line of a stream whose adaptor is live
abbrev pub line_here : List ℕ → Line → List (List ℕ)
line_here source l = if l.live then stream_line source l.kind l.path l.offset ∷ [] else []

-- a line for each live line of a checkpoint, in its order
abbrev pub stream_lines : List ℕ → List Line → List (List ℕ)
stream_lines source [] = []
stream_lines source (l ∷ lines) = line_here source l ++ stream_lines source lines

-- the line of an adaptor that is committed up to this offset
abbrev pub shown : List ℕ → ℕ → Option Adaptor → List (List ℕ)
shown source o None = []
shown source o (Some a) = line_here source (line_at o a)

-- the line of the adaptor of this number
abbrev pub shown_at : List ℕ → State → ℕ → List (List ℕ)
shown_at source s i = shown source (committed_at s i) (slice_get s.adaptors i)

-- The lines of the streams were printed in turn by the agent, and then the line of the archive run
-- by the job, up to one whose printing ended the work.
pub data Tells (reading archiving : Who) (lines : List Line) (report : Report)
    : Result (Unit {0}) OutsideFault → Option History → Option History → Type 0 where
  cut : {fault : OutsideFault} {old new : Option History}
      → PrintsInTurn reading (stream_lines reading.name lines) (Err fault) old new
      → Tells reading archiving lines report (Err fault) old new
  told : {result : Result (Unit {0}) OutsideFault} {old mid new : Option History}
      → PrintsInTurn reading (stream_lines reading.name lines) (Ok tt) old mid
      → PrintsInTurn archiving (run_line report ∷ []) result mid new
      → Tells reading archiving lines report result old new

-- all of them, and who printed each
abbrev pub round_prints : Who → Who → List Line → Report → List Print
round_prints reading archiving lines report =
    map (by reading) (stream_lines reading.name lines) ++ by archiving (run_line report) ∷ []

-- ---- the ends

-- the stem is one of the collector `c1`
abbrev pub is_by_c1 : Option Stem → Bool
is_by_c1 None = false
is_by_c1 (Some x) = bytes_eq x.collector (codes "c1")

-- the stem before the ending of sinks under writing, if it is one
abbrev pub read_stem_of : Option (List ℕ) → Option Stem
read_stem_of None = None
read_stem_of (Some text) = read_stem text

-- the name is that of a sink under writing of the collector `c1`
abbrev pub is_of_c1 : List ℕ → Bool
is_of_c1 name = is_by_c1 (read_stem_of (before_end (codes ".chukwa") name))

-- how a run ends by the first sink under writing that its archive run found
abbrev pub end_by : Option (List ℕ) → Result (Unit {0}) RoundEnd
end_by None = Ok tt
end_by (Some name) = if is_of_c1 name then Ok tt else Err (Unclosed name)

-- a line that wasn't printed
abbrev pub print_end : OutsideFault → RoundEnd
print_end (site_failed call) = Fault (Outside call)
print_end site_wanting = Fault NoMemory

abbrev pub wanting : RoundEnd
wanting = Fault NoMemory
