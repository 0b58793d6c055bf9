-- Where records of an archive and a log that is read beside them part.
use Rattle.std.specs.Prelude.{◌≡◌, ℕ, ◌-◌, ◌≤◌, List, ◌++◌, length, drop}
use Rattle.std.specs.Prelude.{Option, Result, Ok, Err}
use Rattle.chk_site.specs.declared.acts.Who.{Who}
use Rattle.chk_site.specs.Acts.{Deed}
use Rattle.chk_site.specs.Files.{Files}
use Rattle.chk_site.specs.History.{History}
use Rattle.chk_site.specs.Runs.{anyhow, Leads}
use Rattle.chk_site.specs.Site.{Adds}
use Rattle.chk_chunk.specs.Keys.{record_limit}
use Rattle.chk_world.specs.JobSteps.{ReadsFile}
use Rattle.chk_record_index.specs.declared.fault.JobFault.{JobFault}
use Rattle.chk_record_index.specs.declared.fault.JobFault.TheVariants.{Damaged}
use Rattle.chk_rotate.specs.Readers.{Reader}
use Rattle.chk_record_reader.specs.declared.reader.RecordReader.{RecordReader}
use Rattle.chk_record_reader.specs.ReadBack.{value_held}
use Rattle.chk_record_reader.specs.Segments.{AreSettled, HasFiles, SparesFiles}
use Rattle.chk_join_sources.specs.declared.gathering.Side.{Side}
use Rattle.chk_join_sources.specs.Comparing.{values_between, value_there, IsSide}
use Rattle.chk_ctl_audit_log.specs.Placing.{ReadsLogOf}
use Rattle.chk_ctl_sum.specs.Summing.{CanSum}
use Rattle.chk_ctl_audit_log.specs.declared.ahead.Ahead.{Ahead}
use Rattle.chk_ctl_audit_log.specs.declared.comparing.Met.{Met}
use Rattle.chk_ctl_audit_log.specs.declared.comparing.Met.TheVariants.{All, Differs, Ends}
use Rattle.chk_ctl_audit_log.specs.Ahead.{LogAt}
use Rattle.chk_ctl_audit_log.specs.Meeting.{DiffersAt, EndsAt}

-- the call reads a file, or the log
pub data ReadsBeside (path : List ℕ) : Deed → Type 0 where
  reads_file : (call : Deed) → ReadsFile call → ReadsBeside path call
  reads_log : (call : Deed) → ReadsLogOf path call → ReadsBeside path call

-- where these bytes and the log part
abbrev pub PartsAt : Who → Reader → List ℕ → Met → Ahead → Option History → Option History → Type 0
PartsAt who from bytes All l before now = LogAt who from bytes l before now
PartsAt who from bytes (Differs at) l before now = DiffersAt who from bytes at before now
PartsAt who from bytes (Ends at) l before now = EndsAt who from bytes at before now

-- so many bytes of those that were taken are left out, and the next record is compared behind them
abbrev pub RecordMet : {F : Type 0} → Who → Reader → ℕ → List ℕ → List ℕ → Ahead → ℕ
    → Option History → Result Met F → Option History → Type 0
RecordMet who from skip taken value l left before (Ok met) now =
    PartsAt who from (drop skip (taken ++ value)) met l before now
    × (left ≡ skip - length (taken ++ value))
RecordMet who from skip taken value l left before (Err fault) now = Unit {0}

-- at Ok the record is the one at this place, and the files are as they were
abbrev pub FetchedOne : List (List ℕ) → Files → Side → ℕ → RecordReader → Result Met JobFault
    → History → Type 0
FetchedOne all held side index r (Ok met) history =
    CanSum all held side r history × (value_held r ≡ value_there side held index)
FetchedOne all held side index r (Err (Damaged name at)) history = ⊥
FetchedOne all held side index r (Err fault) history = Unit {0}

-- these are the first of the bytes, and all of them where nothing parts
abbrev pub AreFirst : List ℕ → List ℕ → Met → Type 0
AreFirst taken whole All = taken ≡ whole
AreFirst taken whole met = (more : List ℕ) × (whole ≡ taken ++ more)

-- The values of records were taken in turn, and what follows the bytes that are left out was
-- compared with the log. While others leave the files, the values are those of the side's records
-- between these places.
pub record BlockParts (who : Who) (side : Side) (r : RecordReader) (from : Reader) (skip : ℕ)
    (first end : ℕ) (met : Met) (l : Ahead) (before now : Option History) : Type 0 where
  pub taken : List ℕ
  pub parts : PartsAt who from (drop skip taken) met l before now
  pub are : (most : ℕ) (all : List (List ℕ)) (held : Files) → most ≤ record_limit
      → AreSettled all held → IsSide most all held side
      → Adds before now (Leads (anyhow (SparesFiles all)) (CanSum all held side r)
      (λ history. HasFiles all held history
      × AreFirst taken (values_between side held first end) met))

-- A record was read that isn't one: others didn't leave the files as they were.
abbrev pub BlockChanged : Side → RecordReader → Option History → Option History → Type 0
BlockChanged side r before now = (most : ℕ) (all : List (List ℕ)) (held : Files)
    → most ≤ record_limit → AreSettled all held → IsSide most all held side
    → Adds before now (Leads (anyhow (SparesFiles all)) (CanSum all held side r) (λ history. ⊥))

abbrev pub BlockMet : Who → Side → RecordReader → Reader → ℕ → ℕ → ℕ → Ahead → Option History
    → Result Met JobFault → Option History → Type 0
BlockMet who side r from skip first end l before (Ok met) now =
    BlockParts who side r from skip first end met l before now
BlockMet who side r from skip first end l before (Err (Damaged name at)) now =
    BlockChanged side r before now
BlockMet who side r from skip first end l before (Err fault) now = Unit {0}
