-- Where the archive of a stream and its log part.
use Rattle.std.specs.Prelude.{◌≡◌, ℕ, ◌≤◌, false, List, [], drop}
use Rattle.std.specs.Prelude.{Option, Result, Ok, Err}
use Rattle.chk_site.specs.declared.acts.Who.{Who}
use Rattle.chk_site.specs.Files.{Files}
use Rattle.chk_site.specs.History.{History}
use Rattle.chk_site.specs.Runs.{anyhow, Leads}
use Rattle.chk_site.specs.Site.{Adds}
use Rattle.chk_chunk.specs.Keys.{record_limit}
use Rattle.chk_record_index.specs.declared.fault.JobFault.{JobFault}
use Rattle.chk_record_index.specs.declared.fault.JobFault.TheVariants.{Damaged}
use Rattle.chk_rotate.specs.Readers.{Reader, reader_at}
use Rattle.chk_record_reader.specs.Segments.{AreSettled, HasFiles, SparesFiles}
use Rattle.chk_join_sources.specs.declared.gathering.Side.{Side}
use Rattle.chk_join_sources.specs.Blocks.{StreamsRise}
use Rattle.chk_join_sources.specs.Comparing.{IsSide}
use Rattle.chk_ctl_audit_log.specs.Summing.{place}
use Rattle.chk_ctl_sum.specs.declared.rests.Rest.{Rest}
use Rattle.chk_ctl_sum.specs.Rests.{end_of, skip_of}
use Rattle.chk_ctl_sum.specs.Summing.{bytes_of}
use Rattle.chk_ctl_audit_log.specs.declared.ahead.Ahead.{Ahead}
use Rattle.chk_ctl_audit_log.specs.declared.comparing.Met.{Met}
use Rattle.chk_ctl_audit_log.specs.Records.{AreFirst, PartsAt}

-- a reader of the stream's log, from where that begins, or from the stream's start on
abbrev pub log_of : Rest → Reader
log_of r = reader_at r.end.now.name false (place r.begin r.end.now.start)

-- nothing of it is read
abbrev pub IsBegun : Rest → Ahead → Type 0
IsBegun r l = (l.reader ≡ log_of r) × (l.bytes ≡ []) × (l.used ≡ 0)

-- Bytes that were read of the archive, from there on, were compared with the log's. While others
-- leave the files, they are those of the stream's records; all of them, where nothing parts.
pub record StreamParts (who : Who) (side : Side) (r : Rest) (met : Met)
    (before now : Option History) : Type 0 where
  pub taken : List ℕ
  pub log : Ahead
  pub parts : PartsAt who (log_of r) (drop (skip_of r) taken) met log before now
  pub are : (most : ℕ) (all : List (List ℕ)) (held : Files) → most ≤ record_limit
      → AreSettled all held → IsSide most all held side → StreamsRise side.heads.now
      → Adds before now (Leads (anyhow (SparesFiles all)) (HasFiles all held)
      (λ history. HasFiles all held history
      × AreFirst taken (bytes_of side held (end_of r).stream) met))

-- A record was read that isn't one: others didn't leave the files as they were.
abbrev pub IsChanged : Side → Option History → Option History → Type 0
IsChanged side before now = (most : ℕ) (all : List (List ℕ)) (held : Files) → most ≤ record_limit
    → AreSettled all held → IsSide most all held side
    → Adds before now (Leads (anyhow (SparesFiles all)) (HasFiles all held) (λ history. ⊥))

abbrev pub StreamMet : Who → Side → Rest → Result Met JobFault → Option History → Option History
    → Type 0
StreamMet who side r (Ok met) before now = StreamParts who side r met before now
StreamMet who side r (Err (Damaged name at)) before now = IsChanged side before now
StreamMet who side r (Err fault) before now = Unit {0}
