-- When the archive of a stream is the whole log that was read.
use Rattle.std.specs.Prelude.{◌≡◌, ℕ, true, List, ◌∷◌, ◌++◌, Some}
use Rattle.chk_site.specs.declared.acts.Who.{Who}
use Rattle.chk_site.specs.declared.suffixes.Piece.{Piece}
use Rattle.chk_site.specs.Acts.{ReadsLog, deed}
use Rattle.chk_site.specs.History.{History, Step, files_after}
use Rattle.chk_site.specs.Logs.{Part}
use Rattle.chk_site.specs.Runs.{Owns}
use Rattle.chk_site.specs.Site.{piece_given}
use Rattle.chk_chunk.specs.Keys.{Stream}
use Rattle.chk_world.specs.ArchiveRuns.{IsArchiveRun, Listing, last_listing}
use Rattle.chk_world.specs.Committed.{archive_of_stream}
use Rattle.chk_world.specs.Laws.{IsComplete, agent_of}
use Rattle.chk_world.specs.Streams.{Founding, founding, whole_end, whole_log}
use Rattle.chk_archive.specs.Archived.{GivenOnce}
use Rattle.chk_round.specs.Sending.{NonePast}

-- ---- the reads

-- the site's own call by which this process read the log of this path, and was given a piece of it
pub record IsOwnRead (who : Who) (path : List ℕ) (step : Step) : Type 0 where
  pub own : step.own ≡ true
  pub by : step.act.who ≡ who
  pub part : Part
  pub at : ℕ
  pub max : ℕ
  pub asks : deed step.act ≡ ReadsLog path part at max
  pub piece : Piece
  pub gave : step.act.answer ≡ piece_given piece

-- One of these steps is such a read, and P holds of the history up to it and with it.
pub record AtOwnRead (who : Who) (path : List ℕ) (P : History → Type 0) (added history : History)
    : Type 0 where
  pub later : History
  pub step : Step
  pub earlier : History
  pub split : added ≡ later ++ step ∷ earlier
  pub read : IsOwnRead who path step
  pub holds : P (step ∷ earlier ++ history)

-- the same of a read of the stream's log by its own agent
abbrev pub AtRead : Stream → (History → Type 0) → History → History → Type 0
AtRead s = AtOwnRead (agent_of s) s.name

-- no own step among these asks, for this process, for the log of this path
abbrev pub NoneRead : Who → List ℕ → History → History → Type 0
NoneRead who path =
    Owns (λ before step. step.act.who ≡ who → (part : Part) (at max : ℕ)
    → deed step.act ≡ ReadsLog path part at max → ⊥)

-- the same of the last own read of the stream's log by its own agent
pub record AtLastRead (s : Stream) (P : History → Type 0) (added history : History) : Type 0 where
  pub at : AtRead s P added history
  pub last : NoneRead (agent_of s) s.name at.later (at.step ∷ at.earlier ++ history)

-- the stream's agent had a line for it by then
abbrev pub HasBegun : Stream → History → Type 0
HasBegun s history = (f : Founding) × (founding history s ≡ Some f)

-- and the stream's whole log ended at this offset
abbrev pub EndedAt : Stream → ℕ → History → Type 0
EndedAt s end history = (whole_end history s ≡ end) × HasBegun s history

-- At such a read, behind the stream's first line, its whole log ended at this offset, and behind it
-- nothing of the stream was sent past that. Where it is read alone, that read is the last one.
pub record ReadTo (s : Stream) (end : ℕ) (Alone : Type 0) (added history : History)
    : Type 0 where
  pub at : AtRead s (EndedAt s end) added history
  pub no_more : NonePast s end at.later (at.step ∷ at.earlier ++ history)
  pub last : Alone → NoneRead (agent_of s) s.name at.later (at.step ∷ at.earlier ++ history)

-- ---- the run of the job

-- the job was given the names of the sinks once, and the run that began with this had these numbers
pub record JobRan (unclosed taken held removed : ℕ) (added history : History) : Type 0 where
  pub once : GivenOnce added history
  pub listing : Listing
  pub last : last_listing (added ++ history) ≡ Some listing
  pub ran : IsArchiveRun (added ++ history) listing unclosed taken held removed

-- the job's last listing was made among these steps, and the run that began with it is complete
pub record RanWhole (added history : History) : Type 0 where
  pub later : History
  pub earlier : History
  pub split : added ≡ later ++ earlier
  pub names : List (List ℕ)
  pub complete : IsComplete (added ++ history) (record { names = names; upto = earlier ++ history })

-- ---- the archive

-- At the last own read of the stream's log, behind its first line, its whole log ended at this
-- offset, and where no sink was listed under writing, the archive is now that log.
abbrev pub WholeAtLast : Stream → ℕ → ℕ → History → History → Type 0
WholeAtLast s end unclosed added history =
    AtLastRead s
    (λ read. (whole_end read s ≡ end)
    × (unclosed ≡ 0
    → archive_of_stream (files_after (added ++ history)) s ≡ whole_log read s)
    × HasBegun s read)
    added history

-- At such a read, behind the stream's first line, its whole log ended at this offset, and the
-- archive is now that log.
abbrev pub ArchivedTo : Stream → ℕ → History → History → Type 0
ArchivedTo s end added history =
    AtRead s
    (λ read. (whole_end read s ≡ end)
    × (archive_of_stream (files_after (added ++ history)) s ≡ whole_log read s)
    × HasBegun s read)
    added history
