-- The headline: what an auditor may take from a run, without the rules of any role.
use Rattle.std.specs.Prelude.{◌≡◌, zero, ℕ, ◌≤◌, true, IsTrue, List, ◌∷◌, ◌++◌, Contains, Some}
use Rattle.chk_bytes.specs.Words.{BeginsWith}
use Rattle.chk_site.specs.declared.acts.ActAnswer.TheVariants.{Done}
use Rattle.chk_site.specs.declared.acts.Role.TheVariants.{Job}
use Rattle.chk_site.specs.Acts.{Says, deed}
use Rattle.chk_site.specs.History.{History, Step, files_after}
use Rattle.chk_chunk.specs.Keys.{Stream}
use Rattle.chk_world.specs.Agents.{stream_of}
use Rattle.chk_world.specs.ArchiveRuns.{Listing, is_report, last_listing, unclosed_in}
use Rattle.chk_world.specs.Checkpoints.{Line, checkpoint_lines, checkpoint_of}
use Rattle.chk_world.specs.Committed.{archive_of_stream, archived_end}
use Rattle.chk_world.specs.Names.{is_source}
use Rattle.chk_world.specs.Streams.{log_of, whole_end, whole_log}
use Rattle.chk_cmd_line.specs.Commands.{Asked, Round}

-- at every prefix of the history the archive of each stream is a prefix of its log
abbrev pub ArchivesAreFronts : History → Type 0
ArchivesAreFronts history =
    (later front : History) → history ≡ later ++ front → (s : Stream)
    → BeginsWith (log_of front s) (archive_of_stream (files_after front) s)

-- the step printed the report of an archive run
pub record IsReport (step : Step) : Type 0 where
  pub by_job : step.act.who.role ≡ Job
  pub text : List ℕ
  pub says : deed step.act ≡ Says text
  pub report : IsTrue (is_report text)
  pub words : List (List ℕ)
  pub number : ℕ
  pub of : ℕ
  pub done : step.act.answer ≡ Done words number of

-- At each report in the history of an archive run that listed no sink under writing, the archive of
-- each stream ends at or past each checkpoint as it stood at that listing.
abbrev pub ReportsCover : History → Type 0
ReportsCover history =
    (later : History) (step : Step) (front : History) → history ≡ later ++ step ∷ front
    → IsReport step → (l : Listing) → last_listing front ≡ Some l → unclosed_in l.names ≡ 0
    → (s : Stream) → IsTrue (is_source s.source)
    → checkpoint_of (files_after l.upto) s ≤ archived_end (step ∷ front) s

-- A moment in these steps at which the whole log of the stream ended at this offset, and was what
-- the archive is behind them.
pub record WasWhole (s : Stream) (end : ℕ) (added earlier : History) : Type 0 where
  pub later : History
  pub front : History
  pub split : added ≡ later ++ front
  pub end_is : whole_end (front ++ earlier) s ≡ end
  pub archive_is : archive_of_stream (files_after (added ++ earlier)) s
      ≡ whole_log (front ++ earlier) s

-- Behind some of the steps of a run, of which the later ones are the printing, the archive of the
-- stream of each live line of the checkpoint of this source is its whole log as it was when the run
-- read it, and the line's offset is that log's end.
pub record RoundIsWhole (source : List ℕ) (earlier history : History) : Type 0 where
  pub tail : History
  pub body : History
  pub split : history ≡ tail ++ (body ++ earlier)
  pub each : (l : Line) → Contains (checkpoint_lines (files_after (body ++ earlier)) source) l
      → l.live ≡ true → WasWhole (stream_of source l) l.offset body earlier

-- where the words are a round and the status is 0
abbrev pub IfRoundDone : Asked → ℕ → History → History → Type 0
IfRoundDone (Round w) zero earlier history = RoundIsWhole w.source earlier history
IfRoundDone command status earlier history = Unit {0}

-- all three sentences
pub record Headline (command : Asked) (status : ℕ) (earlier history : History) : Type 0 where
  pub fronts : ArchivesAreFronts history
  pub covered : ReportsCover history
  pub round : IfRoundDone command status earlier history
