-- That no premise is empty: there are legal histories in which each role does its work.
use Rattle.chk_world_examples.specs.LongRound.{LongRoundHolds}
use Rattle.std.specs.Prelude.{◌≢◌, Some, Option, Bool, true, take, replicate, length, is_none, ◌≡◌, ℕ, ◌<◌, false, IsTrue, List, [], ◌∷◌, ◌++◌, codes, is_some, ◌&&◌, None}
use Rattle.std.specs.List.{list_any}
use Rattle.chk_site.specs.declared.acts.Who.{Who}
use Rattle.chk_site.specs.declared.acts.Role.TheVariants.{Job, Collector}
use Rattle.chk_site.specs.declared.acts.ActAnswer.TheVariants.{Stopped}
use Rattle.chk_site.specs.declared.lists.Left.{Left}
use Rattle.chk_site.specs.Files.{File}
use Rattle.chk_site.specs.Acts.{Deed, Sends, Says, deed}
use Rattle.chk_site.specs.History.{is_stopped, Step, History, files_after, since_start}
use Rattle.chk_world.specs.Names.{CheckFile, BookFile, SegmentFile, Temporary, ArchiveFolder, BornFile, SinkFile, MarkFile, DoneFile, file}
use Rattle.chk_world.specs.Committed.{HasFile, number_in, committed_length, archive_of_stream, aside_chunks, KeptAt}
use Rattle.chk_world.specs.ArchiveRuns.{Listing, report}
use Rattle.chk_world.specs.Places.{agent_at, job_at, Foreign, Place, IsPlace, AtPlace, collector_at}
use Rattle.chk_bytes.specs.Stems.{Stem, stem_of}
use Rattle.chk_chunk.specs.Keys.{Stream, Chunk, Covers}
use Rattle.chk_world.specs.Checkpoints.{checkpoint_of}
use Rattle.chk_world.specs.Streams.{log_end, whole_log, whole_end}
use Rattle.chk_world.specs.Collectors.{View}
use Rattle.chk_world.specs.Agents.{Acknowledged}
use Rattle.chk_world.specs.Rules.{Legal}
use Rattle.chk_world.specs.Laws.{wrote, Wrote, agent_of, WasAcknowledged, StandsWithin, SavedAt}
use Rattle.chk_world.specs.Rounds.{HoldsRound}

-- the stream of the log `/a.log` of the agent h1
abbrev pub one_log : Stream
one_log = record { source = codes "h1"; kind = codes "Log"; name = codes "/a.log" }

-- its one line
abbrev pub one_line : List ℕ
one_line = codes "hello\n"

-- the collector c1
abbrev pub one_collector : Who
one_collector = record { role = Collector; name = codes "c1" }

-- its first sink
abbrev pub first_sink : Stem
first_sink = stem_of (codes "c1") 1 1

-- a legal history after which the log is archived, its checkpoint moved on, and nothing of the sink is left
pub record ArchivesTheLog (history : History) : Type 0 where
  pub legal : Legal [] history
  pub log : whole_log history one_log ≡ one_line
  pub checkpoint : checkpoint_of (files_after history) one_log ≡ whole_end history one_log
  pub archive : archive_of_stream (files_after history) one_log ≡ one_line
  pub aside : aside_chunks (files_after history) ≡ []
  pub no_sink : file (files_after history) (SinkFile first_sink) ≡ None
  pub no_mark : file (files_after history) (MarkFile first_sink) ≡ None
  pub no_done : file (files_after history) (DoneFile first_sink) ≡ None

-- a legal history after which a mark is published: each byte of the log is kept, and the checkpoint hasn't passed it
pub record KeepsTheLog (history : History) : Type 0 where
  pub legal : Legal [] history
  pub end : log_end history one_log ≡ 6
  pub kept : (o : ℕ) → o < 6 → KeptAt history one_log o
  pub checkpoint : checkpoint_of (files_after history) one_log ≡ 0

-- a legal history with a stop that left a false tail, after which the next start has settled the sink at its mark
pub record RecoversTheSink (history : History) : Type 0 where
  pub legal : Legal [] history
  -- the stop of the collector, with what came before it and since
  pub since : List Step
  pub stop : Step
  pub before : History
  pub is : history ≡ since ++ stop ∷ before
  pub by_it : stop.act.who ≡ one_collector
  pub left : List Left
  pub stopped : stop.act.answer ≡ Stopped left
  -- the sink before it and after it: as many bytes, but those past the mark are others
  pub was : File
  pub became : File
  pub had : file (files_after before) (SinkFile first_sink) ≡ Some was
  pub has : file stop.files (SinkFile first_sink) ≡ Some became
  pub marked : committed_length stop.files first_sink ≡ 144
  pub tail : became.bytes ≡ take 144 was.bytes ++ replicate 48 7
  pub as_long : length became.bytes ≡ length was.bytes
  pub false_tail : became.bytes ≢ was.bytes
  -- the next start, and the sink at its mark
  pub starts : number_in (file (files_after history) (BornFile (codes "c1"))) ≡ 2
  pub no_sink : file (files_after history) (SinkFile first_sink) ≡ None
  pub no_mark : file (files_after history) (MarkFile first_sink) ≡ None
  pub done : HasFile (file (files_after history) (DoneFile first_sink)) (λ f. f.bytes ≡ take 144 was.bytes)
  pub committed : committed_length (files_after history) first_sink ≡ 144

-- a legal history after which the log's chunk is acknowledged to its agent, and its record lies below the committed
-- length of its sink
pub record AcknowledgesTheLog (history : History) : Type 0 where
  pub legal : Legal [] history
  pub c : Chunk
  pub covers : (o : ℕ) → o < 6 → Covers one_log o c
  pub acknowledged : Acknowledged (since_start (agent_of one_log) history) c
  pub stands : StandsWithin (wrote first_sink history) (committed_length (files_after history) first_sink) c
  pub saved : (o : ℕ) → o < 6 → SavedAt history one_log o

-- a legal step that is the report of a complete run, with which the history holds a round of the log
pub record EndsARound (history : History) (step : Step) : Type 0 where
  pub legal : Legal [] (step ∷ history)
  pub says : deed step.act ≡ Says (report 0 6 0 1)
  pub round : HoldsRound (step ∷ history) one_log
  pub log : whole_log round.read one_log ≡ one_line
  pub acknowledged : (o : ℕ) → o < 6 → WasAcknowledged (step ∷ history) one_log o
  pub listed : (o : ℕ) → o < 6 → SavedAt (round.till_listing ++ (round.till_checkpoint ++ round.read)) one_log o
  pub saved : (o : ℕ) → o < 6 → SavedAt (step ∷ history) one_log o

-- a legal step that appends a record to a sink
pub record WritesARecord (history : History) (step : Step) : Type 0 where
  pub legal : Legal [] (step ∷ history)
  pub wrote : Wrote first_sink step

-- a legal step, before which the log is kept
pub record KeepsItBefore (history : History) (step : Step) : Type 0 where
  pub legal : Legal [] (step ∷ history)
  pub kept : (o : ℕ) → o < 6 → KeptAt history one_log o

-- the collector c1 with its number, its first sink and the sink's mark
abbrev pub one_place : Place View
one_place = collector_at one_collector (BornFile (codes "c1")) (SinkFile first_sink) (MarkFile first_sink)

-- the agent h1 with its checkpoint and the next one
abbrev pub agent_place : Place (List Step)
agent_place =
    agent_at (agent_of one_log) (CheckFile (codes "h1")) (Temporary (CheckFile (codes "h1"))) (CheckFile (codes "h1"))

-- the job with the archive's book, the next one and the first segment
abbrev pub job_place : Place (Option Listing)
job_place =
    job_at (record { role = Job; name = codes "job" }) (BookFile ArchiveFolder) (Temporary (BookFile ArchiveFolder))
    (SegmentFile ArchiveFolder 1)

-- a step of others at the place of a process that runs, where what it sees and its files are so
pub record OthersAct {V : Type 0} (p : Place V) (test : V → Option File → Option File → Option File → Bool) (history : History) (step : Step) : Type 0 where
  pub place : IsPlace p
  pub running : is_stopped history ≡ false
  pub theirs : step.own ≡ false
  pub foreign : Foreign [] p.who history step
  pub at : AtPlace [] p (λ v a b c. IsTrue (test v a b c)) history

-- a call sends a message
abbrev pub is_send : Deed → Bool
is_send (Sends m address bytes) = true
is_send call = false

-- the collector has published its number
abbrev pub has_begun : View → Option File → Option File → Option File → Bool
has_begun v born sink mark = is_some v.born && is_some born

-- the agent has sent a post since its start, and its checkpoint is there
abbrev pub has_sent : List Step → Option File → Option File → Option File → Bool
has_sent mine check next same = list_any (λ s. is_send (deed s.act)) mine && is_some check

-- the job has listed the sinks and written its segment, and hasn't published a book
abbrev pub has_listed : Option Listing → Option File → Option File → Option File → Bool
has_listed l book next segment = is_some l && (is_none book && is_some segment)

-- there are such histories
pub record NoPremiseIsEmpty : Type 0 where
  pub round : (history : History) × ArchivesTheLog history
  pub keeping : (history : History) × KeepsTheLog history
  pub recovery : (history : History) × RecoversTheSink history
  pub acknowledging : (history : History) × AcknowledgesTheLog history
  pub whole_round : (history : History) × (step : Step) × EndsARound history step
  pub writing : (history : History) × (step : Step) × WritesARecord history step
  pub on_keeping : (history : History) × (step : Step) × KeepsItBefore history step
  pub others : (history : History) × (step : Step) × OthersAct one_place has_begun history step
  pub others_at_agent : (history : History) × (step : Step) × OthersAct agent_place has_sent history step
  pub others_at_job : (history : History) × (step : Step) × OthersAct job_place has_listed history step
  pub longer : LongRoundHolds
