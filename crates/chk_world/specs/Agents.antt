-- What an agent may do next.
use Rattle.std.specs.Prelude.{◌≡◌, ◌⊎◌, ℕ, ◌+◌, ◌≤◌, ◌<◌, Bool, true, false, ◌&&◌, ◌||◌, not, IsTrue, MatchBool, IsSome, List, [], ◌∷◌, length, Contains, Any, bytes_eq, Option, Some, None, if◌then◌else◌}
use Rattle.std.specs.List.{list_any}
use Rattle.chk_bytes.specs.Stems.{Stem}
use Rattle.chk_control.specs.Classes.{is_plain}
use Rattle.chk_site.specs.declared.acts.Who.{Who}
use Rattle.chk_site.specs.declared.acts.ActAnswer.{ActAnswer}
use Rattle.chk_site.specs.declared.acts.ActAnswer.TheVariants.{Done}
use Rattle.chk_site.specs.Suffixes.{is_after}
use Rattle.chk_site.specs.Logs.{Generation, Part, TheBase, Past}
use Rattle.chk_site.specs.Acts.{Deed, ReadsLog, AsksNewest, Renames, Sends, Gets, deed}
use Rattle.chk_site.specs.History.{Step, History, files_after, logs_after, since_start, took_effect}
use Rattle.chk_chunk.specs.Keys.{Stream, Chunk, Covers, chunk_end}
use Rattle.chk_world.specs.Names.{Name, CheckFile, Temporary, read, spell, file}
use Rattle.chk_world.specs.Checkpoints.{Line, read_checkpoint, checkpoint_lines, line_of, same_log}
use Rattle.chk_world.specs.Streams.{start_of, parts_of, passed_by, is_stream_cut, IsTrueChunk, IsTruePlace}
use Rattle.chk_http_grammar.specs.Messages.{Ack, IsGoodReply, WrittenPost, WrittenPoll}
use Rattle.chk_world.specs.Committed.{OnFile}

-- the process sent these bytes to that address as the message m
pub record Sent (mine : List Step) (m : ℕ) (address bytes : List ℕ) : Type 0 where
  pub step : Step
  pub one : Contains mine step
  pub call : deed step.act ≡ Sends m address bytes

-- the process got these bytes for the message m
pub record GotFor (mine : List Step) (m : ℕ) (bytes : List ℕ) : Type 0 where
  pub step : Step
  pub one : Contains mine step
  pub call : deed step.act ≡ Gets m
  pub number : ℕ
  pub of : ℕ
  pub done : step.act.answer ≡ Done (bytes ∷ []) number of

-- the chunks and the lines agree in number, and the line of this chunk is that one
abbrev pub LineFor : List Chunk → List Ack → Chunk → Ack → Type 0
LineFor (c ∷ cs) (a ∷ acks) d b = ((c ≡ d) × (a ≡ b) × (length cs ≡ length acks)) ⊎ LineFor cs acks d b
LineFor chunks acks d b = ⊥

-- each line is of the asked sink
abbrev pub AreFor : List Stem → List Ack → Type 0
AreFor [] [] = Unit {0}
AreFor (x ∷ stems) (a ∷ acks) = (a.stem ≡ x) × AreFor stems acks
AreFor stems acks = ⊥

-- the chunk was sent in a post, the good reply says where it ends, and the good reply to a poll gives that
-- sink this length or more
pub record Acknowledged (mine : List Step) (c : Chunk) : Type 0 where
  pub post : ℕ
  pub address : List ℕ
  pub sent_bytes : List ℕ
  pub chunks : List Chunk
  pub posted : Sent mine post address sent_bytes
  pub is_post : WrittenPost address chunks sent_bytes
  pub reply : List ℕ
  pub acks : List Ack
  pub replied : GotFor mine post reply
  pub is_good : IsGoodReply acks reply
  pub ack : Ack
  pub line : LineFor chunks acks c ack
  pub poll : ℕ
  pub poll_address : List ℕ
  pub poll_bytes : List ℕ
  pub stems : List Stem
  pub polled : Sent mine poll poll_address poll_bytes
  pub is_poll : WrittenPoll poll_address stems poll_bytes
  pub poll_reply : List ℕ
  pub lengths : List Ack
  pub poll_replied : GotFor mine poll poll_reply
  pub is_good_poll : IsGoodReply lengths poll_reply
  pub asked : AreFor stems lengths
  pub committed : Any (λ n. (n.stem ≡ ack.stem) × (ack.number ≤ n.number)) lengths

-- the generation of that suffix is one of these
abbrev pub has_generation : List ℕ → List Generation → Bool
has_generation suffix gs = list_any (λ g. bytes_eq g.suffix suffix) gs

-- the suffix stays, or becomes a greater one of a generation of the path
abbrev pub SuffixMoves : List Generation → Option (List ℕ) → Option (List ℕ) → Type 0
SuffixMoves gs before None = before ≡ None
SuffixMoves gs before (Some suffix) =
    (before ≡ Some suffix) ⊎ IsTrue (is_after before suffix && has_generation suffix gs)

-- a line that the old file has: what it keeps, and how it moves on
pub record LineMovesForward (who : Who) (history : History) (s : Stream) (old new : Line) : Type 0 where
  pub class : old.class ≡ new.class
  pub start : old.start ≡ new.start
  pub offset : old.offset ≤ new.offset
  pub after : SuffixMoves (logs_after history s.name).rotated old.after new.after
  -- the offset rises only over acknowledged chunks
  pub acknowledged : (o : ℕ) → old.offset ≤ o → o < new.offset
      → (c : Chunk) × Covers s o c × Acknowledged (since_start who history) c

-- the answer of the last question for the newest suffix of a path
abbrev pub newest_by : List ℕ → Deed → ActAnswer → Option (Option (List ℕ)) → Option (Option (List ℕ))
newest_by path (AsksNewest p) (Done [] number of) earlier = if bytes_eq p path then Some None else earlier
newest_by path (AsksNewest p) (Done (suffix ∷ words) number of) earlier =
    if bytes_eq p path then Some (Some suffix) else earlier
newest_by path call answer earlier = earlier

-- the last such answer among these steps
abbrev pub last_newest : List ℕ → List Step → Option (Option (List ℕ))
last_newest path [] = None
last_newest path (step ∷ steps) = newest_by path (deed step.act) step.act.answer (last_newest path steps)

-- a line that the old file hasn't: its offset and its place begin at its start, behind the newest generation
pub record NewLineBeginsAtNewest (who : Who) (history : History) (s : Stream) (new : Line) : Type 0 where
  pub first : new.first ≡ new.start
  pub offset : new.offset ≡ new.start
  pub after : MatchBool (is_plain new.class) (new.after ≡ None)
      (last_newest s.name (since_start who history) ≡ Some new.after)

-- what a new line owes, by the old one
abbrev pub LineMay : Who → History → Stream → Option Line → Line → Type 0
LineMay who history s None new = NewLineBeginsAtNewest who history s new
LineMay who history s (Some old) new = LineMovesForward who history s old new

-- at the history with the publication, the place is true, and the offset is the start or one at which a reader may stop
pub record LineIsTrue (history : History) (s : Stream) (l : Line) : Type 0 where
  pub place : IsTruePlace history s l
  pub cut : (l.offset ≡ start_of history s) ⊎ IsTrue (is_stream_cut history s l.offset)

-- the stream of a line of this source
abbrev pub stream_of : List ℕ → Line → Stream
stream_of source l = record { source = source; kind = l.kind; name = l.path }

-- a checkpoint with these lines in the place of the old one
pub record CheckpointMovesForward (who : Who) (history : History) (step : Step) (lines : List Line) : Type 0 where
  pub none_lost : (old : Line) → Contains (checkpoint_lines (files_after history) who.name) old
      → Any (λ l. IsTrue (same_log old l)) lines
  pub each : (l : Line) → Contains lines l
      → LineMay who history (stream_of who.name l) (line_of (files_after history) (stream_of who.name l)) l
  -- where the publication took effect
  pub true_at : took_effect (files_after history) step.files (spell (Temporary (CheckFile who.name))) ≡ true
      → (l : Line) → Contains lines l → LineIsTrue (step ∷ history) (stream_of who.name l) l

-- an agent renames only its next checkpoint, which is a good one
abbrev pub MayPublish : Who → History → Step → Name → Name → Type 0
MayPublish who history step (Temporary (CheckFile a)) (CheckFile b) =
    (a ≡ b)
    × OnFile (file (files_after history) (Temporary (CheckFile a)))
    (λ f. (lines : List Line) × (read_checkpoint f.bytes ≡ Some lines)
    × CheckpointMovesForward who history step lines)
MayPublish who history step (Temporary n) (Temporary m) = Unit {0}
MayPublish who history step old new = ⊥

-- the same suffix
abbrev pub same_suffix : Option (List ℕ) → Option (List ℕ) → Bool
same_suffix None None = true
same_suffix (Some a) (Some b) = bytes_eq a b
same_suffix a b = false

-- the suffix is there, and comes after this one
abbrev pub comes_after : Option (List ℕ) → Option (List ℕ) → Bool
comes_after last None = false
comes_after last (Some suffix) = is_after last suffix

-- the suffix is that one, or comes after it
abbrev pub is_at_or_past : Option (List ℕ) → Option (List ℕ) → Bool
is_at_or_past last suffix = same_suffix last suffix || comes_after last suffix

-- the read begins at the place of the stream's line or past it. A place past a suffix is counted from the bytes of all
-- generations up to that
abbrev pub IsAtOrPast : History → Stream → Part → ℕ → Line → Type 0
IsAtOrPast history s TheBase at l = IsTrue (is_plain l.class) × (l.offset ≤ l.first + at)
IsAtOrPast history s (Past after) at l =
    IsTrue (not (is_plain l.class))
    × IsTrue (is_at_or_past l.after after)
    × (l.offset ≤ start_of history s + (passed_by after (parts_of history s).rotated + at))

-- the path is read from a line's place on
abbrev pub ReadsFromCheckpoint : Who → History → List ℕ → Part → ℕ → Type 0
ReadsFromCheckpoint who history path part at =
    Any (λ l. (l.path ≡ path) × IsAtOrPast history (stream_of who.name l) part at l)
    (checkpoint_lines (files_after history) who.name)

-- the chunk is a true one of a stream of the checkpoint, and ends where a reader may stop
pub record MaySendChunk (who : Who) (history : History) (c : Chunk) : Type 0 where
  pub source : c.key.stream.source ≡ who.name
  pub known : IsSome (line_of (files_after history) c.key.stream)
  pub is_true : IsTrueChunk history c
  pub cut : IsTrue (is_stream_cut history c.key.stream (chunk_end c))

-- a poll as it is written
abbrev pub SendsPoll : List ℕ → List ℕ → Type 0
SendsPoll address bytes = (stems : List Stem) × WrittenPoll address stems bytes

-- a poll, or a post of chunks of this cluster
abbrev pub OfCluster : List ℕ → Deed → Type 0
OfCluster cluster (Sends m address bytes) =
    ((chunks : List Chunk) × WrittenPost address chunks bytes
    × ((c : Chunk) → Contains chunks c → c.key.cluster ≡ cluster))
    ⊎ SendsPoll address bytes
OfCluster cluster call = Unit {0}

-- all posts among these steps are of one cluster
abbrev pub AllOfCluster : List ℕ → List Step → Type 0
AllOfCluster cluster [] = Unit {0}
AllOfCluster cluster (step ∷ steps) = OfCluster cluster (deed step.act) × AllOfCluster cluster steps

-- a post of true chunks, all of one cluster, also with those sent since the start
pub record SendsTrueChunks (who : Who) (history : History) (address bytes : List ℕ) : Type 0 where
  pub chunks : List Chunk
  pub is_post : WrittenPost address chunks bytes
  pub each : (c : Chunk) → Contains chunks c → MaySendChunk who history c
  pub cluster : List ℕ
  pub here : (c : Chunk) → Contains chunks c → c.key.cluster ≡ cluster
  pub before : AllOfCluster cluster (since_start who history)

-- what an agent may do next
abbrev pub AgentRule : Who → History → Step → Deed → Type 0
AgentRule who history step (ReadsLog path part at max) = ReadsFromCheckpoint who history path part at
AgentRule who history step (Renames old new) = MayPublish who history step (read old) (read new)
AgentRule who history step (Sends m address bytes) = SendsTrueChunks who history address bytes ⊎ SendsPoll address bytes
AgentRule who history step call = Unit {0}
