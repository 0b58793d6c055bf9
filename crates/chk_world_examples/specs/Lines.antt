-- Checkpoints of one line that an agent's rule refuses for one part of that line, each beside one that differs in it and is allowed.
use Rattle.chk_world_examples.specs.Texts.{text, text_6, line_6, a1, path, check, check_tmp, stream, c1, log, line, request, reply, poll, sink, head, entry, mark, mark_tmp}
use Rattle.chk_world_examples.specs.Moments.{g2, g6, g7, g27, done, h6, g1}
use Rattle.chk_world_examples.specs.Refusing.{TheRule, ObeysBut, next_by}
use Rattle.std.specs.Prelude.{◌≡◌, ◌⊎◌, ℕ, ◌≤◌, ◌<◌, true, false, List, [], ◌∷◌, Option, Some, None, codes, IsTrue, IsSome, MatchBool}
use Rattle.chk_control.specs.Classes.{is_plain}
use Rattle.chk_site.specs.declared.acts.Call.TheVariants.{Rename, Start, Create, Append, Sync, LogAppend, LogNewest, Send, Take, Answer, Got}
use Rattle.chk_site.specs.declared.acts.ActAnswer.TheVariants.{Done, Rotated}
use Rattle.chk_site.specs.Files.{LogTurned}
use Rattle.chk_site.specs.Acts.{Renames}
use Rattle.chk_site.specs.History.{History, files_after, logs_after, since_start, took_effect, Step}
use Rattle.chk_chunk.specs.Keys.{Chunk, Covers}
use Rattle.chk_world.specs.Names.{CheckFile, Temporary, spell, file}
use Rattle.chk_world.specs.Checkpoints.{Line, read_checkpoint, checkpoint_lines, line_of, same_log, Two, checkpoint_text}
use Rattle.chk_world.specs.Streams.{start_of, is_stream_cut, IsTruePlace}
use Rattle.chk_world.specs.Committed.{HasFile, OnFile, IsWhole}
use Rattle.chk_world.specs.Agents.{SuffixMoves, Acknowledged, last_newest, stream_of, AgentRule}
use Rattle.chk_world.specs.Rules.{must_start}
use Rattle.chk_world_examples.specs.Agents.{newest, next_check}
use Rattle.chk_bytes.specs.Numbers.{be64}
use Rattle.chk_control.specs.declared.Class.TheVariants.{Rotating, Lines}
use Rattle.chk_site.specs.declared.acts.ActAnswer.{ActAnswer}
use Rattle.chk_site.specs.Logs.{logs_changed}

-- the agent publishes its next checkpoint
abbrev pub published : History → History
published history = next_by a1 Rename (check_tmp ∷ check ∷ []) 0 0 (Done [] 0 0) history ∷ history

-- a part of what a line owes, or none
pub data LinePart : Type 0 where
  NoPart : LinePart
  ItsClass : LinePart
  ItsStart : LinePart
  ItsOffset : LinePart
  ItsSuffix : LinePart
  ItsChunks : LinePart
  ItsPlace : LinePart
  ItsCut : LinePart

-- a part that isn't left out
abbrev pub but : LinePart → LinePart → Type 0 → Type 0
but ItsClass ItsClass P = Unit {0}
but ItsStart ItsStart P = Unit {0}
but ItsOffset ItsOffset P = Unit {0}
but ItsSuffix ItsSuffix P = Unit {0}
but ItsChunks ItsChunks P = Unit {0}
but ItsPlace ItsPlace P = Unit {0}
but ItsCut ItsCut P = Unit {0}
but left_out part P = P

-- a line that the old file has
pub record MovesBut (left_out : LinePart) (history : History) (old new : Line) : Type 0 where
  pub class : but left_out ItsClass (old.class ≡ new.class)
  pub start : but left_out ItsStart (old.start ≡ new.start)
  pub offset : but left_out ItsOffset (old.offset ≤ new.offset)
  pub suffix : but left_out ItsSuffix (SuffixMoves (logs_after history path).rotated old.after new.after)
  pub chunks : but left_out ItsChunks
      ((o : ℕ) → old.offset ≤ o → o < new.offset → (c : Chunk) × Covers stream o c × Acknowledged (since_start a1 history) c)

-- a line that it hasn't
pub record BeginsBut (left_out : LinePart) (history : History) (new : Line) : Type 0 where
  pub first : new.first ≡ new.start
  pub offset : but left_out ItsOffset (new.offset ≡ new.start)
  pub suffix : but left_out ItsSuffix
      (MatchBool (is_plain new.class) (new.after ≡ None) (last_newest path (since_start a1 history) ≡ Some new.after))

-- by the old line, where there is one
abbrev pub FollowsBut : LinePart → History → Option Line → Line → Type 0
FollowsBut left_out history None new = BeginsBut left_out history new
FollowsBut left_out history (Some old) new = MovesBut left_out history old new

-- all that the line owes, but that part
pub record OwesBut (left_out : LinePart) (history : History) (old : Option Line) (new : Line) : Type 0 where
  pub follows : FollowsBut left_out history old new
  pub place : but left_out ItsPlace (IsTruePlace (published history) stream new)
  pub cut : but left_out ItsCut
      ((new.offset ≡ start_of (published history) stream) ⊎ IsTrue (is_stream_cut (published history) stream new.offset))

-- the lines of such a file
abbrev pub one_or_none : Option Line → List Line
one_or_none None = []
one_or_none (Some l) = l ∷ []

-- they are of one log
abbrev pub OfOneLog : Option Line → Line → Type 0
OfOneLog None new = Unit {0}
OfOneLog (Some old) new = IsTrue (same_log old new)

-- the agent's next checkpoint is whole and has this line alone, and the checkpoint that is there has the old line alone, or none
pub record Written (history : History) (old : Option Line) (new : Line) : Type 0 where
  pub of : stream_of (codes "h1") new ≡ stream
  pub next : HasFile (file (files_after history) (Temporary (CheckFile (codes "h1")))) (λ f. read_checkpoint f.bytes ≡ Some (new ∷ []))
  pub whole : OnFile (file (files_after history) (Temporary (CheckFile (codes "h1")))) IsWhole
  pub there : IsSome (files_after history check_tmp)
  pub lines : checkpoint_lines (files_after history) (codes "h1") ≡ one_or_none old
  pub found : line_of (files_after history) stream ≡ old
  pub same : OfOneLog old new
  pub starts : must_start a1 history ≡ false
  pub took : took_effect (files_after history) (files_after (published history)) (spell (Temporary (CheckFile (codes "h1")))) ≡ true

-- the agent may publish it
abbrev pub Publishes : History → Type 0
Publishes history = AgentRule a1 history (newest (published history)) (Renames check_tmp check)

-- a checkpoint that is refused for that part alone
pub record RefusedFor (part : LinePart) (history : History) (old : Option Line) (new : Line) : Type 0 where
  pub written : Written history old new
  pub others : OwesBut part history old new
  pub refused : Publishes history → ⊥

-- a checkpoint whose line has all parts
pub record IsAllowed (history : History) (old : Option Line) (new : Line) : Type 0 where
  pub written : Written history old new
  pub all : OwesBut NoPart history old new

-- a checkpoint of this line
abbrev pub of_line : Line → List ℕ
of_line l = checkpoint_text Two (l ∷ [])

-- the agent starts, asks for the newest suffix, and publishes its first checkpoint
abbrev pub began : List ℕ → ActAnswer → History → History
began words answer history =
    published (next_check words (done a1 LogNewest (path ∷ []) 0 0 answer (done a1 Start [] 0 0 (Done [] 0 0) history)))

-- a writer rotates the log
abbrev pub turned : List ℕ → History → History
turned suffix history = record {
  own = false;
  act = record { who = log; call = LogAppend; words = path ∷ [] ∷ []; number = 0; max = 0; answer = Rotated suffix };
  files = files_after history;
  logs = logs_changed (LogTurned path suffix) (logs_after history);
} ∷ history

abbrev pub day_8 : List ℕ
day_8 = codes ".20101108"

abbrev pub day_9 : List ℕ
day_9 = codes ".20101109"

-- a line that goes over rotations, and one that breaks at lines
abbrev pub moving : Line
moving = record line { class = Rotating }

abbrev pub by_lines : Line
by_lines = record line { class = Lines }

-- a line with a start above 0, and one with another start
abbrev pub line_5 : Line
line_5 = record moving { offset = 5; first = 5; start = 5 }

abbrev pub line_0 : Line
line_0 = record line_5 { start = 0 }

abbrev pub began_at_5 : History
began_at_5 = began (of_line line_5) (Done [] 0 0) h6

-- lines behind a generation of the path and behind none; the log was rotated while it was empty
abbrev pub at_8 : Line
at_8 = record moving { after = Some day_8 }

abbrev pub at_9 : Line
at_9 = record moving { after = Some day_9 }

abbrev pub turned_empty : History
turned_empty = turned day_8 (began (of_line moving) (Done [] 0 0) h6)

-- the checkpoint's line stands behind the rotated generation
abbrev pub past_8 : History
past_8 = published (next_check (of_line at_8) turned_empty)

-- an agent starts after a rotation
abbrev pub starts_past_8 : History
starts_past_8 = done a1 LogNewest (path ∷ []) 0 0 (Done (day_8 ∷ []) 0 0) (done a1 Start [] 0 0 (Done [] 0 0) (turned day_8 g1))

-- the rotated generation has six bytes that weren't read
abbrev pub turned_full : History
turned_full = turned day_8 (began (of_line moving) (Done [] 0 0) g1)

-- the chunk of the log's one line is sent, written, kept and acknowledged
abbrev pub acknowledged : History → History
acknowledged history =
    done a1 Got [] 2 0 (Done (reply ∷ []) 0 0)
    (done c1 Answer (reply ∷ []) 2 0 (Done [] 0 0)
    (done c1 Take (codes "self" ∷ []) 0 0 (Done (poll ∷ []) 2 2)
    (done a1 Send (codes "self" ∷ poll ∷ []) 2 0 (Done [] 2 0)
    (done c1 Rename (mark_tmp ∷ mark ∷ []) 0 0 (Done [] 0 0)
    (done c1 Sync (mark_tmp ∷ []) 0 0 (Done [] 0 0)
    (done c1 Append (mark_tmp ∷ be64 144 ∷ []) 0 0 (Done [] 0 0)
    (done c1 Create (mark_tmp ∷ []) 0 0 (Done [] 0 0)
    (done c1 Sync (sink ∷ []) 0 0 (Done [] 0 0)
    (done a1 Got [] 1 0 (Done (reply ∷ []) 0 0)
    (done c1 Answer (reply ∷ []) 1 0 (Done [] 0 0)
    (done c1 Append (sink ∷ entry ∷ []) 0 0 (Done [] 0 0)
    (done c1 Append (sink ∷ head ∷ []) 0 0 (Done [] 0 0)
    (done c1 Create (sink ∷ []) 0 0 (Done [] 0 0)
    (done c1 Take (codes "self" ∷ []) 0 0 (Done (request ∷ []) 1 1)
    (done a1 Send (codes "self" ∷ request ∷ []) 1 0 (Done [] 1 0) history)))))))))))))))

abbrev pub read_by_lines : History
read_by_lines = acknowledged (began (of_line by_lines) (Done [] 0 0) g1)

abbrev pub steps : List ℕ → List Step
steps words = since_start a1 (next_check words read_by_lines)

abbrev pub part_of_line : Line
part_of_line = record by_lines { offset = 3 }

abbrev pub whole_line : Line
whole_line = record by_lines { offset = 6 }

-- lines of a checkpoint. All else that its publication owes holds, and one whose line has all parts may be published
pub record LinesAreRefused : Type 0 where
  pub else_obeys : (history : History) (old : Option Line) (new : Line) → Written history old new
      → ObeysBut TheRule history (newest (published history))
  pub allowed : (history : History) (old : Option Line) (new : Line) → IsAllowed history old new → Publishes history
  -- a line keeps its class
  pub another_class : RefusedFor ItsClass (next_check (of_line by_lines) g6) (Some line) by_lines
  pub same_class : IsAllowed (next_check (of_line line) g6) (Some line) line
  -- a line keeps its start
  pub another_start : RefusedFor ItsStart (next_check (of_line line_0) began_at_5) (Some line_5) line_0
  pub same_start : IsAllowed (next_check (of_line line_5) began_at_5) (Some line_5) line_5
  -- its offset doesn't go back
  pub goes_back : RefusedFor ItsOffset (next_check text g27) (Some line_6) line
  pub stays : IsAllowed (next_check text_6 g27) (Some line_6) line_6
  -- a new line begins at its start
  pub past_start : RefusedFor ItsOffset (next_check text_6 g2) None line_6
  pub at_start : IsAllowed (next_check text g2) None line
  -- the offset rises over acknowledged chunks alone
  pub not_sent : RefusedFor ItsChunks (next_check text_6 g7) (Some line) line_6
  pub is_acknowledged : IsAllowed (next_check (of_line whole_line) read_by_lines) (Some by_lines) whole_line
  -- the suffix becomes one of a generation of the path, and doesn't go back to none
  pub no_generation : RefusedFor ItsSuffix (next_check (of_line at_9) turned_empty) (Some moving) at_9
  pub next_generation : IsAllowed (next_check (of_line at_8) turned_empty) (Some moving) at_8
  pub no_suffix : RefusedFor ItsSuffix (next_check (of_line moving) past_8) (Some at_8) moving
  pub same_suffix : IsAllowed (next_check (of_line at_8) past_8) (Some at_8) at_8
  -- a new line begins behind the newest generation
  pub not_newest : RefusedFor ItsSuffix (next_check (of_line moving) starts_past_8) None moving
  pub past_newest : IsAllowed (next_check (of_line at_8) starts_past_8) None at_8
  -- the place lies in the generation that follows the suffix
  pub false_place : RefusedFor ItsPlace (next_check (of_line at_8) turned_full) (Some moving) at_8
  pub true_place : IsAllowed (next_check (of_line moving) turned_full) (Some moving) moving
  -- the offset is one at which a reader may stop
  pub inside_a_line : RefusedFor ItsCut (next_check (of_line part_of_line) read_by_lines) (Some by_lines) part_of_line
  pub end_of_line : IsAllowed (next_check (of_line whole_line) read_by_lines) (Some by_lines) whole_line
