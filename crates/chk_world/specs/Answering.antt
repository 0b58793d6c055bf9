-- What an agent keeps of what it sent and got, until a chunk is acknowledged and its checkpoint may
-- pass it.
use Rattle.std.specs.Prelude.{◌≡◌, ◌⊎◌, ℕ, ◌≤◌, ◌<◌, IsTrue, List, Any, Option, Some, None, MatchBool, Contains, find}
use Rattle.chk_bytes.specs.Stems.{Stem}
use Rattle.chk_control.specs.Classes.{is_plain}
use Rattle.chk_site.specs.declared.acts.Who.{Who}
use Rattle.chk_site.specs.Suffixes.{is_after}
use Rattle.chk_site.specs.History.{Step, History, since_start}
use Rattle.chk_chunk.specs.Keys.{Stream, Chunk, Covers}
use Rattle.chk_http_grammar.specs.Messages.{Ack, IsGoodReply, WrittenPost, WrittenPoll}
use Rattle.chk_world.specs.Checkpoints.{Line, is_line_of, same_log}
use Rattle.chk_world.specs.Agents.{Sent, GotFor, LineFor, AreFor, Acknowledged, last_newest, stream_of}
use Rattle.chk_world.specs.Standing.{Stands}

-- the chunk was sent in a post, and the good reply to that says where it ends
pub record IsAnswered (mine : List Step) (c : Chunk) (ack : Ack) : Type 0 where
  pub post : ℕ
  pub address : List ℕ
  pub sent_bytes : List ℕ
  pub chunks : List Chunk
  pub posted : Sent mine post address sent_bytes
  pub is_post : WrittenPost address chunks sent_bytes
  pub reply : List ℕ
  pub acks : List Ack
  pub replied : GotFor mine post reply
  pub is_good : IsGoodReply acks reply
  pub line : LineFor chunks acks c ack

-- a poll was sent, and the good reply to it has these lengths
pub record IsPolled (mine : List Step) (lengths : List Ack) : Type 0 where
  pub poll : ℕ
  pub address : List ℕ
  pub sent_bytes : List ℕ
  pub stems : List Stem
  pub polled : Sent mine poll address sent_bytes
  pub is_poll : WrittenPoll address stems sent_bytes
  pub reply : List ℕ
  pub replied : GotFor mine poll reply
  pub is_good : IsGoodReply lengths reply
  pub asked : AreFor stems lengths

-- one of these lengths of the sink reaches the end
abbrev pub Reaches : List Ack → Ack → Type 0
Reaches lengths ack = Any (λ n. (n.stem ≡ ack.stem) × (ack.number ≤ n.number)) lengths

-- each offset of the stream from one up to another was acknowledged
abbrev pub AllAcknowledged : List Step → Stream → ℕ → ℕ → Type 0
AllAcknowledged mine s from to =
    (o : ℕ) → from ≤ o → o < to → (c : Chunk) × Covers s o c × Acknowledged mine c

-- a suffix stays, or a later one comes in its place
abbrev pub MovesToLater : Option (List ℕ) → Option (List ℕ) → Type 0
MovesToLater before None = before ≡ None
MovesToLater before (Some suffix) = (before ≡ Some suffix) ⊎ IsTrue (is_after before suffix)

-- the line goes on from the old one over what was acknowledged, to a place that stands
pub record GoesOn (mine : List Step) (history : History) (s : Stream) (old new : Line) : Type 0 where
  pub class : old.class ≡ new.class
  pub start : old.start ≡ new.start
  pub offset : old.offset ≤ new.offset
  pub after : MovesToLater old.after new.after
  pub acknowledged : AllAcknowledged mine s old.offset new.offset
  pub stands : Stands history s new

-- the line is a new one
pub record Begins (mine : List Step) (s : Stream) (new : Line) : Type 0 where
  pub first : new.first ≡ new.start
  pub offset : new.offset ≡ new.start
  pub after : MatchBool (is_plain new.class) (new.after ≡ None)
      (last_newest s.name mine ≡ Some new.after)

-- the line by the old one of its stream
abbrev pub GoesOnOrBegins : List Step → History → Stream → Option Line → Line → Type 0
GoesOnOrBegins mine history s None new = Begins mine s new
GoesOnOrBegins mine history s (Some old) new = GoesOn mine history s old new

-- the new lines in place of the old ones: none is lost, and each goes on or begins
pub record LinesGoOn (who : Who) (old new : List Line) (history : History) : Type 0 where
  pub none_lost : (l : Line) → Contains old l → Any (λ m. IsTrue (same_log l m)) new
  pub each : (l : Line) → Contains new l
      → GoesOnOrBegins (since_start who history) history (stream_of who.name l)
      (find (is_line_of (stream_of who.name l)) old) l
