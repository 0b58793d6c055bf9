-- Posts of one chunk that an agent's rule refuses for one part of what is owed, each beside one that differs in it and is allowed.
use Rattle.chk_site.specs.declared.acts.Call.TheVariants.{Send, Clock}
use Rattle.chk_world_examples.specs.Moments.{g7, g8}
use Rattle.chk_world_examples.specs.Refusing.{TheRule, ObeysBut, next_by}
use Rattle.std.specs.Prelude.{◌≡◌, ◌≢◌, ℕ, ◌-◌, true, false, List, [], ◌∷◌, length, take, drop, Some, None, bytes_eq, if◌then◌else◌, codes, IsTrue, IsSome}
use Rattle.chk_control.specs.declared.Class.TheVariants.{Rotating, Lines}
use Rattle.chk_site.specs.declared.acts.ActAnswer.TheVariants.{Done}
use Rattle.chk_site.specs.Acts.{Sends}
use Rattle.chk_site.specs.History.{Step, History, files_after, since_start}
use Rattle.chk_site.specs.Messages.{message}
use Rattle.chk_chunk.specs.Keys.{Chunk, chunk_begin, chunk_end}
use Rattle.chk_chunk.specs.Posts.{written_post}
use Rattle.chk_http_grammar.specs.Messages.{WrittenPost, written_post_request}
use Rattle.chk_world.specs.Checkpoints.{Line, Two, checkpoint_text, line_of}
use Rattle.chk_world.specs.Streams.{start_of, log_of, is_stream_cut}
use Rattle.chk_world.specs.Agents.{AllOfCluster, AgentRule}
use Rattle.chk_world.specs.Rules.{must_start}
use Rattle.chk_world_examples.specs.Texts.{a1, path, hello, check, line, stream, chunk}

-- a part of what is owed of a chunk that is sent, or none
pub data SentPart : Type 0 where
  NoPart : SentPart
  ItsSource : SentPart
  ItsStart : SentPart
  ItsData : SentPart
  ItsCut : SentPart
  ItsCluster : SentPart

-- a part that isn't left out
abbrev pub but : SentPart → SentPart → Type 0 → Type 0
but ItsSource ItsSource P = Unit {0}
but ItsStart ItsStart P = Unit {0}
but ItsData ItsData P = Unit {0}
but ItsCut ItsCut P = Unit {0}
but ItsCluster ItsCluster P = Unit {0}
but left_out part P = P

-- all that is owed of the chunk, but that part
pub record SendsBut (left_out : SentPart) (history : History) (c : Chunk) : Type 0 where
  pub source : but left_out ItsSource (c.key.stream.source ≡ codes "h1")
  pub known : IsSome (line_of (files_after history) c.key.stream)
  pub start : but left_out ItsStart (c.key.start ≡ start_of history c.key.stream)
  pub data_is : but left_out ItsData
      (c.value ≡ take (length c.value) (drop (chunk_begin c - c.key.start) (log_of history c.key.stream)))
  pub cut : but left_out ItsCut (IsTrue (is_stream_cut history c.key.stream (chunk_end c)))
  pub cluster : but left_out ItsCluster (AllOfCluster c.key.cluster (since_start a1 history))

-- a post of the chunk, and nothing else
abbrev pub post_of : Chunk → List ℕ
post_of c = written_post_request (codes "self") (written_post (c ∷ []))

-- the post can be written, and sent under this number
pub record IsSendable (history : History) (m : ℕ) (c : Chunk) : Type 0 where
  pub is_post : WrittenPost (codes "self") (c ∷ []) (post_of c)
  pub number : m ≢ 0
  pub fresh : message history m ≡ None
  pub starts : must_start a1 history ≡ false

-- the agent may send it
abbrev pub MaySend : History → ℕ → Chunk → Type 0
MaySend history m c = (step : Step) → AgentRule a1 history step (Sends m (codes "self") (post_of c))

-- a post that is refused for that part alone
pub record RefusedFor (part : SentPart) (history : History) (m : ℕ) (c : Chunk) : Type 0 where
  pub sendable : IsSendable history m c
  pub others : SendsBut part history c
  pub refused : (step : Step) → AgentRule a1 history step (Sends m (codes "self") (post_of c)) → ⊥

-- a post of which all parts hold
pub record IsAllowed (history : History) (m : ℕ) (c : Chunk) : Type 0 where
  pub sendable : IsSendable history m c
  pub all : SendsBut NoPart history c

-- a moment at which the checkpoints of h1 and of h2 have this line alone, and the log of the path has these bytes
abbrev pub moment : Line → List ℕ → History
moment l bytes = record {
  own = true;
  act = record { who = a1; call = Clock; words = []; number = 0; max = 0; answer = Done [] 0 0 };
  files = λ n.
      if bytes_eq n check then Some (record { bytes = checkpoint_text Two (l ∷ []); synced = 0 })
      else if bytes_eq n (codes "agents/h2.check") then Some (record { bytes = checkpoint_text Two (l ∷ []); synced = 0 })
      else None;
  logs = λ p. record { rotated = []; base = if bytes_eq p path then bytes else [] };
} ∷ []

-- the chunk with these offsets and data
abbrev pub chunk_of : ℕ → ℕ → List ℕ → Chunk
chunk_of start seq value = record { key = record chunk.key { start = start; seq = seq }; value = value }

-- a chunk with data that isn't the log's
abbrev pub false_chunk : Chunk
false_chunk = record { key = chunk.key; value = codes "jello\n" }

-- a log that is read by lines
abbrev pub by_lines : History
by_lines = moment (record line { class = Lines }) hello

-- a log that is the same at two places
abbrev pub from_5 : History
from_5 = moment (record line { class = Rotating; offset = 5; first = 5; start = 5 }) (codes "aaaa")

-- a chunk of a source, where two agents have the same log
abbrev pub of_source : List ℕ → Chunk
of_source source = record { key = record chunk.key { stream = record stream { source = source } }; value = chunk.value }

abbrev pub at_both : History
at_both = moment line hello

-- a chunk of another cluster
abbrev pub other_chunk : Chunk
other_chunk = record { key = record chunk.key { cluster = codes "east" }; value = hello }

-- posts of one chunk. All else that the sending owes holds, and one of which all parts hold may be sent
pub record PostsAreRefused : Type 0 where
  pub else_obeys : (history : History) (m : ℕ) (c : Chunk) → IsSendable history m c
      → ObeysBut TheRule history (next_by a1 Send (codes "self" ∷ post_of c ∷ []) m 0 (Done [] m 0) history)
  pub allowed : (history : History) (m : ℕ) (c : Chunk) → IsAllowed history m c → MaySend history m c
  -- a chunk's data is the log's
  pub false_data : RefusedFor ItsData g7 1 false_chunk
  pub true_data : IsAllowed g7 1 chunk
  -- it ends where a reader may stop
  pub inside_a_line : RefusedFor ItsCut by_lines 1 (chunk_of 0 3 (codes "hel"))
  pub whole_line : IsAllowed by_lines 1 chunk
  -- it has its stream's start
  pub another_start : RefusedFor ItsStart from_5 1 (chunk_of 4 7 (codes "aa"))
  pub same_start : IsAllowed from_5 1 (chunk_of 5 7 (codes "aa"))
  -- it is of the agent's own streams
  pub another_source : RefusedFor ItsSource at_both 1 (of_source (codes "h2"))
  pub own_source : IsAllowed at_both 1 (of_source (codes "h1"))
  -- all posts since a start are of one cluster
  pub second_cluster : RefusedFor ItsCluster g8 2 other_chunk
  pub one_cluster : IsAllowed g8 2 chunk
