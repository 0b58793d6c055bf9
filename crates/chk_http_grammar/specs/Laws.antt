-- What holds of all messages, written and accepted.
use Rattle.std.specs.Prelude.{◌≡◌, ℕ, ◌≤◌, IsTrue, List, [], ◌++◌, length}
use Rattle.std.specs.List.{list_all}
use Rattle.chk_bytes.specs.Words.{BeginsWith, is_word}
use Rattle.chk_bytes.specs.Stems.{Stem}
use Rattle.chk_chunk.specs.Keys.{Chunk}
use Rattle.chk_chunk.specs.Posts.{post_limit, written_post}
use Rattle.chk_http_grammar.specs.Messages.{PostRequest, PollRequest, IsRequest, IsPostOf, IsReply, Ack, is_ack, acks_text, IsGoodReply, WrittenPost, WrittenPoll, WrittenReply, written_post_request, IsWritten}

-- no written post, poll or reply begins another one
abbrev pub NoneBeginsAnother : Type 0
NoneBeginsAnother = (bytes more : List ℕ) → IsWritten bytes → IsWritten (bytes ++ more) → more ≡ []

-- what is accepted stays accepted, with the same meaning, with any bytes behind it
pub record IsKeptByMore (bytes more : List ℕ) : Type 0 where
  pub post : (body : List ℕ) → PostRequest body bytes → PostRequest body (bytes ++ more)
  pub chunks : (chunks : List Chunk) → IsPostOf chunks bytes → IsPostOf chunks (bytes ++ more)
  pub poll : (stems : List Stem) → PollRequest stems bytes → PollRequest stems (bytes ++ more)
  pub reply : (code : ℕ) (body : List ℕ) → IsReply code body bytes → IsReply code body (bytes ++ more)
  pub good : (acks : List Ack) → IsGoodReply acks bytes → IsGoodReply acks (bytes ++ more)

-- bytes of which some front is a request are a request
abbrev pub FrontDecides : Type 0
FrontDecides = (bytes front : List ℕ) → BeginsWith bytes front → IsRequest front → IsRequest bytes

-- bytes are accepted in one way at most
pub record HasOneMeaning (bytes : List ℕ) : Type 0 where
  pub post : (body other : List ℕ) → PostRequest body bytes → PostRequest other bytes → body ≡ other
  pub chunks : (chunks others : List Chunk) → IsPostOf chunks bytes → IsPostOf others bytes → chunks ≡ others
  pub poll : (stems others : List Stem) → PollRequest stems bytes → PollRequest others bytes → stems ≡ others
  pub apart : (body : List ℕ) (stems : List Stem) → PostRequest body bytes → ¬ (PollRequest stems bytes)
  pub reply : (code other : ℕ) (body others : List ℕ) → IsReply code body bytes → IsReply other others bytes → (code ≡ other) × (body ≡ others)
  pub good : (acks others : List Ack) → IsGoodReply acks bytes → IsGoodReply others bytes → acks ≡ others

-- what is written is accepted, and says what it was made of
pub record IsReadAsWritten (bytes : List ℕ) : Type 0 where
  pub body : (address body : List ℕ) → IsTrue (is_word address) → length body ≤ post_limit → bytes ≡ written_post_request address body
      → PostRequest body bytes
  pub post : (address : List ℕ) (chunks : List Chunk) → WrittenPost address chunks bytes → IsPostOf chunks bytes
  pub poll : (address : List ℕ) (stems : List Stem) → WrittenPoll address stems bytes → PollRequest stems bytes
  pub reply : (code : ℕ) (phrase body : List ℕ) → WrittenReply code phrase body bytes → IsReply code body bytes
  pub good : (phrase : List ℕ) (acks : List Ack) → IsTrue (list_all is_ack acks) → WrittenReply 200 phrase (acks_text acks) bytes
      → IsGoodReply acks bytes

-- a front of a written request that is accepted is the whole of it, with just the chunks or stems that were written
pub record AcceptsWhole (front rest : List ℕ) : Type 0 where
  pub post : (address : List ℕ) (chunks : List Chunk) (body : List ℕ) → WrittenPost address chunks (front ++ rest)
      → PostRequest body front → (rest ≡ []) × (body ≡ written_post chunks)
  pub chunks : (address : List ℕ) (chunks others : List Chunk) → WrittenPost address chunks (front ++ rest) → IsPostOf others front
      → (rest ≡ []) × (others ≡ chunks)
  pub no_poll : (address : List ℕ) (chunks : List Chunk) (stems : List Stem) → WrittenPost address chunks (front ++ rest)
      → ¬ (PollRequest stems front)
  pub poll : (address : List ℕ) (stems others : List Stem) → WrittenPoll address stems (front ++ rest) → PollRequest others front
      → (rest ≡ []) × (others ≡ stems)
  pub no_post : (address : List ℕ) (stems : List Stem) (body : List ℕ) → WrittenPoll address stems (front ++ rest)
      → ¬ (PostRequest body front)

-- the laws, each over all bytes

-- more bytes keep every message
abbrev pub MoreBytesKeepMessages : Type 0
MoreBytesKeepMessages = (bytes more : List ℕ) → IsKeptByMore bytes more

-- every message has one meaning
abbrev pub MessagesHaveOneMeaning : Type 0
MessagesHaveOneMeaning = (bytes : List ℕ) → HasOneMeaning bytes

-- all that is written is accepted
abbrev pub WrittenIsAccepted : Type 0
WrittenIsAccepted = (bytes : List ℕ) → IsReadAsWritten bytes

-- of a written request only the whole is accepted
abbrev pub OnlyWholeIsAccepted : Type 0
OnlyWholeIsAccepted = (front rest : List ℕ) → AcceptsWhole front rest
