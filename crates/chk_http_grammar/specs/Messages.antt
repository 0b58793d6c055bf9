-- Messages between agents and collectors: those that are accepted, and those that are written.
use Rattle.std.specs.Prelude.{◌≡◌, ◌⊎◌, ℕ, ◌≤◌, ◌<◌, Bool, ◌&&◌, nat_lt, nat_le, IsTrue, List, [], ◌∷◌, ◌++◌, length, map, codes, decimal}
use Rattle.std.specs.List.{list_all}
use Rattle.httparse.specs.Grammar.{RequestHead, ResponseHead, status_code, is_value_byte}
use Rattle.chk_bytes.specs.Numbers.{limit}
use Rattle.chk_bytes.specs.Words.{is_word, joined, joined_at}
use Rattle.chk_bytes.specs.Stems.{Stem, is_stem, stem_text}
use Rattle.chk_chunk.specs.Keys.{Chunk, is_chunk}
use Rattle.chk_chunk.specs.Posts.{IsPost, post_limit, written_post}
use Rattle.chk_http_grammar.specs.Heads.{HasRequestHead, HasReplyHead, HasBody, stated_codings}

-- ---- accepted messages

-- the stems of a query, with `&` between each two
abbrev pub query_text : List Stem → List ℕ
query_text stems = joined_at 38 (map stem_text stems)

-- the bytes begin with a request to post this body
pub record PostRequest (body bytes : List ℕ) : Type 0 where
  pub head : RequestHead
  pub behind : List ℕ
  pub has_head : HasRequestHead bytes head behind
  pub method : head.method ≡ codes "POST"
  pub target : head.target ≡ codes "/chukwa"
  pub not_coded : stated_codings head.fields ≡ []
  pub has : HasBody head.fields body behind

-- the bytes begin with a poll for these stems
pub record PollRequest (stems : List Stem) (bytes : List ℕ) : Type 0 where
  pub head : RequestHead
  pub behind : List ℕ
  pub has_head : HasRequestHead bytes head behind
  pub method : head.method ≡ codes "GET"
  pub target : head.target ≡ codes "/acks?" ++ query_text stems
  pub some : 0 < length stems
  pub few : length stems ≤ 64
  pub are : IsTrue (list_all is_stem stems)

-- the bytes begin with a request
abbrev pub IsRequest : List ℕ → Type 0
IsRequest bytes = ((body : List ℕ) × PostRequest body bytes) ⊎ ((stems : List Stem) × PollRequest stems bytes)

-- the bytes begin with a request to post these chunks
abbrev pub IsPostOf : List Chunk → List ℕ → Type 0
IsPostOf chunks bytes = (body : List ℕ) × PostRequest body bytes × IsPost chunks body

-- the bytes begin with a reply of this code and body
pub record IsReply (code : ℕ) (body bytes : List ℕ) : Type 0 where
  pub head : ResponseHead
  pub behind : List ℕ
  pub has_head : HasReplyHead bytes head behind
  pub code_is : status_code head ≡ code
  pub has : HasBody head.fields body behind

-- a line of a good reply: a sink and a length
pub record Ack : Type 0 where
  pub stem : Stem
  pub number : ℕ

-- the line of these two
abbrev pub ack_of : Stem → ℕ → Ack
ack_of stem number = record { stem = stem; number = number }

-- a line that can be spelled
abbrev pub is_ack : Ack → Bool
is_ack a = is_stem a.stem && nat_lt a.number limit

-- a line as it is written
abbrev pub ack_text : Ack → List ℕ
ack_text a = stem_text a.stem ++ 32 ∷ (decimal a.number ++ 10 ∷ [])

-- all lines
abbrev pub acks_text : List Ack → List ℕ
acks_text acks = joined (map ack_text acks)

-- the bytes begin with a good reply of these lines
abbrev pub IsGoodReply : List Ack → List ℕ → Type 0
IsGoodReply acks bytes = IsTrue (list_all is_ack acks) × IsReply 200 (acks_text acks) bytes

-- ---- written messages

-- a line of a head
abbrev pub head_line : List ℕ → List ℕ
head_line text = text ++ 13 ∷ 10 ∷ []

-- a post request as it is written
unfoldable pub written_post_request : List ℕ → List ℕ → List ℕ
written_post_request address body =
    head_line (codes "POST /chukwa HTTP/1.1") ++ (head_line (codes "Host: " ++ address)
    ++ (head_line (codes "Content-Type: application/octet-stream")
    ++ (head_line (codes "Content-Length: " ++ decimal (length body))
    ++ (head_line (codes "Connection: close") ++ (head_line [] ++ body)))))

-- a poll as it is written
unfoldable pub written_poll_request : List ℕ → List Stem → List ℕ
written_poll_request address stems =
    head_line (codes "GET /acks?" ++ (query_text stems ++ codes " HTTP/1.1"))
    ++ (head_line (codes "Host: " ++ address) ++ (head_line (codes "Connection: close") ++ head_line []))

-- a reply as it is written, with the phrase of its code
unfoldable pub written_reply : ℕ → List ℕ → List ℕ → List ℕ
written_reply code phrase body =
    head_line (codes "HTTP/1.1 " ++ (decimal code ++ 32 ∷ phrase)) ++ (head_line (codes "Content-Type: text/plain")
    ++ (head_line (codes "Content-Length: " ++ decimal (length body))
    ++ (head_line (codes "Connection: close") ++ (head_line [] ++ body))))

-- a post of these chunks as an agent writes it; the address is a word, so that its line holds nothing else
pub record WrittenPost (address : List ℕ) (chunks : List Chunk) (bytes : List ℕ) : Type 0 where
  pub to : IsTrue (is_word address)
  pub some : 0 < length chunks
  pub few : length chunks ≤ 1000
  pub are : IsTrue (list_all is_chunk chunks)
  pub short : length (written_post chunks) ≤ post_limit
  pub is : bytes ≡ written_post_request address (written_post chunks)

-- a poll for these stems as an agent writes it
pub record WrittenPoll (address : List ℕ) (stems : List Stem) (bytes : List ℕ) : Type 0 where
  pub to : IsTrue (is_word address)
  pub some : 0 < length stems
  pub few : length stems ≤ 64
  pub are : IsTrue (list_all is_stem stems)
  pub is : bytes ≡ written_poll_request address stems

-- a phrase that a reply can have: at most 64 bytes, none of which ends a line
abbrev pub is_phrase : List ℕ → Bool
is_phrase phrase = nat_le (length phrase) 64 && list_all is_value_byte phrase

-- a reply as a collector writes it
pub record WrittenReply (code : ℕ) (phrase body bytes : List ℕ) : Type 0 where
  pub from : 100 ≤ code
  pub below : code < 1000
  pub phrase_is : IsTrue (is_phrase phrase)
  pub short : length body ≤ post_limit
  pub is : bytes ≡ written_reply code phrase body

-- the bytes are one whole message as it is written
abbrev pub IsWritten : List ℕ → Type 0
IsWritten bytes =
    ((address : List ℕ) × (chunks : List Chunk) × WrittenPost address chunks bytes)
    ⊎ (((address : List ℕ) × (stems : List Stem) × WrittenPoll address stems bytes)
    ⊎ ((code : ℕ) × (phrase : List ℕ) × (body : List ℕ) × WrittenReply code phrase body bytes))
