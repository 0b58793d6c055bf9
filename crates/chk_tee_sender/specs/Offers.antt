-- Which chunks an answered post offers to the subscribers.
use Rattle.std.specs.Prelude.{◌≡◌, ℕ, Bool, nat_lt, List, [], ◌∷◌, length, IsTrue, Option, Result, Ok}
use Rattle.std.specs.List.{list_all}
use Rattle.chk_bytes.specs.declared.NoMemory.{NoMemory}
use Rattle.chk_bytes.specs.Numbers.{spelled_at}
use Rattle.chk_chunk.specs.Keys.{Chunk}
use Rattle.chk_chunk.specs.Posts.{IsPost, guessed_chunks}
use Rattle.chk_http.specs.Lines.{IsLines, acks_in}
use Rattle.chk_http_grammar.specs.Messages.{Ack, IsPostOf, IsReply, IsGoodReply}
use Rattle.chk_site.specs.declared.acts.Who.{Who}
use Rattle.chk_site.specs.History.{History}
use Rattle.chk_tee.specs.Messages.{Teed}
use Rattle.chk_tee_sender.specs.Passing.{Passes}
use Rattle.chk_tee_sender.specs.declared.offers.Offer.{Offer}
use Rattle.chk_tee_sender.specs.declared.Subscriber.{Subscriber}
use Rattle.chk_tee_sender.specs.declared.tees.Passed.{Passed}

-- a chunk with the line that tells where it was written
abbrev pub teed_of : Chunk → Ack → Teed
teed_of c a = record { stem = a.stem; offset = a.number; chunk = c }

-- each chunk with its line
abbrev pub teeds_of : List Chunk → List Ack → List Teed
teeds_of [] acks = []
teeds_of (c ∷ cs) [] = []
teeds_of (c ∷ cs) (a ∷ acks) = teed_of c a ∷ teeds_of cs acks

-- the line's number isn't 0
abbrev pub is_placed : Ack → Bool
is_placed a = nat_lt 0 a.number

-- the request is a post of these chunks, and the reply a good one with a line for each, none of which has the number 0
pub record IsPlacedPost (request reply : List ℕ) (chunks : List Chunk) (acks : List Ack) : Type 0 where
  pub post : IsPostOf chunks request
  pub good : IsGoodReply acks reply
  pub each : length acks ≡ length chunks
  pub placed : IsTrue (list_all is_placed acks)

-- the request isn't a post, or the reply is no good one to it, or one of its lines has the number 0
abbrev pub HasNoOffer : List ℕ → List ℕ → Type 0
HasNoOffer request reply = (chunks : List Chunk) (acks : List Ack) → ¬ (IsPlacedPost request reply chunks acks)

-- ---- how the chunks are kept: as the post's body and the lines

-- the chunks of a post's body
abbrev pub chunks_in : List ℕ → List Chunk
chunks_in body = guessed_chunks (spelled_at 0 4 body) 4 body

-- the chunks and the lines of an offer
abbrev pub chunks_of : Offer → List Chunk
chunks_of o = chunks_in o.post.now

abbrev pub acks_of : Offer → List Ack
acks_of o = acks_in o.count o.lines.now

-- what it offers
abbrev pub items_of : Offer → List Teed
items_of o = teeds_of (chunks_of o) (acks_of o)

-- so many lines, none of which has the number 0
pub record ArePlaced (count : ℕ) (body : List ℕ) : Type 0 where
  pub lines : IsLines count (acks_in count body) body
  pub placed : IsTrue (list_all is_placed (acks_in count body))

-- a post, and as many lines
pub record IsSound (o : Offer) : Type 0 where
  pub post : IsPost (chunks_of o) o.post.now
  pub count : o.count ≡ length (chunks_of o)
  pub lines : ArePlaced o.count o.lines.now

-- the request and its reply offer this
pub record IsOfferOf (request reply : List ℕ) (o : Offer) : Type 0 where
  pub sound : IsSound o
  pub of : IsPlacedPost request reply (chunks_of o) (acks_of o)

-- so many lines of a good reply, none of which has the number 0
abbrev pub AreLinesOf : List ℕ → ℕ → List ℕ → Type 0
AreLinesOf reply count body = IsReply 200 body reply × ArePlaced count body

-- the reply has no such lines
abbrev pub HasNoLines : List ℕ → ℕ → Type 0
HasNoLines reply count = (acks : List Ack) → IsGoodReply acks reply → length acks ≡ count → ¬ (IsTrue (list_all is_placed acks))

-- ---- passing it on

-- nothing is sent, nobody is dropped and no step is made
pub record PassesNone (before after : List Subscriber) (result : Result Passed NoMemory) (old new : Option History) : Type 0 where
  pub numbers : result ≡ Ok (record { sent = 0; dropped = 0 })
  pub stay : after ≡ before
  pub quiet : new ≡ old

-- the chunks of a post that the request is, answered so, are passed on with their lines
abbrev pub PassesPost : Who → List ℕ → List ℕ → List Subscriber → List Subscriber → Result Passed NoMemory → Option History → Option History
    → Type 0
PassesPost who request reply before after result old new =
    (chunks : List Chunk) (acks : List Ack) → IsPlacedPost request reply chunks acks
    → Passes who (teeds_of chunks acks) before after result old new

-- What was done with a post that was answered: nothing where nobody stands, and else by what the
-- request and its reply offer.
pub data IsPassed (who : Who) (request reply : List ℕ) (before after : List Subscriber)
    (result : Result Passed NoMemory) (old new : Option History) : Type 0 where
  nobody : before ≡ [] → PassesNone before after result old new
      → IsPassed who request reply before after result old new
  nothing : HasNoOffer request reply → PassesNone before after result old new
      → IsPassed who request reply before after result old new
  passed : (chunks : List Chunk) (acks : List Ack) → IsPlacedPost request reply chunks acks
      → Passes who (teeds_of chunks acks) before after result old new
      → IsPassed who request reply before after result old new
