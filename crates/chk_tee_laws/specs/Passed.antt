-- Which chunks a filter lets pass of those that a collector answered, over a history.
use Rattle.std.specs.Prelude.{◌≡◌, ◌⊎◌, ℕ, ◌<◌, List, [], ◌∷◌, ◌++◌, length, Some}
use Rattle.chk_site.specs.declared.acts.Role.TheVariants.{Collector}
use Rattle.chk_site.specs.declared.acts.Who.{Who}
use Rattle.chk_site.specs.Acts.{Answers, deed}
use Rattle.chk_site.specs.History.{Step, History}
use Rattle.chk_chunk.specs.Keys.{Chunk}
use Rattle.chk_http_grammar.specs.Messages.{Ack, IsPostOf, IsGoodReply}
use Rattle.chk_world.specs.Collectors.{Handling, handling_of, view}
use Rattle.chk_tee.specs.Messages.{Teed, IsTee}
use Rattle.chk_tee.specs.Filters.{passing}
use Rattle.chk_tee.specs.declared.filters.Filter.{Filter}
use Rattle.chk_tee_sender.specs.Offers.{teeds_of}
use Rattle.chk_tee_sender.specs.Sieves.{mark_of}
use Rattle.chk_tee_sender.specs.declared.sieve.Mark.{Mark}

-- the collector of this name
abbrev pub collector_named : List ℕ → Who
collector_named name = record { role = Collector; name = name }

-- The step is the process's answer to a post of these chunks that it took: a good reply, with
-- these lines, one for each chunk.
pub record AnswersPost (who : Who) (history : History) (step : Step) (chunks : List Chunk)
    (acks : List Ack) : Type 0 where
  pub by : step.act.who ≡ who
  pub taking : ℕ
  pub reply : List ℕ
  pub call : deed step.act ≡ Answers taking reply
  pub message : Handling
  pub taken : handling_of taking (view who history).handled ≡ Some message
  pub post : IsPostOf chunks message.bytes
  pub good : IsGoodReply acks reply
  pub each : length acks ≡ length chunks

-- The chunks that the filter lets pass among those of the posts that the process answered with a
-- good reply, each with its
-- stem and its offset, in order of the answers and of their lines.
pub data HasPassed (who : Who) (f : Filter) : History → List Teed → Type 0 where
  none : HasPassed who f [] []
  more : {history : History} {items : List Teed} (step : Step) (chunks : List Chunk)
      (acks : List Ack)
      → AnswersPost who history step chunks acks → HasPassed who f history items
      → HasPassed who f (step ∷ history) (items ++ passing f (teeds_of chunks acks))
  same : {history : History} {items : List Teed} (step : Step)
      → ((chunks : List Chunk) (acks : List Ack) → ¬ (AnswersPost who history step chunks acks))
      → HasPassed who f history items
      → HasPassed who f (step ∷ history) items

-- the bytes are a message of the chunks that the filter lets pass of one of those posts
abbrev pub IsMessageOf : Who → Filter → History → List ℕ → Type 0
IsMessageOf who f [] bytes = ⊥
IsMessageOf who f (step ∷ history) bytes =
    ((chunks : List Chunk) × (acks : List Ack) × AnswersPost who history step chunks acks
    × IsTee (passing f (teeds_of chunks acks)) bytes)
    ⊎ IsMessageOf who f history bytes

-- ---- the order of places

-- the second place is above the first, by the collector's start, the sink's number and the offset
abbrev pub IsAbove : Mark → Mark → Type 0
IsAbove a b =
    (a.stem.born < b.stem.born)
    ⊎ ((a.stem.born ≡ b.stem.born)
    × ((a.stem.number < b.stem.number) ⊎ ((a.stem.number ≡ b.stem.number) × (a.offset < b.offset))))

-- where the chunk stands
abbrev pub place : Teed → Mark
place t = mark_of t.stem t.offset

-- it holds of each
abbrev pub Each : (Teed → Type 0) → List Teed → Type 0
Each P [] = Unit {0}
Each P (t ∷ ts) = P t × Each P ts

-- each is above all that stand before it
abbrev pub RiseStrictly : List Teed → Type 0
RiseStrictly [] = Unit {0}
RiseStrictly (t ∷ ts) = Each (λ u. IsAbove (place t) (place u)) ts × RiseStrictly ts

-- they are of sinks of the collector, and their places rise strictly
pub record AreInOrder (name : List ℕ) (items : List Teed) : Type 0 where
  pub rise : RiseStrictly items
  pub of : Each (λ t. t.stem.collector ≡ name) items
