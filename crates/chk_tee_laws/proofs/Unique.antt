-- What passes is one list, and is there; and what is passed on is a message of it.
use Rattle.std.proofs.Common.{◌≡◌, inl, ℕ, List, [], ◌∷◌, ◌++◌, Some, ap, ap₂, sym, subst, ◌∙◌, refl}
use Rattle.std.proofs.lemmas.Option.{same_Some}
use Rattle.chk_chunk.specs.Keys.{Chunk}
use Rattle.chk_chunk.specs.Posts.{IsPost}
use Rattle.chk_chunk.proofs.PostGrammar.{one_post}
use Rattle.chk_http_grammar.specs.Messages.{Ack, IsPostOf, IsGoodReply}
use Rattle.chk_http_grammar.proofs.Accepted.{PostRequest-same, IsGoodReply-same}
use Rattle.chk_site.specs.declared.acts.Who.{Who}
use Rattle.chk_site.specs.Acts.{Deed, Answers, deed}
use Rattle.chk_site.specs.History.{Step, History}
use Rattle.chk_tee.specs.Messages.{Teed, IsTee}
use Rattle.chk_tee.specs.Filters.{passing}
use Rattle.chk_tee.specs.declared.filters.Filter.{Filter}
use Rattle.chk_tee_sender.specs.Offers.{IsPlacedPost, teeds_of}
use Rattle.chk_world.specs.Collectors.{Handling, handling_of, view}
use Rattle.chk_tee_laws.specs.Passed.{AnswersPost, HasPassed, IsMessageOf, none, more, same}

taking_in : Deed → ℕ
taking_in (Answers t reply) = t
taking_in call = 0

reply_in : Deed → List ℕ
reply_in (Answers t reply) = reply
reply_in call = []

-- an answer is to one post, with one list of lines
pub one_answer : (who : Who) (history : History) (step : Step) (cs ds : List Chunk)
    (acks others : List Ack)
    → AnswersPost who history step cs acks → AnswersPost who history step ds others → (cs ≡ ds)
    × (acks ≡ others)
unfolding taking_in reply_in
one_answer who history step cs ds acks others a b =
    let call = sym a.call ∙ b.call in
    let message : a.message ≡ b.message =
    same_Some a.message b.message
    (sym a.taken ∙ (ap (λ t. handling_of t (view who history).handled) (ap taking_in call)
    ∙ b.taken)) in
    let post : IsPostOf ds a.message.bytes =
    subst (λ (h : Handling). IsPostOf ds h.bytes) (sym message) b.post in
    let good : IsGoodReply others a.reply =
    subst (IsGoodReply others) (sym (ap reply_in call)) b.good in (
      one_post cs ds a.post.0 a.post.2
          (subst (λ b. IsPost ds b)
          (sym (PostRequest-same a.post.0 post.0 a.message.bytes a.post.1 post.1)) post.2),
      IsGoodReply-same acks others a.reply a.good good,
    )

pub one_list : (who : Who) (f : Filter) (history : History) (items others : List Teed)
    → HasPassed who f history items
    → HasPassed who f history others → items ≡ others
one_list who f _ _ _ none none = refl
one_list who f _ _ _ (more {history = history} {items = items} step cs acks a before)
    (more {items = others} step' ds lines b earlier) =
    let answer = one_answer who history step cs ds acks lines a b in
    ap₂ (λ (x y : List Teed). x ++ y) (one_list who f history items others before earlier)
    (ap₂ (λ (c : List Chunk) (l : List Ack). passing f (teeds_of c l)) answer.0 answer.1)
one_list who f _ _ _ (more step cs acks a before) (same step' never earlier) =
    absurd (never cs acks a)
one_list who f _ _ _ (same step never before) (more step' ds lines b earlier) =
    absurd (never ds lines b)
one_list who f _ _ _ (same {history = history} {items = items} step never before)
    (same {items = others} step' always earlier) =
    one_list who f history items others before earlier

pub is_there : (who : Who) (f : Filter) (history : History)
    → ¬ ((items : List Teed) → ¬ (HasPassed who f history items))
is_there who f [] without = without [] none
is_there who f (step ∷ history) without =
    is_there who f history
    (λ items before.
    without items
    (same step (λ chunks acks a. without (items ++ passing f (teeds_of chunks acks))
    (more step chunks acks a before)) before))

pub is_message : (who : Who) (f : Filter) (history : History) (step : Step) (t : ℕ)
    (request reply : List ℕ) (h : Handling) (chunks : List Chunk) (acks : List Ack) (bytes : List ℕ)
    → step.act.who ≡ who → deed step.act ≡ Answers t reply
    → handling_of t (view who history).handled ≡ Some h → h.bytes ≡ request
    → IsPlacedPost request reply chunks acks → IsTee (passing f (teeds_of chunks acks)) bytes
    → IsMessageOf who f (step ∷ history) bytes
is_message who f history step t request reply h chunks acks bytes by call taken of placed tee =
    inl (
      chunks,
      acks,
      record {
        by = by;
        taking = t;
        reply = reply;
        call = call;
        message = h;
        taken = taken;
        post = subst (IsPostOf chunks) (sym of) placed.post;
        good = placed.good;
        each = placed.each;
      },
      tee,
    )
