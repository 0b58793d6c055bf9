-- What posts and polls leave as it was.
use Rattle.std.proofs.Common.{◌≡◌, ◌≢◌, ℕ, ◌≤◌, ◌<◌, List, [], ◌∷◌, length, take, Option, Some, None, Result, Ok, Err, ap, sym, subst, ◌∙◌, refl, arith, length-drop}
use Rattle.std.proofs.lemmas.Option.{same_Some}
use Rattle.chk_bytes.specs.declared.NoMemory.{NoMemory as Wanting}
use Rattle.chk_bytes.specs.Stems.{Stem}
use Rattle.chk_site.specs.declared.acts.Who.{Who}
use Rattle.chk_site.specs.History.{History}
use Rattle.chk_chunk.specs.declared.Chunk.{Chunk}
use Rattle.chk_http_grammar.specs.Messages.{Ack}
use Rattle.chk_acks.specs.Table.{Table}
use Rattle.chk_world.specs.Agents.{AreFor}
use Rattle.chk_agent_delivery.specs.declared.answers.Below.{Below}
use Rattle.chk_agent_delivery.specs.declared.answers.Posted.{Posted}
use Rattle.chk_agent_delivery.specs.declared.answers.Posted.TheVariants.{Sent}
use Rattle.chk_agent_delivery.specs.declared.answers.Answered.{Answered}
use Rattle.chk_agent_delivery.specs.declared.answers.Answered.TheVariants.{Taken}
use Rattle.chk_agent_delivery.specs.declared.answers.Polled.{Polled}
use Rattle.chk_agent_delivery.specs.declared.answers.Polled.TheVariants.{Sent as poll_sent}
use Rattle.chk_agent_delivery.specs.declared.answers.PollAnswer.{PollAnswer}
use Rattle.chk_agent_delivery.specs.declared.answers.PollAnswer.TheVariants.{Lengths}
use Rattle.chk_agent_delivery.specs.States.{Post, Poll, State as Delivery}
use Rattle.chk_agent_delivery.specs.Turns.{posted, post_taken, asked_for, asked_stems, poll_taken, SeesAll, below_in}
use Rattle.chk_agent_delivery.specs.Scripts as script
use Rattle.chk_agent_delivery.specs.Scripts.{IsPosted, IsPostReplied, IsPolled, IsPollReplied, TakesPostReply, TakesPollReply}
use Rattle.chk_agent_delivery.proofs.Rows.{answered_same}
use Rattle.chk_agent_delivery.proofs.LengthStates.{seen_less}
use Rattle.chk_agent.specs.declared.answers.AgentFault.{AgentFault}
use Rattle.chk_agent.specs.States.{State}
use Rattle.chk_agent.specs.Turns.{Posts, GetsPostReply, Polls, GetsLengths, as_agent, with_delivery}
use Rattle.chk_agent_drain.specs.declared.tries.Miss.{Miss}
use Rattle.chk_agent_drain.specs.Parts as once
use Rattle.chk_agent_drain.specs.Parts.{PostsOnce, PollsOnce, SameRest, count_rows, unmarked_in}
use Rattle.chk_agent_drain.proofs.Trying.{given_ok}
use Rattle.chk_agent_drain.proofs.Unmarked.{no_more, fewer}

-- ---- tries without a good reply

-- the same chunks, rows and addresses
pub record IsKeptIn (d e : Delivery) : Type 0 where
  pub queue : e.queue ≡ d.queue
  pub table : e.table ≡ d.table
  pub addresses : e.ring.addresses ≡ d.ring.addresses

pub record IsKept (s t : State) : Type 0 where
  pub source : t.source ≡ s.source
  pub ready : t.ready ≡ s.ready
  pub adaptors : t.adaptors ≡ s.adaptors
  pub within : IsKeptIn s.delivery t.delivery

pub kept : (s : State) → IsKept s s
kept s = record {
  source = refl;
  ready = refl;
  adaptors = refl;
  within = record { queue = refl; table = refl; addresses = refl };
}

pub kept_then : (s t u : State) → IsKept s t → IsKept t u → IsKept s u
kept_then s t u p q = record {
  source = q.source ∙ p.source;
  ready = q.ready ∙ p.ready;
  adaptors = q.adaptors ∙ p.adaptors;
  within = record {
    queue = q.within.queue ∙ p.within.queue;
    table = q.within.table ∙ p.within.table;
    addresses = q.within.addresses ∙ p.within.addresses;
  };
}

kept_by : (s t : State) (e : Delivery) → t ≡ with_delivery s e → IsKeptIn s.delivery e → IsKept s t
kept_by s t e is k =
    subst (IsKept s) (sym is) (record { source = refl; ready = refl; adaptors = refl; within = k })

post_kept : {who : Who} {d e : Delivery} {given : Result Posted Wanting} {old new : Option History}
    → IsPosted who d given e old new → IsKeptIn d e
post_kept (script.empty is) = record { queue = refl; table = refl; addresses = refl }
post_kept (script.no_rows some is) = record { queue = refl; table = refl; addresses = refl }
post_kept (script.sent front bytes m is written call) = record
    { queue = refl; table = refl; addresses = refl }
post_kept (script.failed front bytes is written call) = record
    { queue = refl; table = refl; addresses = refl }
post_kept (script.unsent fault) = record { queue = refl; table = refl; addresses = refl }
post_kept (script.refused fault front bytes is written call) = record
    { queue = refl; table = refl; addresses = refl }

not_taken : {now count : ℕ} {bytes : List ℕ} {d e : Delivery} {answer : Answered}
    → TakesPostReply now count bytes d answer e → ((n : ℕ) → answer ≡ Taken n → ⊥) → IsKeptIn d e
not_taken (script.good acks is few) other = absurd (other _ refl)
not_taken (script.bad code none is) other = record { queue = refl; table = refl; addresses = refl }

reply_kept : {who : Who} {now : ℕ} {d e : Delivery} {given : Result Answered Wanting}
    {old new : Option History} → IsPostReplied who now d given e old new
    → ((n : ℕ) → given ≡ Ok (Taken n) → ⊥) → IsKeptIn d e
reply_kept (script.nothing is) other = record { queue = refl; table = refl; addresses = refl }
reply_kept (script.got p bytes is call takes) other = not_taken takes (λ n e. other n (ap Ok e))
reply_kept (script.silent p is call) other = record { queue = refl; table = refl; addresses = refl }
reply_kept (script.wanting fault p is call) other = record
    { queue = refl; table = refl; addresses = refl }

posts_kept : {s t : State} {result : Result Posted AgentFault} {old new : Option History}
    → Posts s result t old new → IsKept s t
posts_kept {s = s} {t = t} p = kept_by s t p.delivery p.state_is (post_kept p.made)

replies_kept : {now : ℕ} {s t : State} {result : Result Answered AgentFault}
    {old new : Option History}
    → GetsPostReply now s result t old new → ((n : ℕ) → result ≡ Ok (Taken n) → ⊥) → IsKept s t
replies_kept {s = s} {t = t} p other =
    kept_by s t p.delivery p.state_is
    (reply_kept p.made (λ n e. other n (p.result_is ∙ ap as_agent e)))

pub post_missed : {now : ℕ} {s t : State} {result : Result (Result (Unit {0}) Miss) AgentFault}
    {old new : Option History} (miss : Miss) → PostsOnce now s result t old new
    → result ≡ Ok (Err miss) → IsKept s t
post_missed miss (once.good n m posts replies) e = absurd (let z : ⊥ = cc in z)
post_missed miss (once.unsent posts) e = posts_kept posts
post_missed {s = s} {t = u} miss (once.silent {t = t} n posts replies) e =
    kept_then s t u (posts_kept posts) (replies_kept replies (λ k f. let z : ⊥ = cc in z))
post_missed {s = s} {t = u} miss (once.refused {t = t} n code posts replies) e =
    kept_then s t u (posts_kept posts) (replies_kept replies (λ k f. let z : ⊥ = cc in z))
post_missed miss (once.wanting wants) e = absurd (let z : ⊥ = cc in z)

poll_kept : {who : Who} {d e : Delivery} {given : Result Polled Wanting} {old new : Option History}
    → IsPolled who d given e old new → IsKeptIn d e
poll_kept (script.none is) = record { queue = refl; table = refl; addresses = refl }
poll_kept (script.sent bytes m written call) = record
    { queue = refl; table = refl; addresses = refl }
poll_kept (script.failed bytes written call) = record
    { queue = refl; table = refl; addresses = refl }
poll_kept (script.unsent fault) = record { queue = refl; table = refl; addresses = refl }
poll_kept (script.refused fault bytes written call) = record
    { queue = refl; table = refl; addresses = refl }

not_seen : {stems : List Stem} {bytes : List ℕ} {d e : Delivery} {answer : PollAnswer}
    → TakesPollReply stems bytes d answer e
    → ((n : ℕ) (below : Option Below) → answer ≡ Lengths n below → ⊥)
    → IsKeptIn d e
not_seen (script.good lengths is for sees) other = absurd (other _ _ refl)
not_seen (script.bad code none is) other = record { queue = refl; table = refl; addresses = refl }

answer_kept : {who : Who} {d e : Delivery} {given : Result PollAnswer Wanting}
    {old new : Option History}
    → IsPollReplied who d given e old new
    → ((n : ℕ) (below : Option Below) → given ≡ Ok (Lengths n below) → ⊥) → IsKeptIn d e
answer_kept (script.nothing is) other = record { queue = refl; table = refl; addresses = refl }
answer_kept (script.got p bytes is call takes) other = not_seen takes (λ n b e. other n b (ap Ok e))
answer_kept (script.silent p is call) other = record
    { queue = refl; table = refl; addresses = refl }
answer_kept (script.wanting fault p is call) other = record
    { queue = refl; table = refl; addresses = refl }

polls_kept : {s t : State} {result : Result Polled AgentFault} {old new : Option History}
    → Polls s result t old new → IsKept s t
polls_kept {s = s} {t = t} p = kept_by s t p.delivery p.state_is (poll_kept p.made)

lengths_kept : {s t : State} {result : Result PollAnswer AgentFault} {old new : Option History}
    → GetsLengths s result t old new
    → ((n : ℕ) (below : Option Below) → result ≡ Ok (Lengths n below) → ⊥) → IsKept s t
lengths_kept {s = s} {t = t} p other =
    kept_by s t p.delivery p.state_is
    (answer_kept p.made (λ n b e. other n b (p.result_is ∙ ap as_agent e)))

pub poll_missed : {now : ℕ} {s t : State} {result : Result (Result (Option Below) Miss) AgentFault}
    {old new : Option History} (miss : Miss) → PollsOnce now s result t old new
    → result ≡ Ok (Err miss) → IsKept s t
poll_missed miss (once.good n m below polls lengths) e = absurd (let z : ⊥ = cc in z)
poll_missed miss (once.unsent polls) e = polls_kept polls
poll_missed {s = s} {t = u} miss (once.silent {t = t} n polls lengths) e =
    kept_then s t u (polls_kept polls) (lengths_kept lengths (λ k b f. let z : ⊥ = cc in z))
poll_missed {s = s} {t = u} miss (once.refused {t = t} n code polls lengths) e =
    kept_then s t u (polls_kept polls) (lengths_kept lengths (λ k b f. let z : ⊥ = cc in z))
poll_missed miss (once.wanting wants) e = absurd (let z : ⊥ = cc in z)

-- ---- a post with a good reply

-- the same agent
pub record IsSame (s t : State) : Type 0 where
  pub source : t.source ≡ s.source
  pub ready : t.ready ≡ s.ready
  pub rest : SameRest s t

sent_is : {who : Who} {d e : Delivery} {given : Result Posted Wanting} {old new : Option History}
    (n : ℕ)
    → IsPosted who d given e old new → given ≡ Ok (Sent n)
    → (front : List Chunk) × (m : ℕ) × (0 < length front) × (e ≡ posted m (length front) d)
sent_is n (script.empty is) g = absurd (let z : ⊥ = cc in z)
sent_is n (script.no_rows some is) g = absurd (let z : ⊥ = cc in z)
sent_is n (script.sent front bytes m is written call) g = (front, m, is.some, refl)
sent_is n (script.failed front bytes is written call) g = absurd (let z : ⊥ = cc in z)
sent_is n (script.unsent fault) g = absurd (let z : ⊥ = cc in z)
sent_is n (script.refused fault front bytes is written call) g = absurd (let z : ⊥ = cc in z)

-- the state behind a good reply to the post that is out
record IsTaken (now : ℕ) (d e : Delivery) : Type 0 where
  pub post : Post
  pub acks : List Ack
  pub out : d.post ≡ Some post
  pub is : e ≡ post_taken now post.count acks d

good_taken : {now : ℕ} {bytes : List ℕ} {d e : Delivery} {answer : Answered} (n : ℕ) (p : Post)
    → d.post ≡ Some p
    → TakesPostReply now p.count bytes d answer e → answer ≡ Taken n → IsTaken now d e
good_taken n p out (script.good acks is few) e = record
    { post = p; acks = acks; out = out; is = refl }
good_taken n p out (script.bad code none is) e = absurd (let z : ⊥ = cc in z)

taken_is : {who : Who} {now : ℕ} {d e : Delivery} {given : Result Answered Wanting}
    {old new : Option History} (n : ℕ)
    → IsPostReplied who now d given e old new → given ≡ Ok (Taken n) → IsTaken now d e
taken_is n (script.nothing is) g = absurd (let z : ⊥ = cc in z)
taken_is n (script.got {answer = answer} p bytes is call takes) g =
    good_taken n p is takes (let v : answer ≡ Taken n = cc in v)
taken_is n (script.silent p is call) g = absurd (let z : ⊥ = cc in z)
taken_is n (script.wanting fault p is call) g = absurd (let z : ⊥ = cc in z)

-- fewer chunks wait
pub record IsFewer (s t : State) : Type 0 where
  pub same : IsSame s t
  pub fewer : length t.delivery.queue.chunks < length s.delivery.queue.chunks

pub post_good : {now : ℕ} {s t : State} {result : Result (Result (Unit {0}) Miss) AgentFault}
    {old new : Option History} → s.delivery.queue.chunks ≢ [] → PostsOnce now s result t old new
    → result ≡ Ok (Ok tt) → IsFewer s t
post_good {now = now} {s = s} {t = u} some (once.good {t = t} n m posts replies) e =
    let sent = sent_is n posts.made (given_ok (Sent n) posts.given posts.result_is) in
    let taken = taken_is m replies.made (given_ok (Taken m) replies.given replies.result_is) in
    let at = ap (λ (k : State). k.delivery) posts.state_is ∙ sent.3 in
    behind sent.0 sent.1 sent.2 taken.post taken.acks
    (ap (λ (d : Delivery). d.post) (sym at) ∙ taken.out)
    (replies.state_is ∙ (ap (with_delivery t)
    (taken.is ∙ ap (post_taken now taken.post.count taken.acks) at)
    ∙ ap (λ (k : State). with_delivery k
    (post_taken now taken.post.count taken.acks (posted sent.1 (length sent.0) s.delivery)))
    posts.state_is))
  where
    filled : (xs : List Chunk) → xs ≢ [] → 0 < length xs
    filled [] some = absurd (some refl)
    filled (x ∷ xs) some = omega arith

    behind : (front : List Chunk) (m : ℕ) → 0 < length front → (p : Post) (acks : List Ack)
        → (posted m (length front) s.delivery).post ≡ Some p
        → u ≡ with_delivery s (post_taken now p.count acks (posted m (length front) s.delivery))
        → IsFewer s u
    behind front m sent p acks out is =
        let d = s.delivery in
        let count = ap (λ (k : Post). k.count) (same_Some _ p out) in
        let size = length-drop p.count d.queue.chunks in
        let chunks = filled d.queue.chunks some in
        subst (IsFewer s) (sym is) (record {
          same = record {
            source = refl;
            ready = refl;
            rest = record {
              adaptors = refl;
              addresses = refl;
              room = (answered_same now d.owners (take p.count d.queue.chunks) acks d.table).1;
            };
          };
          fewer = omega (arith, sent, count, size, chunks);
        })
post_good some (once.unsent posts) e = absurd (let z : ⊥ = cc in z)
post_good some (once.silent n posts replies) e = absurd (let z : ⊥ = cc in z)
post_good some (once.refused n code posts replies) e = absurd (let z : ⊥ = cc in z)
post_good some (once.wanting wants) e = absurd (let z : ⊥ = cc in z)

-- ---- a poll with a good reply

asked_is : {who : Who} {d e : Delivery} {given : Result Polled Wanting} {old new : Option History}
    (n : ℕ)
    → IsPolled who d given e old new → given ≡ Ok (poll_sent n)
    → (m : ℕ) × (e ≡ asked_for m (asked_stems d.table) d)
asked_is n (script.none is) g = absurd (let z : ⊥ = cc in z)
asked_is n (script.sent bytes m written call) g = (m, refl)
asked_is n (script.failed bytes written call) g = absurd (let z : ⊥ = cc in z)
asked_is n (script.unsent fault) g = absurd (let z : ⊥ = cc in z)
asked_is n (script.refused fault bytes written call) g = absurd (let z : ⊥ = cc in z)

-- the state behind a good reply to the poll that is out
record IsSeen (below : Option Below) (d e : Delivery) : Type 0 where
  pub poll : Poll
  pub lengths : List Ack
  pub table : Table
  pub out : d.poll ≡ Some poll
  pub for : AreFor poll.stems lengths
  pub sees : SeesAll lengths d.table table
  pub below_is : below ≡ below_in lengths table
  pub is : e ≡ poll_taken table d

good_seen : {bytes : List ℕ} {d e : Delivery} {answer : PollAnswer} (n : ℕ) (below : Option Below)
    (p : Poll)
    → d.poll ≡ Some p → TakesPollReply p.stems bytes d answer e → answer ≡ Lengths n below
    → IsSeen below d e
good_seen n below p out (script.good {t = table} lengths is for sees) e = record {
  poll = p;
  lengths = lengths;
  table = table;
  out = out;
  for = for;
  sees = sees;
  below_is = (let b : below_in lengths table ≡ below = cc in sym b);
  is = refl;
}
good_seen n below p out (script.bad code none is) e = absurd (let z : ⊥ = cc in z)

seen_is : {who : Who} {d e : Delivery} {given : Result PollAnswer Wanting}
    {old new : Option History} (n : ℕ)
    (below : Option Below) → IsPollReplied who d given e old new → given ≡ Ok (Lengths n below)
    → IsSeen below d e
seen_is n below (script.nothing is) g = absurd (let z : ⊥ = cc in z)
seen_is n below (script.got {answer = answer} p bytes is call takes) g =
    good_seen n below p is takes (let v : answer ≡ Lengths n below = cc in v)
seen_is n below (script.silent p is call) g = absurd (let z : ⊥ = cc in z)
seen_is n below (script.wanting fault p is call) g = absurd (let z : ⊥ = cc in z)

-- no more rows aren't marked, and fewer where none is below
pub record IsSeenOf (below : Option Below) (s t : State) : Type 0 where
  pub same : IsSame s t
  pub queue : t.delivery.queue ≡ s.delivery.queue
  pub no_more : unmarked_in t ≤ unmarked_in s
  pub fewer : below ≡ None → unmarked_in t < unmarked_in s

pub poll_good : {now : ℕ} {s t : State} {result : Result (Result (Option Below) Miss) AgentFault}
    {old new : Option History} (below : Option Below) → asked_stems s.delivery.table ≢ []
    → PollsOnce now s result t old new → result ≡ Ok (Ok below) → IsSeenOf below s t
poll_good {s = s} {t = u} below some (once.good {t = t} n m other polls lengths) e =
    subst (λ b. IsSeenOf b s u) (let z : other ≡ below = cc in z)
    (let asked = asked_is n polls.made (given_ok (poll_sent n) polls.given polls.result_is) in
    let seen = seen_is m other lengths.made
    (given_ok (Lengths m other) lengths.given lengths.result_is) in
    let at = ap (λ (k : State). k.delivery) polls.state_is ∙ asked.1 in
    let stems = ap (λ (d : Delivery). d.poll) (sym at) ∙ seen.out in
    behind other asked.0 seen.poll seen.lengths seen.table stems seen.for
    (subst (λ (d : Delivery). SeesAll seen.lengths d.table seen.table) at seen.sees) seen.below_is
    (lengths.state_is ∙ (ap (with_delivery t) (seen.is ∙ ap (poll_taken seen.table) at)
    ∙ ap (λ (k : State). with_delivery k
    (poll_taken seen.table (asked_for asked.0 (asked_stems s.delivery.table) s.delivery)))
    polls.state_is)))
  where
    behind : (other : Option Below) (m : ℕ) (p : Poll) (lengths : List Ack) (table : Table)
        → (asked_for m (asked_stems s.delivery.table) s.delivery).poll ≡ Some p
        → AreFor p.stems lengths
        → SeesAll lengths s.delivery.table table → other ≡ below_in lengths table
        → u ≡ with_delivery s (poll_taken table
        (asked_for m (asked_stems s.delivery.table) s.delivery))
        → IsSeenOf other s u
    behind other m p lengths table out for sees is_below is =
        subst (IsSeenOf other s) (sym is) (record {
          same = record {
            source = refl;
            ready = refl;
            rest = record {
              adaptors = refl;
              addresses = refl;
              room = (seen_less lengths s.delivery.table table sees).room;
            };
          };
          queue = refl;
          no_more = no_more lengths s.delivery.table table sees;
          fewer = λ none. fewer lengths s.delivery.table table some
              (subst (λ (k : Poll). AreFor k.stems lengths) (sym (same_Some _ p out)) for) sees
              (sym is_below ∙ none);
        })
poll_good below some (once.unsent polls) e = absurd (let z : ⊥ = cc in z)
poll_good below some (once.silent n polls lengths) e = absurd (let z : ⊥ = cc in z)
poll_good below some (once.refused n code polls lengths) e = absurd (let z : ⊥ = cc in z)
poll_good below some (once.wanting wants) e = absurd (let z : ⊥ = cc in z)
