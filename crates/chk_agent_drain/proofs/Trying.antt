-- One post or poll of a drain and its reply, exit by exit.
use Rattle.std.proofs.Common.{◌≡◌, ℕ, List, Option, None, Result, Ok, Err, ap, sym, subst, ◌∙◌}
use Rattle.chk_bytes.specs.declared.NoMemory.{NoMemory as Wanting}
use Rattle.chk_site.specs.declared.acts.Who.{Who}
use Rattle.chk_site.specs.History.{History}
use Rattle.chk_site.specs.Site.{Adds}
use Rattle.chk_site.specs.Runs.{Leads}
use Rattle.chk_world.specs.Places.{As}
use Rattle.chk_agent_delivery.specs.declared.answers.Posted.{Posted}
use Rattle.chk_agent_delivery.specs.declared.answers.Posted.TheVariants.{Sent, Failed as post_failed}
use Rattle.chk_agent_delivery.specs.declared.answers.Answered.{Answered}
use Rattle.chk_agent_delivery.specs.declared.answers.Answered.TheVariants.{Taken, Refused, Silent, Nothing}
use Rattle.chk_agent_delivery.specs.declared.answers.Polled.{Polled}
use Rattle.chk_agent_delivery.specs.declared.answers.Polled.TheVariants.{Sent as poll_sent, Failed as poll_failed}
use Rattle.chk_agent_delivery.specs.declared.answers.PollAnswer.{PollAnswer}
use Rattle.chk_agent_delivery.specs.declared.answers.PollAnswer.TheVariants.{Lengths, Refused as poll_refused, Silent as poll_silent, Nothing as no_poll}
use Rattle.chk_agent_delivery.specs.States.{State as Delivery}
use Rattle.chk_agent_delivery.specs.Scripts as script
use Rattle.chk_agent_delivery.specs.Scripts.{IsPosted, IsPostReplied, IsPolled, IsPollReplied, TakesPostReply, TakesPollReply}
use Rattle.chk_agent_delivery.specs.declared.answers.Below.{Below}
use Rattle.chk_agent.specs.declared.answers.AgentFault.{AgentFault}
use Rattle.chk_agent_drain.specs.declared.tries.Miss.{Miss}
use Rattle.chk_agent_drain.specs.declared.tries.Miss.TheVariants.{Unsent, Silent as no_reply, Refused as other_reply}
use Rattle.chk_agent.specs.States.{State, process}
use Rattle.chk_agent.specs.Facts.{Matches}
use Rattle.chk_agent.specs.Turns.{Posts, GetsPostReply, Polls, GetsLengths, as_agent}
use Rattle.chk_agent_drain.specs.Drains as drain
use Rattle.chk_agent_drain.specs.Drains.{Wants}
use Rattle.chk_agent_drain.specs.Parts as once
use Rattle.chk_agent_drain.specs.Parts.{PostsOnce, PollsOnce}
use Rattle.chk_agent.proofs.TurningFaults.{is_wanting}
use Rattle.chk_agent.proofs.TurningTold.{TalksOn, IsSameAgent, talking_as, talks_then}

-- a good answer is one of the call below
pub given_ok : {T : Type 0} (value : T) (given : Result T Wanting) → Ok value ≡ as_agent given
    → given ≡ Ok value
given_ok value (Ok other) e = ap Ok (let v : other ≡ value = cc in v)
given_ok value (Err fault) e = absurd (let z : ⊥ = cc in z)

-- ---- a post

out_of : {who : Who} {d e : Delivery} {given : Result Posted Wanting} {old new : Option History}
    (n : ℕ) → IsPosted who d given e old new → given ≡ Ok (Sent n) → e.post ≡ None → ⊥
out_of n (script.empty is) g out = let z : ⊥ = cc in z
out_of n (script.no_rows some is) g out = let z : ⊥ = cc in z
out_of n (script.sent front bytes m is written call) g out = let z : ⊥ = cc in z
out_of n (script.failed front bytes is written call) g out = let z : ⊥ = cc in z
out_of n (script.unsent fault) g out = let z : ⊥ = cc in z
out_of n (script.refused fault front bytes is written call) g out = let z : ⊥ = cc in z

not_nothing : {now count : ℕ} {bytes : List ℕ} {d e : Delivery} {answer : Answered}
    → TakesPostReply now count bytes d answer e → answer ≡ Nothing → ⊥
not_nothing (script.good acks is few) e = let z : ⊥ = cc in z
not_nothing (script.bad code other is) e = let z : ⊥ = cc in z

none_out : {who : Who} {now : ℕ} {d e : Delivery} {given : Result Answered Wanting} {old new :
    Option History} → IsPostReplied who now d given e old new → given ≡ Ok Nothing → d.post ≡ None
none_out (script.nothing is) g = is
none_out (script.got {answer = answer} p bytes is call takes) g =
    absurd (not_nothing takes (let v : answer ≡ Nothing = cc in v))
none_out (script.silent p is call) g = absurd (let z : ⊥ = cc in z)
none_out (script.wanting fault p is call) g = absurd (let z : ⊥ = cc in z)

-- the reply to a post that was sent is asked for
pub post_answered : (now : ℕ) (s t u : State) (posted : Posted) (n : ℕ) (answered : Answered)
    {old mid new : Option History} → Posts s (Ok posted) t old mid → posted ≡ Sent n
    → GetsPostReply now t (Ok answered) u mid new → answered ≡ Nothing → ⊥
post_answered now s t u posted n answered posts is replies none =
    out_of n posts.made (given_ok posted posts.given posts.result_is ∙ ap Ok is)
    (ap (λ (k : State). k.delivery.post) (sym posts.state_is)
    ∙ none_out replies.made (given_ok answered replies.given replies.result_is ∙ ap Ok none))

-- ---- a poll

asked_of : {who : Who} {d e : Delivery} {given : Result Polled Wanting} {old new : Option History}
    (n : ℕ) → IsPolled who d given e old new → given ≡ Ok (poll_sent n) → e.poll ≡ None → ⊥
asked_of n (script.none is) g out = let z : ⊥ = cc in z
asked_of n (script.sent bytes m written call) g out = let z : ⊥ = cc in z
asked_of n (script.failed bytes written call) g out = let z : ⊥ = cc in z
asked_of n (script.unsent fault) g out = let z : ⊥ = cc in z
asked_of n (script.refused fault bytes written call) g out = let z : ⊥ = cc in z

no_lengths : {stems : _} {bytes : List ℕ} {d e : Delivery} {answer : PollAnswer}
    → TakesPollReply stems bytes d answer e → answer ≡ no_poll → ⊥
no_lengths (script.good lengths is for sees) e = let z : ⊥ = cc in z
no_lengths (script.bad code other is) e = let z : ⊥ = cc in z

none_asked : {who : Who} {d e : Delivery} {given : Result PollAnswer Wanting} {old new : Option
    History} → IsPollReplied who d given e old new → given ≡ Ok no_poll → d.poll ≡ None
none_asked (script.nothing is) g = is
none_asked (script.got {answer = answer} p bytes is call takes) g =
    absurd (no_lengths takes (let v : answer ≡ no_poll = cc in v))
none_asked (script.silent p is call) g = absurd (let z : ⊥ = cc in z)
none_asked (script.wanting fault p is call) g = absurd (let z : ⊥ = cc in z)

-- the reply to a poll that was sent is asked for
pub poll_answered : (s t u : State) (polled : Polled) (n : ℕ) (answer : PollAnswer)
    {old mid new : Option History} → Polls s (Ok polled) t old mid → polled ≡ poll_sent n
    → GetsLengths t (Ok answer) u mid new → answer ≡ no_poll → ⊥
poll_answered s t u polled n answer polls is lengths none =
    asked_of n polls.made (given_ok polled polls.given polls.result_is ∙ ap Ok is)
    (ap (λ (k : State). k.delivery.poll) (sym polls.state_is)
    ∙ none_asked lengths.made (given_ok answer lengths.given lengths.result_is ∙ ap Ok none))

-- ---- what they lead to

pub replied_told : (s t u : State) {old mid new : Option History} → IsSameAgent s t
    → TalksOn s t old mid
    → ((stamped : List (List ℕ)) → Adds mid new (Leads (As stamped (process t)) (Matches stamped t)
    (Matches stamped u)))
    → TalksOn s u old new
replied_told s t u same first second =
    talks_then s t u same first (λ stamped. talking_as (process t) stamped (second stamped))

-- ---- which exit it is

module _ (now : ℕ) (s t : State) {old mid : Option History} where
  pub unposted_at : (fault : AgentFault) (result : Result (Result (Unit {0}) Miss) AgentFault)
      → result ≡ Err fault → Posts s (Err fault) t old mid → PostsOnce now s result t old mid
  unposted_at fault result ends posts =
      let wants = is_wanting posts.given fault posts.result_is in
      subst (λ r. PostsOnce now s r t old mid) (sym (ends ∙ ap Err wants))
      (once.wanting (drain.post (subst (λ f. Posts s (Err f) t old mid) wants posts)))

  module _ (posted : Posted) (posts : Posts s (Ok posted) t old mid) where
    pub unsent_at : posted ≡ post_failed → PostsOnce now s (Ok (Err Unsent)) t old mid
    unsent_at is = once.unsent (subst (λ p. Posts s (Ok p) t old mid) is posts)

    module _ (n : ℕ) (is : posted ≡ Sent n) where
      sent_at : Posts s (Ok (Sent n)) t old mid
      sent_at = subst (λ p. Posts s (Ok p) t old mid) is posts

      module _ (u : State) {new : Option History} where
        pub unreplied_at : (fault : AgentFault)
            (result : Result (Result (Unit {0}) Miss) AgentFault)
            → result ≡ Err fault → GetsPostReply now t (Err fault) u mid new
            → PostsOnce now s result u old new
        unreplied_at fault result ends replies =
            let wants = is_wanting replies.given fault replies.result_is in
            subst (λ r. PostsOnce now s r u old new) (sym (ends ∙ ap Err wants))
            (once.wanting (drain.post_reply n sent_at
            (subst (λ f. GetsPostReply now t (Err f) u mid new) wants replies)))

        module _ (answered : Answered) (replies : GetsPostReply now t (Ok answered) u mid new) where
          as_is : (a : Answered) → answered ≡ a → GetsPostReply now t (Ok a) u mid new
          as_is a e = subst (λ k. GetsPostReply now t (Ok k) u mid new) e replies

          pub taken_at : (m : ℕ) → answered ≡ Taken m → PostsOnce now s (Ok (Ok tt)) u old new
          taken_at m e = once.good n m sent_at (as_is (Taken m) e)

          pub refused_at : (code : ℕ) → answered ≡ Refused code
              → PostsOnce now s (Ok (Err (other_reply code))) u old new
          refused_at code e = once.refused n code sent_at (as_is (Refused code) e)

          pub silent_at : answered ≡ Silent → PostsOnce now s (Ok (Err no_reply)) u old new
          silent_at e = once.silent n sent_at (as_is Silent e)

module _ (now : ℕ) (s t : State) {old mid : Option History} where
  pub unasked_at : (fault : AgentFault) (result : Result (Result (Option Below) Miss) AgentFault)
      → result ≡ Err fault → Polls s (Err fault) t old mid → PollsOnce now s result t old mid
  unasked_at fault result ends polls =
      let wants = is_wanting polls.given fault polls.result_is in
      subst (λ r. PollsOnce now s r t old mid) (sym (ends ∙ ap Err wants))
      (once.wanting (drain.poll (subst (λ f. Polls s (Err f) t old mid) wants polls)))

  module _ (polled : Polled) (polls : Polls s (Ok polled) t old mid) where
    pub poll_unsent_at : polled ≡ poll_failed → PollsOnce now s (Ok (Err Unsent)) t old mid
    poll_unsent_at is = once.unsent (subst (λ p. Polls s (Ok p) t old mid) is polls)

    module _ (n : ℕ) (is : polled ≡ poll_sent n) where
      asked_at : Polls s (Ok (poll_sent n)) t old mid
      asked_at = subst (λ p. Polls s (Ok p) t old mid) is polls

      module _ (u : State) {new : Option History} where
        pub untold_at : (fault : AgentFault)
            (result : Result (Result (Option Below) Miss) AgentFault)
            → result ≡ Err fault → GetsLengths t (Err fault) u mid new
            → PollsOnce now s result u old new
        untold_at fault result ends lengths =
            let wants = is_wanting lengths.given fault lengths.result_is in
            subst (λ r. PollsOnce now s r u old new) (sym (ends ∙ ap Err wants))
            (once.wanting (drain.poll_reply n asked_at
            (subst (λ f. GetsLengths t (Err f) u mid new) wants lengths)))

        module _ (answer : PollAnswer) (lengths : GetsLengths t (Ok answer) u mid new) where
          so : (a : PollAnswer) → answer ≡ a → GetsLengths t (Ok a) u mid new
          so a e = subst (λ k. GetsLengths t (Ok k) u mid new) e lengths

          pub lengths_at : (m : ℕ) (below : Option Below) → answer ≡ Lengths m below
              → PollsOnce now s (Ok (Ok below)) u old new
          lengths_at m below e = once.good n m below asked_at (so (Lengths m below) e)

          pub poll_refused_at : (code : ℕ) → answer ≡ poll_refused code
              → PollsOnce now s (Ok (Err (other_reply code))) u old new
          poll_refused_at code e = once.refused n code asked_at (so (poll_refused code) e)

          pub poll_silent_at : answer ≡ poll_silent → PollsOnce now s (Ok (Err no_reply)) u old new
          poll_silent_at e = once.silent n asked_at (so poll_silent e)
