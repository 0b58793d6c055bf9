-- What a request comes to.
use Rattle.chk_collector.specs.Answering.{Taken, taken_with}
use Rattle.chk_collector.specs.Handled.{Puts, PutsThen, OfPosts, OfPoll, OfRequest, LeavesUnanswered, Unanswered}
use Rattle.chk_sink.proofs.Owned.{works_harmless, put_harmless}
use Rattle.chk_sink.proofs.Holding.{leads_by}
use Rattle.chk_world.proofs.Working.{works_as, works_fine}
use Rattle.chk_world.specs.Works.{Works, rests}
use Rattle.chk_world.specs.Places.{As}
use Rattle.chk_world.specs.Collectors.{Appended, Handling}
use Rattle.chk_site.specs.Runs.{Leads}
use Rattle.chk_site.specs.Acts.{Deed}
use Rattle.chk_site.specs.declared.acts.ActAnswer.{ActAnswer}
use Rattle.chk_site.specs.declared.acts.OutsideFault.{OutsideFault}
use Rattle.chk_site.specs.declared.acts.Who.{Who}
use Rattle.std.proofs.Common.{◌≡◌, inl, inr, ℕ, List, Option, Some, Result, Ok, Err, refl, ap, subst, ◌∙◌, true, None, ◌∷◌, length}
use Rattle.std.specs.Prelude.{IfOk, IfErr}
use Rattle.std.proofs.lemmas.Result.{IfOk-weaker}
use Rattle.chk_bytes.specs.Stems.{Stem}
use Rattle.chk_site.specs.History.{History}
use Rattle.chk_site.specs.Site.{Adds}
use Rattle.chk_site.proofs.Runs.{adds_as, adds_none}
use Rattle.chk_chunk.specs.declared.faults.ChunkFault.{ChunkFault}
use Rattle.chk_chunk.specs.Keys.{Chunk}
use Rattle.chk_chunk.specs.Posts.{IsPost}
use Rattle.chk_chunk.specs.Faults.{post_fault}
use Rattle.chk_http_grammar.specs.Messages.{PostRequest, PollRequest, IsPostOf, written_reply}
use Rattle.chk_http_grammar.proofs.Accepted.{PostRequest-same}
use Rattle.chk_http.specs.declared.fault.HttpFault.{HttpFault}
use Rattle.chk_http.specs.Faults.{fault_code, fault_name}
use Rattle.chk_http.specs.Written.{phrase_of}
use Rattle.chk_sink.specs.declared.fault.SinkFault.{SinkFault}
use Rattle.chk_sink.specs.declared.fault.SinkFault.TheVariants.{Outside, Damaged, Spent, NoMemory}
use Rattle.chk_sink.specs.Faults.{SinkCause, FailsLast, ended_by}
use Rattle.chk_sink.specs.Damage.{DamageCause, damage_by, damage_in}
use Rattle.chk_sink.specs.States.{State, process}
use Rattle.chk_sink.specs.Closes.{OnceDone}
use Rattle.chk_sink.specs.Asked.{IsOfQuestion}
use Rattle.chk_collector.specs.Outcomes.{Refused, BadPost, Lines, Fails, RefusedBy, MayFail, OutcomeLast, OutcomeDamage, OutcomeSpent, Replied, chunk_fault_name, line, OutcomeActs, OutcomeSound}
use Rattle.chk_collector.specs.Posting.{HasLineEach, IsOfPut}
use Rattle.chk_collector.specs.Polling.{HasLineOf, CountedAll}
use Rattle.chk_collector.specs.Replies.{MayHaveRisen, IsTold, IsReplyBy}
use Rattle.chk_collector.proofs.LeastLines.{poll_least, post_least}
use Rattle.chk_collector.specs.Passing.{PutsLeaveFull}
use Rattle.chk_collector.proofs.MayReply.{are_posted}
use Rattle.chk_site.proofs.Leads.{leads_as}
use Rattle.chk_collector.proofs.OwnLines.{poll_of_start}

-- ---- a post

post_may_fail : (request : List ℕ) (chunks : List Chunk) (fault : SinkFault) → IsPostOf chunks request → IsOfPut fault → IsTold (Err fault) → MayFail request fault
post_may_fail request chunks (Outside call) post of_put told = inl (post.0, post.1)
post_may_fail request chunks (Damaged name at) post of_put told = absurd of_put
post_may_fail request chunks (Spent born) post of_put told = (chunks, post)
post_may_fail request chunks NoMemory post of_put told = told

-- a put shows no damage
posts_harmless : (s : State) (call : Deed) → OfPosts s call → (answer : ActAnswer) → damage_by true call answer ≡ None
posts_harmless s call may = put_harmless may.1 call may.3

by_no_damage : (done : Result (Unit {0}) SinkFault) (added history : History) → IfErr done IsOfPut → damage_in added ≡ None → DamageCause done added history
by_no_damage (Ok value) added history of_put none = none
by_no_damage (Err (Damaged name at)) added history of_put none = absurd of_put
by_no_damage (Err NoMemory) added history of_put none = tt
by_no_damage (Err fault) added history of_put none = none

post_damages : (s : State) (done : Result (Unit {0}) SinkFault) {who : Who} {old new : Option History} → IfErr done IsOfPut
    → Works who (OfPosts s) (ended_by done) old new → Adds old new (DamageCause done)
post_damages s done of_put own =
    adds_as (DamageCause done) (works_harmless (posts_harmless s) own) (λ a h none. by_no_damage done a h of_put none)

post_sound : (request : List ℕ) (s : State) (before after : Option History) (fault : SinkFault) → IsOfPut fault
    → OutcomeSound request s before after (Fails fault)
post_sound request s before after (Damaged name at) of_put = absurd of_put
post_sound request s before after fault of_put = tt

-- the calls of a post, and of a poll
pub post_own : {fault : Option OutsideFault} {who : Who} (request : List ℕ) (chunks : List Chunk) (s : State) {old new : Option History}
    → IsPostOf chunks request → Works who (OfPosts s) fault old new → Works who (OfRequest request s) fault old new
post_own request chunks s post own = works_as (OfRequest request s) (λ call may. inl (chunks, post, may)) own

pub poll_own : {fault : Option OutsideFault} {who : Who} (request : List ℕ) (stems : List Stem) (s : State) {old new : Option History}
    → PollRequest stems request → Works who (OfPoll stems) fault old new → Works who (OfRequest request s) fault old new
poll_own request stems s poll own = works_as (OfRequest request s) (λ call may. inr (stems, poll, may)) own

-- no memory for the reply to a post
pub post_unanswered : {E : Type 0} (request : List ℕ) (chunks : List Chunk) (old new : State) (done : Result (Unit {0}) SinkFault)
    (result : Result (List ℕ) E) {told_before told_after : Option History} → IsPostOf chunks request
    → OnceDone done (Puts (length chunks) old new) → IfErr done (PutsThen (length chunks) old new) → Works (process old) (OfPosts old) (ended_by done) told_before told_after
    → IfErr result (λ e. Unanswered request old new told_before told_after)
post_unanswered request chunks old new done (Ok reply) post puts leaves own = tt
post_unanswered request chunks old new done (Err e) post puts leaves own =
    record { done = done; own = post_own request chunks old post own; state = by done puts leaves }
  where
    by : (done : Result (Unit {0}) SinkFault) → OnceDone done (Puts (length chunks) old new) → IfErr done (PutsThen (length chunks) old new)
        → LeavesUnanswered request old new done
    by (Ok value) puts leaves = inr (chunks, post, puts)
    by (Err why) puts leaves = inr (chunks, post, leaves)

-- to a poll
pub poll_unanswered : {E : Type 0} (request : List ℕ) (stems : List Stem) (s : State) (done : Result (Unit {0}) SinkFault)
    (result : Result (List ℕ) E) {told_before told_after : Option History} → PollRequest stems request
    → Works (process s) (OfPoll stems) (ended_by done) told_before told_after
    → IfErr result (λ e. Unanswered request s s told_before told_after)
poll_unanswered request stems s done (Ok reply) poll own = tt
poll_unanswered request stems s done (Err e) poll own =
    record { done = done; own = poll_own request stems s poll own; state = by done }
  where
    by : (done : Result (Unit {0}) SinkFault) → LeavesUnanswered request s s done
    by (Ok value) = inl refl
    by (Err why) = inl refl

-- to a request that is refused
pub refused_unanswered : {E : Type 0} (request : List ℕ) (s : State) (result : Result (List ℕ) E) (told : Option History)
    → IfErr result (λ e. Unanswered request s s told told)
refused_unanswered request s (Ok reply) told = tt
refused_unanswered request s (Err e) told = record { done = Ok tt; own = rests; state = inl refl }

pub post_replied : {E : Type 0} (request : List ℕ) (chunks : List Chunk) (old new : State) (before now : ℕ) (told_before told_after : Option History)
    (lines : List ℕ) (done : Result (Unit {0}) SinkFault) (result : Result (List ℕ) E) → IsPostOf chunks request
    → OnceDone done (HasLineEach new chunks lines) → OnceDone done (Puts (length chunks) old new) → IfErr done (PutsThen (length chunks) old new)
    → OnceDone done (PutsLeaveFull old new chunks told_before told_after)
    → Works (process old) (OfPosts old) (ended_by done) told_before told_after
    → IfErr done IsOfPut → IfErr done (λ fault. OutcomeSpent old new (Fails fault))
    → Adds told_before told_after (FailsLast done) → SinkCause before now done
    → IfOk result (IsReplyBy done lines)
    → IfOk result (Replied request old new before now told_before told_after)
post_replied request chunks old new before now told_before told_after lines (Ok value) result post each puts leaves full own of_put spent last cause written =
    IfOk-weaker result _ (Replied request old new before now told_before told_after)
    (λ reply is. record {
      outcome = Lines each.acks;
      is = is.is ∙ ap (λ t. written_reply 200 (phrase_of 200) t) each.lines_are;
      by_bytes = inl (chunks, post, each.as_many);
      cause = cause;
      last = adds_as (OutcomeLast (Lines each.acks)) last (λ a h x. tt);
      damaged = post_damages old (Ok value) tt own;
      spent = tt;
      untouched = tt;
      own = post_own request chunks old post own;
      acts = works_fine own;
      state = inl (chunks, post, puts, each.place);
      sound = tt;
      least = post_least request old each.acks chunks told_before told_after post;
      full = λ stamped t earlier others.
          full stamped (taken_with t request earlier ∷ others)
          (are_posted t request earlier others chunks post);
      of_start = λ cs p. each.of_start;
    }) written
post_replied request chunks old new before now told_before told_after lines (Err fault) result post each puts leaves full own of_put spent last cause written =
    IfOk-weaker result _ (Replied request old new before now told_before told_after)
    (λ reply is. record {
      outcome = Fails fault;
      is = is.is;
      by_bytes = post_may_fail request chunks fault post of_put is.told;
      cause = cause;
      last = last;
      damaged = post_damages old (Err fault) of_put own;
      spent = spent;
      untouched = tt;
      own = post_own request chunks old post own;
      acts = last;
      state = inl (chunks, post, leaves);
      sound = post_sound request old told_before told_after fault of_put;
      least = tt;
      full = tt;
      of_start = tt;
    }) written

-- ---- a poll

poll_may_fail : (request : List ℕ) (stems : List Stem) (fault : SinkFault) → PollRequest stems request → IsOfQuestion fault → IsTold (Err fault) → MayFail request fault
poll_may_fail request stems (Outside call) poll of_question told = inr (stems, poll)
poll_may_fail request stems (Damaged name at) poll of_question told = (stems, poll)
poll_may_fail request stems (Spent born) poll of_question told = absurd of_question
poll_may_fail request stems NoMemory poll of_question told = told

-- what the questions of a poll lead to, by the history before them
abbrev pub PollTold : List ℕ → State → List Stem → List ℕ → Result (Unit {0}) SinkFault → Option History → Option History → Type 0
PollTold request s stems lines done before after =
    (stamped : List (List ℕ)) (t : ℕ) (earlier : List Appended) (others : List Handling)
    → Adds before after (Leads (As stamped (process s)) (Taken stamped s t request earlier others)
    (CountedAll stamped s (taken_with t request earlier ∷ others) t stems lines done))

poll_sound : (request : List ℕ) (s : State) (stems : List Stem) (lines : List ℕ) (before after : Option History) (fault : SinkFault)
    → PollTold request s stems lines (Err fault) before after → OutcomeSound request s before after (Fails fault)
poll_sound request s stems lines before after (Damaged name at) told = λ stamped t earlier others.
    leads_by (λ h q. q.sound) (told stamped t earlier others)
poll_sound request s stems lines before after fault told = tt

poll_spends : (s : State) (fault : SinkFault) → IsOfQuestion fault → OutcomeSpent s s (Fails fault)
poll_spends s (Spent born) of_question = absurd of_question
poll_spends s fault of_question = tt

pub poll_replied : {E : Type 0} (request : List ℕ) (stems : List Stem) (s : State) (before now : ℕ) (told_before told_after : Option History)
    (lines : List ℕ) (done : Result (Unit {0}) SinkFault) (result : Result (List ℕ) E) → PollRequest stems request
    → PollTold request s stems lines done told_before told_after → Works (process s) (OfPoll stems) (ended_by done) told_before told_after
    → OnceDone done (HasLineOf (process s) stems lines told_before told_after) → IfErr done IsOfQuestion
    → Adds told_before told_after (DamageCause done) → Adds told_before told_after (FailsLast done) → SinkCause before now done
    → IfOk result (IsReplyBy done lines)
    → IfOk result (Replied request s s before now told_before told_after)
poll_replied request stems s before now told_before told_after lines (Ok value) result poll told own each of_question damaged last cause written =
    IfOk-weaker result _ (Replied request s s before now told_before told_after)
    (λ reply is. record {
      outcome = Lines each.acks;
      is = is.is ∙ ap (λ t. written_reply 200 (phrase_of 200) t) each.lines_are;
      by_bytes = inr (stems, poll, each.of_stems);
      cause = cause;
      last = adds_as (OutcomeLast (Lines each.acks)) last (λ a h x. tt);
      damaged = damaged;
      spent = tt;
      untouched = tt;
      own = poll_own request stems s poll own;
      acts = works_fine own;
      state = inr (stems, poll, refl);
      sound = tt;
      least = poll_least request s each.acks each.least;
      full = λ stamped t earlier others.
          leads_as (λ h x. x) (λ h x r left. inl left) (told stamped t earlier others);
      of_start = poll_of_start request s each.acks stems poll;
    }) written
poll_replied request stems s before now told_before told_after lines (Err fault) result poll told own each of_question damaged last cause written =
    IfOk-weaker result _ (Replied request s s before now told_before told_after)
    (λ reply is. record {
      outcome = Fails fault;
      is = is.is;
      by_bytes = poll_may_fail request stems fault poll of_question is.told;
      cause = cause;
      last = last;
      damaged = damaged;
      spent = poll_spends s fault of_question;
      untouched = tt;
      own = poll_own request stems s poll own;
      acts = last;
      state = inr (stems, poll, refl);
      sound = poll_sound request s stems lines told_before told_after fault told;
      least = tt;
      full = tt;
      of_start = tt;
    }) written

-- ---- a request that is refused

pub bad_post_replied : {E : Type 0} (request body : List ℕ) (fault : ChunkFault) (s : State) (count : ℕ) (told : Option History) (result : Result (List ℕ) E)
    → PostRequest body request → post_fault body ≡ Some fault → ((chunks : List Chunk) → IsPost chunks body → ⊥)
    → IfOk result (λ reply. reply ≡ written_reply 400 (phrase_of 400) (line (chunk_fault_name fault)))
    → IfOk result (Replied request s s count count told told)
bad_post_replied request body fault s count told result post first none written =
    IfOk-weaker result _ (Replied request s s count count told told)
    (λ reply is. record {
      outcome = BadPost fault;
      is = is;
      by_bytes = record {
        body = body;
        request = post;
        first = first;
        no_post = λ chunks p. none chunks (subst (λ (b : List ℕ). IsPost chunks b) (PostRequest-same p.0 body request p.1 post) p.2);
      };
      cause = refl;
      last = adds_none told (OutcomeLast (BadPost fault)) (λ h. tt);
      damaged = adds_none told (OutcomeDamage (BadPost fault)) (λ h. refl);
      own = rests;
      acts = adds_none told (OutcomeActs (BadPost fault)) (λ h. refl);
      state = refl;
      sound = tt;
      least = tt;
      full = tt;
      of_start = tt;
      spent = tt;
      untouched = (refl, refl);
    }) written

pub refused_replied : {E : Type 0} (request : List ℕ) (fault : HttpFault) (s : State) (count : ℕ) (told : Option History) (result : Result (List ℕ) E)
    → RefusedBy request fault
    → IfOk result (λ reply. reply ≡ written_reply (fault_code fault) (phrase_of (fault_code fault)) (line (fault_name fault)))
    → IfOk result (Replied request s s count count told told)
refused_replied request fault s count told result refused written =
    IfOk-weaker result _ (Replied request s s count count told told)
    (λ reply is. record {
      outcome = Refused fault;
      is = is;
      by_bytes = refused;
      cause = refl;
      last = adds_none told (OutcomeLast (Refused fault)) (λ h. tt);
      damaged = adds_none told (OutcomeDamage (Refused fault)) (λ h. refl);
      own = rests;
      acts = adds_none told (OutcomeActs (Refused fault)) (λ h. refl);
      state = refl;
      sound = tt;
      least = tt;
      full = tt;
      of_start = tt;
      spent = tt;
      untouched = (refl, refl);
    }) written

-- ---- without memory for a reply

pub may_have_risen : {E : Type 0} (before now : ℕ) (done : Result (Unit {0}) SinkFault) (result : Result (List ℕ) E) → SinkCause before now done
    → IfErr result (λ e. MayHaveRisen before now)
may_have_risen before now done (Ok reply) cause = tt
may_have_risen before now (Ok value) (Err e) cause = inl cause
may_have_risen before now (Err (Outside call)) (Err e) cause = inr cause
may_have_risen before now (Err fault) (Err e) cause = inl cause

pub has_not_risen : {E : Type 0} (count : ℕ) (result : Result (List ℕ) E) → IfErr result (λ e. MayHaveRisen count count)
has_not_risen count (Ok reply) = tt
has_not_risen count (Err e) = inl refl
