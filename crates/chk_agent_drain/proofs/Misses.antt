-- Tries in a row without a good reply: the calls that failed among them.
use Rattle.std.proofs.Common.{◌≡◌, ℕ, ◌≤◌, true, [], Option, Some, None, Result, Ok, Err, sym, subst, ◌∙◌, refl, arith, true≢false}
use Rattle.chk_site.specs.declared.acts.Call.{Call}
use Rattle.chk_site.specs.History.{History}
use Rattle.chk_site.specs.Site.{Adds, Rose}
use Rattle.chk_site.proofs.Runs.{adds_as}
use Rattle.chk_agent_delivery.specs.declared.answers.Posted.{Posted}
use Rattle.chk_agent_delivery.specs.declared.answers.Posted.TheVariants.{Failed as post_failed}
use Rattle.chk_agent_delivery.specs.declared.answers.Answered.{Answered}
use Rattle.chk_agent_delivery.specs.declared.answers.Answered.TheVariants.{Silent}
use Rattle.chk_agent_delivery.specs.declared.answers.Polled.{Polled}
use Rattle.chk_agent_delivery.specs.declared.answers.Polled.TheVariants.{Failed as poll_failed}
use Rattle.chk_agent_delivery.specs.declared.answers.PollAnswer.{PollAnswer}
use Rattle.chk_agent_delivery.specs.declared.answers.PollAnswer.TheVariants.{Silent as poll_silent}
use Rattle.chk_agent_delivery.specs.Scripts.{CauseBy}
use Rattle.chk_agent.specs.Faults.{fails_answer, fails_lengths, fails_poll, fails_post}
use Rattle.chk_agent.specs.declared.answers.AgentFault.{AgentFault}
use Rattle.chk_agent.specs.declared.answers.AgentFault.TheVariants.{Outside, NoMemory}
use Rattle.chk_agent.specs.States.{State}
use Rattle.chk_agent_drain.specs.declared.answers.Drained.{Drained}
use Rattle.chk_agent_drain.specs.declared.answers.Drained.TheVariants.{AllTried}
use Rattle.chk_agent_drain.specs.declared.tries.Miss.{Miss}
use Rattle.chk_agent_drain.specs.declared.tries.Miss.TheVariants.{Unsent, Silent as no_reply, Refused as other_reply}
use Rattle.chk_agent_drain.specs.declared.tries.Tries.{Tries}
use Rattle.chk_agent_drain.specs.Drains.{Progress, tried_answer}
use Rattle.chk_agent_drain.specs.Parts.{AreTries, EndCause, EndsLast, IsTalk, MissCause, RoseIf, SameReading, Talks, failed_by, missed}
use Rattle.chk_agent_drain.proofs.Joining.{rose_then, rose_later}

pub missed_same : (miss : Miss) (p : Progress) → SameReading p (missed miss p)
missed_same Unsent p = record { reads = refl; ended = refl }
missed_same no_reply p = record { reads = refl; ended = refl }
missed_same (other_reply code) p = record { reads = refl; ended = refl }

pub missed_polls : (miss : Miss) (p : Progress) → (missed miss p).polls ≡ p.polls
missed_polls Unsent p = refl
missed_polls no_reply p = refl
missed_polls (other_reply code) p = refl

-- ---- what failed

pub talk_on : (miss : Miss) (failed : Option Call) → IsTalk failed → IsTalk (failed_by miss failed)
talk_on Unsent failed talk = refl
talk_on no_reply failed talk = refl
talk_on (other_reply code) failed talk = talk

rose_at_most : (failed : Option Call) (a b : ℕ) → RoseIf failed a b → a ≤ b
rose_at_most None a b rose = rose
rose_at_most (Some call) a b rose = rose.1

pub rose_on : (T : Type 0) (miss : Miss) (failed : Option Call) (a b c : ℕ) → RoseIf failed a b
    → MissCause {T = T} b c (Ok (Err miss)) → RoseIf (failed_by miss failed) a c
rose_on T Unsent failed a b c before more =
    let on = rose_at_most failed a b before in
    let later = more.1 in (rose_then a b c on more.0, omega (arith, on, later))
rose_on T no_reply failed a b c before more =
    let on = rose_at_most failed a b before in
    let later = more.1 in (rose_then a b c on more.0, omega (arith, on, later))
rose_on T (other_reply code) None a b c before more = omega (arith, before, more)
rose_on T (other_reply code) (Some call) a b c before more =
    let on = before.1 in (rose_later a b c before.0 more, omega (arith, on, more))

pub miss_on : (T : Type 0) (miss : Miss) (b c : ℕ) → MissCause {T = T} b c (Ok (Err miss)) → b ≤ c
miss_on T Unsent b c more = more.1
miss_on T no_reply b c more = more.1
miss_on T (other_reply code) b c more = more

-- ---- the count of faults behind each call

pub wants_cause : {T : Type 0} (a b : ℕ) (result : Result (Result T Miss) AgentFault)
    (fault : AgentFault)
    → result ≡ Err fault → a ≤ b → MissCause a b result
wants_cause a b result fault is on = subst (MissCause a b) (sym is) on

pub unsent_cause : (a b : ℕ) (posted : Posted) → posted ≡ post_failed
    → CauseBy a b (fails_post (Ok posted))
    → Rose a b × (a ≤ b)
unsent_cause a b posted is cause = subst (λ k. CauseBy a b (fails_post (Ok k))) is cause

pub silent_cause : (a b c : ℕ) (answered : Answered) → answered ≡ Silent → a ≤ b
    → CauseBy b c (fails_answer (Ok answered)) → Rose a c × (a ≤ c)
silent_cause a b c answered is on cause =
    let x : CauseBy b c true = subst (λ k. CauseBy b c (fails_answer (Ok k))) is cause in
    let more = x.1 in (rose_then a b c on x.0, omega (arith, on, more))

pub unasked_cause : (a b : ℕ) (polled : Polled) → polled ≡ poll_failed
    → CauseBy a b (fails_poll (Ok polled))
    → Rose a b × (a ≤ b)
unasked_cause a b polled is cause = subst (λ k. CauseBy a b (fails_poll (Ok k))) is cause

pub untold_cause : (a b c : ℕ) (answer : PollAnswer) → answer ≡ poll_silent → a ≤ b
    → CauseBy b c (fails_lengths (Ok answer)) → Rose a c × (a ≤ c)
untold_cause a b c answer is on cause =
    let x : CauseBy b c true = subst (λ k. CauseBy b c (fails_lengths (Ok k))) is cause in
    let more = x.1 in (rose_then a b c on x.0, omega (arith, on, more))

-- ---- where all were tried

abbrev answer_of : Progress → Option Call → Result Drained AgentFault
answer_of p failed = elim failed
    [ None ↦ Ok (AllTried p.tried p.code) | Some call ↦ Err (Outside call) ]

pub tried_cause : (tries : Tries) (p : Progress) (a c : ℕ) → AreTries tries p
    → RoseIf tries.failed a c
    → EndCause a c (Some (tried_answer p))
tried_cause tries p a c are rose =
    subst (λ o. EndCause a c (Some (answer_of p o))) (sym are.failed) (go tries.failed rose)
  where
    go : (o : Option Call) → RoseIf o a c → EndCause a c (Some (answer_of p o))
    go None rose = (rose, tt)
    go (Some call) rose = (rose, tt)

pub tried_last : (tries : Tries) (p : Progress) → AreTries tries p → IsTalk tries.failed
    → (added history : History)
    → EndsLast (Some (tried_answer p)) added history
tried_last tries p are talk added history =
    subst (λ o. EndsLast (Some (answer_of p o)) added history) (sym are.failed)
    (go tries.failed talk)
  where
    go : (o : Option Call) → IsTalk o → EndsLast (Some (answer_of p o)) added history
    go None talk = tt
    go (Some call) talk = λ other. absurd (true≢false (sym talk ∙ other))

-- ---- calls that are no last ones

pub last_none : (s t : State) {old new : Option History} → Talks s t old new
    → Adds old new (EndsLast None)
last_none s t talks = adds_as (EndsLast None) (talks []) (λ added h x. tt)

pub last_answer : (s t : State) (answer : Drained) {old new : Option History} → Talks s t old new
    → Adds old new (EndsLast (Some (Ok answer)))
last_answer s t answer talks = adds_as (EndsLast (Some (Ok answer))) (talks []) (λ added h x. tt)

pub last_wanting : (s t : State) {old new : Option History} → Talks s t old new
    → Adds old new (EndsLast (Some (Err NoMemory)))
last_wanting s t talks = adds_as (EndsLast (Some (Err NoMemory))) (talks []) (λ added h x. tt)
