-- An agent that was drained is ready still, but where the writing of its checkpoint was refused.
use Rattle.std.proofs.Common.{◌≡◌, ℕ, Option, Result, Ok, Err, ◌∙◌}
use Rattle.std.specs.Prelude.{IfOk}
use Rattle.chk_site.specs.History.{History}
use Rattle.chk_agent.specs.declared.answers.AgentFault.{AgentFault}
use Rattle.chk_agent.specs.States.{State}
use Rattle.chk_agent.proofs.TurningTold.{lengths_same, polls_same, posts_same, replies_same}
use Rattle.chk_agent_drain.specs.declared.answers.Drained.{Drained}
use Rattle.chk_agent_drain.specs.Drains as drain
use Rattle.chk_agent_drain.specs.Drains.{Progress, Drains, PollGives, PollTries, PostTries, tried_answer}
use Rattle.chk_agent_drain.proofs.Settled.{settled_ready}
use Rattle.chk_agent_drain.proofs.Steps.{step_leaves}

-- the later state is as ready, where the answer is Ok
abbrev Stays : Result Drained AgentFault → State → State → Type 0
Stays result s t = IfOk result (λ answer. t.ready ≡ s.ready)

stays : (result : Result Drained AgentFault) (s t : State) → t.ready ≡ s.ready → Stays result s t
stays (Ok answer) s t same = same
stays (Err fault) s t same = tt

stays_then : (result : Result Drained AgentFault) (s t u : State) → t.ready ≡ s.ready
    → Stays result t u → Stays result s u
stays_then (Ok answer) s t u same rest = rest ∙ same
stays_then (Err fault) s t u same rest = tt

post_tries : {now : ℕ} {p q : Progress} {s t : State} {old new : Option History}
    → PostTries now p s q t old new
    → t.ready ≡ s.ready
post_tries (drain.unsent may posts) = (posts_same posts).ready
post_tries (drain.silent n may posts replies) = (replies_same replies).ready ∙
    (posts_same posts).ready
post_tries (drain.refused n code may posts replies) = (replies_same replies).ready ∙
    (posts_same posts).ready

poll_tries : {p q : Progress} {s t : State} {old new : Option History} → PollTries p s q t old new
    → t.ready ≡ s.ready
poll_tries (drain.unsent polls) = (polls_same polls).ready
poll_tries (drain.silent n polls lengths) = (lengths_same lengths).ready ∙ (polls_same polls).ready
poll_tries (drain.refused n code polls lengths) = (lengths_same lengths).ready ∙
    (polls_same polls).ready

poll_gives : {p q : Progress} {s t : State} {old new : Option History} → PollGives p s q t old new
    → t.ready ≡ s.ready
poll_gives (drain.given n m below polls lengths) = (lengths_same lengths).ready ∙
    (polls_same polls).ready

pub drains_ready : {now reads polls : ℕ} {p : Progress} {s t : State}
    {result : Result Drained AgentFault}
    {old new : Option History} → Drains now reads polls p s result t old new
    → IfOk result (λ answer. t.ready ≡ s.ready)
drains_ready {s = s} {t = u} {result = result}
    (drain.read_on {t = t} i n a at on left more steps rest) =
    stays_then result s t u (step_leaves steps at).ready (drains_ready rest)
drains_ready (drain.growing i n a at on left last steps) = (step_leaves steps at).ready
drains_ready {s = s} {t = u} {result = result} (drain.at_end {t = t} i a at on left steps rest) =
    stays_then result s t u (step_leaves steps at).ready (drains_ready rest)
drains_ready (drain.shrank i had is a at on left steps) = (step_leaves steps at).ready
drains_ready (drain.unread i a fault at on left steps) = tt
drains_ready {s = s} {t = v} {result = result} (drain.posted {u = u} n m may posts replies rest) =
    stays_then result s u v ((replies_same replies).ready ∙ (posts_same posts).ready)
    (drains_ready rest)
drains_ready {s = s} {t = u} {result = result} (drain.unposted {t = t} tries more rest) =
    stays_then result s t u (post_tries tries) (drains_ready rest)
drains_ready {s = s} {t = t} (drain.none_took {q = q} tries all) = stays (tried_answer q) s t
    (post_tries tries)
drains_ready {s = s} {t = u} {result = result}
    (drain.polled {t = t} may gives waits left pauses rest) =
    stays_then result s t u (poll_gives gives) (drains_ready rest)
drains_ready {s = s} {t = u} {result = result} (drain.polled_last {t = t} may gives none rest) =
    stays_then result s t u (poll_gives gives) (drains_ready rest)
drains_ready (drain.pending b may gives most is) = poll_gives gives
drains_ready {s = s} {t = u} {result = result} (drain.unpolled {t = t} may tries more rest) =
    stays_then result s t u (poll_tries tries) (drains_ready rest)
drains_ready {s = s} {t = t} (drain.none_told {q = q} may tries all) = stays (tried_answer q) s t
    (poll_tries tries)
drains_ready (drain.unpaused given fault may gives waits left ends pauses) = tt
drains_ready (drain.wanting wants) = tt
drains_ready (drain.unsettled fault ended none rows settled) = tt
drains_ready (drain.done_all settled ended is all) = settled_ready is
