-- An agent that was drained is of the same source.
use Rattle.std.proofs.Common.{◌≡◌, ℕ, Option, Result, ◌∙◌}
use Rattle.chk_site.specs.History.{History}
use Rattle.chk_agent.specs.declared.answers.AgentFault.{AgentFault}
use Rattle.chk_agent.specs.States.{State}
use Rattle.chk_agent.proofs.TurningTold.{lengths_same, polls_same, posts_same, replies_same}
use Rattle.chk_agent_drain.specs.declared.answers.Drained.{Drained}
use Rattle.chk_agent_drain.specs.Drains as drain
use Rattle.chk_agent_drain.specs.Drains.{Progress, Drains, IsDrained, PollGives, PollTries, PostTries, Wants}
use Rattle.chk_agent.proofs.Alike.{settled_source}
use Rattle.chk_agent_drain.proofs.Steps.{step_leaves}

post_tries : {now : ℕ} {p q : Progress} {s t : State} {old new : Option History}
    → PostTries now p s q t old new → t.source ≡ s.source
post_tries (drain.unsent may posts) = (posts_same posts).source
post_tries (drain.silent n may posts replies) = (replies_same replies).source
    ∙ (posts_same posts).source
post_tries (drain.refused n code may posts replies) =
    (replies_same replies).source ∙ (posts_same posts).source

poll_tries : {p q : Progress} {s t : State} {old new : Option History} → PollTries p s q t old new
    → t.source ≡ s.source
poll_tries (drain.unsent polls) = (polls_same polls).source
poll_tries (drain.silent n polls lengths) = (lengths_same lengths).source
    ∙ (polls_same polls).source
poll_tries (drain.refused n code polls lengths) =
    (lengths_same lengths).source ∙ (polls_same polls).source

poll_gives : {p q : Progress} {s t : State} {old new : Option History} → PollGives p s q t old new
    → t.source ≡ s.source
poll_gives (drain.given n m below polls lengths) =
    (lengths_same lengths).source ∙ (polls_same polls).source

wants : {now : ℕ} {s t : State} {old new : Option History} → Wants now s t old new
    → t.source ≡ s.source
wants (drain.post posts) = (posts_same posts).source
wants (drain.post_reply n posts replies) = (replies_same replies).source ∙ (posts_same posts).source
wants (drain.poll polls) = (polls_same polls).source
wants (drain.poll_reply n polls lengths) = (lengths_same lengths).source ∙ (polls_same polls).source

drains_source : {now reads polls : ℕ} {p : Progress} {s t : State}
    {result : Result Drained AgentFault}
    {old new : Option History} → Drains now reads polls p s result t old new → t.source ≡ s.source
drains_source (drain.read_on i n a at on left more steps rest) =
    drains_source rest ∙ (step_leaves steps at).source
drains_source (drain.growing i n a at on left last steps) = (step_leaves steps at).source
drains_source (drain.at_end i a at on left steps rest) = drains_source rest
    ∙ (step_leaves steps at).source
drains_source (drain.shrank i had is a at on left steps) = (step_leaves steps at).source
drains_source (drain.unread i a fault at on left steps) = (step_leaves steps at).source
drains_source (drain.posted n m may posts replies rest) =
    drains_source rest ∙ ((replies_same replies).source ∙ (posts_same posts).source)
drains_source (drain.unposted tries more rest) = drains_source rest ∙ post_tries tries
drains_source (drain.none_took tries all) = post_tries tries
drains_source (drain.polled may gives waits left pauses rest) =
    drains_source rest ∙ poll_gives gives
drains_source (drain.polled_last may gives none rest) = drains_source rest ∙ poll_gives gives
drains_source (drain.pending b may gives most is) = poll_gives gives
drains_source (drain.unpolled may tries more rest) = drains_source rest ∙ poll_tries tries
drains_source (drain.none_told may tries all) = poll_tries tries
drains_source (drain.unpaused given fault may gives waits left ends pauses) = poll_gives gives
drains_source (drain.wanting found_none) = wants found_none
drains_source (drain.unsettled fault ended none rows settled) = settled_source settled
drains_source (drain.done_all settled ended is all) = settled_source is

pub drained_source : {now reads polls : ℕ}
    (s : State) {t : State} {result : Result Drained AgentFault}
    {old new : Option History} → IsDrained now reads polls s result t old new → t.source ≡ s.source
drained_source s drains = drains_source drains
