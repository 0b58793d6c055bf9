-- What an exchange leaves of the agent.
use Rattle.std.proofs.Common.{◌≢◌, ℕ, List, [], Option, None, Result, Ok, refl, ap, ◌∙◌}
use Rattle.std.proofs.lemmas.Option.{none-some}
use Rattle.chk_bytes.specs.declared.NoMemory.{NoMemory as Wanting}
use Rattle.chk_site.specs.declared.acts.Who.{Who}
use Rattle.chk_site.specs.History.{History}
use Rattle.chk_site.specs.Site.{Adds}
use Rattle.chk_sink.specs.States.{State as Sinks}
use Rattle.chk_agent_delivery.specs.declared.answers.Answered.{Answered}
use Rattle.chk_agent_delivery.specs.declared.answers.PollAnswer.{PollAnswer}
use Rattle.chk_agent_delivery.specs.declared.answers.Polled.{Polled}
use Rattle.chk_agent_delivery.specs.declared.answers.Posted.{Posted}
use Rattle.chk_agent_delivery.specs.States.{State as Delivery}
use Rattle.chk_agent_delivery.specs.Scripts as script
use Rattle.chk_agent_delivery.specs.Scripts.{IsPolled, IsPollReplied, IsPosted, IsPostReplied}
use Rattle.chk_agent_delivery.specs.Turns.{asked_stems}
use Rattle.chk_agent.specs.declared.answers.AgentFault.{AgentFault}
use Rattle.chk_agent.specs.States.{State}
use Rattle.chk_agent.specs.Turns.{GetsLengths, GetsPostReply, Polls, Posts}
use Rattle.chk_agent_drain.specs.Parts as once
use Rattle.chk_agent_drain.specs.Parts.{PollsOnce, PostsOnce}
use Rattle.chk_agent_drain.proofs.Kept.{poll_good, post_good}
use Rattle.chk_exchange.specs.Exchanges as inside
use Rattle.chk_exchange.specs.Exchanges.{EndsPoll, EndsPost, PollsInside, PostsInside}
use Rattle.chk_round.specs.Polling.{PolledAll, PostedSome}

-- where no history is told, nothing is said of one
silent : {P : History → History → Type 0} → Adds None None P
silent = record { told = λ history e. absurd (none-some history e); untold = λ e. refl }

posted : {who : Who} {d e : Delivery} {given : Result Posted Wanting} {old new : Option History}
    → IsPosted who d given e old new → IsPosted who d given e None None
posted (script.empty is) = script.empty is
posted (script.no_rows some is) = script.no_rows some is
posted (script.sent front bytes m is written call) = script.sent front bytes m is written silent
posted (script.failed front bytes is written call) = script.failed front bytes is written silent
posted (script.unsent fault) = script.unsent fault
posted (script.refused fault front bytes is written call) = script.refused fault front bytes is written silent

replied : {who : Who} {now : ℕ} {d e : Delivery} {given : Result Answered Wanting} {old new : Option History}
    → IsPostReplied who now d given e old new → IsPostReplied who now d given e None None
replied (script.nothing is) = script.nothing is
replied (script.got p bytes is call takes) = script.got p bytes is silent takes
replied (script.silent p is call) = script.silent p is silent
replied (script.wanting fault p is call) = script.wanting fault p is silent

polled : {who : Who} {d e : Delivery} {given : Result Polled Wanting} {old new : Option History}
    → IsPolled who d given e old new → IsPolled who d given e None None
polled (script.none is) = script.none is
polled (script.sent bytes m written call) = script.sent bytes m written silent
polled (script.failed bytes written call) = script.failed bytes written silent
polled (script.unsent fault) = script.unsent fault
polled (script.refused fault bytes written call) = script.refused fault bytes written silent

answered : {who : Who} {d e : Delivery} {given : Result PollAnswer Wanting} {old new : Option History}
    → IsPollReplied who d given e old new → IsPollReplied who d given e None None
answered (script.nothing is) = script.nothing is
answered (script.got p bytes is call takes) = script.got p bytes is silent takes
answered (script.silent p is call) = script.silent p is silent
answered (script.wanting fault p is call) = script.wanting fault p is silent

posts : {s t : State} {result : Result Posted AgentFault} {old new : Option History} → Posts s result t old new
    → Posts s result t None None
posts p = record { given = p.given; delivery = p.delivery; made = posted p.made; result_is = p.result_is; state_is = p.state_is }

post_replies : {now : ℕ} {s t : State} {result : Result Answered AgentFault} {old new : Option History}
    → GetsPostReply now s result t old new → GetsPostReply now s result t None None
post_replies p = record { given = p.given; delivery = p.delivery; made = replied p.made; result_is = p.result_is; state_is = p.state_is }

polls : {s t : State} {result : Result Polled AgentFault} {old new : Option History} → Polls s result t old new
    → Polls s result t None None
polls p = record { given = p.given; delivery = p.delivery; made = polled p.made; result_is = p.result_is; state_is = p.state_is }

lengths : {s t : State} {result : Result PollAnswer AgentFault} {old new : Option History}
    → GetsLengths s result t old new → GetsLengths s result t None None
lengths p = record { given = p.given; delivery = p.delivery; made = answered p.made; result_is = p.result_is; state_is = p.state_is }

-- ---- an exchange that was answered

abbrev cluster_of : State → List ℕ
cluster_of s = s.cluster

pub posted_some : {who : Who} {now : ℕ} {s u : Sinks} {a b : State} {old new : Option History}
    → a.delivery.queue.chunks ≢ [] → PostsInside who now s a (Ok tt) u b old new → PostedSome a b
posted_some {now = now} {a = a} {b = b} some (inside.ended count made sent serves (inside.taken none replies)) =
    let good = post_good {now = now} {s = a} {t = b} some (once.good count count (posts sent) (post_replies replies)) refl in
    record {
      same = record {
        source = good.same.source;
        cluster = ap cluster_of replies.state_is ∙ ap cluster_of sent.state_is;
        ready = good.same.ready;
        rest = good.same.rest;
      };
      fewer = good.fewer;
    }

pub polled_all : {who : Who} {s u : Sinks} {a b : State} {old new : Option History}
    → asked_stems a.delivery.table ≢ [] → PollsInside who s a (Ok None) u b old new → PolledAll a b
polled_all {a = a} {b = b} some (inside.ended count made sent serves (inside.taken below none replies)) =
    let good = poll_good {now = 0} {s = a} {t = b} None some (once.good count count None (polls sent) (lengths replies)) refl in
    record {
      same = record {
        source = good.same.source;
        cluster = ap cluster_of replies.state_is ∙ ap cluster_of sent.state_is;
        ready = good.same.ready;
        rest = good.same.rest;
      };
      queue = good.queue;
      fewer = good.fewer refl;
    }
