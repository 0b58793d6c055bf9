-- That the sinks of a start are spent, as an exchange tells it.
use Rattle.std.proofs.Common.{◌≡◌, ℕ, List, ◌++◌, Option, Some, None, Result, Ok, Err, refl, sym, subst, ◌∙◌}
use Rattle.std.proofs.lemmas.Option.{same_Some, none-some}
use Rattle.chk_bytes.specs.declared.NoMemory.{NoMemory as Wanting}
use Rattle.chk_site.specs.declared.acts.Who.{Who}
use Rattle.chk_site.specs.History.{History}
use Rattle.chk_site.specs.Site.{Adds}
use Rattle.chk_site.specs.Runs.{Leads}
use Rattle.chk_agent.proofs.TalkingTold.{ran_before}
use Rattle.chk_world.specs.Rules.{Legal}
use Rattle.chk_world.specs.Together.{IsByOne, Together}
use Rattle.chk_sink.specs.declared.fault.SinkFault.TheVariants.{Outside as sink_failed, Damaged as sink_damaged, Spent as sink_spent, NoMemory as sink_wanting}
use Rattle.chk_sink.specs.States.{State as Sinks, last_number, process}
use Rattle.chk_collector.specs.Outcomes.{Outcome, OutcomeSpent, Refused as was_refused, BadPost, Lines, Fails}
use Rattle.chk_agent_delivery.specs.declared.answers.Answered.{Answered}
use Rattle.chk_agent_delivery.specs.declared.answers.Below.{Below}
use Rattle.chk_agent_delivery.specs.declared.answers.PollAnswer.{PollAnswer}
use Rattle.chk_agent_delivery.specs.declared.answers.Polled.{Polled}
use Rattle.chk_agent_delivery.specs.declared.answers.Posted.{Posted}
use Rattle.chk_agent_delivery.specs.Scripts as script
use Rattle.chk_agent_delivery.specs.Scripts.{IsPolled, IsPollReplied, IsPosted, IsPostReplied}
use Rattle.chk_agent_delivery.specs.States.{State as Delivery}
use Rattle.chk_agent.specs.States.{State as Agents}
use Rattle.chk_exchange.specs.declared.fault.ExchangeFault.{ExchangeFault}
use Rattle.chk_exchange.specs.declared.fault.ExchangeFault.TheVariants.{Outside, NoMemory, Damaged, Spent, Refused}
use Rattle.chk_exchange.specs.Exchanges as inside
use Rattle.chk_exchange.specs.Exchanges.{EndsPoll, EndsPost, PollsInside, PostsInside, Responds, SendsPoll, SendsPost, Serves}
use Rattle.chk_exchange.specs.Faults.{IsMade}
use Rattle.chk_exchange.proofs.Ending.{IsOutside, serves_outside}
use Rattle.chk_round.specs.Joint.{BothAt}
use Rattle.chk_round.specs.Spent.{LastSink, ToldSpent, Goes, WhereRunning}
use Rattle.chk_archive.proofs.Uncounted.{same_number}
use Rattle.chk_round.proofs.Lasting.{went, went_none}
use Rattle.chk_exchange.proofs.Polling.{sends_outside as poll_unsent}
use Rattle.chk_exchange.proofs.Posting.{sends_outside as post_unsent}

-- ---- what an exchange tells

abbrev pub Tells : {T : Type 0} → Who → Sinks → Sinks → Result T ExchangeFault → Option History
    → Option History → Type 0
Tells who s t (Err (Spent n)) old new = ToldSpent who n s t old new
Tells who s t result old new = Unit {0}

tells_outside : (T : Type 0) (who : Who) (s t : Sinks) (fault : ExchangeFault)
    (old new : Option History) → IsOutside fault
    → Tells {T = T} who s t (Err fault) old new
tells_outside T who s t (Outside call) old new is = tt
tells_outside T who s t NoMemory old new is = tt
tells_outside T who s t (Damaged name at) old new is = tt
tells_outside T who s t (Spent n) old new is = absurd is
tells_outside T who s t (Refused code) old new is = tt

tells_made : (T : Type 0) {who : Who} {s t : Sinks} (fault : ExchangeFault)
    (made : Option ExchangeFault) {old mid next new : Option History}
    → made ≡ Some fault → Goes old mid → Serves who s (Ok made) t mid next → Goes next new
    → Tells {T = T} who s t (Err fault) old new
tells_made T (Outside call) made is sent serves got = tt
tells_made T NoMemory made is sent serves got = tt
tells_made T (Damaged name at) made is sent serves got = tt
tells_made T {who = who} {s = s} {t = t} (Spent n) made {mid = mid}
    {next = next} is sent serves got = record {
      mid = mid;
      next = next;
      sent = sent;
      served = subst (λ (m : Option ExchangeFault). Serves who s (Ok m) t mid next) is serves;
      got = got;
    }
tells_made T (Refused code) made is sent serves got = tt

-- ---- a post

posted : {who : Who} {d e : Delivery} {given : Result Posted Wanting} {old new : Option History}
    → IsPosted who d given e old new → Goes old new
posted (script.empty {now = now} is) = went_none now
posted (script.no_rows {now = now} some is) = went_none now
posted (script.sent front bytes m is written call) = went call
posted (script.failed front bytes is written call) = went call
posted (script.unsent {now = now} fault) = went_none now
posted (script.refused fault front bytes is written call) = went call

replied : {who : Who} {now : ℕ} {d e : Delivery} {given : Result Answered Wanting}
    {old new : Option History}
    → IsPostReplied who now d given e old new → Goes old new
replied (script.nothing {at = at} is) = went_none at
replied (script.got p bytes is call takes) = went call
replied (script.silent p is call) = went call
replied (script.wanting fault p is call) = went call

post_ended : {who : Who} {s u : Sinks} {now count : ℕ} {b c : Agents} {made : Option ExchangeFault}
    {result : Result (Unit {0}) ExchangeFault} {old mid next new : Option History}
    → Goes old mid → Serves who s (Ok made) u mid next → EndsPost now count b made result c next new
    → Tells who s u result old new
post_ended sent serves (EndsPost.ungot replies) = tt
post_ended sent serves (EndsPost.silent replies) = tt
post_ended sent serves (EndsPost.taken none replies) = tt
post_ended {made = made} sent serves (EndsPost.told fault answer some which replies) =
    tells_made (Unit {0}) fault made some sent serves (replied replies.made)
post_ended sent serves (EndsPost.refused code other replies) = tt

pub post_tells : {who : Who} {now : ℕ} {s t : Sinks} {a b : Agents}
    {result : Result (Unit {0}) ExchangeFault}
    {old new : Option History} → PostsInside who now s a result t b old new
    → Tells who s t result old new
post_tells {who = who} {s = s} {t = t} {old = old} {new = new}
    (inside.PostsInside.unsent fault sends) =
    tells_outside (Unit {0}) who s t fault old new (post_unsent sends)
post_tells {who = who} {s = s} {t = t} {old = old} {new = new}
    (inside.PostsInside.unserved count fault posts serves) =
    tells_outside (Unit {0}) who s t fault old new (serves_outside serves)
post_tells (inside.PostsInside.ended count made posts serves ends) = post_ended
    (posted posts.made) serves ends

-- ---- a poll

polled : {who : Who} {d e : Delivery} {given : Result Polled Wanting} {old new : Option History}
    → IsPolled who d given e old new → Goes old new
polled (script.none {now = now} is) = went_none now
polled (script.sent bytes m written call) = went call
polled (script.failed bytes written call) = went call
polled (script.unsent {now = now} fault) = went_none now
polled (script.refused fault bytes written call) = went call

answered : {who : Who} {d e : Delivery} {given : Result PollAnswer Wanting}
    {old new : Option History}
    → IsPollReplied who d given e old new → Goes old new
answered (script.nothing {at = at} is) = went_none at
answered (script.got p bytes is call takes) = went call
answered (script.silent p is call) = went call
answered (script.wanting fault p is call) = went call

poll_ended : {who : Who} {s u : Sinks} {count : ℕ} {b c : Agents} {made : Option ExchangeFault}
    {result : Result (Option Below) ExchangeFault} {old mid next new : Option History}
    → Goes old mid → Serves who s (Ok made) u mid next → EndsPoll count b made result c next new
    → Tells who s u result old new
poll_ended sent serves (EndsPoll.ungot replies) = tt
poll_ended sent serves (EndsPoll.silent replies) = tt
poll_ended sent serves (EndsPoll.taken below none replies) = tt
poll_ended {made = made} sent serves (EndsPoll.told fault answer some which replies) =
    tells_made (Option Below) fault made some sent serves (answered replies.made)
poll_ended sent serves (EndsPoll.refused code other replies) = tt

pub poll_tells : {who : Who} {s t : Sinks} {a b : Agents}
    {result : Result (Option Below) ExchangeFault}
    {old new : Option History} → PollsInside who s a result t b old new
    → Tells who s t result old new
poll_tells {who = who} {s = s} {t = t} {old = old} {new = new}
    (inside.PollsInside.unsent fault sends) =
    tells_outside (Option Below) who s t fault old new (poll_unsent sends)
poll_tells {who = who} {s = s} {t = t} {old = old} {new = new}
    (inside.PollsInside.unserved count fault polls serves) =
    tells_outside (Option Below) who s t fault old new (serves_outside serves)
poll_tells (inside.PollsInside.ended count made polls serves ends) = poll_ended
    (polled polls.made) serves ends

-- ---- where the sinks stand behind it

-- the start of this number has created its last sink, and none is written to
abbrev IsLast : ℕ → Sinks → Sinks → Type 0
IsLast n s u = (s.born ≡ n) × (u.current ≡ None) × (u.number ≡ last_number)

last_of : (n : ℕ) (o : Outcome) (s u : Sinks) → IsMade o (Some (Spent n)) → OutcomeSpent s u o
    → IsLast n s u
last_of n (was_refused fault) s u is spent = absurd (none-some (Spent n) (sym is))
last_of n (BadPost fault) s u is spent = absurd (none-some (Spent n) (sym is))
last_of n (Lines acks) s u is spent = absurd (none-some (Spent n) (sym is))
last_of n (Fails (sink_failed call)) s u is spent = absurd
    (apart (same_Some (Spent n) is.0 is.1 ∙ is.2))
  where
    apart : Spent n ≡ Outside call → ⊥
    apart e = cc
last_of n (Fails (sink_damaged name at)) s u is spent = absurd
    (apart (same_Some (Spent n) is.0 is.1 ∙ is.2.1))
  where
    apart : Spent n ≡ Damaged name is.2.0 → ⊥
    apart e = cc
last_of n (Fails (sink_spent born)) s u is spent = (
  sym (same (same_Some (Spent n) is.0 is.1 ∙ is.2.1) ∙
      (same_number is.2.0 born is.2.2 is.2.3 ∙ spent.0)),
  spent.1,
  spent.2,
)
  where
    same : Spent n ≡ Spent is.2.0 → n ≡ is.2.0
    same e = cc
last_of n (Fails sink_wanting) s u is spent = absurd is.2

responds_last : {who : Who} {s u : Sinks} {t n : ℕ} {request : List ℕ} {old new : Option History}
    → Responds who s t request (Ok (Some (Spent n))) u old new → IsLast n s u
responds_last {s = s} {u = u} {n = n} (Responds.sent reply made replied is answers) =
    last_of n replied.outcome s u is replied.spent

serves_last : {who : Who} {s u : Sinks} {n : ℕ} {old new : Option History}
    → Serves who s (Ok (Some (Spent n))) u old new → IsLast n s u
serves_last (Serves.taken taking call responds) = responds_last responds

-- ---- in a legal history

module _ (stamped : List (List ℕ)) (started acting : List Who) (s t : Sinks) (a : Agents) (n : ℕ)
    {old new : Option History} where
  pub last_sink : Adds old new
      (Leads (Together stamped started acting) (BothAt stamped s a) (Legal stamped))
      → ToldSpent (process s) n s t old new → t.collector ≡ s.collector
      → Adds old new
      (Leads (Together stamped started acting) (BothAt stamped s a)
      (WhereRunning stamped (LastSink t.collector n)))
  last_sink told tells same = record {
    told = λ history is.
        let x = told.told history is in
        let is_last = serves_last tells.served in (
          x.0,
          x.1,
          record {
            leads = λ others both. record {
              legal = x.2.leads others both;
              alive = λ running. record {
                exchange = x.0;
                earlier = history;
                split = refl;
                before = s;
                behind = t;
                collector_is = sym same;
                start = is_last.0;
                held = both.0.alive
                    (ran_before (IsByOne acting)
                    (λ before step by. by.running) x.0 history x.2.own running);
                told = subst (λ o. ToldSpent (process s) n s t o (Some (x.0 ++ history))) is
                    (subst (λ o. ToldSpent (process s) n s t old o) x.1 tells);
                none = is_last.1;
                last = is_last.2;
              };
            };
            own = x.2.own;
          },
        );
    untold = told.untold;
  }
