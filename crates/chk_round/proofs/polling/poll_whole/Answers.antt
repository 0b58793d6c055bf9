use Rattle.std.proofs.Common.{Option, Ok, ap, subst}
use Rattle.std.proofs.lemmas.Result.{err_from_is_err_and}
use Rattle.chk_site.specs.declared.acts.Who.{Who}
use Rattle.chk_agent_delivery.specs.declared.answers.Below.{Below}
use Rattle.chk_exchange.specs.Exchanges.{PollsInside}
use Rattle.chk_round.proofs.Joining.{exchange_ends, exchange_goes}
use Rattle.chk_round.proofs.KeptInside.{poll_keeps_by}
use Rattle.chk_round.proofs.Inside.{polled_all}
use Rattle.chk_round.proofs.Sent.{poll_sends}
use Rattle.chk_round.proofs.Spending.{poll_tells}
use Rattle.chk_round.proofs.Lasting.{exchange_inside, went}
use Rattle.chk_round.proofs.NoRead.{exchange_no_read, poll_once}
use Rattle.chk_exchange.specs.Least.{TellsLeast}
use Rattle.chk_round.proofs.LastPolls.{below_polled, below_told, polled_ends, untold_length}
use Rattle.chk_round.proofs.Lengths.{below_cause, below_inside, below_no_read, below_once}
use Rattle.chk_round.proofs.Acts.{poll_acts}
use Rattle.chk_round.proofs.polling.poll_whole.Goals as goal

pub returns-in_err-below-clause-joint : goal.returns-in_err-below-clause-joint
returns-in_err-below-clause-joint g c =
    let p = err_from_is_err_and c.from_residual.result c.from_residual.ensures.1 in
    rw (p.1, p.2)
    (polled_ends c.args.collector.now c.poll_inside.new.collector c.args.agent.now c.poll_inside.new.agent c.in_err-below.field-0.0
    (exchange_ends c.args.collecting.now c.args.collector.now c.poll_inside.new.collector c.args.agent.now
    c.poll_inside.new.agent c.requires.started (Option Below)
    c.in_err-below.field-0.0 c.in_err-below.ensures.told (poll_tells c.in_err-below.ensures.script)
    c.poll_inside.ensures.same.collector))

pub returns-in_err-below-clause-least : goal.returns-in_err-below-clause-least
returns-in_err-below-clause-least g c =
    let p = err_from_is_err_and c.from_residual.result c.from_residual.ensures.1 in
    rw (p.1, p.2)
    (untold_length c.args.collecting.now c.args.collector.now c.args.agent.now c.in_err-below.field-0.0
    (g.S.Site.told c.args.site.now) (g.S.Site.told c.poll_inside.new.site))

pub returns-in-None-clause-joint : goal.returns-in-None-clause-joint
returns-in-None-clause-joint g c =
    exchange_goes c.args.collecting.now c.args.collector.now c.poll_inside.new.collector c.args.agent.now
    c.poll_inside.new.agent c.requires.started (Option Below) c.in_ok-below.field-0 c.in_ok-below.ensures.told
    (poll_keeps_by c.requires.started c.requires.named c.poll_inside.ensures.same c.in_ok-below.ensures.script)

pub returns-in-Some-clause-joint : goal.returns-in-Some-clause-joint
returns-in-Some-clause-joint g c =
    below_polled c.in-Some.below c.too_short.result c.too_short.ensures c.args.collector.now c.poll_inside.new.collector
    c.args.agent.now c.poll_inside.new.agent
    (exchange_goes c.args.collecting.now c.args.collector.now c.poll_inside.new.collector c.args.agent.now
    c.poll_inside.new.agent c.requires.started (Option Below) c.in_ok-below.field-0 c.in_ok-below.ensures.told
    (poll_keeps_by c.requires.started c.requires.named c.poll_inside.ensures.same c.in_ok-below.ensures.script))

pub returns-in-Some-clause-least : goal.returns-in-Some-clause-least
returns-in-Some-clause-least g c =
    below_told c.in-Some.below c.too_short.result c.too_short.ensures c.args.collecting.now c.args.collector.now c.args.agent.now
    (subst (λ (b : Option Below). TellsLeast c.args.collecting.now c.args.collector.now c.args.agent.now b
    (g.S.Site.told c.args.site.now) (g.S.Site.told c.poll_inside.new.site)) c.in-Some.is c.in_ok-below.ensures.least)

pub returns-in-None-clause-all : goal.returns-in-None-clause-all
returns-in-None-clause-all g c =
    polled_all c.requires.some
    (subst (λ (b : Option Below). PollsInside c.args.collecting.now c.args.collector.now c.args.agent.now (Ok b)
    c.poll_inside.new.collector c.poll_inside.new.agent (g.S.Site.told c.args.site.now) (g.S.Site.told c.poll_inside.new.site))
    c.in-None.is c.in_ok-below.ensures.script)

pub returns-in-None-clause-sends : goal.returns-in-None-clause-sends
returns-in-None-clause-sends g c =
    poll_sends (ap (λ (w : Who). w.role) c.requires.started) c.in_ok-below.ensures.script

pub returns-in_err-below-clause-last : goal.returns-in_err-below-clause-last
returns-in_err-below-clause-last g c =
    let p = err_from_is_err_and c.from_residual.result c.from_residual.ensures.1 in
    rw (p.1, p.2) (exchange_inside (Unit {0}) (Option Below) c.in_err-below.field-0.0 c.in_err-below.ensures.last)

pub returns-in-None-clause-last : goal.returns-in-None-clause-last
returns-in-None-clause-last g c = went c.in_ok-below.ensures.last

pub returns-in-Some-clause-last : goal.returns-in-Some-clause-last
returns-in-Some-clause-last g c =
    below_inside c.in-Some.below c.too_short.result c.too_short.ensures (went c.in_ok-below.ensures.last)

pub returns-in-Some-clause-cause : goal.returns-in-Some-clause-cause
returns-in-Some-clause-cause g c =
    below_cause c.in-Some.below c.too_short.result c.too_short.ensures (g.S.Site.fault_count c.args.site.now)
    (g.S.Site.fault_count c.poll_inside.new.site) c.in_ok-below.ensures.cause

pub returns-in-Some-clause-only : goal.returns-in-Some-clause-only
returns-in-Some-clause-only g c = below_no_read c.in-Some.below c.too_short.result c.too_short.ensures

pub returns-in_err-below-clause-only : goal.returns-in_err-below-clause-only
returns-in_err-below-clause-only g c =
    let p = err_from_is_err_and c.from_residual.result c.from_residual.ensures.1 in
    rw (p.1, p.2) (exchange_no_read c.in_err-below.field-0.0)

pub returns-in_err-below-clause-polls : goal.returns-in_err-below-clause-polls
returns-in_err-below-clause-polls g c =
    let p = err_from_is_err_and c.from_residual.result c.from_residual.ensures.1 in
    rw (p.1, p.2)
    (poll_once c.requires.started c.in_err-below.field-0.0 c.in_err-below.ensures.script)

pub returns-in-Some-clause-polls : goal.returns-in-Some-clause-polls
returns-in-Some-clause-polls g c =
    below_once c.in-Some.below c.too_short.result c.too_short.ensures
    (subst (λ (b : Option Below). PollsInside c.args.collecting.now c.args.collector.now c.args.agent.now (Ok b)
    c.poll_inside.new.collector c.poll_inside.new.agent (g.S.Site.told c.args.site.now) (g.S.Site.told c.poll_inside.new.site))
    c.in-Some.is c.in_ok-below.ensures.script)

pub returns-in-None-clause-polls : goal.returns-in-None-clause-polls
returns-in-None-clause-polls g c =
    subst (λ (b : Option Below). PollsInside c.args.collecting.now c.args.collector.now c.args.agent.now (Ok b)
    c.poll_inside.new.collector c.poll_inside.new.agent (g.S.Site.told c.args.site.now) (g.S.Site.told c.poll_inside.new.site))
    c.in-None.is c.in_ok-below.ensures.script

pub returns-in_err-below-clause-acts : goal.returns-in_err-below-clause-acts
returns-in_err-below-clause-acts g c =
    poll_acts (ap (λ (w : Who). w.role) c.requires.started) c.requires.address c.poll_inside.ensures.script

pub returns-in-None-clause-acts : goal.returns-in-None-clause-acts
returns-in-None-clause-acts g c =
    poll_acts (ap (λ (w : Who). w.role) c.requires.started) c.requires.address c.poll_inside.ensures.script

pub returns-in-Some-clause-acts : goal.returns-in-Some-clause-acts
returns-in-Some-clause-acts g c =
    poll_acts (ap (λ (w : Who). w.role) c.requires.started) c.requires.address c.poll_inside.ensures.script
