use Rattle.std.proofs.Common.{Option, Ok, Err, [], refl, subst, ◌∙◌}
use Rattle.std.specs.Prelude.{Contains}
use Rattle.std.proofs.lemmas.Result.{err_from_is_err_and}
use Rattle.chk_agent_delivery.specs.declared.answers.Below.{Below}
use Rattle.chk_exchange.specs.Exchanges.{PollsInside}
use Rattle.chk_exchange.specs.Faults.{ServedCause}
use Rattle.chk_exchange.proofs.Lasting.{last_then}
use Rattle.chk_exchange.proofs.Leasts.{ends_least}
use Rattle.chk_exchange.proofs.Polling.{closes_so, end_keeps, ends_so, poll_is_out, sends_keep, sends_last, sends_outside, sent_message, sent_so}
use Rattle.chk_exchange.proofs.Ways.{serves_last}
use Rattle.chk_exchange.proofs.Ending.{serves_outside}
use Rattle.chk_exchange.proofs.Keeping.{same_addresses, still_ready}
use Rattle.chk_exchange.proofs.Whole.{fine_so, last_so, of_agent, of_later, served_told, told_so, unsent_told, unserved_told}
use Rattle.chk_exchange.proofs.exchange.poll_inside.Goals as goal

pub returns-in_err-send_poll-clause-script : goal.returns-in_err-send_poll-clause-script
returns-in_err-send_poll-clause-script g c =
    let p = err_from_is_err_and c.from_residual.result c.from_residual.ensures.1 in
    rw (p.1, p.2)
    (PollsInside.unsent c.in_err-send_poll.field-0.0 c.in_err-send_poll.ensures.script)

pub returns-in_err-send_poll-clause-told : goal.returns-in_err-send_poll-clause-told
returns-in_err-send_poll-clause-told g c stamped started acting in_who in_a acts_who acts_a =
    let in_c = subst (Contains started) c.requires.started in_who in
    let acts_c = subst (Contains acting) c.requires.started acts_who in
    let p = err_from_is_err_and c.from_residual.result c.from_residual.ensures.1 in
    rw (p.1, p.2)
    (unsent_told stamped started acting c.args.collector.now c.args.agent.now c.send_poll.new.agent
    in_c in_a acts_a
    (c.in_err-send_poll.ensures.told stamped) (Option Below) c.in_err-send_poll.field-0.0
    (sends_outside c.in_err-send_poll.ensures.script))

pub returns-in_err-send_poll-clause-last : goal.returns-in_err-send_poll-clause-last
returns-in_err-send_poll-clause-last g c =
    let p = err_from_is_err_and c.from_residual.result c.from_residual.ensures.1 in
    rw (p.1, p.2)
    (sends_last (Option Below) c.in_err-send_poll.ensures.script
    (c.in_err-send_poll.ensures.told []))

pub returns-in_err-send_poll-clause-ready : goal.returns-in_err-send_poll-clause-ready
returns-in_err-send_poll-clause-ready g c =
    still_ready (sends_keep c.in_err-send_poll.ensures.script) c.requires.ready

pub returns-in_err-send_poll-clause-address : goal.returns-in_err-send_poll-clause-address
returns-in_err-send_poll-clause-address g c =
    same_addresses (sends_keep c.in_err-send_poll.ensures.script)

pub returns-in_err-made-clause-script : goal.returns-in_err-made-clause-script
returns-in_err-made-clause-script g c =
    let p = err_from_is_err_and c.from_residual-in_err-made.result
    c.from_residual-in_err-made.ensures.1 in
    let sent = sent_so c.in_ok-send_poll.ensures.script in
    rw (p.1, p.2)
    (PollsInside.unserved sent.0 c.in_err-made.field-0.0 sent.1 c.in_err-made.ensures.script)

pub returns-in_err-made-clause-told : goal.returns-in_err-made-clause-told
returns-in_err-made-clause-told g c stamped started acting in_who in_a acts_who acts_a =
    let in_c = subst (Contains started) c.requires.started in_who in
    let acts_c = subst (Contains acting) c.requires.started acts_who in
    let p = err_from_is_err_and c.from_residual-in_err-made.result
    c.from_residual-in_err-made.ensures.1 in
    let fault = c.in_err-made.field-0.0 in
    rw (p.1, p.2)
    (unserved_told stamped started acting c.args.collector.now c.serve.new.collector
    c.args.agent.now c.send_poll.new.agent c.requires.address in_c in_a acts_c acts_a
    c.in_ok-send_poll.ensures.sound (sent_message c.in_ok-send_poll.ensures.script)
    (c.in_ok-send_poll.ensures.told stamped)
    (λ request reply. Unit {0}) (Err fault)
    (c.in_err-made.ensures.told stamped started acting c.send_poll.new.agent)
    (Option Below) fault refl
    (serves_outside c.in_err-made.ensures.script))

pub returns-in_err-made-clause-last : goal.returns-in_err-made-clause-last
returns-in_err-made-clause-last g c =
    let p = err_from_is_err_and c.from_residual-in_err-made.result
    c.from_residual-in_err-made.ensures.1 in
    rw (p.1, p.2)
    (last_then {T = Option Below} (Err c.in_err-made.field-0.0) (c.in_ok-send_poll.ensures.told [])
    (serves_last (Option Below) c.in_err-made.ensures.script))

pub returns-in_err-made-clause-ready : goal.returns-in_err-made-clause-ready
returns-in_err-made-clause-ready g c =
    still_ready (sends_keep c.in_ok-send_poll.ensures.script) c.requires.ready

pub returns-in_err-made-clause-address : goal.returns-in_err-made-clause-address
returns-in_err-made-clause-address g c =
    same_addresses (sends_keep c.in_ok-send_poll.ensures.script)

pub end_poll-requires-clause-ready : goal.end_poll-requires-clause-ready
end_poll-requires-clause-ready g c =
    still_ready (sends_keep c.in_ok-send_poll.ensures.script) c.requires.ready

pub end_poll-requires-clause-out : goal.end_poll-requires-clause-out
end_poll-requires-clause-out g c = poll_is_out c.in_ok-send_poll.ensures.script

pub returns-clause-script : goal.returns-clause-script
returns-clause-script g c =
    let sends = c.in_ok-send_poll.ensures.script in
    PollsInside.ended (sent_so sends).0 c.in_ok-made.made
    (sent_so sends).1 c.in_ok-made.ensures.script
    (ends_so sends c.end_poll.ensures.script)

pub returns-clause-told : goal.returns-clause-told
returns-clause-told g c stamped started acting in_who in_a acts_who acts_a =
    let s = c.args.collector.now in
    let u = c.serve.new.collector in
    let a = c.args.agent.now in
    let b = c.send_poll.new.agent in
    let sends = c.in_ok-send_poll.ensures.script in
    let keeps = sends_keep sends in
    let in_c = subst (Contains started) c.requires.started in_who in
    let acts_c = subst (Contains acting) c.requires.started acts_who in
    told_so (Option Below) c.args.who.now s u a b c.end_poll.new.agent c.in_ok-made.made
    c.end_poll.result
    (sent_message sends) (closes_so sends c.end_poll.ensures.script) stamped started acting
    (of_later started s u c.in_ok-made.ensures.same in_c) (of_agent started a b keeps in_a)
    (of_agent acting a b keeps acts_a)
    (served_told stamped started acting s u a b c.requires.address in_c in_a acts_c acts_a
    c.in_ok-send_poll.ensures.sound (sent_message sends) (c.in_ok-send_poll.ensures.told stamped)
    _ (Ok c.in_ok-made.made) (c.in_ok-made.ensures.told stamped started acting b))
    (c.end_poll.ensures.told stamped)

pub returns-clause-fine : goal.returns-clause-fine
returns-clause-fine g c =
    let sends = c.in_ok-send_poll.ensures.script in
    fine_so (Option Below) c.args.who.now c.args.collector.now c.serve.new.collector
    c.args.agent.now
    c.send_poll.new.agent c.end_poll.new.agent c.in_ok-made.made c.end_poll.result
    (sent_message sends) (closes_so sends c.end_poll.ensures.script) c.in_ok-made.ensures.script
    (c.end_poll.ensures.told [])

pub returns-clause-last : goal.returns-clause-last
returns-clause-last g c =
    let sends = c.in_ok-send_poll.ensures.script in
    last_so (Option Below) c.args.who.now c.args.collector.now c.serve.new.collector
    c.args.agent.now
    c.send_poll.new.agent c.end_poll.new.agent c.in_ok-made.made c.end_poll.result
    (sent_message sends) (closes_so sends c.end_poll.ensures.script) c.in_ok-made.ensures.script
    (c.end_poll.ensures.told [])

pub returns-clause-cause : goal.returns-clause-cause
returns-clause-cause g c =
    c.end_poll.ensures.cause (g.S.Site.fault_count c.args.site.now)
    (subst (λ n. ServedCause n (g.S.Site.fault_count c.serve.new.site) (Ok c.in_ok-made.made))
    c.in_ok-send_poll.ensures.cause c.in_ok-made.ensures.cause)

pub returns-clause-ready : goal.returns-clause-ready
returns-clause-ready g c =
    let sends = c.in_ok-send_poll.ensures.script in
    still_ready (end_keeps sends c.end_poll.ensures.script)
    (still_ready (sends_keep sends) c.requires.ready)

pub returns-clause-address : goal.returns-clause-address
returns-clause-address g c =
    let sends = c.in_ok-send_poll.ensures.script in
    same_addresses (end_keeps sends c.end_poll.ensures.script) ∙ same_addresses (sends_keep sends)

pub returns-clause-least : goal.returns-clause-least
returns-clause-least g c =
    let s = c.args.collector.now in
    let u = c.serve.new.collector in
    let a = c.args.agent.now in
    let b = c.send_poll.new.agent in
    let sends = c.in_ok-send_poll.ensures.script in
    ends_least c.args.who.now s u a b c.end_poll.new.agent c.in_ok-made.made c.requires.started
    c.in_ok-made.ensures.same sends
    (λ stamped started acting in_c in_a acts_c acts_a.
    served_told stamped started acting s u a b c.requires.address in_c in_a acts_c acts_a
    c.in_ok-send_poll.ensures.sound (sent_message sends) (c.in_ok-send_poll.ensures.told stamped)
    _ (Ok c.in_ok-made.made) (c.in_ok-made.ensures.told stamped started acting b))
    c.end_poll.ensures.told (ends_so sends c.end_poll.ensures.script)
