use Rattle.std.proofs.Common.{Ok, Err, ap, ◌∙◌, refl, arith}
use Rattle.std.proofs.lemmas.Result.{err_from_is_err_and}
use Rattle.chk_agent_drain.proofs.ReadingOn.{held_some}
use Rattle.chk_round.proofs.Stepping.{ended_lives, ended_on, held_own, own_stepped, ended_script, ended_sends, grown_script, shrank_script, unposted_script, unread_script, growing_cause, growing_legal, held_ends, held_is, held_next, held_smaller, held_so, read_smaller, reading_ended, reading_fails, reading_none, reading_read, reading_shrinks, reading_stops, shrank_cause, stepped_acts, still_there}
use Rattle.chk_agent.specs.declared.answers.Stepped.{Stepped}
use Rattle.chk_round.specs.Faults.{of_agent}
use Rattle.chk_round.proofs.Ends.{agent_last}
use Rattle.chk_round.proofs.Lasting.{went, growing_inside, inside_late, last_inside, shrank_inside}
use Rattle.chk_round.proofs.OwnRows.{own_growing, own_plain, own_shrank}
use Rattle.chk_round.proofs.NoRead.{agent_plain, agent_shown, growing_shown, shrank_shown, work_late}
use Rattle.chk_round.proofs.Acts.{acts_then, as_round}
use Rattle.chk_round.proofs.reading.read_out.Goals as goal

pub reads-init : goal.reads-init
reads-init g c =
    reading_none c.args.adaptor c.args.reads c.args.collector.now c.args.agent.now (g.S.Site.told c.args.site.now)
    (g.S.Site.fault_count c.args.site.now) c.requires.some c.requires.read_on

pub returns-in_err-step-clause-read : goal.returns-in_err-step-clause-read
returns-in_err-step-clause-read g c stamped started acting run =
    let p = err_from_is_err_and c.from_residual.result c.from_residual.ensures.1 in
    rw (p.1, p.2)
    (reading_fails c.args.adaptor c.reads.count c.args.reads c.args.collector.now c.reads.collector c.args.agent.now c.reads.agent
    c.reads.invariant c.step.new.self (Err c.in_err-step.field-0.0) c.in_err-step.ensures.told c.in_err-step.ensures.state
    c.in_err-step.field-0.0 c.in_err-step.ensures.undamaged stamped started acting run)

pub returns-in-AtEnd-clause-read : goal.returns-in-AtEnd-clause-read
returns-in-AtEnd-clause-read g c =
    reading_ended c.args.adaptor c.reads.count c.args.reads c.args.collector.now c.reads.collector c.args.agent.now c.reads.agent
    c.reads.invariant c.step.new.self (Ok c.in_ok-step.step) c.in_ok-step.ensures.told c.in_ok-step.ensures.state
    (ap Ok c.in-AtEnd.is)

pub returns-in-AtEnd-clause-on : goal.returns-in-AtEnd-clause-on
returns-in-AtEnd-clause-on g c =
    ended_on c.args.adaptor c.reads.count c.args.reads c.args.collector.now c.reads.collector c.args.agent.now c.reads.agent
    c.reads.invariant c.step.new.self (Ok c.in_ok-step.step) c.in_ok-step.ensures.told c.in_ok-step.ensures.state

pub post_next-requires-clause-ready : goal.post_next-requires-clause-ready
post_next-requires-clause-ready g c =
    (held_so c.args.adaptor c.reads.count c.args.reads c.args.collector.now c.reads.collector c.args.agent.now c.reads.agent
    c.reads.invariant c.step.new.self (Ok c.in_ok-step.step) c.in_ok-step.ensures.told c.in_ok-step.ensures.state
    c.in-Held.used (ap Ok c.in-Held.is)).ready ∙ c.requires.ready

pub post_next-requires-clause-address : goal.post_next-requires-clause-address
post_next-requires-clause-address g c =
    (held_so c.args.adaptor c.reads.count c.args.reads c.args.collector.now c.reads.collector c.args.agent.now c.reads.agent
    c.reads.invariant c.step.new.self (Ok c.in_ok-step.step) c.in_ok-step.ensures.told c.in_ok-step.ensures.state
    c.in-Held.used (ap Ok c.in-Held.is)).addresses ∙ c.requires.address

pub post_next-requires-clause-some : goal.post_next-requires-clause-some
post_next-requires-clause-some g c =
    held_some c.step.new.self c.free_rows-sound.ensures.sound
    (held_is c.args.adaptor c.reads.count c.args.reads c.args.collector.now c.reads.collector c.args.agent.now c.reads.agent
    c.reads.invariant c.step.new.self (Ok c.in_ok-step.step) c.in_ok-step.ensures.told c.in_ok-step.ensures.state
    c.in-Held.used (ap Ok c.in-Held.is))

pub reads-smaller-in-Continue-branch-2 : goal.reads-smaller-in-Continue-branch-2
reads-smaller-in-Continue-branch-2 g c =
    held_smaller c.args.adaptor c.reads.count c.args.reads c.args.collector.now c.reads.collector c.args.agent.now c.reads.agent
    c.reads.invariant c.step.new.self (Ok c.in_ok-step.step) c.in_ok-step.ensures.told c.in_ok-step.ensures.state
    c.in-Held.used (ap Ok c.in-Held.is) c.post_next.new.collector c.post_next.new.agent
    c.in_ok-post_next-in-Held.ensures.joint c.post_next.ensures.same c.in_ok-post_next-in-Held.ensures.some
    c.free_rows-sound.ensures.sound c.in_ok-post_next-in-Held.ensures.sends c.in_ok-post_next-in-Held.ensures.acts
    c.in_ok-post_next-in-Held.ensures.rows

pub reads-preserved-in-Continue-branch-2 : goal.reads-preserved-in-Continue-branch-2
reads-preserved-in-Continue-branch-2 g c =
    held_next c.args.adaptor c.reads.count c.args.reads c.args.collector.now c.reads.collector c.args.agent.now c.reads.agent
    c.reads.invariant c.step.new.self (Ok c.in_ok-step.step) c.in_ok-step.ensures.told c.in_ok-step.ensures.state
    c.in-Held.used (ap Ok c.in-Held.is) c.post_next.new.collector c.post_next.new.agent
    c.in_ok-post_next-in-Held.ensures.joint c.post_next.ensures.same c.in_ok-post_next-in-Held.ensures.some
    c.free_rows-sound.ensures.sound c.in_ok-post_next-in-Held.ensures.sends c.in_ok-post_next-in-Held.ensures.acts
    c.in_ok-post_next-in-Held.ensures.rows
    (g.S.Site.fault_count c.post_next.new.site)
    (let one = c.in_ok-step.ensures.cause in let two = c.in_ok-post_next-in-Held.ensures.cause in omega (arith, one, two))

pub returns-in_err-post_next-in-Held-clause-read : goal.returns-in_err-post_next-in-Held-clause-read
returns-in_err-post_next-in-Held-clause-read g c stamped started acting run =
    let p = err_from_is_err_and c.from_residual-in_err-post_next-in-Held.result c.from_residual-in_err-post_next-in-Held.ensures.1 in
    rw (p.1, p.2)
    (held_ends c.args.adaptor c.reads.count c.args.reads c.args.collector.now c.reads.collector c.args.agent.now c.reads.agent
    c.reads.invariant c.step.new.self (Ok c.in_ok-step.step) c.in_ok-step.ensures.told c.in_ok-step.ensures.state
    c.in-Held.used (ap Ok c.in-Held.is) c.post_next.new.collector c.post_next.new.agent
    c.in_err-post_next-in-Held.field-0.0 c.in_err-post_next-in-Held.ensures.joint stamped started acting run)

pub growing-requires : goal.growing-requires
growing-requires g c =
    still_there c.args.adaptor c.reads.count c.args.reads c.args.collector.now c.reads.collector c.args.agent.now c.reads.agent
    c.reads.invariant c.step.new.self (Ok c.in_ok-step.step) c.in_ok-step.ensures.told c.in_ok-step.ensures.state

pub returns-then-count-reads-clause-read : goal.returns-then-count-reads-clause-read
returns-then-count-reads-clause-read g c =
    reading_stops c.args.adaptor c.reads.count c.args.reads c.args.collector.now c.reads.collector c.args.agent.now c.reads.agent
    c.reads.invariant c.step.new.self (Ok c.in_ok-step.step) c.in_ok-step.ensures.told c.in_ok-step.ensures.state
    c.growing.result (growing_legal c.growing.ensures.kind.1)

pub returns-then-count-reads-clause-cause : goal.returns-then-count-reads-clause-cause
returns-then-count-reads-clause-cause g c =
    growing_cause (g.S.Site.fault_count c.args.site.now) (g.S.Site.fault_count c.step.new.site) c.growing.ensures.kind.1
    (let so_far = c.reads.invariant.faults in let on = c.in_ok-step.ensures.cause in omega (arith, so_far, on))

pub reads-smaller : goal.reads-smaller
reads-smaller g c =
    read_smaller c.args.adaptor c.reads.count c.args.reads c.args.collector.now c.reads.collector c.args.agent.now c.reads.agent
    c.reads.invariant c.step.new.self (Ok c.in_ok-step.step) c.in_ok-step.ensures.told c.in_ok-step.ensures.state
    c.in-Read.bytes (ap Ok c.in-Read.is)

pub reads-preserved : goal.reads-preserved
reads-preserved g c =
    reading_read c.args.adaptor c.reads.count c.args.reads c.args.collector.now c.reads.collector c.args.agent.now c.reads.agent
    c.reads.invariant c.step.new.self (Ok c.in_ok-step.step) c.in_ok-step.ensures.told c.in_ok-step.ensures.state
    c.in-Read.bytes (g.S.Site.fault_count c.step.new.site) c.in_ok-step.ensures.cause (ap Ok c.in-Read.is)
    (let more = c.if-count-reads.false in omega (arith, more))

pub shrank-requires : goal.shrank-requires
shrank-requires g c =
    still_there c.args.adaptor c.reads.count c.args.reads c.args.collector.now c.reads.collector c.args.agent.now c.reads.agent
    c.reads.invariant c.step.new.self (Ok c.in_ok-step.step) c.in_ok-step.ensures.told c.in_ok-step.ensures.state

pub returns-in-Shrank-clause-read : goal.returns-in-Shrank-clause-read
returns-in-Shrank-clause-read g c =
    reading_shrinks c.args.adaptor c.reads.count c.args.reads c.args.collector.now c.reads.collector c.args.agent.now c.reads.agent
    c.reads.invariant c.step.new.self (Ok c.in_ok-step.step) c.in_ok-step.ensures.told c.in_ok-step.ensures.state
    c.in-Shrank.had c.in-Shrank.is' (ap Ok c.in-Shrank.is) c.shrank.ensures.kind.1

pub returns-in-Shrank-clause-cause : goal.returns-in-Shrank-clause-cause
returns-in-Shrank-clause-cause g c =
    shrank_cause (g.S.Site.fault_count c.args.site.now) (g.S.Site.fault_count c.step.new.site) c.shrank.ensures.kind.1
    (let so_far = c.reads.invariant.faults in let on = c.in_ok-step.ensures.cause in omega (arith, so_far, on))

pub returns-in-AtEnd-clause-sends : goal.returns-in-AtEnd-clause-sends
returns-in-AtEnd-clause-sends g c =
    ended_sends c.args.adaptor c.reads.count c.args.reads c.args.collector.now c.reads.collector c.args.agent.now c.reads.agent
    c.reads.invariant c.step.new.self (Ok c.in_ok-step.step) c.in_ok-step.ensures.told c.in_ok-step.ensures.state

pub returns-in-AtEnd-clause-live : goal.returns-in-AtEnd-clause-live
returns-in-AtEnd-clause-live g c =
    ended_lives c.args.adaptor c.reads.count c.args.reads c.args.collector.now c.reads.collector c.args.agent.now c.reads.agent
    c.reads.invariant c.step.new.self (Ok c.in_ok-step.step) c.in_ok-step.ensures.told c.in_ok-step.ensures.state
    (ap Ok c.in-AtEnd.is)

pub returns-in_err-step-clause-last : goal.returns-in_err-step-clause-last
returns-in_err-step-clause-last g c =
    let p = err_from_is_err_and c.from_residual.result c.from_residual.ensures.1 in
    rw (p.1, p.2) (inside_late (Unit {0}) (Unit {0}) (of_agent c.in_err-step.field-0.0) c.reads.invariant.acts
    (last_inside (Unit {0}) (Unit {0}) (of_agent c.in_err-step.field-0.0)
    (agent_last (Unit {0}) Stepped c.in_err-step.field-0.0 c.in_err-step.ensures.last)))

pub returns-in_err-post_next-in-Held-clause-last : goal.returns-in_err-post_next-in-Held-clause-last
returns-in_err-post_next-in-Held-clause-last g c =
    let p = err_from_is_err_and c.from_residual-in_err-post_next-in-Held.result c.from_residual-in_err-post_next-in-Held.ensures.1 in
    rw (p.1, p.2) (inside_late (Unit {0}) (Unit {0}) c.in_err-post_next-in-Held.field-0.0
    (stepped_acts c.args.adaptor c.reads.count c.args.reads c.args.collector.now c.reads.collector c.args.agent.now c.reads.agent
    c.reads.invariant c.step.new.self (Ok c.in_ok-step.step) c.in_ok-step.ensures.told c.in_ok-step.ensures.state)
    c.in_err-post_next-in-Held.ensures.last)

pub returns-in-AtEnd-clause-last : goal.returns-in-AtEnd-clause-last
returns-in-AtEnd-clause-last g c =
    went
    (stepped_acts c.args.adaptor c.reads.count c.args.reads c.args.collector.now c.reads.collector c.args.agent.now c.reads.agent
    c.reads.invariant c.step.new.self (Ok c.in_ok-step.step) c.in_ok-step.ensures.told c.in_ok-step.ensures.state)

pub returns-then-count-reads-clause-last : goal.returns-then-count-reads-clause-last
returns-then-count-reads-clause-last g c =
    growing_inside c.growing.ensures.kind.1
    (went (stepped_acts c.args.adaptor c.reads.count c.args.reads c.args.collector.now c.reads.collector c.args.agent.now c.reads.agent
    c.reads.invariant c.step.new.self (Ok c.in_ok-step.step) c.in_ok-step.ensures.told c.in_ok-step.ensures.state))

pub returns-in-Shrank-clause-last : goal.returns-in-Shrank-clause-last
returns-in-Shrank-clause-last g c =
    shrank_inside c.shrank.ensures.kind.1
    (went (stepped_acts c.args.adaptor c.reads.count c.args.reads c.args.collector.now c.reads.collector c.args.agent.now c.reads.agent
    c.reads.invariant c.step.new.self (Ok c.in_ok-step.step) c.in_ok-step.ensures.told c.in_ok-step.ensures.state))

pub returns-in_err-step-clause-script : goal.returns-in_err-step-clause-script
returns-in_err-step-clause-script g c =
    let p = err_from_is_err_and c.from_residual.result c.from_residual.ensures.1 in
    rw (p.1, p.2) (unread_script c.args.adaptor c.reads.count c.args.reads c.args.collector.now c.reads.collector c.args.agent.now c.reads.agent
    c.reads.invariant c.step.new.self (Err c.in_err-step.field-0.0) c.in_err-step.ensures.told c.in_err-step.ensures.state
    c.in_err-step.field-0.0 refl)

pub returns-in_err-post_next-in-Held-clause-script : goal.returns-in_err-post_next-in-Held-clause-script
returns-in_err-post_next-in-Held-clause-script g c =
    let p = err_from_is_err_and c.from_residual-in_err-post_next-in-Held.result c.from_residual-in_err-post_next-in-Held.ensures.1 in
    rw (p.1, p.2) (unposted_script c.args.adaptor c.reads.count c.args.reads c.args.collector.now c.reads.collector c.args.agent.now c.reads.agent
    c.reads.invariant c.step.new.self (Ok c.in_ok-step.step) c.in_ok-step.ensures.told c.in_ok-step.ensures.state
    c.in-Held.used (ap Ok c.in-Held.is) c.post_next.new.agent c.in_err-post_next-in-Held.field-0.0
    c.in_err-post_next-in-Held.ensures.only (went c.in_err-post_next-in-Held.ensures.last))

pub returns-in-AtEnd-clause-script : goal.returns-in-AtEnd-clause-script
returns-in-AtEnd-clause-script g c =
    ended_script c.args.adaptor c.reads.count c.args.reads c.args.collector.now c.reads.collector c.args.agent.now c.reads.agent
    c.reads.invariant c.step.new.self (Ok c.in_ok-step.step) c.in_ok-step.ensures.told c.in_ok-step.ensures.state
    (ap Ok c.in-AtEnd.is)

pub returns-then-count-reads-clause-script : goal.returns-then-count-reads-clause-script
returns-then-count-reads-clause-script g c =
    let few = c.reads.invariant.few in
    let last = c.if-count-reads.true in
    grown_script c.args.adaptor c.reads.count c.args.reads c.args.collector.now c.reads.collector c.args.agent.now c.reads.agent
    c.reads.invariant c.step.new.self (Ok c.in_ok-step.step) c.in_ok-step.ensures.told c.in_ok-step.ensures.state
    c.in-Read.bytes (ap Ok c.in-Read.is) (omega (arith, few, last)) c.growing.result c.growing.ensures.which

pub returns-in-Shrank-clause-script : goal.returns-in-Shrank-clause-script
returns-in-Shrank-clause-script g c =
    shrank_script c.args.adaptor c.reads.count c.args.reads c.args.collector.now c.reads.collector c.args.agent.now c.reads.agent
    c.reads.invariant c.step.new.self (Ok c.in_ok-step.step) c.in_ok-step.ensures.told c.in_ok-step.ensures.state
    c.in-Shrank.had c.in-Shrank.is' (ap Ok c.in-Shrank.is) c.shrank.result c.shrank.ensures.which

pub returns-in_err-step-clause-shown : goal.returns-in_err-step-clause-shown
returns-in_err-step-clause-shown g c =
    let p = err_from_is_err_and c.from_residual.result c.from_residual.ensures.1 in
    rw (p.1, p.2) (agent_shown (Unit {0}) Stepped c.in_err-step.field-0.0 c.in_err-step.ensures.undamaged
    (g.S.Site.told c.args.site.now) (g.S.Site.told c.step.new.site))

pub returns-in_err-post_next-in-Held-clause-shown : goal.returns-in_err-post_next-in-Held-clause-shown
returns-in_err-post_next-in-Held-clause-shown g c =
    let p = err_from_is_err_and c.from_residual-in_err-post_next-in-Held.result c.from_residual-in_err-post_next-in-Held.ensures.1 in
    rw (p.1, p.2) (work_late (Unit {0}) (Unit {0}) c.in_err-post_next-in-Held.field-0.0 (g.S.Site.told c.post_next.new.site)
    (stepped_acts c.args.adaptor c.reads.count c.args.reads c.args.collector.now c.reads.collector c.args.agent.now c.reads.agent
    c.reads.invariant c.step.new.self (Ok c.in_ok-step.step) c.in_ok-step.ensures.told c.in_ok-step.ensures.state)
    c.in_err-post_next-in-Held.ensures.shown)

pub returns-then-count-reads-clause-shown : goal.returns-then-count-reads-clause-shown
returns-then-count-reads-clause-shown g c = growing_shown (g.S.Site.told c.args.site.now) (g.S.Site.told c.step.new.site) c.growing.ensures.kind.1

pub returns-in-Shrank-clause-shown : goal.returns-in-Shrank-clause-shown
returns-in-Shrank-clause-shown g c = shrank_shown (g.S.Site.told c.args.site.now) (g.S.Site.told c.step.new.site) c.shrank.ensures.kind.1

pub returns-in-AtEnd-clause-acts : goal.returns-in-AtEnd-clause-acts
returns-in-AtEnd-clause-acts g c =
    stepped_acts c.args.adaptor c.reads.count c.args.reads c.args.collector.now c.reads.collector c.args.agent.now c.reads.agent
    c.reads.invariant c.step.new.self (Ok c.in_ok-step.step) c.in_ok-step.ensures.told c.in_ok-step.ensures.state

pub returns-then-count-reads-clause-acts : goal.returns-then-count-reads-clause-acts
returns-then-count-reads-clause-acts g c =
    stepped_acts c.args.adaptor c.reads.count c.args.reads c.args.collector.now c.reads.collector c.args.agent.now c.reads.agent
    c.reads.invariant c.step.new.self (Ok c.in_ok-step.step) c.in_ok-step.ensures.told c.in_ok-step.ensures.state

pub returns-in-Shrank-clause-acts : goal.returns-in-Shrank-clause-acts
returns-in-Shrank-clause-acts g c =
    stepped_acts c.args.adaptor c.reads.count c.args.reads c.args.collector.now c.reads.collector c.args.agent.now c.reads.agent
    c.reads.invariant c.step.new.self (Ok c.in_ok-step.step) c.in_ok-step.ensures.told c.in_ok-step.ensures.state

pub returns-in_err-step-clause-acts : goal.returns-in_err-step-clause-acts
returns-in_err-step-clause-acts g c =
    stepped_acts c.args.adaptor c.reads.count c.args.reads c.args.collector.now c.reads.collector c.args.agent.now c.reads.agent
    c.reads.invariant c.step.new.self (Err c.in_err-step.field-0.0) c.in_err-step.ensures.told c.in_err-step.ensures.state

pub returns-in_err-post_next-in-Held-clause-acts : goal.returns-in_err-post_next-in-Held-clause-acts
returns-in_err-post_next-in-Held-clause-acts g c =
    acts_then
    (stepped_acts c.args.adaptor c.reads.count c.args.reads c.args.collector.now c.reads.collector c.args.agent.now c.reads.agent
    c.reads.invariant c.step.new.self (Ok c.in_ok-step.step) c.in_ok-step.ensures.told c.in_ok-step.ensures.state)
    (as_round c.in_err-post_next-in-Held.ensures.acts)

pub returns-in_err-step-clause-rows : goal.returns-in_err-step-clause-rows
returns-in_err-step-clause-rows g c stamped started acting run =
    let p = err_from_is_err_and c.from_residual.result c.from_residual.ensures.1 in
    rw (p.1, p.2)
    (own_plain c.args.collector.now c.reads.collector c.args.agent.now c.step.new.self (of_agent c.in_err-step.field-0.0)
    (stepped_acts c.args.adaptor c.reads.count c.args.reads c.args.collector.now c.reads.collector c.args.agent.now c.reads.agent
    c.reads.invariant c.step.new.self (Err c.in_err-step.field-0.0) c.in_err-step.ensures.told c.in_err-step.ensures.state)
    (agent_plain c.in_err-step.field-0.0) stamped started acting run)

pub returns-in-AtEnd-clause-rows : goal.returns-in-AtEnd-clause-rows
returns-in-AtEnd-clause-rows g c =
    own_stepped c.args.adaptor c.reads.count c.args.reads c.args.collector.now c.reads.collector c.args.agent.now c.reads.agent
    c.reads.invariant c.step.new.self (Ok c.in_ok-step.step) c.in_ok-step.ensures.told c.in_ok-step.ensures.state

pub returns-in_err-post_next-in-Held-clause-rows : goal.returns-in_err-post_next-in-Held-clause-rows
returns-in_err-post_next-in-Held-clause-rows g c stamped started acting run =
    let p = err_from_is_err_and c.from_residual-in_err-post_next-in-Held.result c.from_residual-in_err-post_next-in-Held.ensures.1 in
    rw (p.1, p.2)
    (held_own c.args.adaptor c.reads.count c.args.reads c.args.collector.now c.reads.collector c.args.agent.now c.reads.agent
    c.reads.invariant c.step.new.self (Ok c.in_ok-step.step) c.in_ok-step.ensures.told c.in_ok-step.ensures.state
    c.in-Held.used (ap Ok c.in-Held.is) c.post_next.new.collector c.post_next.new.agent
    (Err c.in_err-post_next-in-Held.field-0.0) c.in_err-post_next-in-Held.ensures.rows stamped started acting run)

pub returns-then-count-reads-clause-rows : goal.returns-then-count-reads-clause-rows
returns-then-count-reads-clause-rows g c =
    own_growing c.args.collector.now c.reads.collector c.args.agent.now c.step.new.self c.growing.result
    (stepped_acts c.args.adaptor c.reads.count c.args.reads c.args.collector.now c.reads.collector c.args.agent.now c.reads.agent
    c.reads.invariant c.step.new.self (Ok c.in_ok-step.step) c.in_ok-step.ensures.told c.in_ok-step.ensures.state)
    c.growing.ensures.kind.1

pub returns-in-Shrank-clause-rows : goal.returns-in-Shrank-clause-rows
returns-in-Shrank-clause-rows g c =
    own_shrank c.args.collector.now c.reads.collector c.args.agent.now c.step.new.self c.shrank.result
    (stepped_acts c.args.adaptor c.reads.count c.args.reads c.args.collector.now c.reads.collector c.args.agent.now c.reads.agent
    c.reads.invariant c.step.new.self (Ok c.in_ok-step.step) c.in_ok-step.ensures.told c.in_ok-step.ensures.state)
    c.shrank.ensures.kind.1
