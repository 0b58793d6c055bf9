use Rattle.std.proofs.Common.{◌∙◌, Ok, Err, ap, sym}
use Rattle.std.proofs.lemmas.Result.{err_from_is_err_and}
use Rattle.chk_site.specs.declared.acts.Who.{Who}
use Rattle.chk_queue.specs.Queues.{Waiting}
use Rattle.chk_round.specs.Faults.{of_exchange}
use Rattle.chk_round.proofs.Inside.{posted_some}
use Rattle.chk_round.proofs.Joining.{exchange_ends, exchange_goes, joint_then, still_c}
use Rattle.chk_round.proofs.KeptInside.{post_keeps_by}
use Rattle.chk_round.proofs.OwnRows.{own_plain, own_posted, own_then}
use Rattle.chk_round.proofs.Posts.{posted_then}
use Rattle.chk_round.proofs.Sent.{post_sends, sends_on_then}
use Rattle.chk_round.proofs.Spending.{post_tells}
use Rattle.chk_round.proofs.Lasting.{exchange_inside, inside_late, went_then}
use Rattle.chk_round.proofs.NoRead.{exchange_no_read, exchange_plain, post_shown, work_late}
use Rattle.chk_round.proofs.Acts.{rest_then, post_acts}
use Rattle.chk_round.proofs.posting.post_next.Goals as goal

pub returns-in_err-make_room-clause-joint : goal.returns-in_err-make_room-clause-joint
returns-in_err-make_room-clause-joint g c stamped started acting run =
    let p = err_from_is_err_and c.from_residual.result c.from_residual.ensures.1 in
    rw (p.1, p.2) (c.in_err-make_room.ensures.joint stamped started acting run)

pub returns-in_err-post_inside-clause-joint : goal.returns-in_err-post_inside-clause-joint
returns-in_err-post_inside-clause-joint g c stamped started acting run =
    let p = err_from_is_err_and c.from_residual-in_err-post_inside.result c.from_residual-in_err-post_inside.ensures.1 in
    let free = c.in_ok-make_room.ensures.free in
    rw (p.1, p.2)
    (joint_then c.args.collector.now c.make_room.new.collector c.post_inside.new.collector c.args.agent.now c.make_room.new.agent
    c.post_inside.new.agent (Err (of_exchange c.in_err-post_inside.field-0.0)) c.make_room.ensures.same.collector free.same.source
    c.in_ok-make_room.ensures.joint
    (exchange_ends c.args.collecting.now c.make_room.new.collector c.post_inside.new.collector c.make_room.new.agent
    c.post_inside.new.agent (still_c c.args.collecting.now c.args.collector.now c.make_room.new.collector c.requires.started c.make_room.ensures.same.collector) (Unit {0})
    c.in_err-post_inside.field-0.0 c.in_err-post_inside.ensures.told (post_tells c.in_err-post_inside.ensures.script)
    c.post_inside.ensures.same.collector) stamped started acting run)

pub returns-clause-joint : goal.returns-clause-joint
returns-clause-joint g c =
    let free = c.in_ok-make_room.ensures.free in
    joint_then c.args.collector.now c.make_room.new.collector c.post_inside.new.collector c.args.agent.now c.make_room.new.agent
    c.post_inside.new.agent (Ok tt) c.make_room.ensures.same.collector free.same.source
    c.in_ok-make_room.ensures.joint
    (exchange_goes c.args.collecting.now c.make_room.new.collector c.post_inside.new.collector c.make_room.new.agent
    c.post_inside.new.agent (still_c c.args.collecting.now c.args.collector.now c.make_room.new.collector c.requires.started c.make_room.ensures.same.collector) (Unit {0}) tt
    c.in_ok-post_inside.ensures.told
    (post_keeps_by (still_c c.args.collecting.now c.args.collector.now c.make_room.new.collector c.requires.started c.make_room.ensures.same.collector)
    c.requires.named c.post_inside.ensures.same c.in_ok-post_inside.ensures.script))

pub returns-clause-some : goal.returns-clause-some
returns-clause-some g c =
    let free = c.in_ok-make_room.ensures.free in
    posted_then c.args.agent.now c.make_room.new.agent c.post_inside.new.agent free
    (posted_some (λ none. c.requires.some (ap (λ (q : Waiting). q.chunks) (sym free.queue) ∙ none)) c.in_ok-post_inside.ensures.script)

pub returns-clause-sends : goal.returns-clause-sends
returns-clause-sends g c =
    sends_on_then c.args.agent.now c.make_room.new.agent c.post_inside.new.agent c.in_ok-make_room.ensures.sends
    (post_sends (ap (λ (w : Who). w.role) c.requires.started) c.in_ok-post_inside.ensures.script)

pub returns-in_err-make_room-clause-last : goal.returns-in_err-make_room-clause-last
returns-in_err-make_room-clause-last g c =
    let p = err_from_is_err_and c.from_residual.result c.from_residual.ensures.1 in
    rw (p.1, p.2) (c.in_err-make_room.ensures.last)

pub returns-in_err-post_inside-clause-last : goal.returns-in_err-post_inside-clause-last
returns-in_err-post_inside-clause-last g c =
    let p = err_from_is_err_and c.from_residual-in_err-post_inside.result c.from_residual-in_err-post_inside.ensures.1 in
    rw (p.1, p.2) (inside_late (Unit {0}) (Unit {0}) (of_exchange c.in_err-post_inside.field-0.0) c.in_ok-make_room.ensures.last
    (exchange_inside (Unit {0}) (Unit {0}) c.in_err-post_inside.field-0.0 c.in_err-post_inside.ensures.last))

pub returns-clause-last : goal.returns-clause-last
returns-clause-last g c = went_then c.in_ok-make_room.ensures.last c.in_ok-post_inside.ensures.last

pub returns-in_err-make_room-clause-only : goal.returns-in_err-make_room-clause-only
returns-in_err-make_room-clause-only g c =
    let p = err_from_is_err_and c.from_residual.result c.from_residual.ensures.1 in
    rw (p.1, p.2) (c.in_err-make_room.ensures.only)

pub returns-in_err-post_inside-clause-only : goal.returns-in_err-post_inside-clause-only
returns-in_err-post_inside-clause-only g c =
    let p = err_from_is_err_and c.from_residual-in_err-post_inside.result c.from_residual-in_err-post_inside.ensures.1 in
    rw (p.1, p.2) (exchange_no_read c.in_err-post_inside.field-0.0)

pub returns-in_err-make_room-clause-shown : goal.returns-in_err-make_room-clause-shown
returns-in_err-make_room-clause-shown g c =
    let p = err_from_is_err_and c.from_residual.result c.from_residual.ensures.1 in
    rw (p.1, p.2) (c.in_err-make_room.ensures.shown)

pub returns-in_err-post_inside-clause-shown : goal.returns-in_err-post_inside-clause-shown
returns-in_err-post_inside-clause-shown g c =
    let p = err_from_is_err_and c.from_residual-in_err-post_inside.result c.from_residual-in_err-post_inside.ensures.1 in
    rw (p.1, p.2) (work_late (Unit {0}) (Unit {0}) (of_exchange c.in_err-post_inside.field-0.0)
    (g.S.Site.told c.post_inside.new.site) c.in_ok-make_room.ensures.last
    (post_shown (Unit {0})
    (still_c c.args.collecting.now c.args.collector.now c.make_room.new.collector c.requires.started
    c.make_room.ensures.same.collector)
    c.in_err-post_inside.field-0.0 c.in_err-post_inside.ensures.script))

pub returns-in_err-make_room-clause-acts : goal.returns-in_err-make_room-clause-acts
returns-in_err-make_room-clause-acts g c = c.make_room.ensures.acts

pub returns-in_err-post_inside-clause-acts : goal.returns-in_err-post_inside-clause-acts
returns-in_err-post_inside-clause-acts g c =
    rest_then c.make_room.ensures.acts
    (post_acts (ap (λ (w : Who). w.role) c.requires.started)
    (c.in_ok-make_room.ensures.free.same.rest.addresses ∙ c.requires.address) c.post_inside.ensures.script)

pub returns-clause-acts : goal.returns-clause-acts
returns-clause-acts g c =
    rest_then c.make_room.ensures.acts
    (post_acts (ap (λ (w : Who). w.role) c.requires.started)
    (c.in_ok-make_room.ensures.free.same.rest.addresses ∙ c.requires.address) c.post_inside.ensures.script)

pub returns-in_err-make_room-clause-rows : goal.returns-in_err-make_room-clause-rows
returns-in_err-make_room-clause-rows g c stamped started acting run =
    let p = err_from_is_err_and c.from_residual.result c.from_residual.ensures.1 in
    rw (p.1, p.2) (c.in_err-make_room.ensures.rows stamped started acting run)

pub returns-in_err-post_inside-clause-rows : goal.returns-in_err-post_inside-clause-rows
returns-in_err-post_inside-clause-rows g c stamped started acting run =
    let p = err_from_is_err_and c.from_residual-in_err-post_inside.result c.from_residual-in_err-post_inside.ensures.1 in
    rw (p.1, p.2)
    (own_plain c.args.collector.now c.post_inside.new.collector c.args.agent.now c.post_inside.new.agent
    (of_exchange c.in_err-post_inside.field-0.0)
    (went_then c.in_ok-make_room.ensures.last c.in_err-post_inside.ensures.last)
    (exchange_plain c.in_err-post_inside.field-0.0) stamped started acting run)

pub returns-clause-rows : goal.returns-clause-rows
returns-clause-rows g c =
    own_then c.args.collector.now c.make_room.new.collector c.post_inside.new.collector c.args.agent.now c.make_room.new.agent
    c.post_inside.new.agent (Ok tt) c.make_room.ensures.same.collector c.in_ok-make_room.ensures.free.same.source
    c.in_ok-make_room.ensures.rows c.in_ok-make_room.ensures.joint
    (own_posted c.args.collecting.now c.make_room.new.collector c.post_inside.new.collector c.make_room.new.agent
    c.post_inside.new.agent
    (still_c c.args.collecting.now c.args.collector.now c.make_room.new.collector c.requires.started c.make_room.ensures.same.collector)
    c.in_ok-post_inside.ensures.rows)
