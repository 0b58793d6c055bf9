use Rattle.std.proofs.Common.{◌≡◌, ◌<◌, ◌++◌, ◌∙◌, [], length, refl, ap, subst, arith}
use Rattle.std.proofs.lemmas.Result.{err_from_is_err_and}
use Rattle.chk_collector_run.specs.Messages.{IsOpen, IsShut, whole, over, broken, unread, unkept}
use Rattle.chk_collector_run.proofs.Counts.{risen_then}
use Rattle.chk_collector_run.proofs.Reading.{read_begins, read_more, no_bytes}
use Rattle.chk_collector_run.proofs.message.read_on.Goals as goal

pub loop-alloc-init : goal.loop-alloc-init
loop-alloc-init g c =
    read_begins c.args.who.now c.args.number c.args.begun (g.S.Site.told c.args.site.now)
    (g.S.Site.fault_count c.args.site.now)

pub loop-alloc-preserved : goal.loop-alloc-preserved
loop-alloc-preserved g c =
    let some : 0 < length c.in-Some.piece = omega (arith, c.len.ensures, c.if-len-eq0.false) in
    let e : c.push_all.new.self ≡ c.loop-alloc.bytes ++ c.in-Some.piece =
    c.in_ok-push_all.ensures.ok ∙ ap (λ q. c.loop-alloc.bytes ++ q) c.as_slice-in-loop-alloc.ensures in
    rw e
    (read_more c.loop-alloc.invariant c.in-Some.piece (g.S.Site.told c.next_piece.new.site)
    (g.S.Site.fault_count c.next_piece.new.site)
    (subst IsOpen c.as_slice.ensures (c.loop-alloc-test.ensures.unread refl)) some
    (rw c.in-Some.is at c.in_ok-came.ensures.call) c.next_piece.ensures.count)

pub returns-in_err-came-clause-script : goal.returns-in_err-came-clause-script
returns-in_err-came-clause-script g c =
    let p = err_from_is_err_and c.from_residual.result c.from_residual.ensures.1 in
    rw p.1
    (c.loop-alloc.invariant.later _ _
    (unread (subst IsOpen c.as_slice.ensures (c.loop-alloc-test.ensures.unread refl))
    c.in_err-came.ensures.call))

pub returns-in_err-came-clause-count : goal.returns-in_err-came-clause-count
returns-in_err-came-clause-count g c =
    risen_then _ _ _ c.loop-alloc.invariant.risen c.next_piece.ensures.count

pub returns-in_default-clause-script : goal.returns-in_default-clause-script
returns-in_default-clause-script g c =
    c.loop-alloc.invariant.later _ _
    (broken (subst IsOpen c.as_slice.ensures (c.loop-alloc-test.ensures.unread refl))
    (rw c.in_default.is at c.in_ok-came.ensures.call))

pub returns-in_default-clause-count : goal.returns-in_default-clause-count
returns-in_default-clause-count g c =
    risen_then _ _ _ c.loop-alloc.invariant.risen c.next_piece.ensures.count

pub returns-then-len-eq0-clause-script : goal.returns-then-len-eq0-clause-script
returns-then-len-eq0-clause-script g c =
    let e : c.in-Some.piece ≡ [] = no_bytes c.in-Some.piece (omega (arith, c.len.ensures, c.if-len-eq0.true)) in
    c.loop-alloc.invariant.later _ _
    (over (subst IsOpen c.as_slice.ensures (c.loop-alloc-test.ensures.unread refl))
    (rw e at (rw c.in-Some.is at c.in_ok-came.ensures.call)))

pub returns-then-len-eq0-clause-count : goal.returns-then-len-eq0-clause-count
returns-then-len-eq0-clause-count g c =
    risen_then _ _ _ c.loop-alloc.invariant.risen c.next_piece.ensures.count

pub returns-in_err-push_all-clause-script : goal.returns-in_err-push_all-clause-script
returns-in_err-push_all-clause-script g c =
    let p = err_from_is_err_and c.from_residual-in_err-push_all.result
    c.from_residual-in_err-push_all.ensures.1 in
    let some : 0 < length c.in-Some.piece = omega (arith, c.len.ensures, c.if-len-eq0.false) in
    rw p.1
    (c.loop-alloc.invariant.later _ _
    (unkept c.in-Some.piece (subst IsOpen c.as_slice.ensures (c.loop-alloc-test.ensures.unread refl))
    some (rw c.in-Some.is at c.in_ok-came.ensures.call)))

pub returns-in_err-push_all-clause-count : goal.returns-in_err-push_all-clause-count
returns-in_err-push_all-clause-count g c =
    risen_then _ _ _ c.loop-alloc.invariant.risen c.next_piece.ensures.count

pub returns-clause-script : goal.returns-clause-script
returns-clause-script g c =
    c.loop-alloc.invariant.later _ _
    (whole (subst IsShut c.as_slice.ensures (c.loop-alloc-test.ensures.shut refl)))

pub returns-clause-count : goal.returns-clause-count
returns-clause-count g c = c.loop-alloc.invariant.risen
