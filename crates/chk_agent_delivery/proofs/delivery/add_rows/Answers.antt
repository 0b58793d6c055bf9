use Rattle.std.proofs.Common.{◌-◌, ap, subst, arith}
use Rattle.chk_agent_delivery.proofs.Rows.{RowsOn, MayAdd, drop_at, may_add, rows_begin, rows_on, rows_end}
use Rattle.chk_agent_delivery.proofs.delivery.add_rows.Goals as goal

pub loop-place-init : goal.loop-place-init
loop-place-init c =
    rows_begin c.args.now c.args.owners.now.items c.args.front.now c.args.lines c.args.acks.now c.requires.as_many c.requires.turn c.requires.room
    c.free-sound.ensures.sound.as_many

-- the row that comes next
next_row : (c : goal.After-len) → MayAdd c.loop-place.acks c.index-owner.result.now c.index-front-place.result
next_row c =
    let l = c.loop-place in
    let below = c.loop-place-test.true in
    let owned = c.requires.owned in
    may_add c.args.now c.args.owners.now.items c.args.front.now c.args.lines c.args.acks.now l.place l.lines l.acks c.index-owner.result.now
    c.index-front-place.result l.invariant
    (drop_at c.args.owners.now.items l.place c.index-owner.result.now (omega (arith, below, owned)) c.index-owner.ensures)
    (drop_at c.args.front.now l.place c.index-front-place.result below c.index-front-place.is)

pub overflow_sub-begin : goal.overflow_sub-begin
overflow_sub-begin c = let n = (next_row c).next in omega (arith, n, c.len.ensures)

pub returns : goal.returns
returns c =
    let l = c.loop-place in
    rows_end c.args.now c.args.owners.now.items c.args.front.now c.args.lines c.args.acks.now l.place l.lines l.acks l.invariant
    c.loop-place-test.false

pub loop-place-preserved : goal.loop-place-preserved
loop-place-preserved c =
    let l = c.loop-place in
    let below = c.loop-place-test.true in
    let owned = c.requires.owned in
    rw c.answered.ensures.table
    (rows_on c.args.now c.args.owners.now.items c.args.front.now c.args.lines c.args.acks.now l.place _
    c.next.new.self l.acks c.index-owner.result.now _ c.index-front-place.result
    (subst (λ ks. RowsOn c.args.now c.args.owners.now.items c.args.front.now c.args.lines c.args.acks.now l.place ks l.acks) c.in-Some.ensures.item l.invariant)
    below
    (drop_at c.args.owners.now.items l.place c.index-owner.result.now (omega (arith, below, owned)) c.index-owner.ensures)
    (drop_at c.args.front.now l.place c.index-front-place.result below c.index-front-place.is)
    (ap (λ n. c.index-front-place.result.seq - n) c.len.ensures))
