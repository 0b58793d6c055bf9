use Rattle.std.proofs.Common.{inl, refl, arith}
use Rattle.std.proofs.lemmas.Result.{err_from_is_err_and}
use Rattle.chk_exchange.proofs.Reading.{read_so, none_made, some_made, untold_made}
use Rattle.chk_exchange.proofs.made.fault_told.Goals as goal

pub returns-then-reply-ne503-clause-told : goal.returns-then-reply-ne503-clause-told
returns-then-reply-ne503-clause-told c o is =
    let r = c.in-Ok.reply in
    none_made o c.args.reply.now is (omega arith) r.code r.body.now
    ((c.in-Ok.ensures.reply r.code r.body.now).0 (refl, refl))
    (λ e. omega (arith, e, c.if-reply-ne503.true))

pub returns-then-reply-ne503-clause-read : goal.returns-then-reply-ne503-clause-read
returns-then-reply-ne503-clause-read c o is =
    let r = c.in-Ok.reply in
    read_so o c.args.reply.now is (omega arith) r.code r.body.now
    ((c.in-Ok.ensures.reply r.code r.body.now).0 (refl, refl))

pub returns-in_ok-fault-in-Ok-clause-told : goal.returns-in_ok-fault-in-Ok-clause-told
returns-in_ok-fault-in-Ok-clause-told c o is =
    let r = c.in-Ok.reply in
    some_made o c.args.reply.now is (omega arith) r.code r.body.now
    ((c.in-Ok.ensures.reply r.code r.body.now).0 (refl, refl))
    (omega (arith, c.if-reply-ne503.false))
    c.in_ok-fault-in-Ok.fault c.in_ok-fault-in-Ok.ensures.told

pub returns-in_ok-fault-in-Ok-clause-read : goal.returns-in_ok-fault-in-Ok-clause-read
returns-in_ok-fault-in-Ok-clause-read c o is =
    let r = c.in-Ok.reply in
    read_so o c.args.reply.now is (omega arith) r.code r.body.now
    ((c.in-Ok.ensures.reply r.code r.body.now).0 (refl, refl))

pub returns-in_err-fault-in-Ok-clause-untold : goal.returns-in_err-fault-in-Ok-clause-untold
returns-in_err-fault-in-Ok-clause-untold c o is =
    let r = c.in-Ok.reply in
    let p = err_from_is_err_and c.from_residual.result c.from_residual.ensures.1 in
    rw p.1
    (untold_made o c.args.reply.now is (omega arith) r.code r.body.now
    ((c.in-Ok.ensures.reply r.code r.body.now).0 (refl, refl))
    (omega (arith, c.if-reply-ne503.false)) c.in_err-fault-in-Ok.ensures.untold)

pub returns-in-Err-clause-untold : goal.returns-in-Err-clause-untold
returns-in-Err-clause-untold c o is =
    inl (λ code body read. (c.in-Err.ensures.reply code body).1 read)
