use Rattle.std.proofs.lemmas.Result.{err_from_is_err_and}
use Rattle.chk_exchange.specs.Exchanges.{untaken, none, taken}
use Rattle.chk_exchange.proofs.LeastTold.{replied_behind}
use Rattle.chk_exchange.proofs.Serving.{untaken_so, none_so, taken_so}
use Rattle.chk_exchange.proofs.answering.serve.Goals as goal

pub returns-in_err-taken-clause-script : goal.returns-in_err-taken-clause-script
returns-in_err-taken-clause-script g c =
    let p = err_from_is_err_and c.from_residual.result c.from_residual.ensures.1 in
    let call = c.in_err-taken.ensures.call in
    rw (p.1, p.2) (untaken c.in_err-taken.field-0.0 call.0 call.1 call.2)

pub returns-in_err-taken-clause-told : goal.returns-in_err-taken-clause-told
returns-in_err-taken-clause-told g c stamped started acting a m bytes sound in_c in_a acts_c =
    let p = err_from_is_err_and c.from_residual.result c.from_residual.ensures.1 in
    let call = c.in_err-taken.ensures.call in
    rw (p.1, p.2)
    (untaken_so stamped started acting c.args.collector.now a m bytes in_c in_a acts_c sound
    c.args.who.now c.requires.started
    c.requires.named call.0 call.2)

pub returns-in-None-clause-script : goal.returns-in-None-clause-script
returns-in-None-clause-script g c = none (rw c.in-None.is at c.in_ok-taken.ensures.call)

pub returns-in-None-clause-told : goal.returns-in-None-clause-told
returns-in-None-clause-told g c stamped started acting a m bytes sound in_c in_a acts_c =
    none_so stamped started acting c.args.collector.now a m bytes in_c in_a acts_c sound
    c.args.who.now c.requires.started
    c.requires.named _ (rw c.in-None.is at c.in_ok-taken.ensures.call)

pub returns-in-Some-clause-script : goal.returns-in-Some-clause-script
returns-in-Some-clause-script g c =
    taken c.in-Some.taking (rw c.in-Some.is at c.in_ok-taken.ensures.call) c.respond.ensures.script

pub returns-in-Some-clause-told : goal.returns-in-Some-clause-told
returns-in-Some-clause-told g c stamped started acting a m bytes sound in_c in_a acts_c =
    taken_so stamped started acting c.args.collector.now a m bytes in_c in_a acts_c sound
    c.args.who.now c.requires.started
    c.requires.named c.in-Some.taking c.respond.new.collector c.respond.result _ _
    (λ request reply. replied_behind (rw c.in-Some.is at c.in_ok-taken.ensures.call))
    (rw c.in-Some.is at c.in_ok-taken.ensures.call)
    (c.respond.ensures.told stamped started acting a m sound in_c in_a acts_c)
