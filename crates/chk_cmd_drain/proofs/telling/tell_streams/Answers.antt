use Rattle.std.proofs.Common.{◌+◌, ◌∙◌, List, Ok, Err, ℕ, drop, map, subst, sym}
use Rattle.std.proofs.Math.ListN.{drop_of_length-le}
use Rattle.std.proofs.lemmas.Result.{err_from_is_err_and}
use Rattle.chk_agent.specs.States.{State}
use Rattle.chk_site.specs.Site.{OutsideCause}
use Rattle.chk_cmd_output.specs.Printing.{PrintsInTurn, all_printed}
use Rattle.chk_cmd_output.proofs.Printed.{prints_then, prints_ended}
use Rattle.chk_cmd_drain.specs.Streams.{told_line}
use Rattle.chk_cmd_drain.proofs.InOrder.{next_number}
use Rattle.chk_cmd_drain.proofs.telling.tell_streams.Goals as goal

abbrev lines : State → List ℕ → List (List ℕ)
lines s numbers = map {A = ℕ} {B = List ℕ} (told_line s) numbers

pub returns-in_err-tell_stream-clause-told : goal.returns-in_err-tell_stream-clause-told
returns-in_err-tell_stream-clause-told g c =
    let p = err_from_is_err_and c.from_residual.result c.from_residual.ensures.1 in
    let l = c.loop-number in
    let numbers = c.args.numbers.now in
    let fault = c.in_err-tell_stream.field-0.0 in
    let next = next_number numbers l.number-index c.loop-number-test.true in
    rw (p.1, p.2)
    (l.invariant.behind (Err fault) (g.S.Site.told c.tell_stream.new.site)
    (subst (λ (es : List ℕ). PrintsInTurn c.args.who.now (lines c.args.agent.now es) (Err fault)
    (g.S.Site.told l.site) (g.S.Site.told c.tell_stream.new.site)) (sym next)
    (prints_ended (lines c.args.agent.now (drop (l.number-index + 1) numbers))
    c.in_err-tell_stream.ensures.told)))

pub returns-in_err-tell_stream-clause-cause : goal.returns-in_err-tell_stream-clause-cause
returns-in_err-tell_stream-clause-cause g c =
    let p = err_from_is_err_and c.from_residual.result c.from_residual.ensures.1 in
    rw (p.1, p.2)
    (subst (λ (n : ℕ). OutsideCause {T = Unit {0}} n (g.S.Site.fault_count c.tell_stream.new.site)
    (Err c.in_err-tell_stream.field-0.0)) c.loop-number.invariant.count
    c.in_err-tell_stream.ensures.cause)

pub loop-number-preserved : goal.loop-number-preserved
loop-number-preserved g c =
    let l = c.loop-number in
    let numbers = c.args.numbers.now in
    let next = next_number numbers l.number-index c.loop-number-test.true in
    record {
      count = c.in_ok-tell_stream.ensures.cause ∙ l.invariant.count;
      behind = λ result new rest.
          l.invariant.behind result new
          (subst (λ (es : List ℕ). PrintsInTurn c.args.who.now (lines c.args.agent.now es) result
          (g.S.Site.told l.site) new) (sym next)
          (prints_then c.in_ok-tell_stream.ensures.told rest));
    }

pub returns-clause-told : goal.returns-clause-told
returns-clause-told g c =
    let numbers = c.args.numbers.now in
    c.loop-number.invariant.behind (Ok tt) (g.S.Site.told c.loop-number.site)
    (subst (λ (es : List ℕ). PrintsInTurn c.args.who.now (lines c.args.agent.now es) (Ok tt)
    (g.S.Site.told c.loop-number.site) (g.S.Site.told c.loop-number.site))
    (sym (drop_of_length-le numbers c.loop-number-test.false)) all_printed)
