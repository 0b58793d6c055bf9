use Rattle.std.proofs.Common.{◌≡◌, ◌+◌, ◌∙◌, List, [], Ok, Err, ℕ, drop, subst, sym, ap, arith}
use Rattle.std.proofs.Math.ListN.{drop_of_length-le}
use Rattle.std.proofs.lemmas.Result.{err_from_is_err_and}
use Rattle.chk_agent_adaptor.specs.Adaptors.{Adaptor}
use Rattle.chk_agent.specs.States.{lines_at}
use Rattle.chk_cmd_output.specs.Printing.{PrintsInTurn, all_printed}
use Rattle.chk_cmd_round.specs.Telling.{stream_lines}
use Rattle.chk_cmd_round.proofs.Joined.{prints_cut, prints_on}
use Rattle.chk_cmd_round.proofs.Lines.{lines_next, some_at}
use Rattle.chk_cmd_round.proofs.telling.tell_streams.Goals as goal

pub returns-in_err-tell_stream-clause-told : goal.returns-in_err-tell_stream-clause-told
returns-in_err-tell_stream-clause-told g c =
    let p = err_from_is_err_and c.from_residual.result c.from_residual.ensures.1 in
    let l = c.loop-number in
    let s = c.args.agent.now in
    let name = c.args.who.now.name in
    let fault = c.in_err-tell_stream.field-0.0 in
    let test = c.loop-number-test.true in
    let count = c.adaptors-count.ensures in
    let a = some_at s.adaptors l.number (omega (arith, test, count)) in
    rw (p.1, p.2)
    (l.invariant.behind (Err fault) (g.S.Site.told c.tell_stream.new.site)
    (subst (λ (ls : List (List ℕ)). PrintsInTurn c.args.who.now ls (Err fault) (g.S.Site.told l.site) (g.S.Site.told c.tell_stream.new.site))
    (sym (lines_next name s l.number a.0 a.1))
    (prints_cut (stream_lines name (lines_at (drop (l.number + 1) s.adaptors) (drop (l.number + 1) s.delivery.table.committed)))
    c.in_err-tell_stream.ensures.told)))

pub loop-number-preserved : goal.loop-number-preserved
loop-number-preserved g c =
    let l = c.loop-number in
    let s = c.args.agent.now in
    let name = c.args.who.now.name in
    let test = c.loop-number-test.true in
    let count = c.adaptors-count.ensures in
    let a = some_at s.adaptors l.number (omega (arith, test, count)) in
    record {
      count = c.in_ok-tell_stream.ensures.cause ∙ l.invariant.count;
      behind = λ result new rest.
          l.invariant.behind result new
          (subst (λ (ls : List (List ℕ)). PrintsInTurn c.args.who.now ls result (g.S.Site.told l.site) new)
          (sym (lines_next name s l.number a.0 a.1)) (prints_on c.in_ok-tell_stream.ensures.told rest));
    }

pub returns-clause-told : goal.returns-clause-told
returns-clause-told g c =
    let l = c.loop-number in
    let s = c.args.agent.now in
    let name = c.args.who.now.name in
    let test = c.loop-number-test.false in
    let count = c.adaptors-count.ensures in
    let none : drop l.number s.adaptors ≡ [] = drop_of_length-le s.adaptors (omega (arith, test, count)) in
    l.invariant.behind (Ok tt) (g.S.Site.told l.site)
    (subst (λ (ls : List (List ℕ)). PrintsInTurn c.args.who.now ls (Ok tt) (g.S.Site.told l.site) (g.S.Site.told l.site))
    (sym (ap (λ (xs : List Adaptor). stream_lines name (lines_at xs (drop l.number s.delivery.table.committed))) none)) all_printed)
