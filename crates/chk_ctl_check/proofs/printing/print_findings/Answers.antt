use Rattle.std.proofs.Common.{◌+◌, ◌∙◌, List, Ok, Err, ℕ, drop, subst, sym}
use Rattle.std.proofs.Math.ListN.{drop_of_length-le}
use Rattle.std.proofs.lemmas.Result.{err_from_is_err_and}
use Rattle.chk_ctl_check.specs.declared.finding.Finding.{Finding}
use Rattle.chk_site.specs.Site.{OutsideCause}
use Rattle.chk_cmd_output.specs.Printing.{PrintsInTurn, all_printed}
use Rattle.chk_cmd_output.proofs.Printed.{prints_then, prints_ended}
use Rattle.chk_ctl_check.specs.Lines.{finding_lines}
use Rattle.chk_ctl_check.proofs.FindingLines.{next_at}
use Rattle.chk_ctl_check.proofs.printing.print_findings.Goals as goal

pub returns-in_err-print_finding-clause-told : goal.returns-in_err-print_finding-clause-told
returns-in_err-print_finding-clause-told g c =
    let p = err_from_is_err_and c.from_residual.result c.from_residual.ensures.1 in
    let l = c.loop-finding in
    let ends = c.args.findings.now in
    let fault = c.in_err-print_finding.field-0.0 in
    let next = next_at ends l.finding-index _ c.loop-finding-test.true in
    rw (p.1, p.2)
    (l.invariant.behind (Err fault) (g.S.Site.told c.print_finding.new.site)
    (subst (λ (es : List Finding). PrintsInTurn c.args.who.now (finding_lines es) (Err fault)
    (g.S.Site.told l.site) (g.S.Site.told c.print_finding.new.site)) (sym next)
    (prints_ended (finding_lines (drop (l.finding-index + 1) ends))
    c.in_err-print_finding.ensures.told)))

pub returns-in_err-print_finding-clause-cause : goal.returns-in_err-print_finding-clause-cause
returns-in_err-print_finding-clause-cause g c =
    let p = err_from_is_err_and c.from_residual.result c.from_residual.ensures.1 in
    rw (p.1, p.2)
    (subst (λ (n : ℕ). OutsideCause {T = Unit {0}} n (g.S.Site.fault_count c.print_finding.new.site)
    (Err c.in_err-print_finding.field-0.0)) c.loop-finding.invariant.count
    c.in_err-print_finding.ensures.cause)

pub loop-finding-preserved : goal.loop-finding-preserved
loop-finding-preserved g c =
    let l = c.loop-finding in
    let ends = c.args.findings.now in
    let next = next_at ends l.finding-index _ c.loop-finding-test.true in
    record {
      count = c.in_ok-print_finding.ensures.cause ∙ l.invariant.count;
      behind = λ result new rest.
          l.invariant.behind result new
          (subst (λ (es : List Finding). PrintsInTurn c.args.who.now (finding_lines es) result
          (g.S.Site.told l.site) new) (sym next)
          (prints_then c.in_ok-print_finding.ensures.told rest));
    }

pub returns-clause-told : goal.returns-clause-told
returns-clause-told g c =
    let ends = c.args.findings.now in
    c.loop-finding.invariant.behind (Ok tt) (g.S.Site.told c.loop-finding.site)
    (subst (λ (es : List Finding). PrintsInTurn c.args.who.now (finding_lines es) (Ok tt)
    (g.S.Site.told c.loop-finding.site) (g.S.Site.told c.loop-finding.site))
    (sym (drop_of_length-le ends c.loop-finding-test.false)) all_printed)
