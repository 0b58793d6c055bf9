use Rattle.std.proofs.Common.{◌∙◌, List, Ok, Err, ℕ, subst, sym}
use Rattle.std.proofs.lemmas.Result.{err_from_is_err_and}
use Rattle.chk_site.specs.Site.{OutsideCause}
use Rattle.chk_world.specs.Checkpoints.{Line}
use Rattle.chk_checkpoint.specs.Lines.{shown}
use Rattle.chk_ctl_status_rows.specs.Agents.{logs_ended, no_logs, one_log, SeesLogs}
use Rattle.chk_ctl_status_rows.proofs.Turns.{next_as, none_of}
use Rattle.chk_ctl_status_rows.proofs.agents.add_ends.Goals as goal

pub returns-in_err-add_end-clause-told : goal.returns-in_err-add_end-clause-told
returns-in_err-add_end-clause-told g c =
    let p = err_from_is_err_and c.from_residual.result c.from_residual.ensures.1 in
    let l = c.loop-line in
    let lines = c.args.lines.now in
    let fault = c.in_err-add_end.field-0.0 in
    let new = g.S.Site.told c.add_end.new.site in
    let next = next_as shown lines l.line-index c.line-item.result c.loop-line-test.true
    c.line-item.is in
    rw (p.1, p.2)
    (l.invariant.behind (Err fault) new
    (subst (λ (ls : List Line). SeesLogs c.args.who.now l.ends.items ls (Err fault)
    (g.S.Site.told l.site) new) (sym next) (logs_ended c.in_err-add_end.ensures.told)))

pub returns-in_err-add_end-clause-cause : goal.returns-in_err-add_end-clause-cause
returns-in_err-add_end-clause-cause g c =
    let p = err_from_is_err_and c.from_residual.result c.from_residual.ensures.1 in
    rw (p.1, p.2)
    (subst (λ (n : ℕ). OutsideCause {T = Unit {0}} n (g.S.Site.fault_count c.add_end.new.site)
    (Err c.in_err-add_end.field-0.0)) c.loop-line.invariant.count c.in_err-add_end.ensures.cause)

pub loop-line-preserved : goal.loop-line-preserved
loop-line-preserved g c =
    let l = c.loop-line in
    let lines = c.args.lines.now in
    let next = next_as shown lines l.line-index c.line-item.result c.loop-line-test.true
    c.line-item.is in
    record {
      count = c.in_ok-add_end.ensures.cause ∙ l.invariant.count;
      behind = λ result new rest.
          l.invariant.behind result new
          (subst (λ (ls : List Line). SeesLogs c.args.who.now l.ends.items ls result
          (g.S.Site.told l.site) new) (sym next) (one_log c.in_ok-add_end.ensures.told rest));
    }

pub returns-clause-told : goal.returns-clause-told
returns-clause-told g c =
    let l = c.loop-line in
    let now = g.S.Site.told l.site in
    let ends = l.ends.items in
    let none = sym (none_of shown c.args.lines.now l.line-index c.loop-line-test.false) in
    l.invariant.behind (Ok ends) now
    (subst (λ (ls : List Line). SeesLogs c.args.who.now ends ls (Ok ends) now now) none no_logs)
