use Rattle.std.proofs.Common.{◌∙◌, List, Ok, Err, refl, subst, sym}
use Rattle.std.proofs.Math.ListN.{drop_of_length-le}
use Rattle.chk_book.specs.declared.lists.End.{End}
use Rattle.chk_checkpoint.specs.Lines.{lines_of}
use Rattle.chk_ctl_audit.specs.Finding.{all_found, FindsLines}
use Rattle.chk_ctl_audit.proofs.Steps.{finds_next, finds_stop, job_then}
use Rattle.chk_ctl_audit.proofs.agents.find_lines.Goals as goal

pub loop-end-init : goal.loop-end-init
loop-end-init g c = record { count = refl; behind = λ result last new rest. rest }

pub loop-end-preserved : goal.loop-end-preserved
loop-end-preserved g c =
    let l = c.loop-end in
    record {
      count = c.in-Ok.ensures.cause ∙ l.invariant.count;
      behind = λ result last new rest.
          l.invariant.behind result last new
          (finds_next (lines_of c.args.check.now) result last c.args.ends.now l.end-index
          c.end-item.result l.rests.items c.find_line.new.rests.items c.loop-end-test.true
          c.end-item.is c.in-Ok.ensures.told rest);
    }

pub returns-in-Err : goal.returns-in-Err
returns-in-Err g c =
    let l = c.loop-end in
    let fault = c.in-Err.fault in
    record {
      told = l.invariant.behind (Err fault) c.find_line.new.rests.items
          (g.S.Site.told c.find_line.new.site)
          (finds_stop (lines_of c.args.check.now) fault c.find_line.new.rests.items
          c.args.ends.now l.end-index c.end-item.result l.rests.items c.loop-end-test.true
          c.end-item.is c.in-Err.ensures.told);
      only = c.in-Err.ensures.only;
      cause = job_then {T = Unit {0}} (Err fault) (g.S.Site.fault_count c.args.site.now)
          (g.S.Site.fault_count l.site) (g.S.Site.fault_count c.find_line.new.site)
          l.invariant.count c.in-Err.ensures.cause;
    }

pub returns : goal.returns
returns g c =
    let l = c.loop-end in
    let now = g.S.Site.told l.site in
    record {
      told = l.invariant.behind (Ok tt) l.rests.items now
          (subst (λ (es : List End). FindsLines (lines_of c.args.check.now) (Ok tt) l.rests.items
          es l.rests.items now now)
          (sym (drop_of_length-le c.args.ends.now c.loop-end-test.false)) (all_found refl refl));
      only = tt;
      cause = l.invariant.count;
    }
