use Rattle.std.proofs.Common.{ℕ, List, Option, None, Some, Ok, Err, map, subst}
use Rattle.chk_checkpoint.specs.declared.CheckLine.{CheckLine}
use Rattle.chk_checkpoint.specs.Lines.{shown}
use Rattle.chk_ctl_audit.specs.Finding.{failed, FindsOne, left_out, line_for}
use Rattle.chk_ctl_audit.proofs.Steps.{added_cause, added_only, call_cause, line_added, of_call}
use Rattle.chk_ctl_audit.proofs.agents.find_line.Goals as goal

pub returns-in-Ok-Some : goal.returns-in-Ok-Some
returns-in-Ok-Some g c =
    let old = g.S.Site.told c.args.site.now in
    let new = g.S.Site.told c.begin_of.new.site in
    let e = c.args.end.now in
    let begin = c.in-Ok-Some.begin in
    record {
      told = line_added _ e c.args.rests.now.items c.add_rest.new.rests.items begin
          c.add_rest.result
          (subst (λ (ls : List CheckLine). FindsOne (line_for (map shown ls) e) (Ok (Some begin)) old
          new) c.as_slice.ensures.value
          (rw c.in-Ok-Some.field-0-is at c.in-Ok-Some.ensures.told))
          c.add_rest.ensures.more c.add_rest.ensures.only;
      only = added_only c.add_rest.result c.add_rest.ensures.only;
      cause = added_cause c.add_rest.result (g.S.Site.fault_count c.args.site.now)
          (g.S.Site.fault_count c.begin_of.new.site) c.add_rest.ensures.only
          c.in-Ok-Some.ensures.cause;
    }

pub returns-in-Ok-None : goal.returns-in-Ok-None
returns-in-Ok-None g c =
    let old = g.S.Site.told c.args.site.now in
    let new = g.S.Site.told c.begin_of.new.site in
    let e = c.args.end.now in
    record {
      told = left_out (subst (λ (ls : List CheckLine). FindsOne (line_for (map shown ls) e)
          (Ok None) old new) c.as_slice.ensures.value
          (rw c.in-Ok-None.field-0-is at c.in-Ok-None.ensures.told));
      only = tt;
      cause = c.in-Ok-None.ensures.cause;
    }

pub returns-in-Err : goal.returns-in-Err
returns-in-Err g c =
    let old = g.S.Site.told c.args.site.now in
    let new = g.S.Site.told c.begin_of.new.site in
    let e = c.args.end.now in
    let fault = c.in-Err.fault in
    rw c.from.ensures
    (record {
      told = failed fault (subst (λ (ls : List CheckLine). FindsOne (line_for (map shown ls) e)
          (Err fault) old new) c.as_slice.ensures.value c.in-Err.ensures.told);
      only = of_call fault;
      cause = call_cause (Option ℕ) (Unit {0}) fault (g.S.Site.fault_count c.args.site.now)
          (g.S.Site.fault_count c.begin_of.new.site) c.in-Err.ensures.cause;
    })
