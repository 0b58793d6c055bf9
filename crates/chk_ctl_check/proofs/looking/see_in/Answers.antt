use Rattle.std.proofs.Common.{Err, List, arith, subst, sym}
use Rattle.std.proofs.lemmas.Result.{IfOk-weaker}
use Rattle.chk_ctl_check.specs.declared.trouble.Trouble.{Trouble}
use Rattle.chk_ctl_check.specs.Logs.{LogSeen, listed, unlisted}
use Rattle.chk_ctl_check.specs.Looking.{AsksOfLogs, lists}
use Rattle.chk_ctl_check.proofs.OwnCalls.{call_own, count_of, own_then}
use Rattle.chk_ctl_check.proofs.looking.see_in.Goals as goal

pub returns-in-Ok : goal.returns-in-Ok
returns-in-Ok g c =
    let t = g.S.Site.told c.args.site.now in
    let u = g.S.Site.told c.see_names.new.site in
    let seen = rw c.deref.ensures.value at c.see_names.ensures.told in
    record {
      told = IfOk-weaker c.see_names.result _ _
          (λ troubles one.
          subst (λ (ts : List Trouble). LogSeen c.args.class c.args.path.now ts t u) (sym one.2)
          (listed c.args.folder.now c.args.base.now c.in-Ok.names.items one.0 c.requires.stands
          (rw c.requires.job at c.in-Ok.ensures.told) one.1)) seen;
      own = own_then AsksOfLogs
          (call_own AsksOfLogs _ c.requires.job (lists c.args.folder.now) c.in-Ok.ensures.told)
          c.see_names.ensures.own;
      count = omega (arith, c.in-Ok.ensures.cause, c.see_names.ensures.count);
    }

pub returns-in-Err-Failed : goal.returns-in-Err-Failed
returns-in-Err-Failed g c =
    let t = g.S.Site.told c.args.site.now in
    let u = g.S.Site.told c.list.new.self in
    let told = rw c.in-Err-Failed.field-0-is at c.in-Err-Failed.ensures.told in
    record {
      told = IfOk-weaker c.one.result _ _
          (λ troubles is.
          subst (λ (ts : List Trouble). LogSeen c.args.class c.args.path.now ts t u) (sym is)
          (unlisted c.args.folder.now c.args.base.now c.requires.stands
          (rw c.requires.job at told))) c.one.ensures;
      own = call_own AsksOfLogs _ c.requires.job (lists c.args.folder.now) told;
      count = (rw c.in-Err-Failed.field-0-is at c.in-Err-Failed.ensures.cause).1;
    }

pub returns-in-Err : goal.returns-in-Err
returns-in-Err g c = record {
  told = tt;
  own = call_own AsksOfLogs _ c.requires.job (lists c.args.folder.now) c.in-Err.ensures.told;
  count = count_of (Unit {0}) _ _ (Err c.in-Err.field-0) c.in-Err.ensures.cause;
}
