use Rattle.std.proofs.Common.{◌∙◌, refl}
use Rattle.chk_site.specs.History.{Every}
use Rattle.chk_site.proofs.Runs.{adds_none}
use Rattle.chk_world.specs.JobSteps.{IsOf}
use Rattle.chk_ctl_audit_log.specs.Placing.{ReadsLogOf}
use Rattle.chk_ctl_audit_log.proofs.Owned.{stepped_own}
use Rattle.chk_ctl_audit_log.proofs.Placed.{cause_as}
use Rattle.chk_tail.specs.declared.step.Step.{Step}
use Rattle.std.proofs.Common.{Bool}
use Rattle.chk_ctl_audit_log.proofs.Logs.{filled, some_left, stepped_path, takes_path}
use Rattle.chk_ctl_audit_log.proofs.ahead.Ahead.fill.Goals as goal

pub returns-then-has_left : goal.returns-then-has_left
returns-then-has_left g c =
    let now = g.S.Site.told c.args.site.now in
    record {
      told = λ from passed before at.
          (at, some_left c.args.self.now (c.has_left.ensures.some c.if-has_left.true));
      own = adds_none now (Every (IsOf (ReadsLogOf c.args.self.now.reader.path))) (λ history. tt);
      path = refl;
      cause = refl;
    }

pub returns-in-Ok : goal.returns-in-Ok
returns-in-Ok g c =
    let old = c.args.self.now in
    let who = c.args.who.now in
    let told = c.step.ensures.told in
    record {
      told = λ from passed before at.
          filled who from passed old _ c.take.new.self c.in-Ok.step c.take.result at
          (c.has_left.ensures.none c.if-has_left.false) c.in-Ok.ensures.told c.take.ensures;
      own = stepped_own who old.reader c.step.new.self c.step.result c.requires.job told;
      path = takes_path _ c.take.new.self c.in-Ok.step c.take.result c.take.ensures
          ∙ stepped_path who old.reader c.step.new.self c.step.result told;
      cause = c.in-Ok.ensures.cause;
    }

pub returns-in-Err : goal.returns-in-Err
returns-in-Err g c =
    let old = c.args.self.now in
    let who = c.args.who.now in
    let told = c.step.ensures.told in
    record {
      told = λ from passed before at. tt;
      own = stepped_own who old.reader c.step.new.self c.step.result c.requires.job told;
      path = stepped_path who old.reader c.step.new.self c.step.result told;
      cause = cause_as Step Bool c.in-Err.fault (g.S.Site.fault_count c.args.site.now)
          (g.S.Site.fault_count c.step.new.site) c.in-Err.ensures.cause;
    }
