use Rattle.chk_ctl_audit_log.proofs.Logs.{ends_met, next_met, next_of, path_of}
use Rattle.chk_ctl_audit_log.proofs.comparing.compare_next.Goals as goal

pub returns-in-Ok-true : goal.returns-in-Ok-true
returns-in-Ok-true g c =
    let old = c.fill.new.self in
    let p = c.pass.ensures in
    record {
      told = λ from passed before at.
          let f = rw c.in-Ok-true.field-0-test at (c.in-Ok-true.ensures.told from passed before at) in
          next_met c.args.who.now from passed c.args.rest.now old c.pass.new.self c.pass.result f.0
          c.requires.some f.1 p;
      own = c.in-Ok-true.ensures.own;
      path = path_of c.args.rest.now old c.pass.new.self c.pass.result p c.in-Ok-true.ensures.path;
      next = next_of c.args.rest.now old c.pass.new.self c.pass.result p;
      cause = c.in-Ok-true.ensures.cause;
    }

pub returns-in-Ok-false : goal.returns-in-Ok-false
returns-in-Ok-false g c = record {
  told = λ from passed before at.
      ends_met c.args.who.now from passed c.args.log.now c.place-at.result c.args.rest.now
      c.requires.some c.place-at.ensures at
      (rw c.in-Ok-false.field-0-test at (c.in-Ok-false.ensures.told from passed before at));
  own = c.in-Ok-false.ensures.own;
  path = c.in-Ok-false.ensures.path;
  next = tt;
  cause = c.in-Ok-false.ensures.cause;
}
