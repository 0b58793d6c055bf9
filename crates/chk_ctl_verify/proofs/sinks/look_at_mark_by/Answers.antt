use Rattle.std.proofs.Common.{List, subst, ℕ}
use Rattle.std.specs.Prelude.{IfOk}
use Rattle.chk_ctl_verify.specs.Files.{MarkSeen}
use Rattle.chk_ctl_verify.proofs.sinks.look_at_mark_by.Goals as goal

pub returns : goal.returns
returns g c =
    let old = g.S.Site.told c.args.site.now in
    let new = g.S.Site.told c.look_at_mark.new.site in
    record {
      told = subst (λ (n : List ℕ). IfOk c.look_at_mark.result
          (λ found. MarkSeen c.args.least c.args.mark.now n found old new))
          c.as_str-whose.ensures.text
          (subst (λ (n : List ℕ). IfOk c.look_at_mark.result
          (λ found. MarkSeen c.args.least n c.as_str-whose.result.now found old new))
          c.as_str-name.ensures.text c.look_at_mark.ensures.told);
      own = c.look_at_mark.ensures.own;
      cause = c.look_at_mark.ensures.cause;
    }
