use Rattle.chk_ctl_verify.proofs.Steps.{no_quiet}
use Rattle.chk_ctl_verify.specs.Files.{MarkSeen}
use Rattle.std.proofs.Common.{List, refl, subst, ℕ, ◌++◌}
use Rattle.std.specs.Prelude.{IfOk}
use Rattle.chk_ctl_verify.proofs.sinks.look_at_mark_of.Goals as goal

pub returns-in-Ok : goal.returns-in-Ok
returns-in-Ok g c =
    record {
      told = subst (λ (n : List ℕ). IfOk c.look_with_mark.result (λ found. MarkSeen c.args.least n
          ((c.args.folder.now ++ c.args.front.now) ++ c.args.ending.now) found (g.S.Site.told
          c.args.site.now) (g.S.Site.told c.look_with_mark.new.site))) (c.in-Ok.ensures)
          c.look_with_mark.ensures.told;
      own = c.look_with_mark.ensures.own;
      cause = c.look_with_mark.ensures.cause;
    }

pub returns-in-Err : goal.returns-in-Err
returns-in-Err g c =
    record {
      told = tt;
      own = no_quiet (g.S.Site.told c.args.site.now);
      cause = refl;
    }
