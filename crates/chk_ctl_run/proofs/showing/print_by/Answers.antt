use Rattle.std.proofs.Common.{subst, sym}
use Rattle.chk_ctl_streams.proofs.Again.{looks_again}
use Rattle.chk_ctl_run.specs.Runs.{PrintsBy}
use Rattle.chk_ctl_run.proofs.showing.print_by.Goals as goal

pub returns-then-again : goal.returns-then-again
returns-then-again g c = record {
  told = subst (λ b. PrintsBy b c.args.folder.now c.args.most c.args.course.now
      c.follow.new.course c.follow.result
      (g.S.Site.told c.args.site.now) (g.S.Site.told c.follow.new.site)) (sym c.if-again.true)
      c.follow.ensures.told;
  own = c.follow.ensures.own;
  cause = c.follow.ensures.cause;
}

pub returns : goal.returns
returns g c = record {
  told = subst (λ b. PrintsBy b c.args.folder.now c.args.most c.args.course.now
      c.print_on.new.course c.print_on.result
      (g.S.Site.told c.args.site.now) (g.S.Site.told c.print_on.new.site)) (sym c.if-again.false)
      c.print_on.ensures.told;
  own = looks_again c.print_on.ensures.own;
  cause = c.print_on.ensures.cause;
}
