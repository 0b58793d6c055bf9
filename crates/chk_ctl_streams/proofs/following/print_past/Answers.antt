use Rattle.std.proofs.Common.{Ok, refl, sym, ◌∙◌}
use Rattle.chk_site.specs.History.{Every}
use Rattle.chk_site.proofs.Runs.{adds_none}
use Rattle.chk_world.specs.JobSteps.{IsOf}
use Rattle.chk_ctl_cat.specs.declared.stream.Came.{Came}
use Rattle.chk_ctl_cat.specs.declared.stream.Came.TheVariants.{Whole}
use Rattle.chk_ctl_cat.specs.Faults.{FailsLast}
use Rattle.chk_ctl_cat.specs.Looking.{LooksOrSays}
use Rattle.chk_ctl_streams.specs.Following.{nothing_new, something_new}
use Rattle.chk_ctl_streams.proofs.following.print_past.Goals as goal

-- the book has no more of the stream
pub returns-then-not-is_past : goal.returns-then-not-is_past
returns-then-not-is_past g c = record {
  told = nothing_new (sym c.is_past.ensures ∙ c.if-not-is_past.true);
  own = adds_none (g.S.Site.told c.args.site.now) (Every (IsOf LooksOrSays)) (λ history. tt);
  last = adds_none (g.S.Site.told c.args.site.now) (FailsLast {T = Came} (Ok Whole))
      (λ history. tt);
  cause = refl;
}

-- it has more
pub returns : goal.returns
returns g c =
    rw c.go_on.ensures
    (record {
      told = something_new (sym c.is_past.ensures ∙ c.if-not-is_past.false)
          c.print_news-given.ensures.told;
      own = c.print_news-given.ensures.own;
      last = c.print_news-given.ensures.last;
      cause = c.print_news-given.ensures.cause;
    })
