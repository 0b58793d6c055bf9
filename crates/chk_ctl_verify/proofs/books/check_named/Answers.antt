use Rattle.std.proofs.Common.{List, refl, subst, ℕ, ◌∙◌}
use Rattle.chk_ctl_verify.specs.Books.{SegmentChecked}
use Rattle.chk_ctl_verify.specs.Walks.{unbegun, EachChecked}
use Rattle.chk_ctl_verify.proofs.Steps.{no_call}
use Rattle.chk_ctl_verify.proofs.books.check_named.Goals as goal

pub returns-in-Ok : goal.returns-in-Ok
returns-in-Ok g c = record {
  told = subst (λ (ns : List ℕ). EachChecked (SegmentChecked c.args.folder.now c.args.told.now) ns
      c.check_numbers.result (g.S.Site.told c.args.site.now) (g.S.Site.told
      c.check_numbers.new.site))
      (c.as_slice.ensures.value ∙ c.in-Ok.ensures) c.check_numbers.ensures.told;
  own = c.check_numbers.ensures.own;
  cause = c.check_numbers.ensures.cause;
}

pub returns-in-Err : goal.returns-in-Err
returns-in-Err g c = record {
  told = unbegun;
  own = no_call (g.S.Site.told c.args.site.now);
  cause
      = refl;
}
