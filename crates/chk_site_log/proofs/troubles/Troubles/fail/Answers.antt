use Rattle.std.proofs.Common.{inl, subst}
use Rattle.chk_site_log.specs.Lists.{IsKept}
use Rattle.chk_site_log.proofs.troubles.Troubles.fail.Goals as goal

pub returns : goal.returns
returns c = record {
  known = inl (record {
    trouble = c.in-Some.trouble;
    left = c.take.new.self;
    taken = c.in-Some.ensures.some;
    kept = subst (IsKept c.take.new.self c.keep.new.self) c.fail-tells.ensures.trouble c.keep.ensures;
    said = c.fail-tells.ensures.tells;
  });
}
