use Rattle.std.proofs.Common.{inl, subst}
use Rattle.chk_site_log.specs.Lists.{IsKept}
use Rattle.chk_site_log.proofs.troubles.Troubles.succeed.Goals as goal

pub returns : goal.returns
returns c = record {
  known = inl (record {
    trouble = c.in-Some.trouble;
    left = c.take_known.new.self;
    taken = inl c.in-Some.ensures.some;
    kept = subst (IsKept c.take_known.new.self c.keep.new.self) c.succeed-tells.ensures.trouble c.keep.ensures;
    said = c.succeed-tells.ensures.tells;
  });
}
