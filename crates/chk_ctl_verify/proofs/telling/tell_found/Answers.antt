use Rattle.chk_ctl_verify.proofs.Steps.{no_call}
use Rattle.std.proofs.Common.{refl}
use Rattle.chk_ctl_verify.proofs.telling.tell_found.Goals as goal

pub returns-in-Some : goal.returns-in-Some
returns-in-Some g c =
    record {
      told = rw c.in-Some.is c.tell_damage.ensures.told;
      own = c.tell_damage.ensures.own;
      cause = c.tell_damage.ensures.cause;
    }

pub returns-in-None : goal.returns-in-None
returns-in-None g c =
    record {
      told = rw c.in-None.is (refl, refl);
      own = no_call (g.S.Site.told c.args.site.now);
      cause = refl;
    }
