use Rattle.chk_ctl_verify.proofs.Seen.{front_none, front_some, ok_as}
use Rattle.chk_ctl_verify.proofs.Steps.{no_quiet}
use Rattle.std.proofs.Common.{refl}
use Rattle.chk_ctl_verify.proofs.sinks.look_at_buffer_mark.Goals as goal

pub returns-in-Some : goal.returns-in-Some
returns-in-Some g c =
    record {
      told = ok_as c.look_at_mark_of.result (λ found x. front_some _ _ _ c.in-Some.front.now
          c.in-Some.ensures x) c.look_at_mark_of.ensures.told;
      own = c.look_at_mark_of.ensures.own;
      cause = c.look_at_mark_of.ensures.cause;
    }

pub returns-in-None : goal.returns-in-None
returns-in-None g c =
    record {
      told = front_none _ _ _ c.in-None.ensures (refl, refl);
      own = no_quiet (g.S.Site.told c.args.site.now);
      cause = refl;
    }
