use Rattle.chk_ctl_verify.proofs.Seen.{front_none, front_some, ok_as}
use Rattle.chk_ctl_verify.proofs.sinks.look_at_unclosed.Goals as goal

pub returns-in-Some : goal.returns-in-Some
returns-in-Some g c =
    record {
      told = ok_as c.look_at_written.result (λ found x. front_some _ _ _ c.in-Some.stem.now
          c.in-Some.ensures x) c.look_at_written.ensures.told;
      own = c.look_at_written.ensures.own;
      cause = c.look_at_written.ensures.cause;
    }

pub returns-in-None : goal.returns-in-None
returns-in-None g c =
    record {
      told = ok_as c.look_at_mark_or_born.result (λ found x. front_none _ _ _ c.in-None.ensures x)
          c.look_at_mark_or_born.ensures.told;
      own = c.look_at_mark_or_born.ensures.own;
      cause = c.look_at_mark_or_born.ensures.cause;
    }
