use Rattle.chk_ctl_verify.proofs.numbers.look_below.Goals as goal

pub returns-in-Ok : goal.returns-in-Ok
returns-in-Ok g c =
    record {
      told = record { all = c.in-Ok.found; seen = c.in-Ok.ensures.told; is = c.below.ensures };
      own = c.in-Ok.ensures.own;
      cause = c.in-Ok.ensures.cause;
    }

pub returns-in-Err : goal.returns-in-Err
returns-in-Err g c =
    record {
      told = tt;
      own = c.in-Err.ensures.own;
      cause = c.in-Err.ensures.cause;
    }
