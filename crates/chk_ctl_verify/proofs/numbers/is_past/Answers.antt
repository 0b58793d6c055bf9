use Rattle.chk_ctl_verify.proofs.numbers.is_past.Goals as goal

pub returns-in-Ok : goal.returns-in-Ok
returns-in-Ok g c =
    record {
      told = record { size = c.in-Ok.size; asked = c.in-Ok.ensures.told; is = c.past_end.ensures };
      own = c.in-Ok.ensures.own;
      cause = c.in-Ok.ensures.cause;
    }

pub returns-in-Err : goal.returns-in-Err
returns-in-Err g c =
    record {
      told = tt;
      own = c.in-Err.ensures.own;
      cause = c.in-Err.ensures.cause;
    }
