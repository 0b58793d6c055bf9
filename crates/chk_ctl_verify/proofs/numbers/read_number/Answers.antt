use Rattle.chk_ctl_verify.proofs.Causes.{err_cause}
use Rattle.chk_ctl_verify.proofs.Seen.{number_missed, number_read}
use Rattle.chk_ctl_verify.proofs.Steps.{reads_own}
use Rattle.chk_ctl_verify.specs.Files.{held_as, number_from}
use Rattle.chk_ctl_verify.specs.declared.numbers.Held.{Held}
use Rattle.std.proofs.Common.{List, Option, ap, ℕ, ◌∙◌}
use Rattle.chk_ctl_verify.proofs.numbers.read_number.Goals as goal

pub returns-in-Ok-Some : goal.returns-in-Ok-Some
returns-in-Ok-Some g c =
    record {
      told = number_read c.args.least c.args.name.now c.in-Ok-Some.bytes c.held_as.result
          (c.held_as.ensures ∙ ap held_as (c.number_from.ensures ∙ ap (number_from c.args.least)
          c.as_slice.ensures)) (rw c.in-Ok-Some.field-0-is at c.in-Ok-Some.ensures.shown);
      own = reads_own (c.in-Ok-Some.ensures.own c.requires.job);
      cause = c.in-Ok-Some.ensures.cause;
    }

pub returns-in-Ok-None : goal.returns-in-Ok-None
returns-in-Ok-None g c =
    record {
      told = number_missed c.args.least c.args.name.now (rw c.in-Ok-None.field-0-is at
          c.in-Ok-None.ensures.shown);
      own = reads_own (c.in-Ok-None.ensures.own c.requires.job);
      cause = c.in-Ok-None.ensures.cause;
    }

pub returns-in-Err : goal.returns-in-Err
returns-in-Err g c =
    record {
      told = tt;
      own = reads_own (c.in-Err.ensures.own c.requires.job);
      cause = err_cause (Option (List ℕ)) Held c.in-Err.fault (g.S.Site.fault_count
          c.args.site.now) (g.S.Site.fault_count c.read_file.new.site) c.in-Err.ensures.cause;
    }
