use Rattle.std.proofs.Common.{Ok, Err, ap, refl}
use Rattle.chk_site.proofs.Runs.{adds_as}
use Rattle.chk_checkpoint.specs.Faults.{FailsLast}
use Rattle.chk_ctl_passed.specs.declared.oldest.Oldest.{Oldest}
use Rattle.chk_ctl_passed.specs.declared.judging.Verdict.{Verdict}
use Rattle.chk_ctl_passed.proofs.Joined.{weighed_cause, weighed_last}
use Rattle.chk_ctl_passed.proofs.passing.weigh.Goals as goal

pub returns-in-Ok : goal.returns-in-Ok
returns-in-Ok g c = record {
  told = record {
    found = Ok c.in-Ok.oldest;
    saw = c.in-Ok.ensures.saw;
    own = c.in-Ok.ensures.own;
    is = ap (λ (v : Verdict). Ok v) (rw c.deref.ensures.value at c.verdict_of.ensures);
  };
  last = adds_as (FailsLast {T = Verdict} (Ok c.verdict_of.result)) c.in-Ok.ensures.own
      (λ a h x. tt);
  cause = c.in-Ok.ensures.cause;
}

pub returns-in-Err : goal.returns-in-Err
returns-in-Err g c =
    rw c.from.ensures
    (record {
      told = record {
        found = Err c.in-Err.fault;
        saw = c.in-Err.ensures.saw;
        own = c.in-Err.ensures.own;
        is = refl;
      };
      last = weighed_last Oldest Verdict c.in-Err.fault c.in-Err.ensures.last;
      cause = weighed_cause Oldest Verdict c.in-Err.fault
          (g.S.Site.fault_count c.args.site.now)
          (g.S.Site.fault_count c.find_oldest.new.site) c.in-Err.ensures.cause;
    })
