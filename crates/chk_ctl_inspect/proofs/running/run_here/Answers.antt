use Rattle.std.proofs.Common.{map}
use Rattle.chk_ctl_line.specs.Asked.{asked}
use Rattle.chk_ctl_run.specs.Calls.{IsOfRun}
use Rattle.chk_ctl_machine.proofs.Causes.{own_as}
use Rattle.chk_ctl_machine.proofs.Lends.{lent, may_take_back}
use Rattle.chk_ctl_inspect.specs.Running.{RanBy}
use Rattle.chk_ctl_inspect.proofs.Runs.{runs}
use Rattle.chk_ctl_inspect.proofs.running.run_here.Goals as goal

pub take_back-requires : goal.take_back-requires
take_back-requires g c =
    may_take_back c.args.long _ _ _ _ _ c.lend-folder.ensures
    (own_as (IsOfRun (asked (map (λ w. w.now) c.args.words.now))) (λ before step x. runs (asked (map (λ w. w.now) c.args.words.now)) x)
    c.run-outcome.ensures.own)

pub returns : goal.returns
returns g c = record {
  outcome = c.run-outcome.result;
  back = g.M.Machine.told c.take_back.new.self;
  lent =
      lent c.args.long (RanBy (map (λ w. w.now) c.args.words.now) c.run-outcome.result) _ _ _ _ _ _ _
      c.lend-folder.ensures c.take_back.ensures
      (record {
        ran = c.run-outcome.ensures.ran;
        own = c.run-outcome.ensures.own;
        cause = c.run-outcome.ensures.cause;
      });
  told = c.end_with.ensures.told;
  is = c.end_with.ensures.status;
}
