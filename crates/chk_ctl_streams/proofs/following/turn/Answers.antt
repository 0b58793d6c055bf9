use Rattle.chk_site.specs.History.{Every}
use Rattle.chk_site.proofs.Runs.{adds_then, every_join}
use Rattle.chk_world.specs.JobSteps.{IsOf}
use Rattle.chk_ctl_cat.specs.declared.stream.Came.{Came}
use Rattle.chk_ctl_cat.proofs.StreamLemmas.{done_last, done_cause}
use Rattle.chk_ctl_streams.specs.Following.{LooksAgain, refused, looked}
use Rattle.chk_ctl_streams.proofs.Again.{looks_again}
use Rattle.chk_ctl_streams.proofs.following.turn.Goals as goal

pub returns-in-Ok : goal.returns-in-Ok
returns-in-Ok g c =
    let before = g.S.Site.fault_count c.args.site.now in
    let middle = g.S.Site.fault_count c.look_on.new.site in
    let after = g.S.Site.fault_count c.wait_after.new.site in
    record {
      told = looked c.in-Ok.ensures.told c.wait_after.ensures.told;
      own = adds_then (Every (IsOf LooksAgain)) (looks_again c.in-Ok.ensures.own)
          c.wait_after.ensures.own
          (λ a b history p q. every_join (IsOf LooksAgain) b a history p q);
      last = done_last Came c.wait_after.result c.in-Ok.ensures.own c.wait_after.ensures.last;
      cause = done_cause Came c.wait_after.result before middle after c.in-Ok.ensures.cause
          c.wait_after.ensures.cause;
    }

pub returns-in-Err : goal.returns-in-Err
returns-in-Err g c = record {
  told = refused c.in-Err.ensures.told;
  own = looks_again c.in-Err.ensures.own;
  last = c.in-Err.ensures.last;
  cause = c.in-Err.ensures.cause;
}
