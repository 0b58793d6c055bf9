use Rattle.std.proofs.Common.{refl, Err, Ok, Option, ℕ}
use Rattle.std.proofs.lemmas.Result.{err_from_is_err_and}
use Rattle.chk_site.specs.declared.acts.OutsideFault.TheVariants.{NoMemory as no_memory}
use Rattle.chk_site.specs.Site.{LastFailed}
use Rattle.chk_site.proofs.Runs.{adds_as, adds_none}
use Rattle.chk_ctl_cat.proofs.SegmentLemmas.{follow_said, over_some, follow_unsaid, unfollowed}
use Rattle.chk_ctl_cat.proofs.segment.follow.Goals as goal

pub returns-in_err-stop : goal.returns-in_err-stop
returns-in_err-stop g c =
    let p = err_from_is_err_and c.from_residual.result c.from_residual.ensures.1 in
    rw (p.1, p.2)
    (record {
      limit = c.take_fed.ensures.limit;
      keeps = c.take_fed.ensures.keeps;
      over = tt;
      told = unfollowed (g.S.Site.told c.args.site.now) c.args.most c.args.course.now c.take_fed.new.self c.args.pieces.now c.take_fed.new.pieces;
      last = adds_none (g.S.Site.told c.args.site.now) (LastFailed {T = Option ℕ} (Err no_memory)) (λ history. tt);
      cause = refl;
    })

pub returns-in-Ok : goal.returns-in-Ok
returns-in-Ok g c = record {
  limit = c.take_fed.ensures.limit;
  keeps = c.take_fed.ensures.keeps;
  over = over_some c.args.most c.args.course.now c.take_fed.new.self c.args.pieces.now c.take_fed.new.pieces c.in_ok-stop.stop
      c.truncate.new.self c.take_fed.new.out c.truncate.ensures c.in_ok-stop.ensures.ok;
  told = follow_said c.args.most c.args.course.now c.take_fed.new.self c.args.pieces.now c.take_fed.new.pieces c.in_ok-stop.stop
      c.truncate.new.self c.take_fed.new.out c.as_slice.result.now c.truncate.ensures c.as_slice.ensures c.in_ok-stop.ensures.ok
      c.in-Ok.ensures.told;
  last = adds_as (LastFailed {T = Option ℕ} (Ok c.in_ok-stop.stop)) c.in-Ok.ensures.told (λ added history x. tt);
  cause = c.in-Ok.ensures.cause;
}

pub returns-in-Err-clause-told : goal.returns-in-Err-clause-told
returns-in-Err-clause-told g c =
    follow_unsaid c.args.most c.args.course.now c.take_fed.new.self c.args.pieces.now c.take_fed.new.pieces c.as_slice.result.now
    c.in-Err.fault c.in-Err.ensures.told
