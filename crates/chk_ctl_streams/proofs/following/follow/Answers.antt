use Rattle.std.proofs.Common.{◌≡◌, ◌-◌, ◌∙◌, Ok, Err, refl, sym, subst, arith}
use Rattle.std.proofs.lemmas.Result.{err_from_is_err_and}
use Rattle.chk_site.specs.History.{Every}
use Rattle.chk_site.proofs.Runs.{adds_as, adds_none, adds_then, every_join}
use Rattle.chk_world.specs.JobSteps.{IsOf}
use Rattle.chk_ctl_cat.specs.declared.stream.Came.{Came}
use Rattle.chk_ctl_cat.specs.declared.stream.Came.TheVariants.{Whole, Short}
use Rattle.chk_ctl_cat.specs.Faults.{FailsLast}
use Rattle.chk_ctl_cat.proofs.StreamLemmas.{done_last, done_cause}
use Rattle.chk_ctl_streams.specs.Following.{HasShort, IsLastLook, LooksAgain, over, last_turn}
use Rattle.chk_ctl_streams.specs.Following.{turned}
use Rattle.chk_ctl_streams.proofs.following.follow.Goals as goal

pub loop-left-init : goal.loop-left-init
loop-left-init g c = record {
  count = refl;
  own = adds_none (g.S.Site.told c.args.site.now) (Every (IsOf LooksAgain)) (λ history. tt);
  behind = λ e result new rest. rest;
}

-- a turn is refused
pub returns-in_err-came : goal.returns-in_err-came
returns-in_err-came g c =
    let l = c.loop-left in
    let fault = c.in_err-came.field-0.0 in
    let p = err_from_is_err_and c.from_residual.result c.from_residual.ensures.1 in
    rw (p.1, p.2)
    (record {
      told = l.invariant.behind c.turn.new.course (Err fault) (g.S.Site.told c.turn.new.site)
          (last_turn (l.left - 1) (omega (arith, c.loop-left-test.true))
          c.in_err-came.ensures.told tt);
      own = adds_then (Every (IsOf LooksAgain)) l.invariant.own c.in_err-came.ensures.own
          (λ a b history p q. every_join (IsOf LooksAgain) b a history p q);
      last = done_last Came (Err fault) l.invariant.own c.in_err-came.ensures.last;
      cause = done_cause Came (Err fault) (g.S.Site.fault_count c.args.site.now)
          (g.S.Site.fault_count l.site)
          (g.S.Site.fault_count c.turn.new.site) l.invariant.count c.in_err-came.ensures.cause;
    })

-- a look is short
pub returns-then-is_short : goal.returns-then-is_short
returns-then-is_short g c =
    let l = c.loop-left in
    let came = c.in_ok-came.came in
    let is : came ≡ Short = subst (λ b. HasShort b came) c.if-is_short.true c.is_short.ensures in
    let own = adds_then (Every (IsOf LooksAgain)) l.invariant.own c.in_ok-came.ensures.own
    (λ a b history p q. every_join (IsOf LooksAgain) b a history p q) in
    record {
      told = l.invariant.behind c.turn.new.course (Ok came) (g.S.Site.told c.turn.new.site)
          (last_turn (l.left - 1) (omega (arith, c.loop-left-test.true)) c.in_ok-came.ensures.told
          (subst (λ k. IsLastLook (Ok k)) (sym is) tt));
      own = own;
      last = adds_as (FailsLast {T = Came} (Ok came)) own (λ added history x. tt);
      cause = c.in_ok-came.ensures.cause ∙ l.invariant.count;
    }

pub loop-left-preserved : goal.loop-left-preserved
loop-left-preserved g c =
    let l = c.loop-left in
    let came = c.in_ok-came.came in
    record {
      count = c.in_ok-came.ensures.cause ∙ l.invariant.count;
      own = adds_then (Every (IsOf LooksAgain)) l.invariant.own c.in_ok-came.ensures.own
          (λ a b history p q. every_join (IsOf LooksAgain) b a history p q);
      behind = λ e result new rest.
          l.invariant.behind e result new
          (turned (l.left - 1) (omega (arith, c.loop-left-test.true)) c.in_ok-came.ensures.told
          (subst (λ b. HasShort b came) c.if-is_short.false c.is_short.ensures) rest);
    }

-- no turn is left
pub returns : goal.returns
returns g c =
    let l = c.loop-left in
    record {
      told = l.invariant.behind l.course (Ok Whole) (g.S.Site.told l.site)
          (over (omega (arith, c.loop-left-test.false)));
      own = l.invariant.own;
      last = adds_as (FailsLast {T = Came} (Ok Whole)) l.invariant.own (λ added history x. tt);
      cause = l.invariant.count;
    }
