use Rattle.chk_sink.proofs.Owning.{made_as, made_none, fails_of, refused_by}
use Rattle.chk_world.proofs.Working.{works_then}
use Rattle.std.proofs.Common.{Ok, Err, refl}
use Rattle.chk_site.proofs.Runs.{adds_as}
use Rattle.chk_sink.specs.declared.fault.SinkFault.TheVariants.{NoMemory}
use Rattle.chk_sink.specs.Damage.{DamageCause}
use Rattle.chk_sink.proofs.JoinedCauses.{cause_then, cause_as}
use Rattle.chk_collector.proofs.CountSteps.{count_begins, count_on, count_fails, count_unwritten, count_ends, asked_own}
use Rattle.chk_collector.proofs.collector.Collector.count_all.Goals as goal

pub loop-stem-init : goal.loop-stem-init
loop-stem-init g c =
    count_begins (g.S.Site.told c.args.site.now) (g.S.Site.fault_count c.args.site.now) c.args.self.now c.args.stems c.args.lines.now c.requires

pub loop-stem-preserved : goal.loop-stem-preserved
loop-stem-preserved g c =
    count_on c.loop-stem.invariant c.in-Some.stem c.in_ok-length.length c.next.new.self c.put_line.new.lines c.in-Some.ensures.item c.in_ok-put_line.ensures.ok
    c.put_line.ensures.short
    (rw c.self.view_is at c.in_ok-length.ensures.told) (rw c.self.view_is at c.in_ok-length.ensures.least) c.in_ok-length.ensures.damaged (rw c.self.view_is at c.in_ok-length.ensures.own)
    c.in_ok-length.ensures.cause

pub returns-in_err-length-clause-told : goal.returns-in_err-length-clause-told
returns-in_err-length-clause-told g c stamped handled t =
    rw (refused_by c.from_residual.ensures.1)
    (count_fails c.loop-stem.invariant c.in-Some.stem c.in_err-length.field-0.0 (rw c.self.view_is at c.in_err-length.ensures.told) stamped handled t)

pub returns-in_err-length-clause-damaged : goal.returns-in_err-length-clause-damaged
returns-in_err-length-clause-damaged g c =
    cause_then (Ok (tt {0})) tt _ refl c.loop-stem.invariant.damaged
    (cause_as c.committed.result _ _ c.in_err-length.was (refused_by c.from_residual.ensures.1) c.committed.ensures.damaged)

pub returns-in_err-put_line-clause-told : goal.returns-in_err-put_line-clause-told
returns-in_err-put_line-clause-told g c stamped handled t =
    rw (refused_by c.from_residual-in_err-put_line.ensures.1)
    (count_unwritten c.loop-stem.invariant c.in-Some.stem c.in_ok-length.length c.put_line.new.lines (rw c.self.view_is at c.in_ok-length.ensures.told)
    stamped handled t)

pub returns-in_err-put_line-clause-damaged : goal.returns-in_err-put_line-clause-damaged
returns-in_err-put_line-clause-damaged g c =
    rw (refused_by c.from_residual-in_err-put_line.ensures.1)
    (adds_as (DamageCause {T = Unit {0}} (Err NoMemory))
    (cause_then (Ok (tt {0})) tt (Ok c.in_ok-length.length) refl c.loop-stem.invariant.damaged c.in_ok-length.ensures.damaged) (λ a h x. tt))

pub returns-clause-told : goal.returns-clause-told
returns-clause-told g c stamped handled t = count_ends c.loop-stem.invariant c.in_default.ensures.end.0 stamped handled t

pub returns-in_err-length-clause-own : goal.returns-in_err-length-clause-own
returns-in_err-length-clause-own g c =
    made_as c.committed.result c.from_residual.result _ c.in_err-length.was (refused_by c.from_residual.ensures.1)
    (asked_own c.loop-stem.invariant c.in-Some.ensures.item (rw c.self.view_is at c.committed.ensures.own))

pub returns-in_err-put_line-clause-own : goal.returns-in_err-put_line-clause-own
returns-in_err-put_line-clause-own g c =
    works_then
    (asked_own c.loop-stem.invariant c.in-Some.ensures.item (rw c.self.view_is at c.in_ok-length.ensures.own))
    (made_none c.from_residual-in_err-put_line.result _ (refused_by c.from_residual-in_err-put_line.ensures.1))

pub returns-clause-own : goal.returns-clause-own
returns-clause-own g c = c.loop-stem.invariant.own

pub returns-in_err-length-clause-last : goal.returns-in_err-length-clause-last
returns-in_err-length-clause-last g c = fails_of _ (returns-in_err-length-clause-own g c)

pub returns-in_err-put_line-clause-last : goal.returns-in_err-put_line-clause-last
returns-in_err-put_line-clause-last g c = fails_of _ (returns-in_err-put_line-clause-own g c)
