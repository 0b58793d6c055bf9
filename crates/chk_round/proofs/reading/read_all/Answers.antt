use Rattle.std.proofs.Common.{Result, Ok, Err, ap, sym, ◌∙◌, subst, refl, arith}
use Rattle.std.specs.Prelude.{slice_get}
use Rattle.std.proofs.lemmas.Result.{err_from_is_err_and}
use Rattle.chk_sink.specs.States.{process}
use Rattle.chk_agent.proofs.FillingOn.{read_one}
use Rattle.chk_round.specs.declared.faults.RoundFault.{RoundFault}
use Rattle.chk_round.specs.Faults.{RoundCause}
use Rattle.chk_round.proofs.Ends.{late_cause}
use Rattle.chk_round.proofs.Logs.{all_read, each_next, each_of, each_skips, reading_begun, reading_ends, reading_next, reading_own, reading_skips}
use Rattle.chk_round.proofs.Polls.{starts_then}
use Rattle.chk_round.proofs.Acts.{acts_then}
use Rattle.chk_round.proofs.Lasting.{inside_late, went}
use Rattle.chk_round.specs.Scripts as scripts
use Rattle.chk_round.proofs.NoRead.{work_late}
use Rattle.chk_round.proofs.reading.read_all.Goals as goal
use Rattle.chk_round.proofs.reading.read_all.Goals.{then-is_read_on+in_ok-read_out, else-is_read_on}

pub loop-adaptor-init : goal.loop-adaptor-init
loop-adaptor-init g c =
    record {
      so = reading_begun c.args.collector.now c.args.agent.now (g.S.Site.told c.args.site.now) (g.S.Site.fault_count c.args.site.now);
      script = λ r u new x. x;
    }

pub is_read_on-requires : goal.is_read_on-requires
is_read_on-requires g c =
    let size = c.loop-adaptor.invariant.so.on.size in
    let below = c.loop-adaptor-test.true in
    let all = c.adaptors-count.ensures in
    omega (arith, size, below, all)

pub read_out-requires : goal.read_out-requires
read_out-requires g c =
    let so = c.loop-adaptor.invariant.so in
    record {
      started = c.requires.started ∙ ap (λ n. record (process c.args.collector.now) { name = n }) (sym so.starts.collector);
      named = c.requires.named;
      ready = so.on.ready ∙ c.requires.ready;
      address = so.on.addresses ∙ c.requires.address;
      some = c.requires.some;
      read_on = read_one (slice_get c.loop-adaptor.agent.adaptors c.loop-adaptor.adaptor) (sym c.if-is_read_on.ensures);
    }

pub returns-in_err-read_out-clause-read : goal.returns-in_err-read_out-clause-read
returns-in_err-read_out-clause-read g c stamped started acting run =
    let p = err_from_is_err_and c.from_residual.result c.from_residual.ensures.1 in
    rw (p.1, p.2)
    (reading_ends c.loop-adaptor.adaptor c.args.collector.now c.loop-adaptor.collector c.args.agent.now c.loop-adaptor.agent
    c.loop-adaptor.invariant.so c.read_out.new.collector c.read_out.new.agent (Err c.in_err-read_out.field-0.0)
    c.in_err-read_out.ensures.read c.in_err-read_out.field-0.0 refl stamped started acting run)

pub returns-in_err-read_out-clause-same : goal.returns-in_err-read_out-clause-same
returns-in_err-read_out-clause-same g c =
    starts_then c.args.collector.now c.loop-adaptor.collector c.read_out.new.collector c.loop-adaptor.invariant.so.starts
    c.read_out.ensures.same

pub returns-in_err-read_out-clause-cause : goal.returns-in_err-read_out-clause-cause
returns-in_err-read_out-clause-cause g c =
    let p = err_from_is_err_and c.from_residual.result c.from_residual.ensures.1 in
    subst (λ (r : Result (Unit {0}) RoundFault). RoundCause (g.S.Site.fault_count c.args.site.now)
    (g.S.Site.fault_count c.read_out.new.site) r) (sym (p.1 ∙ ap Err p.2))
    (late_cause (Unit {0}) (Unit {0}) _ _ _ c.in_err-read_out.field-0.0 c.loop-adaptor.invariant.so.faults
    c.in_err-read_out.ensures.cause)

pub loop-adaptor-preserved : goal.loop-adaptor-preserved
loop-adaptor-preserved g c =
    elim c.if-is_read_on.branch [
      | then-is_read_on+in_ok-read_out w ↦
          rw (w.agent-is, w.collector-is, w.site-is)
          (each_of (reading_next c.loop-adaptor.adaptor c.args.collector.now c.loop-adaptor.collector c.args.agent.now c.loop-adaptor.agent
          c.loop-adaptor.invariant.so w.read_out.new.collector w.read_out.new.agent (Ok tt) w.in_ok-read_out.ensures.read refl
          w.in_ok-read_out.ensures.on w.in_ok-read_out.ensures.sends w.in_ok-read_out.ensures.live w.in_ok-read_out.ensures.acts
          w.in_ok-read_out.ensures.rows
          c.args.reads w.in_ok-read_out.ensures.script (sym w.if-is_read_on.ensures) w.read_out.ensures.same (g.S.Site.fault_count w.read_out.new.site)
          w.in_ok-read_out.ensures.cause)
          (each_next c.args.reads c.loop-adaptor.adaptor c.args.agent.now c.loop-adaptor.agent w.read_out.new.agent
          (sym w.if-is_read_on.ensures) w.in_ok-read_out.ensures.script c.loop-adaptor.invariant.script))
      | else-is_read_on w ↦
          rw (w.agent-is, w.collector-is, w.site-is)
          (each_of (reading_skips c.loop-adaptor.adaptor c.args.collector.now c.loop-adaptor.collector c.args.agent.now c.loop-adaptor.agent
          c.loop-adaptor.invariant.so (sym w.if-is_read_on.ensures))
          (each_skips c.args.reads c.loop-adaptor.adaptor c.args.agent.now c.loop-adaptor.agent (sym w.if-is_read_on.ensures)
          c.loop-adaptor.invariant.script))
    ]

pub returns-clause-read : goal.returns-clause-read
returns-clause-read g c =
    all_read c.loop-adaptor.adaptor c.args.collector.now c.loop-adaptor.collector c.args.agent.now c.loop-adaptor.agent
    c.loop-adaptor.invariant.so c.requires.ready c.adaptors-count.result c.adaptors-count.ensures
    (let past = c.loop-adaptor-test.false in omega (arith, past))

pub returns-clause-on : goal.returns-clause-on
returns-clause-on g c = c.loop-adaptor.invariant.so.on

pub returns-clause-same : goal.returns-clause-same
returns-clause-same g c = c.loop-adaptor.invariant.so.starts

pub returns-clause-cause : goal.returns-clause-cause
returns-clause-cause g c = c.loop-adaptor.invariant.so.faults

pub returns-clause-live : goal.returns-clause-live
returns-clause-live g c = c.loop-adaptor.invariant.so.lives

pub returns-in_err-read_out-clause-last : goal.returns-in_err-read_out-clause-last
returns-in_err-read_out-clause-last g c =
    let p = err_from_is_err_and c.from_residual.result c.from_residual.ensures.1 in
    rw (p.1, p.2) (inside_late (Unit {0}) (Unit {0}) c.in_err-read_out.field-0.0 c.loop-adaptor.invariant.so.acts c.in_err-read_out.ensures.last)

pub returns-clause-last : goal.returns-clause-last
returns-clause-last g c = went c.loop-adaptor.invariant.so.acts

pub returns-in_err-read_out-clause-script : goal.returns-in_err-read_out-clause-script
returns-in_err-read_out-clause-script g c =
    let p = err_from_is_err_and c.from_residual.result c.from_residual.ensures.1 in
    rw (p.1, p.2) (c.loop-adaptor.invariant.script (Err c.in_err-read_out.field-0.0) c.read_out.new.agent (g.S.Site.told c.read_out.new.site)
    (scripts.ended (sym c.if-is_read_on.ensures) c.in_err-read_out.ensures.script))

pub returns-clause-script : goal.returns-clause-script
returns-clause-script g c =
    let past = c.loop-adaptor-test.false in
    let size = c.loop-adaptor.invariant.so.on.size in
    let count = c.adaptors-count.ensures in
    c.loop-adaptor.invariant.script (Ok tt) c.loop-adaptor.agent (g.S.Site.told c.loop-adaptor.site)
    (scripts.all (omega (arith, past, size, count)))

pub returns-in_err-read_out-clause-shown : goal.returns-in_err-read_out-clause-shown
returns-in_err-read_out-clause-shown g c =
    let p = err_from_is_err_and c.from_residual.result c.from_residual.ensures.1 in
    rw (p.1, p.2) (work_late (Unit {0}) (Unit {0}) c.in_err-read_out.field-0.0 (g.S.Site.told c.read_out.new.site) c.loop-adaptor.invariant.so.acts c.in_err-read_out.ensures.shown)

pub returns-in_err-read_out-clause-acts : goal.returns-in_err-read_out-clause-acts
returns-in_err-read_out-clause-acts g c = acts_then c.loop-adaptor.invariant.so.acts c.in_err-read_out.ensures.acts

pub returns-clause-acts : goal.returns-clause-acts
returns-clause-acts g c = c.loop-adaptor.invariant.so.acts

pub returns-in_err-read_out-clause-rows : goal.returns-in_err-read_out-clause-rows
returns-in_err-read_out-clause-rows g c stamped started acting run =
    let p = err_from_is_err_and c.from_residual.result c.from_residual.ensures.1 in
    rw (p.1, p.2)
    (reading_own c.loop-adaptor.adaptor c.args.collector.now c.loop-adaptor.collector c.args.agent.now c.loop-adaptor.agent
    c.loop-adaptor.invariant.so c.read_out.new.collector c.read_out.new.agent (Err c.in_err-read_out.field-0.0)
    c.in_err-read_out.ensures.rows stamped started acting run)

pub returns-clause-rows : goal.returns-clause-rows
returns-clause-rows g c = c.loop-adaptor.invariant.so.rows
