use Rattle.std.proofs.Common.{◌≡◌, refl, ◌∙◌, subst, arith}
use Rattle.std.proofs.lemmas.Result.{err_from_is_err_and}
use Rattle.chk_cmd_load.proofs.Progress.{WroteLogs, logs_all, logs_cut, logs_more, logs_none, logs_small}
use Rattle.chk_cmd_load.proofs.pieces.append_lines.Goals as goal

pub loop-log-init : goal.loop-log-init
loop-log-init g c = record { wrote = logs_none (g.S.Site.told c.args.site.now); count = refl }

pub returns-in_err-bytes-clause-writes : goal.returns-in_err-bytes-clause-writes
returns-in_err-bytes-clause-writes g c =
    let p = err_from_is_err_and c.from_residual.result c.from_residual.ensures.1 in
    rw (p.1, p.2)
    (logs_cut c.loop-log.log c.loop-log.bytes c.in_err-bytes.field-0.0 c.loop-log.invariant.wrote (let low = c.loop-log-test.true in omega (arith, low))
    c.in_err-bytes.ensures.writes)

pub overflow_add-bytes : goal.overflow_add-bytes
overflow_add-bytes g c =
    let small = logs_small c.loop-log.log c.loop-log.bytes c.in_ok-bytes.field-0 c.loop-log.invariant.wrote c.loop-log-test.true c.requires.few
    c.in_ok-bytes.ensures.writes in omega (arith, small)

pub loop-log-preserved : goal.loop-log-preserved
loop-log-preserved g c = record {
  wrote = logs_more c.loop-log.log c.loop-log.bytes c.in_ok-bytes.field-0 c.loop-log.invariant.wrote c.loop-log-test.true c.in_ok-bytes.ensures.writes;
  count = c.in_ok-bytes.ensures.cause ∙ c.loop-log.invariant.count;
}

pub returns-clause-writes : goal.returns-clause-writes
returns-clause-writes g c =
    let l = c.loop-log in
    let past = c.loop-log-test.false in
    logs_all l.bytes
    (subst (λ n. WroteLogs c.args.writer.now c.args.lines n l.bytes (g.S.Site.told c.args.site.now) (g.S.Site.told l.site))
    (let z : l.log ≡ 3 = omega (arith, past) in z) l.invariant.wrote)
