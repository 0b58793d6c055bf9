use Rattle.std.proofs.Common.{[], inl, ap, arith}
use Rattle.std.proofs.lemmas.Result.{err_from_is_err_and}
use Rattle.chk_round.specs.declared.preparing.Prepared.{Prepared}
use Rattle.chk_round.proofs.Rounding.{unbegun}
use Rattle.chk_round.proofs.Lasting.{went_none}
use Rattle.chk_round.proofs.Acts.{all_acts, unbegun_acts}
use Rattle.chk_round.proofs.whole_round.round_within.Goals as goal

pub returns-in_err-processes-clause-told : goal.returns-in_err-processes-clause-told
returns-in_err-processes-clause-told g c stamped started acting run =
    let p = err_from_is_err_and c.from_residual.result c.from_residual.ensures.1 in
    rw (p.1, p.2) (unbegun stamped c.args.given.now.source started acting (g.S.Site.told c.args.site.now))

pub returns-in_err-processes-clause-cause : goal.returns-in_err-processes-clause-cause
returns-in_err-processes-clause-cause g c =
    let p = err_from_is_err_and c.from_residual.result c.from_residual.ensures.1 in
    rw (p.1, p.2) (omega arith)

pub returns-in_err-processes-clause-last : goal.returns-in_err-processes-clause-last
returns-in_err-processes-clause-last g c =
    let p = err_from_is_err_and c.from_residual.result c.from_residual.ensures.1 in
    rw (p.1, p.2) (went_none (g.S.Site.told c.args.site.now))

pub returns-in_err-processes-clause-script : goal.returns-in_err-processes-clause-script
returns-in_err-processes-clause-script g c =
    let p = err_from_is_err_and c.from_residual.result c.from_residual.ensures.1 in
    rw (p.1, p.2) (inl tt)

pub returns-in_err-processes-clause-shown : goal.returns-in_err-processes-clause-shown
returns-in_err-processes-clause-shown g c =
    let p = err_from_is_err_and c.from_residual.result c.from_residual.ensures.1 in
    rw (p.1, p.2) (tt)

pub returns-in_err-processes-clause-acts : goal.returns-in_err-processes-clause-acts
returns-in_err-processes-clause-acts g c =
    all_acts c.args.given.now.source (returns-in_err-processes-clause-told g c [])
    (unbegun_acts c.args.given.now.source (g.S.Site.told c.args.site.now))

pub run_prepared-requires : goal.run_prepared-requires
run_prepared-requires g c =
    let is = c.in_ok-processes.ensures in
    let rows = ap (λ (p : Prepared). p.rules.rows) is in
    let queue = ap (λ (p : Prepared). p.rules.queue) is in
    let some = c.requires.some_rows in
    let piece = c.requires.a_piece in
    record {
      processes = ap (λ (p : Prepared). p.processes) is;
      ring = ap (λ (p : Prepared). p.ring) is;
      some_rows = omega (arith, rows, some);
      a_piece = omega (arith, queue, piece);
      cluster = ap (λ (p : Prepared). p.rules.cluster) is;
      name = c.requires.name;
      a_read = c.requires.a_read;
    }
