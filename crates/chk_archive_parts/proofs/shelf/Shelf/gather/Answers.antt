use Rattle.std.proofs.Common.{◌∙◌}
use Rattle.std.proofs.lemmas.Result.{err_from_is_err_and}
use Rattle.chk_site.proofs.Leads.{leads_then}
use Rattle.chk_world.specs.JobSteps.{IsOf, ReadsFile}
use Rattle.chk_record_index.specs.Pieces.{AsksInPieces}
use Rattle.chk_record_index.proofs.Gathering.{every_then}
use Rattle.chk_archive_parts.proofs.AllFiles.{fails_later}
use Rattle.chk_record_index.proofs.Causes.{shows_then}
use Rattle.chk_record_reader.proofs.Causes.{late_gone_in}
use Rattle.chk_record_reader.specs.Gone.{IsGoneIn}
use Rattle.chk_archive_parts.proofs.shelf.Shelf.gather.Goals as goal

pub returns-in_err-gather_one-clause-raw : goal.returns-in_err-gather_one-clause-raw
returns-in_err-gather_one-clause-raw g c v cs records =
    let p = err_from_is_err_and c.from_residual.result c.from_residual.ensures.1 in
    rw (p.1, p.2)
    (leads_then (c.loop-number.invariant.raw v cs records) (c.in_err-gather_one.ensures.raw v cs records))

pub returns-in_err-gather_one-clause-own : goal.returns-in_err-gather_one-clause-own
returns-in_err-gather_one-clause-own g c = every_then (IsOf ReadsFile) c.loop-number.invariant.own c.gather_one.ensures.own

pub returns-in_err-gather_one-clause-pieces : goal.returns-in_err-gather_one-clause-pieces
returns-in_err-gather_one-clause-pieces g c =
    every_then AsksInPieces c.loop-number.invariant.pieces c.gather_one.ensures.pieces

pub returns-in_err-gather_one-clause-last : goal.returns-in_err-gather_one-clause-last
returns-in_err-gather_one-clause-last g c =
    let p = err_from_is_err_and c.from_residual.result c.from_residual.ensures.1 in
    rw (p.1, p.2)
    (fails_later (Unit {0}) (Unit {0}) c.in_err-gather_one.field-0.0 c.loop-number.invariant.pieces
    c.in_err-gather_one.ensures.last)

pub loop-number-preserved : goal.loop-number-preserved
loop-number-preserved g c =
    let l = c.loop-number in
    record {
      raw = λ v cs records. leads_then (l.invariant.raw v cs records) (c.in_ok-gather_one.ensures.raw v cs records);
      own = every_then (IsOf ReadsFile) l.invariant.own c.gather_one.ensures.own;
      pieces = every_then AsksInPieces l.invariant.pieces c.gather_one.ensures.pieces;
      count = c.in_ok-gather_one.ensures.cause ∙ l.invariant.count;
    }

pub returns-in_err-gather_one-clause-shown : goal.returns-in_err-gather_one-clause-shown
returns-in_err-gather_one-clause-shown g c =
    let p = err_from_is_err_and c.from_residual.result c.from_residual.ensures.1 in
    let files = c.args.files.now in
    let heads = c.args.heads.now in
    rw (p.1, p.2)
    (shows_then (Unit {0}) (Unit {0}) (IsGoneIn files heads) (late_gone_in files heads) c.in_err-gather_one.field-0.0
    c.loop-number.invariant.pieces c.in_err-gather_one.ensures.shown)
