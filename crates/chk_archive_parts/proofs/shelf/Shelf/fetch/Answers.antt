use Rattle.std.specs.Prelude.{slice_index_or}
use Rattle.std.proofs.lemmas.Result.{err_from_is_err_and}
use Rattle.chk_world.specs.JobSteps.{IsOf, ReadsFile}
use Rattle.chk_record_index.specs.Pieces.{AsksInPieces}
use Rattle.chk_record_index.proofs.Gathering.{every_then}
use Rattle.chk_archive_parts.specs.Kept.{value_in}
use Rattle.chk_archive_parts.proofs.StepKinds.{fails_behind}
use Rattle.chk_archive_parts.proofs.CutLists.{no_cut}
use Rattle.chk_archive_parts.proofs.Shelved.{shelved_then, shelved_fails}
use Rattle.chk_record_index.proofs.Causes.{shows_behind}
use Rattle.chk_record_reader.proofs.Causes.{late_gone_in}
use Rattle.chk_record_reader.specs.Gone.{IsGoneIn}
use Rattle.chk_archive_parts.proofs.shelf.Shelf.fetch.Goals as goal

pub returns-in_err-fill-clause-raw : goal.returns-in_err-fill-clause-raw
returns-in_err-fill-clause-raw g c v cs records =
    let p = err_from_is_err_and c.from_residual.result c.from_residual.ensures.1 in
    rw (p.1, p.2)
    (shelved_fails v c.args.files.now c.args.heads.now cs records c.fill.new.self
    (value_in cs (slice_index_or c.args.cuts.now c.args.place no_cut).index) c.fill.new.self c.fill.result
    c.in_err-fill.field-0.0 c.in_err-fill.was (c.fill.ensures.raw v cs records))

pub returns-clause-raw : goal.returns-clause-raw
returns-clause-raw g c v cs records =
    shelved_then v c.args.files.now c.args.heads.now cs records c.fill.new.self c.show.new.self c.fill.result
    c.in_ok-fill.field-0 c.in_ok-fill.was (c.fill.ensures.raw v cs records) (c.show.ensures.raw v cs records)

pub returns-clause-own : goal.returns-clause-own
returns-clause-own g c = every_then (IsOf ReadsFile) c.fill.ensures.own c.show.ensures.own

pub returns-clause-pieces : goal.returns-clause-pieces
returns-clause-pieces g c = every_then AsksInPieces c.fill.ensures.pieces c.show.ensures.pieces

pub returns-clause-last : goal.returns-clause-last
returns-clause-last g c = fails_behind c.show.result c.fill.ensures.own c.show.ensures.last

pub returns-clause-shown : goal.returns-clause-shown
returns-clause-shown g c =
    let files = c.args.files.now in
    let heads = c.args.heads.now in
    shows_behind (IsGoneIn files heads) (late_gone_in files heads) c.show.result c.fill.ensures.own c.show.ensures.shown
