use Rattle.std.specs.Prelude.{Bool, slice_index_or}
use Rattle.std.proofs.lemmas.Result.{err_from_is_err_and}
use Rattle.chk_world.specs.JobSteps.{IsOf, ReadsFile}
use Rattle.chk_record_index.specs.Pieces.{AsksInPieces}
use Rattle.chk_record_index.proofs.Gathering.{every_then}
use Rattle.chk_archive_parts.specs.Cuts.{no_chunk}
use Rattle.chk_archive_parts.proofs.StepKinds.{fails_behind}
use Rattle.chk_archive_parts.proofs.Among.{record_at, found_fails, found_then}
use Rattle.chk_archive_parts.proofs.ManyFiles.{fetch_all}
use Rattle.chk_record_index.proofs.Causes.{shows_first, shows_behind}
use Rattle.chk_record_reader.proofs.Causes.{late_gone_in}
use Rattle.chk_record_reader.specs.Gone.{IsGoneIn}
use Rattle.chk_archive_parts.proofs.kept.is_found.Goals as goal

pub returns-in_err-fetch-clause-raw : goal.returns-in_err-fetch-clause-raw
returns-in_err-fetch-clause-raw g c v cs records =
    let p = err_from_is_err_and c.from_residual.result c.from_residual.ensures.1 in
    let files = c.args.files.now in
    let heads = c.args.heads.now in
    let i = c.args.index in
    let d = slice_index_or cs i no_chunk in
    let is = record_at v files heads cs records i c.requires.index in
    rw (p.1, p.2)
    (found_fails v files heads cs records c.args.known.now i c.args.old.now c.args.new.now c.fetch.new.reader c.fetch.result
    (fetch_all v files heads i d records.sound is c.args.new.now c.fetch.new.reader c.fetch.result
    (c.fetch.ensures.raw v d records.sound is) c.fetch.ensures.stays)
    c.args.old.now c.in_err-fetch.field-0.0 c.in_err-fetch.was)

pub returns-clause-raw : goal.returns-clause-raw
returns-clause-raw g c v cs records =
    let files = c.args.files.now in
    let heads = c.args.heads.now in
    let i = c.args.index in
    let d = slice_index_or cs i no_chunk in
    let is = record_at v files heads cs records i c.requires.index in
    found_then v files heads cs records c.args.known.now i c.args.old.now c.args.new.now c.fetch.new.reader c.fetch.result
    (fetch_all v files heads i d records.sound is c.args.new.now c.fetch.new.reader c.fetch.result
    (c.fetch.ensures.raw v d records.sound is) c.fetch.ensures.stays)
    c.in_ok-fetch.field-0 c.in_ok-fetch.was c.is_among.new.reader c.value.result.now c.value.ensures c.is_among.result
    (c.is_among.ensures.raw v cs records)

pub returns-clause-own : goal.returns-clause-own
returns-clause-own g c = every_then (IsOf ReadsFile) c.fetch.ensures.own c.is_among.ensures.own

pub returns-clause-pieces : goal.returns-clause-pieces
returns-clause-pieces g c = every_then AsksInPieces c.fetch.ensures.pieces c.is_among.ensures.pieces

pub returns-clause-last : goal.returns-clause-last
returns-clause-last g c = fails_behind c.is_among.result c.fetch.ensures.own c.is_among.ensures.last

pub returns-in_err-fetch-clause-shown : goal.returns-in_err-fetch-clause-shown
returns-in_err-fetch-clause-shown g c =
    let p = err_from_is_err_and c.from_residual.result c.from_residual.ensures.1 in
    rw (p.1, p.2)
    (shows_first Bool (Unit {0}) (IsGoneIn c.args.files.now c.args.heads.now) c.in_err-fetch.field-0.0 c.in_err-fetch.ensures.shown)

pub returns-clause-shown : goal.returns-clause-shown
returns-clause-shown g c =
    let files = c.args.files.now in
    let heads = c.args.heads.now in
    shows_behind (IsGoneIn files heads) (late_gone_in files heads) c.is_among.result c.fetch.ensures.own c.is_among.ensures.shown
