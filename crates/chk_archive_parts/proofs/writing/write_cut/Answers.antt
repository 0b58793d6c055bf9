use Rattle.std.proofs.Common.{◌++◌, ◌∷◌, [], inl, inr, ap}
use Rattle.std.specs.Prelude.{codes, slice_index_or}
use Rattle.std.proofs.lemmas.Result.{err_from_is_err_and}
use Rattle.chk_world.specs.JobSteps.{IsOf, ReadsFile, WritesTo, ReadsOrWrites}
use Rattle.chk_chunk.specs.Lent.{lent_key}
use Rattle.chk_record_index.specs.Heads.{Head}
use Rattle.chk_record_index.specs.Pieces.{AsksInPieces}
use Rattle.chk_record_index.proofs.Gathering.{every_then}
use Rattle.chk_book.specs.Folders.{segment_name}
use Rattle.chk_archive_parts.specs.Cuts.{cut_chunk}
use Rattle.chk_archive_parts.proofs.CutLists.{no_cut}
use Rattle.chk_archive_parts.proofs.ShelfWrites.{not_fetched, is_fetched, cut_done}
use Rattle.chk_archive_parts.proofs.StepKinds.{as_kind, no_reads, writes_no_reads, fails_behind}
use Rattle.chk_record_index.proofs.Causes.{shows_first}
use Rattle.chk_record_reader.proofs.Causes.{shows_written}
use Rattle.chk_record_reader.specs.Gone.{IsGoneIn}
use Rattle.chk_archive_parts.proofs.writing.write_cut.Goals as goal

pub returns-in_err-fetch-clause-told : goal.returns-in_err-fetch-clause-told
returns-in_err-fetch-clause-told g c stamped v cs chunks records free =
    let p = err_from_is_err_and c.from_residual.result c.from_residual.ensures.1 in
    let fault = c.in_err-fetch.field-0.0 in
    let k = slice_index_or c.args.cuts.now c.args.place no_cut in
    let low = c.requires.cuts c.args.place no_cut c.requires.place in
    rw (p.1, p.2)
    (not_fetched v c.args.files.now c.args.heads.now cs records k.index low stamped
    c.args.segmenter.now chunks free c.args.shelf.now c.fetch.new.self c.fetch.result
    (chunks ++ cut_chunk cs k ∷ []) fault c.in_err-fetch.was c.in_err-fetch.ensures.only
    (c.fetch.ensures.raw v cs records) c.fetch.ensures.own)

pub returns-in_err-fetch-clause-own : goal.returns-in_err-fetch-clause-own
returns-in_err-fetch-clause-own g c =
    let w = segment_name (codes "archive") c.args.segmenter.now.number in
    as_kind ReadsFile (ReadsOrWrites w) (λ call k. inl k) c.fetch.ensures.own

pub returns-clause-told : goal.returns-clause-told
returns-clause-told g c stamped v cs chunks records free =
    let files = c.args.files.now in
    let heads = c.args.heads.now in
    let k = slice_index_or c.args.cuts.now c.args.place no_cut in
    let low = c.requires.cuts c.args.place no_cut c.requires.place in
    let s = c.args.segmenter.now in
    let r = c.args.shelf.now in
    let t = c.fetch.new.self in
    cut_done v files heads cs records k.index low stamped s chunks free r t c.fetch.result
    c.put_cut.new.segmenter c.put_cut.result k.skip (lent_key c.get-head.result.key) c.value.result.now
    (ap (λ (x : Head). x.key) c.get-head.ensures.head) c.value.ensures
    (is_fetched v files heads cs records k.index low stamped s chunks free r t c.fetch.result c.in_ok-fetch.field-0
    c.in_ok-fetch.was (c.fetch.ensures.raw v cs records) c.fetch.ensures.own)
    (c.put_cut.ensures.told stamped v files chunks free) c.put_cut.ensures.own

pub returns-clause-own : goal.returns-clause-own
returns-clause-own g c =
    let w = segment_name (codes "archive") c.args.segmenter.now.number in
    every_then (IsOf (ReadsOrWrites w)) (as_kind ReadsFile (ReadsOrWrites w) (λ call k. inl k) c.fetch.ensures.own)
    (as_kind (WritesTo w) (ReadsOrWrites w) (λ call k. inr k) c.put_cut.ensures.own)

pub returns-clause-pieces : goal.returns-clause-pieces
returns-clause-pieces g c =
    let w = segment_name (codes "archive") c.args.segmenter.now.number in
    every_then AsksInPieces c.fetch.ensures.pieces (no_reads (WritesTo w) (writes_no_reads w) c.put_cut.ensures.own)

pub returns-clause-last : goal.returns-clause-last
returns-clause-last g c = fails_behind c.put_cut.result c.fetch.ensures.own c.put_cut.ensures.last

pub returns-clause-shown : goal.returns-clause-shown
returns-clause-shown g c =
    shows_written (IsGoneIn c.args.files.now c.args.heads.now) c.put_cut.result c.put_cut.ensures.only
    (fails_behind c.put_cut.result c.fetch.ensures.own c.put_cut.ensures.last)

pub returns-in_err-fetch-clause-shown : goal.returns-in_err-fetch-clause-shown
returns-in_err-fetch-clause-shown g c =
    let p = err_from_is_err_and c.from_residual.result c.from_residual.ensures.1 in
    rw (p.1, p.2)
    (shows_first (Unit {0}) (Unit {0}) (IsGoneIn c.args.files.now c.args.heads.now) c.in_err-fetch.field-0.0 c.in_err-fetch.ensures.shown)
