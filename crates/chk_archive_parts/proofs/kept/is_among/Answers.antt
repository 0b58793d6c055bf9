use Rattle.std.proofs.Common.{◌∙◌, Ok, true, Bool, ap, sym}
use Rattle.std.specs.Prelude.{bytes_eq, slice_index_or}
use Rattle.std.proofs.lemmas.Result.{err_from_is_err_and}
use Rattle.chk_site.proofs.Runs.{adds_as}
use Rattle.chk_world.specs.JobSteps.{IsOf, ReadsFile}
use Rattle.chk_record_index.specs.Faults.{FailsLast}
use Rattle.chk_record_index.specs.Pieces.{AsksInPieces}
use Rattle.chk_record_index.proofs.Gathering.{every_then}
use Rattle.chk_archive_parts.specs.Cuts.{no_chunk}
use Rattle.chk_archive_parts.specs.Fetching.{CanFetchAll}
use Rattle.chk_archive_parts.proofs.AllFiles.{fails_later}
use Rattle.chk_archive_parts.proofs.Among.{record_at, among_more, among_found, among_fails, among_none}
use Rattle.chk_archive_parts.proofs.CutLists.{no_cut}
use Rattle.chk_archive_parts.proofs.ManyFiles.{fetch_all}
use Rattle.chk_record_index.proofs.Causes.{shows_then, shows_ok}
use Rattle.chk_record_reader.proofs.Causes.{late_gone_in}
use Rattle.chk_record_reader.specs.Gone.{IsGoneIn}
use Rattle.chk_archive_parts.proofs.kept.is_among.Goals as goal

pub returns-in_err-fetch-clause-raw : goal.returns-in_err-fetch-clause-raw
returns-in_err-fetch-clause-raw g c v cs records =
    let p = err_from_is_err_and c.from_residual.result c.from_residual.ensures.1 in
    let files = c.args.files.now in
    let heads = c.args.heads.now in
    let known = c.args.known.now in
    let l = c.loop-cut in
    let i = (slice_index_or known l.cut-index no_cut).index in
    let is = record_at v files heads cs records i (c.requires.known l.cut-index no_cut c.loop-cut-test.true) in
    rw (p.1, p.2)
    (among_fails v files heads cs records known c.args.value.now l.cut-index (CanFetchAll v files c.args.reader.now) l.reader
    c.loop-cut-test.true c.fetch.new.reader c.fetch.result (l.invariant.raw v cs records)
    (fetch_all v files heads i (slice_index_or cs i no_chunk) records.sound is l.reader c.fetch.new.reader c.fetch.result
    (c.fetch.ensures.raw v (slice_index_or cs i no_chunk) records.sound is) c.fetch.ensures.stays)
    c.in_err-fetch.field-0.0 c.in_err-fetch.was)

pub returns-in_err-fetch-clause-own : goal.returns-in_err-fetch-clause-own
returns-in_err-fetch-clause-own g c = every_then (IsOf ReadsFile) c.loop-cut.invariant.own c.fetch.ensures.own

pub returns-in_err-fetch-clause-pieces : goal.returns-in_err-fetch-clause-pieces
returns-in_err-fetch-clause-pieces g c = every_then AsksInPieces c.loop-cut.invariant.pieces c.fetch.ensures.pieces

pub returns-in_err-fetch-clause-last : goal.returns-in_err-fetch-clause-last
returns-in_err-fetch-clause-last g c =
    let p = err_from_is_err_and c.from_residual.result c.from_residual.ensures.1 in
    rw (p.1, p.2)
    (fails_later (Unit {0}) Bool c.in_err-fetch.field-0.0 c.loop-cut.invariant.pieces c.in_err-fetch.ensures.last)

pub returns-then-are_same-clause-raw : goal.returns-then-are_same-clause-raw
returns-then-are_same-clause-raw g c v cs records =
    let files = c.args.files.now in
    let heads = c.args.heads.now in
    let known = c.args.known.now in
    let l = c.loop-cut in
    let i = (slice_index_or known l.cut-index no_cut).index in
    let is = record_at v files heads cs records i (c.requires.known l.cut-index no_cut c.loop-cut-test.true) in
    among_found v files heads cs records known c.args.value.now l.cut-index (CanFetchAll v files c.args.reader.now) l.reader
    c.loop-cut-test.true c.fetch.new.reader c.fetch.result (l.invariant.raw v cs records)
    (fetch_all v files heads i (slice_index_or cs i no_chunk) records.sound is l.reader c.fetch.new.reader c.fetch.result
    (c.fetch.ensures.raw v (slice_index_or cs i no_chunk) records.sound is) c.fetch.ensures.stays)
    c.in_ok-fetch.field-0 c.in_ok-fetch.was
    (ap (λ l. bytes_eq l c.args.value.now) (sym c.value.ensures) ∙ (sym c.are_same.ensures ∙ c.if-are_same.true))

pub returns-then-are_same-clause-own : goal.returns-then-are_same-clause-own
returns-then-are_same-clause-own g c = every_then (IsOf ReadsFile) c.loop-cut.invariant.own c.fetch.ensures.own

pub returns-then-are_same-clause-pieces : goal.returns-then-are_same-clause-pieces
returns-then-are_same-clause-pieces g c = every_then AsksInPieces c.loop-cut.invariant.pieces c.fetch.ensures.pieces

pub returns-then-are_same-clause-last : goal.returns-then-are_same-clause-last
returns-then-are_same-clause-last g c =
    adds_as (FailsLast {T = Bool} (Ok true))
    (every_then AsksInPieces c.loop-cut.invariant.pieces c.fetch.ensures.pieces) (λ added history made. tt)

pub loop-cut-preserved : goal.loop-cut-preserved
loop-cut-preserved g c =
    let files = c.args.files.now in
    let heads = c.args.heads.now in
    let known = c.args.known.now in
    let l = c.loop-cut in
    record {
      raw = λ v cs records.
          let i = (slice_index_or known l.cut-index no_cut).index in
          let is = record_at v files heads cs records i (c.requires.known l.cut-index no_cut c.loop-cut-test.true) in
          among_more v files heads cs records known c.args.value.now l.cut-index (CanFetchAll v files c.args.reader.now)
          l.reader c.loop-cut-test.true c.fetch.new.reader c.fetch.result (l.invariant.raw v cs records)
          (fetch_all v files heads i (slice_index_or cs i no_chunk) records.sound is l.reader c.fetch.new.reader c.fetch.result
          (c.fetch.ensures.raw v (slice_index_or cs i no_chunk) records.sound is) c.fetch.ensures.stays)
          c.in_ok-fetch.field-0 c.in_ok-fetch.was
          (ap (λ x. bytes_eq x c.args.value.now) (sym c.value.ensures) ∙ (sym c.are_same.ensures ∙ c.if-are_same.false));
      own = every_then (IsOf ReadsFile) l.invariant.own c.fetch.ensures.own;
      pieces = every_then AsksInPieces l.invariant.pieces c.fetch.ensures.pieces;
      count = c.in_ok-fetch.ensures.cause ∙ l.invariant.count;
    }

pub returns-clause-raw : goal.returns-clause-raw
returns-clause-raw g c v cs records =
    let l = c.loop-cut in
    among_none v c.args.files.now c.args.heads.now cs records c.args.known.now c.args.value.now l.cut-index
    (CanFetchAll v c.args.files.now c.args.reader.now) l.reader c.loop-cut-test.false (l.invariant.raw v cs records)

pub returns-in_err-fetch-clause-shown : goal.returns-in_err-fetch-clause-shown
returns-in_err-fetch-clause-shown g c =
    let p = err_from_is_err_and c.from_residual.result c.from_residual.ensures.1 in
    let files = c.args.files.now in
    let heads = c.args.heads.now in
    rw (p.1, p.2)
    (shows_then Bool (Unit {0}) (IsGoneIn files heads) (late_gone_in files heads) c.in_err-fetch.field-0.0 c.loop-cut.invariant.pieces
    c.in_err-fetch.ensures.shown)

pub returns-then-are_same-clause-shown : goal.returns-then-are_same-clause-shown
returns-then-are_same-clause-shown g c =
    shows_ok (IsGoneIn c.args.files.now c.args.heads.now) true
    (every_then AsksInPieces c.loop-cut.invariant.pieces c.fetch.ensures.pieces)
