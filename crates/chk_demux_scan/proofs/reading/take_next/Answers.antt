use Rattle.std.proofs.Common.{false, map}
use Rattle.std.proofs.lemmas.Result.{err_from_is_err_and}
use Rattle.chk_site.specs.History.{Every}
use Rattle.chk_site.proofs.Runs.{adds_none}
use Rattle.chk_record_index.specs.Pieces.{AsksInPieces}
use Rattle.chk_record_index.specs.declared.fault.JobFault.TheVariants.{NoMemory}
use Rattle.chk_book.specs.Views.{end_view}
use Rattle.chk_demux_scan.proofs.OneFile.{next_none, next_broken, next_all, next_failed, shows_all, shows_nothing, shows_failed, none_failed}
use Rattle.chk_demux_scan.proofs.reading.take_next.Goals as goal

-- ---- without memory

pub returns-in_default-clause-raw : goal.returns-in_default-clause-raw
returns-in_default-clause-raw g c f rise small =
    next_failed (map end_view c.args.ends.now) c.args.places.now c.args.name.now c.args.number
    c.args.heads.now c.args.heads.now c.args.begins.now.items c.args.begins.now.items f NoMemory
    (adds_none (g.S.Site.told c.args.site.now) (Every AsksInPieces) (λ history. tt))

pub returns-in_default-clause-shown : goal.returns-in_default-clause-shown
returns-in_default-clause-shown g c rise =
    shows_failed (map end_view c.args.ends.now) c.args.places.now c.args.name.now c.args.number
    c.args.heads.now c.args.heads.now c.args.begins.now.items c.args.begins.now.items NoMemory
    (adds_none (g.S.Site.told c.args.site.now) (Every AsksInPieces) (λ history. tt))

pub returns-in_err-look-clause-raw : goal.returns-in_err-look-clause-raw
returns-in_err-look-clause-raw g c f rise small =
    let p = err_from_is_err_and c.from_residual.result c.from_residual.ensures.1 in
    rw (p.1, p.2)
    (next_failed (map end_view c.args.ends.now) c.args.places.now c.args.name.now c.args.number
    c.args.heads.now c.args.heads.now c.args.begins.now.items c.args.begins.now.items f NoMemory
    (adds_none (g.S.Site.told c.args.site.now) (Every AsksInPieces) (λ history. tt)))

pub returns-in_err-look-clause-shown : goal.returns-in_err-look-clause-shown
returns-in_err-look-clause-shown g c rise =
    let p = err_from_is_err_and c.from_residual.result c.from_residual.ensures.1 in
    rw (p.1, p.2)
    (shows_failed (map end_view c.args.ends.now) c.args.places.now c.args.name.now c.args.number
    c.args.heads.now c.args.heads.now c.args.begins.now.items c.args.begins.now.items NoMemory
    (adds_none (g.S.Site.told c.args.site.now) (Every AsksInPieces) (λ history. tt)))

-- ---- the file isn't read

pub returns-in_err-look_file-clause-raw : goal.returns-in_err-look_file-clause-raw
returns-in_err-look_file-clause-raw g c f rise small =
    let r = c.from_residual-in_err-look_file in
    let p = err_from_is_err_and r.result r.ensures.1 in
    rw (p.1, p.2)
    (next_failed (map end_view c.args.ends.now) c.args.places.now c.args.name.now c.args.number
    c.args.heads.now c.look_file.new.heads c.args.begins.now.items c.args.begins.now.items f
    c.in_err-look_file.field-0.0 c.in_err-look_file.ensures.pieces)

pub returns-in_err-look_file-clause-shown : goal.returns-in_err-look_file-clause-shown
returns-in_err-look_file-clause-shown g c rise =
    let r = c.from_residual-in_err-look_file in
    let p = err_from_is_err_and r.result r.ensures.1 in
    rw (p.1, p.2)
    (shows_failed (map end_view c.args.ends.now) c.args.places.now c.args.name.now c.args.number
    c.args.heads.now c.look_file.new.heads c.args.begins.now.items c.args.begins.now.items
    c.in_err-look_file.field-0.0 c.in_err-look_file.ensures.pieces)

-- ---- it isn't one of chunks, or is broken

pub returns-then-not-branch-clause-raw : goal.returns-then-not-branch-clause-raw
returns-then-not-branch-clause-raw g c f rise small =
    next_none (map end_view c.args.ends.now) c.args.places.now c.args.name.now c.args.number
    c.args.heads.now c.look_file.new.heads c.look_file.new.look c.in-Ok.file c.in-Ok.ensures f
    c.args.begins.now.items c.args.begins.now.items c.in_ok-look_file.field-0
    c.if-not-branch.true (c.in_ok-look_file.ensures.raw f rise small)

pub returns-then-not-branch-clause-shown : goal.returns-then-not-branch-clause-shown
returns-then-not-branch-clause-shown g c rise =
    shows_nothing (map end_view c.args.ends.now) c.args.places.now c.args.name.now c.args.number
    c.args.heads.now c.look_file.new.heads c.args.begins.now.items c.args.begins.now.items
    c.in_ok-look_file.ensures.pieces

pub returns-then-not-branch-clause-last : goal.returns-then-not-branch-clause-last
returns-then-not-branch-clause-last g c = none_failed false c.in_ok-look_file.ensures.pieces

pub returns-then-look-clause-raw : goal.returns-then-look-clause-raw
returns-then-look-clause-raw g c f rise small =
    next_broken (map end_view c.args.ends.now) c.args.places.now c.args.name.now c.args.number
    c.args.heads.now c.look_file.new.heads c.look_file.new.look c.in-Ok.file c.in-Ok.ensures f
    c.args.begins.now.items c.args.begins.now.items c.in_ok-look_file.field-0
    c.if-not-branch.false c.if-look.true (c.in_ok-look_file.ensures.raw f rise small)

pub returns-then-look-clause-shown : goal.returns-then-look-clause-shown
returns-then-look-clause-shown g c rise =
    shows_nothing (map end_view c.args.ends.now) c.args.places.now c.args.name.now c.args.number
    c.args.heads.now c.look_file.new.heads c.args.begins.now.items c.args.begins.now.items
    c.in_ok-look_file.ensures.pieces

pub returns-then-look-clause-last : goal.returns-then-look-clause-last
returns-then-look-clause-last g c = none_failed false c.in_ok-look_file.ensures.pieces

-- ---- it is joined

pub returns-clause-raw : goal.returns-clause-raw
returns-clause-raw g c f rise small =
    next_all (map end_view c.args.ends.now) c.args.places.now c.args.name.now c.args.number
    c.args.heads.now c.look_file.new.heads c.look_file.new.look c.in-Ok.file c.in-Ok.ensures f
    c.args.begins.now.items c.join_spans.new.begins.items c.in_ok-look_file.field-0
    c.if-not-branch.false c.if-look.false c.join_spans.result c.as_slice.result.now
    c.as_slice.ensures.value (λ on. c.join_spans.ensures.took on rise)
    (λ off. c.join_spans.ensures.not off rise)
    (c.in_ok-look_file.ensures.raw f rise small)

pub returns-clause-shown : goal.returns-clause-shown
returns-clause-shown g c rise =
    shows_all (map end_view c.args.ends.now) c.args.places.now c.args.name.now c.args.number
    c.args.heads.now c.look_file.new.heads c.look_file.new.look c.in-Ok.file c.in-Ok.ensures
    c.args.begins.now.items c.join_spans.new.begins.items c.in_ok-look_file.field-0
    c.if-not-branch.false c.if-look.false c.join_spans.result c.as_slice.result.now
    c.as_slice.ensures.value (λ on. c.join_spans.ensures.took on rise)
    (c.in_ok-look_file.ensures.shown rise)

pub returns-clause-last : goal.returns-clause-last
returns-clause-last g c = none_failed c.join_spans.result c.in_ok-look_file.ensures.pieces
