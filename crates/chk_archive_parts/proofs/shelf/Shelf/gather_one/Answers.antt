use Rattle.std.specs.Prelude.{slice_index_or}
use Rattle.std.proofs.lemmas.Result.{err_from_is_err_and}
use Rattle.chk_archive_parts.specs.Cuts.{no_chunk}
use Rattle.chk_archive_parts.proofs.Among.{record_at}
use Rattle.chk_archive_parts.proofs.CutLists.{no_cut}
use Rattle.chk_archive_parts.proofs.ManyFiles.{fetch_all}
use Rattle.chk_archive_parts.proofs.Shelved.{one_held, not_held, no_room}
use Rattle.chk_archive_parts.proofs.shelf.Shelf.gather_one.Goals as goal

pub returns-in_err-fetch_by_head-clause-raw : goal.returns-in_err-fetch_by_head-clause-raw
returns-in_err-fetch_by_head-clause-raw g c v cs records =
    let p = err_from_is_err_and c.from_residual.result c.from_residual.ensures.1 in
    let files = c.args.files.now in
    let heads = c.args.heads.now in
    let i = (slice_index_or c.args.cuts.now c.args.at no_cut).index in
    let low = c.requires.cuts c.args.at no_cut c.if-at-cuts.false in
    let d = slice_index_or cs i no_chunk in
    let is = record_at v files heads cs records i low in
    let q = c.fetch_by_head.new.reader in
    let told = fetch_all v files heads i d records.sound is c.args.self.now.reader q c.fetch_by_head.result
    (c.fetch_by_head.ensures.raw v d records.sound is) c.fetch_by_head.ensures.stays in
    rw (p.1, p.2)
    (not_held v files heads cs records i low c.args.self.now q c.fetch_by_head.result told
    c.args.self.now c.in_err-fetch_by_head.field-0.0
    c.in_err-fetch_by_head.was)

pub returns-in_err-put-clause-raw : goal.returns-in_err-put-clause-raw
returns-in_err-put-clause-raw g c v cs records =
    let p = err_from_is_err_and c.from_residual-in_err-put.result c.from_residual-in_err-put.ensures.1 in
    let files = c.args.files.now in
    let heads = c.args.heads.now in
    let i = (slice_index_or c.args.cuts.now c.args.at no_cut).index in
    let low = c.requires.cuts c.args.at no_cut c.if-at-cuts.false in
    let d = slice_index_or cs i no_chunk in
    let is = record_at v files heads cs records i low in
    let q = c.fetch_by_head.new.reader in
    let told = fetch_all v files heads i d records.sound is c.args.self.now.reader q c.fetch_by_head.result
    (c.fetch_by_head.ensures.raw v d records.sound is) c.fetch_by_head.ensures.stays in
    rw (p.1, p.2) (no_room v files heads cs records i low c.args.self.now q c.fetch_by_head.result told c.put.new.self)

pub returns-clause-raw : goal.returns-clause-raw
returns-clause-raw g c v cs records =
    let files = c.args.files.now in
    let heads = c.args.heads.now in
    let i = (slice_index_or c.args.cuts.now c.args.at no_cut).index in
    let low = c.requires.cuts c.args.at no_cut c.if-at-cuts.false in
    let d = slice_index_or cs i no_chunk in
    let is = record_at v files heads cs records i low in
    let q = c.fetch_by_head.new.reader in
    let told = fetch_all v files heads i d records.sound is c.args.self.now.reader q c.fetch_by_head.result
    (c.fetch_by_head.ensures.raw v d records.sound is) c.fetch_by_head.ensures.stays in
    one_held v files heads cs records i low c.args.self.now q c.fetch_by_head.result told c.put.new.self
    c.in_ok-fetch_by_head.field-0 c.in_ok-fetch_by_head.was
    (λ w k e. c.put.ensures v files heads e (record { windows = w; slots = k.slots }))
