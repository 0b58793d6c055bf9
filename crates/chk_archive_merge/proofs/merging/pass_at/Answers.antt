use Rattle.std.proofs.Common.{◌≡◌, ◌<◌, length, sym, subst, arith}
use Rattle.std.specs.Prelude.{slice_index_or}
use Rattle.chk_archive_merge.proofs.merging.pass_at.Goals as goal

pub returns-clause-raw : goal.returns-clause-raw
returns-clause-raw g c held settled =
    let names = c.args.names.now in
    let t = c.args.tour in
    let name = c.as_str-name.result.now in
    let file = c.requires.file in
    let count = c.requires.count in
    let below : t.file < length names = omega (arith, file, count) in
    let same : slice_index_or names t.file name ≡ name =
    subst (λ x. slice_index_or names t.file x ≡ x) (sym c.as_str-name.ensures.text) (sym c.index-names-tour.is) in
    c.pass_one.ensures.raw names held settled (t.file, below, same)
