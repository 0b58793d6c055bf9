use Rattle.std.proofs.Common.{◌≡◌, ◌∙◌, ◌<◌, [], length, map, get_or, refl, sym, subst, arith}
use Rattle.std.specs.Prelude.{slice_index_or}
use Rattle.std.proofs.lemmas.List.{get_or_default, length-map}
use Rattle.chk_world.specs.Books.{End}
use Rattle.chk_book.specs.Views.{end_view}
use Rattle.chk_record_reader.proofs.OnePass.{end_there}
use Rattle.chk_archive_merge.specs.Merges.{WasNext}
use Rattle.chk_archive_merge.proofs.Putting.{chunk_at_here, is_put_at, wrote_at}
use Rattle.chk_archive_merge.proofs.merging.write_at.Goals as goal

pub returns-clause-raw : goal.returns-clause-raw
returns-clause-raw g c w held at settled apart =
    let t = c.args.tour in
    let names = c.args.names.now in
    let ends = c.args.ends.now in
    let cs = c.args.cursors.now in
    let name = c.as_str-name.result.now in
    let r = c.index-cursors-tour.result in
    let d = get_or cs t.file r in
    let file = c.requires.file in
    let stream = c.requires.stream in
    let count = c.requires.count in
    let size = length-map ends end_view in
    let below : t.file < length names = omega (arith, file, count) in
    let same : slice_index_or names t.file name ≡ name =
    subst (λ x. slice_index_or names t.file x ≡ x) (sym c.as_str-name.ensures.text) (sym c.index-names-tour.is) in
    let there = end_there ends t.stream c.index-ends-tour.result stream c.index-ends-tour.is in
    wrote_at c.args.most names held (map end_view ends) t cs c.args.segmenter.now w name d c.write_one.new.cursor _ c.write_one.result
    (omega (arith, stream, size)) below file
    (sym same ∙ get_or_default names t.file name [] below) (get_or_default cs t.file r d file) refl
    (subst (λ (e : End). WasNext c.args.most e t.reached d c.write_one.result) there c.write_one.ensures.next)
    (c.write_one.ensures.raw w names held at settled apart (t.file, below, same))

pub returns-clause-put : goal.returns-clause-put
returns-clause-put g c =
    let cs = c.args.cursors.now in
    let r = c.index-cursors-tour.result in
    is_put_at c.args.most c.args.segmenter.now c.write_one.new.segmenter (get_or cs c.args.tour.file r) _ c.write_one.result
    (chunk_at_here c.args.most cs c.args.tour.file r c.requires.file) c.write_one.ensures.put
