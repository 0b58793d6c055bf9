use Rattle.std.proofs.Common.{◌≡◌, map, refl, ◌∙◌, ap, arith}
use Rattle.std.proofs.lemmas.List.{length-map}
use Rattle.chk_world.specs.Books.{End}
use Rattle.chk_book.specs.Views.{end_view}
use Rattle.chk_record_reader.proofs.OnePass.{end_there}
use Rattle.chk_archive_merge.specs.declared.tour.Tour.{Tour}
use Rattle.chk_archive_merge.proofs.Touring.{on_file, on_stream}
use Rattle.chk_archive_merge.proofs.tour.Tour.seek.Goals as goal

pub returns-then-self-cursors-clause-on : goal.returns-then-self-cursors-clause-on
returns-then-self-cursors-clause-on c =
    on_file (map end_view c.args.ends.now) c.args.self.now c.loop-self.self _ c.loop-self.invariant refl refl c.next_file-self.ensures

pub returns-then-self-end-clause-on : goal.returns-then-self-end-clause-on
returns-then-self-end-clause-on c =
    on_file (map end_view c.args.ends.now) c.args.self.now c.loop-self.self _ c.loop-self.invariant refl refl c.next_file-self.ensures

pub loop-self-preserved : goal.loop-self-preserved
loop-self-preserved c =
    let es = map end_view c.args.ends.now in
    let u : Tour = record { stream = c.loop-self.self.stream; file = c.next_file-self.result; reached = c.loop-self.self.reached } in
    let low = c.loop-self-test.true in
    let size = length-map c.args.ends.now end_view in
    let there = end_there c.args.ends.now c.loop-self.self.stream c.index-ends-self.result low c.index-ends-self.is in
    let same : c.loop-self.self.reached ≡ c.index-ends-self.result.end = let e = c.if-self-end.false in e in
    on_stream es c.args.self.now u _
    (on_file es c.args.self.now c.loop-self.self u c.loop-self.invariant refl refl c.next_file-self.ensures)
    (omega (arith, low, size)) (same ∙ ap (λ (e : End). e.end) there) refl c.start_of-self.ensures
