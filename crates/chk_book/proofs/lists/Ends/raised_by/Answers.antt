use Rattle.std.proofs.Common.{map, ◌∙◌, ap}
use Rattle.chk_book.specs.Views.{end_view}
use Rattle.chk_world.specs.Books.{End}
use Rattle.chk_book.specs.Segmenting.{raised_end, raised_by}
use Rattle.chk_book.proofs.EndPlaces.{raised_next, first_alone}
use Rattle.chk_book.proofs.lists.Ends.raised_by.Goals as goal

pub loop-other-init : goal.loop-other-init
loop-other-init c = record {
  so_far = ap (raised_by (map end_view c.as_slice-other-items.result.now)) c.in_ok-ends.ensures;
  near = first_alone c.in_ok-ends.ends;
}

pub loop-other-preserved : goal.loop-other-preserved
loop-other-preserved c = record {
  so_far =
      raised_next c.as_slice-other-items.result.now c.loop-other.other-index c.other-item.result (map end_view c.loop-other.ends) (map end_view c.put_at.new.self)
      (map end_view c.args.self.now) c.loop-other-test.true c.loop-other.invariant.so_far
      (c.in_ok-put_at.ensures.ok ∙ ap (λ (e : End). raised_end e (map end_view c.loop-other.ends)) (c.in_ok-end.ensures ∙ ap end_view c.other-item.is));
  near = c.in_ok-put_at.ensures.last;
}
