use Rattle.std.proofs.Common.{rules, ◌≡◌, ◌∙◌, sym, ap, arith}
use Rattle.std.proofs.lemmas.Fn.{always_returns_same}
use Rattle.chk_chunk.specs.Keys.{Stream, stream_lt}
use Rattle.chk_record_index.specs.Order.{lent_head}
use Rattle.chk_book.specs.declared.lists.End.{End as EndStruct}
use Rattle.chk_book.specs.Views.{end_view}
use Rattle.chk_record_reader.specs.Courses.{is_end_of}
use Rattle.chk_record_reader.proofs.OnePass.{end_there}
use Rattle.chk_demux_scan.proofs.Backwards.{parted, none_found}
use Rattle.chk_demux_scan.proofs.backward.place_of.Goals.{else-place-ends-via-then-place-ends+else-is_of, else-place-ends-via-else-place-ends}
use Rattle.chk_demux_scan.proofs.backward.place_of.Goals as goal

pub returns-clause-none : goal.returns-clause-none
returns-clause-none c rise =
    let es = c.args.ends.now in
    let s : Stream = (lent_head c.args.head.now).key.stream in
    let i = c.partition_point-place.result in
    none_found es s rise i c.partition_point-place.ensures.bound
    (c.partition_point-place.ensures.partitioned
    (λ (x : EndStruct). stream_lt (end_view x).stream s)
    (always_returns_same _ (λ a r. r ≡ stream_lt (end_view a.0.now).stream s) _
    (λ a r f k. search rules)) (parted es s rise))
    (elim c.else-place-ends.branch [
      | else-place-ends-via-then-place-ends+else-is_of w ↦ (λ low.
          ap (is_end_of s) (sym (end_there es i w.index-ends-place.result low
          w.index-ends-place.is))
          ∙ (sym w.is_of.ensures ∙ w.if-is_of.false))
      | else-place-ends-via-else-place-ends w ↦
          (λ low. absurd (let z : ⊥ = let high = w.if-place-ends.false in omega
          (arith, low, high) in z))
    ])
