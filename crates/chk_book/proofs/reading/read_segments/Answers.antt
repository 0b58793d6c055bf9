use Rattle.std.proofs.Common.{◌+◌, [], ◌∷◌, ◌++◌, map, sym, subst, arith}
use Rattle.std.proofs.lemmas.Result.{err_from_is_err_and}
use Rattle.chk_world.specs.Books.{Segment}
use Rattle.chk_book.specs.Damage.{segment_damage, segments_damage}
use Rattle.chk_book.specs.Views.{segment_view}
use Rattle.chk_book.proofs.FieldFacts.{segment_there}
use Rattle.chk_book.proofs.ReadLists.{SegmentsSo, segments_step, segments_wrong, more_is, refused_on}
use Rattle.chk_book.proofs.reading.read_segments.Goals as goal

pub returns-in_err-segment-clause-fault : goal.returns-in_err-segment-clause-fault
returns-in_err-segment-clause-fault c =
    let p = err_from_is_err_and c.from_residual.result c.from_residual.ensures.1 in
    let bytes = c.args.bytes.now in
    rw (p.1, p.2)
    (refused_on (segment_damage c.args.next c.loop-read.last c.loop-read.at bytes) (segments_damage c.args.count c.args.next 0 17 bytes) c.in_err-segment.field-0.0
    (λ place wrong. segments_wrong c.args.next c.args.count bytes (map segment_view c.loop-read.segments) c.loop-read._read c.loop-read.last c.loop-read.at place
    c.loop-read.invariant c.loop-read-test.true wrong)
    c.in_err-segment.ensures.fault)

pub loop-read-preserved : goal.loop-read-preserved
loop-read-preserved c =
    let bytes = c.args.bytes.now in
    let found = c.in_ok-segment.ensures.segment in
    let gs = map segment_view c.loop-read.segments in
    let g = segment_there c.loop-read.at bytes in
    let is : Path Segment (segment_view c.in_ok-segment.segment) g = λ i. record { number = (found.1) i; length = (found.2) i } in
    let base = segments_step c.args.next c.args.count bytes gs c.loop-read._read c.loop-read.last c.loop-read.at c.loop-read.invariant
    (λ i. omega (arith, c.type_inv.bytes i)) c.requires.next c.loop-read-test.true found.0 in
    subst (λ hs. SegmentsSo c.args.next c.args.count bytes hs (c.loop-read._read + 1) c.in_ok-segment.segment.number (c.loop-read.at + 16))
    (sym (more_is segment_view c.loop-read.segments c.push.new.self c.in_ok-segment.segment g c.in_ok-push.ensures.ok is))
    (subst (λ n. SegmentsSo c.args.next c.args.count bytes (gs ++ g ∷ []) (c.loop-read._read + 1) n (c.loop-read.at + 16)) (sym found.1) base)
