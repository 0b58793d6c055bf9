use Rattle.std.proofs.Common.{◌∙◌, ◌<◌, ◌≤◌, ◌+◌, length, length-set, map, drop, get_or, refl, ap, sym, subst, below_more, arith}
use Rattle.std.proofs.lemmas.List.{length-map, drop_more, drop_all}
use Rattle.chk_record_index.specs.Order.{no_head}
use Rattle.chk_book.specs.declared.lists.End.{End as EndStruct}
use Rattle.chk_book.specs.Views.{end_view}
use Rattle.chk_record_reader.specs.OnePass.{TookHead, AreReached, AreCourses}
use Rattle.chk_record_reader.proofs.OnePass.{courses_begin, courses_on, head_listed, all_passed}
use Rattle.chk_record_reader.proofs.one_pass.all_go_well.Goals as goal

pub loop-index-init : goal.loop-index-init
loop-index-init c = record {
  same = ap length c.in_ok-reached.ensures ∙ length-map c.args.ends.now (λ (e : EndStruct). e.start);
  courses = courses_begin c.args.ends.now c.args.heads.now c.in_ok-reached.reached.items c.in_ok-reached.ensures;
  listed = λ j below. absurd (let never : ⊥ = omega (arith, below) in never);
}

pub loop-index-preserved : goal.loop-index-preserved
loop-index-preserved c =
    let ends = c.args.ends.now in
    let es = map end_view ends in
    let heads = c.args.heads.now in
    let i = c.loop-index.index in
    let h = get_or heads i no_head in
    let before = c.loop-index.reached.items in
    let after = c.take_head.new.reached.items in
    let inv = c.loop-index.invariant in
    let count = c.len-index-end.ensures in
    let test = c.loop-index-test.true in
    let below : i < length heads = omega (arith, count, test) in
    let took : TookHead es before after h = subst (TookHead es before after) c.get.ensures.head (c.if-not-take_head.ensures refl) in
    record {
      same = ap length took.1.taken ∙ (length-set before took.0 h.key.seq ∙ inv.same);
      courses = courses_on es heads (drop (i + 1) heads) before after h (c.if-not-is_rising.ensures refl)
          (inv.same ∙ sym (length-map ends end_view)) took
          (subst (λ l. AreCourses es heads l before) (drop_more heads i no_head below) inv.courses);
      listed = below_more _ _ inv.listed (head_listed h.key.stream es took.0 took.1.within took.1.found);
    }

pub returns : goal.returns
returns c = λ well.
    let es = map end_view c.args.ends.now in
    let heads = c.args.heads.now in
    let rs = c.loop-index.reached.items in
    let count = c.len-index-end.ensures in
    let test = c.loop-index-test.false in
    let past : length heads ≤ c.loop-index.index = omega (arith, count, test) in
    all_passed es heads rs
    (subst (λ l. AreCourses es heads l rs) (drop_all c.loop-index.index heads past) c.loop-index.invariant.courses)
    (subst (AreReached es) c.deref.ensures.value (c.are_reached.ensures well))
    (λ j below. c.loop-index.invariant.listed j (omega (arith, below, past)))
