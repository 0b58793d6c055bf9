use Rattle.std.proofs.Common.{◌≡◌, ◌<◌, ◌∙◌, ◌++◌, ◌∷◌, [], ap, length, get_or, arith}
use Rattle.chk_cmd_line.specs.Lines.{part_text}
use Rattle.chk_cmd_line.proofs.LineLemmas.{first_part, next_part, parts_before}
use Rattle.chk_cmd_line.proofs.lines.push_line.Goals as goal
use Rattle.chk_cmd_line.proofs.lines.push_line.Goals.{then-i-gt0+in_ok-push_all, else-i-gt0}

pub loop-i-preserved : goal.loop-i-preserved
loop-i-preserved c =
    let parts = c.args.parts.now in
    let i = c.loop-i.i in
    let d = c.index-parts-i.result in
    let text = part_text (get_or parts i d) in
    let lt : c.loop-i.i < length c.args.parts.now = omega arith in
    let many = parts_before part_text parts i lt in
    let grown : c.push_part.new.out ≡ c.if-i-gt0.out ++ text =
    c.in_ok-push_part.ensures.ok
    ∙ ap (λ part. c.if-i-gt0.out ++ part_text part) c.index-parts-i.is in
    elim c.if-i-gt0.branch [
      | then-i-gt0+in_ok-push_all w ↦
          next_part part_text parts i d c.args.out.now c.push_part.new.out lt (omega (arith, many))
          (grown ∙ ap (λ front. front ++ text)
          (w.out-is ∙ w.in_ok-push_all.ensures.ok
          ∙ ap (λ front. front ++ 32 ∷ []) c.loop-i.invariant))
      | else-i-gt0 w ↦
          first_part part_text parts i d c.args.out.now c.push_part.new.out lt (omega (arith, many))
          (grown ∙ ap (λ front. front ++ text) (w.out-is ∙ c.loop-i.invariant))
    ]
