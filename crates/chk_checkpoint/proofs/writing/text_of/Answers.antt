use Rattle.std.proofs.Common.{◌≡◌, ap, sym, ◌∙◌, ◌+◌, ◌++◌, ◌∷◌, [], map, take, add-one}
use Rattle.std.proofs.Math.Seq.{take-suc}
use Rattle.chk_world.specs.Checkpoints.{checkpoint_text, line_text}
use Rattle.chk_checkpoint.specs.Lines.{shown, text_version}
use Rattle.chk_checkpoint.proofs.ListLemmas.{map_on}
use Rattle.chk_checkpoint.proofs.WrittenLemmas.{line_more}
use Rattle.chk_checkpoint.proofs.writing.text_of.Goals as goal

pub loop-line-preserved : goal.loop-line-preserved
loop-line-preserved c =
    let v = text_version c.version_for-version.result in
    let lines = c.args.lines.now in
    let i = c.loop-line.line-index in
    let l = c.line-item.result in
    let next : take (i + 1) lines ≡ take i lines ++ l ∷ [] =
    rw add-one (take-suc lines i l c.loop-line-test.true ∙ ap (λ x. take i lines ++ x ∷ []) (sym c.line-item.is)) in
    c.in_ok-put_line.ensures ∙ ap (λ old. old ++ line_text v (shown l)) c.loop-line.invariant
    ∙ sym (line_more v (map shown (take i lines)) (shown l))
    ∙ ap (checkpoint_text v) (sym (ap (map shown) next ∙ map_on shown (take i lines) (l ∷ [])))
