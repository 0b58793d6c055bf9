use Rattle.std.proofs.Common.{◌≡◌, ◌-◌, length, drop, Ok, sym, ap, subst, ◌∙◌}
use Rattle.std.proofs.lemmas.List.{take_rest}
use Rattle.chk_seqfile.specs.Headers.{read_text}
use Rattle.chk_seqfile.specs.HeaderSteps.{HasComeTo}
use Rattle.chk_seqfile.proofs.HeaderStepLemmas.{come_text}
use Rattle.chk_seqfile.proofs.reading.read_texts.Goals as goal

pub loop-left-preserved : goal.loop-left-preserved
loop-left-preserved c =
    let bytes = c.args.bytes.now in
    let left = c.loop-left.left in
    let rest = c.in_ok-rest.rest.now in
    let read : read_text (length bytes) (drop left.place bytes) ≡ Ok rest =
    ap (read_text (length bytes)) (sym (take_rest bytes left.place)) ∙ sym c.in_ok-rest.ensures in
    subst (λ p. HasComeTo (record { place = p; texts = left.texts - 1 }) bytes) (sym c.place_of-left.ensures)
    (come_text left bytes rest c.loop-left.invariant c.loop-left-test.true read)
