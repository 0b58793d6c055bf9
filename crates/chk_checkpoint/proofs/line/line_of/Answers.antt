use Rattle.std.proofs.Common.{ap, sym, ◌∙◌, true≢false}
use Rattle.std.specs.Prelude.{codes}
use Rattle.std.proofs.lemmas.Slice.Eq.{bytes_eq-Decides}
use Rattle.chk_world.specs.Checkpoints.{is_line}
use Rattle.chk_checkpoint.specs.Lines.{text_version}
use Rattle.chk_checkpoint.proofs.LineLemmas.{same_line, is_of_words, equal_is}
use Rattle.chk_checkpoint.proofs.line.line_of.Goals.{else-is_sign-via-then-is_sign+else-is_line, else-is_sign-via-else-is_sign}
use Rattle.chk_checkpoint.proofs.line.line_of.Goals as goal

pub returns-then-is_line-clause-some : goal.returns-then-is_line-clause-some
returns-then-is_line-clause-some c =
    is_of_words (text_version c.args.version) c.args.words c.in_ok-line.line c.in_ok-line.ensures.some
    (sym ((bytes_eq-Decides c.args.words.equal.now (codes "=")).0 (sym c.is_sign.ensures ∙ c.if-is_sign.true)))
    (sym c.is_line.ensures ∙ c.if-is_line.true)

pub returns-else-is_sign-clause-none : goal.returns-else-is_sign-clause-none
returns-else-is_sign-clause-none c = λ l h. elim c.else-is_sign.branch [
  | else-is_sign-via-then-is_sign+else-is_line w ↦
      let same = same_line (text_version c.args.version) c.args.words c.in_ok-line.line c.in_ok-line.ensures.some l h in
      true≢false (sym h.line ∙ (ap is_line same ∙ (sym w.is_line.ensures ∙ w.if-is_line.false)))
  | else-is_sign-via-else-is_sign w ↦
      true≢false
      (sym ((bytes_eq-Decides c.args.words.equal.now (codes "=")).1 (sym (equal_is (text_version c.args.version) c.args.words l h)))
      ∙ (sym c.is_sign.ensures ∙ w.if-is_sign.false))
]
