use Rattle.std.proofs.Common.{◌≡◌, ap, sym, ◌∙◌, List, ℕ, length, Option, Some, None}
use Rattle.std.specs.Prelude.{IfSome, IfNone}
use Rattle.chk_bytes.specs.Words.{joined_at, parts_at}
use Rattle.chk_world.specs.Checkpoints.{Line, Version as Text}
use Rattle.chk_checkpoint.specs.declared.words.Words.{Words}
use Rattle.chk_checkpoint.specs.declared.line.LineRef.{LineRef}
use Rattle.chk_checkpoint.specs.Lines.{text_version}
use Rattle.chk_checkpoint.specs.Fields.{words_in, lent, IsLineText, IsLineWords}
use Rattle.chk_checkpoint.proofs.LineLemmas.{words_are, counted, joined_back}
use Rattle.chk_checkpoint.proofs.line.read_line.Goals as goal

pub returns-in_err-words-clause-none : goal.returns-in_err-words-clause-none
returns-in_err-words-clause-none c =
    rw c.from_residual.ensures
    (λ l h. c.in_err-words.ensures.none
    (ap length (words_are (text_version c.args.version) c.args.text.now l h) ∙ counted (text_version c.args.version) l))

some_read : (v : Text) (text : List ℕ) (w : Words) → parts_at 32 text ≡ words_in w → (r : Option LineRef)
    → IfSome r (λ l. IsLineWords v (words_in w) (lent l)) → IfSome r (λ l. IsLineText v text (lent l))
some_read v text w parts None h = tt
some_read v text w parts (Some l) h =
    record { line = h.line; fits = h.fits; spelled = ap (joined_at 32) (h.spelled ∙ sym parts) ∙ joined_back 32 text }

none_read : (v : Text) (text : List ℕ) (w : Words) → parts_at 32 text ≡ words_in w → (r : Option LineRef)
    → IfNone r ((l : Line) → IsLineWords v (words_in w) l → ⊥) → IfNone r ((l : Line) → IsLineText v text l → ⊥)
none_read v text w parts None h = λ l t. h l (record { line = t.line; fits = t.fits; spelled = sym (words_are v text l t) ∙ parts })
none_read v text w parts (Some l) h = tt

pub returns-clause-some : goal.returns-clause-some
returns-clause-some c =
    some_read (text_version c.args.version) c.args.text.now c.in_ok-words.words c.in_ok-words.ensures.some c.line_of.result c.line_of.ensures.some

pub returns-clause-none : goal.returns-clause-none
returns-clause-none c =
    none_read (text_version c.args.version) c.args.text.now c.in_ok-words.words c.in_ok-words.ensures.some c.line_of.result c.line_of.ensures.none
