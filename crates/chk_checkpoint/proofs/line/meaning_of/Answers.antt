use Rattle.std.proofs.Common.{sym, ◌∙◌, refl}
use Rattle.chk_checkpoint.specs.Lines.{text_version}
use Rattle.chk_checkpoint.proofs.LineLemmas.{no_live, no_class, no_after, no_offset, no_first, no_start}
use Rattle.chk_checkpoint.proofs.line.meaning_of.Goals as goal

pub returns-in_err-live-clause-none : goal.returns-in_err-live-clause-none
returns-in_err-live-clause-none c =
    rw c.from_residual.ensures
    (λ l h. no_live (text_version c.args.version) c.args.words l h c.in_err-live.ensures.none)

pub returns-in_err-class-clause-none : goal.returns-in_err-class-clause-none
returns-in_err-class-clause-none c =
    rw c.from_residual-in_err-class.ensures
    (λ l h. no_class (text_version c.args.version) c.args.words l h (sym c.class_named.ensures ∙ c.in_err-class.was))

pub returns-in_err-after-clause-none : goal.returns-in_err-after-clause-none
returns-in_err-after-clause-none c =
    rw c.from_residual-in_err-after.ensures
    (λ l h. no_after (text_version c.args.version) c.args.words l h c.in_err-after.ensures.none)

pub returns-in_err-offset-clause-none : goal.returns-in_err-offset-clause-none
returns-in_err-offset-clause-none c =
    rw c.from_residual-in_err-offset.ensures
    (λ l h. no_offset (text_version c.args.version) c.args.words l h (sym c.take_plain_decimal.ensures ∙ c.in_err-offset.was))

pub returns-in_err-first-clause-none : goal.returns-in_err-first-clause-none
returns-in_err-first-clause-none c =
    rw c.from_residual-in_err-first.ensures
    (λ l h. no_first (text_version c.args.version) c.args.words l h (sym c.take_plain_decimal-2.ensures ∙ c.in_err-first.was))

pub returns-in_err-start-clause-none : goal.returns-in_err-start-clause-none
returns-in_err-start-clause-none c =
    rw c.from_residual-in_err-start.ensures
    (λ l h. no_start (text_version c.args.version) c.args.words l h (sym c.start_of.ensures ∙ c.in_err-start.was))

pub returns-clause-some : goal.returns-clause-some
returns-clause-some c = record {
  live = c.in_ok-live.ensures.some;
  class = sym c.class_named.ensures ∙ c.in_ok-class.was;
  after = c.in_ok-after.ensures.some;
  after_is = c.in_ok-after.ensures.is;
  offset = sym c.take_plain_decimal.ensures ∙ c.in_ok-offset.was;
  first = sym c.take_plain_decimal-2.ensures ∙ c.in_ok-first.was;
  start = sym c.start_of.ensures ∙ c.in_ok-start.was;
  has = c.requires;
  name = refl;
  kind = refl;
  path = refl;
}
