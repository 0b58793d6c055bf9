use Rattle.std.proofs.Common.{◌∙◌, ap, sym}
use Rattle.chk_site_rotations.specs.Generations.{shown_in, text_at}
use Rattle.chk_site_rotations.proofs.Newest.{newest_found, newest_on, none_left}
use Rattle.chk_site_rotations.proofs.generations.newest_of.Goals as goal

pub returns-in-Some : goal.returns-in-Some
returns-in-Some c =
    newest_found c.args.base.now (text_at c.args.below) c.args.names.now c.loop-passed.passed c.index-names-names.result c.in-Some.suffix
    c.loop-passed-test.true c.index-names-names.is
    (sym c.in-Some.is ∙ (c.in_ok-suffix.ensures ∙ ap (shown_in c.args.base.now (text_at c.args.below)) c.as_str.ensures.text))
    c.loop-passed.invariant

pub loop-passed-preserved : goal.loop-passed-preserved
loop-passed-preserved c =
    newest_on c.args.base.now (text_at c.args.below) c.args.names.now c.loop-passed.passed c.index-names-names.result
    c.loop-passed-test.true c.index-names-names.is
    (none_left c.in_ok-suffix.field-0 c.in_default.not-Some
    ∙ (c.in_ok-suffix.ensures ∙ ap (shown_in c.args.base.now (text_at c.args.below)) c.as_str.ensures.text))
    c.loop-passed.invariant
