use Rattle.std.proofs.Common.{sym, ◌∙◌}
use Rattle.chk_archive_parts.proofs.Spelling.{aside_so}
use Rattle.chk_archive_parts.proofs.publishing.is_aside.Goals as goal

pub returns-then-is_segment : goal.returns-then-is_segment
returns-then-is_segment c =
    aside_so c.args.next c.args.segments.now c.args.aside.now c.in-Some.segment c.in-Some.is
    (sym c.is_segment.ensures ∙ c.if-is_segment.true) c.has_number.result c.has_number.ensures
