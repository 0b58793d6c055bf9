use Rattle.std.proofs.Common.{subst, sym}
use Rattle.chk_archive_plan.specs.Passes.{AreSpans}
use Rattle.chk_archive_plan.proofs.MoreSpans.{spans_push}
use Rattle.chk_archive_plan.proofs.spans.plan.Goals as goal

pub loop-first-preserved : goal.loop-first-preserved
loop-first-preserved c =
    let known = c.args.known.now in
    let heads = c.args.heads.now in
    let span = c.span_at-span.result in (
      subst (λ l. AreSpans known heads 0 l span.end) (sym c.in_ok-push.ensures.items)
          (spans_push known heads 0 c.loop-first.first c.loop-first.spans.items span c.loop-first.invariant.0
          c.span_at-span.ensures.first c.span_at-span.ensures.span),
      c.span_at-span.ensures.span.within,
    )
