use Rattle.chk_archive_plan.specs.Passes.{between}
use Rattle.chk_archive_plan.specs.declared.spans.Span.{Span}
use Rattle.chk_archive_parts.specs.Kept.{whole_from, past_cuts}
use Rattle.chk_archive_parts.proofs.Passed.{span_more, spans_all}
use Rattle.chk_archive_parts.proofs.kept.past_of.Goals as goal

pub loop-span-preserved : goal.loop-span-preserved
loop-span-preserved c =
    let l = c.loop-span in
    let heads = c.args.heads.now in
    let spans = c.args.spans.now in
    record {
      so_far = span_more (λ (s : Span). whole_from s.past (between s.past s.end heads)) (past_cuts heads spans) l.cuts spans
          l.span-index l.invariant.so_far c.push_past.new.cuts _ c.loop-span-test.true c.in_ok-push_past.ensures.past;
      whole = c.in_ok-push_past.ensures.whole;
    }

pub returns-clause-past : goal.returns-clause-past
returns-clause-past c =
    let l = c.loop-span in
    let heads = c.args.heads.now in
    spans_all (λ (s : Span). whole_from s.past (between s.past s.end heads)) (past_cuts heads c.args.spans.now) l.cuts
    c.args.spans.now l.span-index l.invariant.so_far c.loop-span-test.false
