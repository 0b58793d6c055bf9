use Rattle.std.proofs.Common.{flat_map}
use Rattle.chk_archive_parts.specs.Cuts.{span_cuts}
use Rattle.chk_archive_parts.proofs.Passed.{span_more, spans_all}
use Rattle.chk_archive_parts.proofs.cuts.cuts_of.Goals as goal

pub loop-span-preserved : goal.loop-span-preserved
loop-span-preserved c =
    let l = c.loop-span in
    let heads = c.args.heads.now in
    let spans = c.args.spans.now in
    record {
      so_far = span_more (span_cuts heads) (flat_map (span_cuts heads) spans) l.cuts spans l.span-index l.invariant.so_far
          c.push_span.new.cuts _ c.loop-span-test.true c.in_ok-push_span.ensures.each;
      within = c.in_ok-push_span.ensures.within;
    }

pub returns-clause-each : goal.returns-clause-each
returns-clause-each c =
    let l = c.loop-span in
    let heads = c.args.heads.now in
    spans_all (span_cuts heads) (flat_map (span_cuts heads) c.args.spans.now) l.cuts c.args.spans.now l.span-index
    l.invariant.so_far c.loop-span-test.false
