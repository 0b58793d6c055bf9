use Rattle.std.proofs.Common.{◌++◌, ◌≤◌, ◌<◌, arith, length}
use Rattle.std.proofs.lemmas.List.Elements.{All-push}
use Rattle.chk_record_index.specs.Order.{lent_head}
use Rattle.chk_archive_parts.specs.Cuts.{span_cuts}
use Rattle.chk_archive_parts.specs.declared.cuts.Cut.{Cut}
use Rattle.chk_archive_parts.proofs.Passed.{passed_on, passed_by, passed_all}
use Rattle.chk_archive_parts.proofs.cuts.push_span.Goals as goal
use Rattle.chk_archive_parts.proofs.cuts.push_span.Goals.{then-head-reached+then-reached-head+in_ok-new+in_ok-push, else-head-reached, else-head-reached-via-then-head-reached+else-reached-head, else-head-reached-via-else-head-reached}

pub loop-index-preserved : goal.loop-index-preserved
loop-index-preserved c =
    let l = c.loop-index in
    let heads = c.args.heads.now in
    let end = c.args.span.now.end in
    let all = c.args.cuts.now ++ span_cuts heads c.args.span.now in
    let h = lent_head c.get-head.result in
    let head = c.get-head.ensures.head in
    elim c.if-head-reached.branch [
      | then-head-reached+then-reached-head+in_ok-new+in_ok-push w ↦
          let k = w.in_ok-new.field-0 in
          let low : k.index < length heads = omega (arith, w.in_ok-new.ensures.index) in
          rw (w.cuts-is, w.in_ok-push.ensures.ok, w.reached-is)
          (record {
            so_far = passed_on heads end all l.cuts l.index l.reached l.invariant.so_far h head c.loop-index-test.true
                c.requires.span k w.if-head-reached.true w.if-reached-head.true w.in_ok-new.ensures.index w.in_ok-new.ensures.skip;
            within = All-push (λ (k : Cut). k.index < length heads) l.cuts k l.invariant.within low;
          })
      | else-head-reached w ↦
          let none : h.begin ≤ l.reached → h.key.seq ≤ l.reached = omega (arith, w.else-head-reached.either) in
          rw (w.cuts-is, w.reached-is)
          (record {
            so_far = passed_by heads end all l.cuts l.index l.reached l.invariant.so_far h head c.loop-index-test.true
                c.requires.span none;
            within = l.invariant.within;
          })
    ]

pub returns-clause-each : goal.returns-clause-each
returns-clause-each c =
    let l = c.loop-index in
    passed_all c.args.heads.now c.args.span.now.end (c.args.cuts.now ++ span_cuts c.args.heads.now c.args.span.now)
    l.cuts l.index l.reached l.invariant.so_far c.loop-index-test.false
