use Rattle.std.proofs.Common.{◌≡◌, ◌++◌, ◌<◌, arith, length}
use Rattle.std.proofs.lemmas.List.Elements.{All-push}
use Rattle.chk_archive_plan.specs.Passes.{between}
use Rattle.chk_archive_parts.specs.declared.cuts.Cut.{Cut}
use Rattle.chk_archive_parts.specs.Kept.{whole_from}
use Rattle.chk_archive_parts.proofs.Passed.{whole_more, whole_all}
use Rattle.chk_archive_parts.proofs.kept.push_past.Goals as goal

pub loop-index-preserved : goal.loop-index-preserved
loop-index-preserved c =
    let l = c.loop-index in
    let heads = c.args.heads.now in
    let s = c.args.span.now in
    let all = c.args.cuts.now ++ whole_from s.past (between s.past s.end heads) in
    let k = c.in_ok-new.field-0 in
    let index = c.in_ok-new.ensures.index in
    let low : k.index < length heads = omega (arith, index, c.loop-index-test.true, c.requires.span.1) in
    rw c.in_ok-push.ensures.ok
    (record {
      so_far = whole_more heads s.end all l.cuts l.index l.invariant.so_far k c.loop-index-test.true c.requires.span.1 index
          c.in_ok-new.ensures.skip;
      whole = All-push (λ (k : Cut). (k.index < length heads) × (k.skip ≡ 0)) l.cuts k l.invariant.whole
          (low, c.in_ok-new.ensures.skip);
    })

pub returns-clause-past : goal.returns-clause-past
returns-clause-past c =
    let l = c.loop-index in
    let s = c.args.span.now in
    whole_all c.args.heads.now s.end (c.args.cuts.now ++ whole_from s.past (between s.past s.end c.args.heads.now)) l.cuts
    l.index l.invariant.so_far c.loop-index-test.false
