use Rattle.std.proofs.Common.{◌∙◌, ◌<◌, ◌++◌, ◌∷◌, [], ℕ, length, subst, sym, arith}
use Rattle.std.proofs.lemmas.List.Elements.{All-push, All-same}
use Rattle.chk_ctl_held.specs.declared.groups.Group.{Group}
use Rattle.chk_ctl_held.proofs.Grouped.{begins, goes_on}
use Rattle.chk_ctl_held.proofs.groups.groups_of.Goals.{then-are_of_one}
use Rattle.chk_ctl_held.proofs.groups.groups_of.Goals.{else-are_of_one+in_ok-push}
use Rattle.chk_ctl_held.proofs.groups.groups_of.Goals as goal

pub loop-index-preserved : goal.loop-index-preserved
loop-index-preserved c =
    let l = c.loop-index in
    let heads = c.args.heads.now in
    let low = subst (λ (n : ℕ). l.index < n) c.len-index-end.ensures c.loop-index-test.true in
    elim c.if-are_of_one.branch [
      | then-are_of_one w ↦
          rw (w.done-is, w.group-is)
          (record {
            well = w.with_head-group.ensures.well;
            low = let z = w.with_head-group.ensures.well.0 in omega (arith, z, low);
            done = l.invariant.done;
            is = goes_on l.done.items heads l.group w.with_head-group.result l.index low
                (sym c.are_of_one.ensures ∙ w.if-are_of_one.true) w.with_head-group.ensures.is
                ∙ l.invariant.is;
          })
      | else-are_of_one+in_ok-push w ↦
          rw (w.done-is, w.group-is)
          (record {
            well = w.group_at-group-else-are_of_one.ensures.well;
            low = let z = w.group_at-group-else-are_of_one.ensures.well.0 in omega (arith, z, low);
            done = All-same (λ (g : Group). g.first < length heads) w.push.new.self.items
                (l.done.items ++ l.group ∷ []) w.in_ok-push.ensures.items
                (All-push (λ (g : Group). g.first < length heads) l.done.items l.group
                l.invariant.done l.invariant.low);
            is = begins l.done.items w.push.new.self.items heads l.group
                w.group_at-group-else-are_of_one.result l.index low
                (sym c.are_of_one.ensures ∙ w.if-are_of_one.false)
                w.group_at-group-else-are_of_one.ensures.is w.in_ok-push.ensures.items
                ∙ l.invariant.is;
          })
    ]
