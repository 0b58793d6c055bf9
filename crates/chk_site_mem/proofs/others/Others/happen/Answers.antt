use Rattle.std.proofs.Common.{Bool, false, List, sym, ◌∙◌, ap}
use Rattle.std.specs.Prelude.{if◌then◌else◌}
use Rattle.chk_site.specs.declared.scripts.Other.{Other}
use Rattle.chk_site.specs.History.{files_after}
use Rattle.chk_site_mem_store.specs.State.{State, after}
use Rattle.chk_site_mem_store.specs.Told.{fitted, kept_as, told_of}
use Rattle.chk_site_mem_store.proofs.GoingLemmas.{theirs_kept}
use Rattle.chk_site_mem.specs.Memory.{happened, later}
use Rattle.chk_site_mem.proofs.FollowLemmas.{due_happens, due_later, theirs_repeats}
use Rattle.chk_site_mem.proofs.others.Others.happen.Goals as goal

pub loop-other-preserved : goal.loop-other-preserved
loop-other-preserved c =
    let n = c.args.call in
    let others = c.loop-other.self in
    let s = c.loop-other.keeper in
    let other = c.in-Some.other in
    let ensures = c.in_ok-keep.ensures in
    let one = kept_as false (fitted (files_after (told_of s.kept)) other.act) in
    let is = ensures.kept ∙ ap (λ (b : Bool). if b then after one s else s) ensures.allowed in
    let due = sym c.next_due.ensures.due ∙ c.in-Some.is in
    record {
      theirs = theirs_kept _ s c.keep.new.self other.act c.in_ok-keep.field-0 c.loop-other.invariant.theirs ensures.kept ensures.modelled;
      acted =
          ap (λ (os : List Other). happened n os c.keep.new.self) c.next_due.ensures.left
          ∙ ap (happened n _) is
          ∙ due_happens n others s other due
          ∙ c.loop-other.invariant.acted;
      left = ap (later n) c.next_due.ensures.left ∙ due_later n others other due ∙ c.loop-other.invariant.left;
      repeats = ap (λ (s : State). s.repeats) is ∙ theirs_repeats other.act s ∙ c.loop-other.invariant.repeats;
    }
