use Rattle.std.proofs.Common.{◌≡◌, ◌<◌, ◌-◌, ◌∙◌, false, ap, sym, arith}
use Rattle.chk_record_index.specs.Heads.{Head}
use Rattle.chk_record_index.specs.Order.{of_one_stream}
use Rattle.chk_archive_plan.specs.Passes.{head_in}
use Rattle.chk_archive_plan.specs.Starts.{start_known}
use Rattle.chk_archive_plan.proofs.OneStart.{first_at}
use Rattle.chk_archive_plan.proofs.starts.start_at.Goals as goal
use Rattle.chk_archive_plan.proofs.starts.start_at.Goals.{else-index-gt0-via-then-index-gt0+else-are_of_one, else-index-gt0-via-else-index-gt0}

pub returns : goal.returns
returns c =
    let heads = c.args.heads.now in
    let ks = c.args.known.now in
    let i = c.args.index in
    let found = c.requires.order in
    let other : 0 < i → of_one_stream (head_in heads (i - 1)) (head_in heads i) ≡ false =
    λ some. elim c.else-index-gt0.branch [
      | else-index-gt0-via-then-index-gt0+else-are_of_one w ↦ sym w.are_of_one.ensures ∙ w.if-are_of_one.false
      | else-index-gt0-via-else-index-gt0 w ↦ absurd (let none = w.if-index-gt0.false in let z : ⊥ = omega (arith, none, some) in z)
    ] in
    c.known_start.ensures
    ∙ (ap (λ (h : Head). start_known h.key.start ks h.key.stream) c.get.ensures.head
    ∙ ap (λ n. start_known n ks (head_in heads i).key.stream)
    (sym (first_at found.0 heads i found.1 c.requires.index other)))
