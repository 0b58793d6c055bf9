use Rattle.std.proofs.Common.{◌≡◌, drop}
use Rattle.chk_record_index.specs.Order.{lent_head}
use Rattle.chk_archive_plan.specs.Passes.{known_of}
use Rattle.chk_archive_plan.proofs.spans.gone_through.Given as goal

abbrev pub invariant-loop-one : goal.invariant-loop-one
invariant-loop-one l =
    known_of (drop l.one-index l.known) (lent_head l.head).key.stream
    ≡ known_of l.known (lent_head l.head).key.stream
