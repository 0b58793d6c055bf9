use Rattle.std.proofs.Common.{◌≡◌}
use Rattle.chk_archive_plan.specs.Passes.{between, pass_end, pass_past}
use Rattle.chk_archive_plan.proofs.spans.pass.Given as goal

abbrev pub invariant-loop-past : goal.invariant-loop-past
invariant-loop-past l =
    (pass_end l.reached (between l.past l.end l.heads) ≡ pass_end l.from
    (between l.first l.end l.heads))
    × (pass_past l.reached (between l.past l.end l.heads) ≡ pass_past l.from
    (between l.first l.end l.heads))
