use Rattle.std.proofs.Common.{◌≡◌, take}
use Rattle.chk_agent.specs.Settles.{all_back}
use Rattle.chk_agent.proofs.settling.send_back.Given as goal

abbrev pub invariant-loop-place : goal.invariant-loop-place
invariant-loop-place l = l.adaptors.items
    ≡ all_back (take l.place l.gone) l.delivery.table.committed 0 l.fn.adaptors.items
