use Rattle.std.proofs.Common.{◌≡◌, ◌++◌, length, take}
use Rattle.chk_bytes.specs.Numbers.{be32}
use Rattle.chk_tee.specs.Messages.{tee_mark, written_teeds}
use Rattle.chk_tee.specs.Lent.{lent_teeds}
use Rattle.chk_tee.proofs.writing.write_tee.Given as goal

-- the head, and the chunks so far
abbrev pub invariant-loop-item : goal.invariant-loop-item
invariant-loop-item l = l.out ≡ (tee_mark ++ be32 (length l.items)) ++ written_teeds (lent_teeds (take l.item-index l.items))
