use Rattle.std.proofs.Common.{inl, inr, refl}
use Rattle.chk_ctl_machine.proofs.locks.holder_at.Goals as goal

pub returns-in-Ok : goal.returns-in-Ok
returns-in-Ok c =
    inl (rw (
      c.major_of.ensures,
      c.process_in.ensures,
      c.as_str.ensures.value,
      c.in-Ok.ensures,
    ) at c.holder_or.ensures)

pub returns-in-Err : goal.returns-in-Err
returns-in-Err c = inr refl
