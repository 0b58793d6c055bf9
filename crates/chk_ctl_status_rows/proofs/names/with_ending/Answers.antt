use Rattle.std.proofs.Common.{append_assoc}
use Rattle.chk_ctl_status_rows.proofs.names.with_ending.Goals as goal

pub returns : goal.returns
returns c = rw (c.in_ok-format.ensures.ok) (simp append_assoc)
