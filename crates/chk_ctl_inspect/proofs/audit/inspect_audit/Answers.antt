use Rattle.chk_ctl_inspect.specs.Running.{audited, unfound, unnamed}
use Rattle.chk_ctl_inspect.proofs.audit.inspect_audit.Goals as goal

pub returns-then-not-stand : goal.returns-then-not-stand
returns-then-not-stand g c = unfound c.if-not-stand.ensures

pub returns-in-Some : goal.returns-in-Some
returns-in-Some g c =
    audited c.if-not-stand.ensures c.in-Some.ensures
    (rw (c.as_slice.ensures, c.as_str.ensures.value) at c.run_in.ensures)

pub returns-in-None : goal.returns-in-None
returns-in-None g c = unnamed c.if-not-stand.ensures c.in-None.ensures
