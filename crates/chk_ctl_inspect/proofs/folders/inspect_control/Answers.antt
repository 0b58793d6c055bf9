use Rattle.std.proofs.Common.{sym}
use Rattle.chk_ctl_inspect.specs.Folders.{asked, unnamed}
use Rattle.chk_ctl_inspect.proofs.Parts.{ok_map}
use Rattle.chk_ctl_inspect.proofs.folders.inspect_control.Goals as goal

pub returns-in-Some : goal.returns-in-Some
returns-in-Some g c =
    ok_map c.inspect_door.result (λ seen x. asked (sym c.in-Some.ensures) x) c.inspect_door.ensures

pub returns-in-None : goal.returns-in-None
returns-in-None g c = unnamed (sym c.in-None.ensures)
