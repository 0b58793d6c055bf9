use Rattle.chk_ctl_inspect.specs.Folders.{door_seen}
use Rattle.chk_ctl_inspect.proofs.folders.inspect_door.Goals as goal

pub returns : goal.returns
returns g c = door_seen c.in_ok-door.ensures c.in_ok-name.ensures.ok c.in_ok-address.ensures.ok
