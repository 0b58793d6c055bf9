use Rattle.std.proofs.Common.{◌≡◌, bytes_eq, drop}
use Rattle.std.specs.List.{list_any}
use Rattle.chk_demux.specs.Splitting.{texts}
use Rattle.chk_demux.proofs.splitting.is_stamped.Given as goal

abbrev pub invariant-loop-name : goal.invariant-loop-name
invariant-loop-name l =
    list_any (bytes_eq l.kind) (texts (drop l.name-index l.types)) ≡ list_any (bytes_eq l.kind) (texts l.types)
