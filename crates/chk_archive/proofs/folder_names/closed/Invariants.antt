use Rattle.std.proofs.Common.{◌≡◌, take}
use Rattle.chk_archive.specs.FolderNames.{closed_in}
use Rattle.chk_archive.proofs.folder_names.closed.Given as goal

abbrev pub invariant-loop-name : goal.invariant-loop-name
invariant-loop-name l = l.closed.items ≡ closed_in (take l.name-index l.names)
