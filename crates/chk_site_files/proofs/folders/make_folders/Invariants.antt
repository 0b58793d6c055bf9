use Rattle.std.proofs.Common.{◌≡◌, ◌≤◌, IsSome}
use Rattle.chk_site_files.proofs.folders.make_folders.Given as goal

abbrev pub invariant-loop-folder : goal.invariant-loop-folder
invariant-loop-folder g l =
    (l.found.faults ≤ 1) × (IsSome l.found.unsettled → l.found.faults ≡ 1)
