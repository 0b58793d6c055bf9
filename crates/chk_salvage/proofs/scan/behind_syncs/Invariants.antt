use Rattle.std.proofs.Common.{◌-◌, ◌≤◌, length}
use Rattle.chk_salvage.specs.Skipping.{IsOnward, StandBetween}
use Rattle.chk_salvage.proofs.scan.behind_syncs.Given as goal

abbrev pub invariant-loop-place : goal.invariant-loop-place
invariant-loop-place l = record { within : l.place ≤ length l.bytes; way : IsOnward l.marker l.bytes l.at l.place; between : StandBetween l.marker l.bytes l.at l.place }

abbrev pub decreases-loop-place : goal.decreases-loop-place
decreases-loop-place l = length l.bytes - l.place
