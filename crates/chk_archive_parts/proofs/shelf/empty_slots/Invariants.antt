use Rattle.chk_archive_parts.specs.Slots.{AreEmpty}
use Rattle.chk_archive_parts.proofs.shelf.empty_slots.Given as goal

abbrev pub invariant-loop : goal.invariant-loop
invariant-loop l = AreEmpty l.slots.items
