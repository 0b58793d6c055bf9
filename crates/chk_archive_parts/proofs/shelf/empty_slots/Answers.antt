use Rattle.std.proofs.Common.{◌≡◌, refl}
use Rattle.std.proofs.lemmas.List.Elements.{All-push}
use Rattle.chk_archive_parts.specs.declared.shelf.Slot.{Slot}
use Rattle.chk_archive_parts.proofs.shelf.empty_slots.Goals as goal

pub loop-preserved : goal.loop-preserved
loop-preserved c =
    rw c.in_ok-push.ensures.items
    (All-push (λ (s : Slot). (s.start ≡ 0) × (s.size ≡ 0)) c.loop.slots.items _ c.loop.invariant (refl, refl))
