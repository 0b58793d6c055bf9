-- Where data stand that are held.
use Rattle.std.specs.Prelude.{◌≡◌, List, All}
use Rattle.chk_archive_parts.specs.declared.shelf.Slot.{Slot}

-- each is of no record
abbrev pub AreEmpty : List Slot → Type 0
AreEmpty slots = All (λ (s : Slot). (s.start ≡ 0) × (s.size ≡ 0)) slots
