use Rattle.std.proofs.Common.{◌∙◌, All, ap, sym, subst, length}
use Rattle.std.specs.Prelude.{slice_set}
use Rattle.chk_archive_parts.specs.Shelves.{IsTrueSlot, value_of}
use Rattle.chk_archive_parts.proofs.Shelved.{put_true}
use Rattle.chk_archive_parts.proofs.shelf.Shelf.put.Goals as goal

pub returns-in_ok-push_all : goal.returns-in_ok-push_all
returns-in_ok-push_all c v files heads e k =
    let s = c.args.self.now in
    let slot = c.in_ok-slot.slot in
    let is = c.in_ok-slot.ensures in
    record {
      windows = k.windows;
      slots = subst (λ b. All (IsTrueSlot v files heads b) (slice_set s.slots.items c.args.at slot))
          (sym c.in_ok-push_all.ensures.ok)
          (put_true v files heads s.bytes c.value-value.result.now s.slots.items c.args.at slot k.slots
          (is.start ∙ ap length c.as_slice.ensures) is.size
          (c.value-value.ensures ∙ (e ∙ ap (value_of v files heads) (sym is.index))));
    }
