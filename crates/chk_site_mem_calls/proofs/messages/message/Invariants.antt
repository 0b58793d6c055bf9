use Rattle.std.proofs.Common.{◌≡◌, take}
use Rattle.std.specs.Prelude.{option_map}
use Rattle.chk_site.specs.Messages.{message}
use Rattle.chk_site_mem_store.specs.Reads.{text_at}
use Rattle.chk_site_mem_store.specs.Told.{told_of}
use Rattle.chk_site_mem_calls.proofs.messages.message.Given as goal

abbrev pub invariant-loop-act : goal.invariant-loop-act
invariant-loop-act l = text_at l.bytes ≡ option_map (λ m. m.bytes) (message (told_of (take l.act-index l.keeper.kept)) l.number)
