use Rattle.std.proofs.Common.{◌≡◌, take}
use Rattle.chk_site.specs.Messages.{taken}
use Rattle.chk_site_mem_store.specs.Told.{told_of}
use Rattle.chk_site_mem_calls.specs.Taken.{taken_seen}
use Rattle.chk_site_mem_calls.proofs.messages.taken.Given as goal

abbrev pub invariant-loop-act : goal.invariant-loop-act
invariant-loop-act l = taken_seen l.took ≡ taken (told_of (take l.act-index l.keeper.kept)) l.number
