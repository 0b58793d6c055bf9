use Rattle.std.proofs.Common.{◌≡◌, take}
use Rattle.chk_site_mem_store.specs.Told.{told_of}
use Rattle.chk_site_mem_calls.specs.Mail.{waits}
use Rattle.chk_site_mem_calls.proofs.mail.waiting.Given as goal

abbrev pub invariant-loop-act : goal.invariant-loop-act
invariant-loop-act l = l.waiting.items ≡ waits l.mailbox (told_of (take l.act-index l.keeper.kept))
