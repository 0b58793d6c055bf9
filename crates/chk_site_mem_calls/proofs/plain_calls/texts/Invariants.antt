use Rattle.std.proofs.Common.{◌≡◌, take}
use Rattle.chk_site_mem_calls.proofs.plain_calls.texts.Given as goal

abbrev pub invariant-loop-name : goal.invariant-loop-name
invariant-loop-name l = l.words ≡ take l.name-index l.names
