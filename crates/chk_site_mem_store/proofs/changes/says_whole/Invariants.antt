use Rattle.std.proofs.Common.{◌≡◌, drop}
use Rattle.chk_site.specs.Acts.{says_whole}
use Rattle.chk_site_mem_store.proofs.changes.says_whole.Given as goal

abbrev pub invariant-loop-entry : goal.invariant-loop-entry
invariant-loop-entry l = says_whole (drop l.entry-index l.left) l.name ≡ says_whole l.left l.name
