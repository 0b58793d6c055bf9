use Rattle.std.proofs.Common.{◌≡◌, take}
use Rattle.chk_site_mem_store.specs.Listing.{names_of}
use Rattle.chk_site_mem_store.proofs.listing.names_of.Given as goal

abbrev pub invariant-loop-entry : goal.invariant-loop-entry
invariant-loop-entry l = l.names.items ≡ names_of l.folder (take l.entry-index l.files)
