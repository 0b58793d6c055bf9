use Rattle.std.proofs.Common.{◌≡◌, map, take}
use Rattle.chk_site.specs.Logs.{newest}
use Rattle.chk_site_mem_store.specs.Reads.{text_at}
use Rattle.chk_site_mem_store.specs.Stored.{generation_of}
use Rattle.chk_site_mem_store.proofs.log_reads.newest_of.Given as goal

abbrev pub invariant-loop-generation : goal.invariant-loop-generation
invariant-loop-generation l = text_at l.found ≡ newest (map generation_of (take l.generation-index l.rotated))
