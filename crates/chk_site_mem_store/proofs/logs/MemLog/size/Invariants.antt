use Rattle.std.proofs.Common.{◌≡◌, ◌+◌, length, map, take}
use Rattle.chk_site.specs.Logs.{size_of}
use Rattle.chk_site_mem_store.specs.Stored.{generation_of}
use Rattle.chk_site_mem_store.proofs.logs.MemLog.size.Given as goal

abbrev pub invariant-loop-generation : goal.invariant-loop-generation
invariant-loop-generation l =
    l.size ≡ length l.self.base + size_of (map generation_of (take l.generation-index l.self.rotated.items))
