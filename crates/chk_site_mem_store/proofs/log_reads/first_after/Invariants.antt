use Rattle.std.proofs.Common.{◌≡◌, map, drop}
use Rattle.chk_site.specs.Logs.{first_shown, shown_after}
use Rattle.chk_site_mem_store.specs.Reads.{text_at}
use Rattle.chk_site_mem_store.specs.Stored.{generation_of}
use Rattle.chk_site_mem_store.proofs.log_reads.first_after.Given as goal

abbrev pub invariant-loop-generation : goal.invariant-loop-generation
invariant-loop-generation l =
    first_shown (shown_after (text_at l.after) (map generation_of (drop l.generation-index l.rotated)) l.base.bytes.now)
    ≡ first_shown (shown_after (text_at l.after) (map generation_of l.rotated) l.base.bytes.now)
