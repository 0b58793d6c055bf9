use Rattle.std.proofs.Common.{Some, map, take, sym, ◌∙◌, ap}
use Rattle.std.specs.Prelude.{if◌then◌else◌}
use Rattle.chk_site.specs.Logs.{newest}
use Rattle.chk_site_mem_store.specs.declared.logs.MemGeneration.{MemGeneration}
use Rattle.chk_site_mem_store.specs.Stored.{generation_of}
use Rattle.chk_site_mem_store.proofs.ReadLemmas.{newest_more}
use Rattle.chk_site_mem_store.proofs.log_reads.newest_of.Goals as goal

pub loop-generation-preserved : goal.loop-generation-preserved
loop-generation-preserved c =
    let g = c.generation-item.result in
    let gs = c.args.rotated.now in
    let i = c.loop-generation.generation-index in
    c.newer-found.ensures
    ∙ ap (λ o. if g.deleted then o else Some g.suffix) c.loop-generation.invariant
    ∙ ap (λ (x : MemGeneration). if x.deleted then newest (map generation_of (take i gs)) else Some x.suffix) c.generation-item.is
    ∙ sym (newest_more gs i g c.loop-generation-test.true)
