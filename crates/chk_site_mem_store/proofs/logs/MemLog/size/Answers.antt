use Rattle.chk_site_mem_store.proofs.LogLemmas.{counted}
use Rattle.chk_site_mem_store.proofs.logs.MemLog.size.Goals as goal

pub loop-generation-preserved : goal.loop-generation-preserved
loop-generation-preserved c =
    counted c.args.self.now.rotated.items c.deref-generation-items.result.now c.loop-generation.generation-index _ _ _ c.len.result
    c.generation-item.result c.deref-generation-items.ensures.value c.loop-generation-test.true c.generation-item.is
    c.loop-generation.invariant c.len.ensures c.in_ok-size.ensures.1
