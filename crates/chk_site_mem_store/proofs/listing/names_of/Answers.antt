use Rattle.std.proofs.Common.{arith}
use Rattle.std.proofs.lemmas.Grind.{common_steps}
use Rattle.chk_site_mem_store.proofs.ListLemmas.{names_more}
use Rattle.chk_site_mem_store.proofs.listing.names_of.Goals as goal

pub loop-entry-preserved : goal.loop-entry-preserved
loop-entry-preserved c =
    let more = names_more c.args.folder.now c.args.files.now c.loop-entry.entry-index c.entry-item.result c.loop-entry-test.true in
    grind (arith, common_steps, more)
