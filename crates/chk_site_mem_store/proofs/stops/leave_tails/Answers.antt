use Rattle.std.proofs.Common.{◌∙◌, sym, ap, set}
use Rattle.std.proofs.lemmas.List.Edits.{map_over_more}
use Rattle.chk_site_mem_store.specs.Stored.{tailed}
use Rattle.chk_site_mem_store.proofs.stops.leave_tails.Goals as goal

pub loop-entry-preserved : goal.loop-entry-preserved
loop-entry-preserved c =
    let f = tailed c.args.left.now in
    ap (set c.loop-entry.files c.loop-entry.entry-index) (c.in_ok-leave_tail.ensures ∙ ap f (sym c.entry-item.is))
    ∙ map_over_more f c.args.files.now c.loop-entry.files c.loop-entry.entry-index c.entry-item.result
    c.loop-entry-test.true c.loop-entry.invariant c.entry-item.is
