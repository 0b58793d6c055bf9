use Rattle.std.proofs.Common.{◌∙◌, ◌++◌, sym, ap, ap₂, map, set}
use Rattle.std.proofs.lemmas.List.{take_all, drop_all, append-nil}
use Rattle.std.proofs.lemmas.List.Edits.{map_over_more}
use Rattle.chk_site_mem_store.specs.Stored.{marked_one}
use Rattle.chk_site_mem_store.proofs.logs.mark.Goals as goal

pub loop-generation-preserved : goal.loop-generation-preserved
loop-generation-preserved c =
    let f = marked_one c.args.suffix.now in
    ap (set c.loop-generation.rotated c.loop-generation.generation-index) (c.mark_one.ensures ∙ ap f (sym c.generation-item.is))
    ∙ map_over_more f c.args.rotated.now c.loop-generation.rotated c.loop-generation.generation-index c.generation-item.result
    c.loop-generation-test.true c.loop-generation.invariant c.generation-item.is

pub returns : goal.returns
returns c =
    let f = marked_one c.args.suffix.now in
    let i = c.loop-generation.generation-index in
    let all = c.args.rotated.now in
    c.loop-generation.invariant
    ∙ ap₂ (λ a b. a ++ b) (ap (map f) (take_all i all c.loop-generation-test.false)) (drop_all i all c.loop-generation-test.false)
    ∙ append-nil (map f all)
