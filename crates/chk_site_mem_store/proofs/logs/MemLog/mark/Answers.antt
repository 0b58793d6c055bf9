use Rattle.std.proofs.Common.{List, ◌∙◌, ap, map, length}
use Rattle.std.proofs.lemmas.List.{with_items_is, length-map}
use Rattle.chk_site.specs.Logs.{Generation, Log}
use Rattle.chk_site_mem_store.specs.Stored.{generation_of, marked_one}
use Rattle.chk_site_mem_store.proofs.LogLemmas.{all_marked}
use Rattle.chk_site_mem_store.proofs.logs.MemLog.mark.Goals as goal

pub returns : goal.returns
returns c =
    let log = c.args.self.now in
    let f = marked_one c.args.suffix.now in
    let fits = ap length c.mark.ensures ∙ length-map _ f ∙ c.deref_mut.ensures.len in
    let is = with_items_is log.rotated c.mark.new.rotated fits ∙ c.mark.ensures ∙ ap (map f) c.deref_mut.ensures.value in
    ap (λ (gs : List Generation). let l : Log = record { rotated = gs; base = log.base } in l)
    (ap (map generation_of) is ∙ all_marked c.args.suffix.now log.rotated.items)
