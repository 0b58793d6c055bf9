use Rattle.std.proofs.Common.{rules, not}
use Rattle.std.proofs.lemmas.Fn.{filter_same}
use Rattle.chk_site_mem_store.specs.Named.{is_named}
use Rattle.chk_site_mem_store.proofs.FileLemmas.{removed}
use Rattle.chk_site_mem_store.proofs.files.remove.Goals as goal

pub returns : goal.returns
returns c =
    removed c.args.name.now c.args.files.now.items _
    (filter_same _ (λ e. not (is_named c.args.name.now e)) _ (λ x b f' k. search rules) _ _ c.retain.ensures.filtered)
