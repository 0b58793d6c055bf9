use Rattle.std.proofs.Common.{sym, ◌∙◌, ap, Some}
use Rattle.chk_site_mem_store.specs.declared.named.Named.{Named}
use Rattle.chk_site_mem_store.specs.declared.files.MemFile.{MemFile}
use Rattle.chk_site_mem_store.specs.Stored.{file_of}
use Rattle.chk_site_mem_store.proofs.NamedLemmas.{none_named, some_named}
use Rattle.chk_site_mem_store.proofs.files.find.Goals as goal

pub returns-in_err-at : goal.returns-in_err-at
returns-in_err-at c =
    let none = none_named file_of c.args.name.now c.args.files.now (sym c.place.ensures ∙ c.in_err-at.was) in
    rw c.from_residual.ensures (sym none)

pub returns : goal.returns
returns c =
    ap (λ (e : Named MemFile). Some (file_of e.value)) (sym c.index-files-at.is)
    ∙ sym (some_named file_of c.args.name.now c.args.files.now c.in_ok-at.at c.index-files-at.result
    (sym c.place.ensures ∙ c.in_ok-at.was) c.index-files-at.is)
