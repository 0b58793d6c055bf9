use Rattle.std.proofs.Common.{List, ◌∙◌, sym, ap, subst, refl}
use Rattle.chk_site.specs.declared.lists.Left.{Left}
use Rattle.chk_site.specs.declared.acts.ActAnswer.TheVariants.{Stopped}
use Rattle.chk_site_mem_store.specs.declared.named.Named.{Named}
use Rattle.chk_site_mem_store.specs.declared.files.MemFile.{MemFile}
use Rattle.chk_site_mem_store.specs.Stored.{file_in, log_in, IsLeft}
use Rattle.chk_site_mem_store.proofs.StopLemmas.{stop_leaves}
use Rattle.chk_site_mem_store.proofs.effects.leave.Goals as goal

pub returns-in-Stopped-clause-ok : goal.returns-in-Stopped-clause-ok
returns-in-Stopped-clause-ok c =
    let logs = c.args.logs.now.items in
    let answered = c.in-Stopped.is ∙ ap (λ (l : List Left). Stopped l) (sym c.as_slice.ensures) in
    subst (λ (fs : List (Named MemFile)). IsLeft (file_in fs) (log_in logs) c.args.act c.answering.result c.in_ok-after.after.files.items logs)
    c.deref.ensures.value
    (stop_leaves (file_in c.deref.result.now) (log_in logs) c.args.act c.answering.result c.as_slice.result.now
    c.in_ok-after.after.left c.in_ok-after.after.files.items logs answered c.in_ok-after.ensures.left c.in_ok-after.ensures.files
    (record { at = λ p. refl }) c.answering.ensures)
