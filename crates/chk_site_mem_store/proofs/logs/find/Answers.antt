use Rattle.std.proofs.Common.{sym, ◌∙◌, ap}
use Rattle.chk_site_mem_store.specs.declared.named.Named.{Named}
use Rattle.chk_site_mem_store.specs.declared.logs.MemLog.{MemLog}
use Rattle.chk_site_mem_store.specs.Stored.{log_of, log_or_empty}
use Rattle.chk_site_mem_store.proofs.NamedLemmas.{none_named, some_named}
use Rattle.chk_site_mem_store.proofs.logs.find.Goals as goal

pub returns-in_err-at : goal.returns-in_err-at
returns-in_err-at c =
    let none = none_named log_of c.args.path.now c.args.logs.now (sym c.place.ensures ∙ c.in_err-at.was) in
    rw c.from_residual.ensures (ap log_or_empty (sym none))

pub returns : goal.returns
returns c =
    ap (λ (e : Named MemLog). log_of e.value) (sym c.index-logs-at.is)
    ∙ ap log_or_empty (sym (some_named log_of c.args.path.now c.args.logs.now c.in_ok-at.at c.index-logs-at.result
    (sym c.place.ensures ∙ c.in_ok-at.was) c.index-logs-at.is))
