use Rattle.std.proofs.Common.{◌∙◌, Bool, Ok, Err, ap, subst, sym}
use Rattle.chk_ctl_run.specs.declared.outcome.Outcome.{Outcome}
use Rattle.chk_ctl_run.specs.Several.{FindsStore, not_seen, not_there}
use Rattle.chk_ctl_run.proofs.Found.{found_own, found_then}
use Rattle.chk_ctl_run.proofs.StoreSteps.{finds_as, loads_then}
use Rattle.chk_ctl_run.proofs.several.find_named.Goals as goal

pub returns-in-Ok-true-clause-told : goal.returns-in-Ok-true-clause-told
returns-in-Ok-true-clause-told g c =
    loads_then c.args.names.store c.as_str-in-Ok-true.result.now c.load_store.result
    (c.as_str-in-Ok-true.ensures.text ∙ c.requires.folder)
    (finds_as (c.as_str.ensures.text ∙ c.requires.book)
    (c.in-Ok-true.is ∙ ap (λ (b : Bool). Ok b) c.in-Ok-true.field-0-test) c.find_file.ensures.told)
    c.load_store.ensures.told

pub returns-in-Ok-true-clause-own : goal.returns-in-Ok-true-clause-own
returns-in-Ok-true-clause-own g c =
    found_then c.find_file.ensures.told.quiet (found_own c.load_store.ensures.own)

pub returns-in-Ok-false-clause-told : goal.returns-in-Ok-false-clause-told
returns-in-Ok-false-clause-told g c =
    not_there c.requires.book
    (finds_as (c.as_str.ensures.text ∙ c.requires.book)
    (c.in-Ok-false.is ∙ ap (λ (b : Bool). Ok b) c.in-Ok-false.field-0-test)
    c.find_file.ensures.told)

pub returns-in-Ok-false-clause-own : goal.returns-in-Ok-false-clause-own
returns-in-Ok-false-clause-own g c = found_own c.find_file.ensures.told.quiet

pub returns-in-Err-clause-told : goal.returns-in-Err-clause-told
returns-in-Err-clause-told g c =
    subst (λ (o : Outcome). FindsStore c.args.names.store (Err o) (g.S.Site.told c.args.site.now)
    (g.S.Site.told c.find_file.new.site)) (sym c.told_as.ensures)
    (not_seen c.in-Err.fault
    (finds_as (c.as_str.ensures.text ∙ c.requires.book) c.in-Err.is c.find_file.ensures.told))

pub returns-in-Err-clause-own : goal.returns-in-Err-clause-own
returns-in-Err-clause-own g c = found_own c.find_file.ensures.told.quiet
