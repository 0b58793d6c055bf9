use Rattle.std.proofs.Common.{List, ℕ, Option, Result, subst, sym}
use Rattle.chk_site.specs.declared.acts.OutsideFault.{OutsideFault}
use Rattle.chk_ctl_status.specs.Doors.{gets, got, AsksList, ListGot}
use Rattle.chk_ctl_check.proofs.OwnCalls.{call_own}
use Rattle.chk_ctl_status.proofs.doors.got_list.Goals as goal

pub returns-clause-told : goal.returns-clause-told
returns-clause-told g c =
    let old = g.S.Site.told c.args.site.now in
    let new = g.S.Site.told c.got-given.new.self in
    subst (λ (r : Result (Option (List ℕ)) OutsideFault). ListGot c.args.message r old new)
    (sym c.answer_of.ensures)
    (got c.got-given.result (rw c.requires.job at c.got-given.ensures.told))

pub returns-clause-own : goal.returns-clause-own
returns-clause-own g c =
    call_own AsksList _ c.requires.job (gets c.args.message) c.got-given.ensures.told
