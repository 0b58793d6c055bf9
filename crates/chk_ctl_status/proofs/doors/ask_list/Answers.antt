use Rattle.std.proofs.Common.{List, ℕ, Option, Result, subst, sym}
use Rattle.chk_site.specs.declared.acts.OutsideFault.{OutsideFault}
use Rattle.chk_ctl_status.specs.Doors.{sends, sent, unsent, AsksList, ListAsked}
use Rattle.chk_ctl_check.proofs.OwnCalls.{own_then, some_own}
use Rattle.chk_ctl_status.proofs.doors.ask_list.Goals as goal

pub returns-in-Ok-clause-told : goal.returns-in-Ok-clause-told
returns-in-Ok-clause-told g c =
    sent c.in-Ok.message (rw c.requires.job at c.in-Ok.ensures.told) c.got_list.ensures.told

pub returns-in-Ok-clause-own : goal.returns-in-Ok-clause-own
returns-in-Ok-clause-own g c =
    own_then AsksList
    (some_own AsksList _ _ (λ n. c.requires.job) (λ n. sends n c.args.address.now)
    c.in-Ok.ensures.told) c.got_list.ensures.own

pub returns-in-Err-clause-told : goal.returns-in-Err-clause-told
returns-in-Err-clause-told g c =
    let old = g.S.Site.told c.args.site.now in
    let new = g.S.Site.told c.send.new.self in
    subst (λ (r : Result (Option (List ℕ)) OutsideFault). ListAsked c.args.address.now r old new)
    (sym c.unsent_as.ensures)
    (unsent c.in-Err.fault (rw c.requires.job at c.in-Err.ensures.told))

pub returns-in-Err-clause-own : goal.returns-in-Err-clause-own
returns-in-Err-clause-own g c =
    some_own AsksList _ _ (λ n. c.requires.job) (λ n. sends n c.args.address.now)
    c.in-Err.ensures.told
