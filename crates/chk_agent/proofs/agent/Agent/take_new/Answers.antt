use Rattle.std.proofs.Common.{sym, subst, not}
use Rattle.std.proofs.lemmas.Result.{err_from_is_err_and}
use Rattle.chk_control.specs.Classes.{is_plain}
use Rattle.chk_site.proofs.Leads.{leads_then}
use Rattle.chk_world.specs.Checkpoints.{Line}
use Rattle.chk_agent.specs.Adds.{IsNewest, new_line, unbegun}
use Rattle.chk_agent.proofs.TurningFaults.{last_then}
use Rattle.chk_agent.proofs.AddingTold.{asks_refused, newest_known}
use Rattle.chk_agent.proofs.AddingKept.{unasked_takes, takes_new}
use Rattle.chk_agent.proofs.agent.Agent.take_new.Goals as goal

pub returns-in_err-words-clause-state : goal.returns-in_err-words-clause-state
returns-in_err-words-clause-state g c =
    let p = err_from_is_err_and c.from_residual.result c.from_residual.ensures.1 in rw (p.1, p.2) unbegun

pub returns-in_err-after-clause-state : goal.returns-in_err-after-clause-state
returns-in_err-after-clause-state g c =
    let r = c.from_residual-in_err-after in
    let p = err_from_is_err_and r.result r.ensures.1 in
    rw (p.1, p.2)
    (unasked_takes c.args.self.now c.args.name c.args.class c.args.kind.now c.args.path.now c.args.start c.in_err-after.field-0.0
    c.in_err-after.ensures.told)

pub returns-in_err-after-clause-told : goal.returns-in_err-after-clause-told
returns-in_err-after-clause-told g c stamped =
    asks_refused stamped c.args.self.now c.ready-sound.ensures.sound c.requires.ready c.args.path.now
    (not (is_plain c.args.class)) c.in_err-after.field-0.0 c.in_err-after.ensures.told

pub returns-clause-state : goal.returns-clause-state
returns-clause-state g c =
    let words = c.in_ok-words.words in
    let e = c.in_ok-words.ensures in
    let after = c.in_ok-after.after in
    takes_new c.args.self.now c.args.name c.args.class c.args.kind.now c.args.path.now c.args.start after
    (new_line c.args.name c.args.class words.kind words.path c.args.start after)
    (λ i. new_line c.args.name c.args.class (e.0 i) (e.1 i) c.args.start after) c.in_ok-after.ensures.told c.keep_new.ensures.state

pub returns-clause-told : goal.returns-clause-told
returns-clause-told g c stamped =
    let words = c.in_ok-words.words in
    let after = c.in_ok-after.after in
    let l : Line = new_line c.args.name c.args.class words.kind words.path c.args.start after in
    leads_then
    (newest_known stamped c.args.self.now c.ready-sound.ensures.sound c.requires.ready l
    (λ plain. let e = c.in_ok-after.ensures.plain plain in cc)
    (subst (λ p. IsNewest c.args.self.now p (not (is_plain c.args.class)) after (g.S.Site.told c.args.site.now) (g.S.Site.told c.newest.new.site))
    (sym c.in_ok-words.ensures.1) c.in_ok-after.ensures.told))
    (c.keep_new.ensures.told stamped)

pub returns-clause-last : goal.returns-clause-last
returns-clause-last g c = last_then c.keep_new.result c.newest.ensures.last c.keep_new.ensures.last
