use Rattle.std.proofs.Common.{refl}
use Rattle.std.proofs.lemmas.Result.{err_from_is_err_and}
use Rattle.chk_site.proofs.Leads.{leads_as}
use Rattle.chk_checkpoint.specs.declared.Checkpoint.{Checkpoint}
use Rattle.chk_checkpoint.specs.Lines.{lines_of}
use Rattle.chk_agent.specs.States.{State}
use Rattle.chk_agent.proofs.StartingMatches.{start_refused, start_matches}
use Rattle.chk_agent.proofs.StartingFinds.{starts_on, starts_refused}
use Rattle.chk_agent.proofs.StartingFinds.{finds_value, finds_fault, finds_none}
use Rattle.chk_agent.proofs.agent.Agent.start_with_hasher.Goals as goal

pub returns-in_err-check-clause-told : goal.returns-in_err-check-clause-told
returns-in_err-check-clause-told g c stamped =
    let p = err_from_is_err_and c.from_residual.result c.from_residual.ensures.1 in
    let cluster = c.args.rules.cluster in
    rw (p.1, p.2)
    (leads_as (λ h x. x) (start_refused stamped cluster c.args.who.now c.in_err-check.field-0.0) (c.in_err-check.ensures.told stamped cluster))

pub returns-in_err-agent-clause-told : goal.returns-in_err-agent-clause-told
returns-in_err-agent-clause-told g c stamped =
    let p = err_from_is_err_and c.from_residual-in_err-agent.result c.from_residual-in_err-agent.ensures.1 in
    rw (p.1, p.2) (leads_as (λ h x. x) (λ h x. x.legal) (c.in_ok-check.ensures.told stamped c.args.rules.cluster))

pub returns-clause-told : goal.returns-clause-told
returns-clause-told g c stamped =
    leads_as (λ h x. x)
    (start_matches stamped c.args.who.now c.requires.name c.args.ring c.args.rules c.in_ok-check.check c.in_ok-check.ensures.lines
    c.in_ok-agent.agent c.in_ok-agent.ensures.fresh c.in_ok-agent.ensures.saved)
    (c.in_ok-check.ensures.told stamped c.args.rules.cluster)

pub returns-in_err-check-clause-acts : goal.returns-in_err-check-clause-acts
returns-in_err-check-clause-acts g c =
    let p = err_from_is_err_and c.from_residual.result c.from_residual.ensures.1 in
    rw (p.1, p.2)
    (starts_refused c.args.who.now _ c.in_err-check.field-0.0 c.in_err-check.ensures.acts refl)

pub returns-in_err-check-clause-whole : goal.returns-in_err-check-clause-whole
returns-in_err-check-clause-whole g c =
    let p = err_from_is_err_and c.from_residual.result c.from_residual.ensures.1 in
    rw (p.1, p.2)
    (finds_fault c.args.who.now (λ (check : Checkpoint). lines_of check)
    (λ (agent : State). agent.saved) c.in_err-check.field-0.0 c.in_err-check.ensures.whole)

pub returns-in_err-agent-clause-acts : goal.returns-in_err-agent-clause-acts
returns-in_err-agent-clause-acts g c =
    let p = err_from_is_err_and c.from_residual-in_err-agent.result
    c.from_residual-in_err-agent.ensures.1 in
    rw (p.1, p.2)
    (starts_on c.args.who.now _ c.in_ok-check.check _ c.in_ok-check.ensures.acts refl tt)

pub returns-in_err-agent-clause-whole : goal.returns-in_err-agent-clause-whole
returns-in_err-agent-clause-whole g c =
    let p = err_from_is_err_and c.from_residual-in_err-agent.result
    c.from_residual-in_err-agent.ensures.1 in
    rw (p.1, p.2)
    (finds_none c.args.who.now (λ (check : Checkpoint). lines_of check)
    (λ (agent : State). agent.saved) c.in_ok-check.check c.in_ok-check.ensures.whole)

pub returns-clause-acts : goal.returns-clause-acts
returns-clause-acts g c =
    starts_on c.args.who.now _ c.in_ok-check.check _ c.in_ok-check.ensures.acts refl tt

pub returns-clause-whole : goal.returns-clause-whole
returns-clause-whole g c =
    finds_value c.args.who.now (λ (check : Checkpoint). lines_of check)
    (λ (agent : State). agent.saved) c.in_ok-check.check c.in_ok-agent.agent
    c.in_ok-agent.ensures.saved c.in_ok-check.ensures.whole
