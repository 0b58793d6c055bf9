use Rattle.std.proofs.Common.{◌≡◌, ◌∙◌, ap, sym, subst}
use Rattle.std.specs.Prelude.{is_some}
use Rattle.chk_agent.specs.States.{State}
use Rattle.chk_agent.specs.Adds.{IsNameFor, named_in}
use Rattle.chk_agent.proofs.TableFound.{named_at}
use Rattle.chk_agent.proofs.agent.Agent.is_taken.Goals as goal

pub returns-in-Some : goal.returns-in-Some
returns-in-Some c name good =
    let given = c.in-Some.name in
    let same : name ≡ given = subst (λ o. IsNameFor c.args.self.now o name) c.in-Some.is good in
    c.is_some.ensures
    ∙ ap is_some
    (c.named.ensures ∙ named_at given c.self.inside.adaptors.items
    ∙ ap (λ (s : State). named_in given 0 s.adaptors) c.self.view_is
    ∙ ap (λ n. named_in n 0 c.args.self.now.adaptors) (sym same))
