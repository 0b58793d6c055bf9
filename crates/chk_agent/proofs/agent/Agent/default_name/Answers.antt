use Rattle.std.proofs.Common.{◌≡◌, ◌∙◌, ap, None}
use Rattle.std.proofs.lemmas.Result.{IfOk-weaker}
use Rattle.chk_agent.specs.States.{State}
use Rattle.chk_agent.specs.Adds.{default_name, IsNameFor}
use Rattle.chk_agent.proofs.NamingFirst.{name_for}
use Rattle.chk_agent.proofs.agent.Agent.default_name.Goals as goal

pub least_free-requires : goal.least_free-requires
least_free-requires c = record { few = rw (c.as_slice.ensures) c.self.invariant.sound.few }

pub returns-clause-name : goal.returns-clause-name
returns-clause-name c =
    let n = c.in_ok-number.number in
    IfOk-weaker c.name_of.result (λ name. name ≡ default_name n) (IsNameFor c.args.self.now None)
    (name_for c.args.self.now c.as_slice.result.now n
    (c.as_slice.ensures ∙ ap (λ (s : State). s.adaptors) c.self.view_is)
    c.in_ok-number.ensures) c.name_of.ensures.name
