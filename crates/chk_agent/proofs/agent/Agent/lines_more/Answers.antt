use Rattle.std.proofs.Common.{ap, sym, ◌∙◌}
use Rattle.std.specs.Prelude.{slice_get}
use Rattle.chk_agent.specs.Fields.{agent_view}
use Rattle.chk_agent.proofs.SettlingExits.{ends_from, ends_to}
use Rattle.chk_agent.proofs.agent.Agent.lines_more.Goals as goal

pub lines_now-requires-clause-from : goal.lines_now-requires-clause-from
lines_now-requires-clause-from c i a at =
    ends_from (agent_view c.self.inside) c.self.invariant.sound i a
    (ap (λ xs. slice_get xs i) (sym c.as_slice.ensures) ∙ at)

pub lines_now-requires-clause-to : goal.lines_now-requires-clause-to
lines_now-requires-clause-to c i a at =
    ends_to (agent_view c.self.inside) c.self.invariant.sound i a
    (ap (λ xs. slice_get xs i) (sym c.as_slice.ensures) ∙ at)
