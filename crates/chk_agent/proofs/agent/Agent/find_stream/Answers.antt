use Rattle.std.proofs.Common.{◌∙◌, subst, ◌≡◌}
use Rattle.std.specs.Prelude.{option_map}
use Rattle.chk_agent.specs.States.{State}
use Rattle.chk_agent.specs.Adds.{Found, stream_in}
use Rattle.chk_agent.proofs.AddingFound.{found_at}
use Rattle.chk_agent.proofs.agent.Agent.find_stream.Goals as goal

pub returns : goal.returns
returns c =
    let kind = c.args.kind.now in
    let path = c.args.path.now in
    subst
    (λ (s : State). c.find.result ≡ option_map (λ (f : Found). f.number)
    (stream_in kind path 0 s.adaptors))
    c.self.view_is (c.find.ensures ∙ found_at kind path c.self.inside.adaptors.items)
