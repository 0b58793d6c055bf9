use Rattle.std.proofs.Common.{Err, ap, refl, ◌∙◌}
use Rattle.std.proofs.lemmas.Result.{err_from_is_err_and}
use Rattle.chk_agent_table.specs.Adaptors.{Held}
use Rattle.chk_agent.specs.Fields.{agent_view}
use Rattle.chk_agent.proofs.CommandingPlain.{did_as, answered_as, unmade_as}
use Rattle.chk_agent.proofs.CommandingShut.{none_to_end, found_one, one_to_end, with_adaptors}
use Rattle.chk_agent.proofs.CommandingShut.{end_is, end_sound_as}
use Rattle.chk_agent.proofs.TableFound.{named_at}
use Rattle.chk_agent.proofs.agent.Agent.shut_down.Goals as goal

pub returns-in_default : goal.returns-in_default
returns-in_default c =
    let v = agent_view c.self.inside in
    rw (← c.self.view_is)
    (answered_as _ v _ _ c.answer.result c.answer.ensures
    (none_to_end v c.args.name c.named.result c.in_default.is
    (c.named.ensures ∙ named_at c.args.name c.self.inside.adaptors.items)))

pub returns-in_err-reply : goal.returns-in_err-reply
returns-in_err-reply c =
    let p = err_from_is_err_and c.from_residual.result c.from_residual.ensures.1 in
    unmade_as _ c.args.self.now c.from_residual.result (p.1 ∙ ap Err (p.2 ∙ c.in_err-reply.ensures))

pub shut_down-requires : goal.shut_down-requires
shut_down-requires c =
    let there =
    found_one c.args.name c.self.inside.adaptors.items c.named.result c.in-Some.place c.in-Some.is
    (c.named.ensures ∙ named_at c.args.name c.self.inside.adaptors.items) in
    record { there = there.below }

pub invariant_of-self : goal.invariant_of-self
invariant_of-self c =
    let v = agent_view c.self.inside in
    let there =
    found_one c.args.name c.self.inside.adaptors.items c.named.result c.in-Some.place c.in-Some.is
    (c.named.ensures ∙ named_at c.args.name c.self.inside.adaptors.items) in
    record {
      role = c.self.invariant.role;
      sound = end_sound_as v c.self.invariant.sound c.in-Some.place there.adaptor v.adaptors
          c.shut_down.new.self.items there.at refl
          (λ b at. ap (λ (h : Held). h.items) (c.shut_down.ensures b at));
    }

pub returns : goal.returns
returns c =
    let v = agent_view c.self.inside in
    let found = c.named.ensures ∙ named_at c.args.name c.self.inside.adaptors.items in
    let there =
    found_one c.args.name c.self.inside.adaptors.items c.named.result c.in-Some.place c.in-Some.is
    found in
    rw (← c.self.view_is)
    (did_as _ v _ c.in_ok-reply.reply _
    (one_to_end v c.args.name c.named.result c.in-Some.place there.adaptor c.in-Some.is found
    there.at)
    c.in_ok-reply.ensures
    (ap (with_adaptors v)
    (end_is v c.in-Some.place there.adaptor v.adaptors c.shut_down.new.self.items there.at refl
    (λ b at. ap (λ (h : Held). h.items) (c.shut_down.ensures b at)))))
