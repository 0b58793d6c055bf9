use Rattle.std.proofs.Common.{Err, [], ◌∷◌, ap, ◌∙◌, refl, arith}
use Rattle.std.proofs.lemmas.Result.{err_from_is_err_and}
use Rattle.chk_agent_table.specs.Adaptors.{Held}
use Rattle.chk_agent.specs.Fields.{agent_view}
use Rattle.chk_agent.proofs.CommandingPlain.{did_as, answered_as, unmade_as}
use Rattle.chk_agent.proofs.CommandingShut.{none_to_stop, found_one, one_to_stop, all_known}
use Rattle.chk_agent.proofs.CommandingShut.{stop_from, stop_to, stopped_is, stop_sound, one_stopped}
use Rattle.chk_agent.proofs.TableFound.{named_at}
use Rattle.chk_agent.proofs.agent.Agent.stop.Goals as goal

pub returns-in_default : goal.returns-in_default
returns-in_default c =
    let v = agent_view c.self.inside in
    rw (← c.self.view_is)
    (answered_as _ v _ _ c.answer.result c.answer.ensures
    (none_to_stop v c.args.name c.named.result c.in_default.is
    (c.named.ensures ∙ named_at c.args.name c.self.inside.adaptors.items)))

pub returns-in_err-reply : goal.returns-in_err-reply
returns-in_err-reply c =
    let p = err_from_is_err_and c.from_residual.result c.from_residual.ensures.1 in
    unmade_as _ c.args.self.now c.from_residual.result (p.1 ∙ ap Err (p.2 ∙ c.in_err-reply.ensures))

pub returns-in_err-stop : goal.returns-in_err-stop
returns-in_err-stop c =
    let p = err_from_is_err_and c.from_residual-in_err-stop.result
    c.from_residual-in_err-stop.ensures.1 in
    rw (← c.self.view_is, c.in_err-stop.ensures.err)
    (unmade_as _ (agent_view c.self.inside) c.from_residual-in_err-stop.result (p.1 ∙ ap Err p.2))

pub committed_end-committed-requires : goal.committed_end-committed-requires
committed_end-committed-requires c =
    let v = agent_view c.self.inside in
    let there =
    found_one c.args.name c.self.inside.adaptors.items c.named.result c.in-Some.place
    c.in-Some.is
    (c.named.ensures ∙ named_at c.args.name c.self.inside.adaptors.items) in
    let below = there.below in
    let known = all_known v c.self.invariant.sound
    (c.in-Some.place ∷ []) c.stop.new.self c.in_ok-stop.ensures.ok in
    omega (arith, below, known)

pub stop-requires-2-clause-there : goal.stop-requires-2-clause-there
stop-requires-2-clause-there c =
    (found_one c.args.name c.self.inside.adaptors.items c.named.result c.in-Some.place c.in-Some.is
    (c.named.ensures ∙ named_at c.args.name c.self.inside.adaptors.items)).below

pub stop-requires-2-clause-from : goal.stop-requires-2-clause-from
stop-requires-2-clause-from c a at =
    stop_from (agent_view c.self.inside) c.self.invariant.sound
    (c.in-Some.place ∷ []) c.stop.new.self c.in_ok-stop.ensures.ok
    c.in-Some.place c.committed_end-committed.result a c.committed_end-committed.ensures at

pub stop-requires-2-clause-to : goal.stop-requires-2-clause-to
stop-requires-2-clause-to c a at =
    stop_to (agent_view c.self.inside) c.self.invariant.sound
    (c.in-Some.place ∷ []) c.stop.new.self c.in_ok-stop.ensures.ok
    c.in-Some.place c.committed_end-committed.result a c.committed_end-committed.ensures at

pub invariant_of-self-2 : goal.invariant_of-self-2
invariant_of-self-2 c =
    let v = agent_view c.self.inside in
    let there =
    found_one c.args.name c.self.inside.adaptors.items c.named.result c.in-Some.place c.in-Some.is
    (c.named.ensures ∙ named_at c.args.name c.self.inside.adaptors.items) in
    let xs = c.stop-2.new.self.items in
    record {
      role = c.self.invariant.role;
      sound = stop_sound v c.self.invariant.sound
          (c.in-Some.place ∷ []) c.stop.new.self c.in_ok-stop.ensures.ok xs
          (one_stopped v c.self.invariant.sound
          (c.in-Some.place ∷ []) c.stop.new.self c.in_ok-stop.ensures.ok
          c.in-Some.place c.committed_end-committed.result there.adaptor xs
          v.adaptors refl c.committed_end-committed.ensures there.at refl
          (ap (λ (h : Held). h.items) (c.stop-2.ensures there.adaptor there.at)))
          c.used-sound.ensures.sound c.used-sound.ensures.table;
    }

pub returns : goal.returns
returns c =
    let v = agent_view c.self.inside in
    let found = c.named.ensures ∙ named_at c.args.name c.self.inside.adaptors.items in
    let there =
    found_one c.args.name c.self.inside.adaptors.items c.named.result c.in-Some.place c.in-Some.is
    found in
    let xs = c.stop-2.new.self.items in
    rw (← c.self.view_is)
    (did_as _ v _ c.in_ok-reply.reply _
    (one_to_stop v c.args.name c.named.result c.in-Some.place c.in-Some.is found)
    c.in_ok-reply.ensures
    (stopped_is v c.self.invariant.sound
    (c.in-Some.place ∷ []) c.stop.new.self c.in_ok-stop.ensures.ok xs
    (one_stopped v c.self.invariant.sound
    (c.in-Some.place ∷ []) c.stop.new.self c.in_ok-stop.ensures.ok
    c.in-Some.place c.committed_end-committed.result there.adaptor xs v.adaptors
    refl c.committed_end-committed.ensures there.at refl
    (ap (λ (h : Held). h.items) (c.stop-2.ensures there.adaptor there.at)))))
