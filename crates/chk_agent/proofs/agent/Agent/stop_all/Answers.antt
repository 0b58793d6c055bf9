use Rattle.std.proofs.Common.{Err, length, ap, ◌∙◌, refl, arith}
use Rattle.std.proofs.lemmas.Result.{err_from_is_err_and}
use Rattle.chk_control.specs.declared.answers.Answer.TheVariants.{StoppedAll}
use Rattle.chk_control.specs.Answers.{answer_text}
use Rattle.chk_agent.specs.declared.answers.Then.TheVariants.{Go}
use Rattle.chk_agent.specs.Replies.{reply_of}
use Rattle.chk_agent.specs.Fields.{agent_view}
use Rattle.chk_agent.specs.Commands.{live_from, stopped_state}
use Rattle.chk_agent.proofs.CommandingLists.{live_few}
use Rattle.chk_agent.proofs.CommandingPlain.{did_as, unmade_as}
use Rattle.chk_agent.proofs.CommandingShut.{all_known, stop_from, stop_to, stopped_is, stop_sound}
use Rattle.chk_agent.proofs.CommandingShut.{all_stopped}
use Rattle.chk_agent.proofs.agent.Agent.stop_all.Goals as goal

pub returns-in_err-gone : goal.returns-in_err-gone
returns-in_err-gone c =
    let p = err_from_is_err_and c.from_residual.result c.from_residual.ensures.1 in
    unmade_as _ c.args.self.now c.from_residual.result (p.1 ∙ ap Err p.2)

pub overflow_cast-count : goal.overflow_cast-count
overflow_cast-count c =
    let size = ap length (c.as_slice-2.ensures.value ∙ (c.in_ok-gone.ensures
    ∙ ap (live_from 0) c.as_slice.ensures)) in
    let few = live_few 0 c.self.inside.adaptors.items in
    let most = c.self.invariant.sound.few in omega (arith, size, few, most)

pub returns-in_err-reply : goal.returns-in_err-reply
returns-in_err-reply c =
    let p = err_from_is_err_and c.from_residual-in_err-reply.result
    c.from_residual-in_err-reply.ensures.1 in
    unmade_as _ c.args.self.now c.from_residual-in_err-reply.result (p.1 ∙ ap Err (p.2
    ∙ c.in_err-reply.ensures))

pub returns-in_err-stop : goal.returns-in_err-stop
returns-in_err-stop c =
    let p = err_from_is_err_and c.from_residual-in_err-stop.result
    c.from_residual-in_err-stop.ensures.1 in
    rw (← c.self.view_is, c.in_err-stop.ensures.err)
    (unmade_as _ (agent_view c.self.inside) c.from_residual-in_err-stop.result (p.1 ∙ ap Err p.2))

pub stop_live-requires-clause-known : goal.stop_live-requires-clause-known
stop_live-requires-clause-known c =
    all_known (agent_view c.self.inside) c.self.invariant.sound c.as_slice-3.result.now
    c.stop.new.self c.in_ok-stop.ensures.ok

pub stop_live-requires-clause-from : goal.stop_live-requires-clause-from
stop_live-requires-clause-from c i a at =
    stop_from (agent_view c.self.inside) c.self.invariant.sound c.as_slice-3.result.now
    c.stop.new.self c.in_ok-stop.ensures.ok i _ a refl at

pub stop_live-requires-clause-to : goal.stop_live-requires-clause-to
stop_live-requires-clause-to c i a at =
    stop_to (agent_view c.self.inside) c.self.invariant.sound c.as_slice-3.result.now
    c.stop.new.self c.in_ok-stop.ensures.ok i _ a refl at

pub invariant_of-self-2 : goal.invariant_of-self-2
invariant_of-self-2 c =
    let v = agent_view c.self.inside in
    let live = c.as_slice-3.ensures.value ∙ (c.in_ok-gone.ensures
    ∙ ap (live_from 0) c.as_slice.ensures) in
    let xs = c.stop_live.new.adaptors.items in
    let past =
    all_stopped c.as_slice-3.result.now v.delivery c.stop.new.self xs v.adaptors
    v.adaptors live c.in_ok-stop.ensures.ok refl c.stop_live.ensures in
    record {
      role = c.self.invariant.role;
      sound = stop_sound v c.self.invariant.sound c.as_slice-3.result.now c.stop.new.self
          c.in_ok-stop.ensures.ok xs past
          c.used-sound.ensures.sound c.used-sound.ensures.table;
    }

pub returns : goal.returns
returns c =
    let v = agent_view c.self.inside in
    let live = c.as_slice-3.ensures.value ∙ (c.in_ok-gone.ensures
    ∙ ap (live_from 0) c.as_slice.ensures) in
    let xs = c.stop_live.new.adaptors.items in
    let past =
    all_stopped c.as_slice-3.result.now v.delivery c.stop.new.self xs v.adaptors
    v.adaptors live c.in_ok-stop.ensures.ok refl c.stop_live.ensures in
    rw (← c.self.view_is)
    (did_as _ v _ c.in_ok-reply.reply _ refl
    (c.in_ok-reply.ensures
    ∙ ap (λ n. reply_of (answer_text (StoppedAll n)) Go)
    (ap length (c.as_slice-2.ensures.value ∙ (c.in_ok-gone.ensures
    ∙ ap (live_from 0) c.as_slice.ensures))))
    (stopped_is v c.self.invariant.sound c.as_slice-3.result.now c.stop.new.self
    c.in_ok-stop.ensures.ok xs past
    ∙ ap (λ g. stopped_state g v) live))
