use Rattle.std.proofs.Common.{ℕ, List, [], ◌++◌, ◌+◌, length, subst, Err, ap, sym, ◌∙◌, refl, arith}
use Rattle.std.proofs.lemmas.Result.{err_from_is_err_and}
use Rattle.chk_agent.specs.declared.answers.Reply.{Reply}
use Rattle.chk_agent.proofs.TurningFaults.{last_wanting, last_same, last_then, last_ok}
use Rattle.chk_agent_run.proofs.Carried.{carried_by, carried_then, quietly, ends_with}
use Rattle.chk_agent_run.proofs.Commanded.{command_same, command_source}
use Rattle.chk_agent_run.proofs.RunLines.{RanTo, ran_none, ran_all, refused_one, unkept_one, ended_one, ran_one}
use Rattle.chk_agent_run.proofs.lines.run_lines.Goals as goal

pub loop-at-init : goal.loop-at-init
loop-at-init g c = record {
  ran = subst (λ (a : List ℕ). RanTo c.args.text.now c.args.agent.now (g.S.Site.told c.args.site.now) a 0 c.args.agent.now
      (g.S.Site.told c.args.site.now)) (sym c.new-answers.ensures)
      (ran_none c.args.text.now c.args.agent.now (g.S.Site.told c.args.site.now));
  count = omega arith;
  within = omega arith;
}

pub command-requires : goal.command-requires
command-requires g c = record { ready = c.loop-at.invariant.ran.carried.same.ready ∙ c.requires.ready }

pub returns-in_err-reply-clause-lines : goal.returns-in_err-reply-clause-lines
returns-in_err-reply-clause-lines g c =
    let p = err_from_is_err_and c.from_residual.result c.from_residual.ensures.1 in
    rw (p.1, p.2)
    (refused_one _ _ _ _ _ _ _ c.loop-at.invariant.ran _ c.line_at-line.ensures.lines _ _ c.in_err-reply.field-0.0
    c.in_err-reply.ensures.state)

pub returns-in_err-reply-clause-told : goal.returns-in_err-reply-clause-told
returns-in_err-reply-clause-told g c =
    ends_with c.args.agent.now c.loop-at.agent c.command.new.self c.loop-at.invariant.ran.carried
    (quietly c.loop-at.agent c.command.new.self c.command.ensures.told)

pub returns-in_err-reply-clause-source : goal.returns-in_err-reply-clause-source
returns-in_err-reply-clause-source g c =
    command_source c.in_err-reply.ensures.state ∙ c.loop-at.invariant.ran.carried.same.source

pub returns-in_err-reply-clause-last : goal.returns-in_err-reply-clause-last
returns-in_err-reply-clause-last g c =
    let p = err_from_is_err_and c.from_residual.result c.from_residual.ensures.1 in
    last_then c.from_residual.result (c.loop-at.invariant.ran.carried.talks [])
    (last_same Reply c.from_residual.result c.in_err-reply.field-0.0 (p.1 ∙ ap Err p.2) c.in_err-reply.ensures.last)

pub returns-in_err-push_all-clause-lines : goal.returns-in_err-push_all-clause-lines
returns-in_err-push_all-clause-lines g c =
    let p = err_from_is_err_and c.from_residual-in_err-push_all.result c.from_residual-in_err-push_all.ensures.1 in
    rw (p.1, p.2)
    (unkept_one _ _ _ _ _ _ _ c.loop-at.invariant.ran _ c.line_at-line.ensures.lines _ _ c.in_ok-reply.reply
    c.in_ok-reply.ensures.state)

pub returns-in_err-push_all-clause-told : goal.returns-in_err-push_all-clause-told
returns-in_err-push_all-clause-told g c =
    ends_with c.args.agent.now c.loop-at.agent c.command.new.self c.loop-at.invariant.ran.carried
    (quietly c.loop-at.agent c.command.new.self c.command.ensures.told)

pub returns-in_err-push_all-clause-source : goal.returns-in_err-push_all-clause-source
returns-in_err-push_all-clause-source g c =
    command_source c.in_ok-reply.ensures.state ∙ c.loop-at.invariant.ran.carried.same.source

pub returns-in_err-push_all-clause-last : goal.returns-in_err-push_all-clause-last
returns-in_err-push_all-clause-last g c =
    let p = err_from_is_err_and c.from_residual-in_err-push_all.result c.from_residual-in_err-push_all.ensures.1 in
    last_wanting c.from_residual-in_err-push_all.result (p.1 ∙ ap Err p.2) (returns-in_err-push_all-clause-told g c [])

pub returns-in_default-clause-lines : goal.returns-in_default-clause-lines
returns-in_default-clause-lines g c =
    ended_one _ _ _ _ _ _ _ c.loop-at.invariant.ran _ c.line_at-line.ensures.lines _ _ c.in_ok-reply.reply _
    c.in_ok-reply.ensures.state c.in_default.not-Go (c.in_ok-push_all.ensures.ok ∙ ap (λ (t : List ℕ). c.loop-at.answers ++ t) c.as_slice.ensures)

pub returns-in_default-clause-told : goal.returns-in_default-clause-told
returns-in_default-clause-told g c =
    ends_with c.args.agent.now c.loop-at.agent c.command.new.self c.loop-at.invariant.ran.carried
    (quietly c.loop-at.agent c.command.new.self c.command.ensures.told)

pub returns-in_default-clause-source : goal.returns-in_default-clause-source
returns-in_default-clause-source g c =
    command_source c.in_ok-reply.ensures.state ∙ c.loop-at.invariant.ran.carried.same.source

pub returns-in_default-clause-ready : goal.returns-in_default-clause-ready
returns-in_default-clause-ready g c =
    (command_same c.in_ok-reply.ensures.state).ready ∙ (c.loop-at.invariant.ran.carried.same.ready ∙ c.requires.ready)

pub returns-in_default-clause-last : goal.returns-in_default-clause-last
returns-in_default-clause-last g c = last_ok (tt {0}) (returns-in_default-clause-told g c [])

pub loop-at-preserved : goal.loop-at-preserved
loop-at-preserved g c =
    let same = command_same c.in_ok-reply.ensures.state in
    record {
      ran = ran_one _ _ _ _ _ _ _ c.loop-at.invariant.ran _ c.line_at-line.ensures.lines _ _ c.in_ok-reply.reply _
          (c.loop-at.at + (length c.line_at-line.result.now + 1))
          c.in_ok-reply.ensures.state c.in-Go.is (c.in_ok-push_all.ensures.ok ∙ ap (λ (t : List ℕ). c.loop-at.answers ++ t) c.as_slice.ensures)
          (omega arith)
          (carried_then _ _ _ c.loop-at.invariant.ran.carried
          (record { same = same; talks = quietly c.loop-at.agent c.command.new.self c.command.ensures.told }));
      count = (let so_far = c.loop-at.invariant.count in let more = c.in_ok-reply.ensures.cause in omega (arith, so_far, more));
      within = (let here = c.line_at-line.ensures.within in omega (arith, here));
    }

pub loop-at-smaller : goal.loop-at-smaller
loop-at-smaller g c =
    let here = c.line_at-line.ensures.within in let test = c.loop-at-test.true in omega (arith, here, test)

pub returns-clause-lines : goal.returns-clause-lines
returns-clause-lines g c =
    ran_all _ _ _ _ _ _ _ c.loop-at.invariant.ran (let past = c.loop-at-test.false in omega (arith, past))

pub returns-clause-told : goal.returns-clause-told
returns-clause-told g c = c.loop-at.invariant.ran.carried.talks

pub returns-clause-source : goal.returns-clause-source
returns-clause-source g c = c.loop-at.invariant.ran.carried.same.source

pub returns-clause-ready : goal.returns-clause-ready
returns-clause-ready g c = c.loop-at.invariant.ran.carried.same.ready ∙ c.requires.ready

pub returns-clause-last : goal.returns-clause-last
returns-clause-last g c = last_ok (tt {0}) (c.loop-at.invariant.ran.carried.talks [])
