use Rattle.std.proofs.Common.{ℕ, List, [], Option, Result, Ok, Err, ap, sym, ◌∙◌, refl, arith, subst}
use Rattle.std.proofs.lemmas.Result.{err_from_is_err_and}
use Rattle.chk_bytes.specs.Words.{parts_at}
use Rattle.chk_site.specs.Site.{Adds}
use Rattle.chk_site.specs.Runs.{Leads}
use Rattle.chk_world.specs.Rules.{Legal}
use Rattle.chk_agent.specs.States.{State}
use Rattle.chk_agent_run.specs.declared.faults.RunFault.{RunFault}
use Rattle.chk_agent_run.specs.declared.turn.Ended.{Ended}
use Rattle.chk_agent_run.specs.declared.turn.Ended.TheVariants.{Over}
use Rattle.chk_agent_run.specs.Faults.{fault_of}
use Rattle.chk_agent_run.specs.Initial.{ReadsInitial, AreAdded}
use Rattle.chk_agent_run.specs.Turns.{AreAgentTurns}
use Rattle.chk_agent_run.specs.Runs.{InRun, RunEnds, unread, unstarted, unadded, ran}
use Rattle.chk_agent_run.proofs.Carried.{carried_none, carried_by, ends_with}
use Rattle.chk_agent_run.proofs.Turned.{process_on}
use Rattle.chk_agent_run.proofs.LineAdded.{word_copied}
use Rattle.chk_agent_run.proofs.Endings.{start_so, who_started, unread_leads, unstarted_leads, late_ends}
use Rattle.chk_agent_run.proofs.RunFaults.{run_last, run_cause, no_checkpoint, none_of, last_of, outside_last, outside_cause}
use Rattle.chk_agent.proofs.Alike.{nothing_last}
use Rattle.chk_agent_run.proofs.run.run_agent.Goals as goal

pub returns-in_err-text-clause-ran : goal.returns-in_err-text-clause-ran
returns-in_err-text-clause-ran g c =
    let p = err_from_is_err_and c.from_residual.result c.from_residual.ensures.1 in
    rw (p.1, p.2)
    (unread c.in_err-text.field-0.0
    (subst (λ (o : Option (List ℕ)). ReadsInitial c.args.writer.now o (Err c.in_err-text.field-0.0) (g.S.Site.told c.args.site.now)
    (g.S.Site.told c.read_initial.new.site)) (word_copied c.as_ref.result _ c.as_ref.ensures.value) c.in_err-text.ensures.script))

pub returns-in_err-text-clause-told : goal.returns-in_err-text-clause-told
returns-in_err-text-clause-told g c stamped =
    let p = err_from_is_err_and c.from_residual.result c.from_residual.ensures.1 in
    subst (λ (r : Result Ended RunFault). Adds (g.S.Site.told c.args.site.now) (g.S.Site.told c.read_initial.new.site)
    (Leads (InRun stamped c.args.who.now c.args.writer.now) (Legal stamped) (RunEnds stamped c.args.who.now r)))
    (sym (p.1 ∙ ap Err p.2))
    (unread_leads stamped c.args.who.now c.args.writer.now c.requires.writer c.read_initial.ensures.reads c.in_err-text.field-0.0)

pub returns-in_err-text-clause-last : goal.returns-in_err-text-clause-last
returns-in_err-text-clause-last g c =
    let p = err_from_is_err_and c.from_residual.result c.from_residual.ensures.1 in
    outside_last (List ℕ) c.in_err-text.field-0.0 c.from_residual.result (p.1 ∙ ap Err p.2) c.in_err-text.ensures.last

pub returns-in_err-text-clause-cause : goal.returns-in_err-text-clause-cause
returns-in_err-text-clause-cause g c =
    let p = err_from_is_err_and c.from_residual.result c.from_residual.ensures.1 in
    outside_cause (List ℕ) _ _ c.in_err-text.field-0.0 c.from_residual.result (p.1 ∙ ap Err p.2) c.in_err-text.ensures.cause

pub returns-in_err-agent-clause-ran : goal.returns-in_err-agent-clause-ran
returns-in_err-agent-clause-ran g c =
    let p = err_from_is_err_and c.from_residual-in_err-agent.result c.from_residual-in_err-agent.ensures.1 in
    rw (p.1, p.2)
    (unstarted c.in_ok-text.text c.in_err-agent.field-0.0
    (subst (λ (o : Option (List ℕ)). ReadsInitial c.args.writer.now o (Ok c.in_ok-text.text) (g.S.Site.told c.args.site.now)
    (g.S.Site.told c.read_initial.new.site)) (word_copied c.as_ref.result _ c.as_ref.ensures.value) c.in_ok-text.ensures.script)
    (start_so c.args.who.now (Err c.in_err-agent.field-0.0) (c.in_err-agent.ensures.told [])
    c.in_err-agent.ensures.acts c.in_err-agent.ensures.whole))

pub returns-in_err-agent-clause-told : goal.returns-in_err-agent-clause-told
returns-in_err-agent-clause-told g c stamped =
    let p = err_from_is_err_and c.from_residual-in_err-agent.result c.from_residual-in_err-agent.ensures.1 in
    subst (λ (r : Result Ended RunFault). Adds (g.S.Site.told c.args.site.now) (g.S.Site.told c.start_with_hasher.new.site)
    (Leads (InRun stamped c.args.who.now c.args.writer.now) (Legal stamped) (RunEnds stamped c.args.who.now r)))
    (sym (p.1 ∙ ap Err p.2))
    (unstarted_leads stamped c.args.who.now c.args.writer.now c.requires.writer c.read_initial.ensures.reads c.in_err-agent.field-0.0
    (c.in_err-agent.ensures.told stamped))

pub returns-in_err-agent-clause-last : goal.returns-in_err-agent-clause-last
returns-in_err-agent-clause-last g c =
    let p = err_from_is_err_and c.from_residual-in_err-agent.result c.from_residual-in_err-agent.ensures.1 in
    run_last State c.in_err-agent.field-0.0 c.from_residual-in_err-agent.result (p.1 ∙ ap Err p.2)
    c.read_initial.ensures.reads c.in_err-agent.ensures.last

pub returns-in_err-agent-clause-cause : goal.returns-in_err-agent-clause-cause
returns-in_err-agent-clause-cause g c =
    let p = err_from_is_err_and c.from_residual-in_err-agent.result c.from_residual-in_err-agent.ensures.1 in
    run_cause State _ _ _ c.in_err-agent.field-0.0 c.from_residual-in_err-agent.result (p.1 ∙ ap Err p.2)
    (let same = c.in_ok-text.ensures.cause in omega (arith, same)) c.in_err-agent.ensures.cause

pub returns-in_err-add_lines-clause-ran : goal.returns-in_err-add_lines-clause-ran
returns-in_err-add_lines-clause-ran g c =
    let p = err_from_is_err_and c.from_residual-in_err-add_lines.result c.from_residual-in_err-add_lines.ensures.1 in
    rw (p.1, p.2)
    (unadded c.in_ok-text.text c.in_err-add_lines.field-0.0
    (subst (λ (o : Option (List ℕ)). ReadsInitial c.args.writer.now o (Ok c.in_ok-text.text) (g.S.Site.told c.args.site.now)
    (g.S.Site.told c.read_initial.new.site)) (word_copied c.as_ref.result _ c.as_ref.ensures.value) c.in_ok-text.ensures.script)
    (record {
      fresh = c.in_ok-agent.ensures.fresh;
      starts = c.in_ok-agent.ensures.starts;
      so =
          start_so c.args.who.now (Ok c.in_ok-agent.agent) (c.in_ok-agent.ensures.told [])
          c.in_ok-agent.ensures.acts c.in_ok-agent.ensures.whole;
    })
    (subst (λ (b : List ℕ). AreAdded 0 (parts_at 10 b) c.in_ok-agent.agent (Err c.in_err-add_lines.field-0.0) c.add_lines.new.agent
    (g.S.Site.told c.start_with_hasher.new.site) (g.S.Site.told c.add_lines.new.site)) c.as_slice.ensures c.in_err-add_lines.ensures.script))

pub returns-in_err-add_lines-clause-told : goal.returns-in_err-add_lines-clause-told
returns-in_err-add_lines-clause-told g c stamped =
    let p = err_from_is_err_and c.from_residual-in_err-add_lines.result c.from_residual-in_err-add_lines.ensures.1 in
    late_ends stamped c.args.who.now c.args.writer.now c.requires.writer c.read_initial.ensures.reads
    c.in_ok-agent.agent c.add_lines.new.agent
    (who_started c.args.who.now c.args.ring c.args.rules c.in_ok-agent.agent c.requires.role c.in_ok-agent.ensures.fresh)
    (c.in_ok-agent.ensures.told stamped)
    c.add_lines.ensures.told
    c.from_residual-in_err-add_lines.result (none_of (Unit {0}) c.in_err-add_lines.field-0.0 c.from_residual-in_err-add_lines.result (p.1 ∙ ap Err p.2) c.in_err-add_lines.ensures.undamaged)

pub returns-in_err-add_lines-clause-last : goal.returns-in_err-add_lines-clause-last
returns-in_err-add_lines-clause-last g c =
    let p = err_from_is_err_and c.from_residual-in_err-add_lines.result c.from_residual-in_err-add_lines.ensures.1 in
    last_of (Unit {0}) c.in_err-add_lines.field-0.0 c.from_residual-in_err-add_lines.result (p.1 ∙ ap Err p.2)
    (late_ends [] c.args.who.now c.args.writer.now c.requires.writer c.read_initial.ensures.reads
    c.in_ok-agent.agent c.in_ok-agent.agent
    (who_started c.args.who.now c.args.ring c.args.rules c.in_ok-agent.agent c.requires.role c.in_ok-agent.ensures.fresh)
    (c.in_ok-agent.ensures.told [])
    (carried_none c.in_ok-agent.agent (g.S.Site.told c.start_with_hasher.new.site)).talks
    (Ok Over) tt)
    c.in_err-add_lines.ensures.last

pub returns-in_err-ended-clause-ran : goal.returns-in_err-ended-clause-ran
returns-in_err-ended-clause-ran g c =
    let p = err_from_is_err_and c.from_residual-in_err-ended.result c.from_residual-in_err-ended.ensures.1 in
    rw (p.1, p.2)
    (ran c.in_ok-text.text (Err c.in_err-ended.field-0.0)
    (subst (λ (o : Option (List ℕ)). ReadsInitial c.args.writer.now o (Ok c.in_ok-text.text) (g.S.Site.told c.args.site.now)
    (g.S.Site.told c.read_initial.new.site)) (word_copied c.as_ref.result _ c.as_ref.ensures.value) c.in_ok-text.ensures.script)
    (record {
      fresh = c.in_ok-agent.ensures.fresh;
      starts = c.in_ok-agent.ensures.starts;
      so =
          start_so c.args.who.now (Ok c.in_ok-agent.agent) (c.in_ok-agent.ensures.told [])
          c.in_ok-agent.ensures.acts c.in_ok-agent.ensures.whole;
    })
    (subst (λ (b : List ℕ). AreAdded 0 (parts_at 10 b) c.in_ok-agent.agent (Ok tt) c.add_lines.new.agent
    (g.S.Site.told c.start_with_hasher.new.site) (g.S.Site.told c.add_lines.new.site)) c.as_slice.ensures c.in_ok-add_lines.ensures.script)
    (subst (λ (o : Option (List ℕ)). AreAgentTurns c.args.who.now o c.args.work.now.pause c.args.work.now.turns c.add_lines.new.agent (Err c.in_err-ended.field-0.0)
    c.run_turns.new.agent (g.S.Site.told c.add_lines.new.site) (g.S.Site.told c.run_turns.new.site))
    (word_copied c.as_ref-door.result _ c.as_ref-door.ensures.value) c.in_err-ended.ensures.script))

pub returns-in_err-ended-clause-told : goal.returns-in_err-ended-clause-told
returns-in_err-ended-clause-told g c stamped =
    let p = err_from_is_err_and c.from_residual-in_err-ended.result c.from_residual-in_err-ended.ensures.1 in
    late_ends stamped c.args.who.now c.args.writer.now c.requires.writer c.read_initial.ensures.reads
    c.in_ok-agent.agent c.run_turns.new.agent
    (who_started c.args.who.now c.args.ring c.args.rules c.in_ok-agent.agent c.requires.role c.in_ok-agent.ensures.fresh)
    (c.in_ok-agent.ensures.told stamped)
    (ends_with c.in_ok-agent.agent c.add_lines.new.agent c.run_turns.new.agent
    (carried_by c.in_ok-agent.agent c.add_lines.new.agent c.add_lines.ensures.source c.in_ok-agent.ensures.fresh.ready
    c.in_ok-add_lines.ensures.ready c.add_lines.ensures.told)
    c.run_turns.ensures.told)
    c.from_residual-in_err-ended.result (no_checkpoint Ended c.in_err-ended.field-0.0 c.from_residual-in_err-ended.result (p.1 ∙ ap Err p.2) c.in_err-ended.ensures.undamaged)

pub returns-in_err-ended-clause-last : goal.returns-in_err-ended-clause-last
returns-in_err-ended-clause-last g c =
    let p = err_from_is_err_and c.from_residual-in_err-ended.result c.from_residual-in_err-ended.ensures.1 in
    run_last Ended c.in_err-ended.field-0.0 c.from_residual-in_err-ended.result (p.1 ∙ ap Err p.2)
    (late_ends [] c.args.who.now c.args.writer.now c.requires.writer c.read_initial.ensures.reads
    c.in_ok-agent.agent c.add_lines.new.agent
    (who_started c.args.who.now c.args.ring c.args.rules c.in_ok-agent.agent c.requires.role c.in_ok-agent.ensures.fresh)
    (c.in_ok-agent.ensures.told [])
    c.add_lines.ensures.told
    (Ok Over) tt)
    c.in_err-ended.ensures.last

pub returns-clause-ran : goal.returns-clause-ran
returns-clause-ran g c =
    ran c.in_ok-text.text (Ok c.in_ok-ended.ended)
    (subst (λ (o : Option (List ℕ)). ReadsInitial c.args.writer.now o (Ok c.in_ok-text.text) (g.S.Site.told c.args.site.now)
    (g.S.Site.told c.read_initial.new.site)) (word_copied c.as_ref.result _ c.as_ref.ensures.value) c.in_ok-text.ensures.script)
    (record {
      fresh = c.in_ok-agent.ensures.fresh;
      starts = c.in_ok-agent.ensures.starts;
      so =
          start_so c.args.who.now (Ok c.in_ok-agent.agent) (c.in_ok-agent.ensures.told [])
          c.in_ok-agent.ensures.acts c.in_ok-agent.ensures.whole;
    })
    (subst (λ (b : List ℕ). AreAdded 0 (parts_at 10 b) c.in_ok-agent.agent (Ok tt) c.add_lines.new.agent
    (g.S.Site.told c.start_with_hasher.new.site) (g.S.Site.told c.add_lines.new.site)) c.as_slice.ensures c.in_ok-add_lines.ensures.script)
    (subst (λ (o : Option (List ℕ)). AreAgentTurns c.args.who.now o c.args.work.now.pause c.args.work.now.turns c.add_lines.new.agent (Ok c.in_ok-ended.ended)
    c.run_turns.new.agent (g.S.Site.told c.add_lines.new.site) (g.S.Site.told c.run_turns.new.site))
    (word_copied c.as_ref-door.result _ c.as_ref-door.ensures.value) c.in_ok-ended.ensures.script)

pub returns-clause-told : goal.returns-clause-told
returns-clause-told g c stamped =
    late_ends stamped c.args.who.now c.args.writer.now c.requires.writer c.read_initial.ensures.reads
    c.in_ok-agent.agent c.run_turns.new.agent
    (who_started c.args.who.now c.args.ring c.args.rules c.in_ok-agent.agent c.requires.role c.in_ok-agent.ensures.fresh)
    (c.in_ok-agent.ensures.told stamped)
    (ends_with c.in_ok-agent.agent c.add_lines.new.agent c.run_turns.new.agent
    (carried_by c.in_ok-agent.agent c.add_lines.new.agent c.add_lines.ensures.source c.in_ok-agent.ensures.fresh.ready
    c.in_ok-add_lines.ensures.ready c.add_lines.ensures.told)
    c.run_turns.ensures.told)
    (Ok c.in_ok-ended.ended) tt

pub returns-clause-last : goal.returns-clause-last
returns-clause-last g c =
    nothing_last
    (late_ends [] c.args.who.now c.args.writer.now c.requires.writer c.read_initial.ensures.reads
    c.in_ok-agent.agent c.run_turns.new.agent
    (who_started c.args.who.now c.args.ring c.args.rules c.in_ok-agent.agent c.requires.role c.in_ok-agent.ensures.fresh)
    (c.in_ok-agent.ensures.told [])
    (ends_with c.in_ok-agent.agent c.add_lines.new.agent c.run_turns.new.agent
    (carried_by c.in_ok-agent.agent c.add_lines.new.agent c.add_lines.ensures.source c.in_ok-agent.ensures.fresh.ready
    c.in_ok-add_lines.ensures.ready c.add_lines.ensures.told)
    c.run_turns.ensures.told)
    (Ok Over) tt)
