use Rattle.std.proofs.Common.{ℕ, List, [], Option, Result, Ok, Err, ap, sym, ◌∙◌, refl, arith, subst}
use Rattle.std.proofs.lemmas.Result.{err_from_is_err_and}
use Rattle.chk_bytes.specs.Words.{parts_at}
use Rattle.chk_site.specs.Site.{Adds}
use Rattle.chk_site.specs.Runs.{Leads}
use Rattle.chk_world.specs.Rules.{Legal}
use Rattle.chk_agent.specs.States.{State}
use Rattle.chk_agent_run.specs.declared.faults.RunFault.{RunFault}
use Rattle.chk_agent_run.specs.declared.turn.Ended.{Ended}
use Rattle.chk_agent_run.specs.declared.turn.Ended.TheVariants.{Over}
use Rattle.chk_agent_run.specs.Faults.{fault_of, outside_fault}
use Rattle.chk_agent_run.specs.Initial.{ReadsInitial, AreAdded}
use Rattle.chk_agent_run.specs.Runs.{InRun}
use Rattle.chk_agent_run.proofs.Carried.{carried_none, carried_by, ends_with}
use Rattle.chk_agent_run.proofs.Turned.{process_on}
use Rattle.chk_agent_run.proofs.LineAdded.{word_copied}
use Rattle.chk_agent_run.proofs.Endings.{start_so, who_started, unread_leads, unstarted_leads, late_ends}
use Rattle.chk_agent_run.proofs.RunFaults.{run_last, run_cause, no_checkpoint, none_of, last_of, outside_last, outside_cause}
use Rattle.chk_agent.proofs.Alike.{nothing_last}
use Rattle.chk_agent_run.proofs.RunCauses.{cause_behind}
use Rattle.chk_cmd_drain.specs.declared.begin.Begun.{Begun}
use Rattle.chk_cmd_drain.specs.Begins.{BeginsWith, unread, unstarted, untimed, unadded, begun}
use Rattle.chk_cmd_drain.proofs.BeginEnds.{begins_so, begun_leads}
use Rattle.chk_cmd_drain.proofs.DoneParts.{begun_to, nothing_begun}
use Rattle.chk_cmd_drain.proofs.begin.begin.Goals as goal

pub returns-in_err-text-clause-ran : goal.returns-in_err-text-clause-ran
returns-in_err-text-clause-ran g c =
    let p = err_from_is_err_and c.from_residual.result c.from_residual.ensures.1 in
    rw (p.1, p.2)
    (unread c.in_err-text.field-0.0
    (subst (λ (o : Option (List ℕ)). ReadsInitial c.args.writer.now o (Err c.in_err-text.field-0.0)
    (g.S.Site.told c.args.site.now)
    (g.S.Site.told c.read_initial.new.site))
    (word_copied c.as_ref.result _ c.as_ref.ensures.value) c.in_err-text.ensures.script))

pub returns-in_err-text-clause-told : goal.returns-in_err-text-clause-told
returns-in_err-text-clause-told g c stamped =
    let p = err_from_is_err_and c.from_residual.result c.from_residual.ensures.1 in
    subst (λ (r : Result Begun RunFault). Adds (g.S.Site.told c.args.site.now)
    (g.S.Site.told c.read_initial.new.site)
    (Leads (InRun stamped c.args.who.now c.args.writer.now) (Legal stamped)
    (BeginsWith stamped c.args.who.now r)))
    (sym (p.1 ∙ ap Err p.2))
    (begins_so stamped c.args.who.now c.args.writer.now _
    (unread_leads stamped c.args.who.now c.args.writer.now c.requires.writer
    c.read_initial.ensures.reads c.in_err-text.field-0.0))

pub returns-in_err-text-clause-done : goal.returns-in_err-text-clause-done
returns-in_err-text-clause-done g c stamped =
    let p = err_from_is_err_and c.from_residual.result
    c.from_residual.ensures.1 in
    nothing_begun stamped c.args.who.now c.args.writer.now c.args.initial.now
    (outside_fault c.in_err-text.field-0.0)
    c.from_residual.result (p.1 ∙ ap Err p.2)
    (returns-in_err-text-clause-told g c stamped)

pub returns-in_err-text-clause-last : goal.returns-in_err-text-clause-last
returns-in_err-text-clause-last g c =
    let p = err_from_is_err_and c.from_residual.result c.from_residual.ensures.1 in
    outside_last (List ℕ) c.in_err-text.field-0.0 c.from_residual.result
    (p.1 ∙ ap Err p.2) c.in_err-text.ensures.last

pub returns-in_err-text-clause-cause : goal.returns-in_err-text-clause-cause
returns-in_err-text-clause-cause g c =
    let p = err_from_is_err_and c.from_residual.result c.from_residual.ensures.1 in
    outside_cause (List ℕ) _ _ c.in_err-text.field-0.0 c.from_residual.result
    (p.1 ∙ ap Err p.2) c.in_err-text.ensures.cause

pub returns-in_err-agent-clause-ran : goal.returns-in_err-agent-clause-ran
returns-in_err-agent-clause-ran g c =
    let p = err_from_is_err_and c.from_residual-in_err-agent.result
    c.from_residual-in_err-agent.ensures.1 in
    rw (p.1, p.2)
    (unstarted c.in_ok-text.text c.in_err-agent.field-0.0
    (subst (λ (o : Option (List ℕ)). ReadsInitial c.args.writer.now o (Ok c.in_ok-text.text)
    (g.S.Site.told c.args.site.now)
    (g.S.Site.told c.read_initial.new.site))
    (word_copied c.as_ref.result _ c.as_ref.ensures.value) c.in_ok-text.ensures.script)
    (start_so c.args.who.now (Err c.in_err-agent.field-0.0) (c.in_err-agent.ensures.told [])
    c.in_err-agent.ensures.acts c.in_err-agent.ensures.whole))

pub returns-in_err-agent-clause-told : goal.returns-in_err-agent-clause-told
returns-in_err-agent-clause-told g c stamped =
    let p = err_from_is_err_and c.from_residual-in_err-agent.result
    c.from_residual-in_err-agent.ensures.1 in
    subst (λ (r : Result Begun RunFault). Adds (g.S.Site.told c.args.site.now)
    (g.S.Site.told c.start.new.site)
    (Leads (InRun stamped c.args.who.now c.args.writer.now) (Legal stamped)
    (BeginsWith stamped c.args.who.now r)))
    (sym (p.1 ∙ ap Err p.2))
    (begins_so stamped c.args.who.now c.args.writer.now _
    (unstarted_leads stamped c.args.who.now c.args.writer.now c.requires.writer
    c.read_initial.ensures.reads c.in_err-agent.field-0.0
    (c.in_err-agent.ensures.told stamped)))

pub returns-in_err-agent-clause-done : goal.returns-in_err-agent-clause-done
returns-in_err-agent-clause-done g c stamped =
    let p = err_from_is_err_and c.from_residual-in_err-agent.result
    c.from_residual-in_err-agent.ensures.1 in
    nothing_begun stamped c.args.who.now c.args.writer.now c.args.initial.now
    (fault_of c.in_err-agent.field-0.0)
    c.from_residual-in_err-agent.result (p.1 ∙ ap Err p.2)
    (returns-in_err-agent-clause-told g c stamped)

pub returns-in_err-agent-clause-last : goal.returns-in_err-agent-clause-last
returns-in_err-agent-clause-last g c =
    let p = err_from_is_err_and c.from_residual-in_err-agent.result
    c.from_residual-in_err-agent.ensures.1 in
    run_last State c.in_err-agent.field-0.0 c.from_residual-in_err-agent.result (p.1 ∙ ap Err p.2)
    c.read_initial.ensures.reads c.in_err-agent.ensures.last

pub returns-in_err-agent-clause-cause : goal.returns-in_err-agent-clause-cause
returns-in_err-agent-clause-cause g c =
    let p = err_from_is_err_and c.from_residual-in_err-agent.result
    c.from_residual-in_err-agent.ensures.1 in
    run_cause State _ _ _ c.in_err-agent.field-0.0 c.from_residual-in_err-agent.result
    (p.1 ∙ ap Err p.2)
    (let same = c.in_ok-text.ensures.cause in omega (arith, same)) c.in_err-agent.ensures.cause

pub returns-in_err-now-clause-ran : goal.returns-in_err-now-clause-ran
returns-in_err-now-clause-ran g c =
    let p = err_from_is_err_and c.from_residual-in_err-now.result
    c.from_residual-in_err-now.ensures.1 in
    rw (p.1, p.2)
    (untimed c.in_ok-text.text c.in_err-now.field-0.0
    (subst (λ (o : Option (List ℕ)). ReadsInitial c.args.writer.now o (Ok c.in_ok-text.text)
    (g.S.Site.told c.args.site.now)
    (g.S.Site.told c.read_initial.new.site))
    (word_copied c.as_ref.result _ c.as_ref.ensures.value) c.in_ok-text.ensures.script)
    (record {
      fresh = c.in_ok-agent.ensures.fresh;
      starts = c.in_ok-agent.ensures.starts;
      so =
          start_so c.args.who.now (Ok c.in_ok-agent.agent) (c.in_ok-agent.ensures.told [])
          c.in_ok-agent.ensures.acts c.in_ok-agent.ensures.whole;
    })
    c.in_err-now.ensures.made)

pub returns-in_err-now-clause-told : goal.returns-in_err-now-clause-told
returns-in_err-now-clause-told g c stamped =
    let p = err_from_is_err_and c.from_residual-in_err-now.result
    c.from_residual-in_err-now.ensures.1 in
    subst (λ (r : Result Begun RunFault). Adds (g.S.Site.told c.args.site.now)
    (g.S.Site.told c.clock.new.site)
    (Leads (InRun stamped c.args.who.now c.args.writer.now) (Legal stamped)
    (BeginsWith stamped c.args.who.now r)))
    (sym (p.1 ∙ ap Err p.2))
    (begins_so stamped c.args.who.now c.args.writer.now (fault_of c.in_err-now.field-0.0)
    (late_ends stamped c.args.who.now c.args.writer.now c.requires.writer
    c.read_initial.ensures.reads
    c.in_ok-agent.agent c.in_ok-agent.agent
    (who_started c.args.who.now c.args.ring c.args.rules c.in_ok-agent.agent c.requires.role
    c.in_ok-agent.ensures.fresh)
    (c.in_ok-agent.ensures.told stamped)
    c.clock.ensures.told
    (Err (fault_of c.in_err-now.field-0.0))
    (no_checkpoint {T = Ended} ℕ c.in_err-now.field-0.0
    (Err (fault_of c.in_err-now.field-0.0)) refl c.in_err-now.ensures.undamaged)))

pub returns-in_err-now-clause-done : goal.returns-in_err-now-clause-done
returns-in_err-now-clause-done g c stamped =
    let p = err_from_is_err_and c.from_residual-in_err-now.result
    c.from_residual-in_err-now.ensures.1 in
    nothing_begun stamped c.args.who.now c.args.writer.now c.args.initial.now
    (fault_of c.in_err-now.field-0.0)
    c.from_residual-in_err-now.result (p.1 ∙ ap Err p.2)
    (returns-in_err-now-clause-told g c stamped)

pub returns-in_err-now-clause-last : goal.returns-in_err-now-clause-last
returns-in_err-now-clause-last g c =
    let p = err_from_is_err_and c.from_residual-in_err-now.result
    c.from_residual-in_err-now.ensures.1 in
    run_last ℕ c.in_err-now.field-0.0 c.from_residual-in_err-now.result (p.1 ∙ ap Err p.2)
    (late_ends [] c.args.who.now c.args.writer.now c.requires.writer c.read_initial.ensures.reads
    c.in_ok-agent.agent c.in_ok-agent.agent
    (who_started c.args.who.now c.args.ring c.args.rules c.in_ok-agent.agent c.requires.role
    c.in_ok-agent.ensures.fresh)
    (c.in_ok-agent.ensures.told [])
    (carried_none c.in_ok-agent.agent (g.S.Site.told c.start.new.site)).talks
    (Ok Over) tt)
    c.in_err-now.ensures.last

pub returns-in_err-add_lines-clause-ran : goal.returns-in_err-add_lines-clause-ran
returns-in_err-add_lines-clause-ran g c =
    let p = err_from_is_err_and c.from_residual-in_err-add_lines.result
    c.from_residual-in_err-add_lines.ensures.1 in
    rw (p.1, p.2)
    (unadded c.in_ok-text.text c.in_ok-now.now c.in_err-add_lines.field-0.0
    (subst (λ (o : Option (List ℕ)). ReadsInitial c.args.writer.now o (Ok c.in_ok-text.text)
    (g.S.Site.told c.args.site.now)
    (g.S.Site.told c.read_initial.new.site))
    (word_copied c.as_ref.result _ c.as_ref.ensures.value) c.in_ok-text.ensures.script)
    (record {
      fresh = c.in_ok-agent.ensures.fresh;
      starts = c.in_ok-agent.ensures.starts;
      so =
          start_so c.args.who.now (Ok c.in_ok-agent.agent) (c.in_ok-agent.ensures.told [])
          c.in_ok-agent.ensures.acts c.in_ok-agent.ensures.whole;
    })
    c.in_ok-now.ensures.made
    (subst (λ (b : List ℕ). AreAdded 0 (parts_at 10 b) c.in_ok-agent.agent
    (Err c.in_err-add_lines.field-0.0) c.add_lines.new.agent
    (g.S.Site.told c.clock.new.site) (g.S.Site.told c.add_lines.new.site)) c.as_slice.ensures
    c.in_err-add_lines.ensures.script))

pub returns-in_err-add_lines-clause-told : goal.returns-in_err-add_lines-clause-told
returns-in_err-add_lines-clause-told g c stamped =
    let p = err_from_is_err_and c.from_residual-in_err-add_lines.result
    c.from_residual-in_err-add_lines.ensures.1 in
    subst (λ (r : Result Begun RunFault). Adds (g.S.Site.told c.args.site.now)
    (g.S.Site.told c.add_lines.new.site)
    (Leads (InRun stamped c.args.who.now c.args.writer.now) (Legal stamped)
    (BeginsWith stamped c.args.who.now r)))
    (sym (p.1 ∙ ap Err p.2))
    (begins_so stamped c.args.who.now c.args.writer.now c.in_err-add_lines.field-0.0
    (late_ends stamped c.args.who.now c.args.writer.now c.requires.writer
    c.read_initial.ensures.reads
    c.in_ok-agent.agent c.add_lines.new.agent
    (who_started c.args.who.now c.args.ring c.args.rules c.in_ok-agent.agent c.requires.role
    c.in_ok-agent.ensures.fresh)
    (c.in_ok-agent.ensures.told stamped)
    (ends_with c.in_ok-agent.agent c.in_ok-agent.agent c.add_lines.new.agent
    (carried_by c.in_ok-agent.agent c.in_ok-agent.agent refl c.in_ok-agent.ensures.fresh.ready
    c.in_ok-agent.ensures.fresh.ready c.clock.ensures.told) c.add_lines.ensures.told)
    (Err c.in_err-add_lines.field-0.0)
    (none_of {T = Ended} (Unit {0}) c.in_err-add_lines.field-0.0
    (Err c.in_err-add_lines.field-0.0) refl c.in_err-add_lines.ensures.undamaged)))

pub returns-in_err-add_lines-clause-done : goal.returns-in_err-add_lines-clause-done
returns-in_err-add_lines-clause-done g c stamped =
    let p = err_from_is_err_and c.from_residual-in_err-add_lines.result
    c.from_residual-in_err-add_lines.ensures.1 in
    nothing_begun stamped c.args.who.now c.args.writer.now c.args.initial.now
    c.in_err-add_lines.field-0.0
    c.from_residual-in_err-add_lines.result (p.1 ∙ ap Err p.2)
    (returns-in_err-add_lines-clause-told g c stamped)

pub returns-in_err-add_lines-clause-last : goal.returns-in_err-add_lines-clause-last
returns-in_err-add_lines-clause-last g c =
    let p = err_from_is_err_and c.from_residual-in_err-add_lines.result
    c.from_residual-in_err-add_lines.ensures.1 in
    last_of (Unit {0}) c.in_err-add_lines.field-0.0 c.from_residual-in_err-add_lines.result
    (p.1 ∙ ap Err p.2)
    (late_ends [] c.args.who.now c.args.writer.now c.requires.writer c.read_initial.ensures.reads
    c.in_ok-agent.agent c.in_ok-agent.agent
    (who_started c.args.who.now c.args.ring c.args.rules c.in_ok-agent.agent c.requires.role
    c.in_ok-agent.ensures.fresh)
    (c.in_ok-agent.ensures.told [])
    c.clock.ensures.told
    (Ok Over) tt)
    c.in_err-add_lines.ensures.last

pub returns-clause-ran : goal.returns-clause-ran
returns-clause-ran g c =
    begun c.in_ok-text.text c.in_ok-now.now
    (subst (λ (o : Option (List ℕ)). ReadsInitial c.args.writer.now o (Ok c.in_ok-text.text)
    (g.S.Site.told c.args.site.now)
    (g.S.Site.told c.read_initial.new.site))
    (word_copied c.as_ref.result _ c.as_ref.ensures.value) c.in_ok-text.ensures.script)
    (record {
      fresh = c.in_ok-agent.ensures.fresh;
      starts = c.in_ok-agent.ensures.starts;
      so =
          start_so c.args.who.now (Ok c.in_ok-agent.agent) (c.in_ok-agent.ensures.told [])
          c.in_ok-agent.ensures.acts c.in_ok-agent.ensures.whole;
    })
    c.in_ok-now.ensures.made
    (subst (λ (b : List ℕ). AreAdded 0 (parts_at 10 b) c.in_ok-agent.agent
    (Ok tt) c.add_lines.new.agent
    (g.S.Site.told c.clock.new.site) (g.S.Site.told c.add_lines.new.site)) c.as_slice.ensures
    c.in_ok-add_lines.ensures.script)

pub returns-clause-told : goal.returns-clause-told
returns-clause-told g c stamped =
    begun_leads stamped c.args.who.now c.args.writer.now c.requires.writer
    c.read_initial.ensures.reads
    c.in_ok-agent.agent c.add_lines.new.agent
    (who_started c.args.who.now c.args.ring c.args.rules c.in_ok-agent.agent c.requires.role
    c.in_ok-agent.ensures.fresh)
    (c.in_ok-agent.ensures.told stamped)
    (ends_with c.in_ok-agent.agent c.in_ok-agent.agent c.add_lines.new.agent
    (carried_by c.in_ok-agent.agent c.in_ok-agent.agent refl c.in_ok-agent.ensures.fresh.ready
    c.in_ok-agent.ensures.fresh.ready c.clock.ensures.told) c.add_lines.ensures.told)

pub returns-clause-done : goal.returns-clause-done
returns-clause-done g c stamped =
    begun_to stamped c.args.who.now c.args.writer.now c.requires.writer c.args.initial.now
    c.in_ok-text.text
    c.in_ok-agent.agent c.add_lines.new.agent c.args.ring c.args.rules c.in_ok-agent.ensures.fresh
    c.read_initial.ensures.reads
    (subst (λ (o : Option (List ℕ)). ReadsInitial c.args.writer.now o (Ok c.in_ok-text.text)
    (g.S.Site.told c.args.site.now)
    (g.S.Site.told c.read_initial.new.site))
    (word_copied c.as_ref.result _ c.as_ref.ensures.value) c.in_ok-text.ensures.script)
    c.in_ok-agent.ensures.starts
    (c.in_ok-agent.ensures.told stamped)
    (ends_with c.in_ok-agent.agent c.in_ok-agent.agent c.add_lines.new.agent
    (carried_by c.in_ok-agent.agent c.in_ok-agent.agent refl c.in_ok-agent.ensures.fresh.ready
    c.in_ok-agent.ensures.fresh.ready c.clock.ensures.told) c.add_lines.ensures.told)
    c.in_ok-now.ensures.made
    (subst (λ (b : List ℕ). AreAdded 0 (parts_at 10 b) c.in_ok-agent.agent
    (Ok tt) c.add_lines.new.agent
    (g.S.Site.told c.clock.new.site) (g.S.Site.told c.add_lines.new.site)) c.as_slice.ensures
    c.in_ok-add_lines.ensures.script)

pub returns-clause-me : goal.returns-clause-me
returns-clause-me g c =
    process_on c.args.who.now c.in_ok-agent.agent c.add_lines.new.agent
    (who_started c.args.who.now c.args.ring c.args.rules c.in_ok-agent.agent c.requires.role
    c.in_ok-agent.ensures.fresh) c.add_lines.ensures.source

pub returns-clause-last : goal.returns-clause-last
returns-clause-last g c =
    nothing_last
    (late_ends [] c.args.who.now c.args.writer.now c.requires.writer c.read_initial.ensures.reads
    c.in_ok-agent.agent c.add_lines.new.agent
    (who_started c.args.who.now c.args.ring c.args.rules c.in_ok-agent.agent c.requires.role
    c.in_ok-agent.ensures.fresh)
    (c.in_ok-agent.ensures.told [])
    (ends_with c.in_ok-agent.agent c.in_ok-agent.agent c.add_lines.new.agent
    (carried_by c.in_ok-agent.agent c.in_ok-agent.agent refl c.in_ok-agent.ensures.fresh.ready
    c.in_ok-agent.ensures.fresh.ready c.clock.ensures.told) c.add_lines.ensures.told)
    (Ok Over) tt)

pub returns-in_err-now-clause-cause : goal.returns-in_err-now-clause-cause
returns-in_err-now-clause-cause g c =
    let r = c.from_residual-in_err-now in
    let p = err_from_is_err_and r.result r.ensures.1 in
    let read = c.in_ok-text.ensures.cause in
    let started = c.in_ok-agent.ensures.cause in
    run_cause ℕ _ _ _ c.in_err-now.field-0.0 r.result (p.1 ∙ ap Err p.2)
    (omega (arith, read, started)) c.in_err-now.ensures.cause

pub returns-in_err-add_lines-clause-cause : goal.returns-in_err-add_lines-clause-cause
returns-in_err-add_lines-clause-cause g c =
    let r = c.from_residual-in_err-add_lines in
    let p = err_from_is_err_and r.result r.ensures.1 in
    let read = c.in_ok-text.ensures.cause in
    let started = c.in_ok-agent.ensures.cause in
    let timed = c.in_ok-now.ensures.cause in
    cause_behind (Unit {0}) _ _ _ c.in_err-add_lines.field-0.0 r.result (p.1 ∙ ap Err p.2)
    (omega (arith, read, started, timed)) c.in_err-add_lines.ensures.cause
