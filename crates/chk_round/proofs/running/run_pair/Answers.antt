use Rattle.std.proofs.Common.{inl, inr, Result, Ok, Err, ap, sym, ◌∙◌, subst, arith}
use Rattle.std.proofs.lemmas.Result.{err_from_is_err_and}
use Rattle.chk_archive.specs.declared.report.Report.{Report}
use Rattle.chk_round.specs.declared.faults.RoundFault.{RoundFault}
use Rattle.chk_round.specs.Faults.{RoundCause}
use Rattle.chk_round.proofs.Ends.{late_cause}
use Rattle.chk_round.proofs.Following.{keeps_then}
use Rattle.chk_round.proofs.Joining.{in_on, joint_then, still_c}
use Rattle.chk_round.proofs.OwnRows.{own_then}
use Rattle.chk_round.proofs.Polls.{starts_then}
use Rattle.chk_round.proofs.Whole.{close_ends, joint_ends, reads_given, reads_joint, reads_no_more, round_ends, were_read}
use Rattle.chk_round.proofs.Lasting.{inside_late, last_inside, went_none, went_then}
use Rattle.chk_round.proofs.NoRead.{plain_no_read, work_late}
use Rattle.chk_round.proofs.Acts.{acts_then, as_round}
use Rattle.chk_round.proofs.running.run_pair.Goals as goal

pub read_all-requires : goal.read_all-requires
read_all-requires g c = record {
  started = c.requires.started;
  named = c.requires.named;
  ready = c.requires.ready;
  address = c.requires.address;
  some = c.requires.some;
}

pub returns-in_err-read_all-clause-told : goal.returns-in_err-read_all-clause-told
returns-in_err-read_all-clause-told g c stamped started acting run j_in j_acts steady =
    let p = err_from_is_err_and c.from_residual.result c.from_residual.ensures.1 in
    rw (p.1, p.2)
    (joint_ends stamped started acting c.args.collector.now c.args.agent.now run j_in c.read_all.new.collector c.read_all.new.agent
    c.read_all.ensures.same c.in_err-read_all.field-0.0
    (reads_joint c.args.collector.now c.args.agent.now c.read_all.new.collector c.read_all.new.agent
    (Err c.in_err-read_all.field-0.0) c.in_err-read_all.ensures.read) c.in_err-read_all.ensures.rows)

pub returns-in_err-read_all-clause-cause : goal.returns-in_err-read_all-clause-cause
returns-in_err-read_all-clause-cause g c =
    let p = err_from_is_err_and c.from_residual.result c.from_residual.ensures.1 in
    subst (λ (r : Result Report RoundFault). RoundCause (g.S.Site.fault_count c.args.site.now)
    (g.S.Site.fault_count c.read_all.new.site) r) (sym (p.1 ∙ ap Err p.2))
    (late_cause Report (Unit {0}) _ (g.S.Site.fault_count c.args.site.now) _ c.in_err-read_all.field-0.0 (omega arith)
    c.in_err-read_all.ensures.cause)

pub deliver-requires : goal.deliver-requires
deliver-requires g c =
    let on = c.in_ok-read_all.ensures.on in
    record {
      started = still_c c.args.collecting.now c.args.collector.now c.read_all.new.collector c.requires.started
          c.read_all.ensures.same.collector;
      named = c.requires.named;
      ready = on.ready ∙ c.requires.ready;
      address = on.addresses ∙ c.requires.address;
    }

pub returns-in_err-deliver-clause-told : goal.returns-in_err-deliver-clause-told
returns-in_err-deliver-clause-told g c stamped started acting run j_in j_acts steady =
    let p = err_from_is_err_and c.from_residual-in_err-deliver.result c.from_residual-in_err-deliver.ensures.1 in
    let s = c.args.collector.now in
    let a = c.args.agent.now in
    let t = c.read_all.new.collector in
    let b = c.read_all.new.agent in
    let u = c.deliver.new.collector in
    let joint = reads_joint s a t b (Ok tt) c.in_ok-read_all.ensures.read in
    rw (p.1, p.2)
    (joint_ends stamped started acting s a run j_in u c.deliver.new.agent
    (starts_then s t u c.read_all.ensures.same c.deliver.ensures.same) c.in_err-deliver.field-0.0
    (joint_then s t u a b c.deliver.new.agent (Err c.in_err-deliver.field-0.0) c.read_all.ensures.same.collector
    c.in_ok-read_all.ensures.on.source joint c.in_err-deliver.ensures.joint)
    (own_then s t u a b c.deliver.new.agent (Err c.in_err-deliver.field-0.0) c.read_all.ensures.same.collector
    c.in_ok-read_all.ensures.on.source c.in_ok-read_all.ensures.rows joint c.in_err-deliver.ensures.rows))

pub returns-in_err-deliver-clause-cause : goal.returns-in_err-deliver-clause-cause
returns-in_err-deliver-clause-cause g c =
    let p = err_from_is_err_and c.from_residual-in_err-deliver.result c.from_residual-in_err-deliver.ensures.1 in
    subst (λ (r : Result Report RoundFault). RoundCause (g.S.Site.fault_count c.args.site.now)
    (g.S.Site.fault_count c.deliver.new.site) r) (sym (p.1 ∙ ap Err p.2))
    (late_cause Report (Unit {0}) _ _ _ c.in_err-deliver.field-0.0 c.in_ok-read_all.ensures.cause c.in_err-deliver.ensures.cause)

pub returns-in_err-report-clause-told : goal.returns-in_err-report-clause-told
returns-in_err-report-clause-told g c stamped started acting run j_in j_acts steady =
    let p = err_from_is_err_and c.from_residual-in_err-report.result c.from_residual-in_err-report.ensures.1 in
    let on = c.in_ok-read_all.ensures.on in
    let all = c.in_ok-deliver.ensures.all in
    let here = in_on c.args.collector.now c.deliver.new.collector c.args.agent.now c.deliver.new.agent
    (c.deliver.ensures.same.collector ∙ c.read_all.ensures.same.collector) (all.source ∙ on.source) run in
    rw (p.1, p.2)
    (close_ends stamped started acting c.args.collector.now c.args.agent.now run c.read_all.new.collector c.read_all.new.agent
    c.read_all.ensures.same.collector on (c.in_ok-read_all.ensures.read stamped started acting run)
    c.deliver.new.collector c.deliver.new.agent c.in_ok-deliver.ensures.joint c.close.new.collector c.in_err-report.field-0.0
    (c.in_err-report.ensures.told stamped started acting c.deliver.new.agent c.ready-sound.ensures.sound here j_in j_acts))

pub returns-in_err-report-clause-cause : goal.returns-in_err-report-clause-cause
returns-in_err-report-clause-cause g c =
    let p = err_from_is_err_and c.from_residual-in_err-report.result c.from_residual-in_err-report.ensures.1 in
    let one = c.in_ok-read_all.ensures.cause in
    let two = c.in_ok-deliver.ensures.cause in
    subst (λ (r : Result Report RoundFault). RoundCause (g.S.Site.fault_count c.args.site.now)
    (g.S.Site.fault_count c.close.new.site) r) (sym (p.1 ∙ ap Err p.2))
    (late_cause Report Report _ _ _ c.in_err-report.field-0.0 (omega (arith, one, two)) c.in_err-report.ensures.cause)

pub returns-clause-live : goal.returns-clause-live
returns-clause-live g c =
    keeps_then c.args.agent.now c.read_all.new.agent c.deliver.new.agent
    c.in_ok-read_all.ensures.live c.in_ok-deliver.ensures.live

pub returns-clause-told : goal.returns-clause-told
returns-clause-told g c stamped started acting run j_in j_acts steady =
    let on = c.in_ok-read_all.ensures.on in
    let all = c.in_ok-deliver.ensures.all in
    let here = in_on c.args.collector.now c.deliver.new.collector c.args.agent.now c.deliver.new.agent
    (c.deliver.ensures.same.collector ∙ c.read_all.ensures.same.collector) (all.source ∙ on.source) run in
    round_ends stamped started acting c.args.collector.now c.args.agent.now run c.read_all.new.collector c.read_all.new.agent
    c.read_all.ensures.same.collector on (c.in_ok-read_all.ensures.read stamped started acting run)
    c.deliver.new.collector c.deliver.new.agent c.in_ok-deliver.ensures.joint steady c.ready-sound_read.ensures.sound all
    c.in_ok-deliver.ensures.sends
    (reads_given stamped started acting c.args.collector.now c.args.agent.now run c.read_all.new.collector c.read_all.new.agent
    c.read_all.ensures.same.collector on (c.in_ok-read_all.ensures.read stamped started acting run)
    (c.in_ok-read_all.ensures.read stamped started))
    c.deliver.ensures.acts (returns-clause-live g c)
    c.ready-sound.ensures.sound c.deliver.ensures.same.collector c.close.new.collector c.in_ok-report.report
    c.in_ok-report.ensures.finished
    (c.in_ok-report.ensures.told stamped started acting c.deliver.new.agent c.ready-sound.ensures.sound here j_in j_acts)
    c.in_ok-report.ensures.given c.in_ok-report.ensures.sends c.in_ok-report.ensures.theirs j_in
    c.close.ensures.acts

pub returns-clause-cause : goal.returns-clause-cause
returns-clause-cause g c =
    let one = c.in_ok-read_all.ensures.cause in
    let two = c.in_ok-deliver.ensures.cause in
    let three = c.in_ok-report.ensures.cause in
    omega (arith, one, two, three)

pub returns-clause-cluster : goal.returns-clause-cluster
returns-clause-cluster g c = c.in_ok-deliver.ensures.all.cluster ∙ c.in_ok-read_all.ensures.on.cluster

pub returns-in_err-read_all-clause-last : goal.returns-in_err-read_all-clause-last
returns-in_err-read_all-clause-last g c =
    let p = err_from_is_err_and c.from_residual.result c.from_residual.ensures.1 in
    rw (p.1, p.2) (inside_late Report (Unit {0}) c.in_err-read_all.field-0.0 (went_none (g.S.Site.told c.args.site.now)) c.in_err-read_all.ensures.last)

pub returns-in_err-deliver-clause-last : goal.returns-in_err-deliver-clause-last
returns-in_err-deliver-clause-last g c =
    let p = err_from_is_err_and c.from_residual-in_err-deliver.result c.from_residual-in_err-deliver.ensures.1 in
    rw (p.1, p.2) (inside_late Report (Unit {0}) c.in_err-deliver.field-0.0 c.in_ok-read_all.ensures.last c.in_err-deliver.ensures.last)

pub returns-in_err-report-clause-last : goal.returns-in_err-report-clause-last
returns-in_err-report-clause-last g c =
    let p = err_from_is_err_and c.from_residual-in_err-report.result c.from_residual-in_err-report.ensures.1 in
    rw (p.1, p.2) (inside_late Report Report c.in_err-report.field-0.0 (went_then c.in_ok-read_all.ensures.last c.in_ok-deliver.ensures.last)
    (last_inside Report Report c.in_err-report.field-0.0 c.in_err-report.ensures.last))

pub returns-clause-last : goal.returns-clause-last
returns-clause-last g c =
    went_then (went_then c.in_ok-read_all.ensures.last c.in_ok-deliver.ensures.last) c.in_ok-report.ensures.last

pub returns-in_err-read_all-clause-script : goal.returns-in_err-read_all-clause-script
returns-in_err-read_all-clause-script g c =
    let p = err_from_is_err_and c.from_residual.result c.from_residual.ensures.1 in
    rw (p.1, p.2) (inr (c.read_all.new.agent, c.in_err-read_all.ensures.script))

pub returns-in_err-deliver-clause-script : goal.returns-in_err-deliver-clause-script
returns-in_err-deliver-clause-script g c =
    let p = err_from_is_err_and c.from_residual-in_err-deliver.result c.from_residual-in_err-deliver.ensures.1 in
    rw (p.1, p.2) (inl c.in_err-deliver.ensures.only)

pub returns-in_err-report-clause-script : goal.returns-in_err-report-clause-script
returns-in_err-report-clause-script g c =
    let p = err_from_is_err_and c.from_residual-in_err-report.result c.from_residual-in_err-report.ensures.1 in
    rw (p.1, p.2) (inl (plain_no_read c.in_err-report.field-0.0 c.in_err-report.ensures.only))

pub returns-clause-script : goal.returns-clause-script
returns-clause-script g c = (
  g.S.Site.told c.read_all.new.site,
  (c.read_all.new.agent, c.in_ok-read_all.ensures.script),
  reads_no_more c.read_all.new.collector c.read_all.new.agent c.deliver.new.collector c.deliver.new.agent
      c.in_ok-deliver.ensures.joint c.deliver.ensures.acts c.close.ensures.acts
      c.in_ok-report.ensures.given,
)

pub returns-in_err-read_all-clause-shown : goal.returns-in_err-read_all-clause-shown
returns-in_err-read_all-clause-shown g c =
    let p = err_from_is_err_and c.from_residual.result c.from_residual.ensures.1 in
    rw (p.1, p.2) (work_late Report (Unit {0}) c.in_err-read_all.field-0.0 (g.S.Site.told c.read_all.new.site) (went_none (g.S.Site.told c.args.site.now)) c.in_err-read_all.ensures.shown)

pub returns-in_err-deliver-clause-shown : goal.returns-in_err-deliver-clause-shown
returns-in_err-deliver-clause-shown g c =
    let p = err_from_is_err_and c.from_residual-in_err-deliver.result c.from_residual-in_err-deliver.ensures.1 in
    rw (p.1, p.2) (work_late Report (Unit {0}) c.in_err-deliver.field-0.0 (g.S.Site.told c.deliver.new.site) c.in_ok-read_all.ensures.last c.in_err-deliver.ensures.shown)

pub returns-in_err-report-clause-shown : goal.returns-in_err-report-clause-shown
returns-in_err-report-clause-shown g c =
    let p = err_from_is_err_and c.from_residual-in_err-report.result c.from_residual-in_err-report.ensures.1 in
    rw (p.1, p.2) (work_late Report Report c.in_err-report.field-0.0 (g.S.Site.told c.close.new.site)
    (went_then c.in_ok-read_all.ensures.last c.in_ok-deliver.ensures.last) c.in_err-report.ensures.shown)

pub returns-in_err-read_all-clause-acts : goal.returns-in_err-read_all-clause-acts
returns-in_err-read_all-clause-acts g c = c.read_all.ensures.acts

pub returns-in_err-deliver-clause-acts : goal.returns-in_err-deliver-clause-acts
returns-in_err-deliver-clause-acts g c = acts_then c.read_all.ensures.acts (as_round c.deliver.ensures.acts)

pub returns-in_err-report-clause-acts : goal.returns-in_err-report-clause-acts
returns-in_err-report-clause-acts g c =
    acts_then (acts_then c.read_all.ensures.acts (as_round c.deliver.ensures.acts)) (as_round c.close.ensures.acts)

pub returns-clause-acts : goal.returns-clause-acts
returns-clause-acts g c =
    acts_then (acts_then c.read_all.ensures.acts (as_round c.deliver.ensures.acts)) (as_round c.close.ensures.acts)

pub returns-clause-each : goal.returns-clause-each
returns-clause-each g c steady =
    were_read c.args.agent.now c.read_all.new.agent c.deliver.new.agent steady c.in_ok-read_all.ensures.on
    c.in_ok-deliver.ensures.all
