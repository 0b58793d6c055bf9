use Rattle.std.proofs.Common.{[], inl, inr, Result, Ok, Err, ap, sym, ◌∙◌, subst, refl, arith}
use Rattle.std.specs.Prelude.{IsTrue}
use Rattle.std.proofs.lemmas.Result.{err_from_is_err_and}
use Rattle.chk_bytes.specs.Stems.{is_collector}
use Rattle.chk_site.specs.declared.acts.Role.TheVariants.{Collector}
use Rattle.chk_site.specs.declared.acts.Who.{Who}
use Rattle.chk_world.specs.Knowing.{agent}
use Rattle.chk_world.specs.Names.{is_source}
use Rattle.chk_archive.specs.declared.report.Report.{Report}
use Rattle.chk_round.specs.declared.faults.RoundFault.{RoundFault}
use Rattle.chk_round.specs.declared.starting.Pair.{Pair}
use Rattle.chk_round.specs.declared.whole_round.Rounded.{Rounded}
use Rattle.chk_round.specs.declared.whos.Processes.{Processes}
use Rattle.chk_round.specs.Begun.{BeginsSo}
use Rattle.chk_round.specs.Faults.{RoundCause}
use Rattle.chk_round.specs.Lengths.{EndShown}
use Rattle.chk_round.specs.Processes.{AreBoth}
use Rattle.chk_round.proofs.Added.{logs_cluster}
use Rattle.chk_round.proofs.Ends.{late_cause}
use Rattle.chk_round.proofs.Following.{follows_on, has_line}
use Rattle.chk_round.proofs.Rounding.{both_of, rounds, unmet}
use Rattle.chk_round.proofs.Staying.{reads_logs, stays_by}
use Rattle.chk_round.proofs.Lasting.{inside_late, went, went_none, went_then}
use Rattle.chk_round.proofs.NoRead.{end_as, plain_no_read, work_ends}
use Rattle.chk_round.proofs.Acts.{all_acts, begun_of, timed_then}
use Rattle.chk_round.specs.Calls.{BegunActs, TimedActs}
use Rattle.chk_site.specs.Site.{Adds}
use Rattle.chk_round.proofs.whole_round.run_prepared.Goals as goal

pub gather-requires : goal.gather-requires
gather-requires g c =
    let is = c.requires.processes in
    let name = ap (λ (p : Processes). p.reading.name) is in
    record {
      collector = ap (λ (p : Processes). p.collecting) is;
      agent_is = ap (λ (p : Processes). p.reading) is ∙ ap agent (sym name);
      name = subst (λ n. IsTrue (is_source n)) (sym name) c.requires.name;
      ring = c.requires.ring;
      some_rows = c.requires.some_rows;
      a_piece = c.requires.a_piece;
    }

pub returns-in_err-pair-clause-told : goal.returns-in_err-pair-clause-told
returns-in_err-pair-clause-told g c stamped started acting run =
    let p = err_from_is_err_and c.from_residual.result c.from_residual.ensures.1 in
    let name = ap (λ (p : Processes). p.reading.name) c.requires.processes in
    rw (p.1, p.2)
    (unmet stamped c.args.given.now.source started acting c.in_err-pair.field-0.0
    (c.in_err-pair.ensures.told stamped started acting
    (subst (λ n. AreBoth n started acting) (sym name) (both_of c.args.given.now.source started acting run))))

pub returns-in_err-pair-clause-cause : goal.returns-in_err-pair-clause-cause
returns-in_err-pair-clause-cause g c =
    let p = err_from_is_err_and c.from_residual.result c.from_residual.ensures.1 in
    subst (λ (r : Result Rounded RoundFault). RoundCause (g.S.Site.fault_count c.args.site.now)
    (g.S.Site.fault_count c.gather.new.site) r) (sym (p.1 ∙ ap Err p.2))
    (late_cause Rounded Pair _ (g.S.Site.fault_count c.args.site.now) _ c.in_err-pair.field-0.0 (omega arith) c.in_err-pair.ensures.cause)

pub run_pair-requires : goal.run_pair-requires
run_pair-requires g c =
    let so = c.in_ok-pair.ensures.gathered in
    let c_is = ap (λ (p : Processes). p.collecting) c.requires.processes in
    record {
      started = c_is ∙ ap (λ n. record { role = Collector; name = n }) (sym so.collector_is);
      named = subst (λ (w : Who). IsTrue (is_collector w.name)) (sym c_is) refl;
      job_is = ap (λ (p : Processes). p.archiving) c.requires.processes;
      ready = so.ready;
      address = so.addresses;
      some = c.requires.a_read;
    }

pub returns-in-Err-clause-told : goal.returns-in-Err-clause-told
returns-in-Err-clause-told g c stamped started acting run =
    let name = ap (λ (p : Processes). p.reading.name) c.requires.processes in
    let so = c.in_ok-pair.ensures.gathered in
    rounds stamped c.args.given.now.source started acting run c.in_ok-pair.pair.collector c.in_ok-pair.pair.agent
    c.run_pair.new.agent (record {
      collector_is = so.collector_is;
      source_is = so.source_is ∙ name;
      ready = so.ready;
      addresses = so.addresses;
      steady = so.steady;
      rows = so.rows;
      number = so.number;
    }) c.args.processes.now.reading.name (c.in_ok-pair.ensures.told stamped started) (sym name)
    (Err c.in-Err.fault) (c.in-Err.ensures.told stamped started acting)

pub returns-in-Err-clause-cause : goal.returns-in-Err-clause-cause
returns-in-Err-clause-cause g c =
    late_cause Rounded Report _ _ _ c.in-Err.fault c.in_ok-pair.ensures.cause c.in-Err.ensures.cause

pub returns-in-Ok-clause-told : goal.returns-in-Ok-clause-told
returns-in-Ok-clause-told g c stamped started acting run =
    let name = ap (λ (p : Processes). p.reading.name) c.requires.processes in
    let so = c.in_ok-pair.ensures.gathered in
    rounds stamped c.args.given.now.source started acting run c.in_ok-pair.pair.collector c.in_ok-pair.pair.agent
    c.run_pair.new.agent (record {
      collector_is = so.collector_is;
      source_is = so.source_is ∙ name;
      ready = so.ready;
      addresses = so.addresses;
      steady = so.steady;
      rows = so.rows;
      number = so.number;
    }) c.args.processes.now.reading.name (c.in_ok-pair.ensures.told stamped started) (sym name)
    (Ok c.in-Ok.report) (c.in-Ok.ensures.told stamped started acting)

pub returns-in-Ok-clause-cause : goal.returns-in-Ok-clause-cause
returns-in-Ok-clause-cause g c =
    let one = c.in_ok-pair.ensures.cause in let two = c.in-Ok.ensures.cause in omega (arith, one, two)

pub returns-in-Ok-clause-live : goal.returns-in-Ok-clause-live
returns-in-Ok-clause-live g c log one =
    has_line c.args.given.now.kind log c.run_pair.new.agent
    (follows_on c.in_ok-pair.pair.agent c.run_pair.new.agent c.in-Ok.ensures.live
    c.args.given.now.kind log (c.in_ok-pair.ensures.live log one))

pub returns-in_err-pair-clause-last : goal.returns-in_err-pair-clause-last
returns-in_err-pair-clause-last g c =
    let p = err_from_is_err_and c.from_residual.result c.from_residual.ensures.1 in
    rw (p.1, p.2) (inside_late Rounded Pair c.in_err-pair.field-0.0 (went_none (g.S.Site.told c.args.site.now)) c.in_err-pair.ensures.last)

pub returns-in-Err-clause-last : goal.returns-in-Err-clause-last
returns-in-Err-clause-last g c =
    inside_late Rounded Report c.in-Err.fault c.in_ok-pair.ensures.last c.in-Err.ensures.last

pub returns-in-Ok-clause-last : goal.returns-in-Ok-clause-last
returns-in-Ok-clause-last g c = went_then c.in_ok-pair.ensures.last c.in-Ok.ensures.last

pub returns-in_err-pair-clause-script : goal.returns-in_err-pair-clause-script
returns-in_err-pair-clause-script g c =
    let p = err_from_is_err_and c.from_residual.result c.from_residual.ensures.1 in
    rw (p.1, p.2) (inl (plain_no_read c.in_err-pair.field-0.0 c.in_err-pair.ensures.only))

pub returns-in-Err-clause-script : goal.returns-in-Err-clause-script
returns-in-Err-clause-script g c =
    elim c.in-Err.ensures.script [
      | inl other ↦ inl other
      | inr reads ↦ inr (
        c.in_ok-pair.pair.agent,
        c.in_ok-pair.ensures.gathered.source_is ∙ ap (λ (p : Processes). p.reading.name) c.requires.processes,
        g.S.Site.told c.gather.new.site,
        went c.in_ok-pair.ensures.last,
        reads,
      )
    ]

pub returns-in_err-pair-clause-shown : goal.returns-in_err-pair-clause-shown
returns-in_err-pair-clause-shown g c =
    let p = err_from_is_err_and c.from_residual.result c.from_residual.ensures.1 in
    let name = ap (λ (p : Processes). p.reading.name) c.requires.processes in
    let old = g.S.Site.told c.args.site.now in
    let new = g.S.Site.told c.gather.new.site in
    rw (p.1, p.2)
    (end_as Rounded c.args.given.now.source Pair c.in_err-pair.field-0.0 old new
    (subst (λ n. EndShown {T = Pair} n (Err c.in_err-pair.field-0.0) old new) name
    c.in_err-pair.ensures.shown))

pub returns-in-Err-clause-shown : goal.returns-in-Err-clause-shown
returns-in-Err-clause-shown g c =
    work_ends Rounded c.args.given.now.source Report c.in-Err.fault
    (g.S.Site.told c.run_pair.new.site) c.in_ok-pair.ensures.last c.in-Err.ensures.shown

pub returns-in_err-pair-clause-acts : goal.returns-in_err-pair-clause-acts
returns-in_err-pair-clause-acts g c =
    all_acts c.args.given.now.source (returns-in_err-pair-clause-told g c [])
    (subst (λ n. Adds (g.S.Site.told c.args.site.now) (g.S.Site.told c.gather.new.site) (BegunActs n))
    (ap (λ (p : Processes). p.reading.name) c.requires.processes) c.gather.ensures.acts)

pub returns-in-Err-clause-acts : goal.returns-in-Err-clause-acts
returns-in-Err-clause-acts g c =
    all_acts c.args.given.now.source (returns-in-Err-clause-told g c [])
    (begun_of c.args.given.now.source (timed_then c.args.given.now.source
    (subst (λ n. Adds (g.S.Site.told c.args.site.now) (g.S.Site.told c.gather.new.site) (TimedActs n))
    (ap (λ (p : Processes). p.reading.name) c.requires.processes) c.in_ok-pair.ensures.timed)
    c.run_pair.ensures.acts))

pub returns-in-Ok-clause-acts : goal.returns-in-Ok-clause-acts
returns-in-Ok-clause-acts g c =
    all_acts c.args.given.now.source (returns-in-Ok-clause-told g c [])
    (begun_of c.args.given.now.source (timed_then c.args.given.now.source
    (subst (λ n. Adds (g.S.Site.told c.args.site.now) (g.S.Site.told c.gather.new.site) (TimedActs n))
    (ap (λ (p : Processes). p.reading.name) c.requires.processes) c.in_ok-pair.ensures.timed)
    c.run_pair.ensures.acts))

pub returns-in-Ok-clause-cluster : goal.returns-in-Ok-clause-cluster
returns-in-Ok-clause-cluster g c =
    let begins = c.in_ok-pair.ensures.begins in
    c.in-Ok.ensures.cluster ∙ (logs_cluster begins.adds
    ∙ (begins.began.fresh.cluster ∙ (begins.cluster_is ∙ c.requires.cluster)))

pub returns-in-Ok-clause-reads : goal.returns-in-Ok-clause-reads
returns-in-Ok-clause-reads g c =
    let w = c.args.given.now in
    let old = g.S.Site.told c.args.site.now in
    let new = g.S.Site.told c.gather.new.site in
    let begun = c.in_ok-pair.pair.agent in
    reads_logs w.source w.kind w.class w.cluster w.logs.items c.args.given.now.reads begun
    c.run_pair.new.agent
    (c.in_ok-pair.ensures.gathered.source_is
    ∙ ap (λ (p : Processes). p.reading.name) c.requires.processes)
    (subst (λ n. BeginsSo w.source w.kind w.class n w.logs.items begun old new)
    (c.requires.cluster)
    (subst (λ n. BeginsSo n w.kind w.class c.args.rules.cluster w.logs.items begun old new)
    (ap (λ (p : Processes). p.reading.name) c.requires.processes) c.in_ok-pair.ensures.begins))
    c.in-Ok.ensures.script c.in-Ok.ensures.live
    (c.in-Ok.ensures.each c.in_ok-pair.ensures.gathered.steady)

pub returns-in-Ok-clause-stays : goal.returns-in-Ok-clause-stays
returns-in-Ok-clause-stays g c stamped started acting run =
    let w = c.args.given.now in
    let old = g.S.Site.told c.args.site.now in
    let new = g.S.Site.told c.gather.new.site in
    let begun = c.in_ok-pair.pair.agent in
    stays_by stamped started acting w.source w.kind w.class w.cluster w.logs.items run begun
    c.run_pair.new.agent c.in-Ok.report
    (subst (λ n. BeginsSo w.source w.kind w.class n w.logs.items begun old new)
    (c.requires.cluster)
    (subst (λ n. BeginsSo n w.kind w.class c.args.rules.cluster w.logs.items begun old new)
    (ap (λ (p : Processes). p.reading.name) c.requires.processes) c.in_ok-pair.ensures.begins))
    c.in-Ok.ensures.live (c.in-Ok.ensures.each c.in_ok-pair.ensures.gathered.steady)
    c.in-Ok.ensures.acts (returns-in-Ok-clause-told g c stamped started acting run)
