use Rattle.std.proofs.Common.{Ok, Err, Result, subst, sym}
use Rattle.std.proofs.lemmas.Result.{err_from_is_err_and}
use Rattle.chk_site.specs.Site.{Adds}
use Rattle.chk_cmd_round.specs.declared.ends.RoundEnd.{RoundEnd}
use Rattle.chk_cmd_round.specs.Running.{EndsByCall, RunCause, RunsRound, RunsTo, ran, unbegun, undone, untold}
use Rattle.chk_cmd_round.proofs.Prints.{tells_run}
use Rattle.chk_cmd_round.proofs.Runs.{all_last, by_cause, fault_last, print_cause, print_last, ran_to, tells_by, unbegun_to, undone_to, untold_to}
use Rattle.chk_cmd_round.proofs.running.run_round.Goals as goal

pub returns-in_err-reading-clause-ran : goal.returns-in_err-reading-clause-ran
returns-in_err-reading-clause-ran g c =
    let p = err_from_is_err_and c.from_residual.result c.from_residual.ensures.1 in
    rw (p.1, p.2) unbegun

pub returns-in_err-archiving-clause-ran : goal.returns-in_err-archiving-clause-ran
returns-in_err-archiving-clause-ran g c =
    let p = err_from_is_err_and c.from_residual-in_err-archiving.result c.from_residual-in_err-archiving.ensures.1 in
    rw (p.1, p.2) unbegun

pub returns-in_err-rounded-clause-ran : goal.returns-in_err-rounded-clause-ran
returns-in_err-rounded-clause-ran g c =
    let p = err_from_is_err_and c.from_residual-in_err-rounded.result c.from_residual-in_err-rounded.ensures.1 in
    rw (p.1, p.2) (undone c.in_err-rounded.field-0.0
    (record {
      told = c.in_err-rounded.ensures.told;
      live = tt;
      script = c.in_err-rounded.ensures.script;
      read = tt;
      stays = tt;
      shown = c.in_err-rounded.ensures.shown;
      last = c.in_err-rounded.ensures.last;
      acts = c.in_err-rounded.ensures.acts;
    }))

pub returns-in_err-rounded-clause-told : goal.returns-in_err-rounded-clause-told
returns-in_err-rounded-clause-told g c stamped started acting run =
    let p = err_from_is_err_and c.from_residual-in_err-rounded.result c.from_residual-in_err-rounded.ensures.1 in
    rw (p.1, p.2)
    (undone_to stamped c.args.given.now.source c.args.given.now.kind c.args.given.now.cluster c.args.given.now.logs.items c.requires.name started acting run c.in_err-rounded.field-0.0
    (c.in_err-rounded.ensures.told stamped started acting run))

pub returns-in_err-tell-clause-ran : goal.returns-in_err-tell-clause-ran
returns-in_err-tell-clause-ran g c =
    let p = err_from_is_err_and c.from_residual-in_err-tell.result c.from_residual-in_err-tell.ensures.1 in
    rw (p.1, p.2)
    (untold c.in_ok-rounded.rounded c.in_err-tell.field-0.0
    (record {
      told = c.in_ok-rounded.ensures.told;
      live = c.in_ok-rounded.ensures.live;
      script = c.in_ok-rounded.ensures.script;
      read = c.in_ok-rounded.ensures.reads;
      stays = c.in_ok-rounded.ensures.stays;
      shown = c.in_ok-rounded.ensures.shown;
      last = c.in_ok-rounded.ensures.last;
      acts = c.in_ok-rounded.ensures.acts;
    })
    (tells_by c.args.given.now.source c.in_ok-rounded.rounded c.in_ok-reading.reading c.in_ok-archiving.archiving (Err c.in_err-tell.field-0.0)
    c.in_ok-reading.ensures c.in_ok-archiving.ensures c.in_err-tell.ensures.told))

pub returns-in_err-tell-clause-told : goal.returns-in_err-tell-clause-told
returns-in_err-tell-clause-told g c stamped started acting run =
    let p = err_from_is_err_and c.from_residual-in_err-tell.result c.from_residual-in_err-tell.ensures.1 in
    rw (p.1, p.2)
    (untold_to stamped c.args.given.now.source c.args.given.now.kind c.args.given.now.cluster c.args.given.now.logs.items c.requires.name started acting run c.in_ok-rounded.rounded
    (c.in_ok-rounded.ensures.told stamped started acting run) c.in_err-tell.field-0.0
    (tells_by c.args.given.now.source c.in_ok-rounded.rounded c.in_ok-reading.reading c.in_ok-archiving.archiving (Err c.in_err-tell.field-0.0)
    c.in_ok-reading.ensures c.in_ok-archiving.ensures c.in_err-tell.ensures.told))

pub returns-in_err-tell-clause-cause : goal.returns-in_err-tell-clause-cause
returns-in_err-tell-clause-cause g c =
    let p = err_from_is_err_and c.from_residual-in_err-tell.result c.from_residual-in_err-tell.ensures.1 in
    rw (p.1, p.2) (print_cause _ _ _ c.in_err-tell.field-0.0 c.in_ok-rounded.ensures.cause c.in_err-tell.ensures.cause)

pub returns-clause-ran : goal.returns-clause-ran
returns-clause-ran g c =
    subst (λ (r : Result (Unit {0}) RoundEnd). RunsRound c.args.given.now.source c.args.given.now.kind c.args.given.now.class
    c.args.given.now.cluster c.args.given.now.logs.items c.args.given.now.reads r (g.S.Site.told c.args.site.now) (g.S.Site.told c.tell.new.site))
    (sym c.end_by.ensures)
    (ran c.in_ok-rounded.rounded
    (record {
      told = c.in_ok-rounded.ensures.told;
      live = c.in_ok-rounded.ensures.live;
      script = c.in_ok-rounded.ensures.script;
      read = c.in_ok-rounded.ensures.reads;
      stays = c.in_ok-rounded.ensures.stays;
      shown = c.in_ok-rounded.ensures.shown;
      last = c.in_ok-rounded.ensures.last;
      acts = c.in_ok-rounded.ensures.acts;
    })
    (tells_by c.args.given.now.source c.in_ok-rounded.rounded c.in_ok-reading.reading c.in_ok-archiving.archiving (Ok tt)
    c.in_ok-reading.ensures c.in_ok-archiving.ensures c.in_ok-tell.ensures.told))

pub returns-clause-told : goal.returns-clause-told
returns-clause-told g c stamped started acting run =
    subst (λ (r : Result (Unit {0}) RoundEnd). Adds (g.S.Site.told c.args.site.now) (g.S.Site.told c.tell.new.site)
    (RunsTo stamped started acting c.args.given.now.source c.args.given.now.kind c.args.given.now.cluster c.args.given.now.logs.items r)) (sym c.end_by.ensures)
    (ran_to stamped c.args.given.now.source c.args.given.now.kind c.args.given.now.cluster c.args.given.now.logs.items c.requires.name started acting run c.in_ok-rounded.rounded
    (c.in_ok-rounded.ensures.told stamped started acting run) c.in_ok-rounded.ensures.cluster c.in_ok-rounded.ensures.live
    (c.in_ok-rounded.ensures.stays stamped started acting run)
    (tells_by c.args.given.now.source c.in_ok-rounded.rounded c.in_ok-reading.reading c.in_ok-archiving.archiving (Ok tt)
    c.in_ok-reading.ensures c.in_ok-archiving.ensures c.in_ok-tell.ensures.told))

pub returns-clause-cause : goal.returns-clause-cause
returns-clause-cause g c =
    subst (λ (r : Result (Unit {0}) RoundEnd). RunCause (g.S.Site.fault_count c.args.site.now) (g.S.Site.fault_count c.tell.new.site) r)
    (sym c.end_by.ensures)
    (by_cause _ _ _ c.in_ok-rounded.rounded.report.first_unclosed c.in_ok-rounded.ensures.cause c.in_ok-tell.ensures.cause)

pub returns-in_err-rounded-clause-last : goal.returns-in_err-rounded-clause-last
returns-in_err-rounded-clause-last g c =
    let p = err_from_is_err_and c.from_residual-in_err-rounded.result c.from_residual-in_err-rounded.ensures.1 in
    rw (p.1, p.2) (fault_last c.in_err-rounded.field-0.0 c.in_err-rounded.ensures.last)

pub returns-in_err-tell-clause-last : goal.returns-in_err-tell-clause-last
returns-in_err-tell-clause-last g c =
    let p = err_from_is_err_and c.from_residual-in_err-tell.result c.from_residual-in_err-tell.ensures.1 in
    rw (p.1, p.2) (print_last c.in_err-tell.field-0.0 c.in_ok-rounded.ensures.last c.in_err-tell.ensures.told)

pub returns-clause-last : goal.returns-clause-last
returns-clause-last g c =
    subst (λ (r : Result (Unit {0}) RoundEnd). Adds (g.S.Site.told c.args.site.now) (g.S.Site.told c.tell.new.site) (EndsByCall r))
    (sym c.end_by.ensures)
    (all_last c.in_ok-rounded.rounded.report.first_unclosed c.in_ok-rounded.ensures.last (tells_run c.in_ok-tell.ensures.told))

pub returns-in_err-reading-clause-told : goal.returns-in_err-reading-clause-told
returns-in_err-reading-clause-told g c stamped started acting run =
    let p = err_from_is_err_and c.from_residual.result c.from_residual.ensures.1 in
    rw (p.1, p.2)
    (unbegun_to stamped c.args.given.now.source c.args.given.now.kind c.args.given.now.cluster c.args.given.now.logs.items c.requires.name started acting run
    (g.S.Site.told c.args.site.now))

pub returns-in_err-archiving-clause-told : goal.returns-in_err-archiving-clause-told
returns-in_err-archiving-clause-told g c stamped started acting run =
    let p = err_from_is_err_and c.from_residual-in_err-archiving.result c.from_residual-in_err-archiving.ensures.1 in
    rw (p.1, p.2)
    (unbegun_to stamped c.args.given.now.source c.args.given.now.kind c.args.given.now.cluster c.args.given.now.logs.items c.requires.name started acting run
    (g.S.Site.told c.args.site.now))
