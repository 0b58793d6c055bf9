use Rattle.std.proofs.Common.{Ok, Err}
use Rattle.std.proofs.lemmas.Result.{err_from_is_err_and}
use Rattle.chk_site.proofs.Runs.{adds_then, start_then}
use Rattle.chk_checkpoint.specs.declared.Checkpoint.{Checkpoint}
use Rattle.chk_checkpoint.specs.Lines.{lines_of}
use Rattle.chk_agent.specs.Faults.{FailsLast}
use Rattle.chk_agent.specs.Starts.{StartsAndReads}
use Rattle.chk_agent.proofs.StartingTold.{start_begun, unbegun_told, loaded_told, load_fails}
use Rattle.chk_agent.proofs.StartingTold.{load_result}
use Rattle.chk_agent.proofs.StartingFinds.{starts_loads, unstarted_finds, loaded_finds}
use Rattle.chk_agent.proofs.starting.begin_and_load.Goals as goal

pub returns-in_err-begin-clause-told : goal.returns-in_err-begin-clause-told
returns-in_err-begin-clause-told g c stamped cluster =
    let p = err_from_is_err_and c.from_residual.result c.from_residual.ensures.1 in
    rw (p.1, p.2)
    (unbegun_told stamped cluster c.in_err-begin.field-0.0 c.args.who.now c.requires.role c.requires.name c.in_err-begin.ensures.told)

pub returns-in_err-check-clause-told : goal.returns-in_err-check-clause-told
returns-in_err-check-clause-told g c stamped cluster =
    let p = err_from_is_err_and c.from_residual-in_err-check.result c.from_residual-in_err-check.ensures.1 in
    rw (p.1, p.2)
    (loaded_told stamped cluster _ (Err c.in_err-check.field-0.0) c.args.who.now c.requires.role c.requires.name c.in_ok-begin.ensures.told
    c.in_err-check.ensures.reads (c.in_err-check.ensures.sound stamped c.requires.role c.requires.name))

pub returns-in_err-check-clause-last : goal.returns-in_err-check-clause-last
returns-in_err-check-clause-last g c =
    let p = err_from_is_err_and c.from_residual-in_err-check.result c.from_residual-in_err-check.ensures.1 in
    rw (p.1, p.2)
    (adds_then (FailsLast (load_result (Err c.in_err-check.field-0.0))) c.begin.ensures.last c.in_err-check.ensures.last
    (λ a b history x y. load_fails (Err c.in_err-check.field-0.0) b a history y))

pub returns-clause-starts : goal.returns-clause-starts
returns-clause-starts g c = start_then c.args.who.now (start_begun c.args.who.now c.in_ok-begin.ensures.told) c.load_checkpoint.ensures.last

pub returns-clause-told : goal.returns-clause-told
returns-clause-told g c stamped cluster =
    loaded_told stamped cluster _ (Ok c.in_ok-check.check) c.args.who.now c.requires.role c.requires.name c.in_ok-begin.ensures.told
    c.in_ok-check.ensures.reads (c.in_ok-check.ensures.sound stamped c.requires.role c.requires.name)

pub returns-clause-last : goal.returns-clause-last
returns-clause-last g c =
    adds_then (FailsLast {T = Checkpoint} (Ok c.in_ok-check.check)) c.begin.ensures.last c.in_ok-check.ensures.last
    (λ a b history x y. tt)

pub returns-in_err-begin-clause-acts : goal.returns-in_err-begin-clause-acts
returns-in_err-begin-clause-acts g c =
    let p = err_from_is_err_and c.from_residual.result c.from_residual.ensures.1 in
    rw (p.1, p.2)
    (StartsAndReads.unstarted c.in_err-begin.field-0.0 c.in_err-begin.ensures.told)

pub returns-in_err-begin-clause-whole : goal.returns-in_err-begin-clause-whole
returns-in_err-begin-clause-whole g c =
    let p = err_from_is_err_and c.from_residual.result c.from_residual.ensures.1 in
    rw (p.1, p.2)
    (unstarted_finds c.args.who.now (λ (check : Checkpoint). lines_of check)
    c.in_err-begin.field-0.0 c.in_err-begin.ensures.told)

pub returns-in_err-check-clause-acts : goal.returns-in_err-check-clause-acts
returns-in_err-check-clause-acts g c =
    let p = err_from_is_err_and c.from_residual-in_err-check.result
    c.from_residual-in_err-check.ensures.1 in
    rw (p.1, p.2)
    (starts_loads c.args.who.now _ (Err c.in_err-check.field-0.0) c.in_ok-begin.ensures.told
    c.in_err-check.ensures.reads c.in_err-check.ensures.last)

pub returns-in_err-check-clause-whole : goal.returns-in_err-check-clause-whole
returns-in_err-check-clause-whole g c =
    let p = err_from_is_err_and c.from_residual-in_err-check.result
    c.from_residual-in_err-check.ensures.1 in
    rw (p.1, p.2)
    (loaded_finds c.args.who.now _ (Err c.in_err-check.field-0.0) c.in_ok-begin.ensures.told
    c.in_err-check.ensures.whole)

pub returns-clause-acts : goal.returns-clause-acts
returns-clause-acts g c =
    starts_loads c.args.who.now _ (Ok c.in_ok-check.check) c.in_ok-begin.ensures.told
    c.in_ok-check.ensures.reads c.in_ok-check.ensures.last

pub returns-clause-whole : goal.returns-clause-whole
returns-clause-whole g c =
    loaded_finds c.args.who.now _ (Ok c.in_ok-check.check) c.in_ok-begin.ensures.told
    c.in_ok-check.ensures.whole
