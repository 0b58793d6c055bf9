use Rattle.std.proofs.Common.{Err, ◌∙◌}
use Rattle.std.proofs.lemmas.Result.{err_from_is_err_and}
use Rattle.chk_site.proofs.Runs.{adds_as}
use Rattle.chk_world.specs.Names.{CheckFile, spell}
use Rattle.chk_checkpoint.specs.Faults.{check_fault, FailsLast}
use Rattle.chk_checkpoint.proofs.LoadLemmas.{lines_loaded, sound_by_role, sound_failed, loaded_as, looks_as, none_begun, none_loaded, fails_last, same_cause, lines_may_be_written, none_failed, none_counted}
use Rattle.chk_checkpoint.proofs.files.load_checkpoint.Goals as goal

pub returns-in_err-name-clause-whole : goal.returns-in_err-name-clause-whole
returns-in_err-name-clause-whole g c =
    let p = err_from_is_err_and c.from_residual.result c.from_residual.ensures.1 in
    rw (p.1, p.2) (λ file small. none_begun (spell (CheckFile c.args.who.now.name)) file)

pub returns-in_err-given-clause-whole : goal.returns-in_err-given-clause-whole
returns-in_err-given-clause-whole g c =
    let p = err_from_is_err_and c.from_residual-in_err-given.result c.from_residual-in_err-given.ensures.1 in
    let fault = c.in_err-given.field-0.0 in
    rw (p.1, p.2)
    (λ file small.
    loaded_as c.as_str.result.now (spell (CheckFile c.args.who.now.name)) (c.as_str.ensures.value ∙ c.in_ok-name.ensures) file
    (Err (check_fault fault))
    (none_loaded c.as_str.result.now file fault (c.in_err-given.ensures.whole file small)))

pub returns-in_err-given-clause-sound : goal.returns-in_err-given-clause-sound
returns-in_err-given-clause-sound g c =
    let p = err_from_is_err_and c.from_residual-in_err-given.result c.from_residual-in_err-given.ensures.1 in
    rw (p.1, p.2)
    (λ stamped role known.
    sound_failed stamped c.args.who.now role known c.as_str.result.now (c.as_str.ensures.value ∙ c.in_ok-name.ensures) c.in_err-given.field-0.0
    c.in_err-given.ensures.reads)

pub returns-in_err-given-clause-reads : goal.returns-in_err-given-clause-reads
returns-in_err-given-clause-reads g c =
    looks_as c.args.who.now c.as_str.result.now (spell (CheckFile c.args.who.now.name)) (c.as_str.ensures.value ∙ c.in_ok-name.ensures)
    c.in_err-given.ensures.reads

pub returns-in_err-given-clause-last : goal.returns-in_err-given-clause-last
returns-in_err-given-clause-last g c =
    let p = err_from_is_err_and c.from_residual-in_err-given.result c.from_residual-in_err-given.ensures.1 in
    rw (p.1, p.2) (fails_last c.in_err-given.field-0.0 c.in_err-given.ensures.last)

pub returns-in_err-given-clause-cause : goal.returns-in_err-given-clause-cause
returns-in_err-given-clause-cause g c =
    let p = err_from_is_err_and c.from_residual-in_err-given.result c.from_residual-in_err-given.ensures.1 in
    rw (p.1, p.2) (same_cause c.in_err-given.field-0.0 _ _ c.in_err-given.ensures.cause)

pub returns-clause-lines : goal.returns-clause-lines
returns-clause-lines g c = lines_may_be_written c.in_ok-given.given c.lines_in.result c.lines_in.ensures

pub returns-clause-whole : goal.returns-clause-whole
returns-clause-whole g c =
    λ file small.
    loaded_as c.as_str.result.now (spell (CheckFile c.args.who.now.name)) (c.as_str.ensures.value ∙ c.in_ok-name.ensures) file c.lines_in.result
    (lines_loaded c.as_str.result.now file c.in_ok-given.given c.lines_in.result c.lines_in.ensures (c.in_ok-given.ensures.whole file small))

pub returns-clause-sound : goal.returns-clause-sound
returns-clause-sound g c =
    λ stamped role known.
    sound_by_role stamped c.args.who.now role known c.as_str.result.now (c.as_str.ensures.value ∙ c.in_ok-name.ensures) c.lines_in.result
    (λ file small.
    lines_loaded c.as_str.result.now file c.in_ok-given.given c.lines_in.result c.lines_in.ensures (c.in_ok-given.ensures.whole file small))
    c.in_ok-given.ensures.reads

pub returns-clause-reads : goal.returns-clause-reads
returns-clause-reads g c =
    looks_as c.args.who.now c.as_str.result.now (spell (CheckFile c.args.who.now.name)) (c.as_str.ensures.value ∙ c.in_ok-name.ensures)
    c.in_ok-given.ensures.reads

pub returns-clause-last : goal.returns-clause-last
returns-clause-last g c =
    adds_as (FailsLast c.lines_in.result) c.in_ok-given.ensures.reads
    (λ added history looks. none_failed c.in_ok-given.given c.lines_in.result c.lines_in.ensures added history)

pub returns-clause-cause : goal.returns-clause-cause
returns-clause-cause g c = none_counted c.in_ok-given.given c.lines_in.result c.lines_in.ensures _ _ c.in_ok-given.ensures.cause
