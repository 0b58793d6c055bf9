use Rattle.std.proofs.Common.{ℕ, List, subst, ◌∙◌}
use Rattle.std.proofs.lemmas.Result.{err_from_is_err_and}
use Rattle.chk_cmd_load.specs.Loads.{SaysLine, unsaid}
use Rattle.chk_cmd_load.proofs.Writing.{said_one}
use Rattle.chk_cmd_load.proofs.running.tell.Goals as goal

pub returns-in_err-line-clause-says : goal.returns-in_err-line-clause-says
returns-in_err-line-clause-says g c =
    let p = err_from_is_err_and c.from_residual.result c.from_residual.ensures.1 in
    rw (p.1, p.2) unsaid

pub returns-clause-says : goal.returns-clause-says
returns-clause-says g c =
    subst (λ (t : List ℕ). SaysLine c.args.writer.now t c.reached.result
    (g.S.Site.told c.args.site.now) (g.S.Site.told c.say-given.new.self))
    (c.as_slice.ensures ∙ c.in_ok-line.ensures)
    (said_one c.say-given.result c.reached.result c.say-given.ensures.told c.reached.ensures)
