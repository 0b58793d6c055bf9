use Rattle.std.proofs.Common.{◌<◌, length, inr, arith}
use Rattle.std.specs.Prelude.{codes}
use Rattle.std.proofs.lemmas.Bool.Decides.{nat_tests}
use Rattle.chk_http.proofs.Targets.{behind_prefix}
use Rattle.chk_http.proofs.request.target_of.Goals as goal

pub returns-in-Some : goal.returns-in-Some
returns-in-Some c =
    let cases = rw c.as_slice-3.ensures at c.in-Some.ensures.cases in
    let some : 0 < length c.in-Some.query.now = grind (arith, nat_tests, c.is_empty.ensures, c.if-not-is_empty.true) in
    inr (some, behind_prefix c.args.target.now (codes "/acks?") c.in-Some.query.now cases.0 cases.1)
