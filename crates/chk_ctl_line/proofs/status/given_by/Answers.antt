use Rattle.std.proofs.Common.{◌≡◌, ◌∙◌, ap, map, subst, true}
use Rattle.std.proofs.lemmas.Bool.{and_parts}
use Rattle.clap.specs.Faults.{fault_of, is_simple_and_free}
use Rattle.clap.specs.Kinds.{HasKind}
use Rattle.clap.specs.Simple.{App, app_of, matches_of}
use Rattle.chk_ctl_line.specs.Status.{status_app}
use Rattle.chk_ctl_line.proofs.OptionLemmas.{refused, without_memory}
use Rattle.chk_ctl_line.proofs.StatusLemmas.{status_simple, status_taken}
use Rattle.chk_ctl_line.proofs.status.given_by.Goals as goal

pub returns-in-Err : goal.returns-in-Err
returns-in-Err c =
    let words = map (λ w. w.now) c.args.words.now in
    let app : app_of c.in_ok-command.command ≡ status_app = c.in_ok-command.ensures in
    let told = c.in-Err.ensures.kinds (ap is_simple_and_free app ∙ status_simple) in
    let P : App → Type 0 = λ a. HasKind (fault_of a words) c.in-Err.error in
    refused (matches_of status_app words) (fault_of status_app words) _ _ (subst P app told)
    c.fault_of.ensures

pub returns-in-Ok : goal.returns-in-Ok
returns-in-Ok c =
    let app : app_of c.in_ok-command.command ≡ status_app = c.in_ok-command.ensures in
    let free : is_simple_and_free (app_of c.in_ok-command.command) ≡ true =
    ap is_simple_and_free app ∙ status_simple in
    status_taken (map (λ w. w.now) c.args.words.now) (app_of c.in_ok-command.command) _ app
    (c.in-Ok.ensures.kinds free) (c.in-Ok.ensures.matches (and_parts _ _ free).0).0

pub returns-in_err-command : goal.returns-in_err-command
returns-in_err-command c = without_memory _ c.from_residual.result c.from_residual.ensures.1
