use Rattle.std.proofs.Common.{◌≡◌, ◌∙◌, ap, map, subst, true}
use Rattle.std.proofs.lemmas.Bool.{and_parts}
use Rattle.clap.specs.Faults.{fault_of, is_simple_and_free}
use Rattle.clap.specs.Kinds.{HasKind}
use Rattle.clap.specs.Simple.{App, app_of, matches_of}
use Rattle.chk_cmd_line.specs.Options.{app_with}
use Rattle.chk_cmd_line.specs.Usages.{option_names}
use Rattle.chk_cmd_line.proofs.OptionLemmas.{all_simple, refused, taken, without_memory}
use Rattle.chk_cmd_line.proofs.options.Given.read.Goals as goal

pub returns-in-Err : goal.returns-in-Err
returns-in-Err c =
    let names = option_names c.args.usage in
    let words = map (λ w. w.now) c.args.words.now in
    let app : app_of c.in_ok-command.command ≡ app_with names =
    c.in_ok-command.ensures ∙ ap app_with c.options.ensures in
    let told = c.in-Err.ensures.kinds (ap is_simple_and_free app ∙ all_simple c.args.usage) in
    let P : App → Type 0 = λ a. HasKind (fault_of a words) c.in-Err.error in
    refused (matches_of (app_with names) words) (fault_of (app_with names) words) _ _
    (subst P app told) c.fault_of.ensures

pub returns-in-Ok : goal.returns-in-Ok
returns-in-Ok c =
    let names = option_names c.args.usage in
    let app : app_of c.in_ok-command.command ≡ app_with names =
    c.in_ok-command.ensures ∙ ap app_with c.options.ensures in
    let free : is_simple_and_free (app_of c.in_ok-command.command) ≡ true =
    ap is_simple_and_free app ∙ all_simple c.args.usage in
    taken names (map (λ w. w.now) c.args.words.now) (app_of c.in_ok-command.command) _ app
    (c.in-Ok.ensures.kinds free) (c.in-Ok.ensures.matches (and_parts _ _ free).0).0

pub returns-in_err-command : goal.returns-in_err-command
returns-in_err-command c = without_memory _ c.from_residual.result c.from_residual.ensures.1
