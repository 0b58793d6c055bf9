use Rattle.std.proofs.Common.{◌≡◌, ◌∙◌, ap, false, rules}
use Rattle.std.proofs.lemmas.Result.{IfOk-weaker}
use Rattle.clap.specs.Words.{app_of, rule_of, with_rule}
use Rattle.chk_ctl_line.specs.Options.{flag_rule}
use Rattle.chk_ctl_line.proofs.options.with_flag.Goals as goal

pub returns : goal.returns
returns c =
    let is : rule_of c.action-option.result ≡ flag_rule c.args.name.now = search rules in
    let local : c.action-option.result.global ≡ false = search rules in
    IfOk-weaker c.arg.result _ _
    (λ r adds. adds.shape local ∙ ap (with_rule (app_of c.args.command)) is) c.arg.ensures
