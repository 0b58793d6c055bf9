use Rattle.std.proofs.Common.{ap, ◌∙◌}
use Rattle.std.specs.Prelude.{codes}
use Rattle.std.proofs.lemmas.Result.{IfOk-weaker}
use Rattle.clap.specs.Simple.{App, with_rule}
use Rattle.chk_ctl_line.specs.Options.{flag_rule, option_rule}
use Rattle.chk_ctl_line.specs.Status.{short_rule}
use Rattle.chk_ctl_line.proofs.status.status_command.Goals as goal

pub returns : goal.returns
returns c =
    let watched = c.in_ok-watched.ensures
    ∙ ap (λ (a : App). with_rule a (option_rule (codes "watch"))) c.in_ok-listed.ensures in
    let short = c.in_ok-short.ensures ∙ ap (λ (a : App). with_rule a short_rule) watched in
    let measured = c.in_ok-measured.ensures
    ∙ ap (λ (a : App). with_rule a (flag_rule (codes "metrics"))) short in
    IfOk-weaker c.with_flag-2.result _ _
    (λ r added. added ∙ ap (λ (a : App). with_rule a (flag_rule (codes "help"))) measured)
    c.with_flag-2.ensures
