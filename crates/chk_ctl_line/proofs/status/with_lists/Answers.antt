use Rattle.std.proofs.Common.{◌≡◌, [], ap, true, ◌∙◌}
use Rattle.std.specs.Prelude.{codes}
use Rattle.std.proofs.lemmas.Result.{IfOk-weaker}
use Rattle.clap.specs.Simple.{App, Shape, app_of, app_of_fields, on_top, with_rule}
use Rattle.chk_ctl_line.specs.Options.{with_rules}
use Rattle.chk_ctl_line.specs.Status.{list_rule}
use Rattle.chk_ctl_line.proofs.status.with_lists.Goals as goal

abbrev without_help : App → App
without_help = on_top (λ (s : Shape). record s { disable_help_flag = true })

pub returns : goal.returns
returns c =
    let bare : app_of c.disable_help_flag-bare.result ≡ with_rules [] =
    ap app_of_fields c.disable_help_flag-bare.ensures ∙ ap without_help c.new.ensures.app in
    let agents = c.in_ok-agents.ensures
    ∙ ap (λ (a : App). with_rule a (list_rule (codes "agent"))) bare in
    let stores = c.in_ok-stores.ensures
    ∙ ap (λ (a : App). with_rule a (list_rule (codes "store"))) agents in
    IfOk-weaker c.with_list-3.result _ _
    (λ r added. added ∙ ap (λ (a : App). with_rule a (list_rule (codes "control"))) stores)
    c.with_list-3.ensures
