use Rattle.std.proofs.Common.{ℕ, List, [], ap, ◌∙◌, true, arith}
use Rattle.std.proofs.lemmas.Result.{IfOk-weaker}
use Rattle.std.specs.Borrow.{Bor}
use Rattle.clap.specs.Simple.{App, Shape, app_of_fields, on_top}
use Rattle.chk_cmd_line.proofs.OptionLemmas.{all_added, one_more}
use Rattle.chk_cmd_line.proofs.options.command_with.Goals as goal

abbrev without_help : App → App
without_help = on_top (λ (s : Shape). record s { disable_help_flag = true })

abbrev no_name : Bor (List ℕ)
no_name = record { ref_ptr = (0, 0); now = [] }

pub loop-name-init : goal.loop-name-init
loop-name-init c =
    ap app_of_fields c.disable_help_flag-command.ensures ∙ ap without_help c.new.ensures.app

pub loop-name-preserved : goal.loop-name-preserved
loop-name-preserved c =
    one_more (λ n. n.now) c.args.names.now c.loop-name.name-index no_name _ _ (omega arith)
    c.in_ok-command.ensures c.loop-name.invariant

pub returns : goal.returns
returns c =
    let names = c.args.names.now in
    let i = c.loop-name.name-index in
    IfOk-weaker c.with_words.result _ _
    (λ r added.
    all_added (λ n. n.now) names i _ _ c.loop-name-test.false added c.loop-name.invariant)
    c.with_words.ensures
