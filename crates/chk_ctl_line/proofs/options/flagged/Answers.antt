use Rattle.std.proofs.Common.{ℕ, List, [], ap, ◌∙◌, arith}
use Rattle.std.proofs.lemmas.Result.{IfOk-weaker}
use Rattle.std.specs.Borrow.{Bor}
use Rattle.clap.specs.Simple.{with_rule}
use Rattle.chk_ctl_line.specs.Options.{words_rule}
use Rattle.chk_ctl_line.proofs.OptionLemmas.{all_flags, one_flag}
use Rattle.chk_ctl_line.proofs.options.flagged.Goals as goal

abbrev no_name : Bor (List ℕ)
no_name = record { ref_ptr = (0, 0); now = [] }

pub loop-name-preserved : goal.loop-name-preserved
loop-name-preserved c =
    one_flag (λ n. n.now) c.args.flags.now c.loop-name.name-index no_name _ _ _ (omega arith)
    c.in_ok-command.ensures c.loop-name.invariant

pub returns : goal.returns
returns c =
    IfOk-weaker c.with_words.result _ _
    (λ r added.
    added ∙ ap (λ app. with_rule app words_rule)
    (all_flags (λ n. n.now) c.args.flags.now c.loop-name.name-index _ _ c.loop-name-test.false
    c.loop-name.invariant))
    c.with_words.ensures
