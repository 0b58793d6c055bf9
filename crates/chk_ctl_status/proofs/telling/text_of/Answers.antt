use Rattle.std.proofs.Common.{◌∙◌, ◌++◌, List, ℕ, ap, append_assoc}
use Rattle.std.specs.Prelude.{codes}
use Rattle.chk_ctl_status.proofs.telling.text_of.Goals as goal

pub returns : goal.returns
returns c =
    c.in_ok-text.ensures.ok
    ∙ (ap (λ (head : List ℕ). head
    ++ (codes "        WRITTEN       COMMITTED           QUIET  SINK\n"
    ++ (c.args.sinks.now ++ (codes "       UNCLOSED          CLOSED            HELD\n"
    ++ c.args.counts.now)))) c.in_ok-head.ensures.ok
    ∙ simp append_assoc)
