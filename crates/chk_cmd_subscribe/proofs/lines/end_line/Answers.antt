use Rattle.std.proofs.Common.{arith, sym, subst, List, ℕ}
use Rattle.std.specs.Prelude.{IsTrue}
use Rattle.chk_world.specs.ArchiveRuns.{is_one_line}
use Rattle.chk_cmd_subscribe.proofs.OneLine.{end_line_one, end_text}
use Rattle.chk_cmd_subscribe.proofs.lines.end_line.Goals as goal

pub returns-clause-line : goal.returns-clause-line
returns-clause-line c =
    end_text c.args.printed c.args.refused _ _ _ _ _ _ c.new-line.ensures c.in_ok-push_all.ensures.ok c.in_ok-put_number.ensures
    c.in_ok-push_all-2.ensures.ok c.in_ok-put_number-2.ensures c.in_ok-push_all-3.ensures.ok

pub returns-clause-one : goal.returns-clause-one
returns-clause-one c =
    subst (λ (l : List ℕ). IsTrue (is_one_line l)) (sym (returns-clause-line c))
    (end_line_one c.args.printed c.args.refused (omega arith) (omega arith))
