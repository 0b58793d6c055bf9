use Rattle.std.proofs.Common.{sym, subst, List, ℕ}
use Rattle.std.specs.Prelude.{IsTrue}
use Rattle.chk_world.specs.ArchiveRuns.{is_one_line}
use Rattle.chk_tee.specs.Lent.{lent_teed}
use Rattle.chk_cmd_subscribe.proofs.OneLine.{chunk_line_one, chunk_text}
use Rattle.chk_cmd_subscribe.proofs.lines.chunk_line.Goals as goal

pub returns-clause-line : goal.returns-clause-line
returns-clause-line c =
    chunk_text (lent_teed c.args.teed.now) _ _ _ _ c.new-line.ensures c.in_ok-put_place.ensures c.in_ok-put_stream.ensures c.in_ok-put_size.ensures

pub returns-clause-one : goal.returns-clause-one
returns-clause-one c =
    subst (λ (l : List ℕ). IsTrue (is_one_line l)) (sym (returns-clause-line c)) (chunk_line_one (lent_teed c.args.teed.now) c.requires)
