use Rattle.chk_world_examples.proofs.Rows.{rows}
use Rattle.chk_world_examples.proofs.worked_rows_hold.Goals as goal

pub returns : goal.returns
returns c = rows
