use Rattle.std.proofs.Common.{false, sym, true}
use Rattle.chk_ctl_inspect.specs.Statuses.{helped, stood, unfound}
use Rattle.chk_ctl_inspect.proofs.status.inspect_asked.Goals as goal

pub returns-then-print : goal.returns-then-print
returns-then-print g c =
    helped true (sym c.if-asks_help.ensures) (rw c.text.ensures at c.if-print.ensures)

pub returns-else-print : goal.returns-else-print
returns-else-print g c =
    helped false (sym c.if-asks_help.ensures) (rw c.text.ensures at c.if-print.ensures)

pub returns-then-stand : goal.returns-then-stand
returns-then-stand g c = stood (sym c.if-asks_help.ensures) c.if-stand.ensures c.inspect_again.ensures

pub returns-else-stand : goal.returns-else-stand
returns-else-stand g c = unfound (sym c.if-asks_help.ensures) c.if-stand.ensures
