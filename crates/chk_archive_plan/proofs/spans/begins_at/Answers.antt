use Rattle.std.proofs.Common.{sym}
use Rattle.chk_record_index.specs.Order.{lent_head}
use Rattle.chk_archive_plan.proofs.KnownSearch.{begins_known, begins_unknown}
use Rattle.chk_archive_plan.proofs.spans.begins_at.Goals as goal

pub returns-in-Some : goal.returns-in-Some
returns-in-Some c =
    sym (begins_known c.args.known.now (lent_head c.args.head.now) c.in-Some.one.now c.in-Some.ensures.some)

pub returns-in-None : goal.returns-in-None
returns-in-None c = sym (begins_unknown c.args.known.now (lent_head c.args.head.now) c.in-None.ensures.none)
