use Rattle.std.proofs.Common.{sym}
use Rattle.chk_record_index.specs.Heads.{Head}
use Rattle.chk_record_index.specs.Order.{lent_head}
use Rattle.chk_archive_plan.proofs.KnownSearch.{starts_known, starts_unknown}
use Rattle.chk_archive_plan.proofs.starts.known_start.Goals as goal

pub returns-in-Some : goal.returns-in-Some
returns-in-Some c =
    let h : Head = lent_head c.args.head.now in
    sym (starts_known h.key.start c.args.known.now h.key.stream c.in-Some.one.now c.in-Some.ensures.some)

pub returns-in-None : goal.returns-in-None
returns-in-None c =
    let h : Head = lent_head c.args.head.now in
    sym (starts_unknown h.key.start c.args.known.now h.key.stream c.in-None.ensures.none)
