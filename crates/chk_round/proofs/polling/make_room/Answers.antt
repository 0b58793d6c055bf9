use Rattle.chk_round.proofs.Sent.{sends_on_none}
use Rattle.chk_round.proofs.Lasting.{went_none}
use Rattle.chk_round.proofs.Acts.{rest_none}
use Rattle.chk_round.proofs.OwnRows.{own_none}
use Rattle.chk_round.proofs.polling.make_room.Goals as goal

pub returns-then-free_rows-gt0-clause-sends : goal.returns-then-free_rows-gt0-clause-sends
returns-then-free_rows-gt0-clause-sends g c = sends_on_none c.args.agent.now (g.S.Site.told c.args.site.now)

pub returns-then-free_rows-gt0-clause-last : goal.returns-then-free_rows-gt0-clause-last
returns-then-free_rows-gt0-clause-last g c = went_none (g.S.Site.told c.args.site.now)

pub returns-then-free_rows-gt0-clause-acts : goal.returns-then-free_rows-gt0-clause-acts
returns-then-free_rows-gt0-clause-acts g c = rest_none (g.S.Site.told c.args.site.now)

pub returns-then-free_rows-gt0-clause-rows : goal.returns-then-free_rows-gt0-clause-rows
returns-then-free_rows-gt0-clause-rows g c = own_none c.args.collector.now c.args.agent.now (g.S.Site.told c.args.site.now)
