use Rattle.chk_salvage.proofs.FeedLemmas.{stepped_after}
use Rattle.chk_salvage.proofs.pieces.Pieces.step.Goals as goal

pub returns-in-Ok-clause-step : goal.returns-in-Ok-clause-step
returns-in-Ok-clause-step c =
    stepped_after c.args.self.now c.header.new.self c.entry.new.self c.entry.result c.in-Ok.ensures.goes
    (stepped_after c.header.new.self c.skip_syncs.new.self c.entry.new.self c.entry.result c.skip_syncs.ensures.goes c.entry.ensures.step)
