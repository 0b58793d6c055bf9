use Rattle.chk_join_sources.proofs.HeadsInOrder.{block_holds}
use Rattle.chk_book.specs.Views.{end_view}
use Rattle.chk_join_sources.proofs.blocks.block_of.Goals as goal

pub returns-clause-holds : goal.returns-clause-holds
returns-clause-holds c rise =
    block_holds c.args.heads.now (end_view c.args.end.now).stream c.place_of-first.result c.past_last-past.result rise
    (c.place_of-first.ensures.is rise) c.past_last-past.ensures.within.0 c.past_last-past.ensures.next
