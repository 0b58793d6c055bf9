use Rattle.std.proofs.Common.{subst}
use Rattle.chk_world.specs.Books.{End}
use Rattle.chk_book.specs.Views.{end_view}
use Rattle.chk_join_sources.specs.Plans.{HasTakenBlock}
use Rattle.chk_record_reader.proofs.OnePass.{end_there}
use Rattle.chk_join_sources.proofs.BlockBytes.{is_block}
use Rattle.chk_join_sources.proofs.choices.take_alone.Goals as goal

pub returns-clause-taken : goal.returns-clause-taken
returns-clause-taken c =
    let a = c.index-ends-at in
    let x = c.block_of-block in
    subst (λ (e : End). HasTakenBlock c.args.heads.now e c.args.from_right c.args.plan.now c.take.new.self)
    (end_there c.args.ends.now c.args.at.now a.result c.requires a.is) (
      x.result,
      is_block c.args.heads.now (end_view a.result).stream x.result x.ensures.within x.ensures.all x.ensures.holds,
      c.in_ok-take.ensures,
    )
