use Rattle.chk_book.specs.Views.{end_view}
use Rattle.chk_join_sources.specs.Comparing.{values_between}
use Rattle.chk_join_sources.proofs.PairsCompared.{starts_differ, found_told, found_fault}
use Rattle.chk_join_sources.proofs.Calm.{calm_only, calm_last, calm_cause}
use Rattle.chk_join_sources.proofs.choices.find_difference.Goals as goal

pub returns-then-a-b-clause-raw : goal.returns-then-a-b-clause-raw
returns-then-a-b-clause-raw g c most all held few settled lefts rights true_ones =
    let l = c.args.left.now in
    let r = c.args.right.now in
    starts_differ all l r held c.args.readers.now (end_view c.args.a.now) (end_view c.args.b.now)
    (values_between l held c.args.first.first c.args.first.end) (values_between r held c.args.second.first c.args.second.end)
    c.lesser.result (g.S.Site.told c.args.site.now) c.if-a-b.true c.lesser.ensures

pub returns-in-Ok-clause-raw : goal.returns-in-Ok-clause-raw
returns-in-Ok-clause-raw g c most all held few settled lefts rights true_ones =
    let l = c.args.left.now in
    let r = c.args.right.now in
    found_told all l r held c.compare_blocks.new.readers (end_view c.args.a.now) (end_view c.args.b.now)
    (values_between l held c.args.first.first c.args.first.end) (values_between r held c.args.second.first c.args.second.end)
    c.in-Ok.same c.place_of.result c.if-a-b.false c.place_of.ensures.ok c.place_of.ensures.err
    (c.in-Ok.ensures.raw most all held few settled lefts rights true_ones)

pub returns-in-Ok-clause-only : goal.returns-in-Ok-clause-only
returns-in-Ok-clause-only g c = calm_only c.place_of.result c.place_of.ensures.err

pub returns-in-Ok-clause-last : goal.returns-in-Ok-clause-last
returns-in-Ok-clause-last g c = calm_last c.place_of.result c.place_of.ensures.err c.in-Ok.ensures.pieces

pub returns-in-Ok-clause-cause : goal.returns-in-Ok-clause-cause
returns-in-Ok-clause-cause g c =
    calm_cause c.place_of.result (g.S.Site.fault_count c.args.site.now) (g.S.Site.fault_count c.compare_blocks.new.site)
    c.place_of.ensures.err c.in-Ok.ensures.cause

pub returns-in-Err-clause-raw : goal.returns-in-Err-clause-raw
returns-in-Err-clause-raw g c most all held few settled lefts rights true_ones =
    let l = c.args.left.now in
    let r = c.args.right.now in
    found_fault all l r held c.compare_blocks.new.readers (end_view c.args.a.now) (end_view c.args.b.now)
    (values_between l held c.args.first.first c.args.first.end) (values_between r held c.args.second.first c.args.second.end)
    c.in-Err.fault (c.in-Err.ensures.raw most all held few settled lefts rights true_ones)
