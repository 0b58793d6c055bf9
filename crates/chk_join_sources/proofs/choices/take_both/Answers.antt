use Rattle.std.proofs.Common.{Err, map, subst, ap₂}
use Rattle.std.specs.Prelude.{IfOk, IfNone}
use Rattle.chk_book.specs.Views.{end_view}
use Rattle.chk_record_reader.specs.OnePass.{end_at}
use Rattle.chk_join_sources.specs.Comparing.{values_between}
use Rattle.chk_join_sources.specs.Pairs.{paired}
use Rattle.chk_join_sources.specs.Plans.{HasTakenPair}
use Rattle.chk_record_reader.proofs.OnePass.{end_there}
use Rattle.chk_join_sources.proofs.BlockBytes.{block_bytes, is_block}
use Rattle.chk_join_sources.proofs.Longer.{took_pair}
use Rattle.chk_join_sources.proofs.PairsCompared.{pair_told, pair_fault, as_ends}
use Rattle.chk_join_sources.proofs.Calm.{calm_only, calm_last, calm_cause}
use Rattle.chk_join_sources.proofs.choices.take_both.Goals as goal

pub returns-in-Ok-clause-raw : goal.returns-in-Ok-clause-raw
returns-in-Ok-clause-raw g c most all held few settled lefts rights true_ones =
    let l = c.args.left.now in
    let r = c.args.right.now in
    let a = c.index-lefts-at in
    let b = c.index-rights-at in
    let x = c.block_of-first in
    let y = c.block_of-second in
    let rs = c.find_difference.new.readers in
    as_ends all l r held rs (end_view a.result) (end_view b.result) (end_at (map end_view c.args.lefts.now) c.args.at.now.left)
    (end_at (map end_view c.args.rights.now) c.args.at.now.right) c.pass_both.result
    (end_there c.args.lefts.now c.args.at.now.left a.result c.requires.lefts a.is)
    (end_there c.args.rights.now c.args.at.now.right b.result c.requires.rights b.is)
    (pair_told all l r held rs (end_view a.result) (end_view b.result)
    (values_between l held x.result.first x.result.end) (values_between r held y.result.first y.result.end)
    (block_bytes l held (end_view a.result).stream x.result lefts.rise
    (is_block l.heads.now (end_view a.result).stream x.result x.ensures.within x.ensures.all x.ensures.holds))
    (block_bytes r held (end_view b.result).stream y.result rights.rise
    (is_block r.heads.now (end_view b.result).stream y.result y.ensures.within y.ensures.all y.ensures.holds))
    c.in-Ok.found c.pass_both.result c.pass_both.ensures.ok c.pass_both.ensures.err
    (c.in-Ok.ensures.raw most all held few settled lefts.side rights.side true_ones))

pub returns-in-Ok-clause-taken : goal.returns-in-Ok-clause-taken
returns-in-Ok-clause-taken g c =
    let hs = c.args.left.now.heads.now in
    let js = c.args.right.now.heads.now in
    let a = c.index-lefts-at in
    let b = c.index-rights-at in
    let x = c.block_of-first in
    let y = c.block_of-second in
    let plan = c.pass_both.new.plan in
    subst (λ p. IfOk c.pass_both.result (λ found. IfNone found (HasTakenPair hs js p c.args.plan.now plan)))
    (ap₂ paired (end_there c.args.lefts.now c.args.at.now.left a.result c.requires.lefts a.is)
    (end_there c.args.rights.now c.args.at.now.right b.result c.requires.rights b.is))
    (took_pair c.pass_both.result hs js (end_view a.result) (end_view b.result) x.result y.result c.args.plan.now plan
    (is_block hs (end_view a.result).stream x.result x.ensures.within x.ensures.all x.ensures.holds)
    (is_block js (end_view b.result).stream y.result y.ensures.within y.ensures.all y.ensures.holds)
    c.pass_both.ensures.left c.pass_both.ensures.right)

pub returns-in-Ok-clause-only : goal.returns-in-Ok-clause-only
returns-in-Ok-clause-only g c = calm_only c.pass_both.result c.pass_both.ensures.err

pub returns-in-Ok-clause-last : goal.returns-in-Ok-clause-last
returns-in-Ok-clause-last g c = calm_last c.pass_both.result c.pass_both.ensures.err c.in-Ok.ensures.pieces

pub returns-in-Ok-clause-cause : goal.returns-in-Ok-clause-cause
returns-in-Ok-clause-cause g c =
    calm_cause c.pass_both.result (g.S.Site.fault_count c.args.site.now) (g.S.Site.fault_count c.find_difference.new.site)
    c.pass_both.ensures.err c.in-Ok.ensures.cause

pub returns-in-Err-clause-raw : goal.returns-in-Err-clause-raw
returns-in-Err-clause-raw g c most all held few settled lefts rights true_ones =
    let l = c.args.left.now in
    let r = c.args.right.now in
    let a = c.index-lefts-at in
    let b = c.index-rights-at in
    let x = c.block_of-first in
    let y = c.block_of-second in
    let rs = c.find_difference.new.readers in
    as_ends all l r held rs (end_view a.result) (end_view b.result) (end_at (map end_view c.args.lefts.now) c.args.at.now.left)
    (end_at (map end_view c.args.rights.now) c.args.at.now.right) (Err c.in-Err.fault)
    (end_there c.args.lefts.now c.args.at.now.left a.result c.requires.lefts a.is)
    (end_there c.args.rights.now c.args.at.now.right b.result c.requires.rights b.is)
    (pair_fault all l r held rs (end_view a.result) (end_view b.result)
    (values_between l held x.result.first x.result.end) (values_between r held y.result.first y.result.end)
    (block_bytes l held (end_view a.result).stream x.result lefts.rise
    (is_block l.heads.now (end_view a.result).stream x.result x.ensures.within x.ensures.all x.ensures.holds))
    (block_bytes r held (end_view b.result).stream y.result rights.rise
    (is_block r.heads.now (end_view b.result).stream y.result y.ensures.within y.ensures.all y.ensures.holds))
    c.in-Err.fault (c.in-Err.ensures.raw most all held few settled lefts.side rights.side true_ones))
