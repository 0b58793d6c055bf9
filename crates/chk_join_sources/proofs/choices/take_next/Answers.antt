use Rattle.std.proofs.Common.{◌∙◌, ◌+◌, map, refl, sym}
use Rattle.chk_site.specs.History.{Every}
use Rattle.chk_site.proofs.Runs.{adds_none}
use Rattle.chk_record_index.specs.Pieces.{AsksInPieces}
use Rattle.chk_book.specs.Views.{end_view}
use Rattle.chk_record_reader.specs.OnePass.{end_at}
use Rattle.chk_join_sources.specs.Pairs.{left_alone, right_alone, paired, pairs_left}
use Rattle.chk_join_sources.proofs.NextPairs.{past, left_passed, right_passed, both_passed, left_if, right_if, both_if}
use Rattle.chk_join_sources.proofs.PairsCompared.{alone_compared, first_compared}
use Rattle.chk_join_sources.proofs.Longer.{in_ends, up_to_ends}
use Rattle.chk_join_sources.proofs.Calm.{calm_only, calm_last, calm_cause}
use Rattle.chk_join_sources.proofs.choices.take_next.Goals as goal

pub returns-in-Left-clause-raw : goal.returns-in-Left-clause-raw
returns-in-Left-clause-raw g c most all held few settled lefts rights true_ones =
    let ls = map end_view c.args.lefts.now in
    let rs = map end_view c.args.rights.now in
    let at = c.args.at.now in
    let turn = sym c.in-Left.is ∙ c.next_turn.ensures.is in
    let low = c.next_turn.ensures.left c.in-Left.is in
    let next = past at (at.left + 1) at.right in
    alone_compared all c.args.left.now c.args.right.now held c.args.readers.now (left_alone (end_at ls at.left)) (pairs_left ls rs at)
    (pairs_left ls rs next) c.take_alone.result
    (left_passed ls rs at next (in_ends c.args.lefts.now at.left low) turn refl refl)
    true_ones tt c.take_alone.ensures.none c.take_alone.ensures.err (g.S.Site.told c.args.site.now)

pub returns-in-Left-clause-passed : goal.returns-in-Left-clause-passed
returns-in-Left-clause-passed g c =
    let ls = map end_view c.args.lefts.now in
    let rs = map end_view c.args.rights.now in
    let at = c.args.at.now in
    let turn = sym c.in-Left.is ∙ c.next_turn.ensures.is in
    let low = c.next_turn.ensures.left c.in-Left.is in
    left_if ls rs at _ c.args.left.now.heads.now c.args.right.now.heads.now c.args.plan.now c.take_alone.new.plan
    c.take_alone.result (in_ends c.args.lefts.now at.left low) (up_to_ends c.args.rights.now at.right c.requires.right) turn refl
    c.take_alone.ensures.taken c.take_alone.ensures.next

pub returns-in-Left-clause-only : goal.returns-in-Left-clause-only
returns-in-Left-clause-only g c = calm_only c.take_alone.result c.take_alone.ensures.err

pub returns-in-Left-clause-last : goal.returns-in-Left-clause-last
returns-in-Left-clause-last g c =
    calm_last c.take_alone.result c.take_alone.ensures.err
    (adds_none (g.S.Site.told c.args.site.now) (Every AsksInPieces) (λ history. tt))

pub returns-in-Left-clause-cause : goal.returns-in-Left-clause-cause
returns-in-Left-clause-cause g c =
    calm_cause c.take_alone.result (g.S.Site.fault_count c.args.site.now) (g.S.Site.fault_count c.args.site.now)
    c.take_alone.ensures.err refl

pub returns-in-Right-clause-raw : goal.returns-in-Right-clause-raw
returns-in-Right-clause-raw g c most all held few settled lefts rights true_ones =
    let ls = map end_view c.args.lefts.now in
    let rs = map end_view c.args.rights.now in
    let at = c.args.at.now in
    let turn = sym c.in-Right.is ∙ c.next_turn.ensures.is in
    let low = c.next_turn.ensures.right c.in-Right.is in
    let next = past at at.left (at.right + 1) in
    alone_compared all c.args.left.now c.args.right.now held c.args.readers.now (right_alone (end_at rs at.right)) (pairs_left ls rs at)
    (pairs_left ls rs next) c.take_alone-in-Right.result
    (right_passed ls rs at next (in_ends c.args.rights.now at.right low) turn refl refl)
    true_ones tt c.take_alone-in-Right.ensures.none c.take_alone-in-Right.ensures.err (g.S.Site.told c.args.site.now)

pub returns-in-Right-clause-passed : goal.returns-in-Right-clause-passed
returns-in-Right-clause-passed g c =
    let ls = map end_view c.args.lefts.now in
    let rs = map end_view c.args.rights.now in
    let at = c.args.at.now in
    let turn = sym c.in-Right.is ∙ c.next_turn.ensures.is in
    let low = c.next_turn.ensures.right c.in-Right.is in
    right_if ls rs at _ c.args.left.now.heads.now c.args.right.now.heads.now c.args.plan.now c.take_alone-in-Right.new.plan
    c.take_alone-in-Right.result (in_ends c.args.rights.now at.right low) (up_to_ends c.args.lefts.now at.left c.requires.left) turn refl
    c.take_alone-in-Right.ensures.taken c.take_alone-in-Right.ensures.next

pub returns-in-Right-clause-only : goal.returns-in-Right-clause-only
returns-in-Right-clause-only g c = calm_only c.take_alone-in-Right.result c.take_alone-in-Right.ensures.err

pub returns-in-Right-clause-last : goal.returns-in-Right-clause-last
returns-in-Right-clause-last g c =
    calm_last c.take_alone-in-Right.result c.take_alone-in-Right.ensures.err
    (adds_none (g.S.Site.told c.args.site.now) (Every AsksInPieces) (λ history. tt))

pub returns-in-Right-clause-cause : goal.returns-in-Right-clause-cause
returns-in-Right-clause-cause g c =
    calm_cause c.take_alone-in-Right.result (g.S.Site.fault_count c.args.site.now) (g.S.Site.fault_count c.args.site.now)
    c.take_alone-in-Right.ensures.err refl

pub returns-in-Both-clause-raw : goal.returns-in-Both-clause-raw
returns-in-Both-clause-raw g c most all held few settled lefts rights true_ones =
    let ls = map end_view c.args.lefts.now in
    let rs = map end_view c.args.rights.now in
    let at = c.args.at.now in
    let turn = sym c.in-Both.is ∙ c.next_turn.ensures.is in
    let low = c.next_turn.ensures.both c.in-Both.is in
    let next = past at (at.left + 1) (at.right + 1) in
    first_compared all c.args.left.now c.args.right.now held c.take_both.new.readers (paired (end_at ls at.left) (end_at rs at.right))
    (pairs_left ls rs at) (pairs_left ls rs next) c.take_both.result
    (both_passed ls rs at next (in_ends c.args.lefts.now at.left low.0) (in_ends c.args.rights.now at.right low.1) turn refl refl)
    (c.take_both.ensures.raw most all held few settled lefts rights true_ones)

pub returns-in-Both-clause-passed : goal.returns-in-Both-clause-passed
returns-in-Both-clause-passed g c =
    let ls = map end_view c.args.lefts.now in
    let rs = map end_view c.args.rights.now in
    let at = c.args.at.now in
    let turn = sym c.in-Both.is ∙ c.next_turn.ensures.is in
    let low = c.next_turn.ensures.both c.in-Both.is in
    both_if ls rs at c.take_both.new.at c.args.left.now.heads.now c.args.right.now.heads.now c.args.plan.now c.take_both.new.plan
    c.take_both.result (in_ends c.args.lefts.now at.left low.0) (in_ends c.args.rights.now at.right low.1) turn
    c.take_both.ensures.taken c.take_both.ensures.next
