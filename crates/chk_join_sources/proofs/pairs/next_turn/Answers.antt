use Rattle.std.proofs.Common.{◌∙◌, [], ◌∷◌, map, ap₂, sym, arith}
use Rattle.std.proofs.lemmas.List.{drop_all, length-map}
use Rattle.chk_world.specs.Books.{End}
use Rattle.chk_book.specs.Views.{end_view}
use Rattle.chk_join_sources.specs.Pairs.{turn_of}
use Rattle.chk_join_sources.proofs.NextPairs.{at_place}
use Rattle.chk_record_reader.proofs.OnePass.{end_there}
use Rattle.chk_join_sources.proofs.pairs.next_turn.Goals as goal

pub returns-then-right-rights-clause-is : goal.returns-then-right-rights-clause-is
returns-then-right-rights-clause-is c =
    let ls = map end_view c.args.lefts.now in
    let rs = map end_view c.args.rights.now in
    let lefts = length-map c.args.lefts.now end_view in
    let rights = length-map c.args.rights.now end_view in
    let below = c.if-left-lefts.false in
    let past = c.if-right-rights.true in
    sym (ap₂ turn_of (at_place ls c.args.left (omega (arith, below, lefts))) (drop_all c.args.right rs (omega (arith, past, rights))))

pub returns-clause-is : goal.returns-clause-is
returns-clause-is c =
    let ls = map end_view c.args.lefts.now in
    let rs = map end_view c.args.rights.now in
    let lefts = length-map c.args.lefts.now end_view in
    let rights = length-map c.args.rights.now end_view in
    let below = c.if-left-lefts.false in
    let within = c.if-right-rights.false in
    let a = c.index-lefts-left in
    let b = c.index-rights-right in
    c.turn_between.ensures
    ∙ (ap₂ (λ (x y : End). turn_of (x ∷ []) (y ∷ [])) (end_there c.args.lefts.now c.args.left a.result below a.is)
    (end_there c.args.rights.now c.args.right b.result within b.is)
    ∙ sym (ap₂ turn_of (at_place ls c.args.left (omega (arith, below, lefts))) (at_place rs c.args.right (omega (arith, within, rights)))))
