use Rattle.std.proofs.Common.{refl, subst, sym}
use Rattle.std.specs.Prelude.{Contains}
use Rattle.std.proofs.lemmas.List.{take_all}
use Rattle.chk_book.specs.Folders.{segment_stem}
use Rattle.chk_book.specs.Books.{book_view}
use Rattle.chk_join.specs.Names.{segment_number, unnamed_only}
use Rattle.chk_join.proofs.StraysGone.{each_found}
use Rattle.chk_join.proofs.names.strays.Goals as goal

pub loop-name-preserved : goal.loop-name-preserved
loop-name-preserved c =
    let l = c.loop-name in
    let b = book_view c.args.book.now in
    let name = c.as_str.result.now in
    let both =
    each_found b c.args.names.now l.strays.items l.name-index c.name-item.result name c.loop-name-test.true c.name-item.is
    c.as_str.ensures.text l.invariant.all c.add_stray.new.strays.items (unnamed_only b (segment_number name)) refl c.in_ok-add_stray.ensures l.invariant.each in
    record { each = both.0; all = both.1 }

pub returns-clause-all : goal.returns-clause-all
returns-clause-all c k stray one =
    c.loop-name.invariant.all k stray
    (subst (λ l. Contains l (segment_stem k)) (sym (take_all c.loop-name.name-index c.args.names.now c.loop-name-test.false)) one)
