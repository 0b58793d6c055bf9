use Rattle.std.proofs.Common.{◌≡◌, ◌+◌, List, length, sym, ◌∙◌, ap, subst, arith}
use Rattle.chk_chunk.specs.Keys.{stream_lt}
use Rattle.chk_book.specs.declared.lists.End.{End as EndStruct}
use Rattle.chk_book.specs.Views.{end_view}
use Rattle.chk_book.specs.Raising.{ArePassed, AreUpTo}
use Rattle.chk_book.proofs.EndPlaces.{none_passed, passed_from}
use Rattle.chk_book.proofs.lists.Ends.begin_for.Goals as goal

pub returns-then-is_before : goal.returns-then-is_before
returns-then-is_before c =
    let d = end_view c.args.end.now in
    let xs = c.self.inside.items.items in
    let near = c.args.near in
    let size : c.len.result ≡ length xs = c.len.ensures ∙ c.self.inside.items.ok.0 in
    let below = c.if-near-len.true in
    let before = ap (λ (z : EndStruct). stream_lt (end_view z).stream d.stream) (sym c.index.ensures) ∙ (sym c.is_before.ensures ∙ c.if-is_before.true) in
    subst (λ (t : List EndStruct). ArePassed d t (near + 1)) c.self.view_is
    (passed_from d xs near c.index.result.now (omega (arith, size, below)) before
    (subst (λ (t : List EndStruct). AreUpTo t near) (sym c.self.view_is) c.requires))

pub returns-else-near-len : goal.returns-else-near-len
returns-else-near-len c = none_passed (end_view c.args.end.now) c.args.self.now
