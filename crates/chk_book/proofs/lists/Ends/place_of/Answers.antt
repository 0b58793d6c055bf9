use Rattle.std.proofs.Common.{◌≡◌, ◌<◌, ℕ, List, length, map, sym, ◌∙◌, ap, subst, arith}
use Rattle.chk_book.specs.declared.lists.End.{End as EndStruct}
use Rattle.chk_book.specs.Views.{end_view}
use Rattle.chk_book.specs.Raising.{IsPlaceOf, ArePassed, goes_by}
use Rattle.chk_book.proofs.EndPlaces.{stops_here, stops_last, gone_to, one_more_passed}
use Rattle.chk_book.proofs.lists.Ends.place_of.Goals as goal

pub loop-at-init : goal.loop-at-init
loop-at-init c = subst (λ (t : List EndStruct). ArePassed (end_view c.args.end.now) t c.args.from) (sym c.self.view_is) c.requires

pub returns-then-not-is_passed : goal.returns-then-not-is_passed
returns-then-not-is_passed c =
    let d = end_view c.args.end.now in
    let xs = c.self.inside.items.items in
    let at = c.loop-at.at in
    let low : at < length xs = subst (λ (n : ℕ). at < n) (c.len-at-end.ensures ∙ c.self.inside.items.ok.0) c.loop-at-test.true in
    let stop = ap (λ (z : EndStruct). goes_by d (end_view z)) (sym c.index.ensures) ∙ (sym c.is_passed.ensures ∙ c.if-not-is_passed.true) in
    record {
      place = subst (λ (t : List EndStruct). IsPlaceOf d (map end_view t) at) c.self.view_is
          (stops_here d xs at c.index.result.now low stop (gone_to d xs at c.loop-at.invariant));
      passed = subst (λ (t : List EndStruct). ArePassed d t at) c.self.view_is c.loop-at.invariant;
    }

pub loop-at-preserved : goal.loop-at-preserved
loop-at-preserved c =
    let d = end_view c.args.end.now in
    let xs = c.self.inside.items.items in
    let at = c.loop-at.at in
    let low : at < length xs = subst (λ (n : ℕ). at < n) (c.len-at-end.ensures ∙ c.self.inside.items.ok.0) c.loop-at-test.true in
    let by = ap (λ (z : EndStruct). goes_by d (end_view z)) (sym c.index.ensures) ∙ (sym c.is_passed.ensures ∙ c.if-not-is_passed.false) in
    one_more_passed d xs at c.index.result.now low by c.loop-at.invariant

pub returns : goal.returns
returns c =
    let d = end_view c.args.end.now in
    let xs = c.self.inside.items.items in
    let at = c.loop-at.at in
    let size = c.len-at-end.ensures ∙ c.self.inside.items.ok.0 in
    let past = c.loop-at-test.false in
    let most = c.loop-at.invariant.within in
    let count = c.len.ensures ∙ c.self.inside.items.ok.0 in
    let last : at ≡ length xs = omega (arith, size, past, most) in
    let end : at ≡ c.len.result = omega (arith, size, past, most, count) in
    record {
      place = subst (λ (n : ℕ). IsPlaceOf d (map end_view c.args.self.now) n) end
          (subst (λ (t : List EndStruct). IsPlaceOf d (map end_view t) at) c.self.view_is
          (stops_last d xs at last (gone_to d xs at c.loop-at.invariant)));
      passed = subst (λ (n : ℕ). ArePassed d c.args.self.now n) end
          (subst (λ (t : List EndStruct). ArePassed d t at) c.self.view_is c.loop-at.invariant);
    }
