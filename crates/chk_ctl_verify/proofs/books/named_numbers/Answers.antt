use Rattle.std.proofs.Common.{◌≡◌, ◌∙◌, ℕ, ◌+◌, ◌<◌, List, [], ◌∷◌, ◌++◌, length, map, take, get_or}
use Rattle.std.proofs.Common.{ap, sym, refl}
use Rattle.std.proofs.lemmas.List.{take_all, take_more}
use Rattle.chk_book.specs.Views.{segment_view}
use Rattle.chk_book.specs.declared.lists.Segment.{Segment}
use Rattle.chk_ctl_verify.proofs.books.named_numbers.Goals as goal

abbrev numbers : List Segment → List ℕ
numbers xs = map (λ g. g.number) (map segment_view xs)

numbers_join : (xs ys : List Segment) → numbers (xs ++ ys) ≡ numbers xs ++ numbers ys
numbers_join [] ys = refl
numbers_join (x ∷ xs) ys = ap (λ (ns : List ℕ). x.number ∷ ns) (numbers_join xs ys)

one_more : (xs : List Segment) (i : ℕ) (d : Segment) (before after : List ℕ) → i < length xs
    → before ≡ numbers (take i xs) → after ≡ before ++ (get_or xs i d).number ∷ []
    → after ≡ numbers (take (i + 1) xs)
one_more xs i d before after low so push =
    push ∙ (ap (λ (ns : List ℕ). ns ++ (get_or xs i d).number ∷ []) so
    ∙ (sym (numbers_join (take i xs) (get_or xs i d ∷ []))
    ∙ ap numbers (sym (take_more xs i d low))))

pub loop-segment-preserved : goal.loop-segment-preserved
loop-segment-preserved c =
    let l = c.loop-segment in
    one_more c.args.segments.now l.segment-index _ l.numbers.items c.push.new.self.items
    c.loop-segment-test.true l.invariant c.in_ok-push.ensures.items

pub returns : goal.returns
returns c =
    let l = c.loop-segment in
    l.invariant
    ∙ ap numbers (take_all l.segment-index c.args.segments.now c.loop-segment-test.false)
