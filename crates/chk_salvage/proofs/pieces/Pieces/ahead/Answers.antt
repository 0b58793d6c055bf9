use Rattle.std.proofs.Common.{◌≡◌, drop, take, refl, arith, subst, sym, ap, ap₂, ◌∙◌, ◌+◌, ◌-◌, ◌<◌, length}
use Rattle.std.proofs.lemmas.List.{take_rest}
use Rattle.chk_bytes.specs.Laws.{AreBytes}
use Rattle.chk_salvage.specs.Ahead.{HasHead}
use Rattle.chk_salvage.proofs.AheadLemmas.{stands_ahead}
use Rattle.chk_salvage.proofs.pieces.Pieces.ahead.Goals as goal

pub returns-in_err-lengths-clause-none : goal.returns-in_err-lengths-clause-none
returns-in_err-lengths-clause-none c =
    let self = c.args.self.now in
    let rest = take_rest c.deref.result.now self.used ∙ ap (drop self.used) c.deref.ensures.value in
    rw c.from_residual.ensures (λ k v owes. c.in_err-lengths.ensures.none k v (subst (λ b. HasHead b k v) (sym rest) owes.head))

pub returns-clause-some : goal.returns-clause-some
returns-clause-some c =
    let self = c.args.self.now in
    let rest = take_rest c.deref.result.now self.used ∙ ap (drop self.used) c.deref.ensures.value in
    let few = c.if-rest-size.false in
    stands_ahead self _ c.in_ok-lengths.lengths.key c.in_ok-lengths.lengths.value _ c.in-Some.is
    (subst AreBytes rest c.in_ok-lengths.ensures.some.1)
    (subst (λ b. HasHead b c.in_ok-lengths.lengths.key c.in_ok-lengths.lengths.value) rest c.in_ok-lengths.ensures.some.0)
    refl
    (ap₂ (λ n b. take n (drop 12 b)) (let e : 12 + c.in_ok-lengths.lengths.key - 12 ≡ c.in_ok-lengths.lengths.key = omega arith in e) rest)
    refl refl
    (subst (λ b. length b < 16 + c.in_ok-lengths.lengths.key + c.in_ok-lengths.lengths.value) rest few)
    (omega arith) (omega arith)
