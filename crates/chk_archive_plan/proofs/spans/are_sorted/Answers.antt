use Rattle.std.proofs.Common.{rules, ◌≡◌, Bool, not, sym, subst}
use Rattle.std.specs.List.{IsAllAdjacentAnswer}
use Rattle.std.proofs.lemmas.Bool.{not-true}
use Rattle.std.proofs.lemmas.Fn.{always_returns_same}
use Rattle.chk_archive_plan.specs.declared.spans.Known.{Known}
use Rattle.chk_archive_plan.proofs.KnownSearch.{known_lt}
use Rattle.chk_archive_plan.proofs.spans.are_sorted.Goals as goal

pub returns : goal.returns
returns c = λ yes.
    let ks = c.args.known.now in
    let test : Known → Known → Bool = λ k l. not (known_lt l k) in
    let all = c.is_sorted_by.ensures.cases test
    (always_returns_same _ (λ a r. r ≡ test a.0.now a.1.0.now) _ (λ a r f k. search rules)) in
    let each = subst (λ (b : Bool). IsAllAdjacentAnswer (λ k l b. b ≡ test k l) ks b) yes all in
    λ k d low high. not-true _ (sym (each k d high))
