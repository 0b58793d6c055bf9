-- A round that names no sink under writing has counted none.
use Rattle.std.proofs.Common.{◌≡◌, ℕ, Bool, true, false, List, [], ◌∷◌, Some, None, ap, sym, ◌∙◌, refl, arith, cond}
use Rattle.std.specs.Prelude.{codes, count_by, find}
use Rattle.std.proofs.lemmas.List.Sums.{sum_by-cons}
use Rattle.std.proofs.lemmas.Option.{none-some}
use Rattle.chk_site.specs.History.{History}
use Rattle.chk_world.specs.ArchiveRuns.{is_unclosed}
use Rattle.chk_round.specs.declared.whole_round.Rounded.{Rounded}
use Rattle.chk_round.specs.Rounds.{RoundDone}

-- where none is found, none is counted
none_counted : (names : List (List ℕ)) → find is_unclosed names ≡ None → count_by is_unclosed names ≡ 0
none_counted [] e = refl
none_counted (n ∷ ns) e = go (is_unclosed n) refl e (none_counted ns)
  where
    go : (b : Bool) → is_unclosed n ≡ b → cond b (Some n) (find is_unclosed ns) ≡ None
        → (find is_unclosed ns ≡ None → count_by is_unclosed ns ≡ 0) → count_by is_unclosed (n ∷ ns) ≡ 0
    go true is e rest = absurd (none-some n (sym e))
    go false is e rest =
        let first = sum_by-cons (λ x. cond {A = ℕ} (is_unclosed x) 1 0) n ns in
        let here : cond {A = ℕ} (is_unclosed n) 1 0 ≡ 0 = ap (λ b. cond {A = ℕ} b 1 0) is in
        let none = rest e in
        omega (arith, first, here, none)

pub none_unclosed : (source : List ℕ) (r : Rounded) (added history : History)
    → RoundDone (codes "c1") source r.agent r.report added history
    → r.report.first_unclosed ≡ None → r.report.unclosed ≡ 0
none_unclosed source r added history done none =
    let run = done.report.1 in
    run.ran.unclosed_is ∙ none_counted run.listing.names (sym run.first ∙ none)
