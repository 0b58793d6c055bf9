-- The plan so far.
use Rattle.std.proofs.Common.{◌≡◌, ℕ, ◌+◌, List, [], ◌∷◌, ◌++◌, map, ap, sym, ◌∙◌, subst, arith, append_assoc}
use Rattle.std.proofs.lemmas.List.{append-nil}
use Rattle.std.proofs.lemmas.List.Sums.{sum_by-append}
use Rattle.std.specs.Prelude.{sum_by}
use Rattle.chk_world.specs.Books.{End}
use Rattle.chk_record_index.specs.Heads.{Head}
use Rattle.chk_book.specs.Views.{end_view}
use Rattle.chk_join_sources.specs.declared.pairs.Places.{Places}
use Rattle.chk_join_sources.specs.declared.plan.Choice.{Choice}
use Rattle.chk_join_sources.specs.declared.plan.Plan.{Plan}
use Rattle.chk_join_sources.specs.Pairs.{Pair, taken_end, pairs_left}
use Rattle.chk_join_sources.specs.Plans.{size_of, TakesNothing, AreChoicesOf, IsPlanOf, HasPassed}

-- what is taken of these pairs, but for those that are left
pub record IsPlannedUpTo (hs js : List Head) (ps rest : List Pair) (plan : Plan) : Type 0 where
  pub ends : map taken_end ps ≡ map end_view plan.ends ++ map taken_end rest
  pub choices : (cs : List Choice) → AreChoicesOf hs js rest cs → AreChoicesOf hs js ps (plan.choices.items ++ cs)
  pub bytes : plan.bytes ≡ sum_by size_of (map end_view plan.ends)

sum_last : (es : List End) (e : End) → sum_by size_of (es ++ e ∷ []) ≡ sum_by size_of es + size_of e
sum_last es e =
    sum_by-append size_of es (e ∷ [])
    ∙ ap (λ (n : ℕ). sum_by size_of es + n) (let z : 0 + size_of e ≡ size_of e = omega arith in z)

pub planned_none : (hs js : List Head) (ps : List Pair) (plan : Plan) → TakesNothing plan → IsPlannedUpTo hs js ps ps plan
planned_none hs js ps plan none = record {
  ends = sym (ap (λ es. map end_view es ++ map taken_end ps) none.ends);
  choices = λ cs x. subst (λ ds. AreChoicesOf hs js ps (ds ++ cs)) (sym none.choices) x;
  bytes = none.bytes ∙ sym (ap (λ es. sum_by size_of (map end_view es)) none.ends);
}

pub planned_more : (hs js : List Head) (ls rs : List End) (ps : List Pair) (p : Pair) (old new : Places) (before after : Plan)
    → IsPlannedUpTo hs js ps (pairs_left ls rs old) before → HasPassed hs js ls rs p old new before after
    → IsPlannedUpTo hs js ps (pairs_left ls rs new) after
planned_more hs js ls rs ps p old new before after so passed =
    let taken = passed.taken in
    let c = passed.choice in
    let es = map end_view before.ends in
    let rest = pairs_left ls rs new in
    record {
      ends =
          so.ends ∙ (ap (λ l. es ++ map taken_end l) passed.pairs
          ∙ (sym (append_assoc es (taken_end p ∷ []) (map taken_end rest)) ∙ ap (λ l. l ++ map taken_end rest) (sym taken.ends)));
      choices = λ cs x.
          subst (AreChoicesOf hs js ps)
          (sym (append_assoc before.choices.items (c ∷ []) cs) ∙ ap (λ l. l ++ cs) (sym taken.choices))
          (so.choices (c ∷ cs) (subst (λ l. AreChoicesOf hs js l (c ∷ cs)) (sym passed.pairs) (passed.is, x)));
      bytes =
          taken.bytes ∙ (ap (λ (n : ℕ). n + size_of (taken_end p)) so.bytes
          ∙ (sym (sum_last es (taken_end p)) ∙ ap (sum_by size_of) (sym taken.ends)));
    }

pub planned_all : (hs js : List Head) (ps : List Pair) (plan : Plan) → IsPlannedUpTo hs js ps [] plan → IsPlanOf hs js ps plan
planned_all hs js ps plan so =
    let es = map end_view plan.ends in
    let ends : es ≡ map taken_end ps = sym (so.ends ∙ append-nil es) in
    record {
      ends = ends;
      choices = subst (AreChoicesOf hs js ps) (append-nil plan.choices.items) (so.choices [] tt);
      bytes = so.bytes ∙ ap (sum_by size_of) ends;
    }
