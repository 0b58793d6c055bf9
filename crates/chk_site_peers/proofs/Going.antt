-- Peers that go.
use Rattle.std.proofs.Common.{◌≡◌, ℕ, zero, suc, ◌+◌, ◌<◌, ◌≤◌, Bool, true, false, not, cond, List, [], ◌∷◌, ◌++◌, Option, Some, None, length, get_or, take_all, refl, sym, subst, ap, ap₂, ◌∙◌, arith}
use Rattle.std.specs.Prelude.{if◌then◌else◌, nat_lt, position, remove}
use Rattle.std.specs.List.{position_or_len}
use Rattle.std.proofs.lemmas.Bool.{ltb-false}
use Rattle.std.proofs.lemmas.List.{append-nil, drop_all}
use Rattle.std.proofs.lemmas.List.Quantifiers.{position-Some}
use Rattle.chk_site_peers.specs.declared.stages.Stage.{Stage}
use Rattle.chk_site_peers.specs.declared.stages.Stage.TheVariants.{Gone}
use Rattle.chk_site_peers.specs.Stages.{ended_at, first_or, gone_at, leaving, silent_at}
use Rattle.chk_site_peers.specs.Held.{callers_left, stages_left}

below_none : (n : ℕ) → n < 0 → ⊥
below_none n lt = omega (arith, lt)

-- nothing is taken out behind the end
pub remove_past : {X : Type 0} (items : List X) (place : ℕ) → length items ≤ place
    → remove items place ≡ items
remove_past items place le =
    ap₂ (λ a b. a ++ b) (take_all place items le) (drop_all (suc place) items (omega (arith, le)))
    ∙ append-nil items

-- without one that is gone the same stay
pub gone_left : (stages : List Stage) (place : ℕ) → place < length stages
    → gone_at (get_or stages place Gone) ≡ true → stages_left (remove stages place) ≡ stages_left stages
gone_left [] place lt gone = absurd (below_none place lt)
gone_left (s ∷ stages) zero lt gone =
    sym (ap (λ b. cond (not b) (s ∷ stages_left stages) (stages_left stages)) gone)
gone_left (s ∷ stages) (suc place) lt gone =
    ap (λ rest. cond (not (gone_at s)) (s ∷ rest) rest) (gone_left stages place (omega (arith, lt)) gone)

pub gone_caller : {X : Type 0} (callers : List X) (stages : List Stage) (place : ℕ) → place < length stages
    → gone_at (get_or stages place Gone) ≡ true
    → callers_left (remove callers place) (remove stages place) ≡ callers_left callers stages
gone_caller callers [] place lt gone = absurd (below_none place lt)
gone_caller [] (s ∷ stages) zero lt gone = refl
gone_caller [] (s ∷ stages) (suc place) lt gone = refl
gone_caller (c ∷ callers) (s ∷ stages) zero lt gone =
    sym (ap (λ b. if b then callers_left callers stages else c ∷ callers_left callers stages) gone)
gone_caller (c ∷ callers) (s ∷ stages) (suc place) lt gone =
    ap (λ rest. if gone_at s then rest else c ∷ rest)
    (gone_caller callers stages place (omega (arith, lt)) gone)

no_place : (at size : ℕ) → cond (nat_lt at size) (Some at) None ≡ None → size ≤ at
no_place at size none = go (nat_lt at size) refl
  where
    go : (b : Bool) → nat_lt at size ≡ b → size ≤ at
    go true e = absurd (some_none (subst (λ b. cond b (Some at) None ≡ None) e none))
      where
        some_none : Some at ≡ None → ⊥
        some_none h = cc
    go false e = ltb-false at size e

pub none_gone : (stages : List Stage) → position gone_at stages ≡ None
    → length stages ≤ position_or_len gone_at stages
none_gone stages none = no_place (position_or_len gone_at stages) (length stages) none

-- where none is gone all stay
pub all_left : (stages : List Stage) → length stages ≤ position_or_len gone_at stages
    → stages_left stages ≡ stages
all_left [] all = refl
all_left (s ∷ stages) all = go (gone_at s) refl (λ rest. all_left stages rest)
  where
    go : (b : Bool) → gone_at s ≡ b
        → (length stages ≤ position_or_len gone_at stages → stages_left stages ≡ stages)
        → stages_left (s ∷ stages) ≡ s ∷ stages
    go true e more =
        let few : suc (length stages) ≤ 0 = subst (λ b. suc (length stages) ≤ cond (not b) (1 + position_or_len gone_at stages) 0) e all in
        absurd (below_none (length stages) few)
    go false e more =
        let rest : suc (length stages) ≤ 1 + position_or_len gone_at stages = subst (λ b. suc (length stages) ≤ cond (not b) (1 + position_or_len gone_at stages) 0) e all in
        ap (λ b. cond (not b) (s ∷ stages_left stages) (stages_left stages)) e
        ∙ ap (λ left. s ∷ left) (more (omega (arith, rest)))

pub all_callers : {X : Type 0} (callers : List X) (stages : List Stage)
    → length stages ≤ position_or_len gone_at stages → callers_left callers stages ≡ callers
all_callers [] stages all = refl
all_callers (c ∷ callers) [] all = refl
all_callers (c ∷ callers) (s ∷ stages) all = go (gone_at s) refl (λ rest. all_callers callers stages rest)
  where
    go : (b : Bool) → gone_at s ≡ b
        → (length stages ≤ position_or_len gone_at stages → callers_left callers stages ≡ callers)
        → callers_left (c ∷ callers) (s ∷ stages) ≡ c ∷ callers
    go true e more =
        let few : suc (length stages) ≤ 0 = subst (λ b. suc (length stages) ≤ cond (not b) (1 + position_or_len gone_at stages) 0) e all in
        absurd (below_none (length stages) few)
    go false e more =
        let rest : suc (length stages) ≤ 1 + position_or_len gone_at stages = subst (λ b. suc (length stages) ≤ cond (not b) (1 + position_or_len gone_at stages) 0) e all in
        ap (λ b. if b then callers_left callers stages else c ∷ callers_left callers stages) e
        ∙ ap (λ left. c ∷ left) (more (omega (arith, rest)))

-- who goes is there
pub leaving_within : (stages : List Stage) (place : ℕ) → leaving stages ≡ Some place → place < length stages
leaving_within stages place goes = go (position silent_at stages) refl
  where
    go : (first : Option ℕ) → position silent_at stages ≡ first → place < length stages
    go (Some at) e =
        let one : position silent_at stages ≡ Some place = e ∙ subst (λ o. first_or o (position ended_at stages) ≡ Some place) e goes in
        (position-Some silent_at stages place Gone one).0
    go None e =
        let one : position ended_at stages ≡ Some place = subst (λ o. first_or o (position ended_at stages) ≡ Some place) e goes in
        (position-Some ended_at stages place Gone one).0

-- one more that is gone is taken out
pub swept_more : {X : Type 0} (stages new_stages left : List Stage) (callers new_callers stay : List X) (place : ℕ)
    → position gone_at stages ≡ Some place → new_stages ≡ remove stages place
    → (place < length stages → new_callers ≡ remove callers place)
    → (stages_left stages ≡ left) × (callers_left callers stages ≡ stay)
    → (stages_left new_stages ≡ left) × (callers_left new_callers new_stages ≡ stay)
swept_more stages new_stages left callers new_callers stay place gone out_stages out_callers so_far =
    let p = position-Some gone_at stages place Gone gone in (
      ap stages_left out_stages ∙ (gone_left stages place p.0 p.1 ∙ so_far.0),
      ap₂ callers_left (out_callers p.0) out_stages ∙ (gone_caller callers stages place p.0 p.1 ∙ so_far.1),
    )

no_some : (found : Option ℕ) → ((n : ℕ) → found ≡ Some n → ⊥) → found ≡ None
no_some None h = refl
no_some (Some n) h = absurd (h n refl)

-- none is gone any more
pub swept_all : {X : Type 0} (stages left : List Stage) (callers stay : List X) (found : Option ℕ)
    → found ≡ position gone_at stages → ((n : ℕ) → found ≡ Some n → ⊥)
    → (stages_left stages ≡ left) × (callers_left callers stages ≡ stay) → (stages ≡ left) × (callers ≡ stay)
swept_all stages left callers stay found is none so_far =
    let all = none_gone stages (sym is ∙ no_some found none) in (
      sym (all_left stages all) ∙ so_far.0,
      sym (all_callers callers stages all) ∙ so_far.1,
    )
