-- What is got follows the outside's rules.
use Rattle.std.proofs.Common.{◌≡◌, inl, inr, ℕ, Bool, true, false, List, [], ◌∷◌, Option, Some, None, refl, sym, ◌∙◌, ap, subst}
use Rattle.std.specs.Prelude.{◌||◌, if◌then◌else◌, MatchBool}
use Rattle.std.specs.List.{list_any}
use Rattle.std.proofs.lemmas.List.{append-nil}
use Rattle.chk_site.specs.Honest.{FrontOfSome, WholeOfSure, GotAnswer, is_sure}
use Rattle.chk_site.specs.Messages.{Reply}
use Rattle.chk_site_mem_calls.specs.Replies.{older_of, oldest_where, first_found, got_of}

-- what was found is the whole of a sure answer, and where nothing was there is none
abbrev WasSure : List Reply → Option (List ℕ) → Type 0
WasSure rs None = list_any is_sure rs ≡ false
WasSure rs (Some bytes) = (list_any is_sure rs ≡ true) × WholeOfSure rs bytes

was_sure : (rs : List Reply) → WasSure rs (oldest_where is_sure rs)
was_sure [] = refl
was_sure (r ∷ rs) = by (is_sure r) refl (oldest_where is_sure rs) (was_sure rs)
  where
    or_true : (b : Bool) → (b || true) ≡ true
    or_true true = refl
    or_true false = refl

    by : (sure : Bool) → is_sure r ≡ sure → (found : Option (List ℕ)) → WasSure rs found → WasSure (r ∷ rs) (older_of is_sure found (Some r))
    by sure e (Some bytes) h = (ap (λ (b : Bool). is_sure r || b) h.0 ∙ or_true (is_sure r), inr h.1)
    by true e None h =
        subst (λ (b : Bool). WasSure (r ∷ rs) (if b then Some r.bytes else None)) (sym e)
        (ap (λ (b : Bool). b || list_any is_sure rs) e, inl (e, refl))
    by false e None h =
        subst (λ (b : Bool). WasSure (r ∷ rs) (if b then Some r.bytes else None)) (sym e)
        (ap (λ (b : Bool). b || list_any is_sure rs) e ∙ h)

empty_front : (rs : List Reply) → FrontOfSome rs []
empty_front [] = refl
empty_front (r ∷ rs) = inl (r.bytes, refl)

-- what was found is a front of some answer
abbrev IsFront : List Reply → Option (List ℕ) → Type 0
IsFront rs None = Unit {0}
IsFront rs (Some bytes) = FrontOfSome rs bytes

was_done : (rs : List Reply) → IsFront rs (oldest_where (λ r. r.done) rs)
was_done [] = tt
was_done (r ∷ rs) = by (oldest_where (λ r. r.done) rs) (was_done rs)
  where
    alike : (b : Bool) → IsFront (r ∷ rs) (if b then Some r.bytes else None)
    alike true = inl ([], sym (append-nil r.bytes))
    alike false = tt

    by : (found : Option (List ℕ)) → IsFront rs found → IsFront (r ∷ rs) (older_of (λ r. r.done) found (Some r))
    by (Some bytes) h = inr h
    by None h = alike r.done

pub got_answers : (rs : List Reply) → GotAnswer rs (got_of rs)
got_answers rs = by (list_any is_sure rs) refl (oldest_where is_sure rs) (was_sure rs) (oldest_where (λ r. r.done) rs) (was_done rs)
  where
    by : (any : Bool) → list_any is_sure rs ≡ any → (sure : Option (List ℕ)) → WasSure rs sure → (found : Option (List ℕ)) → IsFront rs found
        → MatchBool any (WholeOfSure rs (first_found sure found)) (FrontOfSome rs (first_found sure found))
    by any e (Some bytes) s found d = subst (λ (b : Bool). MatchBool b (WholeOfSure rs bytes) (FrontOfSome rs bytes)) (sym s.0 ∙ e) s.1
    by any e None s (Some bytes) d = subst (λ (b : Bool). MatchBool b (WholeOfSure rs bytes) (FrontOfSome rs bytes)) (sym s ∙ e) d
    by any e None s None d = subst (λ (b : Bool). MatchBool b (WholeOfSure rs []) (FrontOfSome rs [])) (sym s ∙ e) (empty_front rs)
