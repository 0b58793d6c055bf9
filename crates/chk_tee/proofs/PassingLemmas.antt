-- The chunks that pass.
use Rattle.std.proofs.Common.{◌≡◌, zero, suc, ◌<◌, ◌≤◌, Bool, true, false, List, [], ◌∷◌, ◌++◌, length, refl, sym, ap, ◌∙◌, subst, arith, append_assoc, length-append, append-nil}
use Rattle.std.specs.Prelude.{IsTrue}
use Rattle.chk_tee.specs.Messages.{Teed, IsTee, AreTeed, is_teed, tee_limit, most_teed, written_teed, written_teeds, written_tee}
use Rattle.chk_tee.specs.Filters.{passes, passing}
use Rattle.chk_tee.specs.declared.filters.Filter.{Filter}
use Rattle.chk_tee.proofs.MessageWriting.{written_tee_is_tee}

-- a chunk passes
abbrev pub lets : Filter → Teed → Bool
lets f t = passes f t.chunk.key.stream

pub passing-yes : (f : Filter) (t : Teed) (ts : List Teed) → lets f t ≡ true → passing f (t ∷ ts) ≡ t ∷ passing f ts
passing-yes f t ts e = rw e

pub passing-no : (f : Filter) (t : Teed) (ts : List Teed) → lets f t ≡ false → passing f (t ∷ ts) ≡ passing f ts
passing-no f t ts e = rw e

pub passing-append : (f : Filter) (ts us : List Teed) → passing f (ts ++ us) ≡ passing f ts ++ passing f us
passing-append f [] us = refl
passing-append f (t ∷ ts) us = go (lets f t) refl (passing-append f ts us)
  where
    go : (b : Bool) → lets f t ≡ b → passing f (ts ++ us) ≡ passing f ts ++ passing f us
        → passing f (t ∷ (ts ++ us)) ≡ passing f (t ∷ ts) ++ passing f us
    go true e more =
        passing-yes f t (ts ++ us) e ∙ (ap (λ l. t ∷ l) more ∙ ap (λ l. l ++ passing f us) (sym (passing-yes f t ts e)))
    go false e more = passing-no f t (ts ++ us) e ∙ (more ∙ ap (λ l. l ++ passing f us) (sym (passing-no f t ts e)))

pub written-append : (ts us : List Teed) → written_teeds (ts ++ us) ≡ written_teeds ts ++ written_teeds us
written-append [] us = refl
written-append (t ∷ ts) us =
    ap (λ l. written_teed t ++ l) (written-append ts us) ∙ sym (append_assoc (written_teed t) (written_teeds ts) (written_teeds us))

-- what passes is no more, and can be spelled as well
pub fewer : (f : Filter) (ts : List Teed) → length (passing f ts) ≤ length ts
fewer f [] = omega arith
fewer f (t ∷ ts) = go (lets f t) refl (fewer f ts)
  where
    go : (b : Bool) → lets f t ≡ b → length (passing f ts) ≤ length ts → length (passing f (t ∷ ts)) ≤ suc (length ts)
    go true e less = omega (arith, ap length (passing-yes f t ts e), less)
    go false e less = omega (arith, ap length (passing-no f t ts e), less)

shorter : (f : Filter) (ts : List Teed) → length (written_teeds (passing f ts)) ≤ length (written_teeds ts)
shorter f [] = omega arith
shorter f (t ∷ ts) = go (lets f t) refl (shorter f ts)
  where
    go : (b : Bool) → lets f t ≡ b → length (written_teeds (passing f ts)) ≤ length (written_teeds ts)
        → length (written_teeds (passing f (t ∷ ts))) ≤ length (written_teed t ++ written_teeds ts)
    go true e less =
        let is = ap (λ l. length (written_teeds l)) (passing-yes f t ts e) in
        omega (arith, is, less, length-append (written_teed t) (written_teeds (passing f ts)), length-append (written_teed t) (written_teeds ts))
    go false e less =
        let is = ap (λ l. length (written_teeds l)) (passing-no f t ts e) in
        omega (arith, is, less, length-append (written_teed t) (written_teeds ts))

-- each of some chunks can be spelled
abbrev AllTeed : List Teed → Type 0
AllTeed [] = Unit {0}
AllTeed (t ∷ ts) = IsTrue (is_teed t) × AllTeed ts

all_from : (ts : List Teed) → AreTeed ts → AllTeed ts
all_from [] all = tt
all_from (t ∷ ts) all = (all 0 t (omega arith), all_from ts (λ k d within. all (suc k) d (omega arith)))

from_all : (ts : List Teed) → AllTeed ts → AreTeed ts
from_all [] all k d within = absurd (omega arith)
from_all (t ∷ ts) all zero d within = all.0
from_all (t ∷ ts) all (suc k) d within = from_all ts all.1 k d (omega arith)

passing_all : (f : Filter) (ts : List Teed) → AllTeed ts → AllTeed (passing f ts)
passing_all f [] all = tt
passing_all f (t ∷ ts) all = go (lets f t) refl (passing_all f ts all.1)
  where
    go : (b : Bool) → lets f t ≡ b → AllTeed (passing f ts) → AllTeed (passing f (t ∷ ts))
    go true e more = subst (λ (l : List Teed). AllTeed l) (sym (passing-yes f t ts e)) (all.0, more)
    go false e more = subst (λ (l : List Teed). AllTeed l) (sym (passing-no f t ts e)) more

pub passing_is_tee : (f : Filter) (ts : List Teed) → length ts ≤ most_teed → AreTeed ts → length (written_tee ts) ≤ tee_limit
    → 0 < length (passing f ts) → IsTee (passing f ts) (written_tee (passing f ts))
passing_is_tee f ts few valid short some =
    let less : length (passing f ts) ≤ length ts = fewer f ts in
    let smaller : length (written_teeds (passing f ts)) ≤ length (written_teeds ts) = shorter f ts in
    written_tee_is_tee (passing f ts) some (omega arith) (from_all (passing f ts) (passing_all f ts (all_from ts valid))) (omega arith)
