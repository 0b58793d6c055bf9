-- What several failures in a row do to a ring.
use Rattle.std.proofs.Common.{◌≡◌, ℕ, zero, suc, ◌+◌, ◌%◌, ◌<◌, Bool, cond, List, length, refl, sym, ap, ◌∙◌, subst, arith}
use Rattle.std.proofs.Math.Nat.{mod-add-mod, mod-eq_of_lt, add-mod_right}
use Rattle.std.proofs.lemmas.Bool.{ne_eqb, eq-eqb}
use Rattle.chk_failover.specs.declared.Turned.TheVariants.{Next, AllTried}
use Rattle.chk_failover.specs.Turns.{Turns, answer_to_failure, after_failure, after_failures, GoesRound}

abbrev ring_at : List (List ℕ) → ℕ → ℕ → Turns
ring_at xs place failures = record { addresses = xs; place = place; failures = failures }

-- a failure, by whether it is the last of its count
abbrev turned : List (List ℕ) → ℕ → ℕ → Bool → Turns
turned xs place failures last =
    ring_at xs ((place + 1) % length xs) (cond last 0 (failures + 1))

one_more : (xs : List (List ℕ)) (place n : ℕ) → n + 1 < length xs
    → after_failure (ring_at xs place n) ≡ ring_at xs ((place + 1) % length xs) (suc n)
one_more xs place n lt =
    ap (turned xs place n) (ne_eqb (n + 1) (length xs) (λ same. absurd (omega arith)))
    ∙ ap (ring_at xs ((place + 1) % length xs)) (omega arith)

last_one : (xs : List (List ℕ)) (place n : ℕ) → n + 1 ≡ length xs
    → after_failure (ring_at xs place n) ≡ ring_at xs ((place + 1) % length xs) 0
last_one xs place n e = ap (turned xs place n) (eq-eqb (n + 1) (length xs) e)

-- the next place, counted from where the round began
next_place : (place n size : ℕ) → ((place + n) % size + 1) % size ≡ (place + suc n) % size
next_place place n size = mod-add-mod (place + n) size 1 ∙ ap (λ k. k % size) (omega arith)

after_some : (xs : List (List ℕ)) (place n : ℕ) → place < length xs → n < length xs
    → after_failures n (ring_at xs place 0) ≡ ring_at xs ((place + n) % length xs) n
after_some xs place zero within few =
    ap (λ k. ring_at xs k 0) (sym (mod-eq_of_lt within) ∙ ap (λ k. k % length xs) (omega arith))
after_some xs place (suc n) within few =
    ap after_failure (after_some xs place n within (omega arith))
    ∙ one_more xs ((place + n) % length xs) n (omega arith)
    ∙ ap (λ k. ring_at xs k (suc n)) (next_place place n (length xs))

after_all : (xs : List (List ℕ)) (place size : ℕ) → place < length xs → size ≡ length xs
    → after_failures size (ring_at xs place 0) ≡ ring_at xs place 0
after_all xs place zero within e = absurd (omega arith)
after_all xs place (suc n) within e =
    let back : (place + suc n) % length xs ≡ place =
    ap (λ k. (place + k) % length xs) e ∙ add-mod_right place (length xs) ∙ mod-eq_of_lt within in
    ap after_failure (after_some xs place n within (omega arith))
    ∙ last_one xs ((place + n) % length xs) n (omega arith)
    ∙ ap (λ k. ring_at xs k 0) (next_place place n (length xs) ∙ back)

answers_next : (xs : List (List ℕ)) (place n : ℕ) → n + 1 < length xs
    → answer_to_failure (ring_at xs place n) ≡ Next
answers_next xs place n lt =
    ap (λ last. cond last (AllTried (length xs)) Next)
    (ne_eqb (n + 1) (length xs) (λ same. absurd (omega arith)))

answers_all : (xs : List (List ℕ)) (place n : ℕ) → n + 1 ≡ length xs
    → answer_to_failure (ring_at xs place n) ≡ AllTried (length xs)
answers_all xs place n e =
    ap (λ last. cond last (AllTried (length xs)) Next) (eq-eqb (n + 1) (length xs) e)

goes_round_from : (xs : List (List ℕ)) (place : ℕ) → place < length xs → GoesRound (ring_at xs place 0)
goes_round_from xs place within = record {
  places = λ n few. ap (λ (ring : Turns). ring.place) (after_some xs place n within few);
  answers = λ n few. ap answer_to_failure (after_some xs place n within (omega arith))
      ∙ answers_next xs ((place + n) % length xs) n few;
  last = λ n e. ap answer_to_failure (after_some xs place n within (omega arith))
      ∙ answers_all xs ((place + n) % length xs) n e;
  round = after_all xs place (length xs) within refl;
}

pub goes_round : (ring : Turns) → ring.failures ≡ 0 → ring.place < length ring.addresses → GoesRound ring
goes_round ring fresh within =
    subst (λ n. GoesRound (ring_at ring.addresses ring.place n)) (sym fresh)
    (goes_round_from ring.addresses ring.place within)
