-- Lists that grew at their ends.
use Rattle.std.proofs.Common.{◌≡◌, ℕ, ◌+◌, List, ◌++◌, length, take, refl, sym, ap, ◌∙◌, append_assoc, arith, length-append}
use Rattle.std.proofs.lemmas.List.{take_at, take-take, take_all}

-- one part after another
pub two_parts : (old a b mid new : List ℕ) → mid ≡ old ++ a → new ≡ mid ++ b → new ≡ old ++ (a ++ b)
two_parts old a b mid new p q = q ∙ ap (λ l. l ++ b) p ∙ append_assoc old a b

pub three_parts : (old a b c m n new : List ℕ)
    → m ≡ old ++ a → n ≡ m ++ b → new ≡ n ++ c → new ≡ old ++ (a ++ (b ++ c))
three_parts old a b c m n new p q r = two_parts old a (b ++ c) m new p (two_parts m b c n new q r)

pub five_parts : (old a b c d e m n o p new : List ℕ)
    → m ≡ old ++ a → n ≡ m ++ b → o ≡ n ++ c → p ≡ o ++ d → new ≡ p ++ e
    → new ≡ old ++ (a ++ (b ++ (c ++ (d ++ e))))
five_parts old a b c d e m n o p new i j k l h =
    three_parts old a b (c ++ (d ++ e)) m n new i j (three_parts n c d e o p new k l h)

-- what stood first still does, after a part more
pub kept_below : (old a mid new : List ℕ)
    → mid ≡ old ++ a → take (length mid) new ≡ mid → take (length old) new ≡ old
kept_below old a mid new p q =
    let longer : length mid ≡ length old + length a = ap length p ∙ length-append old a in
    sym (take-take (length old) (length mid) new (omega arith))
    ∙ (ap (take (length old)) q ∙ (ap (take (length old)) p ∙ take_at old a (length old) refl))

-- what didn't change still stands
pub unchanged : (old new : List ℕ) → new ≡ old → take (length old) new ≡ old
unchanged old new same = ap (take (length old)) same ∙ take_all (length old) old (omega arith)
