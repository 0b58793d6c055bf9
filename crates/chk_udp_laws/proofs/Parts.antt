-- Lists of payloads, and their parts.
use Rattle.std.proofs.Common.{◌≡◌, ℕ, List, [], ◌∷◌, ◌++◌, refl, sym, ◌∙◌, ap, subst, append_assoc, append-nil}
use Rattle.chk_udp_laws.specs.Marked.{joined, IsPart, empty, kept, left_out}

pub joined_more : (a b : List (List ℕ)) → joined (a ++ b) ≡ joined a ++ joined b
joined_more [] b = refl
joined_more (x ∷ a) b = ap (λ t. x ++ t) (joined_more a b)
    ∙ sym (append_assoc x (joined a) (joined b))

pub joined_one : (a : List (List ℕ)) (x : List ℕ) → joined (a ++ x ∷ []) ≡ joined a ++ x
joined_one a x = joined_more a (x ∷ []) ∙ ap (λ t. joined a ++ t) (append-nil x)

pub none_of : (c : List (List ℕ)) → IsPart [] c
none_of [] = empty
none_of (x ∷ c) = left_out (none_of c)

-- of a longer list
pub part_more : {a c : List (List ℕ)} (d : List (List ℕ)) → IsPart a c → IsPart a (c ++ d)
part_more d empty = none_of d
part_more d (kept p) = kept (part_more d p)
part_more d (left_out p) = left_out (part_more d p)

-- with one more at the end of both
pub part_one : {a c : List (List ℕ)} (x : List ℕ) → IsPart a c → IsPart (a ++ x ∷ []) (c ++ x ∷ [])
part_one x empty = kept empty
part_one x (kept p) = kept (part_one x p)
part_one x (left_out p) = left_out (part_one x p)

-- without its last ones
front_by : (a b : List (List ℕ)) {d c : List (List ℕ)} → d ≡ a ++ b → IsPart d c → IsPart a c
front_by [] b {c = c} is p = none_of c
front_by (x ∷ a) b is empty = absurd (cc)
front_by (x ∷ a) b is (kept {bytes = y} {some = some} {all = all} p) =
    let first : y ≡ x = cc in
    let later : some ≡ a ++ b = cc in
    subst (λ z. IsPart (z ∷ a) (y ∷ all)) first (kept (front_by a b later p))
front_by (x ∷ a) b is (left_out p) = left_out (front_by (x ∷ a) b is p)

pub part_front : (a b : List (List ℕ)) {c : List (List ℕ)} → IsPart (a ++ b) c → IsPart a c
part_front a b p = front_by a b refl p
