-- What pieces for a log have, joined in order.
use Rattle.std.proofs.Common.{◌≡◌, ◌≢◌, ℕ, zero, suc, ◌<◌, Bool, true, false, if◌then◌else◌, List, [], ◌∷◌, ◌++◌, refl, sym, ◌∙◌, ap, append_assoc, append-nil, arith}
use Rattle.std.specs.Prelude.{bytes_eq}
use Rattle.std.specs.Fmt.{digits}
use Rattle.std.proofs.lemmas.Slice.Eq.{bytes_eq-Decides}
use Rattle.chk_bytes.specs.Words.{BeginsWith}
use Rattle.chk_cmd_line.specs.Loads.{load_log}
use Rattle.chk_cmd_load.specs.Pieces.{LogPiece, joined, ForNoOther}

pub joined_then : (path : List ℕ) (ps qs : List LogPiece) → joined path (ps ++ qs) ≡ joined path ps ++ joined path qs
joined_then path [] qs = refl
joined_then path (p ∷ ps) qs =
    let first : List ℕ = if bytes_eq p.path path then p.bytes else [] in
    ap (λ (rest : List ℕ). first ++ rest) (joined_then path ps qs) ∙ sym (append_assoc first (joined path ps) (joined path qs))

same_path : (path : List ℕ) → bytes_eq path path ≡ true
same_path path = (bytes_eq-Decides path path).1 refl

-- one piece, for its own log
pub joined_own : (path bytes : List ℕ) → joined path (record { path = path; bytes = bytes } ∷ []) ≡ bytes
joined_own path bytes =
    ap (λ (b : Bool). (if b then bytes else []) ++ []) (same_path path) ∙ append-nil bytes

-- and for another one
joined_other : (path other bytes : List ℕ) → bytes_eq path other ≡ false
    → joined other (record { path = path; bytes = bytes } ∷ []) ≡ []
joined_other path other bytes apart = ap (λ (b : Bool). (if b then bytes else []) ++ []) apart

pub no_other_one : (path bytes : List ℕ) → ForNoOther path (record { path = path; bytes = bytes } ∷ [])
no_other_one path bytes other apart = joined_other path other bytes apart

pub no_other_then : (path : List ℕ) (ps qs : List LogPiece) → ForNoOther path ps → ForNoOther path qs → ForNoOther path (ps ++ qs)
no_other_then path ps qs a b other apart =
    joined_then other ps qs ∙ ap (λ (x : List ℕ). x ++ joined other qs) (a other apart) ∙ b other apart

-- the paths of the three logs differ
pub apart_logs : (a b : ℕ) → a < 3 → b < 3 → a ≢ b → bytes_eq (load_log a) (load_log b) ≡ false
unfolding digits
apart_logs zero zero x y other = absurd (other refl)
apart_logs zero (suc zero) x y other = refl
apart_logs zero (suc (suc zero)) x y other = refl
apart_logs zero (suc (suc (suc b))) x y other = absurd (let z : ⊥ = omega (arith, y) in z)
apart_logs (suc zero) zero x y other = refl
apart_logs (suc zero) (suc zero) x y other = absurd (other refl)
apart_logs (suc zero) (suc (suc zero)) x y other = refl
apart_logs (suc zero) (suc (suc (suc b))) x y other = absurd (let z : ⊥ = omega (arith, y) in z)
apart_logs (suc (suc zero)) zero x y other = refl
apart_logs (suc (suc zero)) (suc zero) x y other = refl
apart_logs (suc (suc zero)) (suc (suc zero)) x y other = absurd (other refl)
apart_logs (suc (suc zero)) (suc (suc (suc b))) x y other = absurd (let z : ⊥ = omega (arith, y) in z)
apart_logs (suc (suc (suc a))) b x y other = absurd (let z : ⊥ = omega (arith, x) in z)

-- ---- fronts

pub whole_front : (text : List ℕ) → BeginsWith text text
whole_front text = ([], sym (append-nil text))

pub front_then : (a b c : List ℕ) → BeginsWith a b → BeginsWith b c → BeginsWith a c
front_then a b c x y = (
  y.0 ++ x.0,
  x.1 ∙ ap (λ (t : List ℕ). t ++ x.0) y.1 ∙ append_assoc c y.0 x.0,
)
