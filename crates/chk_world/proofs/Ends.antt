-- The beginnings and ends of texts.
use Rattle.std.proofs.Common.{◌≡◌, ℕ, ◌-◌, ◌<◌, Bool, true, false, List, [], ◌∷◌, ◌++◌, Option, Some, None, length, length-append, take, drop, refl, ap, sym, ◌∙◌, bytes_eq, eqb, if◌then◌else◌, arith, true≢false}
use Rattle.std.specs.Prelude.{IsTrue}
use Rattle.std.specs.List.{list_all}
use Rattle.std.specs.Char.{is_ascii_digit}
use Rattle.std.proofs.Math.Nat.{add-sub_cancel}
use Rattle.std.proofs.Math.Seq.{take-append_seam, drop-append_seam}
use Rattle.std.proofs.lemmas.List.{take-append-drop}
use Rattle.std.proofs.lemmas.Slice.Eq.{bytes_eq-Decides}
use Rattle.std.proofs.lemmas.Bool.{and_parts}
use Rattle.chk_bytes.specs.Words.{before_end, behind_front}

pub bytes_same : (xs ys : List ℕ) → IsTrue (bytes_eq xs ys) → xs ≡ ys
bytes_same xs ys h = (bytes_eq-Decides xs ys).0 h

pub bytes_self : (xs : List ℕ) → bytes_eq xs xs ≡ true
bytes_self xs = (bytes_eq-Decides xs xs).1 refl

-- what stands before an ending is found
pub before_end-append : (text ending : List ℕ) → before_end ending (text ++ ending) ≡ Some text
before_end-append text ending =
    let n : length (text ++ ending) - length ending ≡ length text =
    ap (λ k. k - length ending) (length-append text ending) ∙ add-sub_cancel (length text) (length ending) in
    ap (λ k. if bytes_eq (drop k (text ++ ending)) ending then Some (take k (text ++ ending)) else None) n
    ∙ ap (λ d. if bytes_eq d ending then Some (take (length text) (text ++ ending)) else None) (drop-append_seam text ending)
    ∙ ap (λ b. if b then Some (take (length text) (text ++ ending)) else None) (bytes_self ending)
    ∙ ap Some (take-append_seam text ending)

-- what stands behind a beginning is found
pub behind_front-append : (front text : List ℕ) → behind_front front (front ++ text) ≡ Some text
behind_front-append front text =
    ap (λ d. if bytes_eq d front then Some (drop (length front) (front ++ text)) else None) (take-append_seam front text)
    ∙ ap (λ b. if b then Some (drop (length front) (front ++ text)) else None) (bytes_self front)
    ∙ ap Some (drop-append_seam front text)

abbrev last_of : List ℕ → ℕ
last_of [] = 0
last_of (b ∷ []) = b
last_of (b ∷ c ∷ bytes) = last_of (c ∷ bytes)

last_of-append : (text : List ℕ) (b : ℕ) (more : List ℕ) → last_of (text ++ b ∷ more) ≡ last_of (b ∷ more)
last_of-append [] b more = refl
last_of-append (a ∷ []) b more = refl
last_of-append (a ∷ c ∷ text) b more = last_of-append (c ∷ text) b more

last_end : (a f : List ℕ) (b : ℕ) → last_of (a ++ (f ++ b ∷ [])) ≡ b
last_end a [] b = last_of-append a b []
last_end a (g ∷ f) b = last_of-append a g (f ++ b ∷ []) ∙ last_of-append (g ∷ f) b []

if_found : (b : Bool) (x : Option (List ℕ)) → (b ≡ true → ⊥) → (if b then x else None) ≡ None
if_found true x h = absurd (h refl)
if_found false x h = refl

-- a text that ends otherwise hasn't this ending
pub before_end-other : (front : List ℕ) (b : ℕ) (text : List ℕ) (c : ℕ) (whole : List ℕ) → whole ≡ text ++ c ∷ [] → eqb b c ≡ false
    → before_end (front ++ b ∷ []) whole ≡ None
before_end-other front b text c whole is apart =
    let n : ℕ = length whole - length (front ++ b ∷ []) in
    if_found (bytes_eq (drop n whole) (front ++ b ∷ [])) (Some (take n whole)) (λ h.
    let parted : take n whole ++ (front ++ b ∷ []) ≡ whole =
    ap (λ d. take n whole ++ d) (sym (bytes_same (drop n whole) (front ++ b ∷ []) h)) ∙ take-append-drop n whole in
    let ends : last_of whole ≡ b = ap last_of (sym parted) ∙ last_end (take n whole) front b in
    let ends_so : last_of whole ≡ c = ap last_of is ∙ last_of-append text c [] in
    true≢false (sym (same_number b c (sym ends ∙ ends_so)) ∙ apart))
  where
    same_number : (b c : ℕ) → b ≡ c → eqb b c ≡ true
    same_number b c e = grind (arith, e)

last_digit : (digits : List ℕ) → 0 < length digits → list_all is_ascii_digit digits ≡ true → is_ascii_digit (last_of digits) ≡ true
last_digit [] some all = absurd (let z : ⊥ = omega arith in z)
last_digit (d ∷ []) some all = (and_parts (is_ascii_digit d) true all).0
last_digit (d ∷ e ∷ digits) some all = last_digit (e ∷ digits) (omega arith) (and_parts (is_ascii_digit d) (list_all is_ascii_digit (e ∷ digits)) all).1

-- a text that ends in digits hasn't an ending that doesn't
pub before_end-digits : (front : List ℕ) (b : ℕ) (text digits : List ℕ) → 0 < length digits → list_all is_ascii_digit digits ≡ true
    → is_ascii_digit b ≡ false → before_end (front ++ b ∷ []) (text ++ digits) ≡ None
before_end-digits front b text digits some all apart =
    let whole = text ++ digits in
    let n : ℕ = length whole - length (front ++ b ∷ []) in
    if_found (bytes_eq (drop n whole) (front ++ b ∷ [])) (Some (take n whole)) (λ h.
    let parted : take n whole ++ (front ++ b ∷ []) ≡ whole =
    ap (λ d. take n whole ++ d) (sym (bytes_same (drop n whole) (front ++ b ∷ []) h)) ∙ take-append-drop n whole in
    let ends : last_of whole ≡ b = ap last_of (sym parted) ∙ last_end (take n whole) front b in
    let ends_so : last_of whole ≡ last_of digits = last_digits text digits some in
    true≢false (sym (last_digit digits some all) ∙ (ap is_ascii_digit (sym ends_so ∙ ends) ∙ apart)))
  where
    last_digits : (a d : List ℕ) → 0 < length d → last_of (a ++ d) ≡ last_of d
    last_digits a [] some = absurd (let z : ⊥ = omega arith in z)
    last_digits a (x ∷ d) some = last_of-append a x d
