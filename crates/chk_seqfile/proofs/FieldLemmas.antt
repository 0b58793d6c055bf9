-- Fields of a header: which bytes they may be, and that they are read so.
use Rattle.std.proofs.Common.{subst, ◌≡◌, ◌≢◌, ℕ, ◌+◌, ◌-◌, ◌<◌, ◌≤◌, ◌⊎◌, Bool, true, false, cond, bytes_eq, List, [], ◌∷◌, ◌++◌, length, take, drop, Result, Ok, Err, inl, inr, ⊎_elim, arith, refl, ap, ap₂, sym, ◌∙◌}
use Rattle.std.proofs.lemmas.List.{length-append, length-take, length-take-le, take_at, drop_at, take-append-drop, take-append-le, append_assoc}
use Rattle.std.proofs.Math.Seq.{take-append-add}
use Rattle.std.specs.Prelude.{nat_eq}
use Rattle.std.specs.List.{starts_with}
use Rattle.std.proofs.lemmas.Bool.{eq-eqb, ne_eqb, cases_eq, cond-true, cond-false, cases_lt, false_from_ne_true}
use Rattle.std.proofs.lemmas.Slice.Eq.{bytes_eq-Decides}
use Rattle.chk_seqfile.specs.declared.headers.HeaderFault.{HeaderFault}
use Rattle.chk_seqfile.specs.declared.headers.HeaderFault.TheVariants.{Short}
use Rattle.chk_seqfile.specs.Headers.{◌>>=◌, expect}

-- where two fields were read, both were
pub bind_ok : {A B : Type 0} (r : Result A HeaderFault) (f : A → Result B HeaderFault) (y : B)
    → (r >>= f) ≡ Ok y → (x : A) × (r ≡ Ok x) × (f x ≡ Ok y)
bind_ok (Ok x) f y e = (x, refl, e)
bind_ok (Err fault) f y e = cc

-- where the second field was refused
pub bind_err : {A B : Type 0} (r : Result A HeaderFault) (f : A → Result B HeaderFault) (fault : HeaderFault)
    → (r >>= f) ≡ Err fault
    → (r ≡ Err fault) ⊎ ((x : A) × (r ≡ Ok x) × (f x ≡ Err fault))
bind_err (Ok x) f fault e = inr (x, refl, e)
bind_err (Err other) f fault e = let same : other ≡ fault = cc in inl (ap (λ x. Err x) same)

-- a field with a number, whatever stands before it in a header of so many bytes: what is so is read, and nothing else; a
-- proper front is Short, and what is Short can go on
pub record IsNumberField (Is : ℕ → List ℕ → Type 0) (read : ℕ → List ℕ → Result (ℕ × List ℕ) HeaderFault) : Type 0 where
  pub reads : (total n : ℕ) (c rest : List ℕ) → Is n c → read total (c ++ rest) ≡ Ok (n, rest)
  pub sound : (total n : ℕ) (bytes rest : List ℕ) → read total bytes ≡ Ok (n, rest)
      → (c : List ℕ) × Is n c × (bytes ≡ c ++ rest)
  pub cut : (total k n : ℕ) (c : List ℕ) → Is n c → k < length c → read total (take k c) ≡ Err Short
  pub short : (total : ℕ) (bytes : List ℕ) → read total bytes ≡ Err Short
      → (n : ℕ) × (c : List ℕ) × Is n (bytes ++ c)

-- the same of a field without a number
pub record IsField (Is : List ℕ → Type 0) (read : ℕ → List ℕ → Result (List ℕ) HeaderFault) : Type 0 where
  pub reads : (total : ℕ) (c rest : List ℕ) → Is c → read total (c ++ rest) ≡ Ok rest
  pub sound : (total : ℕ) (bytes rest : List ℕ) → read total bytes ≡ Ok rest
      → (c : List ℕ) × Is c × (bytes ≡ c ++ rest)
  pub cut : (total k : ℕ) (c : List ℕ) → Is c → k < length c → read total (take k c) ≡ Err Short
  pub short : (total : ℕ) (bytes : List ℕ) → read total bytes ≡ Err Short
      → (c : List ℕ) × Is (bytes ++ c)
  pub some : (c : List ℕ) × Is c

-- what was read is read, whatever follows
pub field_more : {Is : List ℕ → Type 0} {read : ℕ → List ℕ → Result (List ℕ) HeaderFault} → IsField Is read
    → (total total' : ℕ) (bytes rest more : List ℕ) → read total bytes ≡ Ok rest
    → read total' (bytes ++ more) ≡ Ok (rest ++ more)
field_more {Is} {read} f total total' bytes rest more whole =
    let found = f.sound total bytes rest whole in
    ap (λ x. read total' (x ++ more)) found.2 ∙ ap (read total') (append_assoc found.0 rest more)
    ∙ f.reads total' found.0 (rest ++ more) found.1

pub number_more : {Is : ℕ → List ℕ → Type 0} {read : ℕ → List ℕ → Result (ℕ × List ℕ) HeaderFault}
    → IsNumberField Is read
    → (total total' n : ℕ) (bytes rest more : List ℕ) → read total bytes ≡ Ok (n, rest)
    → read total' (bytes ++ more) ≡ Ok (n, rest ++ more)
number_more {Is} {read} f total total' n bytes rest more whole =
    let found = f.sound total n bytes rest whole in
    ap (λ x. read total' (x ++ more)) found.2 ∙ ap (read total') (append_assoc found.0 rest more)
    ∙ f.reads total' n found.0 (rest ++ more) found.1

-- one after the other
abbrev pub Both : (List ℕ → Type 0) → (List ℕ → Type 0) → List ℕ → Type 0
Both First Second bytes = (c : List ℕ) × (d : List ℕ) × First c × Second d × (bytes ≡ c ++ d)

-- a cut in the first of two parts, or in the second
pub take_within : (k : ℕ) (c d : List ℕ) → k ≤ length c → take k (c ++ d) ≡ take k c
take_within k c d within = take-append-le k c d within

pub take_past : (k : ℕ) (c d : List ℕ) → length c ≤ k → take k (c ++ d) ≡ c ++ take (k - length c) d
take_past k c d past =
    let sum : k ≡ length c + (k - length c) = omega arith in
    ap (λ n. take n (c ++ d)) sum ∙ take-append-add c d (k - length c)

-- two fields are one
pub two_fields : {First Second : List ℕ → Type 0} {one two : ℕ → List ℕ → Result (List ℕ) HeaderFault}
    → IsField First one → IsField Second two → IsField (Both First Second) (λ total bytes. one total bytes >>= two total)
two_fields {First} {Second} {one} {two} f g = record {
  reads = λ total bytes rest both.
      let c : List ℕ = both.0 in
      let d : List ℕ = both.1 in
      let split : bytes ++ rest ≡ c ++ (d ++ rest) =
      ap (λ x. x ++ rest) both.4 ∙ append_assoc c d rest in
      ap (λ x. one total x >>= two total) split
      ∙ ap (λ r. r >>= two total) (f.reads total c (d ++ rest) both.2)
      ∙ g.reads total d rest both.3;
  sound = λ total bytes rest read.
      let steps = bind_ok (one total bytes) (two total) rest read in
      let first = f.sound total bytes steps.0 steps.1 in
      let second = g.sound total steps.0 rest steps.2 in
      (first.0 ++ second.0, (first.0, second.0, first.1, second.1, refl), first.2 ∙ ap (λ x. first.0 ++ x) second.2 ∙ sym (append_assoc first.0 second.0 rest));
  cut = λ total k bytes both fewer.
      let c : List ℕ = both.0 in
      let d : List ℕ = both.1 in
      let all : length bytes ≡ length c + length d = ap length both.4 ∙ length-append c d in
      ap (λ x. one total (take k x) >>= two total) both.4
      ∙ ⊎_elim (λ inside. ap (λ x. one total x >>= two total) (take_within k c d (omega arith)) ∙ ap (λ r. r >>= two total) (f.cut total k c both.2 inside))
      (λ past. ap (λ x. one total x >>= two total) (take_past k c d past)
      ∙ ap (λ r. r >>= two total) (f.reads total c (take (k - length c) d) both.2)
      ∙ g.cut total (k - length c) d both.3 (omega arith))
      (cases_lt k (length c));
  short = λ total bytes read. ⊎_elim
      (λ first. let more = f.short total bytes first in
      (more.0 ++ g.some.0, (bytes ++ more.0, g.some.0, more.1, g.some.1, sym (append_assoc bytes more.0 g.some.0))))
      (λ second. let front = f.sound total bytes second.0 second.1 in
      let more = g.short total second.0 second.2 in
      (more.0, (front.0, second.0 ++ more.0, front.1, more.1, ap (λ x. x ++ more.0) front.2 ∙ append_assoc front.0 second.0 more.0)))
      (bind_err (one total bytes) (two total) Short read);
  some = (f.some.0 ++ g.some.0, (f.some.0, g.some.0, f.some.1, g.some.1, refl));
}

-- a number, and then a field for it
abbrev pub NumberThen : (ℕ → List ℕ → Type 0) → (ℕ → List ℕ → Type 0) → List ℕ → Type 0
NumberThen First Second bytes =
    (n : ℕ) × (c : List ℕ) × (d : List ℕ) × First n c × Second n d × (bytes ≡ c ++ d)

-- a field that begins with a number on which the rest depends
pub number_then : {First Second : ℕ → List ℕ → Type 0} {one : ℕ → List ℕ → Result (ℕ × List ℕ) HeaderFault}
    {two : ℕ → ℕ → List ℕ → Result (List ℕ) HeaderFault}
    → IsNumberField First one → ((n : ℕ) → IsField (Second n) (two n)) → (n : ℕ) × (c : List ℕ) × First n c
    → IsField (NumberThen First Second) (λ total bytes. one total bytes >>= (λ x. two x.0 total x.1))
number_then {First} {Second} {one} {two} f g some = record {
  reads = λ total bytes rest both.
      let n : ℕ = both.0 in
      let c : List ℕ = both.1 in
      let d : List ℕ = both.2 in
      let split : bytes ++ rest ≡ c ++ (d ++ rest) =
      ap (λ x. x ++ rest) both.5 ∙ append_assoc c d rest in
      ap (λ x. one total x >>= (λ x. two x.0 total x.1)) split
      ∙ ap (λ r. r >>= (λ x. two x.0 total x.1)) (f.reads total n c (d ++ rest) both.3)
      ∙ (g n).reads total d rest both.4;
  sound = λ total bytes rest read.
      let steps = bind_ok (one total bytes) (λ x. two x.0 total x.1) rest read in
      let n : ℕ = steps.0.0 in
      let first = f.sound total n bytes steps.0.1 steps.1 in
      let second = (g n).sound total steps.0.1 rest steps.2 in
      (first.0 ++ second.0, (n, first.0, second.0, first.1, second.1, refl), first.2 ∙ ap (λ x. first.0 ++ x) second.2 ∙ sym (append_assoc first.0 second.0 rest));
  cut = λ total k bytes both fewer.
      let n : ℕ = both.0 in
      let c : List ℕ = both.1 in
      let d : List ℕ = both.2 in
      let all : length bytes ≡ length c + length d = ap length both.5 ∙ length-append c d in
      ap (λ x. one total (take k x) >>= (λ x. two x.0 total x.1)) both.5
      ∙ ⊎_elim (λ inside. ap (λ x. one total x >>= (λ x. two x.0 total x.1)) (take_within k c d (omega arith))
      ∙ ap (λ r. r >>= (λ x. two x.0 total x.1)) (f.cut total k n c both.3 inside))
      (λ past. ap (λ x. one total x >>= (λ x. two x.0 total x.1)) (take_past k c d past)
      ∙ ap (λ r. r >>= (λ x. two x.0 total x.1)) (f.reads total n c (take (k - length c) d) both.3)
      ∙ (g n).cut total (k - length c) d both.4 (omega arith))
      (cases_lt k (length c));
  short = λ total bytes read. ⊎_elim
      (λ first. let more = f.short total bytes first in
      let rest = (g more.0).some in
      (more.1 ++ rest.0, (more.0, bytes ++ more.1, rest.0, more.2, rest.1, sym (append_assoc bytes more.1 rest.0))))
      (λ second. let n : ℕ = second.0.0 in
      let front = f.sound total n bytes second.0.1 second.1 in
      let more = (g n).short total second.0.1 second.2 in
      (more.0, (n, front.0, second.0.1 ++ more.0, front.1, more.1, ap (λ x. x ++ more.0) front.2 ∙ append_assoc front.0 second.0.1 more.0)))
      (bind_err (one total bytes) (λ x. two x.0 total x.1) Short read);
  some = (some.1 ++ (g some.0).some.0, (some.0, some.1, (g some.0).some.0, some.2, (g some.0).some.1, refl));
}

-- bytes are equal where the test says so, and only there
pub same_bytes : (xs ys : List ℕ) → xs ≡ ys → bytes_eq xs ys ≡ true
same_bytes xs ys same = (bytes_eq-Decides xs ys).1 same

pub bytes_same : (xs ys : List ℕ) → bytes_eq xs ys ≡ true → xs ≡ ys
bytes_same xs ys test = (bytes_eq-Decides xs ys).0 test

pub other_bytes : (xs ys : List ℕ) → (xs ≡ ys → ⊥) → bytes_eq xs ys ≡ false
other_bytes xs ys other =
    false_from_ne_true (bytes_eq xs ys) (λ test. other (bytes_same xs ys test))

-- the wanted bytes are read, whatever follows
pub expect-append : (want : List ℕ) (fault : HeaderFault) (rest : List ℕ)
    → expect want fault (want ++ rest) ≡ Ok rest
expect-append want fault rest =
    cond-true _ _ _ (same_bytes want _ (sym (take_at want rest (length want) refl)))
    ∙ ap (λ x. Ok x) (drop_at want rest (length want) refl)

-- which of three answers it was
taken : (whole front : Bool) (behind rest : List ℕ) (fault : HeaderFault)
    → cond whole (Ok behind) (cond front (Err Short) (Err fault)) ≡ Ok rest → (whole ≡ true) × (behind ≡ rest)
taken true front behind rest fault read = (refl, cc)
taken false true behind rest fault read = cc
taken false false behind rest fault read = cc

cut_short : (whole front : Bool) (behind : List ℕ) (fault : HeaderFault) → fault ≢ Short
    → cond whole (Ok behind) (cond front (Err Short) (Err fault)) ≡ Err Short → front ≡ true
cut_short true front behind fault other read = cc
cut_short false true behind fault other read = refl
cut_short false false behind fault other read = let same : fault ≡ Short = cc in absurd (other same)

-- what was read stood there
pub expect-sound : (want : List ℕ) (fault : HeaderFault) (bytes rest : List ℕ)
    → expect want fault bytes ≡ Ok rest → bytes ≡ want ++ rest
expect-sound want fault bytes rest read =
    let was =
    taken (starts_with nat_eq bytes want) (starts_with nat_eq want bytes) (drop (length want) bytes) rest fault read in
    sym (take-append-drop (length want) bytes)
    ∙ ap₂ (λ a b. a ++ b) (sym (bytes_same want _ was.0)) was.1

-- a proper front is Short
pub expect-cut : (want : List ℕ) (fault : HeaderFault) (k : ℕ) → k < length want
    → expect want fault (take k want) ≡ Err Short
expect-cut want fault k fewer =
    let size : length (take k want) ≡ k = length-take-le k want (omega arith) in
    let inside : length (take (length want) (take k want)) ≤ k =
    omega (arith, length-take (length want) (take k want)) in
    cond-false _ _ _ (other_bytes want (take (length want) (take k want)) (λ same. let sizes = ap length same in absurd (omega arith)))
    ∙ cond-true _ _ _ (same_bytes (take k want) (take (length (take k want)) want) (ap (λ n. take n want) (sym size)))

-- what is Short is a front
pub expect-short : (want : List ℕ) (fault : HeaderFault) (bytes : List ℕ) → fault ≢ Short
    → expect want fault bytes ≡ Err Short
    → bytes ++ drop (length bytes) want ≡ want
expect-short want fault bytes other read =
    let front =
    cut_short (starts_with nat_eq bytes want) (starts_with nat_eq want bytes) (drop (length want) bytes) fault other read in
    ap (λ x. x ++ drop (length bytes) want) (bytes_same bytes _ front)
    ∙ take-append-drop (length bytes) want

-- where the first byte is the wanted one, the others decide
pub expect-same : (b : ℕ) (want : List ℕ) (fault : HeaderFault) (bytes : List ℕ)
    → expect (b ∷ want) fault (b ∷ bytes) ≡ expect want fault bytes
expect-same b want fault bytes = rw (eq-eqb b b refl) refl

-- another first byte is the fault
expect-other : (w b : ℕ) (want : List ℕ) (fault : HeaderFault) (bytes : List ℕ) → (w ≡ b → ⊥)
    → expect (w ∷ want) fault (b ∷ bytes) ≡ Err fault
expect-other w b want fault bytes other =
    rw (ne_eqb w b other, ne_eqb b w (λ e. other (sym e))) refl

-- of two parts, one after the other
pub expect-parts : (first second : List ℕ) (fault : HeaderFault) (bytes : List ℕ)
    → expect (first ++ second) fault bytes ≡ (expect first fault bytes >>= expect second fault)
expect-parts [] second fault bytes = refl
expect-parts (w ∷ first) second fault [] = refl
expect-parts (w ∷ first) second fault (b ∷ bytes) = ⊎_elim
    (λ same. subst (λ x. expect (x ∷ (first ++ second)) fault (b ∷ bytes) ≡ (expect (x ∷ first) fault (b ∷ bytes) >>= expect second fault)) (sym same)
    (expect-same b (first ++ second) fault bytes ∙ expect-parts first second fault bytes ∙ ap (λ r. r >>= expect second fault) (sym (expect-same b first fault bytes))))
    (λ other. expect-other w b (first ++ second) fault bytes other ∙ ap (λ r. r >>= expect second fault) (sym (expect-other w b first fault bytes other)))
    (cases_eq w b)

-- wanted bytes are a field
pub wanted : (want : List ℕ) (fault : HeaderFault) → fault ≢ Short
    → IsField (λ bytes. bytes ≡ want) (λ total bytes. expect want fault bytes)
wanted want fault other = record {
  reads = λ total c rest is. ap (λ x. expect want fault (x ++ rest)) is
      ∙ expect-append want fault rest;
  sound = λ total bytes rest read. (want, refl, expect-sound want fault bytes rest read);
  cut = λ total k c is fewer. ap (λ x. expect want fault (take k x)) is
      ∙ expect-cut want fault k (let size = ap length is in omega arith);
  short = λ total bytes read. (drop (length bytes) want, expect-short want fault bytes other read);
  some = (want, refl);
}
