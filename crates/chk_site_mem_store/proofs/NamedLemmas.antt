-- Lists of what stands under a name, with an entry put in, set or taken out.
use Rattle.std.proofs.Common.{◌≡◌, inl, inr, ℕ, zero, suc, ◌<◌, ◌≤◌, Bool, true, false, not, List, [], ◌∷◌, ◌++◌, length, set, get_or, Option, Some, None, refl, sym, ◌∙◌, ap, subst, arith}
use Rattle.std.specs.Prelude.{bytes_eq, if◌then◌else◌, position, filter, is_some}
use Rattle.std.specs.List.{position_or_len}
use Rattle.std.proofs.lemmas.Bool.{cases_Bool, cases_lt, lt-ltb}
use Rattle.std.proofs.lemmas.Slice.Eq.{bytes_eq-Decides}
use Rattle.std.proofs.lemmas.List.Quantifiers.{position-Some}
use Rattle.std.proofs.lemmas.List.Sums.{prefix_len-le-length}
use Rattle.chk_site_mem_store.specs.declared.named.Named.{Named}
use Rattle.chk_site_mem_store.specs.Named.{is_named, under}

pub same_bytes : (a b : List ℕ) → bytes_eq a b ≡ true → a ≡ b
same_bytes a b = (bytes_eq-Decides a b).0

pub bytes_same : (a b : List ℕ) → a ≡ b → bytes_eq a b ≡ true
bytes_same a b = (bytes_eq-Decides a b).1

-- a choice made twice
pub twice : {X : Type 0} (b : Bool) (x y z : X) → (if b then x else z) ≡ (if b then x else (if b then y else z))
twice true x y z = refl
twice false x y z = refl

-- two choices of which one holds at most
swapped : {X : Type 0} (a b : Bool) (x y z : X) → (a ≡ true → b ≡ true → ⊥)
    → (if a then x else (if b then y else z)) ≡ (if b then y else (if a then x else z))
swapped true true x y z apart = absurd (apart refl refl)
swapped true false x y z apart = refl
swapped false true x y z apart = refl
swapped false false x y z apart = refl

-- a choice of the same
pub either_way : {X : Type 0} (b : Bool) (x : X) → x ≡ (if b then x else x)
either_way true x = refl
either_way false x = refl

-- a choice at a name
pub at_name : {X : Type 0} (b : Bool) (x y z : X) → (b ≡ true → x ≡ y) → (if b then x else z) ≡ (if b then y else z)
at_name true x y z e = e refl
at_name false x y z e = refl

-- two different names aren't both that of a third
pub apart : (n a b : List ℕ) → bytes_eq a b ≡ false → bytes_eq n b ≡ true → bytes_eq n a ≡ true → ⊥
apart n a b differ is_b is_a =
    let e : bytes_eq a b ≡ true = bytes_same a b (sym (same_bytes n a is_a) ∙ same_bytes n b is_b) in cc

-- the first of a name stands there
pub record IsFirst {T : Type 0} (name : List ℕ) (entries : List (Named T)) (i : ℕ) (d : Named T) : Type 0 where
  pub within : i < length entries
  pub named : is_named name (get_or entries i d) ≡ true
  pub before : (k : ℕ) → k < i → is_named name (get_or entries k d) ≡ false

first_at : {T : Type 0} (name : List ℕ) (entries : List (Named T)) (i : ℕ) (d : Named T)
    → position (is_named name) entries ≡ Some i → IsFirst name entries i d
first_at name entries i d e =
    let p = position-Some (is_named name) entries i d e in
    record { within = p.0; named = p.1; before = p.2 }

-- behind the head of the list
later : {T : Type 0} (name : List ℕ) (entry : Named T) (entries : List (Named T)) (i : ℕ) (d : Named T)
    → IsFirst name (entry ∷ entries) (suc i) d → IsFirst name entries i d
later name entry entries i d first =
    let w = first.within in
    record {
      within = omega arith;
      named = first.named;
      before = λ k below. first.before (suc k) (omega arith);
    }

-- under the name stands that one
under-first : {T V : Type 0} (seen : T → V) (name : List ℕ) (entries : List (Named T)) (i : ℕ) (d : Named T)
    → IsFirst name entries i d → under seen entries name ≡ Some (seen (get_or entries i d).value)
under-first seen name [] i d first = absurd (let w = first.within in omega arith)
under-first seen name (entry ∷ entries) zero d first = rw first.named refl
under-first seen name (entry ∷ entries) (suc i) d first =
    rw (first.before 0 (omega arith)) (under-first seen name entries i d (later name entry entries i d first))

-- with another entry of that name in its place
under-set : {T V : Type 0} (seen : T → V) (name : List ℕ) (entries : List (Named T)) (i : ℕ) (d entry' : Named T) (n : List ℕ)
    → IsFirst name entries i d → entry'.name ≡ (get_or entries i d).name
    → under seen (set entries i entry') n ≡ (if bytes_eq n name then Some (seen entry'.value) else under seen entries n)
under-set seen name [] i d entry' n first same = absurd (let w = first.within in omega arith)
under-set seen name (entry ∷ entries) zero d entry' n first same =
    let is : name ≡ entry.name = same_bytes name entry.name first.named in
    rw (same, sym is) (twice (bytes_eq n name) (Some (seen entry'.value)) (Some (seen entry.value)) (under seen entries n))
under-set seen name (entry ∷ entries) (suc i) d entry' n first same =
    let differ = first.before 0 (omega arith) in
    rw (under-set seen name entries i d entry' n (later name entry entries i d first) same)
    (swapped (bytes_eq n entry.name) (bytes_eq n name) (Some (seen entry.value)) (Some (seen entry'.value)) (under seen entries n)
    (apart n name entry.name differ))

-- nothing has the name
none_from : {T V : Type 0} (seen : T → V) (name : List ℕ) (entries : List (Named T))
    → length entries ≤ position_or_len (is_named name) entries → under seen entries name ≡ None
none_from seen name [] past = refl
none_from seen name (entry ∷ entries) past =
    elim (cases_Bool (is_named name entry)) [
      | inl t ↦ absurd (let k = rw t at past in omega arith)
      | inr f ↦ rw f (none_from seen name entries (let k = rw f at past in omega arith))
    ]

pub none_named : {T V : Type 0} (seen : T → V) (name : List ℕ) (entries : List (Named T))
    → position (is_named name) entries ≡ None → under seen entries name ≡ None
none_named seen name entries e =
    elim (cases_lt (position_or_len (is_named name) entries) (length entries)) [
      | inl below ↦ absurd (let k = rw (lt-ltb _ _ below) at e in cc)
      | inr past ↦ none_from seen name entries past
    ]

-- what stands under a name, at its place
pub some_named : {T V : Type 0} (seen : T → V) (name : List ℕ) (entries : List (Named T)) (i : ℕ) (entry : Named T)
    → position (is_named name) entries ≡ Some i → entry ≡ get_or entries i entry → under seen entries name ≡ Some (seen entry.value)
some_named seen name entries i entry at is =
    under-first seen name entries i entry (first_at name entries i entry at)
    ∙ ap (λ (e : Named _). Some (seen e.value)) (sym is)

-- what stands under a name became another, as G says
pub changed_at : {T V : Type 0} (seen : T → V) (name : List ℕ) (entries : List (Named T)) (i : ℕ) (entry entry' : Named T)
    (G : Option V → Option V)
    → position (is_named name) entries ≡ Some i → entry ≡ get_or entries i entry → entry'.name ≡ entry.name
    → G (Some (seen entry.value)) ≡ Some (seen entry'.value)
    → (n : List ℕ) → under seen (set entries i entry') n ≡ (if bytes_eq n name then G (under seen entries n) else under seen entries n)
changed_at seen name entries i entry entry' G at is same makes n =
    under-set seen name entries i entry entry' n (first_at name entries i entry at) (same ∙ ap (λ (e : Named _). e.name) is)
    ∙ at_name (bytes_eq n name) _ _ _
    (λ t. sym makes ∙ ap G (sym (some_named seen name entries i entry at is) ∙ ap (under seen entries) (sym (same_bytes n name t))))

-- nothing changes, since G leaves what stands under the name
pub left_alone : {T V : Type 0} (seen : T → V) (name : List ℕ) (entries : List (Named T)) (G : Option V → Option V)
    → G (under seen entries name) ≡ under seen entries name
    → (n : List ℕ) → under seen entries n ≡ (if bytes_eq n name then G (under seen entries n) else under seen entries n)
left_alone {V = V} seen name entries G leaves n =
    by (bytes_eq n name) refl
  where
    by : (b : Bool) → bytes_eq n name ≡ b → under seen entries n ≡ (if b then G (under seen entries n) else under seen entries n)
    by true t = subst (λ (m : List ℕ). under seen entries m ≡ G (under seen entries m)) (sym (same_bytes n name t)) (sym leaves)
    by false f = refl

-- there was nothing of the name
pub absent : {T V : Type 0} (seen : T → V) (name : List ℕ) (entries : List (Named T)) (G : Option V → Option V)
    → position (is_named name) entries ≡ None → G None ≡ None
    → (n : List ℕ) → under seen entries n ≡ (if bytes_eq n name then G (under seen entries n) else under seen entries n)
absent seen name entries G at none =
    let e = none_named seen name entries at in
    left_alone seen name entries G (ap G e ∙ none ∙ sym e)

-- one entry more at the end, behind a head
pushed_past : {T V : Type 0} (seen : T → V) (entries : List (Named T)) (e entry : Named T) (n : List ℕ) (b : Bool)
    → is_named entry.name e ≡ b → under seen (e ∷ entries) entry.name ≡ None
    → (under seen entries entry.name ≡ None
    → under seen (entries ++ entry ∷ []) n ≡ (if bytes_eq n entry.name then Some (seen entry.value) else under seen entries n))
    → under seen (e ∷ (entries ++ entry ∷ [])) n ≡ (if bytes_eq n entry.name then Some (seen entry.value) else under seen (e ∷ entries) n)
pushed_past seen entries e entry n true t none more = absurd (let k = rw t at none in cc)
pushed_past seen entries e entry n false f none more =
    rw (more (rw f at none))
    (swapped (bytes_eq n e.name) (bytes_eq n entry.name) (Some (seen e.value)) (Some (seen entry.value)) (under seen entries n)
    (apart n entry.name e.name f))

-- one entry more at the end
pub pushed : {T V : Type 0} (seen : T → V) (entries : List (Named T)) (entry : Named T) (n : List ℕ)
    → under seen entries entry.name ≡ None
    → under seen (entries ++ entry ∷ []) n ≡ (if bytes_eq n entry.name then Some (seen entry.value) else under seen entries n)
pushed seen [] entry n none = refl
pushed seen (e ∷ entries) entry n none =
    pushed_past seen entries e entry n (is_named entry.name e) refl none (pushed seen entries entry n)

-- all but those of a name, behind a head
without_past : {T V : Type 0} (seen : T → V) (name : List ℕ) (e : Named T) (entries : List (Named T)) (n : List ℕ) (b : Bool)
    → is_named name e ≡ b
    → under seen (filter (λ e. not (is_named name e)) entries) n ≡ (if bytes_eq n name then None else under seen entries n)
    → under seen (filter (λ e. not (is_named name e)) (e ∷ entries)) n ≡ (if bytes_eq n name then None else under seen (e ∷ entries) n)
without_past seen name e entries n true t more =
    rw (t, more, sym (same_bytes name e.name t))
    (twice (bytes_eq n name) None (Some (seen e.value)) (under seen entries n))
without_past seen name e entries n false f more =
    rw (f, more)
    (swapped (bytes_eq n e.name) (bytes_eq n name) (Some (seen e.value)) None (under seen entries n) (apart n name e.name f))

-- all but those of a name
pub without : {T V : Type 0} (seen : T → V) (name : List ℕ) (entries : List (Named T)) (n : List ℕ)
    → under seen (filter (λ e. not (is_named name e)) entries) n ≡ (if bytes_eq n name then None else under seen entries n)
without seen name [] n = either_way (bytes_eq n name) None
without seen name (e ∷ entries) n = without_past seen name e entries n (is_named name e) refl (without seen name entries n)

-- what was asked of the list as it was lent
pub asked_of : {T : Type 0} (name : List ℕ) (entries : List (Named T)) {lent : List (Named T)} {p q : Option ℕ}
    → p ≡ position (is_named name) lent → lent ≡ entries → p ≡ q → position (is_named name) entries ≡ q
asked_of name entries gave same is = ap (position (is_named name)) (sym same) ∙ sym gave ∙ is

pub none_place : (p : Option ℕ) → is_some p ≡ false → p ≡ None
none_place None e = refl
none_place (Some i) e = absurd (cc)

pub some_place : (p : Option ℕ) → is_some p ≡ true → (i : ℕ) × (p ≡ Some i)
some_place None e = absurd (cc)
some_place (Some i) e = (i, refl)

-- where there is a place there is something
pub is_there : {T V : Type 0} (seen : T → V) (name : List ℕ) (entries : List (Named T)) (i : ℕ)
    → position (is_named name) entries ≡ Some i → is_some (under seen entries name) ≡ true
is_there seen name [] i at = absurd (cc)
is_there seen name (e ∷ entries) i at = ap is_some (under-first seen name (e ∷ entries) i e (first_at name (e ∷ entries) i e at))

-- nothing passes the test
pub position_past : {X : Type 0} (p : X → Bool) (xs : List X) → position p xs ≡ None → position_or_len p xs ≡ length xs
position_past p xs e =
    elim (cases_lt (position_or_len p xs) (length xs)) [
      | inl below ↦ absurd (let k = rw (lt-ltb _ _ below) at e in cc)
      | inr past ↦ omega (arith, prefix_len-le-length (λ x. not (p x)) xs)
    ]
