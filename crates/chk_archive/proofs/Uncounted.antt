-- A segment file whose number is none is never there.
use Rattle.std.proofs.Common.{◌≡◌, inl, inr, ℕ, zero, suc, ◌+◌, ◌/◌, ◌%◌, ◌<◌, ◌≤◌, ◌^◌, Bool, true, false, ◌&&◌, ◌==◌, List, [], ◌∷◌, ◌++◌, length, drop, ap, sym, ◌∙◌, refl, arith, true≢false, if◌then◌else◌, decimal, None, bytes_eq}
use Rattle.std.specs.Prelude.{codes, nat_lt}
use Rattle.std.specs.Fmt.{digits, digits_onto, digit_glyph}
use Rattle.std.specs.Str.Parse.{digits_value}
use Rattle.std.proofs.lemmas.Bool.{and_parts, ne_eqb, lt-ltb, ltb-true, ltb-false, cases_Bool}
use Rattle.std.proofs.lemmas.Fmt.{decimal_is_IsNumeral_wide, length-decimal-le}
use Rattle.chk_bytes.specs.Stems.{is_count}
use Rattle.chk_bytes.specs.Words.{before_end}
use Rattle.chk_site.specs.declared.acts.Role.{Role}
use Rattle.chk_site.specs.declared.acts.Role.TheVariants.{Agent, Collector, Job, Writer}
use Rattle.chk_site.specs.declared.acts.Who.{Who}
use Rattle.chk_site.specs.History.{History, files_after}
use Rattle.chk_world.specs.Names.{ArchiveFolder, DemuxFolder, JoinedFolder, Name, BornFile, SinkFile, MarkFile, DoneFile, CheckFile, BookFile, SegmentFile, Temporary, OtherFile, picked, guessed_name, if_spelled, read, spell, owns, owns_by, file, is_known}
use Rattle.chk_world.specs.Rules.{Legal}
use Rattle.chk_world.proofs.Ends.{bytes_same}
use Rattle.chk_world.proofs.Nobody.{never_there}

-- ---- numbers and their digits

ten_some : (j : ℕ) → 1 ≤ 10 ^ j
ten_some zero = omega arith
ten_some (suc j) = let low = ten_some j in omega (arith, low)

pub next : (j n : ℕ) (acc : List ℕ) → 10 ≤ n
    → digits_onto (suc j) 10 false n acc ≡ digits_onto j 10 false (n / 10) (digit_glyph false (n % 10) ∷ acc)
next j n acc h =
    ap (λ t. if t then digit_glyph false (n % 10) ∷ acc
    else digits_onto j 10 false (n / 10) (digit_glyph false (n % 10) ∷ acc))
    (ne_eqb (n / 10) 0 (λ e. let z : ⊥ = omega (arith, e, h) in z))

pub long : (j n : ℕ) (acc : List ℕ) → 10 ^ j ≤ n → length (digits_onto j 10 false n acc) ≡ j + length acc
long zero n acc big = omega arith
long (suc j) n acc big =
    let some = ten_some j in
    let ten : 10 ≤ n = omega (arith, some, big) in
    let step = ap length (next j n acc ten) in
    let rest = long j (n / 10) (digit_glyph false (n % 10) ∷ acc) (omega (arith, big)) in
    omega (arith, step, rest)

-- a number of 64 digits or more has 64 of them
pub wide : (k : ℕ) → 10 ^ 64 ≤ k → length (decimal k) ≡ 64
unfolding digits
wide k big = let e = long 64 k [] big in omega (arith, e)

abbrev last_of : ℕ → List ℕ → ℕ
last_of d [] = d
last_of d (x ∷ xs) = last_of x xs

last_stays : (j n x : ℕ) (acc : List ℕ) → last_of 0 (digits_onto j 10 false n (x ∷ acc)) ≡ last_of x acc
last_stays zero n x acc = refl
last_stays (suc j) n x acc = go (n / 10 == 0) (last_stays j (n / 10) (digit_glyph false (n % 10)) (x ∷ acc))
  where
    g : ℕ
    g = digit_glyph false (n % 10)

    go : (t : Bool) → last_of 0 (digits_onto j 10 false (n / 10) (g ∷ x ∷ acc)) ≡ last_of x acc
        → last_of 0 (if t then g ∷ x ∷ acc else digits_onto j 10 false (n / 10) (g ∷ x ∷ acc)) ≡ last_of x acc
    go true rest = refl
    go false rest = rest

last_digit : (j n : ℕ) → last_of 0 (digits_onto (suc j) 10 false n []) ≡ 48 + n % 10
last_digit j n = go (n / 10 == 0) ∙ ap (λ t. if t then 48 + n % 10 else 87 + n % 10) (lt-ltb (n % 10) 10 (omega arith))
  where
    g : ℕ
    g = digit_glyph false (n % 10)

    go : (t : Bool) → last_of 0 (if t then g ∷ [] else digits_onto j 10 false (n / 10) (g ∷ [])) ≡ g
    go true = refl
    go false = last_stays j (n / 10) g []

last_small : (k : ℕ) → last_of 0 (decimal k) ≡ 48 + k % 10
unfolding digits
last_small k = last_digit 63 k

last_join : (xs ys : List ℕ) (d y : ℕ) → last_of d (xs ++ y ∷ ys) ≡ last_of y ys
last_join [] ys d y = refl
last_join (x ∷ xs) ys d y = last_join xs ys x y

-- two numbers that are spelled alike are the same, where one is below the limit
pub same_number : (m k : ℕ) → m < 2 ^ 63 → decimal m ≡ decimal k → m ≡ k
same_number m k small e = elim (cases_Bool (nat_lt k (10 ^ 64))) [
  | inl low ↦
      sym (decimal_is_IsNumeral_wide m (omega (arith, small))).1
      ∙ (ap (digits_value 10) e ∙ (decimal_is_IsNumeral_wide k (ltb-true k (10 ^ 64) low)).1)
  | inr high ↦
      let short = length-decimal-le 19 m (omega arith) (omega (arith, small)) (omega (arith, small)) in
      let all = wide k (ltb-false k (10 ^ 64) high) in
      let both = ap length e in
      absurd (let z : ⊥ = omega (arith, short, all, both) in z)
]

-- ---- names

abbrev first_of : List ℕ → ℕ
first_of [] = 0
first_of (x ∷ xs) = x

no_name : (k : ℕ) → is_count k ≡ false → (n : Name) → is_known n ≡ true → spell n ≡ spell (SegmentFile ArchiveFolder k) → ⊥
unfolding spell
no_name k none (BornFile c) known e = let z : 115 ≡ 97 = ap first_of e in omega (arith, z)
no_name k none (SinkFile x) known e = let z : 115 ≡ 97 = ap first_of e in omega (arith, z)
no_name k none (MarkFile x) known e = let z : 115 ≡ 97 = ap first_of e in omega (arith, z)
no_name k none (DoneFile x) known e = let z : 115 ≡ 97 = ap first_of e in omega (arith, z)
no_name k none (CheckFile source) known e = let z : 103 ≡ 114 = ap (λ l. first_of (drop 1 l)) e in omega (arith, z)
no_name k none (BookFile ArchiveFolder) known e = let z : 98 ≡ 115 = ap (λ l. first_of (drop 8 l)) e in omega (arith, z)
no_name k none (BookFile DemuxFolder) known e = let z : 100 ≡ 97 = ap first_of e in omega (arith, z)
no_name k none (BookFile JoinedFolder) known e = let z : 106 ≡ 97 = ap first_of e in omega (arith, z)
no_name k none (SegmentFile ArchiveFolder m) known e =
    let small : m < 2 ^ 63 = ltb-true m (2 ^ 63) (and_parts (nat_lt 0 m) (nat_lt m (2 ^ 63)) known).1 in
    let same = same_number m k small (ap (drop 12) e) in
    true≢false (sym known ∙ (ap is_count same ∙ none))
no_name k none (SegmentFile DemuxFolder m) known e = let z : 100 ≡ 97 = ap first_of e in omega (arith, z)
no_name k none (SegmentFile JoinedFolder m) known e = let z : 106 ≡ 97 = ap first_of e in omega (arith, z)
no_name k none (Temporary n) known e =
    let p : last_of 0 (spell n ++ codes ".tmp") ≡ 112 = last_join (spell n) (codes "tmp") 0 46 in
    let q : last_of 0 (spell n ++ codes ".tmp") ≡ last_of 46 (decimal k) = ap (last_of 0) e in
    ends (decimal k) (sym q ∙ p) (last_small k)
  where
    ends : (ds : List ℕ) → last_of 46 ds ≡ 112 → last_of 0 ds ≡ 48 + k % 10 → ⊥
    ends [] a b = omega (arith, a)
    ends (d ∷ ds) a b = omega (arith, a, b)
no_name k none (OtherFile w) known e = true≢false (sym known)

reads_other : (k : ℕ) → is_count k ≡ false
    → read (spell (SegmentFile ArchiveFolder k)) ≡ OtherFile (spell (SegmentFile ArchiveFolder k))
unfolding read
reads_other k none = go (picked (λ t. Temporary (guessed_name t)) (before_end (codes ".tmp") w) (guessed_name w))
  where
    w : List ℕ
    w = spell (SegmentFile ArchiveFolder k)

    go : (n : Name) → if_spelled n w ≡ OtherFile w
    go n = test (is_known n && bytes_eq (spell n) w) refl
      where
        test : (b : Bool) → (is_known n && bytes_eq (spell n) w) ≡ b → (if b then n else OtherFile w) ≡ OtherFile w
        test true e =
            let p = and_parts (is_known n) (bytes_eq (spell n) w) e in
            absurd (no_name k none n p.0 (bytes_same (spell n) w p.1))
        test false e = refl

nobody : (k : ℕ) (who : Who) → owns who (OtherFile (spell (SegmentFile ArchiveFolder k))) ≡ false
unfolding spell
nobody k who = go who.role
  where
    go : (role : Role) → owns_by role who.name (OtherFile (codes "archive" ++ (codes "/seg." ++ decimal k))) ≡ false
    go Agent = refl
    go Collector = refl
    go Job = refl
    go Writer = refl

pub uncounted : (stamped : List (List ℕ)) (h : History) → Legal stamped h → (k : ℕ) → is_count k ≡ false
    → file (files_after h) (SegmentFile ArchiveFolder k) ≡ None
uncounted stamped h legal k none =
    never_there (spell (SegmentFile ArchiveFolder k)) (λ who. ap (owns who) (reads_other k none) ∙ nobody k who) stamped h legal
