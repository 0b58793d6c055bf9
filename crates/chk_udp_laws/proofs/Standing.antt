-- What stands in a writer's files, whatever it does next.
use Rattle.std.proofs.Common.{◌≡◌, inl, inr, ℕ, zero, suc, ◌+◌, ◌<◌, ◌≤◌, ◌==◌, List, [], ◌++◌, length, take, drop, Option, Some, None, option_map, refl, sym, ◌∙◌, ap, ap₂, subst, arith, append-nil, length-append}
use Rattle.std.specs.Prelude.{nat_lt}
use Rattle.std.proofs.lemmas.Bool.{cases_Bool, ltb-true, ltb-false, eqb-true, eqb-false}
use Rattle.std.proofs.lemmas.List.{take-append-le, take-append-drop, length-take-le}
use Rattle.std.proofs.Math.Seq.{take-length}
use Rattle.chk_bytes.specs.Numbers.{be64, spelled}
use Rattle.chk_bytes.proofs.NumberLemmas.{spelled-be64}
use Rattle.chk_site.specs.Files.{File, IsSettled, grown, secured, shortened}
use Rattle.chk_site.specs.Effect.{with_tail}
use Rattle.chk_replace.specs.Replace.{whole}
use Rattle.chk_wahead.specs.States.{last_number}
use Rattle.chk_udp_laws.specs.Marked.{bytes_in, closed_in, under_mark}

-- the number of the last buffer; 0 where there is no file
abbrev pub Numbered : ℕ → Option File → Type 0
Numbered k None = k ≡ 0
Numbered k (Some f) = f ≡ whole (be64 k)

-- a buffer stands before it is closed under its number
abbrev pub IsFresh : ℕ → (ℕ → Option File) → Option File → Type 0
IsFresh k c None = Unit {0}
IsFresh k c (Some f) = (c k ≡ None) × (1 ≤ k)

abbrev pub Covers : ℕ → Option File → Type 0
Covers size None = Unit {0}
Covers size (Some f) = (size ≤ f.synced) × (f.synced ≤ length f.bytes)

-- the mark is of bytes that are synced
pub record IsMarkOf (g : File) (b : Option File) : Type 0 where
  pub size : ℕ
  pub is : g ≡ whole (be64 size)
  pub some : 1 ≤ size
  pub low : size ≤ last_number
  pub covers : Covers size b

abbrev pub MarkFits : Option File → Option File → Type 0
MarkFits None b = Unit {0}
MarkFits (Some g) b = IsMarkOf g b

-- the closed buffers, the buffer, its mark and its number, with the number and all that is marked
pub record Stands (c : ℕ → Option File) (b m x : Option File) (k : ℕ) (s : List ℕ) : Type 0 where
  pub low : k ≤ last_number
  pub number : Numbered k x
  pub absent : (j : ℕ) → k < j → j ≤ last_number → c j ≡ None
  pub settled : (j : ℕ) → j ≤ last_number → IsSettled (c j)
  pub fresh : IsFresh k c b
  pub mark : MarkFits m b
  pub is : closed_in c k ++ under_mark b m ≡ s

-- ---- closed buffers

pub closed_same : (c d : ℕ → Option File) (k : ℕ) → ((j : ℕ) → j ≤ k → d j ≡ c j)
    → closed_in d k ≡ closed_in c k
closed_same c d zero same = ap bytes_in (same 0 (omega arith))
closed_same c d (suc k) same =
    ap₂ (λ x y. x ++ y) (closed_same c d k (λ j h. same j (omega (arith, h))))
    (ap bytes_in (same (suc k) (omega arith)))

closed_next : (c : ℕ → Option File) (k : ℕ)
    → closed_in c (k + 1) ≡ closed_in c k ++ bytes_in (c (k + 1))
closed_next c k =
    let e : k + 1 ≡ suc k = omega arith in
    ap (closed_in c) e ∙ ap (λ i. closed_in c k ++ bytes_in (c i)) (sym e)

-- none above the number
pub closed_above : (c : ℕ → Option File) (k l : ℕ) → k ≤ l → ((j : ℕ) → k < j → j ≤ l → c j ≡ None)
    → closed_in c l ≡ closed_in c k
closed_above c k zero low none =
    let e : 0 ≡ k = omega (arith, low) in
    ap (closed_in c) e
closed_above c k (suc l) low none = elim (cases_Bool (nat_lt k (suc l))) [
  | inl less ↦
      let h : k < suc l = ltb-true k (suc l) less in
      ap₂ (λ x y. x ++ y) (closed_above c k l (omega (arith, h))
      (λ j above under. none j above (omega (arith, under))))
      (ap bytes_in (none (suc l) h (omega arith))) ∙ append-nil (closed_in c k)
  | inr not_less ↦
      let h : suc l ≤ k = ltb-false k (suc l) not_less in
      let e : suc l ≡ k = omega (arith, low, h) in
      ap (closed_in c) e
]

-- ---- marks

pub small_spelled : (k : ℕ) → k ≤ last_number → spelled (be64 k) ≡ k
small_spelled k low = spelled-be64 k (omega (arith, low))

front_of : (xs ys : List ℕ) (n : ℕ) → n ≤ length xs → take n (xs ++ ys) ≡ take n xs
front_of xs ys n low = take-append-le n xs ys low

front_within : (xs : List ℕ) (n i : ℕ) → n ≤ i → i ≤ length xs → take n (take i xs) ≡ take n xs
front_within xs n i low within =
    sym (take-append-le n (take i xs) (drop i xs) (omega (arith, low, length-take-le i xs within)))
    ∙ ap (take n) (take-append-drop i xs)

-- what is under a mark, by the mark's number
pub under_is : (f g : File) (size : ℕ) → g ≡ whole (be64 size) → size ≤ last_number
    → under_mark (Some f) (Some g) ≡ take size f.bytes
under_is f g size is low = ap (λ (h : File). take (spelled h.bytes) f.bytes) is
    ∙ ap (λ k. take k f.bytes) (small_spelled size low)

-- a change of the buffer past what is marked
pub under_past : (m : Option File) (f h : File) → MarkFits m (Some f)
    → ((n : ℕ) → n ≤ f.synced → f.synced ≤ length f.bytes → take n h.bytes ≡ take n f.bytes)
    → under_mark (Some h) m ≡ under_mark (Some f) m
under_past None f h fits same = refl
under_past (Some g) f h fits same =
    under_is h g fits.size fits.is fits.low ∙ same fits.size fits.covers.0 fits.covers.1
    ∙ sym (under_is f g fits.size fits.is fits.low)

covers_past : (m : Option File) (f h : File) → MarkFits m (Some f)
    → ((n : ℕ) → n ≤ f.synced → f.synced ≤ length f.bytes → Covers n (Some h))
    → MarkFits m (Some h)
covers_past None f h fits same = tt
covers_past (Some g) f h fits same = record {
  size = fits.size;
  is = fits.is;
  some = fits.some;
  low = fits.low;
  covers = same fits.size fits.covers.0 fits.covers.1;
}

tail_covers : (f : File) (tail : List ℕ) (n : ℕ) → n ≤ f.synced → f.synced ≤ length f.bytes
    → Covers n (Some (with_tail (Some tail) f))
tail_covers f tail n low within = (
  low,
  omega (
    arith,
    within,
    length-append (take f.synced f.bytes) tail,
    length-take-le f.synced
        f.bytes within,
  ),
)

tail_front : (f : File) (tail : List ℕ) (n : ℕ) → n ≤ f.synced → f.synced ≤ length f.bytes
    → take n (take f.synced f.bytes ++ tail) ≡ take n f.bytes
tail_front f tail n low within =
    front_of (take f.synced f.bytes) tail n (omega
    (arith, low, length-take-le f.synced f.bytes within))
    ∙ front_within f.bytes n f.synced low within

module _ {c : ℕ → Option File} {x : Option File} {k : ℕ} {s : List ℕ} where
  -- the buffer is another file, with the marked bytes at its front
  pub past : {m : Option File} (f h : File) → Stands c (Some f) m x k s
      → ((n : ℕ) → n ≤ f.synced → f.synced ≤ length f.bytes → take n h.bytes ≡ take n f.bytes)
      → ((n : ℕ) → n ≤ f.synced → f.synced ≤ length f.bytes → Covers n (Some h))
      → Stands c (Some h) m x k s
  past {m = m} f h st same covers = record {
    low = st.low;
    number = st.number;
    absent = st.absent;
    settled = st.settled;
    fresh = st.fresh;
    mark = covers_past m f h st.mark covers;
    is = ap (λ t. closed_in c k ++ t) (under_past m f h st.mark same) ∙ st.is;
  }

  pub with_tails : {m : Option File} (b : Option File) (tail : Option (List ℕ)) → Stands c b m x k s
      → Stands c (option_map (with_tail tail) b) m x k s
  with_tails None tail st = st
  with_tails (Some f) None st = st
  with_tails (Some f) (Some tail) st =
      past f (with_tail (Some tail) f) st (tail_front f tail) (tail_covers f tail)

  pub grows : {m : Option File} (f : File) (junk : List ℕ) → Stands c (Some f) m x k s
      → Stands c (Some (grown junk f)) m x k s
  grows f junk st =
      past f (grown junk f) st (λ n low within. front_of f.bytes junk n
      (omega (arith, low, within)))
      (λ n low within. (low, omega (arith, within, length-append f.bytes junk)))

  pub syncs : {m : Option File} (f : File) → Stands c (Some f) m x k s
      → Stands c (Some (secured f)) m x k s
  syncs f st =
      past f (secured f) st (λ n low within. refl)
      (λ n low within. (omega (arith, low, within), omega arith))

  -- a new buffer
  pub begins : Stands c None None x k s → c k ≡ None → 1 ≤ k
      → Stands c (Some (record { bytes = []; synced = 0 })) None x k s
  begins st free some = record {
    low = st.low;
    number = st.number;
    absent = st.absent;
    settled = st.settled;
    fresh = (free, some);
    mark = tt;
    is = st.is;
  }

  -- a new number
  pub numbers : {m : Option File} → Stands c None m x k s → k + 1 ≤ last_number
      → Stands c None m (Some (whole (be64 (k + 1)))) (k + 1) s
  numbers {m = m} st low = record {
    low = low;
    number = refl;
    absent = λ j above under. st.absent j (omega (arith, above)) under;
    settled = st.settled;
    fresh = tt;
    mark = st.mark;
    is = ap (λ t. t ++ []) (closed_next c k ∙ ap (λ o. closed_in c k ++ bytes_in o)
        (st.absent (k + 1) (omega arith) low)
        ∙ append-nil (closed_in c k)) ∙ st.is;
  }

  -- no mark more, where there is no buffer
  pub unmarks : {m : Option File} → Stands c None m x k s → Stands c None None x k s
  unmarks {m = m} st = record {
    low = st.low;
    number = st.number;
    absent = st.absent;
    settled = st.settled;
    fresh = tt;
    mark = tt;
    is = st.is;
  }

  -- no buffer more, where it has no mark
  pub drops : (f : File) → Stands c (Some f) None x k s → Stands c None None x k s
  drops f st = record {
    low = st.low;
    number = st.number;
    absent = st.absent;
    settled = st.settled;
    fresh = tt;
    mark = tt;
    is = st.is;
  }

  -- the buffer is cut to its mark
  pub cuts : (f : File) (size : ℕ) → Stands c (Some f) (Some (whole (be64 size))) x k s
      → size ≤ last_number
      → Stands c (Some (shortened size f)) (Some (whole (be64 size))) x k s
  cuts f size st low =
      let same : st.mark.size ≡ size =
      sym (small_spelled st.mark.size st.mark.low)
      ∙ (ap (λ (h : File). spelled h.bytes) (sym st.mark.is) ∙ small_spelled size low) in
      let covers = st.mark.covers in
      let fits : size ≤ f.synced = omega (arith, covers.0, same) in
      let at : length (take size f.bytes) ≡ size =
      length-take-le size f.bytes (omega (arith, fits, covers.1)) in
      record {
        low = st.low;
        number = st.number;
        absent = st.absent;
        settled = st.settled;
        fresh = st.fresh;
        mark = record {
          size = size;
          is = refl;
          some = omega (arith, st.mark.some, same);
          low = low;
          covers = (omega (arith, fits), omega (arith, fits, at));
        };
        is = ap (λ t. closed_in c k ++ t)
            (under_is (shortened size f) (whole (be64 size)) size refl low
            ∙ front_within f.bytes size size (omega arith) (omega (arith, fits, covers.1))
            ∙ sym (under_is f (whole (be64 size)) size refl low)) ∙ st.is;
      }

  -- the mark says all of a synced buffer
  pub marks : {m : Option File} (f : File) (size : ℕ) → Stands c (Some f) m x k s
      → size ≡ length f.bytes → f.synced ≡ size → 1 ≤ size
      → size ≤ last_number → Stands c (Some f) (Some (whole (be64 size))) x k
      (closed_in c k ++ f.bytes)
  marks f size st all synced some low = record {
    low = st.low;
    number = st.number;
    absent = st.absent;
    settled = st.settled;
    fresh = st.fresh;
    mark = record {
      size = size;
      is = refl;
      some = some;
      low = low;
      covers = (omega (arith, synced), omega (arith, synced, all));
    };
    is = ap (λ t. closed_in c k ++ t)
        (under_is f (whole (be64 size)) size refl low ∙ ap (λ i. take i f.bytes) all
        ∙ take-length f.bytes);
  }

-- the same files
pub stands_as : {c d : ℕ → Option File} {b b' m m' x x' : Option File} {k : ℕ} {s : List ℕ}
    → ((j : ℕ) → j ≤ last_number → d j ≡ c j) → b' ≡ b → m' ≡ m → x' ≡ x
    → Stands c b m x k s → Stands d b' m' x' k s
stands_as {c = c} {d = d} {b = b} {m = m} {m' = m'} {x' = x'} {k = k} {s =
    s} closed at_b at_m at_x st =
    subst (λ (o : Option File). Stands d o m' x' k s) (sym at_b)
    (subst (λ (o : Option File). Stands d b o x' k s) (sym at_m)
    (subst (λ (o : Option File). Stands d b m o k s) (sym at_x)
    (record {
      low = st.low;
      number = st.number;
      absent = λ j above under. closed j under ∙ st.absent j above under;
      settled = λ j under. subst IsSettled (sym (closed j under)) (st.settled j under);
      fresh = fresh_as b st.fresh;
      mark = st.mark;
      is = ap (λ t. t ++ under_mark b m) (closed_same c d k
          (λ j h. closed j (omega (arith, h, st.low)))) ∙ st.is;
    })))
  where
    fresh_as : (o : Option File) → IsFresh k c o → IsFresh k d o
    fresh_as None h = tt
    fresh_as (Some f) h = (closed k st.low ∙ h.0, h.1)

-- the buffer is closed under its number
pub closes : {c d : ℕ → Option File} {x : Option File} {k : ℕ} {s : List ℕ} (f g : File)
    → Stands c (Some f) (Some g) x k s → f.synced ≡ length f.bytes
    → under_mark (Some f) (Some g) ≡ f.bytes
    → d k ≡ Some f → ((j : ℕ) → j ≤ last_number → (j ≡ k → ⊥) → d j ≡ c j)
    → Stands d None (Some g) x k s
closes {c = c} {d = d} {x = x} {k = k} {s = s} f g st synced all at other = record {
  low = st.low;
  number = st.number;
  absent = λ j above under. other j under (λ e. omega (arith, e, above)) ∙ st.absent j above under;
  settled = λ j under. elim (cases_Bool (j == k)) [
    | inl same ↦ subst (λ i. IsSettled (d i)) (sym (eqb-true j k same))
        (subst IsSettled (sym at) synced)
    | inr apart ↦ subst IsSettled (sym (other j under (eqb-false j k apart))) (st.settled j under)
  ];
  fresh = tt;
  mark = record {
    size = st.mark.size;
    is = st.mark.is;
    some = st.mark.some;
    low =
        st.mark.low;
    covers = tt;
  };
  is = append-nil (closed_in d k)
      ∙ (last_in k st.fresh.1 st.low st.fresh.0 at other
      ∙ (ap (λ t. closed_in c k ++ t) (sym all) ∙ st.is));
}
  where
    last_in : (k : ℕ) → 1 ≤ k → k ≤ last_number → c k ≡ None → d k ≡ Some f
        → ((j : ℕ) → j ≤ last_number → (j ≡ k → ⊥) → d j ≡ c j)
        → closed_in d k ≡ closed_in c k ++ f.bytes
    last_in zero some low free at other = absurd (let z : ⊥ = omega (arith, some) in z)
    last_in (suc k) some low free at other =
        ap₂ (λ a b. a ++ b) (closed_same c d k (λ j h. other j (omega (arith, h, low))
        (λ e. omega (arith, e, h)))) (ap bytes_in at)
        ∙ ap (λ t. t ++ f.bytes) (sym (append-nil (closed_in c k)) ∙ ap
        (λ o. closed_in c k ++ bytes_in o) (sym free))
