-- What a feed up to a line's end, or without one, gives.
use Rattle.std.proofs.Common.{◌≡◌, ℕ, ◌+◌, ◌-◌, ◌≤◌, ◌<◌, Bool, true, false, List, [], ◌∷◌, ◌++◌, length, take, drop, ap, ap₂, sym, subst, ◌∙◌, refl, arith, append_assoc, append-nil, length-append, if◌then◌else◌}
use Rattle.std.specs.Prelude.{nat_lt, ◌||◌}
use Rattle.std.proofs.lemmas.Bool.{ltb-false}
use Rattle.std.proofs.lemmas.List.{take-append-drop, take-append-le, drop-append-le, take_all, take_at, drop_all, drop_at, length-take-le, length-drop}
use Rattle.chk_chunk.specs.Keys.{chunk_limit, record_limit}
use Rattle.chk_world.specs.Splits.{lines_from, has_stamp, records_behind}
use Rattle.chk_demux_split.specs.LineFronts.{GoesOn}
use Rattle.chk_demux_split.specs.Splitting.{Splitting, Feeds, record_of, records_after, begins_record, complete_size}
use Rattle.chk_demux_split.proofs.LineLemmas.{lines_grow}

-- the lines of more bytes behind those that the line takes
lines_behind : (l a more : List ℕ) (ends : Bool) → GoesOn l a ends
    → lines_from l (a ++ more) ≡ (if ends then (l ++ a) ∷ lines_from [] more else lines_from (l ++ a) more)
lines_behind l a more true on =
    lines_grow l a more
    ∙ ap₂ (λ x y. x ++ lines_from y more) on.lines on.left
lines_behind l a more false on =
    lines_grow l a more
    ∙ ap₂ (λ x y. x ++ lines_from y more) on.lines on.left

abbrev pub made : Bool → List ℕ → List ℕ → List ℕ → Splitting
made t given begun line = record { by_stamps = t; given = given; begun = begun; line = line }

-- the line isn't at its end
pub line_open : (t : Bool) (x p l a : List ℕ) → GoesOn l a false → length p ≤ record_limit
    → Feeds (made t x p l) (made t [] p (l ++ a)) a
line_open t x p l a on few = record {
  kind = refl;
  kept = append_assoc p l a;
  ahead =
      λ more. ap (λ ls. if t then records_after p ls else ls) (lines_behind l a more false on);
  most = let room = on.room refl in omega (arith, few, room);
}

-- the size of a complete record
pub record Sizes (t : Bool) (p f : List ℕ) (g : ℕ) : Type 0 where
  pub within : g ≤ length p + length f
  pub rest : length p + length f - g ≤ record_limit
  pub plain : t ≡ false → g ≡ length p + length f

fits_behind : (p f : List ℕ) → begins_record p f ≡ false → length p + length f ≤ record_limit
fits_behind p f e = by (has_stamp f) e
  where
    by : (s : Bool) → (s || nat_lt record_limit (length p + length f)) ≡ false
        → length p + length f ≤ record_limit
    by true e = absurd (cc)
    by false e = ltb-false record_limit (length p + length f) e

pub sizes : (t : Bool) (p f : List ℕ) → length p ≤ record_limit → length f ≤ chunk_limit
    → Sizes t p f (complete_size t p f)
sizes true [] f few most =
    record { within = omega arith; rest = omega (arith, most); plain = λ e. absurd (cc) }
sizes false [] f few most =
    record { within = omega arith; rest = omega arith; plain = λ e. omega arith }
sizes false (b ∷ p) f few most =
    record { within = omega arith; rest = omega arith; plain = λ e. refl }
sizes true (b ∷ p) f few most = by (begins_record (b ∷ p) f) refl
  where
    by : (s : Bool) → begins_record (b ∷ p) f ≡ s
        → Sizes true (b ∷ p) f (if s then length (b ∷ p) else 0)
    by true e =
        record { within = omega arith; rest = omega (arith, most); plain = λ e. absurd (cc) }
    by false e =
        let fits = fits_behind (b ∷ p) f e in
        record { within = omega arith; rest = omega (arith, fits); plain = λ e. absurd (cc) }

take_whole : (l : List ℕ) → take (length l) l ≡ l
take_whole l = take_all (length l) l (omega arith)

-- the records of the lines behind a line that has ended
records_step : (t : Bool) (p f : List ℕ) (ls : List (List ℕ)) → 0 < length f
    → (t ≡ false → p ≡ [])
    → (if t then records_after p (f ∷ ls) else f ∷ ls)
    ≡ record_of (take (complete_size t p f) (p ++ f))
    ++ (if t then records_after (drop (complete_size t p f) (p ++ f)) ls else ls)
records_step t p [] ls some plain = absurd (let z : ⊥ = omega (arith, some) in z)
records_step true [] (c ∷ f) ls some plain = refl
records_step false [] (c ∷ f) ls some plain =
    ap (λ r. record_of r ++ ls) (sym (take_whole (c ∷ f)))
records_step false (b ∷ p) (c ∷ f) ls some plain = let none = plain refl in absurd (cc)
records_step true (b ∷ p) (c ∷ f) ls some plain = by (begins_record (b ∷ p) (c ∷ f))
  where
    by : (s : Bool)
        → elim s as (λ s. List (List ℕ)) [
          | true ↦ (b ∷ p) ∷ records_behind (c ∷ f) ls
          | false ↦ records_behind ((b ∷ p) ++ c ∷ f) ls
        ]
        ≡ record_of (take (if s then length (b ∷ p) else 0) ((b ∷ p) ++ c ∷ f))
        ++ records_after (drop (if s then length (b ∷ p) else 0) ((b ∷ p) ++ c ∷ f)) ls
    by true =
        ap₂ (λ x y. record_of x ++ records_after y ls)
        (sym (take_at (b ∷ p) (c ∷ f) (length (b ∷ p)) refl))
        (sym (drop_at (b ∷ p) (c ∷ f) (length (b ∷ p)) refl))
    by false = refl

-- the line has ended
pub line_ended : (t : Bool) (x p l a : List ℕ) → GoesOn l a true → length p ≤ record_limit
    → (t ≡ false → p ≡ [])
    → Feeds (made t x p l)
    (made t (take (complete_size t p (l ++ a)) (p ++ (l ++ a)))
    (drop (complete_size t p (l ++ a)) (p ++ (l ++ a))) []) a
line_ended t x p l a on few plain =
    let g = complete_size t p (l ++ a) in
    let w = p ++ (l ++ a) in
    let parts = take-append-drop g w in
    let sum = length-append (take g w) (drop g w) in
    let whole = ap length parts in
    let size = length-append p (l ++ a) in
    let line = length-append l a in
    let most = on.most in
    let some = on.some refl in record {
      kind = refl;
      kept =
          append_assoc p l a ∙ sym parts ∙ sym (append-nil (take g w ++ drop g w));
      ahead =
          λ more. ap (λ ls. if t then records_after p ls else ls) (lines_behind l a more true on)
          ∙ records_step t p (l ++ a) (lines_from [] more) (omega (arith, line, some)) plain;
      most = omega (arith, sum, whole, size, most, few);
    }

-- ---- of what is held, and where it is cut

same : (t : Bool) (g h p q l m : List ℕ) → g ≡ h → p ≡ q → l ≡ m → made t g p l ≡ made t h q m
same t g h p q l m gh pq lm =
    ap (λ x. made t x p l) gh ∙ ap₂ (made t h) pq lm

module _ (t : Bool) (x h a : List ℕ) (b : ℕ) (within : b ≤ length h) (few : b ≤ record_limit)
    (plain : t ≡ false → b ≡ 0) where
  front : length (take b h) ≡ b
  front = length-take-le b h within

  cut : h ++ a ≡ take b h ++ (drop b h ++ a)
  cut = ap (λ l. l ++ a) (sym (take-append-drop b h)) ∙ append_assoc (take b h) (drop b h) a

  pub begun_same : take b (h ++ a) ≡ take b h
  begun_same = take-append-le b h a within

  pub line_more : drop b (h ++ a) ≡ drop b h ++ a
  line_more = drop-append-le b h a within

  pub feed_open : GoesOn (drop b h) a false
      → Feeds (made t x (take b h) (drop b h))
      (made t [] (take b (h ++ a)) (drop b (h ++ a))) a
  feed_open on =
      subst (λ n. Feeds (made t x (take b h) (drop b h)) n a)
      (sym (same t [] [] (take b (h ++ a)) (take b h) (drop b (h ++ a)) (drop b h ++ a)
      refl begun_same line_more))
      (line_open t x (take b h) (drop b h) a on (omega (arith, front, few)))

  pub feed_ended : (g : ℕ) → g ≡ complete_size t (take b (h ++ a)) (drop b (h ++ a))
      → GoesOn (drop b h) a true
      → Feeds (made t x (take b h) (drop b h))
      (made t (take g (h ++ a)) (take (length (h ++ a) - g) (drop g (h ++ a)))
      (drop (length (h ++ a) - g) (drop g (h ++ a)))) a
  feed_ended g is on =
      let size : g ≡ complete_size t (take b h) (drop b h ++ a) =
      is ∙ ap₂ (complete_size t) begun_same line_more in
      let left = length-drop g (h ++ a) in
      let rest = drop g (h ++ a) in
      subst (λ n. Feeds (made t x (take b h) (drop b h)) n a)
      (sym (same t (take g (h ++ a)) _ (take (length (h ++ a) - g) rest) _
      (drop (length (h ++ a) - g) rest) []
      (ap₂ take size cut)
      (ap (λ n. take n rest) (sym left) ∙ take_whole rest ∙ ap₂ drop size cut)
      (ap (λ n. drop n rest) (sym left) ∙ drop_all (length rest) rest (omega arith))))
      (line_ended t x (take b h) (drop b h) a on (omega (arith, front, few))
      (λ e. let none = plain e in ap (λ n. take n h) none))

  pub feed_sizes : (g : ℕ) → g ≡ complete_size t (take b (h ++ a)) (drop b (h ++ a))
      → length (drop b h ++ a) ≤ chunk_limit
      → (g ≤ length (h ++ a)) × (length (h ++ a) - g ≤ record_limit)
      × (t ≡ false → length (h ++ a) - g ≡ 0)
  feed_sizes g is most =
      let size : g ≡ complete_size t (take b h) (drop b h ++ a) =
      is ∙ ap₂ (complete_size t) begun_same line_more in
      let all = ap length cut in
      let parts = length-append (take b h) (drop b h ++ a) in
      let known = sizes t (take b h) (drop b h ++ a) (omega (arith, front, few)) most in
      let within = known.within in
      let rest = known.rest in (
        omega (arith, size, all, parts, within),
        omega (arith, size, all, parts, rest),
        λ e. let whole = known.plain e in omega (arith, size, all, parts, whole),
      )
