-- Where the end of a stream is raised in a list of ends.
use Rattle.std.proofs.Common.{◌≡◌, ◌⊎◌, inl, inr, ℕ, zero, suc, ◌+◌, ◌<◌, Bool, true, false, true≢false, not, ◌&&◌, List, [], ◌∷◌, ◌++◌, length, take, drop, map, get_or, refl, sym, ◌∙◌, ap, subst, append_assoc, arith}
use Rattle.std.specs.Prelude.{slice_set}
use Rattle.std.proofs.Math.Seq.{drop-cons, take-suc}
use Rattle.std.proofs.lemmas.List.{take-append-drop, take-set, drop-set, take-map, drop-map, drop_all, map-append, length-drop, length-map}
use Rattle.std.proofs.lemmas.Bool.{cases_lt}
use Rattle.chk_chunk.specs.Keys.{Stream, same_stream, stream_lt}
use Rattle.chk_record_index.proofs.Orders.{streams}
use Rattle.chk_world.specs.Books.{End}
use Rattle.chk_book.specs.declared.lists.End.{End as EndStruct}
use Rattle.chk_book.specs.Views.{end_view}
use Rattle.chk_book.specs.Segmenting.{raised_end, raised_by}
use Rattle.chk_book.specs.Raising.{IsPlaceOf, ArePassed, AreUpTo, goes_by}
use Rattle.chk_book.proofs.EndRaises.{ending_at, raised_same, raised_put, raised_on, raised_by-behind, raised_by-last}
use Rattle.chk_world.proofs.Rounds.{stream_self}

both_not : (a b : Bool) → (not a && not b) ≡ true → (a ≡ false) × (b ≡ false)
both_not true b e = absurd (true≢false (sym e))
both_not false true e = absurd (true≢false (sym e))
both_not false false e = (refl, refl)

not_both : (a b : Bool) → a ≡ false → (not a && not b) ≡ false → b ≡ true
not_both true b e stop = absurd (true≢false e)
not_both false true e stop = refl
not_both false false e stop = absurd (true≢false stop)

heads : {e f : End} {es fs : List End} → e ∷ es ≡ f ∷ fs → e ≡ f
heads {e = e} same = ap (λ l. first l) same
  where
    first : List End → End
    first [] = e
    first (x ∷ xs) = x

-- an item that is there is the same by any other in its place
pub same_item : (xs : List EndStruct) (i : ℕ) (a b : EndStruct) → i < length xs → get_or xs i a ≡ get_or xs i b
same_item [] i a b low = absurd (let z : ⊥ = omega arith in z)
same_item (x ∷ xs) zero a b low = refl
same_item (x ∷ xs) (suc i) a b low = same_item xs i a b (omega arith)

-- the item at a place, and what stands before and behind it
cut_at : (xs : List EndStruct) (at : ℕ) (x : EndStruct) → at < length xs
    → drop at (map end_view xs) ≡ end_view (get_or xs at x) ∷ drop (at + 1) (map end_view xs)
cut_at xs at x within =
    drop-map end_view at xs
    ∙ (ap (map end_view) (drop-cons xs at x within)
    ∙ ap (λ t. end_view (get_or xs at x) ∷ t) (sym (ap (λ n. drop n (map end_view xs)) (let e : at + 1 ≡ suc at = omega arith in e) ∙ drop-map end_view (suc at) xs)))

front_at : (xs : List EndStruct) (at : ℕ) (x : EndStruct) → at < length xs
    → take (at + 1) (map end_view xs) ≡ take at (map end_view xs) ++ end_view (get_or xs at x) ∷ []
front_at xs at x within =
    ap (λ n. take n (map end_view xs)) (let e : at + 1 ≡ suc at = omega arith in e)
    ∙ (take-map end_view (suc at) xs
    ∙ (ap (map end_view) (take-suc xs at x within)
    ∙ (map-append end_view (take at xs) (get_or xs at x ∷ []) ∙ ap (λ t. t ++ end_view (get_or xs at x) ∷ []) (sym (take-map end_view at xs)))))

-- all before this place are gone by
abbrev pub GoneBy : End → List EndStruct → ℕ → Type 0
GoneBy d xs at = raised_end d (map end_view xs) ≡ take at (map end_view xs) ++ raised_end d (drop at (map end_view xs))

pub goes_on : (d : End) (xs : List EndStruct) (at : ℕ) (x : EndStruct) → at < length xs → goes_by d (end_view (get_or xs at x)) ≡ true
    → GoneBy d xs at → GoneBy d xs (at + 1)
goes_on d xs at x within by so_far =
    let e : End = end_view (get_or xs at x) in
    let es = map end_view xs in
    let no = both_not (same_stream e.stream d.stream) (stream_lt d.stream e.stream) by in
    so_far
    ∙ (ap (λ t. take at es ++ raised_end d t) (cut_at xs at x within)
    ∙ (ap (λ t. take at es ++ t) (raised_on d e (drop (at + 1) es) no.0 no.1)
    ∙ (sym (append_assoc (take at es) (e ∷ []) (raised_end d (drop (at + 1) es)))
    ∙ ap (λ t. t ++ raised_end d (drop (at + 1) es)) (sym (front_at xs at x within)))))

pub stops_here : (d : End) (xs : List EndStruct) (at : ℕ) (x : EndStruct) → at < length xs → goes_by d (end_view (get_or xs at x)) ≡ false
    → GoneBy d xs at → IsPlaceOf d (map end_view xs) at
stops_here d xs at x within stop so_far = record {
  within = let e : length (map end_view xs) ≡ length xs = length-map xs end_view in omega (arith, e, within);
  front = so_far;
  stops = inr (end_view (get_or xs at x), drop (at + 1) (map end_view xs), cut_at xs at x within, stop);
}

pub stops_last : (d : End) (xs : List EndStruct) (at : ℕ) → at ≡ length xs → GoneBy d xs at → IsPlaceOf d (map end_view xs) at
stops_last d xs at last so_far =
    let e : length (map end_view xs) ≡ length xs = length-map xs end_view in
    record {
      within = omega (arith, e, last);
      front = so_far;
      stops = inl (drop_all at (map end_view xs) (omega (arith, e, last)));
    }

-- ---- the first ones are gone by, one by one

by_both : (a b : Bool) → a ≡ false → b ≡ false → (not a && not b) ≡ true
by_both a b e f = ap (λ t. not t && not b) e ∙ ap not f

pub none_passed : (d : End) (xs : List EndStruct) → ArePassed d xs 0
none_passed d xs = record { within = omega arith; passed = λ k x low. absurd (let z : ⊥ = omega (arith, low) in z) }

pub one_more_passed : (d : End) (xs : List EndStruct) (n : ℕ) (x : EndStruct) → n < length xs → goes_by d (end_view (get_or xs n x)) ≡ true
    → ArePassed d xs n → ArePassed d xs (n + 1)
one_more_passed d xs n x low by are = record {
  within = omega (arith, low);
  passed = λ k y below. elim (cases_lt k n) [
    | inl early ↦ are.passed k y early
    | inr late ↦
        let at : n ≡ k = omega (arith, late, below) in
        subst (λ (m : ℕ). goes_by d (end_view (get_or xs m y)) ≡ true) at
        (subst (λ (z : EndStruct). goes_by d (end_view z) ≡ true) (same_item xs n x y low) by)
  ];
}

gone_with : (d : End) (xs : List EndStruct) (x : EndStruct) (n : ℕ) → ArePassed d xs n → GoneBy d xs n
gone_with d xs x zero are = refl
gone_with d xs x (suc n) are =
    let most = are.within in
    let rest = gone_with d xs x n (record { within = omega (arith, most); passed = λ k y below. are.passed k y (omega (arith, below)) }) in
    subst (GoneBy d xs) (let e : n + 1 ≡ suc n = omega arith in e) (goes_on d xs n x (omega (arith, most)) (are.passed n x (omega arith)) rest)

pub gone_to : (d : End) (xs : List EndStruct) (n : ℕ) → ArePassed d xs n → GoneBy d xs n
gone_to d [] zero are = refl
gone_to d [] (suc n) are = absurd (let most = are.within in let z : ⊥ = omega (arith, most) in z)
gone_to d (x ∷ xs) n are = gone_with d (x ∷ xs) x n are

-- behind one that comes before the end, where none of those up to it comes behind it
pub passed_from : (d : End) (xs : List EndStruct) (n : ℕ) (x : EndStruct) → n < length xs
    → stream_lt (end_view (get_or xs n x)).stream d.stream ≡ true → AreUpTo xs n → ArePassed d xs (n + 1)
passed_from d xs n x low before up = record {
  within = omega (arith, low);
  passed = λ k y below. go (end_view (get_or xs n y)).stream (end_view (get_or xs k y)).stream
      (subst (λ (z : EndStruct). stream_lt (end_view z).stream d.stream ≡ true) (same_item xs n x y low) before)
      (up k y (omega (arith, below)) low);
}
  where
    go : (s t : Stream) → stream_lt s d.stream ≡ true → stream_lt s t ≡ false
        → (not (same_stream t d.stream) && not (stream_lt d.stream t)) ≡ true
    go s t first up = by_both (same_stream t d.stream) (stream_lt d.stream t)
        (other (same_stream t d.stream) refl)
        (streams.order.onward d.stream s t (streams.order.one_way s d.stream first) up)
      where
        other : (b : Bool) → same_stream t d.stream ≡ b → b ≡ false
        other false e = refl
        other true e = absurd (true≢false (sym first ∙ streams.order.onward s t d.stream up (streams.neither t d.stream e).0))

-- the end stands at its place
pub stands_last : (d : End) (xs ys : List EndStruct) (at : ℕ) → ArePassed d xs at
    → ((k : ℕ) (x : EndStruct) → k < at → get_or ys k x ≡ get_or xs k x)
    → ((x : EndStruct) → (end_view (get_or ys at x)).stream ≡ d.stream) → AreUpTo ys at
stands_last d xs ys at are front here k x most low =
    subst (λ (s : Stream). stream_lt s (end_view (get_or ys k x)).stream ≡ false) (sym (here x))
    (elim (cases_lt k at) [
      | inl early ↦
          subst (λ (z : EndStruct). stream_lt d.stream (end_view z).stream ≡ false) (sym (front k x early))
          (both_not (same_stream (end_view (get_or xs k x)).stream d.stream) (stream_lt d.stream (end_view (get_or xs k x)).stream)
          (are.passed k x early)).1
      | inr late ↦
          let same : at ≡ k = omega (arith, late, most) in
          subst (λ (m : ℕ). stream_lt d.stream (end_view (get_or ys m x)).stream ≡ false) same
          (subst (λ (s : Stream). stream_lt d.stream s ≡ false) (sym (here x)) (streams.neither d.stream d.stream (stream_self d.stream)).0)
    ])

pub first_alone : (xs : List EndStruct) → AreUpTo xs 0
first_alone xs k x most low =
    let same : 0 ≡ k = omega (arith, most) in
    let s = (end_view (get_or xs 0 x)).stream in
    subst (λ (m : ℕ). stream_lt s (end_view (get_or xs m x)).stream ≡ false) same (streams.neither s s (stream_self s)).0

set_parts : (xs : List EndStruct) (at : ℕ) (y : EndStruct) → at < length xs → slice_set xs at y ≡ take at xs ++ y ∷ drop (at + 1) xs
set_parts xs at y within =
    sym (take-append-drop at (slice_set xs at y))
    ∙ (ap (λ t. t ++ drop at (slice_set xs at y)) (take-set xs at y) ∙ ap (λ t. take at xs ++ t) (drop-set xs at y within))

view_parts : (xs : List EndStruct) (at : ℕ) (y : EndStruct) (k : ℕ)
    → map end_view (take at xs ++ y ∷ drop k xs) ≡ take at (map end_view xs) ++ end_view y ∷ drop k (map end_view xs)
view_parts xs at y k =
    map-append end_view (take at xs) (y ∷ drop k xs)
    ∙ (ap (λ t. t ++ end_view y ∷ map end_view (drop k xs)) (sym (take-map end_view at xs))
    ∙ ap (λ t. take at (map end_view xs) ++ end_view y ∷ t) (sym (drop-map end_view k xs)))

-- the stream stands there: its end is raised
pub raised_there : (d : End) (xs : List EndStruct) (at : ℕ) (x y : EndStruct) → IsPlaceOf d (map end_view xs) at → at < length xs
    → same_stream (end_view (get_or xs at x)).stream d.stream ≡ true → end_view y ≡ ending_at (end_view (get_or xs at x)) d.end
    → map end_view (slice_set xs at y) ≡ raised_end d (map end_view xs)
raised_there d xs at x y place within same is =
    let es = map end_view xs in
    let e : End = end_view (get_or xs at x) in
    ap (map end_view) (set_parts xs at y within)
    ∙ (view_parts xs at y (at + 1)
    ∙ (ap (λ t. take at es ++ t ∷ drop (at + 1) es) is
    ∙ (ap (λ t. take at es ++ t) (sym (raised_same d e (drop (at + 1) es) same))
    ∙ (ap (λ t. take at es ++ raised_end d t) (sym (cut_at xs at x within)) ∙ sym place.front))))

-- it doesn't: it is put in there
pub put_there : (xs : List EndStruct) (at : ℕ) (y : EndStruct) → IsPlaceOf (end_view y) (map end_view xs) at
    → ((x : EndStruct) → at < length xs → same_stream (end_view (get_or xs at x)).stream (end_view y).stream ≡ false)
    → map end_view (take at xs ++ y ∷ drop at xs) ≡ raised_end (end_view y) (map end_view xs)
put_there xs at y place other =
    let es = map end_view xs in
    view_parts xs at y at
    ∙ (ap (λ t. take at es ++ t) (sym (go place.stops)) ∙ sym place.front)
  where
    d : End
    d = end_view y

    go : (drop at (map end_view xs) ≡ []) ⊎ ((e : End) × (rest : List End) × (drop at (map end_view xs) ≡ e ∷ rest) × (goes_by d e ≡ false))
        → raised_end d (drop at (map end_view xs)) ≡ d ∷ drop at (map end_view xs)
    go (inl none) = ap (raised_end d) none ∙ ap (λ t. d ∷ t) (sym none)
    go (inr (e, rest, is, stop)) =
        ap (raised_end d) is ∙ (raised_put d e rest (apart e rest is) (later e rest is stop) ∙ ap (λ t. d ∷ t) (sym is))
      where
        some : (e : End) (rest : List End) → drop at (map end_view xs) ≡ e ∷ rest → at < length xs
        some e rest is =
            let n : length (map end_view xs) ≡ length xs = length-map xs end_view in
            let m = ap length is in
            omega (arith, n, m, length-drop at (map end_view xs))

        apart : (e : End) (rest : List End) → drop at (map end_view xs) ≡ e ∷ rest → same_stream e.stream d.stream ≡ false
        apart e rest is =
            let within = some e rest is in
            let here = heads (sym (cut_at xs at y within) ∙ is) in
            subst (λ (z : End). same_stream z.stream d.stream ≡ false) here (other y within)

        later : (e : End) (rest : List End) → drop at (map end_view xs) ≡ e ∷ rest → goes_by d e ≡ false → stream_lt d.stream e.stream ≡ true
        later e rest is stop = not_both (same_stream e.stream d.stream) (stream_lt d.stream e.stream) (apart e rest is) stop

-- the last one takes another end
pub noted_last : (xs : List EndStruct) (at : ℕ) (x y : EndStruct) (d : End) → at + 1 ≡ length xs
    → same_stream (end_view (get_or xs at x)).stream d.stream ≡ true → end_view y ≡ ending_at (end_view (get_or xs at x)) d.end
    → (es : List End) → raised_by (map end_view (slice_set xs at y)) es ≡ raised_end d (raised_by (map end_view xs) es)
noted_last xs at x y d last same is es =
    let front : List End = take at (map end_view xs) in
    let within : at < length xs = omega (arith, last) in
    let n : length (map end_view xs) ≡ length xs = length-map xs end_view in
    let none : drop (at + 1) (map end_view xs) ≡ [] = drop_all (at + 1) (map end_view xs) (omega (arith, last, n)) in
    ap (λ t. raised_by t es) (ap (map end_view) (set_parts xs at y within) ∙ (view_parts xs at y (at + 1)
    ∙ (ap (λ t. front ++ end_view y ∷ t) none ∙ ap (λ t. front ++ t ∷ []) is)))
    ∙ (raised_by-last front (end_view (get_or xs at x)) d es same
    ∙ ap (λ t. raised_end d (raised_by t es)) (sym (sym (take-append-drop at (map end_view xs))
    ∙ (ap (λ t. front ++ t) (cut_at xs at x within) ∙ ap (λ t. front ++ end_view (get_or xs at x) ∷ t) none))))

-- one more is noted behind them
pub noted_behind : (xs : List EndStruct) (y : EndStruct) (es : List End)
    → raised_by (map end_view (xs ++ y ∷ [])) es ≡ raised_end (end_view y) (raised_by (map end_view xs) es)
noted_behind xs y es = ap (λ t. raised_by t es) (map-append end_view xs (y ∷ [])) ∙ raised_by-behind (map end_view xs) (end_view y) es

-- one of the others is raised
pub raised_next : (others : List EndStruct) (i : ℕ) (x : EndStruct) (now next es : List End) → i < length others
    → raised_by (drop i (map end_view others)) now ≡ raised_by (map end_view others) es → next ≡ raised_end (end_view (get_or others i x)) now
    → raised_by (drop (i + 1) (map end_view others)) next ≡ raised_by (map end_view others) es
raised_next others i x now next es within so_far is =
    ap (raised_by (drop (i + 1) (map end_view others))) is
    ∙ (sym (ap (λ t. raised_by t now) (cut_at others i x within)) ∙ so_far)
