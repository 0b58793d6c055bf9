-- Ends of streams that stand in order, and one of them looked for from a place on.
use Rattle.std.proofs.Common.{◌≡◌, ◌∙◌, ℕ, zero, suc, ◌+◌, ◌-◌, ◌<◌, ◌≤◌, Bool, true, false, List, [], ◌∷◌}
use Rattle.std.proofs.Common.{length, drop, map, get_or, refl, sym, ap, arith, true≢false}
use Rattle.std.proofs.Common.{if◌then◌else◌, inl, inr, subst}
use Rattle.std.specs.Prelude.{slice_index_or, IsTrue, ◌&&◌}
use Rattle.std.proofs.lemmas.Bool.{and_parts, cases_Bool}
use Rattle.std.proofs.lemmas.List.{drop_more}
use Rattle.chk_chunk.specs.Keys.{Stream, same_stream, stream_lt}
use Rattle.chk_world.specs.Books.{End, ends_rise}
use Rattle.chk_world.proofs.Each.{Each, each_as}
use Rattle.chk_record_index.proofs.Orders.{streams}
use Rattle.chk_book.specs.Books.{end_in}
use Rattle.chk_book.specs.Views.{end_view}
use Rattle.chk_book.specs.declared.lists.End.{End as EndStruct}
use Rattle.chk_record_index.proofs.Apart.{apart, apart_from, behind_it}

before_on : (a b c : Stream) → stream_lt a b ≡ true → stream_lt b c ≡ true
    → stream_lt a c ≡ true
before_on a b c p q = elim (cases_Bool (stream_lt a c)) [
  | inl before ↦ before
  | inr late ↦
      absurd (true≢false (sym p ∙ streams.order.onward a c b late (streams.order.one_way b c q)))
]

-- each stream stands once, in order
abbrev pub Sorted : List End → Type 0
Sorted [] = Unit {0}
Sorted (e ∷ es) = Each (λ (f : End). stream_lt e.stream f.stream ≡ true) es × Sorted es

pub sorted : (es : List End) → ends_rise es ≡ true → Sorted es
sorted [] h = tt
sorted (e ∷ []) h = (tt, tt)
sorted (e ∷ f ∷ es) h =
    let p = and_parts (stream_lt e.stream f.stream) (ends_rise (f ∷ es)) h in
    let rest = sorted (f ∷ es) p.1 in (
      (
        p.0,
        each_as (λ (g : End). stream_lt f.stream g.stream ≡ true)
            (λ (g : End). stream_lt e.stream g.stream ≡ true) es
            (λ g q. before_on e.stream f.stream g.stream p.0 q) rest.0,
      ),
      rest,
    )

at_index : (P : End → Type 0) (es : List End) → Each P es → (n : ℕ) → n < length es → (d : End)
    → P (slice_index_or es n d)
at_index P [] all n low d = absurd (let z : ⊥ = omega (arith, low) in z)
at_index P (e ∷ es) all zero low d = all.0
at_index P (e ∷ es) all (suc n) low d = at_index P es all.1 n (omega (arith, low)) d

-- an item of a list, as it is seen
seen_at : (xs : List EndStruct) (i : ℕ) (d : EndStruct)
    → slice_index_or (map end_view xs) i (end_view d) ≡ end_view (slice_index_or xs i d)
seen_at [] i d = refl
seen_at (x ∷ xs) zero d = refl
seen_at (x ∷ xs) (suc i) d = seen_at xs i d

pub shown : (xs : List EndStruct) (i : ℕ) (x : EndStruct) → x ≡ get_or xs i x
    → slice_index_or (map end_view xs) i (end_view x) ≡ end_view x
shown xs i x is = seen_at xs i x ∙ ap end_view (sym is)

-- where one comes before the next, those from it on rise if those from the next one on do
pub rise_from : (es : List End) (n : ℕ) (d f : End) → suc n < length es
    → stream_lt (slice_index_or es n d).stream (slice_index_or es (suc n) f).stream ≡ true
    → ends_rise (drop (suc n) es) ≡ true → ends_rise (drop n es) ≡ true
rise_from [] n d f low before rise = absurd (let z : ⊥ = omega (arith, low) in z)
rise_from (e ∷ []) n d f low before rise = absurd (let z : ⊥ = omega (arith, low) in z)
rise_from (e ∷ h ∷ es) zero d f low before rise =
    ap (λ b. b && ends_rise (h ∷ es)) before ∙ rise
rise_from (e ∷ h ∷ es) (suc n) d f low before rise =
    rise_from (h ∷ es) n d f (omega (arith, low)) before rise

pub rise_step : (es : List End) (at : ℕ) (d f : End) → 1 ≤ at → at < length es
    → stream_lt (slice_index_or es (at - 1) d).stream (slice_index_or es at f).stream ≡ true
    → (IsTrue (ends_rise (drop (at - 1) es)) → IsTrue (ends_rise es))
    → IsTrue (ends_rise (drop (at + 1 - 1) es)) → IsTrue (ends_rise es)
rise_step es at d f some low before was rise =
    let n : ℕ = at - 1 in
    let here : at ≡ suc n = omega (arith, some) in
    let there : at + 1 - 1 ≡ suc n = omega (arith, some) in
    was (rise_from es n d f (omega (arith, some, low))
    (subst (λ (k : ℕ). stream_lt (slice_index_or es n d).stream (slice_index_or es k f).stream
    ≡ true) here before)
    (subst (λ (k : ℕ). ends_rise (drop k es) ≡ true) there rise))

-- one alone rises
pub last_rises : (es : List End) (n : ℕ) → length es ≤ suc n → ends_rise (drop n es) ≡ true
last_rises [] zero low = refl
last_rises [] (suc n) low = refl
last_rises (e ∷ []) zero low = refl
last_rises (e ∷ h ∷ es) zero low = absurd (let z : ⊥ = omega (arith, low) in z)
last_rises (e ∷ es) (suc n) low = last_rises es n (omega (arith, low))

module _ (s : Stream) where
  before_one : (e : End) (es : List End) → stream_lt e.stream s ≡ true
      → end_in 0 (e ∷ es) s ≡ end_in 0 es s
  before_one e es before =
      ap (λ b. if b then e.end else end_in 0 es s) (apart_from e.stream s before)

  none_behind : (es : List End) → Each (λ (f : End). stream_lt s f.stream ≡ true) es
      → end_in 0 es s ≡ 0
  none_behind [] all = refl
  none_behind (f ∷ es) all =
      ap (λ b. if b then f.end else end_in 0 es s) (apart s f.stream all.0)
      ∙ none_behind es all.1

  -- the one at this place is passed
  pub one_passed : (es : List End) (n : ℕ) (d : End) → n < length es
      → stream_lt (slice_index_or es n d).stream s ≡ true
      → end_in 0 (drop (n + 1) es) s ≡ end_in 0 (drop n es) s
  one_passed es n d low before =
      sym (ap (λ l. end_in 0 l s) (drop_more es n d low)
      ∙ before_one (slice_index_or es n d) (drop (n + 1) es) before)

  -- all up to one that comes before the stream are passed
  pub all_passed : (es : List End) (n : ℕ) (d : End) → Sorted es → n < length es
      → stream_lt (slice_index_or es n d).stream s ≡ true
      → end_in 0 (drop (suc n) es) s ≡ end_in 0 es s
  all_passed [] n d o low before = absurd (let z : ⊥ = omega (arith, low) in z)
  all_passed (e ∷ es) zero d o low before = sym (before_one e es before)
  all_passed (e ∷ es) (suc n) d o low before =
      let at : stream_lt e.stream (slice_index_or es n d).stream ≡ true =
      at_index (λ (f : End). stream_lt e.stream f.stream ≡ true) es o.0 n (omega (arith, low)) d in
      all_passed es n d o.1 (omega (arith, low)) before
      ∙ sym (before_one e es (before_on e.stream (slice_index_or es n d).stream s at before))

  -- one that doesn't come before the stream is its own, or it has none
  pub stops_here : (es : List End) (n : ℕ) (d : End) → Sorted es → n < length es
      → stream_lt (slice_index_or es n d).stream s ≡ false
      → end_in 0 (drop n es) s
      ≡ (if same_stream s (slice_index_or es n d).stream then (slice_index_or es n d).end else 0)
  stops_here [] n d o low unlike = absurd (let z : ⊥ = omega (arith, low) in z)
  stops_here (e ∷ es) zero d o low unlike = go (same_stream s e.stream) refl
    where
      go : (b : Bool) → same_stream s e.stream ≡ b
          → (if b then e.end else end_in 0 es s) ≡ (if b then e.end else 0)
      go true same = refl
      go false other =
          none_behind es
          (each_as (λ (f : End). stream_lt e.stream f.stream ≡ true)
          (λ (f : End). stream_lt s f.stream ≡ true) es
          (λ f later. before_on s e.stream f.stream (behind_it e.stream s other unlike) later) o.0)
  stops_here (e ∷ es) (suc n) d o low unlike = stops_here es n d o.1 (omega (arith, low)) unlike
