-- Ends of streams that stand in order, each stream once, and one of them raised.
use Rattle.std.proofs.Common.{◌≡◌, ◌⊎◌, inl, inr, ℕ, zero, suc, Bool, true, false, List, [], ◌∷◌, ap, sym, subst, ◌∙◌, refl, arith}
use Rattle.std.specs.Prelude.{Any}
use Rattle.std.proofs.lemmas.Bool.{and_parts}
use Rattle.chk_chunk.specs.Keys.{Stream, same_stream, stream_lt}
use Rattle.chk_world.specs.Books.{End, ends_rise}
use Rattle.chk_world.proofs.NameTests.{streams_same}
use Rattle.chk_world.proofs.Each.{Each, each_as}
use Rattle.chk_book.specs.Segmenting.{raised_end}
use Rattle.chk_book.proofs.EndRaises.{ending_at, raised_same, raised_put, raised_on}
use Rattle.chk_record_reader.proofs.OnePass.{stream_onward as before_on}
pub use Rattle.chk_record_index.proofs.Apart.{apart, apart_from, behind_it}

-- ---- streams in order

-- each stream stands once, in order
abbrev pub Sorted : List End → Type 0
Sorted [] = Unit {0}
Sorted (e ∷ es) = Each (λ (f : End). stream_lt e.stream f.stream ≡ true) es × Sorted es

pub sorted : (es : List End) → ends_rise es ≡ true → Sorted es
sorted [] h = tt
sorted (e ∷ []) h = (tt, tt)
sorted (e ∷ f ∷ es) h =
    let p = and_parts (stream_lt e.stream f.stream) (ends_rise (f ∷ es)) h in
    let rest = sorted (f ∷ es) p.1 in (
      (
        p.0,
        each_as (λ (g : End). stream_lt f.stream g.stream ≡ true) (λ (g : End). stream_lt e.stream g.stream ≡ true) es
            (λ g q. before_on e.stream f.stream g.stream p.0 q) rest.0,
      ),
      rest,
    )

-- ---- whether a stream is among them

-- one of the ends is the stream's
abbrev pub Has : Stream → List End → Type 0
Has s [] = ⊥
Has s (e ∷ es) = (e.stream ≡ s) ⊎ Has s es

pub has_any : (s : Stream) (es : List End) → Any (λ (e : End). e.stream ≡ s) es → Has s es
has_any s [] (k, e, low, at, is) = absurd (let z : ⊥ = omega (arith, low) in z)
has_any s (f ∷ es) (zero, e, low, at, is) = inl (ap (λ (x : End). x.stream) at ∙ is)
has_any s (f ∷ es) (suc k, e, low, at, is) = inr (has_any s es (k, e, omega (arith, low), at, is))

pub any_has : (s : Stream) (es : List End) → Has s es → Any (λ (e : End). e.stream ≡ s) es
any_has s [] h = absurd h
any_has s (e ∷ es) (inl is) = (0, e, omega arith, refl, is)
any_has s (e ∷ es) (inr later) = let k = any_has s es later in (suc k.0, k.1, omega (arith, k.2), k.3, k.4)

-- ---- one end is raised

-- where the first end isn't behind the raised one
data Raises (d e : End) (es : List End) : Type 0 where
  found : same_stream e.stream d.stream ≡ true → raised_end d (e ∷ es) ≡ ending_at e d.end ∷ es → Raises d e es
  put : same_stream e.stream d.stream ≡ false → stream_lt d.stream e.stream ≡ true
      → raised_end d (e ∷ es) ≡ d ∷ e ∷ es → Raises d e es
  passed : same_stream e.stream d.stream ≡ false → stream_lt e.stream d.stream ≡ true
      → raised_end d (e ∷ es) ≡ e ∷ raised_end d es → Raises d e es

raises : (d e : End) (es : List End) → Raises d e es
raises d e es = go (same_stream e.stream d.stream) refl (stream_lt d.stream e.stream) refl
  where
    go : (s : Bool) → same_stream e.stream d.stream ≡ s → (l : Bool) → stream_lt d.stream e.stream ≡ l → Raises d e es
    go true same l later = found same (raised_same d e es same)
    go false other true later = put other later (raised_put d e es other later)
    go false other false unlike =
        passed other (behind_it d.stream e.stream other unlike) (raised_on d e es other unlike)

-- no stream is lost
pub has_still : (s : Stream) (d : End) (es : List End) → Has s es → Has s (raised_end d es)
has_still s d [] h = absurd h
has_still s d (e ∷ es) h = go (raises d e es) h (λ k. has_still s d es k)
  where
    go : Raises d e es → Has s (e ∷ es) → (Has s es → Has s (raised_end d es)) → Has s (raised_end d (e ∷ es))
    go (found same is) (inl k) rest = subst (Has s) (sym is) (inl k)
    go (found same is) (inr k) rest = subst (Has s) (sym is) (inr k)
    go (put other later is) h rest = subst (Has s) (sym is) (inr h)
    go (passed other later is) (inl k) rest = subst (Has s) (sym is) (inl k)
    go (passed other later is) (inr k) rest = subst (Has s) (sym is) (inr (rest k))

pub has_now : (d : End) (es : List End) → Has d.stream (raised_end d es)
has_now d [] = inl refl
has_now d (e ∷ es) = go (raises d e es) (has_now d es)
  where
    go : Raises d e es → Has d.stream (raised_end d es) → Has d.stream (raised_end d (e ∷ es))
    go (found same is) rest = subst (Has d.stream) (sym is) (inl (streams_same e.stream d.stream same))
    go (put other later is) rest = subst (Has d.stream) (sym is) (inl refl)
    go (passed other later is) rest = subst (Has d.stream) (sym is) (inr rest)

-- what is said of each end apart from where it ends
module _ (P : End → Type 0) (P_end : (e : End) (n : ℕ) → P e → P (ending_at e n)) where
  pub all_raised : (d : End) (es : List End) → Each P es → P d → Each P (raised_end d es)
  all_raised d [] all p = (p, tt)
  all_raised d (e ∷ es) all p = go (raises d e es) (all_raised d es all.1 p)
    where
      go : Raises d e es → Each P (raised_end d es) → Each P (raised_end d (e ∷ es))
      go (found same is) rest = subst (Each P) (sym is) (P_end e d.end all.0, all.1)
      go (put other later is) rest = subst (Each P) (sym is) (p, all)
      go (passed other later is) rest = subst (Each P) (sym is) (all.0, rest)

-- what is said of where they end changes with the one that is raised
module _ (P Q : End → Type 0) (d : End)
    (other : (e : End) → same_stream e.stream d.stream ≡ false → P e → Q e)
    (same_one : (e : End) → same_stream e.stream d.stream ≡ true → P e → Q (ending_at e d.end)) (new : Q d) where
  rest_other : (es : List End) → Each (λ (f : End). stream_lt d.stream f.stream ≡ true) es → Each P es → Each Q es
  rest_other [] later all = tt
  rest_other (f ∷ es) later all =
      (other f (apart_from d.stream f.stream later.0) all.0, rest_other es later.1 all.1)

  pub ends_raised : (es : List End) → Sorted es → Each P es → Each Q (raised_end d es) × Sorted (raised_end d es)
  ends_raised [] s all = ((new, tt), (tt, tt))
  ends_raised (e ∷ es) s all = go (raises d e es) (ends_raised es s.1 all.1)
    where
      go : Raises d e es → Each Q (raised_end d es) × Sorted (raised_end d es)
          → Each Q (raised_end d (e ∷ es)) × Sorted (raised_end d (e ∷ es))
      go (found same is) rest =
          subst (λ k. Each Q k × Sorted k) (sym is) (
            (
              same_one e same all.0,
              rest_other es
                  (subst (λ x. Each (λ (f : End). stream_lt x f.stream ≡ true) es)
                  (streams_same e.stream d.stream same) s.0) all.1,
            ),
            s,
          )
      go (put apart later is) rest =
          let behind : Each (λ (f : End). stream_lt d.stream f.stream ≡ true) es =
          each_as (λ (f : End). stream_lt e.stream f.stream ≡ true) (λ (f : End). stream_lt d.stream f.stream ≡ true) es
          (λ f q. before_on d.stream e.stream f.stream later q) s.0 in
          subst (λ k. Each Q k × Sorted k) (sym is)
          ((new, (other e apart all.0, rest_other es behind all.1)), ((later, behind), s))
      go (passed apart later is) rest =
          subst (λ k. Each Q k × Sorted k) (sym is) (
            (other e apart all.0, rest.0),
            (all_raised (λ (f : End). stream_lt e.stream f.stream ≡ true) (λ f n q. q) d es s.0 later, rest.1),
          )
