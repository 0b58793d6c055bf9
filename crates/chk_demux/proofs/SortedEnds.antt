-- Over ends of streams that stand in order: what chunks of one stream are among those of all, and sums over the streams.
use Rattle.std.proofs.Common.{◌≡◌, ◌⊎◌, inl, inr, ℕ, zero, suc, ◌+◌, ◌<◌, Bool, true, false, cond, List, [], ◌∷◌, ◌++◌, length, ap, ap₂, sym, subst, ◌∙◌, refl, arith, append-nil, true≢false, if◌then◌else◌}
use Rattle.std.specs.Prelude.{Contains, filter, flat_map, sum_by, slice_index_or}
use Rattle.std.proofs.lemmas.List.Elements.{filter-append}
use Rattle.std.proofs.lemmas.List.Sums.{sum_by-cons}
use Rattle.chk_chunk.specs.Keys.{Stream, Chunk, same_stream, stream_lt, is_of}
use Rattle.chk_world.specs.Books.{End}
use Rattle.chk_world.proofs.NameTests.{streams_same}
use Rattle.chk_world.proofs.Each.{Each, each_as, each_at, each_from, later_one}
use Rattle.chk_archive_plan.proofs.Parts.{stream_self}
use Rattle.chk_archive_parts.proofs.EndsInOrder.{apart, apart_from, Sorted, Has}
use Rattle.chk_demux.specs.Writes.{bytes_of}

-- ---- whether a stream is among them

at_has : (P : Stream → Type 0) (s : Stream) (es : List End) → Each (λ (e : End). P e.stream) es → Has s es → P s
at_has P s [] all h = absurd h
at_has P s (e ∷ es) all (inl is) = subst P is all.0
at_has P s (e ∷ es) all (inr later) = at_has P s es all.1 later

-- an end of the stream
pub record EndOf (s : Stream) (es : List End) : Type 0 where
  pub end : End
  pub one : Contains es end
  pub is : end.stream ≡ s

-- an end is the stream's, or none is
pub find_end : (s : Stream) (es : List End) → EndOf s es ⊎ Each (λ (e : End). same_stream s e.stream ≡ false) es
find_end s [] = inr tt
find_end s (e ∷ es) = go (same_stream s e.stream) refl (find_end s es)
  where
    go : (b : Bool) → same_stream s e.stream ≡ b → EndOf s es ⊎ Each (λ (e : End). same_stream s e.stream ≡ false) es
        → EndOf s (e ∷ es) ⊎ Each (λ (e : End). same_stream s e.stream ≡ false) (e ∷ es)
    go true same rest = inl (record { end = e; one = (0, omega arith, refl); is = sym (streams_same s e.stream same) })
    go false other (inl k) = inl (record { end = k.end; one = later_one e es k.end k.one; is = k.is })
    go false other (inr none) = inr (other, none)

-- where none is, none is listed
pub not_has : (s : Stream) (es : List End) → Each (λ (e : End). same_stream s e.stream ≡ false) es → Has s es → ⊥
not_has s [] none h = h
not_has s (e ∷ es) none (inl is) = true≢false (sym (subst (λ t. same_stream s t ≡ true) (sym is) (stream_self s)) ∙ none.0)
not_has s (e ∷ es) none (inr later) = not_has s es none.1 later

-- ---- chunks of each stream, one stream behind the other

filter_all : (s t : Stream) → same_stream s t ≡ true → (xs : List Chunk) → Each (λ (c : Chunk). c.key.stream ≡ t) xs
    → filter (is_of s) xs ≡ xs
filter_all s t same [] k = refl
filter_all s t same (c ∷ xs) k =
    ap (λ b. cond b (c ∷ filter (is_of s) xs) (filter (is_of s) xs)) (ap (same_stream s) k.0 ∙ same)
    ∙ ap (λ l. c ∷ l) (filter_all s t same xs k.1)

filter_none : (s t : Stream) → same_stream s t ≡ false → (xs : List Chunk) → Each (λ (c : Chunk). c.key.stream ≡ t) xs
    → filter (is_of s) xs ≡ []
filter_none s t other [] k = refl
filter_none s t other (c ∷ xs) k =
    ap (λ b. cond b (c ∷ filter (is_of s) xs) (filter (is_of s) xs)) (ap (same_stream s) k.0 ∙ other)
    ∙ filter_none s t other xs k.1

module _ (f : End → List Chunk) (of : (e : End) → Each (λ (c : Chunk). c.key.stream ≡ e.stream) (f e)) where
  pub none_of : (s : Stream) (es : List End) → Each (λ (e : End). same_stream s e.stream ≡ false) es
      → filter (is_of s) (flat_map f es) ≡ []
  none_of s [] k = refl
  none_of s (e ∷ es) k =
      filter-append (is_of s) (f e) (flat_map f es)
      ∙ ap₂ (λ x y. x ++ y) (filter_none s e.stream k.0 (f e) (of e)) (none_of s es k.1)

  pub just_of : (es : List End) → Sorted es → (e : End) → Contains es e → filter (is_of e.stream) (flat_map f es) ≡ f e
  just_of es s e one = go es s one.0 one.1 one.2
    where
      go : (es : List End) → Sorted es → (k : ℕ) → k < length es → slice_index_or es k e ≡ e
          → filter (is_of e.stream) (flat_map f es) ≡ f e
      go [] s k low at = absurd (let z : ⊥ = omega (arith, low) in z)
      go (d ∷ es) s zero low at =
          let same : same_stream e.stream d.stream ≡ true =
          ap (λ (x : End). same_stream e.stream x.stream) at ∙ stream_self e.stream in
          let later : Each (λ (g : End). same_stream e.stream g.stream ≡ false) es =
          each_as (λ (g : End). stream_lt d.stream g.stream ≡ true) (λ (g : End). same_stream e.stream g.stream ≡ false) es
          (λ g q. apart e.stream g.stream (subst (λ (x : End). stream_lt x.stream g.stream ≡ true) at q)) s.0 in
          filter-append (is_of e.stream) (f d) (flat_map f es)
          ∙ (ap₂ (λ x y. x ++ y) (filter_all e.stream d.stream same (f d) (of d)) (none_of e.stream es later)
          ∙ (append-nil (f d) ∙ ap f at))
      go (d ∷ es) s (suc k) low at =
          let other : same_stream e.stream d.stream ≡ false =
          apart_from d.stream e.stream
          (each_at (λ (g : End). stream_lt d.stream g.stream ≡ true) es e s.0 (k, omega (arith, low), at)) in
          filter-append (is_of e.stream) (f d) (flat_map f es)
          ∙ ap₂ (λ x y. x ++ y) (filter_none e.stream d.stream other (f d) (of d)) (go es s.1 k (omega (arith, low)) at)

-- ---- sums over the streams

pub sum_each : (F G : End → ℕ) (es : List End) → Each (λ (e : End). F e ≡ G e) es → sum_by F es ≡ sum_by G es
sum_each F G [] k = refl
sum_each F G (e ∷ es) k =
    sum_by-cons F e es ∙ (ap₂ (λ m n. m + n) k.0 (sum_each F G es k.1) ∙ sym (sum_by-cons G e es))

pub sum_both : (F G : End → ℕ) (es : List End) → sum_by (λ (e : End). F e + G e) es ≡ sum_by F es + sum_by G es
sum_both F G [] = refl
sum_both F G (e ∷ es) =
    let all = sum_by-cons (λ (e : End). F e + G e) e es in
    let one = sum_by-cons F e es in
    let two = sum_by-cons G e es in
    let rest = sum_both F G es in
    omega (arith, all, one, two, rest)

sum_zero : (es : List End) → sum_by (λ (e : End). 0) es ≡ 0
sum_zero [] = refl
sum_zero (e ∷ es) = let all = sum_by-cons (λ (e : End). 0) e es in let rest = sum_zero es in omega (arith, all, rest)

-- a chunk's bytes, where the end is its stream's
abbrev share : Chunk → End → ℕ
share c e = if same_stream e.stream c.key.stream then length c.value else 0

share_more : (e : End) (c : Chunk) (cs : List Chunk)
    → bytes_of (filter (is_of e.stream) (c ∷ cs)) ≡ share c e + bytes_of (filter (is_of e.stream) cs)
share_more e c cs = go (same_stream e.stream c.key.stream)
  where
    go : (b : Bool) → bytes_of (cond b (c ∷ filter (is_of e.stream) cs) (filter (is_of e.stream) cs))
        ≡ (if b then length c.value else 0) + bytes_of (filter (is_of e.stream) cs)
    go true = sum_by-cons (λ (c : Chunk). length c.value) c (filter (is_of e.stream) cs)
    go false = let n = bytes_of (filter (is_of e.stream) cs) in let z : n ≡ 0 + n = omega arith in z

no_share : (c : Chunk) (es : List End) → Each (λ (e : End). same_stream e.stream c.key.stream ≡ false) es
    → sum_by (share c) es ≡ 0
no_share c es none =
    sum_each (share c) (λ (e : End). 0) es
    (each_as (λ (e : End). same_stream e.stream c.key.stream ≡ false) (λ (e : End). share c e ≡ 0) es
    (λ e other. ap (λ b. if b then length c.value else 0) other) none)
    ∙ sum_zero es

one_share : (c : Chunk) (es : List End) → Sorted es → Has c.key.stream es → sum_by (share c) es ≡ length c.value
one_share c [] s h = absurd h
one_share c (e ∷ es) s (inl is) =
    let same : same_stream e.stream c.key.stream ≡ true =
    subst (λ t. same_stream t c.key.stream ≡ true) (sym is) (stream_self c.key.stream) in
    let own : share c e ≡ length c.value = ap (λ b. if b then length c.value else 0) same in
    let rest : sum_by (share c) es ≡ 0 = no_share c es
    (each_as (λ (g : End). stream_lt e.stream g.stream ≡ true) (λ (g : End). same_stream g.stream c.key.stream ≡ false) es
    (λ g q. apart_from c.key.stream g.stream (subst (λ t. stream_lt t g.stream ≡ true) is q)) s.0) in
    let all = sum_by-cons (share c) e es in
    omega (arith, own, rest, all)
one_share c (e ∷ es) s (inr later) =
    let other : same_stream e.stream c.key.stream ≡ false =
    apart e.stream c.key.stream (at_has (λ t. stream_lt e.stream t ≡ true) c.key.stream es s.0 later) in
    let own : share c e ≡ 0 = ap (λ b. if b then length c.value else 0) other in
    let rest = one_share c es s.1 later in
    let all = sum_by-cons (share c) e es in
    omega (arith, own, rest, all)

-- all bytes are those of the streams
pub bytes_over : (es : List End) → Sorted es → (cs : List Chunk) → Each (λ (c : Chunk). Has c.key.stream es) cs
    → sum_by (λ (e : End). bytes_of (filter (is_of e.stream) cs)) es ≡ bytes_of cs
bytes_over es s [] all = sum_zero es
bytes_over es s (c ∷ cs) all =
    sum_each (λ (e : End). bytes_of (filter (is_of e.stream) (c ∷ cs)))
    (λ (e : End). share c e + bytes_of (filter (is_of e.stream) cs)) es
    (each_from (λ (e : End). bytes_of (filter (is_of e.stream) (c ∷ cs)) ≡ share c e + bytes_of (filter (is_of e.stream) cs)) es
    (λ e one. share_more e c cs))
    ∙ (sum_both (share c) (λ (e : End). bytes_of (filter (is_of e.stream) cs)) es
    ∙ (ap₂ (λ m n. m + n) (one_share c es s all.0) (bytes_over es s cs all.1)
    ∙ sym (sum_by-cons (λ (c : Chunk). length c.value) c cs)))
