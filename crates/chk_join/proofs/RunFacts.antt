-- What runs of streams, one behind the other, have of each stream.
use Rattle.std.proofs.Common.{◌≡◌, ◌⊎◌, inl, inr, ℕ, Bool, true, false, cond, List, [], ◌∷◌, ◌++◌}
use Rattle.std.proofs.Common.{Some, None, refl, ap, ap₂, sym, subst, ◌∙◌, arith, append-nil}
use Rattle.std.proofs.Common.{if◌then◌else◌, zero, suc}
use Rattle.std.specs.Prelude.{Any, Contains, filter, flat_map}
use Rattle.std.proofs.lemmas.List.Elements.{filter-append}
use Rattle.std.proofs.lemmas.Option.{none-some, same_Some}
use Rattle.chk_chunk.specs.Keys.{Stream, Chunk, same_stream, stream_lt, is_of}
use Rattle.chk_world.specs.Books.{End, chunks_of_stream}
use Rattle.chk_world.specs.Jobs.{Run}
use Rattle.chk_world.proofs.NameTests.{streams_same}
use Rattle.chk_world.proofs.Each.{Each, each_at}
use Rattle.chk_record_index.specs.Heads.{Head}
use Rattle.chk_record_reader.specs.Courses.{is_end_of, end_of}
use Rattle.chk_archive_parts.proofs.EndsInOrder.{Sorted}
use Rattle.chk_record_index.proofs.Apart.{apart_from, apart}
use Rattle.chk_join_sources.specs.declared.gathering.Side.{Side}
use Rattle.chk_join_sources.specs.declared.plan.Choice.{Choice}
use Rattle.chk_join_sources.specs.Standing.{AreCopies, chosen_heads}
use Rattle.chk_join.specs.Runs.{IsRunOf, AreRuns, HeadsRun, ChosenRun}
use Rattle.chk_world.proofs.Rounds.{stream_self}
use Rattle.chk_archive_parts.proofs.InTurn.{from_both}

-- ---- copies of heads that run

-- copies of two lists are those of the one, and behind them those of the other
pub copies_split : (xs ys : List Head) (cs : List Chunk) → AreCopies (xs ++ ys) cs
    → (front : List Chunk) × ((back : List Chunk) × ((cs ≡ front ++ back) × (AreCopies xs front × AreCopies ys back)))
copies_split [] ys cs copies = ([], (cs, (refl, (tt, copies))))
copies_split (x ∷ xs) ys [] copies = absurd copies
copies_split (x ∷ xs) ys (c ∷ cs) copies =
    let r = copies_split xs ys cs copies.1 in
    (c ∷ r.0, (r.1.0, (ap (λ l. c ∷ l) r.1.1.0, ((copies.0, r.1.1.1.0), r.1.1.1.1))))

pub copies_run : (e : End) (from : ℕ) (hs : List Head) (to : ℕ) (cs : List Chunk) → HeadsRun e from hs to
    → AreCopies hs cs → Each (λ (c : Chunk). c.key.stream ≡ e.stream) cs × Run e.start from cs to
copies_run e from [] to [] run copies = (tt, run)
copies_run e from [] to (c ∷ cs) run copies = absurd copies
copies_run e from (h ∷ hs) to [] run copies = absurd copies
copies_run e from (h ∷ hs) to (c ∷ cs) run copies =
    let key = copies.0.key in
    let rest = copies_run e h.key.seq hs to cs run.1.1.1 copies.1 in (
      (ap (λ k. k.stream) key ∙ run.0, rest.0),
      (
        ap (λ k. k.start) key ∙ run.1.0,
        copies.0.begin ∙ run.1.1.0,
        subst (λ (n : ℕ). Run e.start n cs to) (sym (ap (λ k. k.seq) key)) rest.1,
      ),
    )

pub runs_of_copies : (l r : Side) (es : List End) (choices : List Choice) (cs : List Chunk) → ChosenRun l r es choices
    → AreCopies (flat_map (chosen_heads l r) choices) cs → AreRuns es cs
runs_of_copies l r [] [] [] run copies = refl
runs_of_copies l r [] [] (c ∷ cs) run copies = absurd copies
runs_of_copies l r [] (x ∷ xs) cs run copies = absurd run
runs_of_copies l r (e ∷ es) [] cs run copies = absurd run
runs_of_copies l r (e ∷ es) (x ∷ xs) cs run copies =
    let p = copies_split (chosen_heads l r x) (flat_map (chosen_heads l r) xs) cs copies in
    let k = copies_run e e.start (chosen_heads l r x) e.end p.0 run.0 p.1.1.1.0 in
    (p.0, (p.1.0, (p.1.1.0, (record { of = k.0; run = k.1 }, runs_of_copies l r es xs p.1.0 run.1 p.1.1.1.1))))

-- ---- one stream's chunks

pub all_of : (s t : Stream) → same_stream s t ≡ true → (xs : List Chunk) → Each (λ (c : Chunk). c.key.stream ≡ t) xs
    → chunks_of_stream s xs ≡ xs
all_of s t same [] k = refl
all_of s t same (c ∷ xs) k =
    ap (λ b. cond b (c ∷ filter (is_of s) xs) (filter (is_of s) xs)) (ap (same_stream s) k.0 ∙ same)
    ∙ ap (λ l. c ∷ l) (all_of s t same xs k.1)

pub none_of : (s t : Stream) → same_stream s t ≡ false → (xs : List Chunk)
    → Each (λ (c : Chunk). c.key.stream ≡ t) xs → chunks_of_stream s xs ≡ []
none_of s t other [] k = refl
none_of s t other (c ∷ xs) k =
    ap (λ b. cond b (c ∷ filter (is_of s) xs) (filter (is_of s) xs)) (ap (same_stream s) k.0 ∙ other)
    ∙ none_of s t other xs k.1

-- an end of a stream in front of all isn't among them
pub no_end : (s : Stream) (es : List End) → Each (λ (f : End). stream_lt s f.stream ≡ true) es → end_of s es ≡ None
no_end s [] all = refl
no_end s (f ∷ es) all =
    ap (λ b. if b then Some f else end_of s es) (apart s f.stream all.0) ∙ no_end s es all.1

-- a stream without an end has no chunks
pub runs_none : (s : Stream) (es : List End) (cs : List Chunk) → AreRuns es cs → end_of s es ≡ None
    → chunks_of_stream s cs ≡ []
runs_none s [] cs runs none = ap (chunks_of_stream s) runs
runs_none s (e ∷ es) cs runs none =
    ap (chunks_of_stream s) runs.1.1.0
    ∙ (filter-append (is_of s) runs.0 runs.1.0
    ∙ go (is_end_of s e) refl none (λ n. runs_none s es runs.1.0 runs.1.1.1.1 n))
  where
    go : (b : Bool) → is_end_of s e ≡ b → (if b then Some e else end_of s es) ≡ None
        → (end_of s es ≡ None → chunks_of_stream s runs.1.0 ≡ [])
        → filter (is_of s) runs.0 ++ filter (is_of s) runs.1.0 ≡ []
    go true mine n rest = absurd (none-some e (sym n))
    go false mine n rest = ap₂ (λ x y. x ++ y) (none_of s e.stream mine runs.0 runs.1.1.1.0.of) (rest n)

-- and one with an end has its run
pub runs_stream : (s : Stream) (es : List End) (cs : List Chunk) (f : End) → Sorted es → AreRuns es cs
    → end_of s es ≡ Some f → IsRunOf f (chunks_of_stream s cs) × (f.stream ≡ s)
runs_stream s [] cs f sorted runs is = absurd (none-some f is)
runs_stream s (e ∷ es) cs f sorted runs is =
    subst (λ l. IsRunOf f l × (f.stream ≡ s))
    (sym (ap (chunks_of_stream s) runs.1.1.0 ∙ filter-append (is_of s) runs.0 runs.1.0))
    (go (is_end_of s e) refl is (λ n. runs_stream s es runs.1.0 f sorted.1 runs.1.1.1.1 n))
  where
    go : (b : Bool) → is_end_of s e ≡ b → (if b then Some e else end_of s es) ≡ Some f
        → (end_of s es ≡ Some f → IsRunOf f (chunks_of_stream s runs.1.0) × (f.stream ≡ s))
        → IsRunOf f (filter (is_of s) runs.0 ++ filter (is_of s) runs.1.0) × (f.stream ≡ s)
    go true mine i rest =
        let same : e ≡ f = same_Some e f i in
        let stream : s ≡ e.stream = streams_same s e.stream mine in
        let behind : end_of s es ≡ None =
        no_end s es (subst (λ t. Each (λ (g : End). stream_lt t g.stream ≡ true) es) (sym stream) sorted.0) in
        let back = runs_none s es runs.1.0 runs.1.1.1.1 behind in
        let front = all_of s e.stream mine runs.0 runs.1.1.1.0.of in
        subst (λ (x : End). IsRunOf x (filter (is_of s) runs.0 ++ filter (is_of s) runs.1.0) × (x.stream ≡ s)) same (
          subst (IsRunOf e) (sym (ap₂ (λ x y. x ++ y) front back ∙ append-nil runs.0)) runs.1.1.1.0,
          sym stream,
        )
    go false mine i rest =
        let front = none_of s e.stream mine runs.0 runs.1.1.1.0.of in
        subst (λ l. IsRunOf f (l ++ filter (is_of s) runs.1.0) × (f.stream ≡ s)) (sym front) (rest i)

pub none_in : {Y : Type 0} (y : Y) → Contains [] y → ⊥
none_in y one = let low = one.1 in let z : ⊥ = omega (arith, low) in z

-- each chunk is of one of the streams
pub runs_listed : (es : List End) (cs : List Chunk) (c : Chunk) → AreRuns es cs → Contains cs c
    → Any (λ (e : End). e.stream ≡ c.key.stream) es
runs_listed [] cs c runs one = absurd (none_in c (subst (λ l. Contains l c) runs one))
runs_listed (e ∷ es) cs c runs one =
    go (from_both runs.0 runs.1.0 c (subst (λ l. Contains l c) runs.1.1.0 one))
    (λ k. runs_listed es runs.1.0 c runs.1.1.1.1 k)
  where
    go : Contains runs.0 c ⊎ Contains runs.1.0 c
        → (Contains runs.1.0 c → Any (λ (e : End). e.stream ≡ c.key.stream) es)
        → Any (λ (e : End). e.stream ≡ c.key.stream) (e ∷ es)
    go (inl k) rest =
        (0, e, omega arith, refl, sym (each_at (λ (d : Chunk). d.key.stream ≡ e.stream) runs.0 c runs.1.1.1.0.of k))
    go (inr k) rest = let r = rest k in (suc r.0, r.1, omega (arith, r.2), r.3, r.4)

-- an end that stands in order is the one of its stream
pub end_is_in : (es : List End) → Sorted es → (e : End) → Contains es e → end_of e.stream es ≡ Some e
end_is_in [] sorted e one = absurd (none_in e one)
end_is_in (f ∷ es) sorted e (zero, low, at) =
    ap (λ b. if b then Some f else end_of e.stream es)
    (subst (λ (x : End). same_stream e.stream x.stream ≡ true) (sym at) (stream_self e.stream))
    ∙ ap Some at
end_is_in (f ∷ es) sorted e (suc k, low, at) =
    let one : Contains es e = (k, omega (arith, low), at) in
    let before : stream_lt f.stream e.stream ≡ true =
    each_at (λ (g : End). stream_lt f.stream g.stream ≡ true) es e sorted.0 one in
    ap (λ b. if b then Some f else end_of e.stream es) (apart_from f.stream e.stream before)
    ∙ end_is_in es sorted.1 e one
