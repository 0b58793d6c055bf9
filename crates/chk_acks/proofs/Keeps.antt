-- Rows as they are kept, and the rows that they stand for.
use Rattle.std.proofs.Common.{◌≡◌, ◌≤◌, ◌<◌, ℕ, zero, suc, Bool, true, false, cond, List, [], ◌∷◌, ◌++◌, length, map, take, drop, get_or, refl, ap, ap₂, ◌∙◌, subst, sym, arith}
use Rattle.std.specs.List.{All, filter}
use Rattle.std.proofs.lemmas.List.{drop_more, get_or_at, get_or-map, get_or_read, length-map, length-take}
use Rattle.chk_bytes.specs.Stems.{Stem, stem_of}
use Rattle.chk_acks.specs.declared.row.Row.{Row}
use Rattle.chk_acks.specs.declared.kept.Kept.{Kept}
use Rattle.chk_acks.specs.Passes.{places_of}
use Rattle.chk_acks.specs.Table.{answer_row}
use Rattle.chk_acks.specs.Keeping.{IsIn, Rises, bare, kept_marked, named_at, seen, sink_at}

-- what stands for a row that isn't there
abbrev pub no_kept : Kept
no_kept = record { adaptor = 0; sink = 0; begin = 0; end = 0; offset = 0; answered = 0; marked = false }

-- a row that a pass hasn't come to yet is as before
pub read_over : {X : Type 0} (f : X → X) (xs ys : List X) (i : ℕ) (d : X) → i < length xs
    → ys ≡ map f (take i xs) ++ drop i xs → get_or ys i d ≡ get_or xs i d
read_over f xs ys i d within is =
    let front = map f (take i xs) in
    let long : length front ≡ i = length-map (take i xs) f ∙ omega (arith, length-take i xs) in
    ap (λ l. get_or l i d) (is ∙ ap (λ l. front ++ l) (drop_more xs i d within))
    ∙ get_or_at front _ _ d i long

-- rows that are kept by what they stand for
pub filter_seen : {X Y : Type 0} (keeps : Y → Bool) (f : X → Y) (xs : List X)
    → filter keeps (map f xs) ≡ map f (filter (λ x. keeps (f x)) xs)
filter_seen keeps f [] = refl
filter_seen keeps f (x ∷ xs) = by (keeps (f x)) (filter_seen keeps f xs)
  where
    by : (kept : Bool) → filter keeps (map f xs) ≡ map f (filter (λ x. keeps (f x)) xs)
        → cond kept (f x ∷ filter keeps (map f xs)) (filter keeps (map f xs))
        ≡ map f (cond kept (x ∷ filter (λ x. keeps (f x)) xs) (filter (λ x. keeps (f x)) xs))
    by true rest = ap (λ ys. f x ∷ ys) rest
    by false rest = rest

pub map_both : {X Y Z : Type 0} (g : Y → Z) (f : X → Y) (xs : List X) → map g (map f xs)
    ≡ map (λ x. g (f x)) xs
map_both g f [] = refl
map_both g f (x ∷ xs) = ap (λ ys. g (f x) ∷ ys) (map_both g f xs)

-- the places of the unmarked rows don't depend on their sinks
pub places_seen : (sinks : List Stem) (place : ℕ) (kept : List Kept)
    → places_of place (map bare kept) ≡ places_of place (map (seen sinks) kept)
places_seen sinks place [] = refl
places_seen sinks place (k ∷ kept) = by k.marked (places_seen sinks (suc place) kept)
  where
    by : (marked : Bool) → places_of (suc place) (map bare kept)
        ≡ places_of (suc place) (map (seen sinks) kept)
        → cond marked (places_of (suc place) (map bare kept))
        (place ∷ places_of (suc place) (map bare kept))
        ≡ cond marked (places_of (suc place) (map (seen sinks) kept))
        (place ∷ places_of (suc place) (map (seen sinks) kept))
    by true rest = rest
    by false rest = ap (λ ps. place ∷ ps) rest

-- numbers that rise from one rise from a lower one
pub rises_from : (from next : ℕ) (kept : List Kept) (end : ℕ) → from ≤ next → Rises next kept end
    → Rises from kept end
rises_from from next [] end low rises = tt
rises_from from next (k ∷ kept) end low rises = (omega (arith, rises.0), rises.1, rises.2)

-- also those of some of the rows
pub rises_filter : (keeps : Kept → Bool) (next : ℕ) (kept : List Kept) (end : ℕ)
    → Rises next kept end → Rises next (filter keeps kept) end
rises_filter keeps next [] end rises = tt
rises_filter keeps next (k ∷ kept) end rises =
    by (keeps k) (rises_filter keeps (suc k.sink) kept end rises.2)
  where
    by : (keep : Bool) → Rises (suc k.sink) (filter keeps kept) end
        → Rises next (cond keep (k ∷ filter keeps kept) (filter keeps kept)) end
    by true rest = (rises.0, rises.1, rest)
    by false rest = rises_from next (suc k.sink) (filter keeps kept) end (omega (arith, rises.0)) rest

-- marking changes no number
pub rises_marked : (sinks : List Stem) (stem : Stem) (size next : ℕ) (kept : List Kept) (end : ℕ)
    → Rises next kept end → Rises next (map (kept_marked sinks stem size) kept) end
rises_marked sinks stem size next [] end rises = tt
rises_marked sinks stem size next (k ∷ kept) end rises =
    (rises.0, rises.1, rises_marked sinks stem size (suc k.sink) kept end rises.2)

-- one more row at the end, of the last sink or of a new one
pub rises_push : (next : ℕ) (kept : List Kept) (k : Kept) (end wider : ℕ) → next ≤ end
    → end ≤ suc k.sink → k.sink < wider → end ≤ wider → Rises next kept end
    → Rises next (kept ++ k ∷ []) wider
rises_push next [] k end wider low last there wide rises = (omega (arith, low, last), there, tt)
rises_push next (x ∷ kept) k end wider low last there wide rises = (
  rises.0,
  omega (arith, rises.1, wide),
  rises_push (suc x.sink) kept k end wider (omega (arith, rises.1)) last there wide rises.2,
)

-- each row names a sink of the list
pub rises_within : (sinks : List Stem) (next : ℕ) (kept : List Kept) → Rises next kept (length sinks)
    → All (IsIn sinks) kept
rises_within sinks next [] rises i d within = absurd (omega arith)
rises_within sinks next (k ∷ kept) rises zero d within = rises.1
rises_within sinks next (k ∷ kept) rises (suc i) d within =
    rises_within sinks (suc k.sink) kept rises.2 i d (omega arith)

-- rows stand for the same where the sinks below an end are the same
pub seen_same : (sinks others : List Stem) (next : ℕ) (kept : List Kept) (end : ℕ)
    → Rises next kept end → ((k : ℕ) → k < end → sink_at others k ≡ sink_at sinks k)
    → map (seen others) kept ≡ map (seen sinks) kept
seen_same sinks others next [] end rises same = refl
seen_same sinks others next (k ∷ kept) end rises same =
    ap₂ (λ (stem : Stem) rows. (record (bare k) { stem = stem }) ∷ rows) (same k.sink rises.1)
    (seen_same sinks others (suc k.sink) kept end rises.2 same)

-- what a row at a place names
pub named_seen : (sinks : List Stem) (kept : List Kept) (place : ℕ) (row : Kept)
    → Rises 0 kept (length sinks) → place < length kept → row ≡ get_or kept place row
    → IsIn sinks row × ((sink : Stem) → sink ≡ get_or sinks row.sink sink
    → (sink, row.offset) ≡ named_at (map (seen sinks) kept) place)
named_seen sinks kept place row rises within is =
    let there : IsIn sinks row =
    subst (IsIn sinks) (sym is) (rises_within sinks 0 kept rises place row within) in (
      there,
      λ sink named.
          ap (λ (stem : Stem). (stem, row.offset))
          (get_or_read sinks row.sink sink there named (stem_of [] 0 0))
          ∙ ap (λ (r : Row). (r.stem, r.offset))
          (sym (get_or-map (seen sinks) kept place row (answer_row 0 0 0 (stem_of [] 0 0) 0 0) within
          ∙ ap (seen sinks) (sym is))),
    )

-- what is left of the rows is seen as before
pub left_seen : (keeps : Row → Bool) (sinks others : List Stem) (kept left moved : List Kept)
    → left ≡ filter (λ k. keeps (seen sinks k)) kept
    → map (seen others) moved ≡ map (seen sinks) left
    → map (seen others) moved ≡ filter keeps (map (seen sinks) kept)
left_seen keeps sinks others kept left moved is same =
    same ∙ ap (map (seen sinks)) is ∙ sym (filter_seen keeps (seen sinks) kept)

-- the adaptors are as those of the rows that are seen
pub known_seen : (sinks : List Stem) (kept : List Kept) (end : ℕ)
    → All (λ row. row.adaptor < end) (map (seen sinks) kept) → All (λ k. k.adaptor < end) kept
known_seen sinks kept end known i d within =
    subst (λ (row : Row). row.adaptor < end)
    (get_or-map (seen sinks) kept i d (seen sinks d) within)
    (known i (seen sinks d) (omega (arith, within, length-map kept (seen sinks))))
