-- The order in which chunks are gone through is one, and what is put in order stands in it.
use Rattle.std.proofs.Common.{◌≡◌, inl, inr, ◌≤◌, true, false, ◌&&◌, ◌||◌, List, [], ◌∷◌, sym, subst, ◌∙◌, true≢false}
use Rattle.std.specs.Prelude.{nat_lt, nat_eq, filter}
use Rattle.std.proofs.lemmas.Bool.{or_parts, and_cases, ltb-false, cond_both}
use Rattle.chk_chunk.specs.Keys.{Stream, Chunk, chunk_begin, chunk_end, same_stream, stream_lt, is_of}
use Rattle.chk_world.specs.ArchiveRuns.{comes_before, put_in, in_order}
use Rattle.chk_world.proofs.NameTests.{streams_same}
use Rattle.chk_world.proofs.Each.{Each}
use Rattle.chk_record_index.proofs.Orders.{WeakOrder, lex, through, tested_through, numbers, streams}
use Rattle.chk_record_index.proofs.Sorting.{at_test}
use Rattle.chk_archive_plan.specs.Plan.{NoneBelow, BeginsRise}

-- the order of chunks
pub chunks_ordered : WeakOrder comes_before
chunks_ordered =
    lex (λ (c d : Chunk). stream_lt c.key.stream d.key.stream)
    (λ (c d : Chunk). same_stream c.key.stream d.key.stream)
    (λ (c d : Chunk). nat_lt (chunk_begin c) (chunk_begin d) ||
    (nat_eq (chunk_begin c) (chunk_begin d) && nat_lt (chunk_end c) (chunk_end d)))
    (tested_through (λ (c : Chunk). c.key.stream) stream_lt same_stream streams)
    (lex (λ (c d : Chunk). nat_lt (chunk_begin c) (chunk_begin d))
    (λ (c d : Chunk). nat_eq (chunk_begin c) (chunk_begin d))
    (λ (c d : Chunk). nat_lt (chunk_end c) (chunk_end d))
    (tested_through chunk_begin nat_lt nat_eq numbers) (through chunk_end nat_lt numbers.order))

-- ---- what is put in order

-- none of them comes before this one
abbrev pub NoneBefore : Chunk → List Chunk → Type 0
NoneBefore c ds = Each (λ d. comes_before d c ≡ false) ds

abbrev pub Ordered : List Chunk → Type 0
Ordered [] = Unit {0}
Ordered (c ∷ cs) = NoneBefore c cs × Ordered cs

each_put : (P : Chunk → Type 0) (c : Chunk) (ds : List Chunk) → P c → Each P ds → Each P
    (put_in c ds)
each_put P c [] pc all = (pc, tt)
each_put P c (d ∷ ds) pc all =
    let rest = each_put P c ds pc all.1 in
    at_test (Each P) (comes_before d c) (d ∷ put_in c ds) (c ∷ d ∷ ds) (λ e. (all.0, rest))
    (λ e. (pc, all))

none_onward : (c d : Chunk) (es : List Chunk) → comes_before d c ≡ false → NoneBefore d es
    → NoneBefore c es
none_onward c d [] h none = tt
none_onward c d (e ∷ es) h none =
    (chunks_ordered.onward e d c none.0 h, none_onward c d es h none.1)

put_ordered : (c : Chunk) (ds : List Chunk) → Ordered ds → Ordered (put_in c ds)
put_ordered c [] o = (tt, tt)
put_ordered c (d ∷ ds) o =
    let rest = put_ordered c ds o.1 in
    at_test Ordered (comes_before d c) (d ∷ put_in c ds) (c ∷ d ∷ ds)
    (λ e. (each_put (λ x. comes_before x d ≡ false) c ds (chunks_ordered.one_way d c e) o.0, rest))
    (λ e. ((e, none_onward c d ds e o.0), o))

pub in_order_ordered : (cs : List Chunk) → Ordered (in_order cs)
in_order_ordered [] = tt
in_order_ordered (c ∷ cs) = put_ordered c (in_order cs) (in_order_ordered cs)

-- of one stream the first offsets rise
later_begins : (c d : Chunk) → same_stream d.key.stream c.key.stream ≡ true → comes_before d c
    ≡ false → chunk_begin c ≤ chunk_begin d
later_begins c d same e =
    let p = or_parts (stream_lt d.key.stream c.key.stream) _ e in
    elim (and_cases (same_stream d.key.stream c.key.stream) _ p.1) [
      | inl n0 ↦ absurd (true≢false (sym same ∙ n0))
      | inr k ↦ ltb-false (chunk_begin d) (chunk_begin c)
          (or_parts (nat_lt (chunk_begin d) (chunk_begin c)) _ k).0
    ]

of_same : (s : Stream) (c d : Chunk) → is_of s c ≡ true → is_of s d ≡ true
    → same_stream d.key.stream c.key.stream ≡ true
of_same s c d hc hd =
    subst (λ t. same_stream t c.key.stream ≡ true) (streams_same s d.key.stream hd) hc

none_below : (s : Stream) (c : Chunk) (ds : List Chunk) → is_of s c ≡ true → NoneBefore c ds
    → NoneBelow (chunk_begin c) (filter (is_of s) ds)
none_below s c [] h none = tt
none_below s c (d ∷ ds) h none =
    let rest = none_below s c ds h none.1 in
    cond_both (is_of s d) (d ∷ filter (is_of s) ds) (filter (is_of s) ds)
    (NoneBelow (chunk_begin c))
    (λ e. (later_begins c d (of_same s c d h e) none.0, rest)) (λ e. rest)

pub ordered_rise : (s : Stream) (cs : List Chunk) → Ordered cs → BeginsRise (filter (is_of s) cs)
ordered_rise s [] o = tt
ordered_rise s (c ∷ cs) o =
    let rest = ordered_rise s cs o.1 in
    cond_both (is_of s c) (c ∷ filter (is_of s) cs) (filter (is_of s) cs) BeginsRise
    (λ e. (none_below s c cs e o.0, rest)) (λ e. rest)
