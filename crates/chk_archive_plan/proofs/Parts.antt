-- The parts of a pass are what the job's rule asks of them, and the pass over all streams is one
-- for each.
use Rattle.std.proofs.Common.{◌≡◌, ℕ, ◌+◌, ◌-◌, ◌≤◌, ◌<◌, Bool, true, false, cond, List, [], ◌∷◌, ◌++◌, length, drop, ap, sym, subst, ◌∙◌, refl, arith, length-drop, length-append, true≢false, if◌then◌else◌}
use Rattle.std.specs.Prelude.{IsTrue, filter}
use Rattle.chk_site.specs.Files.{Files}
use Rattle.chk_chunk.specs.Keys.{Stream, Chunk, chunk_begin, chunk_end, same_stream, is_of}
use Rattle.chk_world.specs.Books.{values}
use Rattle.chk_world.specs.ArchiveRuns.{with_end, total_gain}
use Rattle.chk_world.specs.Jobs.{IsSource, AreParts, Run}
use Rattle.chk_world.proofs.NameTests.{streams_same}
use Rattle.chk_world.proofs.Ends.{bytes_self}
use Rattle.chk_record_index.proofs.Sorting.{at_test}
use Rattle.chk_archive_plan.specs.Plan.{goes_on, part_past, parts_from, reached_from, parts_of, ends_of}
use Rattle.chk_world.specs.TrueBooks.{HasBytes}
use Rattle.chk_world.proofs.Each.{Each}
use Rattle.chk_archive_plan.proofs.Reaching.{goes}

-- ---- the parts of one stream

-- a chunk of s in a source of the job
pub record MayTake (files : Files) (s : Stream) (c : Chunk) : Type 0 where
  pub source : IsSource files c
  pub of : IsTrue (is_of s c)

pub are_parts : (files : Files) (s : Stream) (reached : ℕ) (cs : List Chunk) → Each
    (MayTake files s) cs
    → AreParts files s reached (parts_from reached cs)
are_parts files s reached [] all = tt
are_parts files s reached (c ∷ cs) all =
    at_test (AreParts files s reached) (goes_on reached c)
    (part_past reached c ∷ parts_from (chunk_end c) cs) (parts_from reached cs)
    (λ e. let h = goes reached c e in
    (record { whole = c; source = all.0.source; of = all.0.of; begins = h.0; past = h.1; key = refl; value = refl }, are_parts files s (chunk_end c) cs all.1))
    (λ e. are_parts files s reached cs all.1)

-- a chunk with this start
pub record StartsAt (start : ℕ) (c : Chunk) : Type 0 where
  pub start_is : c.key.start ≡ start
  pub bytes : HasBytes c

part_begin : (reached : ℕ) (c : Chunk) → HasBytes c → goes_on reached c ≡ true → chunk_begin
    (part_past reached c) ≡ reached
part_begin reached c b e =
    let h = goes reached c e in
    let size = length-drop (reached - chunk_begin c) c.value in
    let room = b.room in
    let low : chunk_begin c ≤ reached = h.0 in
    let high : reached < chunk_end c = h.1 in
    omega (arith, size, room, low, high)

-- they run from the end before to the end reached
pub parts_run : (start reached : ℕ) (cs : List Chunk) → Each (StartsAt start) cs → Run start reached
    (parts_from reached cs) (reached_from reached cs)
parts_run start reached [] all = refl
parts_run start reached (c ∷ cs) all = go (goes_on reached c) refl
    (λ e. parts_run start (chunk_end c) cs all.1) (parts_run start reached cs all.1)
  where
    go : (b : Bool) → goes_on reached c ≡ b →
        (b ≡ true → Run start (chunk_end c) (parts_from (chunk_end c) cs)
        (reached_from (chunk_end c) cs))
        → Run start reached (parts_from reached cs) (reached_from reached cs)
        → Run start reached (elim b [
          | true ↦ part_past reached c ∷ parts_from
              (chunk_end c) cs
          | false ↦ parts_from reached cs
        ])
        (elim b [ true ↦ reached_from (chunk_end c) cs | false ↦ reached_from reached cs ])
    go true e on off = (all.0.start_is, part_begin reached c all.0.bytes e, on refl)
    go false e on off = off

-- one run and then another
pub run_then : (start from mid to : ℕ) (xs ys : List Chunk) → Run start from xs mid
    → Run start mid ys to → Run start from (xs ++ ys) to
run_then start from mid to [] ys a b = subst (λ n. Run start n ys to) a b
run_then start from mid to (x ∷ xs) ys a b =
    (a.0, a.1, run_then start (chunk_end x) mid to xs ys a.2 b)

-- ---- all streams

other_end : (ends : Stream → ℕ) (t s : Stream) (e : ℕ) → same_stream s t ≡ false
    → with_end ends t e s ≡ ends s
other_end ends t s e differ = go (same_stream t s) refl
  where
    go : (b : Bool) → same_stream t s ≡ b → (if b then e else ends s) ≡ ends s
    go false k = refl
    go true k =
        let same : t ≡ s = streams_same t s k in
        absurd (true≢false (sym (subst (λ u. same_stream u t ≡ true) same (self t)) ∙ differ))
      where
        self : (t : Stream) → same_stream t t ≡ true
        self t = rw (bytes_self t.source, bytes_self t.kind, bytes_self t.name) refl

pub stream_self : (t : Stream) → same_stream t t ≡ true
stream_self t = rw (bytes_self t.source, bytes_self t.kind, bytes_self t.name) refl

pub own_end : (ends : Stream → ℕ) (t s : Stream) (e : ℕ) → same_stream s t ≡ true
    → with_end ends t e s ≡ e
own_end ends t s e same =
    let is : s ≡ t = streams_same s t same in
    ap (λ u. if same_stream t u then e else ends u) is ∙ ap (λ b. if b then e else ends t)
    (stream_self t)

-- the pass over all streams is a pass over each one's chunks
pub ends_at : (ends : Stream → ℕ) (cs : List Chunk) (s : Stream) → ends_of ends cs s ≡ reached_from
    (ends s) (filter (is_of s) cs)
ends_at ends [] s = refl
ends_at ends (c ∷ cs) s =
    go (goes_on (ends c.key.stream) c) refl (same_stream s c.key.stream) refl
    (ends_at (with_end ends c.key.stream (chunk_end c)) cs s) (ends_at ends cs s)
  where
    go : (b : Bool) → goes_on (ends c.key.stream) c ≡ b → (m : Bool) → same_stream s c.key.stream
        ≡ m
        → ends_of (with_end ends c.key.stream (chunk_end c)) cs s ≡ reached_from
        (with_end ends c.key.stream (chunk_end c) s) (filter (is_of s) cs)
        → ends_of ends cs s ≡ reached_from (ends s) (filter (is_of s) cs)
        → (elim b as (λ x. Stream → ℕ) [
          | true ↦ ends_of
              (with_end ends c.key.stream (chunk_end c)) cs
          | false ↦ ends_of ends cs
        ]) s
        ≡ reached_from (ends s) (cond m (c ∷ filter (is_of s) cs) (filter (is_of s) cs))
    go true e true k on off =
        let here : goes_on (ends s) c ≡ true = ap (λ t. goes_on (ends t) c)
        (streams_same s c.key.stream k) ∙ e in
        on ∙ (ap (λ n. reached_from n (filter (is_of s) cs))
        (own_end ends c.key.stream s (chunk_end c) k)
        ∙ ap (λ b. elim b as (λ x. ℕ) [
          | true ↦ reached_from (chunk_end c)
              (filter (is_of s) cs)
          | false ↦ reached_from (ends s) (filter (is_of s) cs)
        ])
        (sym here))
    go true e false k on off = on ∙ ap (λ n. reached_from n (filter (is_of s) cs))
        (other_end ends c.key.stream s (chunk_end c) k)
    go false e true k on off =
        let here : goes_on (ends s) c ≡ false = ap (λ t. goes_on (ends t) c)
        (streams_same s c.key.stream k) ∙ e in
        off ∙ ap (λ b. elim b as (λ x. ℕ) [
          | true ↦ reached_from (chunk_end c)
              (filter (is_of s) cs)
          | false ↦ reached_from (ends s) (filter (is_of s) cs)
        ])
        (sym here)
    go false e false k on off = off

pub parts_at : (ends : Stream → ℕ) (cs : List Chunk) (s : Stream) → filter (is_of s)
    (parts_of ends cs) ≡ parts_from (ends s) (filter (is_of s) cs)
parts_at ends [] s = refl
parts_at ends (c ∷ cs) s =
    go (goes_on (ends c.key.stream) c) refl (same_stream s c.key.stream) refl
    (parts_at (with_end ends c.key.stream (chunk_end c)) cs s) (parts_at ends cs s)
  where
    go : (b : Bool) → goes_on (ends c.key.stream) c ≡ b → (m : Bool) → same_stream s c.key.stream
        ≡ m
        → filter (is_of s) (parts_of (with_end ends c.key.stream (chunk_end c)) cs) ≡ parts_from
        (with_end ends c.key.stream (chunk_end c) s) (filter (is_of s) cs)
        → filter (is_of s) (parts_of ends cs) ≡ parts_from (ends s) (filter (is_of s) cs)
        → filter (is_of s) (elim b [
          | true ↦ part_past (ends c.key.stream) c ∷ parts_of
              (with_end ends c.key.stream (chunk_end c)) cs
          | false ↦ parts_of ends cs
        ])
        ≡ parts_from (ends s) (cond m (c ∷ filter (is_of s) cs) (filter (is_of s) cs))
    go true e true k on off =
        let is : s ≡ c.key.stream = streams_same s c.key.stream k in
        let here : goes_on (ends s) c ≡ true = ap (λ t. goes_on (ends t) c) is ∙ e in
        let l = filter (is_of s) cs in
        ap (λ m. cond m (part_past (ends c.key.stream) c ∷ filter (is_of s)
        (parts_of (with_end ends c.key.stream (chunk_end c)) cs))
        (filter (is_of s) (parts_of (with_end ends c.key.stream (chunk_end c)) cs))) k
        ∙ (ap (λ m. part_past (ends c.key.stream) c ∷ m)
        (on ∙ ap (λ n. parts_from n l) (own_end ends c.key.stream s (chunk_end c) k))
        ∙ (ap (λ t. part_past (ends t) c ∷ parts_from (chunk_end c) l) (sym is)
        ∙ ap (λ b. elim b as (λ x. List Chunk) [
          | true ↦ part_past (ends s) c ∷ parts_from
              (chunk_end c) l
          | false ↦ parts_from (ends s) l
        ]) (sym here)))
    go true e false k on off =
        ap (λ m. cond m (part_past (ends c.key.stream) c ∷ filter (is_of s)
        (parts_of (with_end ends c.key.stream (chunk_end c)) cs))
        (filter (is_of s) (parts_of (with_end ends c.key.stream (chunk_end c)) cs))) k
        ∙ (on ∙ ap (λ n. parts_from n (filter (is_of s) cs))
        (other_end ends c.key.stream s (chunk_end c) k))
    go false e true k on off =
        let here : goes_on (ends s) c ≡ false = ap (λ t. goes_on (ends t) c)
        (streams_same s c.key.stream k) ∙ e in
        let l = filter (is_of s) cs in
        off ∙ ap (λ b. elim b as (λ x. List Chunk) [
          | true ↦ part_past (ends s) c ∷ parts_from
              (chunk_end c) l
          | false ↦ parts_from (ends s) l
        ]) (sym here)
    go false e false k on off = off

-- the sum of the gains is the number of bytes in the parts
pub gain_is : (ends : Stream → ℕ) (cs : List Chunk) → Each HasBytes cs → total_gain ends cs ≡ length
    (values (parts_of ends cs))
gain_is ends [] all = refl
gain_is ends (c ∷ cs) all =
    go (goes_on (ends c.key.stream) c) refl
    (gain_is (with_end ends c.key.stream (chunk_end c)) cs all.1) (gain_is ends cs all.1)
  where
    go : (b : Bool) → goes_on (ends c.key.stream) c ≡ b
        → total_gain (with_end ends c.key.stream (chunk_end c)) cs ≡ length
        (values (parts_of (with_end ends c.key.stream (chunk_end c)) cs))
        → total_gain ends cs ≡ length (values (parts_of ends cs))
        → elim b [
          | true ↦ (chunk_end c - ends c.key.stream) + total_gain
              (with_end ends c.key.stream (chunk_end c)) cs
          | false ↦ total_gain ends cs
        ]
        ≡ length (values (elim b [
          | true ↦ part_past (ends c.key.stream) c ∷ parts_of
              (with_end ends c.key.stream (chunk_end c)) cs
          | false ↦ parts_of ends cs
        ]))
    go true e on off =
        let h = goes (ends c.key.stream) c e in
        let size = length-drop (ends c.key.stream - chunk_begin c) c.value in
        let whole = length-append (drop (ends c.key.stream - chunk_begin c) c.value)
        (values (parts_of (with_end ends c.key.stream (chunk_end c)) cs)) in
        let room = all.0.room in
        let low : chunk_begin c ≤ ends c.key.stream = h.0 in
        let high : ends c.key.stream < chunk_end c = h.1 in
        omega (arith, size, whole, room, low, high, on)
    go false e on off = off
