-- What is set aside holds each chunk past its stream's end; so the done sinks may be removed.
use Rattle.std.proofs.Common.{◌≡◌, ◌⊎◌, inl, inr, ℕ, zero, suc, ◌≤◌, ◌<◌, Bool, true, false, ◌&&◌, not, List, [], ◌∷◌, length, ap, sym, subst, ◌∙◌, refl, arith}
use Rattle.std.specs.Prelude.{IsTrue, Contains, Any, filter, slice_index_or, nat_eq, bytes_eq}
use Rattle.std.proofs.lemmas.Bool.{and_parts, and_from, ltb-false, cases_Bool}
use Rattle.chk_site.specs.Files.{File}
use Rattle.chk_site.specs.History.{History, files_after}
use Rattle.chk_chunk.specs.Keys.{Stream, Chunk, chunk_end, chunk_limit, same_stream, same_data}
use Rattle.chk_world.specs.Names.{ArchiveFolder}
use Rattle.chk_world.specs.Rules.{Legal}
use Rattle.chk_world.specs.Books.{book_of, Book, chunks_within}
use Rattle.chk_world.specs.Committed.{aside_chunks, archived_end}
use Rattle.chk_world.specs.ArchiveRuns.{once}
use Rattle.chk_world.specs.Jobs.{NewBook, IsSaved}
use Rattle.chk_world.proofs.NameTests.{streams_same, nat_same}
use Rattle.chk_world.proofs.Ends.{bytes_self, bytes_same}
use Rattle.chk_archive_plan.specs.Plan.{ends_of, is_past, set_aside}
use Rattle.chk_archive_plan.specs.NextBooks.{NamesParts, AreFound, AsideIs, AsideKept}
use Rattle.chk_archive_plan.proofs.Parts.{stream_self}
use Rattle.chk_archive_plan.proofs.BooksMay.{book_may, aside_found}
use Rattle.chk_world.proofs.Segments.{data_self}
use Rattle.chk_world.proofs.Each.{passes_in, later_one}

-- equal chunks are equal to the same others
data_onward : (c d e : Chunk) → same_data d e ≡ true → same_data c e ≡ true → same_data c d ≡ true
data_onward c d e p q =
    let a = and_parts (same_stream d.key.stream e.key.stream)
    (nat_eq d.key.seq e.key.seq && bytes_eq d.value e.value) p in
    let a2 = and_parts (nat_eq d.key.seq e.key.seq) (bytes_eq d.value e.value) a.1 in
    let b = and_parts (same_stream c.key.stream e.key.stream)
    (nat_eq c.key.seq e.key.seq && bytes_eq c.value e.value) q in
    let b2 = and_parts (nat_eq c.key.seq e.key.seq) (bytes_eq c.value e.value) b.1 in
    let stream = streams_same c.key.stream e.key.stream b.0 ∙ sym
    (streams_same d.key.stream e.key.stream a.0) in
    let seq = nat_same c.key.seq e.key.seq b2.0 in
    let seq2 = nat_same d.key.seq e.key.seq a2.0 in
    let value = bytes_same c.value e.value b2.1 ∙ sym (bytes_same d.value e.value a2.1) in
    and_from (same_stream c.key.stream d.key.stream)
    (nat_eq c.key.seq d.key.seq && bytes_eq c.value d.value)
    (subst (λ t. same_stream c.key.stream t ≡ true) stream (stream_self c.key.stream))
    (and_from (nat_eq c.key.seq d.key.seq) (bytes_eq c.value d.value) (grind (arith, seq, seq2))
    (subst (λ l. bytes_eq c.value l ≡ true) value (bytes_self c.value)))

-- an equal chunk is in the list
abbrev pub Equals : List Chunk → Chunk → Type 0
Equals cs c = (d : Chunk) × Contains cs d × (same_data c d ≡ true)

pub once_has : (cs : List Chunk) (c : Chunk) → Contains cs c → Equals (once cs) c
once_has cs c one = go cs one.0 one.1 one.2
  where
    in_rest : (d : Chunk) (ds : List Chunk) → Equals (once ds) c → Equals (once (d ∷ ds)) c
    in_rest d ds (e, at, same) = elim (cases_Bool (same_data d e)) [
      | inl k ↦ (d, (0, omega arith, refl), data_onward c d e k same)
      | inr k ↦ (
        e,
        later_one d (filter (λ x. not (same_data d x)) (once ds)) e
            (passes_in (λ x. not (same_data d x)) (once ds) e at (ap not k)),
        same,
      )
    ]

    go : (cs : List Chunk) (k : ℕ) → k < length cs → slice_index_or cs k c ≡ c → Equals (once cs) c
    go [] k below at = absurd (let z : ⊥ = omega arith in z)
    go (d ∷ ds) zero below at = (
      d,
      (0, omega arith, refl),
      subst (λ x. same_data c x ≡ true)
          (sym at) (data_self c),
    )
    go (d ∷ ds) (suc k) below at = in_rest d ds (go ds k (omega (arith, below)) at)

as_any : (cs : List Chunk) (c : Chunk) → Equals cs c → Any (λ d. IsTrue (same_data c d)) cs
as_any cs c (d, one, same) = (one.0, d, one.1, one.2, same)

-- each chunk that was found is archived or set aside
pub saved : (ends : Stream → ℕ) (cs : List Chunk) (c : Chunk) → Contains cs c
    → (chunk_end c ≤ ends c.key.stream) ⊎ Any (λ d. IsTrue (same_data c d)) (set_aside ends cs)
saved ends cs c one = go (is_past ends c) refl
  where
    go : (b : Bool) → is_past ends c ≡ b → (chunk_end c ≤ ends c.key.stream) ⊎ Any
        (λ d. IsTrue (same_data c d)) (set_aside ends cs)
    go true e = inr (as_any (set_aside ends cs) c
        (once_has (filter (is_past ends) cs) c (passes_in (is_past ends) cs c one e)))
    go false e = inl (ltb-false (ends c.key.stream) (chunk_end c) e)

-- no chunk that was set aside is lost
pub aside_kept : (history : History) (new : Book) (cs : List Chunk) → AreFound history cs
    → AsideIs history new cs → AsideKept history new cs
aside_kept history new cs found is c one =
    elim (saved (ends_of (archived_end history) cs) cs c (found.all_aside c one)) [
      | inl low ↦ inr low
      | inr any ↦ inl (subst (Any (λ d. IsTrue (same_data c d))) (sym is) any)
    ]

-- a done sink whose chunks were found may be removed once the book is published
pub may_be_removed : (history : History) (ends : Stream → ℕ) (cs : List Chunk) →
    ((s : Stream) → archived_end history s ≡ ends s)
    → aside_chunks (files_after history) ≡ set_aside ends cs → (f : File)
    → ((c : Chunk) → Contains (chunks_within chunk_limit f.bytes) c → Contains cs c)
    → IsSaved history f
may_be_removed history ends cs at aside f found c one = elim (saved ends cs c (found c one)) [
  | inl low ↦ inl (subst (λ n. chunk_end c ≤ n) (sym (at c.key.stream)) low)
  | inr any ↦ inr (subst (Any (λ d. IsTrue (same_data c d))) (sym aside) any)
]

-- the book that a run publishes may be published
pub run_may : (stamped : List (List ℕ)) (history : History) → Legal stamped history →
    (old new : Book) → book_of (files_after history) ArchiveFolder ≡ old
    → (cs : List Chunk) → AreFound history cs → NamesParts history old new cs
    → AsideIs history new cs → NewBook stamped ArchiveFolder history new
run_may stamped history legal old new is_old cs found n aside =
    book_may stamped history legal old is_old new cs found n
    (λ c one. found.source c (aside_found (ends_of (archived_end history) cs) cs c
    (subst (λ l. Contains l c) aside one)))
    (aside_kept history new cs found aside)
