-- The archive of each stream is a front of its log.
use Rattle.std.proofs.Common.{◌≡◌, ◌⊎◌, inl, inr, ℕ, ◌+◌, ◌-◌, ◌≤◌, List, [], ◌∷◌, ◌++◌, length, take, drop, length-append, append_assoc, append-nil, ap, sym, subst, ◌∙◌, refl, arith}
use Rattle.std.specs.Prelude.{IsTrue}
use Rattle.std.proofs.lemmas.List.{length-drop}
use Rattle.chk_bytes.specs.Words.{BeginsWith}
use Rattle.chk_site.specs.History.{Step, History, files_after}
use Rattle.chk_chunk.specs.Keys.{Stream, Key, Chunk, chunk_begin, chunk_end}
use Rattle.chk_world.specs.Names.{is_source}
use Rattle.chk_world.specs.Books.{values}
use Rattle.chk_world.specs.Streams.{start_of, log_of}
use Rattle.chk_world.specs.Committed.{archive_of_stream}
use Rattle.chk_world.specs.Jobs.{IsPartAt, AreParts}
use Rattle.chk_world.specs.Rules.{Legal}
use Rattle.chk_world.proofs.NameTests.{streams_same}
use Rattle.chk_world.proofs.StaysTrue.{IsFoundedChunk, HasRoom, has_room, goes_on, stays_true}
use Rattle.chk_world.proofs.LogsGrow.{logs_grow}
use Rattle.chk_world.proofs.KeptTrue.{source_true}
use Rattle.chk_world.proofs.Segments.{ArchiveAfter, same_archive, with_parts, archive_after}

-- the parts end where a chunk of the stream ends that was sent
pub record EndsAsChunk (history : History) (s : Stream) (bytes : List ℕ) : Type 0 where
  pub c : Chunk
  pub is : IsFoundedChunk history c
  pub of : s ≡ c.key.stream
  pub ends : start_of history s + length bytes ≡ chunk_end c

-- a front of the log of a stream that an agent may have, or nothing yet
abbrev pub IsFront : History → Stream → List ℕ → Type 0
IsFront history s bytes =
    (bytes ≡ []) ⊎ (IsTrue (is_source s.source) × BeginsWith (log_of history s) bytes × EndsAsChunk history s bytes)

begins_so : (history : History) (s : Stream) (bytes : List ℕ) → IsFront history s bytes → BeginsWith (log_of history s) bytes
begins_so history s bytes (inl e) = (log_of history s, ap (λ l. l ++ log_of history s) (sym e))
begins_so history s bytes (inr h) = h.1

module _ (stamped : List (List ℕ)) (history : History) (legal : Legal stamped history) (s : Stream) where
  -- one part more
  part_on : (front : List ℕ) (p : Chunk) → IsFront history s front → IsPartAt (files_after history) s (start_of history s + length front) p
      → IsFront history s (front ++ p.value) × (start_of history s + length (front ++ p.value) ≡ chunk_end p)
  part_on front p is part =
      let c : Chunk = part.whole in
      let g : IsFoundedChunk history c = source_true stamped history legal c part.source in
      let stream : s ≡ c.key.stream = streams_same s c.key.stream part.of in
      let start : c.key.start ≡ start_of history s = g.is_true.start ∙ ap (start_of history) (sym stream) in
      let room : HasRoom c = has_room c g.valid in
      let n : ℕ = length c.value in
      let at : ℕ = chunk_begin c - c.key.start in
      let is_data : c.value ≡ take (length c.value) (drop at (log_of history s)) =
      g.is_true.data_is ∙ ap (λ t. take (length c.value) (drop at (log_of history t))) (sym stream) in
      let low : at ≤ length front = omega (arith, start, room.low, room.some, part.begins) in
      let high : length front ≤ at + length c.value = omega (arith, start, room.low, room.some, part.past) in
      let more = goes_on (log_of history s) c.value front at is_data low high (begins_so history s front is) in
      let same : start_of history s + length front - chunk_begin c ≡ length front - at =
      omega (arith, start, room.low, room.some, part.begins) in
      let value : p.value ≡ drop (length front - at) c.value = part.value ∙ ap (λ d. drop d c.value) same in
      let size : length p.value ≡ length c.value - (length front - at) = ap length value ∙ length-drop (length front - at) c.value in
      let key : p.key.seq ≡ c.key.seq = ap (λ (k : Key). k.seq) part.key in
      let ends : start_of history s + length (front ++ p.value) ≡ chunk_end p =
      omega (arith, length-append front p.value, size, key, start, room.low, room.some, low, high) in (
        inr (
          subst (λ t. IsTrue (is_source t.source)) (sym stream) g.source,
          subst (λ v. BeginsWith (log_of history s) (front ++ v)) (sym value) more,
          record { c = c; is = g; of = stream; ends = ends ∙ key },
        ),
        ends,
      )

  parts_on : (front : List ℕ) (parts : List Chunk) → IsFront history s front
      → AreParts (files_after history) s (start_of history s + length front) parts → IsFront history s (front ++ values parts)
  parts_on front [] is are = subst (IsFront history s) (sym (append-nil front)) is
  parts_on front (p ∷ parts) is are =
      let one = part_on front p is are.0 in
      subst (IsFront history s) (append_assoc front p.value (values parts))
      (parts_on (front ++ p.value) parts one.0 (subst (λ n. AreParts (files_after history) s n parts) (sym one.1) are.1))

-- the log grows over it
front_stays : (stamped : List (List ℕ)) (history : History) (step : Step) → Legal stamped (step ∷ history) → (s : Stream) (bytes : List ℕ)
    → IsFront history s bytes → IsFront (step ∷ history) s bytes
front_stays stamped history step legal s bytes (inl e) = inl e
front_stays stamped history step legal s bytes (inr h) =
    let grows = logs_grow stamped history step legal s h.0 in
    let begins = h.1 in
    let last = h.2 in
    let c : Chunk = last.c in
    let after = stays_true stamped history step legal c last.is in
    let start : start_of (step ∷ history) s ≡ start_of history s =
    ap (start_of (step ∷ history)) last.of ∙ (sym after.is_true.start ∙ (last.is.is_true.start ∙ sym (ap (start_of history) last.of))) in
    inr (
      h.0,
      (begins.0 ++ grows.0, grows.1 ∙ (ap (λ l. l ++ grows.0) begins.1 ∙ append_assoc bytes begins.0 grows.0)),
      record { c = c; is = after; of = last.of; ends = ap (λ n. n + length bytes) start ∙ last.ends },
    )

pub archive_front : (stamped : List (List ℕ)) (history : History) → Legal stamped history → (s : Stream)
    → IsFront history s (archive_of_stream (files_after history) s)
archive_front stamped [] legal s = inl refl
archive_front stamped (step ∷ history) legal s =
    front_stays stamped history step legal s (archive_of_stream step.files s)
    (go (archive_front stamped history legal.0 s) (archive_after stamped history step legal s))
  where
    go : IsFront history s (archive_of_stream (files_after history) s) → ArchiveAfter history step s
        → IsFront history s (archive_of_stream step.files s)
    go front (same_archive same) = subst (IsFront history s) (sym same) front
    go front (with_parts parts is are) =
        subst (IsFront history s) (sym is) (parts_on stamped history legal.0 s (archive_of_stream (files_after history) s) parts front are)

pub law_prefix : (stamped : List (List ℕ)) (history : History) → Legal stamped history → (s : Stream)
    → BeginsWith (log_of history s) (archive_of_stream (files_after history) s)
law_prefix stamped history legal s = begins_so history s _ (archive_front stamped history legal s)
