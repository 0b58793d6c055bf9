-- No legal step loses a kept chunk that isn't archived.
use Rattle.std.proofs.Common.{◌≡◌, ◌⊎◌, inl, inr, ℕ, ◌<◌, ◌≤◌, List, ◌∷◌, length, take, Option, Some, None, ap, sym, subst, refl, arith, bytes_eq, nat_eq}
use Rattle.std.specs.Prelude.{IsTrue, Contains}
use Rattle.std.proofs.lemmas.Bool.{and_parts}
use Rattle.std.proofs.lemmas.List.{take_all}
use Rattle.chk_site.specs.declared.acts.Role.TheVariants.{Job}
use Rattle.chk_bytes.specs.Stems.{Stem, is_stem}
use Rattle.chk_site.specs.Files.{File}
use Rattle.chk_site.specs.Acts.{deed}
use Rattle.chk_site.specs.History.{Step, History, files_after}
use Rattle.chk_chunk.specs.Keys.{Stream, Chunk, Covers, chunk_limit, chunk_end, same_data, same_stream}
use Rattle.chk_world.specs.Names.{SinkFile, MarkFile, DoneFile, file}
use Rattle.chk_world.specs.Books.{chunks_within}
use Rattle.chk_world.specs.Committed.{OnFile, committed_of, committed_length, chunks_below, aside_chunks, KeptAt, archived_end}
use Rattle.chk_world.specs.Jobs.{IsSaved}
use Rattle.chk_world.specs.Rules.{Legal}
use Rattle.chk_world.specs.Laws.{wrote, written_by, IsDoneSink, IsOpenSink}
use Rattle.chk_world.proofs.Ends.{bytes_same}
use Rattle.chk_world.proofs.NameTests.{nat_same}
use Rattle.chk_world.proofs.NameTests.{streams_same}
use Rattle.chk_world.proofs.Law.{shape}
use Rattle.chk_world.proofs.Segments.{aside_stays, archives_grow}
use Rattle.chk_world.proofs.KeptChunks.{InFront, in_sink, in_done, still_in, below_sink, below_done, none_in, IsHeld, at_done, at_sink, Persists, on_sink, on_done, was_saved, stays_held}

-- what is committed of a sink that is there is of a done sink, or has a mark
held_of : (s m d : Option File) → 0 < committed_of d m → ((f : File) × (s ≡ Some f)) ⊎ ((f : File) × (d ≡ Some f)) → IsHeld s m d (committed_of d m)
held_of s m (Some f) some there = at_done f refl refl
held_of s None None some there = absurd (let z : ⊥ = omega arith in z)
held_of s (Some g) None some (inl there) = at_sink there.0 g refl there.1 refl refl
held_of s (Some g) None some (inr there) = absurd (cc)

pub sink_there : (n : ℕ) (o : Option File) (c : Chunk) → Contains (chunks_below n o) c → (f : File) × (o ≡ Some f)
sink_there n None c one = absurd (none_in c one)
sink_there n (Some f) c one = (f, refl)

-- a chunk that is equal in stream, place and data covers as much
covers_same : (s : Stream) (o : ℕ) (c d : Chunk) → IsTrue (same_data c d) → Covers s o c → Covers s o d
covers_same s o c d same h =
    let p = and_parts (same_stream c.key.stream d.key.stream) _ same in
    let q = and_parts (nat_eq c.key.seq d.key.seq) (bytes_eq c.value d.value) p.1 in
    let stream = streams_same c.key.stream d.key.stream p.0 in
    let seq = nat_same c.key.seq d.key.seq q.0 in
    let value = bytes_same c.value d.value q.1 in
    let begins = h.1 in
    let ends = h.2 in
    let size = ap length value in
    (subst (λ t. IsTrue (same_stream s t)) stream h.0, omega (arith, begins, seq, size), omega (arith, ends, seq))

-- what is kept, or archived
abbrev Left : History → Step → Stream → ℕ → Type 0
Left history step s o = KeptAt (step ∷ history) s o ⊎ (o < archived_end (step ∷ history) s)

module _ (stamped : List (List ℕ)) (history : History) (step : Step) (legal : Legal stamped (step ∷ history)) (s : Stream) (o : ℕ) where
  -- past its end the archive doesn't hold the offset
  ended : (c : Chunk) → Covers s o c → chunk_end c ≤ archived_end (step ∷ history) c.key.stream → Left history step s o
  ended c h ends =
      let stream = streams_same s c.key.stream h.0 in
      let below = h.2 in
      let far : chunk_end c ≤ archived_end (step ∷ history) s = subst (λ t. chunk_end c ≤ archived_end (step ∷ history) t) (sym stream) ends in
      inr (omega (arith, below, far))

  from_aside : (c : Chunk) → Covers s o c → Contains (aside_chunks (files_after history)) c → Left history step s o
  from_aside c h one = elim (aside_stays stamped history step legal c one) [
    | inl kept ↦ inl (kept.1, covers_same s o c kept.1 kept.4 h, inr (kept.0, kept.2, kept.3))
    | inr ends ↦ ended c h ends
  ]

  from_saved : (f : File) (c : Chunk) → IsSaved history f → Contains (chunks_within chunk_limit f.bytes) c → Covers s o c → Left history step s o
  from_saved f c saved one h = elim (saved c one) [
    | inl ends ↦
        let grows = (archives_grow stamped history step legal c.key.stream).end in
        ended c h (omega (arith, ends, grows))
    | inr a ↦ from_aside a.1 (covers_same s o c a.1 a.4 h) (a.0, a.2, a.3)
  ]

  module _ (x : Stem) (known : IsTrue (is_stem x)) (c : Chunk) (h : Covers s o c) where
    from_front : InFront (wrote x history) (committed_length (files_after history) x) c
        → ((f : File) × (file (files_after history) (SinkFile x) ≡ Some f)) ⊎ ((f : File) × (file (files_after history) (DoneFile x) ≡ Some f))
        → Left history step s o
    from_front front there =
        let n = committed_length (files_after history) x in
        go (stays_held stamped history step legal.1 x n (shape stamped history legal.0 x known) known
        (held_of (file (files_after history) (SinkFile x)) (file (files_after history) (MarkFile x)) (file (files_after history) (DoneFile x)) front.some there))
      where
        longer : committed_length (files_after history) x ≤ committed_length step.files x
            → Contains (chunks_within chunk_limit (take (committed_length step.files x) (wrote x (step ∷ history)))) c
        longer le = still_in (wrote x history) (written_by x (deed step.act) step.act.answer) (committed_length (files_after history) x) (committed_length step.files x) c front le

        go : Persists ((f : File) × (file (files_after history) (DoneFile x) ≡ Some f) × (step.act.who.role ≡ Job) × IsSaved history f)
            (file step.files (SinkFile x)) (file step.files (MarkFile x)) (file step.files (DoneFile x)) (committed_length (files_after history) x)
            → Left history step s o
        go (on_sink f e le) =
            let some = front.some in
            let open_is : IsOpenSink (wrote x (step ∷ history)) (committed_length step.files x) f =
            subst (λ o. OnFile o (IsOpenSink (wrote x (step ∷ history)) (committed_length step.files x))) e
            (shape stamped (step ∷ history) legal x known).under_writing in
            inl (
              c,
              h,
              inl (
                x,
                known,
                inl (subst (λ o. Contains (chunks_below (committed_length step.files x) o) c) (sym e)
                    (below_sink (wrote x (step ∷ history)) (committed_length step.files x) f c (omega (arith, some, le)) open_is (longer le))),
              ),
            )
        go (on_done f e le) =
            let size : committed_length step.files x ≡ length f.bytes = ap (λ o. committed_of o (file step.files (MarkFile x))) e in
            let done_is : IsDoneSink (wrote x (step ∷ history)) f =
            subst (λ o. OnFile o (IsDoneSink (wrote x (step ∷ history)))) e (shape stamped (step ∷ history) legal x known).done in
            inl (
              c,
              h,
              inl (
                x,
                known,
                inr (subst (λ o. Contains (chunks_below (committed_length step.files x) o) c) (sym e)
                    (below_done (wrote x (step ∷ history)) (committed_length step.files x) f c size done_is (longer le))),
              ),
            )
        go (was_saved p) =
            let n = committed_length (files_after history) x in
            let f : File = p.0 in
            let size : n ≡ length f.bytes = ap (λ o. committed_of o (file (files_after history) (MarkFile x))) p.1 in
            let done_is = subst (λ o. OnFile o (IsDoneSink (wrote x history))) p.1 (shape stamped history legal.0 x known).done in
            from_saved f c p.3
            (subst (λ l. Contains (chunks_within chunk_limit l) c) (take_all n f.bytes (omega (arith, size)))
            (below_done (wrote x history) n f c size done_is front.one)) h

    from_sink : Contains (chunks_below (committed_length (files_after history) x) (file (files_after history) (SinkFile x))) c → Left history step s o
    from_sink one =
        let b = shape stamped history legal.0 x known in
        let n = committed_length (files_after history) x in
        from_front (in_sink (wrote x history) n (file (files_after history) (SinkFile x)) c b.committed b.under_writing one)
        (inl (sink_there n (file (files_after history) (SinkFile x)) c one))

    from_done : Contains (chunks_below (committed_length (files_after history) x) (file (files_after history) (DoneFile x))) c → Left history step s o
    from_done one =
        let b = shape stamped history legal.0 x known in
        let n = committed_length (files_after history) x in
        let p = sink_there n (file (files_after history) (DoneFile x)) c one in
        let size : n ≡ length (p.0).bytes = ap (λ o. committed_of o (file (files_after history) (MarkFile x))) p.1 in
        from_front (in_done (wrote x history) n p.0 c size b.committed (subst (λ o. OnFile o (IsDoneSink (wrote x history))) p.1 b.done)
        (subst (λ o. Contains (chunks_below n o) c) p.1 one)) (inr p)

  kept_at : KeptAt history s o → Left history step s o
  kept_at (c, h, inl (x, known, inl one)) = from_sink x known c h one
  kept_at (c, h, inl (x, known, inr one)) = from_done x known c h one
  kept_at (c, h, inr one) = from_aside c h one

pub kept_stays : (stamped : List (List ℕ)) (history : History) (step : Step) → Legal stamped (step ∷ history) → (s : Stream) (o : ℕ)
    → KeptAt history s o → KeptAt (step ∷ history) s o ⊎ (o < archived_end (step ∷ history) s)
kept_stays stamped history step legal s o kept = kept_at stamped history step legal s o kept
