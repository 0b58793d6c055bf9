-- Each chunk that is written, kept or set aside is a true one.
use Rattle.std.proofs.Common.{◌≡◌, ◌⊎◌, inl, inr, ℕ, ◌≤◌, ◌<◌, List, [], ◌∷◌, ◌++◌, length, take, append-nil, Option, Some, None, ap, sym, subst, ◌∙◌, refl, arith}
use Rattle.std.specs.Prelude.{IsTrue, Contains, filter_map}
use Rattle.std.proofs.lemmas.Bool.{cases_lt}
use Rattle.std.proofs.lemmas.List.{nil_from_length, take_all}
use Rattle.chk_bytes.specs.Stems.{Stem, is_stem}
use Rattle.chk_site.specs.Files.{File}
use Rattle.chk_site.specs.Acts.{deed}
use Rattle.chk_site.specs.History.{History, files_after}
use Rattle.chk_chunk.specs.Keys.{Chunk, chunk_limit}
use Rattle.chk_world.specs.Names.{MarkFile, SinkFile, DoneFile, file}
use Rattle.chk_world.specs.Books.{chunk_of, chunks_within}
use Rattle.chk_world.specs.Committed.{OnFile, sink_chunks, aside_chunks, chunks_below, committed_of, committed_length, IsKept}
use Rattle.chk_world.specs.Collectors.{view}
use Rattle.chk_world.specs.Jobs.{IsSource}
use Rattle.chk_world.specs.Rules.{Legal}
use Rattle.chk_world.specs.Laws.{collector, wrote, written_by, IsDoneSink, IsOfLog, KeptAreTrue}
use Rattle.chk_world.proofs.Forms.{piece_chunks}
use Rattle.chk_world.proofs.Law.{InvAfter, holds_always, shape}
use Rattle.chk_world.proofs.OwnSteps.{known_stem}
use Rattle.chk_world.proofs.Commits.{WritesNext, writes_next}
use Rattle.chk_world.proofs.KeptChunks.{InFront, in_sink, in_done, still_in, none_in, no_records}
use Rattle.chk_world.proofs.StaysTrue.{IsFoundedChunk, stays_true}
use Rattle.chk_world.proofs.TakenChunks.{TakenTrue, all_one, taken_true}
use Rattle.chk_world.proofs.Segments.{aside_source}

-- ---- what was written

pub written_true : (stamped : List (List ℕ)) (history : History) → Legal stamped history → (x : Stem) → IsTrue (is_stem x) → (c : Chunk)
    → Contains (chunks_within chunk_limit (wrote x history)) c → IsFoundedChunk history c
written_true stamped [] legal x known c one =
    absurd (none_in c (subst (λ rs. Contains (filter_map (chunk_of chunk_limit) rs) c) no_records one))
written_true stamped (step ∷ history) legal x known c one =
    stays_true stamped history step legal c
    (go (λ old. written_true stamped history legal.0 x known c old) (cases_lt 0 (length (written_by x (deed step.act) step.act.answer))))
  where
    inv : InvAfter x history
    inv = holds_always x (known_stem x known) stamped history legal.0

    go : (Contains (chunks_within chunk_limit (wrote x history)) c → IsFoundedChunk history c)
        → (0 < length (written_by x (deed step.act) step.act.answer)) ⊎ (length (written_by x (deed step.act) step.act.answer) ≤ 0) → IsFoundedChunk history c
    go earlier (inl some) =
        let w : WritesNext x history (written_by x (deed step.act) step.act.answer) = writes_next stamped history step legal x known some in
        let v = view (collector x) history in
        elim (piece_chunks v.handled w.cur x (wrote x history) (written_by x (deed step.act) step.act.answer) w.is inv.form w.next c one) [
          | inl old ↦ earlier old
          | inr posted ↦
              let t = all_one (TakenTrue history (collector x)) v.handled posted.message (taken_true stamped history legal.0 (collector x) refl) posted.taken in
              t.posts_true posted.chunks posted.post c posted.one
        ]
    go earlier (inr none) =
        let same : wrote x (step ∷ history) ≡ wrote x history =
        ap (λ l. wrote x history ++ l) (nil_from_length (written_by x (deed step.act) step.act.answer) (omega (arith, none))) ∙ append-nil (wrote x history) in
        earlier (subst (λ l. Contains (chunks_within chunk_limit l) c) same one)

-- ---- what is kept

module _ (stamped : List (List ℕ)) (history : History) (legal : Legal stamped history) (x : Stem) (known : IsTrue (is_stem x)) (c : Chunk) where
  front_true : (n : ℕ) → InFront (wrote x history) n c → IsFoundedChunk history c
  front_true n front =
      let written = wrote x history in
      let all : take (length written) (written ++ []) ≡ written =
      ap (take (length written)) (append-nil written) ∙ take_all (length written) written (omega arith) in
      written_true stamped history legal x known c
      (subst (λ l. Contains (chunks_within chunk_limit l) c) all (still_in written [] n (length written) c front front.within))

  pub sink_true : Contains (chunks_below (committed_length (files_after history) x) (file (files_after history) (SinkFile x))) c → IsFoundedChunk history c
  sink_true one =
      let b = shape stamped history legal x known in
      let n = committed_length (files_after history) x in
      front_true n (in_sink (wrote x history) n (file (files_after history) (SinkFile x)) c b.committed b.under_writing one)

  pub done_true : Contains (sink_chunks (file (files_after history) (DoneFile x))) c → IsFoundedChunk history c
  done_true one = go (file (files_after history) (DoneFile x)) refl one
    where
      go : (o : Option File) → file (files_after history) (DoneFile x) ≡ o → Contains (sink_chunks o) c → IsFoundedChunk history c
      go None e one = absurd (none_in c one)
      go (Some f) e one =
          let b = shape stamped history legal x known in
          let n = committed_length (files_after history) x in
          let size : n ≡ length f.bytes = ap (λ o. committed_of o (file (files_after history) (MarkFile x))) e in
          let all : take n f.bytes ≡ f.bytes = take_all n f.bytes (omega (arith, size)) in
          front_true n (in_done (wrote x history) n f c size b.committed (subst (λ o. OnFile o (IsDoneSink (wrote x history))) e b.done)
          (subst (λ l. Contains (chunks_within chunk_limit l) c) (sym all) one))

-- ---- what is set aside, and what the job may take

pub aside_true : (stamped : List (List ℕ)) (history : History) → Legal stamped history → (c : Chunk)
    → Contains (aside_chunks (files_after history)) c → IsFoundedChunk history c
aside_true stamped [] legal c one = absurd (none_in c one)
aside_true stamped (step ∷ history) legal c one =
    stays_true stamped history step legal c (elim (aside_source stamped history step legal c one) [
      | inl done ↦ done_true stamped history legal.0 done.0 done.1 c done.2
      | inr aside ↦ aside_true stamped history legal.0 c aside
    ])

pub source_true : (stamped : List (List ℕ)) (history : History) → Legal stamped history → (c : Chunk) → IsSource (files_after history) c
    → IsFoundedChunk history c
source_true stamped history legal c (inl done) = done_true stamped history legal done.0 done.1 c done.2
source_true stamped history legal c (inr aside) = aside_true stamped history legal c aside

-- ---- what is kept and what the job may take is true

below_done : (o mark : Option File) (c : Chunk) → Contains (chunks_below (committed_of o mark) o) c → Contains (sink_chunks o) c
below_done None mark c one = one
below_done (Some f) mark c one =
    subst (λ bytes. Contains (chunks_within chunk_limit bytes) c) (take_all (length f.bytes) f.bytes (omega arith)) one

of_log : (history : History) (c : Chunk) → IsFoundedChunk history c → IsOfLog history c
of_log history c h = record { first = h.first; founded = h.founded; is_true = h.is_true }

pub kept_are_true : KeptAreTrue
kept_are_true stamped history legal = record {
  kept = λ c k. of_log history c (kept_true c k);
  sources = λ c s. of_log history c (source_true stamped history legal c s);
}
  where
    kept_true : (c : Chunk) → IsKept (files_after history) c → IsFoundedChunk history c
    kept_true c (inl (x, known, inl one)) = sink_true stamped history legal x known c one
    kept_true c (inl (x, known, inr one)) =
        done_true stamped history legal x known c
        (below_done (file (files_after history) (DoneFile x)) (file (files_after history) (MarkFile x)) c one)
    kept_true c (inr aside) = aside_true stamped history legal c aside
