-- After a round the archive is the whole log that was read, where complete runs cover the checkpoints.
use Rattle.std.proofs.Common.{◌≡◌, ◌⊎◌, inl, inr, ℕ, suc, ◌+◌, ◌≤◌, Bool, true, false, List, [], ◌∷◌, ◌++◌, length, take, drop, Option, Some, None, append_assoc, append-nil, length-append, true≢false, ap, sym, subst, ◌∙◌, refl, arith}
use Rattle.std.specs.Prelude.{IsTrue, Contains}
use Rattle.std.proofs.lemmas.List.{nil_from_length, take-append-drop}
use Rattle.std.proofs.Math.Seq.{take-append_seam}
use Rattle.chk_bytes.specs.Words.{joined, BeginsWith}
use Rattle.chk_site.specs.History.{Step, History, files_after, logs_after}
use Rattle.chk_chunk.specs.Keys.{Stream, Chunk, is_of, chunk_end, same_stream}
use Rattle.chk_world.specs.Names.{is_source}
use Rattle.chk_world.specs.Checkpoints.{Line, line_of, offset_in, checkpoint_of}
use Rattle.chk_world.specs.Streams.{Founding, founding, founded_by, or_else, start_at, start_of, parts_since, bytes_of, log_of, is_stream_cut, whole_log, whole_end}
use Rattle.chk_world.specs.Committed.{archive_of_stream, archived_end}
use Rattle.chk_world.specs.ArchiveRuns.{Listing}
use Rattle.chk_world.specs.Rules.{Legal}
use Rattle.chk_world.specs.Laws.{MovesOn}
use Rattle.chk_world.specs.Rounds.{SendsNonePast, HoldsRound, RoundsAreWhole}
use Rattle.chk_world.proofs.Ends.{bytes_self}
use Rattle.chk_world.proofs.CheckpointsMove.{moves_forward}
use Rattle.chk_world.proofs.LogsGrow.{logs_grow}
use Rattle.chk_world.proofs.StaysTrue.{WasSent, has_room}
use Rattle.chk_world.proofs.TakenChunks.{founded_line}
use Rattle.chk_world.proofs.Fronts.{EndsAsChunk, IsFront, archive_front}
use Rattle.chk_world.proofs.CutsStay.{IsCut, cut_on, whole_length, cut_is_whole}
use Rattle.chk_world.proofs.OtherSources.{no_log}
use Rattle.chk_world.specs.Laws.{RunsCoverCheckpoints}

-- ---- what stays over the steps after a front of a history

pub legal_front : (stamped : List (List ℕ)) (later front : History) → Legal stamped (later ++ front) → Legal stamped front
legal_front stamped [] front legal = legal
legal_front stamped (step ∷ later) front legal = legal_front stamped later front legal.0

offset_grows : (old : Line) (o : Option Line) → MovesOn old o → old.offset ≤ offset_in o
offset_grows old None h = absurd h
offset_grows old (Some l) h = h.2

module _ (stamped : List (List ℕ)) (s : Stream) (known : IsTrue (is_source s.source)) where
  checkpoint_grows : (history : History) (step : Step) → Legal stamped (step ∷ history) → checkpoint_of (files_after history) s ≤ checkpoint_of step.files s
  checkpoint_grows history step legal = go (line_of (files_after history) s) refl
    where
      go : (o : Option Line) → line_of (files_after history) s ≡ o → offset_in o ≤ checkpoint_of step.files s
      go None e = omega arith
      go (Some l) e = offset_grows l (line_of step.files s) (moves_forward stamped history step legal s known l e)

  checkpoint_later : (later front : History) → Legal stamped (later ++ front) → checkpoint_of (files_after front) s ≤ checkpoint_of (files_after (later ++ front)) s
  checkpoint_later [] front legal = omega arith
  checkpoint_later (step ∷ later) front legal =
      let before = checkpoint_later later front legal.0 in
      let more = checkpoint_grows (later ++ front) step legal in
      omega (arith, before, more)

  log_later : (later front : History) → Legal stamped (later ++ front) → BeginsWith (log_of (later ++ front) s) (log_of front s)
  log_later [] front legal = ([], sym (append-nil (log_of front s)))
  log_later (step ∷ later) front legal =
      let begins = log_later later front legal.0 in
      let grows = logs_grow stamped (later ++ front) step legal s known in (
        begins.0 ++ grows.0,
        grows.1 ∙ (ap (λ l. l ++ grows.0) begins.1 ∙ append_assoc (log_of front s) begins.0 grows.0),
      )

founding_later : (s : Stream) (later front : History) (f : Founding) → founding front s ≡ Some f → founding (later ++ front) s ≡ Some f
founding_later s [] front f e = e
founding_later s (step ∷ later) front f e =
    ap (λ o. or_else o (founded_by (line_of step.files s) (step.logs s.name))) (founding_later s later front f e)

-- ---- what was sent

pub stream_self : (s : Stream) → same_stream s s ≡ true
stream_self s = rw (bytes_self s.source, bytes_self s.kind, bytes_self s.name) refl

-- each chunk that was sent ends where a reader may stop
sent_cut : (stamped : List (List ℕ)) (history : History) → Legal stamped history → (c : Chunk) → IsTrue (is_source c.key.stream.source)
    → WasSent history c → IsCut history c.key.stream (chunk_end c)
sent_cut stamped [] legal c known sent = absurd sent
sent_cut stamped (step ∷ history) legal c known (inl sends) =
    let f = founded_line history c.key.stream sends.may.known in
    cut_on stamped history step legal c.key.stream known (chunk_end c) (record { first = f.0; founded = f.1; cut = sends.may.cut })
sent_cut stamped (step ∷ history) legal c known (inr sent) =
    cut_on stamped history step legal c.key.stream known (chunk_end c) (sent_cut stamped history legal.0 c known sent)

-- it was sent in these steps, none of which sends past that offset, or before
sent_by_then : (s : Stream) (end : ℕ) (c : Chunk) → s ≡ c.key.stream → IsTrue (is_of s c) → (later front : History)
    → ((step : Step) → Contains later step → SendsNonePast s end step)
    → WasSent (later ++ front) c → (chunk_end c ≤ end) ⊎ WasSent front c
sent_by_then s end c stream of [] front none sent = inr sent
sent_by_then s end c stream of (step ∷ later) front none (inl sends) =
    let agent = sends.agent in
    let name : step.act.who.name ≡ s.source = sym (ap (λ (t : Stream). t.source) stream ∙ sends.may.source) in
    inl (none step (0, omega arith, refl) (λ i. record { role = agent i; name = name i }) sends.m sends.address sends.bytes sends.call
    sends.chunks sends.is_post c sends.one of)
sent_by_then s end c stream of (step ∷ later) front none (inr sent) =
    sent_by_then s end c stream of later front (λ k one. let below = one.1 in none k (suc one.0, omega (arith, below), one.2)) sent

-- ---- the archive

-- fronts of one list that are of one length are the same
same_fronts : (log a b : List ℕ) → BeginsWith log a → BeginsWith log b → length a ≡ length b → a ≡ b
same_fronts log a b x y size =
    sym (take-append_seam a x.0) ∙ (ap (λ n. take n (a ++ x.0)) size ∙ (ap (take (length b)) (sym x.1 ∙ y.1) ∙ take-append_seam b y.0))

whole_front : (history : History) (s : Stream) → BeginsWith (log_of history s) (whole_log history s)
whole_front history s =
    let n : ℕ = whole_length history s in
    (drop n (log_of history s), sym (take-append-drop n (log_of history s)))

-- the start is the one that was known then, or the stream had not begun
record HadNotBegun (history : History) (s : Stream) : Type 0 where
  start : start_of history s ≡ 0
  log : log_of history s ≡ []

start_then : (s : Stream) (later front : History) → (start_of (later ++ front) s ≡ start_of front s) ⊎ HadNotBegun front s
start_then s later front = go (founding front s) refl
  where
    go : (o : Option Founding) → founding front s ≡ o → (start_of (later ++ front) s ≡ start_of front s) ⊎ HadNotBegun front s
    go (Some f) e = inl (ap start_at (founding_later s later front f e) ∙ sym (ap start_at e))
    go None e = inr (record {
      start = ap start_at e;
      log = ap (λ o. let p = parts_since o (logs_after front s.name) in joined (bytes_of p.rotated) ++ p.base) e;
    })

none_whole : (history : History) (s : Stream) → log_of history s ≡ [] → whole_log history s ≡ []
none_whole history s e =
    let begins = whole_front history s in
    nil_from_length (whole_log history s)
    (let size = ap length (sym begins.1 ∙ e) in omega (arith, size, length-append (whole_log history s) begins.0))

module _ (stamped : List (List ℕ)) (s : Stream) (later read : History) (legal : Legal stamped (later ++ read)) where
  -- the chunk with which the archive ends was sent by then, or is none of those past it
  none_past : ((step : Step) → Contains later step → SendsNonePast s (whole_end read s) step) → (bytes : List ℕ)
      → EndsAsChunk (later ++ read) s bytes → start_of (later ++ read) s + length bytes ≤ whole_end read s
  none_past none bytes last =
      let c : Chunk = last.c in
      let ends = last.ends in
      let of : IsTrue (is_of s c) = subst (λ t. IsTrue (same_stream s t)) last.of (stream_self s) in
      elim (sent_by_then s (whole_end read s) c last.of of later read none last.is.sent) [
        | inl low ↦ omega (arith, low, ends)
        | inr sent ↦
            let cut = sent_cut stamped read (legal_front stamped later read legal) c last.is.source sent in
            let low : chunk_end c ≤ whole_end read s =
            cut_is_whole read s (chunk_end c) (subst (λ t. IsTrue (is_stream_cut read t (chunk_end c))) (sym last.of) cut.cut) in
            omega (arith, low, ends)
      ]

  -- the archive has come that far, and no farther
  just_whole : IsTrue (is_source s.source) → ((step : Step) → Contains later step → SendsNonePast s (whole_end read s) step)
      → whole_end read s ≤ archived_end (later ++ read) s → (bytes : List ℕ) → archive_of_stream (files_after (later ++ read)) s ≡ bytes
      → IsFront (later ++ read) s bytes → bytes ≡ whole_log read s
  just_whole known none reached bytes is (inl empty) = elim (start_then s later read) [
    | inl same ↦
        empty ∙ sym (nil_from_length (whole_log read s) (let size = ap length (is ∙ empty) in omega (arith, reached, same, size)))
    | inr before ↦ empty ∙ sym (none_whole read s before.log)
  ]
  just_whole known none reached bytes is (inr (source, begins, last)) =
      let low = none_past none bytes last in
      let size = ap length is in
      elim (start_then s later read) [
        | inl same ↦
            let logs = log_later stamped s known later read legal in
            let whole = whole_front read s in
            same_fronts (log_of (later ++ read) s) bytes (whole_log read s) begins
            (whole.0 ++ logs.0, logs.1 ∙ (ap (λ l. l ++ logs.0) whole.1 ∙ append_assoc (whole_log read s) whole.0 logs.0))
            (omega (arith, reached, low, same, size))
        | inr before ↦
            let c : Chunk = last.c in
            let room = has_room c last.is.valid in
            let ends = last.ends in
            let none_yet = ap length (none_whole read s before.log) in
            absurd (let z : ⊥ = omega (arith, low, ends, none_yet, before.start, room.some, room.low) in z)
      ]

  -- a stream that no agent may have
  of_none : is_source s.source ≡ false → archive_of_stream (files_after (later ++ read)) s ≡ whole_log read s
  of_none other = go (archive_front stamped (later ++ read) legal s)
    where
      go : IsFront (later ++ read) s (archive_of_stream (files_after (later ++ read)) s)
          → archive_of_stream (files_after (later ++ read)) s ≡ whole_log read s
      go (inl empty) = empty ∙ sym (none_whole read s (no_log stamped read (legal_front stamped later read legal) s other))
      go (inr h) = absurd (true≢false (sym h.0 ∙ other))

module _ (covers : RunsCoverCheckpoints) where
  -- at the listing the checkpoint had come to the whole log
  covered : (stamped : List (List ℕ)) (history : History) → Legal stamped history → (s : Stream) → IsTrue (is_source s.source)
      → (r : HoldsRound history s) → whole_end r.read s ≤ archived_end history s
  covered stamped history legal s known r =
      let l : Listing = record { names = r.names; upto = r.till_listing ++ (r.till_checkpoint ++ r.read) } in
      let then_legal : Legal stamped l.upto = legal_front stamped r.till_end l.upto (subst (Legal stamped) r.is legal) in
      let far = covers stamped history legal l r.run s known in
      let on = checkpoint_later stamped s known r.till_listing (r.till_checkpoint ++ r.read) then_legal in
      let at = r.checkpointed in
      omega (arith, far, on, at)

  pub rounds_whole : RoundsAreWhole
  rounds_whole stamped history legal s r = go (is_source s.source) refl
    where
      later : History
      later = r.till_end ++ (r.till_listing ++ r.till_checkpoint)

      same : history ≡ later ++ r.read
      same =
          r.is
          ∙ (ap (λ l. r.till_end ++ l) (sym (append_assoc r.till_listing r.till_checkpoint r.read))
          ∙ sym (append_assoc r.till_end (r.till_listing ++ r.till_checkpoint) r.read))

      legal_now : Legal stamped (later ++ r.read)
      legal_now = subst (Legal stamped) same legal

      whole_now : archive_of_stream (files_after (later ++ r.read)) s ≡ whole_log r.read s → archive_of_stream (files_after history) s ≡ whole_log r.read s
      whole_now e = ap (λ h. archive_of_stream (files_after h) s) same ∙ e

      go : (b : Bool) → is_source s.source ≡ b → archive_of_stream (files_after history) s ≡ whole_log r.read s
      go true known =
          whole_now
          (just_whole stamped s later r.read legal_now known r.no_more
          (subst (λ h. whole_end r.read s ≤ archived_end h s) same (covered stamped history legal s known r))
          (archive_of_stream (files_after (later ++ r.read)) s) refl (archive_front stamped (later ++ r.read) legal_now s))
      go false other = whole_now (of_none stamped s later r.read legal_now other)
