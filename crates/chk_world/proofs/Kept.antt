-- What is kept of a sink's three files, and that each kind of change keeps it.
use Rattle.std.proofs.Common.{◌≡◌, ℕ, ◌+◌, ◌≤◌, Bool, true, false, List, [], ◌∷◌, ◌++◌, length, take, Option, Some, None, option_map, refl, ap, sym, subst, ◌∙◌, append-nil, arith, length-append, length-take, take-take, take_all, if◌then◌else◌}
use Rattle.std.proofs.lemmas.List.{take-append-le}
use Rattle.chk_bytes.specs.Numbers.{spelled}
use Rattle.chk_chunk.specs.Keys.{chunk_limit}
use Rattle.chk_site.specs.Files.{File, grown, secured, shortened}
use Rattle.chk_site.specs.Effect.{with_tail, TailFits}
use Rattle.chk_world.specs.Books.{AllChunks}
use Rattle.chk_world.specs.Committed.{OnFile, HasFile, IsAbsent, IsWhole}
use Rattle.chk_world.specs.Collectors.{IsCommitted}
use Rattle.chk_world.specs.Laws.{IsSafe, IsDoneSink, IsMark}

pub on_file : (o : Option File) {P Q : File → Type 0} → ((f : File) → P f → Q f) → OnFile o P → OnFile o Q
on_file None g h = tt
on_file (Some f) g h = g f h

-- a file that is there can be named
pub there : (o : Option File) {P : File → Type 0} → HasFile o P → (f : File) × (o ≡ Some f) × P f
there None h = absurd h
there (Some f) h = (f, refl, h)

pub absent_map : (g : File → File) (o : Option File) → IsAbsent o → IsAbsent (option_map g o)
absent_map g None a = tt
absent_map g (Some f) a = absurd a

tail_within : (f : File) (tail : Option (List ℕ)) → f.synced ≤ length f.bytes → (with_tail tail f).synced ≤ length (with_tail tail f).bytes
tail_within f None le = le
tail_within f (Some tail) le = omega (arith, le, length-append (take f.synced f.bytes) tail, length-take f.synced f.bytes)

-- a stop leaves a file as it is, all of which is synced
pub no_tail_fits : (o : Option File) (tail : Option (List ℕ)) → OnFile o IsWhole → TailFits 0 tail o → option_map (with_tail tail) o ≡ o
no_tail_fits None tail w fits = refl
no_tail_fits (Some f) None w fits = refl
no_tail_fits (Some f) (Some []) w fits = ap Some (λ i. record { bytes = (append-nil (take f.synced f.bytes) ∙ take_all f.synced f.bytes (omega (arith, w))) i; synced = f.synced })
no_tail_fits (Some f) (Some (b ∷ tail)) w fits = absurd (too_long fits)
  where
    too_long : f.synced + length (b ∷ tail) ≤ length f.bytes + 0 → ⊥
    too_long h = grind (arith, w)

-- a sync of a file that is synced
pub sync_same : (b : Bool) (o : Option File) → OnFile o IsWhole → (if b then option_map secured o else o) ≡ o
sync_same false o w = refl
sync_same true None w = refl
sync_same true (Some f) w = ap Some (λ i. record { bytes = f.bytes; synced = (sym w) i })

module _ (wr : List ℕ) where
  -- a mark's fact on the sink under writing, and on the done sink
  pub record MarkKept (sink shut : Option File) (m : File) : Type 0 where
    pub mark : IsMark m
    pub within : spelled m.bytes ≤ length wr
    pub on_sink : OnFile sink (IsSafe wr (spelled m.bytes))
    pub on_done : OnFile shut (λ f. spelled m.bytes ≡ length f.bytes)

  pub record DoneKept (sink : Option File) (f : File) : Type 0 where
    pub done : IsDoneSink wr f
    pub within : length f.bytes ≤ length wr
    pub no_sink : IsAbsent sink

  -- of the sink under writing, its mark and its done sink
  pub record Kept (sink mark shut : Option File) : Type 0 where
    pub of_sink : OnFile sink (λ f. f.synced ≤ length f.bytes)
    pub of_mark : OnFile mark (MarkKept sink shut)
    pub of_done : OnFile shut (DoneKept sink)

  pub was_made : (mark shut : Option File) → IsAbsent mark → IsAbsent shut → Kept (Some (record { bytes = []; synced = 0 })) mark shut
  was_made None None a b = record { of_sink = omega arith; of_mark = tt; of_done = tt }
  was_made (Some m) _ a b = absurd a
  was_made None (Some d) a b = absurd b

  -- a file with the first bytes of a safe one, all synced, is safe
  safe_as : (n : ℕ) (f g : File) → take n g.bytes ≡ take n f.bytes → n ≤ length g.bytes → n ≤ g.synced → IsSafe wr n f → IsSafe wr n g
  safe_as n f g same there synced s = record {
    there = there;
    synced = synced;
    front = same ∙ s.front;
    chunks = subst (AllChunks chunk_limit) (sym same) s.chunks;
  }

  -- what a change of the sink alone leaves
  pub sink_changed : (f g : File) (mark shut : Option File) → g.synced ≤ length g.bytes
      → ((m : File) → MarkKept (Some f) shut m → mark ≡ Some m → IsSafe wr (spelled m.bytes) g) → Kept (Some f) mark shut → Kept (Some g) mark shut
  sink_changed f g None shut le safe k = record {
    of_sink = le;
    of_mark = tt;
    of_done = on_file shut (λ d h. record { done = h.done; within = h.within; no_sink = absurd h.no_sink }) k.of_done;
  }
  sink_changed f g (Some m) shut le safe k = record {
    of_sink = le;
    of_mark = record { mark = k.of_mark.mark; within = k.of_mark.within; on_sink = safe m k.of_mark refl; on_done = k.of_mark.on_done };
    of_done = on_file shut (λ d h. record { done = h.done; within = h.within; no_sink = absurd h.no_sink }) k.of_done;
  }

  pub grew : (sink mark shut : Option File) (piece : List ℕ) → Kept sink mark shut → Kept (option_map (grown piece) sink) mark shut
  grew None mark shut piece k = k
  grew (Some f) mark shut piece k =
      sink_changed f (grown piece f) mark shut (omega (arith, k.of_sink, length-append f.bytes piece))
      (λ m h e. let s = h.on_sink in
      safe_as (spelled m.bytes) f (grown piece f) (take-append-le (spelled m.bytes) f.bytes piece s.there)
      (omega (arith, s.there, length-append f.bytes piece)) s.synced s) k

  pub was_synced : (sink mark shut : Option File) → Kept sink mark shut → Kept (option_map secured sink) mark shut
  was_synced None mark shut k = k
  was_synced (Some f) mark shut k =
      sink_changed f (secured f) mark shut (omega arith)
      (λ m h e. let s = h.on_sink in safe_as (spelled m.bytes) f (secured f) refl s.there s.there s) k

  pub whole_safe : (f : File) → IsDoneSink wr f → IsSafe wr (length f.bytes) f
  whole_safe f d = record {
    there = omega arith;
    synced = omega (arith, d.whole);
    front = take_all (length f.bytes) f.bytes (omega arith) ∙ d.front;
    chunks = subst (AllChunks chunk_limit) (sym (take_all (length f.bytes) f.bytes (omega arith))) d.chunks;
  }

  -- a mark is published
  pub marked : (f t : File) (mark shut : Option File) → IsMark t → IsCommitted (spelled t.bytes) f → AllChunks chunk_limit f.bytes → f.bytes ≡ wr
      → Kept (Some f) mark shut → Kept (Some f) (Some t) shut
  marked f t mark shut is c s same k = record {
    of_sink = k.of_sink;
    of_mark = record {
      mark = is;
      within = omega (arith, c.0, ap length same);
      on_sink = subst (λ n. IsSafe wr n f) c.0 (whole_safe f (record { whole = c.1 ∙ sym c.0; front = sym (take_all (length f.bytes) f.bytes (omega arith)) ∙ ap (take (length f.bytes)) same; chunks = s }));
      on_done = on_file shut (λ d h. absurd h.no_sink) k.of_done;
    };
    of_done = k.of_done;
  }

  -- a sink is cut to its mark
  pub was_cut : (sink mark shut : Option File) (n : ℕ) → HasFile mark (λ m. spelled m.bytes ≡ n) → Kept sink mark shut → Kept (option_map (shortened n) sink) mark shut
  was_cut sink None shut n h k = absurd h
  was_cut None (Some m) shut n h k = k
  was_cut (Some f) (Some m) shut n h k =
      let s : IsSafe wr (spelled m.bytes) f = k.of_mark.on_sink in
      record {
        of_sink = omega (arith, k.of_sink, length-take n f.bytes);
        of_mark = record {
          mark = k.of_mark.mark;
          within = k.of_mark.within;
          on_sink = safe_as (spelled m.bytes) f (shortened n f) (take-take (spelled m.bytes) n f.bytes (omega (arith, h)))
              (omega (arith, h, s.there, length-take n f.bytes)) (omega (arith, h, s.synced)) s;
          on_done = k.of_mark.on_done;
        };
        of_done = on_file shut (λ d e. record { done = e.done; within = e.within; no_sink = absurd e.no_sink }) k.of_done;
      }

  -- a sink of which the mark says all is renamed
  pub closed : (f : File) (mark shut : Option File) → HasFile mark (λ m. IsCommitted (spelled m.bytes) f) → Kept (Some f) mark shut → Kept None mark (Some f)
  closed f None shut h k = absurd h
  closed f (Some m) shut h k =
      let s : IsSafe wr (length f.bytes) f = subst (λ n. IsSafe wr n f) (sym h.0) k.of_mark.on_sink in
      let all = take_all (length f.bytes) f.bytes (omega arith) in
      record {
        of_sink = tt;
        of_mark = record { mark = k.of_mark.mark; within = k.of_mark.within; on_sink = tt; on_done = sym h.0 };
        of_done = record {
          done = record { whole = h.1 ∙ sym h.0; front = sym all ∙ s.front; chunks = subst (AllChunks chunk_limit) all s.chunks };
          within = omega (arith, h.0, k.of_mark.within);
          no_sink = tt;
        };
      }

  pub dropped : (sink mark shut : Option File) → IsAbsent mark → Kept sink mark shut → Kept None mark shut
  dropped sink None shut a k = record { of_sink = tt; of_mark = tt; of_done = on_file shut (λ d e. record { done = e.done; within = e.within; no_sink = tt }) k.of_done }
  dropped sink (Some m) shut a k = absurd a

  pub unmarked : (sink mark shut : Option File) → Kept sink mark shut → Kept sink None shut
  unmarked sink mark shut k = record { of_sink = k.of_sink; of_mark = tt; of_done = k.of_done }

  pub taken_away : (sink mark shut : Option File) → Kept sink mark shut → Kept sink mark None
  taken_away sink mark shut k = record {
    of_sink = k.of_sink;
    of_mark = on_file mark (λ m h. record { mark = h.mark; within = h.within; on_sink = h.on_sink; on_done = tt }) k.of_mark;
    of_done = tt;
  }

  -- a stop leaves a tail of the sink
  safe_tail : (n : ℕ) (f : File) (tail : Option (List ℕ)) → f.synced ≤ length f.bytes → IsSafe wr n f → IsSafe wr n (with_tail tail f)
  safe_tail n f None le s = s
  safe_tail n f (Some tail) le s =
      safe_as n f (with_tail (Some tail) f)
      (take-append-le n (take f.synced f.bytes) tail (omega (arith, s.synced, le, length-take f.synced f.bytes)) ∙ take-take n f.synced f.bytes s.synced)
      (omega (arith, s.synced, le, length-append (take f.synced f.bytes) tail, length-take f.synced f.bytes)) s.synced s

  pub tail_on_sink : (sink mark shut : Option File) (tail : Option (List ℕ)) → Kept sink mark shut → Kept (option_map (with_tail tail) sink) mark shut
  tail_on_sink None mark shut tail k = k
  tail_on_sink (Some f) mark shut tail k =
      sink_changed f (with_tail tail f) mark shut (tail_within f tail k.of_sink)
      (λ m h e. safe_tail (spelled m.bytes) f tail k.of_sink h.on_sink) k

  pub marks_whole : (sink mark shut : Option File) → Kept sink mark shut → OnFile mark IsWhole
  marks_whole sink mark shut k = on_file mark (λ m h. h.mark.0.0) k.of_mark

  pub shut_whole : (sink mark shut : Option File) → Kept sink mark shut → OnFile shut IsWhole
  shut_whole sink mark shut k = on_file shut (λ d h. h.done.whole) k.of_done

-- more is written
pub more_written : (wr piece : List ℕ) (sink mark shut : Option File) → Kept wr sink mark shut → Kept (wr ++ piece) sink mark shut
more_written wr piece sink mark shut k = record {
  of_sink = k.of_sink;
  of_mark = on_file mark (λ m h. record {
    mark = h.mark;
    within = omega (arith, h.within, length-append wr piece);
    on_sink = on_file sink (λ f s. record { there = s.there; synced = s.synced; front = s.front ∙ sym (take-append-le (spelled m.bytes) wr piece h.within); chunks = s.chunks }) h.on_sink;
    on_done = h.on_done;
  }) k.of_mark;
  of_done = on_file shut (λ d h. record {
    done = record { whole = h.done.whole; front = h.done.front ∙ sym (take-append-le (length d.bytes) wr piece h.within); chunks = h.done.chunks };
    within = omega (arith, h.within, length-append wr piece);
    no_sink = h.no_sink;
  }) k.of_done;
}
