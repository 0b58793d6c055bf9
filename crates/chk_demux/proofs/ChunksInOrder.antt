-- Chunks put in order have each stream's run as it was, and so the same split.
use Rattle.std.proofs.Common.{◌≡◌, ℕ, ◌-◌, ◌≤◌, Bool, true, false, ◌&&◌, ◌||◌, cond, List, [], ◌∷◌, length, ap, sym, subst, ◌∙◌, refl, arith, true≢false, if◌then◌else◌}
use Rattle.std.specs.Prelude.{Contains, filter, flat_map, nat_lt, nat_eq}
use Rattle.std.proofs.lemmas.Bool.{or_from, and_left, and_right, le-ltb, ne_eqb}
use Rattle.chk_bytes.specs.Words.{joined}
use Rattle.chk_chunk.specs.Keys.{Stream, Chunk, chunk_begin, chunk_end, same_stream, stream_lt, is_of}
use Rattle.chk_world.specs.ArchiveRuns.{comes_before, put_in, in_order}
use Rattle.chk_world.specs.Books.{End, Book}
use Rattle.chk_world.specs.Jobs.{Run}
use Rattle.chk_world.specs.TrueBooks.{HasBytes}
use Rattle.chk_world.proofs.Each.{Each, each_as, each_at, each_filter, each_from}
use Rattle.chk_world.proofs.NameTests.{streams_same}
use Rattle.chk_world.proofs.Segments.{flat_same}
use Rattle.chk_record_index.specs.Heads.{Head}
use Rattle.chk_record_index.proofs.Orders.{streams}
use Rattle.chk_archive_plan.proofs.Runs.{all_put}
use Rattle.chk_demux_split.specs.Splitting.{pieces_of}
use Rattle.chk_demux.specs.Giving.{chunks_of_fed}
use Rattle.chk_demux.specs.Splitting.{split_from, past_in, past_of, is_stamped, RunsSo, SplitAll, stream_chunks, stream_left, all_chunks, all_left}
use Rattle.chk_demux.proofs.Places.{begins_past, unfiltered}
use Rattle.chk_demux.proofs.SortedEnds.{sum_each}

-- ---- a run keeps its order

-- one that begins past the end of another one of its stream doesn't come before it
not_before : (s : Stream) (c d : Chunk) → is_of s c ≡ true → is_of s d ≡ true → HasBytes c → chunk_end c ≤ chunk_begin d
    → comes_before d c ≡ false
not_before s c d mine also bytes past =
    let same : s ≡ c.key.stream = streams_same s c.key.stream mine in
    let alike : same_stream c.key.stream d.key.stream ≡ true = subst (λ t. same_stream t d.key.stream ≡ true) same also in
    let some = bytes.some in
    let room = bytes.room in
    or_from (stream_lt d.key.stream c.key.stream)
    (same_stream d.key.stream c.key.stream
    && (nat_lt (chunk_begin d) (chunk_begin c) || (nat_eq (chunk_begin d) (chunk_begin c) && nat_lt (chunk_end d) (chunk_end c))))
    (streams.neither c.key.stream d.key.stream alike).1
    (and_right (same_stream d.key.stream c.key.stream)
    (nat_lt (chunk_begin d) (chunk_begin c) || (nat_eq (chunk_begin d) (chunk_begin c) && nat_lt (chunk_end d) (chunk_end c)))
    (or_from (nat_lt (chunk_begin d) (chunk_begin c)) (nat_eq (chunk_begin d) (chunk_begin c) && nat_lt (chunk_end d) (chunk_end c))
    (le-ltb (chunk_begin d) (chunk_begin c) (omega (arith, some, room, past)))
    (and_left (nat_eq (chunk_begin d) (chunk_begin c)) (nat_lt (chunk_end d) (chunk_end c))
    (ne_eqb (chunk_begin d) (chunk_begin c) (λ e. let z : ⊥ = omega (arith, some, room, past, e) in z)))))

-- of the stream, none comes before this one
abbrev NoneBefore : Stream → Chunk → Chunk → Type 0
NoneBefore s c d = is_of s d ≡ true → comes_before d c ≡ false

put_other : (s : Stream) (c : Chunk) (ds : List Chunk) → is_of s c ≡ false → filter (is_of s) (put_in c ds) ≡ filter (is_of s) ds
put_other s c [] other = rw other refl
put_other s c (d ∷ ds) other = go (comes_before d c) (put_other s c ds other)
  where
    go : (b : Bool) → filter (is_of s) (put_in c ds) ≡ filter (is_of s) ds
        → filter (is_of s) (elim b [ true ↦ d ∷ put_in c ds | false ↦ c ∷ d ∷ ds ]) ≡ filter (is_of s) (d ∷ ds)
    go true rest = ap (λ l. if is_of s d then d ∷ l else l) rest
    go false rest = rw other refl

put_first : (s : Stream) (c : Chunk) (ds : List Chunk) → is_of s c ≡ true → Each (NoneBefore s c) ds
    → filter (is_of s) (put_in c ds) ≡ c ∷ filter (is_of s) ds
put_first s c [] mine none = rw mine refl
put_first s c (d ∷ ds) mine none = go (comes_before d c) (is_of s d) refl refl (put_first s c ds mine none.1)
  where
    go : (b q : Bool) → comes_before d c ≡ b → is_of s d ≡ q → filter (is_of s) (put_in c ds) ≡ c ∷ filter (is_of s) ds
        → filter (is_of s) (elim b [ true ↦ d ∷ put_in c ds | false ↦ c ∷ d ∷ ds ])
        ≡ c ∷ (if q then d ∷ filter (is_of s) ds else filter (is_of s) ds)
    go true true before passes rest = absurd (true≢false (sym before ∙ none.0 passes))
    go true false before passes rest = rw passes rest
    go false q before passes rest = rw mine (ap (λ b. c ∷ (if b then d ∷ filter (is_of s) ds else filter (is_of s) ds)) passes)

run_keeps : (s : Stream) (start from to : ℕ) (cs : List Chunk) → Each HasBytes cs → Run start from (filter (is_of s) cs) to
    → filter (is_of s) (in_order cs) ≡ filter (is_of s) cs
run_keeps s start from to [] all r = refl
run_keeps s start from to (c ∷ cs) all r = go (λ n run. run_keeps s start n to cs all.1 run) (is_of s c) refl r
  where
    later : is_of s c ≡ true → Run start (chunk_end c) (filter (is_of s) cs) to → Each (NoneBefore s c) cs
    later is run =
        each_as (λ (d : Chunk). is_of s d ≡ true → chunk_end c ≤ chunk_begin d) (NoneBefore s c) cs
        (λ d past also. not_before s c d is also all.0 (past also))
        (unfiltered (λ (d : Chunk). chunk_end c ≤ chunk_begin d) (is_of s) cs
        (begins_past start (chunk_end c) to (filter (is_of s) cs) (each_filter HasBytes (is_of s) cs all.1) run))

    go : ((n : ℕ) → Run start n (filter (is_of s) cs) to → filter (is_of s) (in_order cs) ≡ filter (is_of s) cs) → (b : Bool)
        → is_of s c ≡ b → Run start from (cond b (c ∷ filter (is_of s) cs) (filter (is_of s) cs)) to
        → filter (is_of s) (put_in c (in_order cs)) ≡ cond b (c ∷ filter (is_of s) cs) (filter (is_of s) cs)
    go rest true is r =
        put_first s c (in_order cs) is
        (each_from (NoneBefore s c) (in_order cs) (λ d one. each_at (NoneBefore s c) cs d (later is r.2) (all_put cs d one)))
        ∙ ap (λ l. c ∷ l) (rest (chunk_end c) r.2)
    go rest false other r = put_other s c (in_order cs) other ∙ rest from r

pub order_keeps : (cs : List Chunk) (e : End) (from : ℕ) → RunsSo cs e from
    → filter (is_of e.stream) (in_order cs) ≡ filter (is_of e.stream) cs
order_keeps cs e from runs = run_keeps e.stream e.start runs.first e.end cs runs.bytes runs.run

-- ---- and its split

pub runs_in_order : (cs : List Chunk) (e : End) (from : ℕ) → RunsSo cs e from → RunsSo (in_order cs) e from
runs_in_order cs e from runs = record {
  bytes = each_from HasBytes (in_order cs) (λ c one. each_at HasBytes cs c runs.bytes (all_put cs c one));
  first = runs.first;
  run = subst (λ l. Run e.start runs.first l e.end) (sym (order_keeps cs e from runs)) runs.run;
  from_on = runs.from_on;
}

pub same_past : (cs : List Chunk) (e : End) (from : ℕ) → RunsSo cs e from
    → past_in from e.stream (in_order cs) ≡ past_in from e.stream cs
same_past cs e from runs = ap (flat_map (past_of from)) (order_keeps cs e from runs)

module _ (types : List (List ℕ)) (b : Book) (heads : List Head) (cs : List Chunk) (ends : List End) (runs : SplitAll cs ends b) where
  runs_of : (e : End) → Contains ends e → RunsSo cs e (split_from b e)
  runs_of e one = each_at (λ e. RunsSo cs e (split_from b e)) ends e runs one

  pub all_run : SplitAll (in_order cs) ends b
  all_run =
      each_as (λ e. RunsSo cs e (split_from b e)) (λ e. RunsSo (in_order cs) e (split_from b e)) ends
      (λ e r. runs_in_order cs e (split_from b e) r) runs

  pub same_chunks : all_chunks types b heads (in_order cs) ends ≡ all_chunks types b heads cs ends
  same_chunks =
      flat_same (stream_chunks types b heads (in_order cs)) (stream_chunks types b heads cs) ends
      (λ e one. ap (chunks_of_fed heads e (split_from b e) (is_stamped types e.stream.kind))
      (same_past cs e (split_from b e) (runs_of e one)))

  pub same_left : all_left types b (in_order cs) ends ≡ all_left types b cs ends
  same_left =
      sum_each (stream_left types b (in_order cs)) (stream_left types b cs) ends
      (each_from (λ e. stream_left types b (in_order cs) e ≡ stream_left types b cs e) ends
      (λ e one. ap (λ (l : List ℕ). length l - length (joined (pieces_of (is_stamped types e.stream.kind) l)))
      (same_past cs e (split_from b e) (runs_of e one))))
