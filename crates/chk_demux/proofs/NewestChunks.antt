-- The chunks of an archive's newest segments give the same new records as those of all segments, where each stream's
-- reach back to the place from which on its split goes on.
use Rattle.std.proofs.Common.{◌≡◌, ◌⊎◌, inl, inr, ℕ, zero, suc, ◌+◌, ◌-◌, ◌≤◌, ◌<◌, Bool, true, false, ◌||◌, cond, List, [], ◌∷◌, ◌++◌, length, map, ap, ap₂, sym, subst, ◌∙◌, refl, arith, length-append, length-drop, ◌==◌}
use Rattle.std.specs.Prelude.{Contains, filter, flat_map, nat_lt, nat_le, slice_index_or}
use Rattle.std.proofs.lemmas.Bool.{cases_lt}
use Rattle.std.proofs.lemmas.List.{drop_all, get_or_default}
use Rattle.std.proofs.lemmas.List.Elements.{filter-append, Contains-append_right, Contains-get_or}
use Rattle.std.proofs.lemmas.Grind.{flat_map-append}
use Rattle.chk_bytes.specs.Words.{joined}
use Rattle.chk_chunk.specs.Keys.{Chunk, chunk_begin, chunk_end, chunk_limit, record_limit, is_of}
use Rattle.chk_world.specs.ArchiveRuns.{in_order}
use Rattle.chk_world.specs.Books.{End, Book, values}
use Rattle.chk_world.specs.Jobs.{Run}
use Rattle.chk_world.specs.Sight.{Sight}
use Rattle.chk_world.specs.Splits.{ends_from, lines_from, has_stamp, records_behind, stamped_records}
use Rattle.chk_world.specs.TrueBooks.{HasBytes}
use Rattle.chk_world.proofs.Each.{Each, each_at, each_from, each_filter, filter_in, later_one}
use Rattle.chk_world.proofs.BooksTrue.{run_length}
use Rattle.chk_world.proofs.Segments.{flat_same}
use Rattle.chk_record_index.specs.Heads.{Head}
use Rattle.chk_archive_parts.specs.Cuts.{no_chunk}
use Rattle.chk_archive_parts.specs.Records.{AreRecords}
use Rattle.chk_archive_plan.proofs.Runs.{all_put}
use Rattle.chk_demux_split.specs.Splitting.{pieces_of}
use Rattle.chk_demux.specs.Giving.{cluster_back, keyed, record_chunk, chunks_of_fed}
use Rattle.chk_demux.specs.Splitting.{split_from, past_in, past_of, is_stamped, RunsSo, SplitAll, stream_chunks, stream_left, all_chunks, all_left}
use Rattle.chk_demux.proofs.ChunksInOrder.{order_keeps, runs_in_order, same_past}
use Rattle.chk_demux.proofs.NewKeys.{Holds, held_by, cluster_of}
use Rattle.chk_demux.proofs.NewRecords.{pieces_fit}
use Rattle.chk_demux.proofs.Places.{past_values}
use Rattle.chk_demux.proofs.SortedEnds.{sum_each}

-- ---- a record has bytes

abbrev IsSome : List ℕ → Type 0
IsSome bytes = 0 < length bytes

lines_some : (line bytes : List ℕ) → Each IsSome (lines_from line bytes)
lines_some line [] = tt
lines_some line (b ∷ bytes) =
    go (b == 10 || nat_le chunk_limit (length (line ++ b ∷ []))) (lines_some [] bytes) (lines_some (line ++ b ∷ []) bytes)
  where
    go : (t : Bool) → Each IsSome (lines_from [] bytes) → Each IsSome (lines_from (line ++ b ∷ []) bytes)
        → Each IsSome (elim t as (λ t. List (List ℕ)) [
          | true ↦ (line ++ b ∷ []) ∷ lines_from [] bytes
          | false ↦ lines_from (line ++ b ∷ []) bytes
        ])
    go true fresh on = (let size = length-append line (b ∷ []) in omega (arith, size), fresh)
    go false fresh on = on

records_some : (begun : List ℕ) (lines : List (List ℕ)) → IsSome begun → Each IsSome lines
    → Each IsSome (records_behind begun lines)
records_some begun [] some all = tt
records_some begun (line ∷ lines) some all =
    go (has_stamp line || nat_lt record_limit (length begun + length line)) (records_some line lines all.0 all.1)
    (records_some (begun ++ line) lines (let size = length-append begun line in omega (arith, size, some)) all.1)
  where
    go : (t : Bool) → Each IsSome (records_behind line lines) → Each IsSome (records_behind (begun ++ line) lines)
        → Each IsSome (elim t as (λ t. List (List ℕ)) [
          | true ↦ begun ∷ records_behind line lines
          | false ↦ records_behind (begun ++ line) lines
        ])
    go true fresh on = (some, fresh)
    go false fresh on = on

pieces_some : (t : Bool) (bytes : List ℕ) → Each IsSome (pieces_of t bytes)
pieces_some false bytes = lines_some [] bytes
pieces_some true bytes = go (lines_from [] bytes) (lines_some [] bytes)
  where
    go : (ls : List (List ℕ)) → Each IsSome ls → Each IsSome (stamped_records ls)
    go [] all = tt
    go (line ∷ lines) all = records_some line lines all.0 all.1

-- ---- chunks of a stream among which others are

module _ (e : End) (from : ℕ) (all new : List Chunk) (whole : RunsSo all e from)
    (runs : RunsSo new e from)
    (among : (c : Chunk) → Contains new c → is_of e.stream c ≡ true → Contains all c) (v : Sight)
    (files : List (List ℕ)) (heads hs : List Head) (all_heads : AreRecords v files heads all)
    (new_heads : AreRecords v files hs new) where
  -- both find the same cluster for a byte
  same_cluster : (at : ℕ) → from ≤ at → at < e.end
      → cluster_back hs e.stream at (length hs) ≡ cluster_back heads e.stream at (length heads)
  same_cluster at on before =
      let low = runs.from_on in
      let h = held_by e.stream e.start runs.first e.end at new runs.run (omega (arith, low, on))
      before in
      let c = slice_index_or new h.index no_chunk in
      let one : Contains all c = among c (Contains-get_or new h.index no_chunk h.low) h.of in
      let there : slice_index_or all one.0 no_chunk ≡ c =
      get_or_default all one.0 no_chunk c one.1 ∙ one.2 in
      let k : Holds e.stream e.start at all =
      record {
        index = one.0;
        low = one.1;
        of = subst (λ x. is_of e.stream x ≡ true) (sym there) h.of;
        start_is = ap (λ (x : Chunk). x.key.start) there ∙ h.start_is;
        on = subst (λ x. chunk_begin x ≤ at) (sym there) h.on;
        before = subst (λ x. at < chunk_end x) (sym there) h.before;
      } in
      cluster_of v files hs new e from new_heads runs at on h
      ∙ (sym (ap (λ (x : Chunk). x.key.cluster) there)
      ∙ sym (cluster_of v files heads all e from all_heads whole at on k))

  same_records : (at : ℕ) (ps : List (List ℕ)) → from ≤ at
      → (at + length (joined ps) ≤ e.end) ⊎ (length (joined ps) ≡ 0) → Each IsSome ps
      → map (record_chunk hs e) (ends_from at ps) ≡ map (record_chunk heads e) (ends_from at ps)
  same_records at [] on fits some = refl
  same_records at (p ∷ ps) on fits some =
      let has : 0 < length p = some.0 in
      let size = length-append p (joined ps) in
      let begins : at + length p - length p ≡ at = omega arith in
      let below : at < e.end = elim fits [
        | inl low ↦ omega (arith, low, size, has)
        | inr none ↦ absurd (let z : ⊥ = omega (arith, none, size, has) in z)
      ] in
      ap₂ (λ x xs. x ∷ xs)
      (ap (λ k. keyed e k (at + length p) p)
      (subst (λ n. cluster_back hs e.stream n (length hs)
      ≡ cluster_back heads e.stream n (length heads)) (sym begins) (same_cluster at on below)))
      (same_records (at + length p) ps (omega (arith, on))
      (elim fits [
        | inl low ↦ inl (omega (arith, low, size))
        | inr none ↦ absurd (let z : ⊥ = omega (arith, none, size, has) in z)
      ]) some.1)

  -- the complete records end at the stream's end or below it
  records_fit : (t : Bool)
      → (from + length (joined (pieces_of t (past_in from e.stream new))) ≤ e.end)
      ⊎ (length (joined (pieces_of t (past_in from e.stream new))) ≡ 0)
  records_fit t =
      let mine = each_filter HasBytes (is_of e.stream) new runs.bytes in
      let own = filter (is_of e.stream) new in
      let fit = pieces_fit t (past_in from e.stream new) in
      let past = ap length (past_values e.start runs.first e.end own from mine runs.run) in
      let size = length-drop (from - runs.first) (values own) in
      let run = run_length e.start runs.first own e.end mine runs.run in
      let low = runs.from_on in
      elim (cases_lt e.end from) [
        | inl over ↦ inr (omega (arith, fit, past, size, run, low, over))
        | inr up ↦ inl (omega (arith, fit, past, size, run, low, up))
      ]

  -- what is the same from an offset on gives the same records
  pub fed_alike : (t : Bool) → past_in from e.stream new ≡ past_in from e.stream all
      → chunks_of_fed hs e from t (past_in from e.stream new)
      ≡ chunks_of_fed heads e from t (past_in from e.stream all)
  fed_alike t same =
      same_records from (pieces_of t (past_in from e.stream new)) (omega arith) (records_fit t)
      (pieces_some t (past_in from e.stream new))
      ∙ ap (chunks_of_fed heads e from t) same

-- ---- what stands in front of the newest ones

-- a run that goes on as another one does runs up to where that begins
seam : (start n m to : ℕ) (xs ys : List Chunk) → Run start n (xs ++ ys) to → Run start m ys to → Run start n xs m
seam start n m to [] [] whole rest = sym rest ∙ whole
seam start n m to [] (y ∷ ys) whole rest = sym rest.1 ∙ whole.1
seam start n m to (x ∷ xs) ys whole rest = (whole.0, whole.1, seam start (chunk_end x) m to xs ys whole.2 rest)

-- of what ends at an offset nothing stands past it
pub none_past : (start n m off : ℕ) (xs : List Chunk) → Each HasBytes xs → Run start n xs m → m ≤ off
    → flat_map (past_of off) xs ≡ []
none_past start n m off xs all r low =
    past_values start n m xs off all r
    ∙ drop_all (off - n) (values xs) (let size = run_length start n xs m all r in omega (arith, size, low))

each_front : (P : Chunk → Type 0) (xs ys : List Chunk) → Each P (xs ++ ys) → Each P xs
each_front P [] ys all = tt
each_front P (x ∷ xs) ys all = (all.0, each_front P xs ys all.1)

in_filter : (p : Chunk → Bool) (xs : List Chunk) (x : Chunk) → Contains xs x → p x ≡ true → Contains (filter p xs) x
in_filter p [] x one passes = one
in_filter p (y ∷ xs) x (zero, low, at) passes =
    subst (λ b. Contains (cond b (y ∷ filter p xs) (filter p xs)) x) (sym (ap p at ∙ passes)) (0, omega arith, at)
in_filter p (y ∷ xs) x (suc k, low, at) passes = go (p y) (in_filter p xs x (k, omega (arith, low), at) passes)
  where
    go : (b : Bool) → Contains (filter p xs) x → Contains (cond b (y ∷ filter p xs) (filter p xs)) x
    go true one = later_one y (filter p xs) x one
    go false one = one

module _ (front new : List Chunk) (e : End) (from : ℕ) (whole : RunsSo (front ++ new) e from) (runs : RunsSo new e from) where
  abbrev Mine : List Chunk → List Chunk
  Mine cs = filter (is_of e.stream) cs

  both : Mine (front ++ new) ≡ Mine front ++ Mine new
  both = filter-append (is_of e.stream) front new

  front_runs : Run e.start whole.first (Mine front) runs.first
  front_runs =
      seam e.start whole.first runs.first e.end (Mine front) (Mine new)
      (subst (λ l. Run e.start whole.first l e.end) both whole.run) runs.run

  pub same_bytes : past_in from e.stream (in_order new) ≡ past_in from e.stream (in_order (front ++ new))
  same_bytes =
      same_past new e from runs
      ∙ sym (same_past (front ++ new) e from whole
      ∙ (ap (flat_map (past_of from)) both
      ∙ (flat_map-append (past_of from) (Mine front) (Mine new)
      ∙ ap (λ l. l ++ flat_map (past_of from) (Mine new))
      (none_past e.start whole.first runs.first from (Mine front)
      (each_filter HasBytes (is_of e.stream) front (each_front HasBytes front new whole.bytes)) front_runs runs.from_on))))

  -- a chunk of the stream among the newest ones is one of all
  among_all : (c : Chunk) → Contains (in_order new) c → is_of e.stream c ≡ true → Contains (in_order (front ++ new)) c
  among_all c one mine =
      filter_in (is_of e.stream) (in_order (front ++ new)) c
      (subst (λ l. Contains l c) (sym (order_keeps (front ++ new) e from whole))
      (in_filter (is_of e.stream) (front ++ new) c (Contains-append_right front new c (all_put new c one)) mine))

  pub same_fed : (v : Sight) (files : List (List ℕ)) (heads hs : List Head)
      → AreRecords v files heads (in_order (front ++ new)) → AreRecords v files hs (in_order new)
      → (t : Bool) → chunks_of_fed hs e from t (past_in from e.stream (in_order new))
      ≡ chunks_of_fed heads e from t (past_in from e.stream (in_order (front ++ new)))
  same_fed v files heads hs all_heads new_heads t =
      fed_alike e from (in_order (front ++ new)) (in_order new)
      (runs_in_order (front ++ new) e from whole) (runs_in_order new e from runs) among_all v files
      heads hs all_heads new_heads t same_bytes

-- ---- all streams

module _ (types : List (List ℕ)) (b : Book) (front new : List Chunk) (ends : List End) (whole : SplitAll (front ++ new) ends b)
    (runs : SplitAll new ends b) where
  of_all : (e : End) → Contains ends e → RunsSo (front ++ new) e (split_from b e)
  of_all e one = each_at (λ e. RunsSo (front ++ new) e (split_from b e)) ends e whole one

  of_new : (e : End) → Contains ends e → RunsSo new e (split_from b e)
  of_new e one = each_at (λ e. RunsSo new e (split_from b e)) ends e runs one

  pub newest_chunks : (v : Sight) (files : List (List ℕ)) (heads hs : List Head) → AreRecords v files heads (in_order (front ++ new))
      → AreRecords v files hs (in_order new)
      → all_chunks types b hs (in_order new) ends ≡ all_chunks types b heads (in_order (front ++ new)) ends
  newest_chunks v files heads hs all_heads new_heads =
      flat_same (stream_chunks types b hs (in_order new)) (stream_chunks types b heads (in_order (front ++ new))) ends
      (λ e one. same_fed front new e (split_from b e) (of_all e one) (of_new e one) v files heads hs all_heads new_heads
      (is_stamped types e.stream.kind))

  pub newest_left : all_left types b (in_order new) ends ≡ all_left types b (in_order (front ++ new)) ends
  newest_left =
      sum_each (stream_left types b (in_order new)) (stream_left types b (in_order (front ++ new))) ends
      (each_from (λ e. stream_left types b (in_order new) e ≡ stream_left types b (in_order (front ++ new)) e) ends
      (λ e one. ap (λ (l : List ℕ). length l - length (joined (pieces_of (is_stamped types e.stream.kind) l)))
      (same_bytes front new e (split_from b e) (of_all e one) (of_new e one))))
