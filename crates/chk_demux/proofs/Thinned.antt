-- Records that end where the split of their streams goes on, or before, give no new ones: the heads
-- of the others are enough.
use Rattle.std.proofs.Common.{◌≡◌, ◌∙◌, ℕ, zero, suc, ◌-◌, ◌<◌, ◌≤◌, Bool, true, false, true≢false, cond, List, [], ◌∷◌, ◌++◌, length, map, ap, refl, sym, subst, arith, if◌then◌else◌}
use Rattle.std.specs.Prelude.{Contains, IsTrue, filter, flat_map, nat_lt}
use Rattle.std.specs.List.{AllZip}
use Rattle.std.specs.List.Sorted.{ties}
use Rattle.std.proofs.lemmas.Bool.{cond_both, lt-ltb, ltb-true, ltb-false}
use Rattle.std.proofs.lemmas.List.{drop_all}
use Rattle.chk_bytes.specs.Words.{joined}
use Rattle.chk_chunk.specs.Keys.{Key, Chunk, chunk_begin, chunk_end, same_stream, stream_lt, is_of}
use Rattle.chk_world.specs.Books.{End, Book, ends_rise}
use Rattle.chk_world.specs.Jobs.{Run}
use Rattle.chk_world.specs.Sight.{Sight}
use Rattle.chk_world.specs.TrueBooks.{HasBytes}
use Rattle.chk_world.proofs.Each.{Each, each_at, each_filter, each_from, filter_in}
use Rattle.chk_world.proofs.NameTests.{streams_same}
use Rattle.chk_world.proofs.Segments.{flat_same}
use Rattle.chk_record_index.specs.Heads.{Head, head_of}
use Rattle.chk_record_index.specs.Order.{head_before, in_head_order}
use Rattle.chk_record_index.proofs.Sorting.{Sorted, one_order, sort_sorted, sort_ties}
use Rattle.chk_record_reader.specs.Courses.{is_head_of}
use Rattle.chk_archive_parts.specs.Records.{IsRecordOf, AreRecords}
use Rattle.chk_archive_parts.proofs.EndsInOrder.{apart, Sorted as Rising, sorted}
use Rattle.chk_archive_parts.proofs.FoundRecords.{is_head}
use Rattle.chk_demux_scan.specs.Forward.{is_past, past_of as heads_past}
use Rattle.chk_demux_split.specs.Splitting.{pieces_of}
use Rattle.chk_demux.specs.Enough.{places_for, Enough}
use Rattle.chk_demux.specs.Splitting.{split_from, past_of, past_in, is_stamped, RunsSo, stream_chunks, stream_left}
use Rattle.chk_demux.proofs.HeadsInOrder.{heads_ordered, streams_rise}
use Rattle.chk_demux.proofs.NewestChunks.{fed_alike}
use Rattle.chk_demux.proofs.SortedEnds.{sum_each}
use Rattle.chk_demux_scan.proofs.Forwards.{filter_swap}

-- ---- heads in order that pass a test

filter_sorted : (p : Head → Bool) (hs : List Head) → Sorted head_before hs
    → Sorted head_before (filter p hs)
filter_sorted p [] o = tt
filter_sorted p (h ∷ hs) o =
    let rest = filter_sorted p hs o.1 in
    cond_both (p h) (h ∷ filter p hs) (filter p hs) (Sorted head_before)
    (λ e. (each_filter (λ k. head_before k h ≡ false) p hs o.0, rest)) (λ e. rest)

-- the order is the same before and behind
pub filter_in_order : (p : Head → Bool) (hs : List Head)
    → in_head_order (filter p hs) ≡ filter p (in_head_order hs)
filter_in_order p hs =
    one_order head_before heads_ordered (in_head_order (filter p hs)) (filter p (in_head_order hs))
    (sort_sorted head_before heads_ordered (filter p hs))
    (filter_sorted p (in_head_order hs) (sort_sorted head_before heads_ordered hs))
    (λ z. sort_ties head_before heads_ordered z (filter p hs)
    ∙ (filter_swap (ties head_before z) p hs
    ∙ (ap (filter p) (sym (sort_ties head_before heads_ordered z hs))
    ∙ filter_swap p (ties head_before z) (in_head_order hs))))

-- ---- heads and their chunks

-- the chunk ends past where the split of its stream goes on
abbrev pub chunk_past : Book → Book → Chunk → Bool
chunk_past a b c = is_past a.ends (places_for a b) (head_of 0 0 c)

-- nothing but the key tells
past_key : (es : List End) (ps : List ℕ) (h k : Head) → h.key ≡ k.key
    → is_past es ps h ≡ is_past es ps k
past_key [] ps h k same = refl
past_key (e ∷ es) [] h k same = refl
past_key (e ∷ es) (p ∷ ps) h k same =
    ap (λ (x : Key). if same_stream e.stream x.stream then nat_lt p x.seq else is_past es ps h) same
    ∙ ap (λ t. if same_stream e.stream k.key.stream then nat_lt p k.key.seq else t)
    (past_key es ps h k same)

module _ (R : Head → Chunk → Type 0) (p : Head → Bool) (q : Chunk → Bool)
    (alike : (h : Head) (c : Chunk) → R h c → p h ≡ q c) where
  zip_filter : (hs : List Head) (cs : List Chunk) → AllZip R hs cs
      → AllZip R (filter p hs) (filter q cs)
  zip_filter [] [] all = tt
  zip_filter [] (c ∷ cs) all = absurd all
  zip_filter (h ∷ hs) [] all = absurd all
  zip_filter (h ∷ hs) (c ∷ cs) all =
      subst (λ t. AllZip R (cond (p h) (h ∷ filter p hs) (filter p hs))
      (cond t (c ∷ filter q cs) (filter q cs))) (alike h c all.0)
      (go (p h) (zip_filter hs cs all.1))
    where
      go : (t : Bool) → AllZip R (filter p hs) (filter q cs)
          → AllZip R (cond t (h ∷ filter p hs) (filter p hs))
          (cond t (c ∷ filter q cs) (filter q cs))
      go true rest = (all.0, rest)
      go false rest = rest

-- those of what is new stand for the chunks of what is new
pub past_records : (a b : Book) (v : Sight) (names : List (List ℕ)) (hs : List Head)
    (cs : List Chunk) → AreRecords v names hs cs
    → AreRecords v names (heads_past a.ends (places_for a b) hs) (filter (chunk_past a b) cs)
past_records a b v names hs cs are = record {
  sound = are.sound;
  each = zip_filter (IsRecordOf v names) (is_past a.ends (places_for a b)) (chunk_past a b)
      (λ h c r. past_key a.ends (places_for a b) h (head_of 0 0 c) (is_head v names h c r).key)
      hs cs are.each;
}

-- ---- what the chunks of a stream have from its place on

other_stream : (d e : End) (h : Head) → stream_lt d.stream e.stream ≡ true
    → is_head_of e.stream h ≡ true → is_head_of d.stream h ≡ false
other_stream d e h before mine =
    subst (λ s. same_stream d.stream s ≡ false) (streams_same e.stream h.key.stream mine)
    (apart d.stream e.stream before)

-- a head of a stream of the book is compared with that stream's place
of_stream : (b : Book) (es : List End) (e : End) (h : Head) → Rising es → Contains es e
    → is_head_of e.stream h ≡ true
    → is_past es (map (split_from b) es) h ≡ nat_lt (split_from b e) h.key.seq
of_stream b [] e h rise (k, low, at) mine = absurd (let z : ⊥ = omega (arith, low) in z)
of_stream b (d ∷ es) e h rise (zero, low, at) mine =
    ap (λ t. if t then nat_lt (split_from b d) h.key.seq else is_past es (map (split_from b) es) h)
    (ap (λ (x : End). is_head_of x.stream h) at ∙ mine)
    ∙ ap (λ (x : End). nat_lt (split_from b x) h.key.seq) at
of_stream b (d ∷ es) e h rise (suc k, low, at) mine =
    let one : Contains es e = (k, let z : k < length es = omega (arith, low) in z, at) in
    ap (λ t. if t then nat_lt (split_from b d) h.key.seq else is_past es (map (split_from b) es) h)
    (other_stream d e h
    (each_at (λ (f : End). stream_lt d.stream f.stream ≡ true) es e rise.0 one) mine)
    ∙ of_stream b es e h rise.1 one mine

-- a chunk that ends there or before has nothing behind
none_behind : (from : ℕ) (c : Chunk) → HasBytes c → chunk_end c ≤ from → past_of from c ≡ []
none_behind from c has low =
    let room = has.room in
    drop_all (from - chunk_begin c) c.value
    (let z : length c.value ≤ from - chunk_begin c = omega (arith, low, room) in z)

ends_above : (from n : ℕ) (c : Chunk) → HasBytes c → chunk_begin c ≡ n → from ≤ n
    → from < chunk_end c
ends_above from n c has begin up =
    let some = has.some in
    let room = has.room in
    let z : from < chunk_end c = omega (arith, begin, up, some, room) in z

module _ (a b : Book) (rise : IsTrue (ends_rise a.ends)) (e : End) (one : Contains a.ends e) where
  abbrev From : ℕ
  From = split_from b e

  abbrev Past : Chunk → Bool
  Past = chunk_past a b

  abbrev Mine : List Chunk → List Chunk
  Mine cs = filter (is_of e.stream) cs

  past_if : (c : Chunk) → is_of e.stream c ≡ true → Past c ≡ nat_lt From (chunk_end c)
  past_if c mine = of_stream b a.ends e (head_of 0 0 c) (sorted a.ends rise) one mine

  -- it is the same without those that end there or before
  pub past_same : (cs : List Chunk) → Each HasBytes cs
      → past_in From e.stream (filter Past cs) ≡ past_in From e.stream cs
  past_same [] all = refl
  past_same (c ∷ cs) all = go (is_of e.stream c) (Past c) refl refl (past_same cs all.1)
    where
      go : (m t : Bool) → is_of e.stream c ≡ m → Past c ≡ t
          → past_in From e.stream (filter Past cs) ≡ past_in From e.stream cs
          → past_in From e.stream (cond t (c ∷ filter Past cs) (filter Past cs))
          ≡ flat_map (past_of From) (cond m (c ∷ Mine cs) (Mine cs))
      go m true is new rest =
          ap (λ x. flat_map (past_of From)
          (cond x (c ∷ Mine (filter Past cs)) (Mine (filter Past cs)))) is ∙ both m
        where
          both : (m : Bool) → flat_map (past_of From)
              (cond m (c ∷ Mine (filter Past cs)) (Mine (filter Past cs)))
              ≡ flat_map (past_of From) (cond m (c ∷ Mine cs) (Mine cs))
          both true = ap (λ l. past_of From c ++ l) rest
          both false = rest
      go true false is old rest =
          rest ∙ ap (λ l. l ++ past_in From e.stream cs)
          (sym (none_behind From c all.0 (ltb-false From (chunk_end c) (sym (past_if c is) ∙ old))))
      go false false is old rest = rest

  -- where all begin there or behind none is left out
  kept : (n : ℕ) (cs : List Chunk) → Each HasBytes cs → Run e.start n (Mine cs) e.end → From ≤ n
      → Mine (filter Past cs) ≡ Mine cs
  kept n [] all r up = refl
  kept n (c ∷ cs) all r up =
      go (is_of e.stream c) (Past c) refl refl (λ k q low. kept k cs all.1 q low) r
    where
      go : (m t : Bool) → is_of e.stream c ≡ m → Past c ≡ t
          → ((k : ℕ) → Run e.start k (Mine cs) e.end → From ≤ k → Mine (filter Past cs) ≡ Mine cs)
          → Run e.start n (cond m (c ∷ Mine cs) (Mine cs)) e.end
          → Mine (cond t (c ∷ filter Past cs) (filter Past cs)) ≡ cond m (c ∷ Mine cs) (Mine cs)
      go true true is new rest r =
          let above = ends_above From n c all.0 r.1 up in
          ap (λ x. cond x (c ∷ Mine (filter Past cs)) (Mine (filter Past cs))) is
          ∙ ap (λ l. c ∷ l) (rest (chunk_end c) r.2 (omega (arith, above)))
      go true false is old rest r =
          absurd (true≢false (sym (past_if c is
          ∙ lt-ltb From (chunk_end c) (ends_above From n c all.0 r.1 up)) ∙ old))
      go false true is new rest r =
          ap (λ x. cond x (c ∷ Mine (filter Past cs)) (Mine (filter Past cs))) is ∙ rest n r up
      go false false is old rest r = rest n r up

  -- the others run from there or below
  abbrev RunsBelow : List Chunk → Type 0
  RunsBelow cs = (m : ℕ) × Run e.start m (Mine cs) e.end × (m ≤ From)

  runs_below : (n : ℕ) (cs : List Chunk) → Each HasBytes cs → Run e.start n (Mine cs) e.end
      → n ≤ From → RunsBelow (filter Past cs)
  runs_below n [] all r low = (n, r, low)
  runs_below n (c ∷ cs) all r low =
      go (is_of e.stream c) (Past c) refl refl (λ k q up. runs_below k cs all.1 q up) r
    where
      go : (m t : Bool) → is_of e.stream c ≡ m → Past c ≡ t
          → ((k : ℕ) → Run e.start k (Mine cs) e.end → k ≤ From → RunsBelow (filter Past cs))
          → Run e.start n (cond m (c ∷ Mine cs) (Mine cs)) e.end
          → RunsBelow (cond t (c ∷ filter Past cs) (filter Past cs))
      go true true is new rest r =
          let above = ltb-true From (chunk_end c) (sym (past_if c is) ∙ new) in
          let same = kept (chunk_end c) cs all.1 r.2 (omega (arith, above)) in (
            n,
            subst (λ x. Run e.start n (cond x (c ∷ Mine (filter Past cs)) (Mine (filter Past cs)))
                e.end) (sym is) (
                  r.0,
                  r.1,
                  subst (λ l. Run e.start (chunk_end c) l e.end) (sym same) r.2,
                ),
            low,
          )
      go true false is old rest r =
          rest (chunk_end c) r.2 (ltb-false From (chunk_end c) (sym (past_if c is) ∙ old))
      go false true is new rest r =
          let x = rest n r low in (
            x.0,
            subst (λ t. Run e.start x.0 (cond t (c ∷ Mine (filter Past cs)) (Mine (filter Past cs)))
                e.end) (sym is) x.1,
            x.2,
          )
      go false false is old rest r = rest n r low

  pub past_runs : (cs : List Chunk) → RunsSo cs e From → RunsSo (filter Past cs) e From
  past_runs cs r =
      let x = runs_below r.first cs r.bytes r.run r.from_on in
      record { bytes = each_filter HasBytes Past cs r.bytes; first = x.0; run = x.1; from_on = x.2 }

-- ---- the heads of what is new are enough

module _ (v : Sight) (a b : Book) (names : List (List ℕ)) (all : List Head) (cs : List Chunk)
    (hs : List Head) (rise : IsTrue (ends_rise a.ends))
    (enough : Enough v a b names all cs (in_head_order hs)) where
  abbrev New : List Chunk
  New = filter (chunk_past a b) enough.chunks

  abbrev Heads : List Head
  Heads = in_head_order (heads_past a.ends (places_for a b) hs)

  records : AreRecords v names Heads New
  records =
      subst (λ l. AreRecords v names l New)
      (sym (filter_in_order (is_past a.ends (places_for a b)) hs))
      (past_records a b v names (in_head_order hs) enough.chunks enough.records)

  were : (e : End) → Contains a.ends e → RunsSo enough.chunks e (split_from b e)
  were e one = each_at (λ e. RunsSo enough.chunks e (split_from b e)) a.ends e enough.runs one

  runs : (e : End) → Contains a.ends e → RunsSo New e (split_from b e)
  runs e one = past_runs a b rise e one enough.chunks (were e one)

  bytes : (e : End) → Contains a.ends e
      → past_in (split_from b e) e.stream New ≡ past_in (split_from b e) e.stream enough.chunks
  bytes e one = past_same a b rise e one enough.chunks (were e one).bytes

  pub thinned : Enough v a b names all cs Heads
  thinned = record {
    chunks = New;
    records = records;
    runs = each_from (λ e. RunsSo New e (split_from b e)) a.ends runs;
    rise = streams_rise (heads_past a.ends (places_for a b) hs);
    same = λ types. flat_same (stream_chunks types b Heads New)
        (stream_chunks types b (in_head_order hs) enough.chunks) a.ends
        (λ e one. fed_alike e (split_from b e) enough.chunks New (were e one) (runs e one)
        (λ c there mine. filter_in (chunk_past a b) enough.chunks c there) v names
        (in_head_order hs) Heads enough.records records (is_stamped types e.stream.kind)
        (bytes e one))
        ∙ enough.same types;
    left = λ types. sum_each (stream_left types b New) (stream_left types b enough.chunks) a.ends
        (each_from (λ e. stream_left types b New e ≡ stream_left types b enough.chunks e) a.ends
        (λ e one. ap (λ (l : List ℕ).
        length l - length (joined (pieces_of (is_stamped types e.stream.kind) l))) (bytes e one)))
        ∙ enough.left types;
  }
