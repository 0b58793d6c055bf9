-- The heads of an archive's newest files, which reach back to where the split of each stream goes on, are enough.
use Rattle.std.proofs.Common.{◌≡◌, ℕ, suc, ◌+◌, ◌≤◌, Bool, true, false, ◌&&◌, ◌==◌, cond, List, [], ◌∷◌, ◌++◌, length, take, drop, map, Some, None, ap, ap₂, sym, subst, ◌∙◌, refl, arith, if◌then◌else◌, append_assoc}
use Rattle.std.specs.Prelude.{Contains, filter, nat_le}
use Rattle.std.specs.List.{AllZip}
use Rattle.std.proofs.lemmas.Bool.{and_parts, eqb-true}
use Rattle.std.proofs.lemmas.Option.{none-some}
use Rattle.std.proofs.lemmas.List.{take-append-drop, get_or_default, length-take-le}
use Rattle.std.proofs.lemmas.List.{map-append}
use Rattle.chk_chunk.specs.Keys.{Stream, Chunk, chunk_limit, chunk_end, is_of}
use Rattle.chk_world.specs.ArchiveRuns.{comes_before, put_in, in_order}
use Rattle.chk_world.specs.Books.{End, Book}
use Rattle.chk_world.specs.Jobs.{Run}
use Rattle.chk_world.specs.Sight.{Sight}
use Rattle.chk_world.specs.TrueBooks.{HasBytes}
use Rattle.chk_world.proofs.Each.{Each, each_at, each_from}
use Rattle.chk_record_index.specs.Heads.{Head, heads_in}
use Rattle.chk_record_index.specs.Order.{head_before, put_by, in_head_order}
use Rattle.chk_record_index.specs.Pieces.{bytes_in}
use Rattle.chk_archive_plan.specs.HeadsOf.{AreHeads}
use Rattle.chk_archive_plan.proofs.HeadOrder.{ties_sort}
use Rattle.chk_record_reader.specs.Courses.{is_head_of, goes_on, first_break, reached}
use Rattle.chk_record_reader.specs.OnePass.{no_end}
use Rattle.chk_record_reader.specs.ReadBack.{chunk_at}
use Rattle.chk_demux_scan.specs.Backward.{begin_in, RunsBack}
use Rattle.chk_archive_parts.specs.Gathering.{held, heads_of}
use Rattle.chk_archive_parts.specs.Records.{file_at, IsRecordOf, AreRecords, found_in}
use Rattle.chk_archive_parts.proofs.FoundRecords.{is_head, are_heads}
use Rattle.chk_demux.specs.Enough.{Reach, Enough}
use Rattle.chk_demux.specs.Splitting.{split_from, RunsSo, SplitAll, StreamsRise, all_chunks, all_left}
use Rattle.chk_demux.proofs.ChunksInOrder.{all_run}
use Rattle.chk_demux.proofs.HeadsInOrder.{streams_rise}
use Rattle.chk_demux.proofs.NewestChunks.{newest_chunks, newest_left}

-- ---- what holds of each one in order

unput : (P : Chunk → Type 0) (c : Chunk) (ds : List Chunk) → Each P (put_in c ds) → P c × Each P ds
unput P c [] all = (all.0, tt)
unput P c (d ∷ ds) all = go (comes_before d c) (λ k. unput P c ds k) all
  where
    go : (b : Bool) → (Each P (put_in c ds) → P c × Each P ds)
        → Each P (elim b [ true ↦ d ∷ put_in c ds | false ↦ c ∷ d ∷ ds ]) → P c × Each P (d ∷ ds)
    go true rest all = let r = rest all.1 in (r.0, (all.0, r.1))
    go false rest all = (all.0, all.1)

unsort : (P : Chunk → Type 0) (cs : List Chunk) → Each P (in_order cs) → Each P cs
unsort P [] all = tt
unsort P (c ∷ cs) all = let r = unput P c (in_order cs) all in (r.0, unsort P cs r.1)

unput_head : (P : Head → Type 0) (h : Head) (ks : List Head) → Each P (put_by head_before h ks) → P h × Each P ks
unput_head P h [] all = (all.0, tt)
unput_head P h (k ∷ ks) all = go (head_before k h) (λ x. unput_head P h ks x) all
  where
    go : (b : Bool) → (Each P (put_by head_before h ks) → P h × Each P ks)
        → Each P (elim b [ true ↦ k ∷ put_by head_before h ks | false ↦ h ∷ k ∷ ks ]) → P h × Each P (k ∷ ks)
    go true rest all = let r = rest all.1 in (r.0, (all.0, r.1))
    go false rest all = (all.0, all.1)

unsort_heads : (P : Head → Type 0) (hs : List Head) → Each P (in_head_order hs) → Each P hs
unsort_heads P [] all = tt
unsort_heads P (h ∷ hs) all = let r = unput_head P h (in_head_order hs) all in (r.0, unsort_heads P hs r.1)

each_last : {X : Type 0} (P : X → Type 0) (xs ys : List X) → Each P (xs ++ ys) → Each P ys
each_last P [] ys all = all
each_last P (x ∷ xs) ys all = each_last P xs ys all.1

heads_split : (v : Sight) (n : ℕ) (xs ys : List (List ℕ)) → heads_of v n (xs ++ ys) ≡ heads_of v n xs ++ heads_of v (n + length xs) ys
heads_split v n [] ys = ap (λ m. heads_of v m ys) (let z : n ≡ n + 0 = omega arith in z)
heads_split v n (x ∷ xs) ys =
    let block = heads_in chunk_limit n (bytes_in (held v x)) in
    ap (λ l. block ++ l)
    (heads_split v (n + 1) xs ys
    ∙ ap (λ m. heads_of v (n + 1) xs ++ heads_of v m ys) (let z : n + 1 + length xs ≡ n + suc (length xs) = omega arith in z))
    ∙ sym (append_assoc block (heads_of v (n + 1) xs) (heads_of v (n + suc (length xs)) ys))

-- ---- heads and their chunks

module _ (v : Sight) (files : List (List ℕ)) where
  -- the chunk that a head stands for
  abbrev pub chunk_for : Head → Chunk
  chunk_for h = chunk_at (bytes_in (held v (file_at files h.file))) h

  abbrev Stands : Head → Type 0
  Stands h = IsRecordOf v files h (chunk_for h)

  are_for : (hs : List Head) (cs : List Chunk) → AllZip (IsRecordOf v files) hs cs → cs ≡ map chunk_for hs
  are_for [] [] zip = refl
  are_for [] (c ∷ cs) zip = absurd zip
  are_for (h ∷ hs) [] zip = absurd zip
  are_for (h ∷ hs) (c ∷ cs) zip = ap₂ (λ x xs. x ∷ xs) (sym zip.0.is) (are_for hs cs zip.1)

  stand : (hs : List Head) (cs : List Chunk) → AllZip (IsRecordOf v files) hs cs → Each Stands hs
  stand [] [] zip = tt
  stand [] (c ∷ cs) zip = absurd zip
  stand (h ∷ hs) [] zip = absurd zip
  stand (h ∷ hs) (c ∷ cs) zip = (subst (IsRecordOf v files h) (sym zip.0.is) zip.0, stand hs cs zip.1)

  zip_for : (hs : List Head) → Each Stands hs → AllZip (IsRecordOf v files) hs (map chunk_for hs)
  zip_for [] all = tt
  zip_for (h ∷ hs) all = (all.0, zip_for hs all.1)

  -- put in order they are the same chunks in order
  in_order_for : (hs : List Head) → Each Stands hs → AllZip (IsRecordOf v files) (in_head_order hs) (in_order (map chunk_for hs))
  in_order_for hs all = ties_sort (IsRecordOf v files) (is_head v files) hs (map chunk_for hs) (zip_for hs all)

  -- heads that run stand for chunks that run
  runs_for : (e : End) (from : ℕ) (hs : List Head) → Each Stands hs → first_break e.stream e from hs ≡ None
      → reached e.stream from hs ≡ e.end → Run e.start from (filter (is_of e.stream) (map chunk_for hs)) e.end
  runs_for e from [] all fine ends = sym ends
  runs_for e from (h ∷ hs) all fine ends =
      go (λ n f r. runs_for e n hs all.1 f r) (is_head_of e.stream h) (goes_on e from h) refl fine ends
    where
      go : ((n : ℕ) → first_break e.stream e n hs ≡ None → reached e.stream n hs ≡ e.end
          → Run e.start n (filter (is_of e.stream) (map chunk_for hs)) e.end)
          → (b g : Bool) → goes_on e from h ≡ g
          → (if b then (if g then first_break e.stream e h.key.seq hs else Some h) else first_break e.stream e from hs) ≡ None
          → (if b then reached e.stream h.key.seq hs else reached e.stream from hs) ≡ e.end
          → Run e.start from (cond b (chunk_for h ∷ filter (is_of e.stream) (map chunk_for hs))
          (filter (is_of e.stream) (map chunk_for hs))) e.end
      go rest true true on fine ends =
          let p = and_parts (h.key.start == e.start) (h.begin == from && nat_le h.key.seq e.end) on in
          let q = and_parts (h.begin == from) (nat_le h.key.seq e.end) p.1 in
          (eqb-true h.key.start e.start p.0, sym all.0.begin ∙ eqb-true h.begin from q.0, rest h.key.seq fine ends)
      go rest true false on fine ends = absurd (none-some h (sym fine))
      go rest false g on fine ends = rest from fine ends

  -- chunks with these heads run as those that the heads stand for
  runs_as : (s : Stream) (start from to : ℕ) (hs : List Head) (cs : List Chunk) → AreHeads hs cs → Each Stands hs
      → Run start from (filter (is_of s) cs) to → Run start from (filter (is_of s) (map chunk_for hs)) to
  runs_as s start from to [] [] zip all r = r
  runs_as s start from to [] (c ∷ cs) zip all r = absurd zip
  runs_as s start from to (h ∷ hs) [] zip all r = absurd zip
  runs_as s start from to (h ∷ hs) (c ∷ cs) zip all r =
      go (is_of s c) (ap (λ k. is_head_of s (record h { key = k })) zip.0.key) (λ n q. runs_as s start n to hs cs zip.1 all.1 q) r
    where
      go : (b : Bool) → is_head_of s h ≡ b
          → ((n : ℕ) → Run start n (filter (is_of s) cs) to → Run start n (filter (is_of s) (map chunk_for hs)) to)
          → Run start from (cond b (c ∷ filter (is_of s) cs) (filter (is_of s) cs)) to
          → Run start from (cond (is_head_of s h) (chunk_for h ∷ filter (is_of s) (map chunk_for hs))
          (filter (is_of s) (map chunk_for hs))) to
      go true is rest r =
          subst (λ b. Run start from (cond b (chunk_for h ∷ filter (is_of s) (map chunk_for hs))
          (filter (is_of s) (map chunk_for hs))) to) (sym is) (
            ap (λ k. k.start) zip.0.key ∙ r.0,
            sym all.0.begin ∙ (zip.0.begin ∙ r.1),
            subst (λ n. Run start n (filter (is_of s) (map chunk_for hs)) to) (sym (ap (λ k. k.seq) zip.0.key)) (rest (chunk_end c) r.2),
          )
      go false is rest r =
          subst (λ b. Run start from (cond b (chunk_for h ∷ filter (is_of s) (map chunk_for hs))
          (filter (is_of s) (map chunk_for hs))) to) (sym is) (rest from r)

-- ---- the newest ones are enough

module _ (v : Sight) (names : List (List ℕ)) (cs : List Chunk)
    (records : AreRecords v names (in_head_order (heads_of v 0 names)) cs) where
  all_stand : Each (Stands v names) (heads_of v 0 names)
  all_stand =
      unsort_heads (Stands v names) (heads_of v 0 names)
      (stand v names (in_head_order (heads_of v 0 names)) cs records.each)

  module _ (first : ℕ) (within : first ≤ length names) where
    heads_are : heads_of v 0 names
        ≡ heads_of v 0 (take first names) ++ heads_of v first (drop first names)
    heads_are =
        ap (heads_of v 0) (sym (take-append-drop first names))
        ∙ (heads_split v 0 (take first names) (drop first names)
        ∙ ap (λ n. heads_of v 0 (take first names) ++ heads_of v n (drop first names))
        (let size = length-take-le first names within in
        let z : 0 + length (take first names) ≡ first = omega (arith, size) in z))

    new_stand : Each (Stands v names) (heads_of v first (drop first names))
    new_stand =
        each_last (Stands v names) (heads_of v 0 (take first names))
        (heads_of v first (drop first names)) (subst (Each (Stands v names)) heads_are all_stand)

    -- the heads of the files from this one on are those of their chunks, also in order
    pub suffix_records : (heads : List Head)
        → heads ≡ in_head_order (heads_of v first (drop first names))
        → AreRecords v names heads
        (in_order (map (chunk_for v names) (heads_of v first (drop first names))))
    suffix_records heads order = record {
      sound = records.sound;
      each = subst (λ hs. AllZip (IsRecordOf v names) hs
          (in_order (map (chunk_for v names) (heads_of v first (drop first names)))))
          (sym order)
          (in_order_for v names (heads_of v first (drop first names)) new_stand);
    }

module _ (v : Sight) (a b : Book) (names : List (List ℕ)) (cs : List Chunk)
    (records : AreRecords v names (in_head_order (heads_of v 0 names)) cs) (runs : SplitAll cs a.ends b)
    (unsorted : SplitAll (found_in v names) a.ends b) where
  abbrev All : List Head
  All = heads_of v 0 names

  cs_are : cs ≡ in_order (map (chunk_for v names) All)
  cs_are =
      are_for v names (in_head_order All) cs records.each
      ∙ sym (are_for v names (in_head_order All) (in_order (map (chunk_for v names) All)) (in_order_for v names All (all_stand v names cs records)))

  all_bytes : (e : End) → Contains a.ends e → Each HasBytes (map (chunk_for v names) All)
  all_bytes e one =
      unsort HasBytes (map (chunk_for v names) All)
      (subst (Each HasBytes) cs_are (each_at (λ e. RunsSo cs e (split_from b e)) a.ends e runs one).bytes)

  all_runs : SplitAll (map (chunk_for v names) All) a.ends b
  all_runs = each_from (λ e. RunsSo (map (chunk_for v names) All) e (split_from b e)) a.ends
      (λ e one.
      let r = each_at (λ e. RunsSo (found_in v names) e (split_from b e)) a.ends e unsorted one in
      record {
        bytes = all_bytes e one;
        first = r.first;
        run = runs_as v names e.stream e.start r.first e.end All (found_in v names) (are_heads v names)
            (all_stand v names cs records) r.run;
        from_on = r.from_on;
      })

  module _ (heads : List Head) (reach : Reach v a b names heads) where
    abbrev F : Head → Chunk
    F = chunk_for v names

    abbrev Front : List Head
    Front = heads_of v 0 (take reach.first names)

    abbrev Hs : List Head
    Hs = heads_of v reach.first (drop reach.first names)

    chunks_are : map F All ≡ map F Front ++ map F Hs
    chunks_are = ap (map F) (heads_are v names cs records reach.first reach.within) ∙ map-append F Front Hs

    cs_split : cs ≡ in_order (map F Front ++ map F Hs)
    cs_split = cs_are ∙ ap in_order chunks_are

    whole : SplitAll (map F Front ++ map F Hs) a.ends b
    whole = subst (λ l. SplitAll l a.ends b) chunks_are all_runs

    runs_back : (e : End) → Contains a.ends e → RunsBack e Hs
    runs_back e one =
        subst (λ d. RunsBack d Hs) (get_or_default a.ends one.0 no_end e one.1 ∙ one.2) (reach.run.run one.0 one.1)

    new_runs : SplitAll (map F Hs) a.ends b
    new_runs = each_from (λ e. RunsSo (map F Hs) e (split_from b e)) a.ends
        (λ e one.
        let r = runs_back e one in
        record {
          bytes = each_last HasBytes (map F Front) (map F Hs) (subst (Each HasBytes) chunks_are (all_bytes e one));
          first = begin_in e Hs;
          run = runs_for v names e (begin_in e Hs) Hs
              (new_stand v names cs records reach.first reach.within) r.unbroken r.reaches;
          from_on = reach.far e one;
        })

    new_records : AreRecords v names heads (in_order (map F Hs))
    new_records = suffix_records v names cs records reach.first reach.within heads reach.order

    pub enough : Enough v a b names (in_head_order All) cs heads
    enough = record {
      chunks = in_order (map F Hs);
      records = new_records;
      runs = all_run [] b heads (map F Hs) a.ends new_runs;
      rise = subst (λ hs. StreamsRise hs) (sym reach.order) (streams_rise Hs);
      same = λ types. newest_chunks types b (map F Front) (map F Hs) a.ends whole new_runs v names (in_head_order All) heads
          (subst (λ l. AreRecords v names (in_head_order All) l) cs_split records) new_records
          ∙ ap (λ l. all_chunks types b (in_head_order All) l a.ends) (sym cs_split);
      left = λ types. newest_left types b (map F Front) (map F Hs) a.ends whole new_runs
          ∙ ap (λ l. all_left types b l a.ends) (sym cs_split);
    }
