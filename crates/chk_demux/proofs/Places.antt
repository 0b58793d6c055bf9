-- Where the bytes of a stream stand, whose chunks run.
use Rattle.std.proofs.Common.{◌≡◌, ◌⊎◌, inl, inr, ℕ, zero, suc, ◌+◌, ◌-◌, ◌≤◌, ◌<◌, Bool, true, false, ◌&&◌, cond, List, [], ◌∷◌, ◌++◌, length, take, drop, ap, ap₂, sym, subst, ◌∙◌, refl, arith, append-nil, length-append, length-drop, if◌then◌else◌, true≢false}
use Rattle.std.specs.Prelude.{filter, flat_map, nat_le, nat_lt, slice_index_or}
use Rattle.std.specs.List.{AllZip}
use Rattle.std.proofs.lemmas.Bool.{and_parts, leb-true, ltb-false, ltb-true, cases_Bool}
use Rattle.std.proofs.lemmas.List.{take_more, take-append-drop, drop_more, drop_all}
use Rattle.std.proofs.lemmas.List.Elements.{filter-append}
use Rattle.std.proofs.lemmas.Grind.{flat_map-append}
use Rattle.chk_chunk.specs.Keys.{Stream, Chunk, chunk_begin, chunk_end, is_of}
use Rattle.chk_world.specs.Books.{End, values}
use Rattle.chk_world.specs.Jobs.{Run}
use Rattle.chk_world.specs.Sight.{Sight}
use Rattle.chk_world.specs.TrueBooks.{HasBytes}
use Rattle.chk_world.proofs.Each.{Each, each_filter, each_as}
use Rattle.chk_world.proofs.BooksTrue.{run_length}
use Rattle.chk_record_index.specs.Heads.{Head}
use Rattle.chk_record_index.specs.Order.{no_head}
use Rattle.chk_archive_plan.specs.Passes.{head_in}
use Rattle.chk_archive_plan.proofs.Bridges.{each_index}
use Rattle.chk_record_reader.specs.Courses.{is_head_of}
use Rattle.chk_archive_parts.specs.Cuts.{no_chunk}
use Rattle.chk_archive_parts.specs.Records.{IsRecordOf, AreRecords}
use Rattle.chk_archive_parts.proofs.CutLists.{zip_at}
use Rattle.chk_demux.specs.Giving.{holds_byte, cluster_back, IsPlaced}
use Rattle.chk_demux.specs.Splitting.{ends_past, past_of, past_in, RunsSo}

-- ---- what a run has from an offset on

drop-append : (n : ℕ) (xs ys : List ℕ) → drop n (xs ++ ys) ≡ drop n xs ++ drop (n - length xs) ys
drop-append zero xs ys = ap (λ m. xs ++ drop m ys) (let z : 0 ≡ 0 - length xs = omega arith in z)
drop-append (suc n) [] ys = ap (λ m. drop m ys) (let z : suc n ≡ suc n - 0 = omega arith in z)
drop-append (suc n) (x ∷ xs) ys =
    drop-append n xs ys
    ∙ ap (λ m. drop n xs ++ drop m ys) (let z : n - length xs ≡ suc n - suc (length xs) = omega arith in z)

-- it is what its values have
pub past_values : (start from to : ℕ) (cs : List Chunk) (off : ℕ) → Each HasBytes cs → Run start from cs to
    → flat_map (past_of off) cs ≡ drop (off - from) (values cs)
past_values start from to [] off all r = sym (drop_all (off - from) [] (omega arith))
past_values start from to (c ∷ cs) off all r =
    let room = all.0.room in
    let begins : chunk_begin c ≡ from = r.1 in
    let ends : off - chunk_end c ≡ (off - from) - length c.value = omega (arith, room, begins) in
    ap₂ (λ a b. a ++ b)
    (ap (λ n. drop (off - n) c.value) begins)
    (past_values start (chunk_end c) to cs off all.1 r.2 ∙ ap (λ n. drop n (values cs)) ends)
    ∙ sym (drop-append (off - from) c.value (values cs))

-- a run is split at each of its chunks
pub record SplitsRun (start from : ℕ) (xs : List Chunk) (c : Chunk) (ys : List Chunk) (to : ℕ) : Type 0 where
  pub before : Run start from xs (chunk_begin c)
  pub start_is : c.key.start ≡ start
  pub behind : Run start (chunk_end c) ys to

pub run_split : (start from to : ℕ) (xs : List Chunk) (c : Chunk) (ys : List Chunk) → Run start from (xs ++ c ∷ ys) to
    → SplitsRun start from xs c ys to
run_split start from to [] c ys r = record { before = r.1; start_is = r.0; behind = r.2 }
run_split start from to (x ∷ xs) c ys r =
    let k = run_split start (chunk_end x) to xs c ys r.2 in
    record { before = (r.0, r.1, k.before); start_is = k.start_is; behind = k.behind }

-- all chunks of a run begin at its first offset or past it
pub begins_past : (start from to : ℕ) (cs : List Chunk) → Each HasBytes cs → Run start from cs to
    → Each (λ (c : Chunk). from ≤ chunk_begin c) cs
begins_past start from to [] all r = tt
begins_past start from to (c ∷ cs) all r =
    let begins : chunk_begin c ≡ from = r.1 in
    let low : from ≤ chunk_end c = omega (arith, begins) in (
      omega (arith, begins),
      each_as (λ (d : Chunk). chunk_end c ≤ chunk_begin d) (λ (d : Chunk). from ≤ chunk_begin d) cs
          (λ d h. omega (arith, low, h)) (begins_past start (chunk_end c) to cs all.1 r.2),
    )

-- ---- at one of all chunks

-- what holds of those that pass
pub unfiltered : (P : Chunk → Type 0) (p : Chunk → Bool) (cs : List Chunk) → Each P (filter p cs)
    → Each (λ c. p c ≡ true → P c) cs
unfiltered P p [] all = tt
unfiltered P p (c ∷ cs) all = go (p c) refl (λ h. unfiltered P p cs h) all
  where
    go : (b : Bool) → p c ≡ b → (Each P (filter p cs) → Each (λ c. p c ≡ true → P c) cs)
        → Each P (cond b (c ∷ filter p cs) (filter p cs)) → Each (λ c. p c ≡ true → P c) (c ∷ cs)
    go true e rest all = ((λ h. all.0), rest all.1)
    go false e rest all = ((λ h. absurd (true≢false (sym h ∙ e))), rest all)

filter_one : (s : Stream) (c : Chunk) → is_of s c ≡ true → filter (is_of s) (c ∷ []) ≡ c ∷ []
filter_one s c is = ap (λ b. cond b (c ∷ []) []) is

filter_no : (s : Stream) (c : Chunk) → is_of s c ≡ false → filter (is_of s) (c ∷ []) ≡ []
filter_no s c is = ap (λ b. cond b (c ∷ []) []) is

module _ (cs : List Chunk) (i : ℕ) (low : i < length cs) (from : ℕ) (s : Stream) where
  abbrev pub C : Chunk
  C = slice_index_or cs i no_chunk

  first_more : take (i + 1) cs ≡ take i cs ++ C ∷ []
  first_more = take_more cs i no_chunk low

  pub all_split : cs ≡ take i cs ++ C ∷ drop (i + 1) cs
  all_split = sym (take-append-drop i cs) ∙ ap (λ l. take i cs ++ l) (drop_more cs i no_chunk low)

  past_more : past_in from s (take (i + 1) cs)
      ≡ past_in from s (take i cs) ++ flat_map (past_of from) (filter (is_of s) (C ∷ []))
  past_more =
      ap (past_in from s) first_more
      ∙ (ap (flat_map (past_of from)) (filter-append (is_of s) (take i cs) (C ∷ []))
      ∙ flat_map-append (past_of from) (filter (is_of s) (take i cs)) (filter (is_of s) (C ∷ [])))

  -- of a chunk of another stream nothing is taken
  pub past_other : is_of s C ≡ false → past_in from s (take (i + 1) cs) ≡ past_in from s (take i cs)
  past_other is =
      past_more
      ∙ (ap (λ l. past_in from s (take i cs) ++ flat_map (past_of from) l) (filter_no s C is)
      ∙ append-nil (past_in from s (take i cs)))

  pub past_one : is_of s C ≡ true
      → past_in from s (take (i + 1) cs) ≡ past_in from s (take i cs) ++ past_of from C
  past_one is =
      past_more
      ∙ ap (λ l. past_in from s (take i cs) ++ l)
      (ap (flat_map (past_of from)) (filter_one s C is) ∙ append-nil (past_of from C))

  -- and nothing of one that ends at the offset or below it
  pub past_low : HasBytes C → is_of s C ≡ true → chunk_end C ≤ from
      → past_in from s (take (i + 1) cs) ≡ past_in from s (take i cs)
  past_low bytes is high =
      let room = bytes.room in
      past_one is
      ∙ (ap (λ l. past_in from s (take i cs) ++ l)
      (drop_all (from - chunk_begin C) C.value (omega (arith, room, high)))
      ∙ append-nil (past_in from s (take i cs)))

  -- ---- where its stream's chunks run

  module _ (start first to : ℕ) (all : Each HasBytes cs) (run : Run start first (filter (is_of s) cs) to)
      (is : is_of s C ≡ true) where
    of_stream : filter (is_of s) cs ≡ filter (is_of s) (take i cs) ++ C ∷ filter (is_of s) (drop (i + 1) cs)
    of_stream =
        ap (filter (is_of s)) all_split
        ∙ (filter-append (is_of s) (take i cs) (C ∷ drop (i + 1) cs)
        ∙ ap (λ b. filter (is_of s) (take i cs) ++ cond b (C ∷ filter (is_of s) (drop (i + 1) cs)) (filter (is_of s) (drop (i + 1) cs))) is)

    pub here : SplitsRun start first (filter (is_of s) (take i cs)) C (filter (is_of s) (drop (i + 1) cs)) to
    here =
        run_split start first to (filter (is_of s) (take i cs)) C (filter (is_of s) (drop (i + 1) cs))
        (subst (λ l. Run start first l to) of_stream run)

    bytes_all : Each HasBytes (take i cs ++ C ∷ drop (i + 1) cs)
    bytes_all = subst (Each HasBytes) all_split all

    front_bytes : (xs ys : List Chunk) → Each HasBytes (xs ++ ys) → Each HasBytes xs × Each HasBytes ys
    front_bytes [] ys h = (tt, h)
    front_bytes (x ∷ xs) ys h = let k = front_bytes xs ys h.1 in ((h.0, k.0), k.1)

    before_bytes : Each HasBytes (filter (is_of s) (take i cs))
    before_bytes = each_filter HasBytes (is_of s) (take i cs) (front_bytes (take i cs) (C ∷ drop (i + 1) cs) bytes_all).0

    behind_bytes : Each HasBytes (filter (is_of s) (drop (i + 1) cs))
    behind_bytes = each_filter HasBytes (is_of s) (drop (i + 1) cs) (front_bytes (take i cs) (C ∷ drop (i + 1) cs) bytes_all).1.1

    own_bytes : HasBytes C
    own_bytes = (front_bytes (take i cs) (C ∷ drop (i + 1) cs) bytes_all).1.0

    -- what is taken up to it ends with it
    pub ends_with : first ≤ from → from < chunk_end C
        → chunk_end C ≡ from + length (past_in from s (take (i + 1) cs))
    ends_with on low_from =
        let room = own_bytes.room in
        let before = run_length start first (filter (is_of s) (take i cs)) (chunk_begin C) before_bytes here.before in
        let taken = ap length (past_values start first (chunk_begin C) (filter (is_of s) (take i cs)) from before_bytes here.before) in
        let size = length-drop (from - first) (values (filter (is_of s) (take i cs))) in
        let own = length-drop (from - chunk_begin C) C.value in
        let more = ap length (past_one is) in
        let both = length-append (past_in from s (take i cs)) (past_of from C) in
        omega (arith, room, on, low_from, before, taken, size, own, more, both)

    -- those of its stream behind it begin at its end or past it
    pub later_begin : Each (λ (d : Chunk). is_of s d ≡ true → chunk_end C ≤ chunk_begin d) (drop (i + 1) cs)
    later_begin =
        unfiltered (λ (d : Chunk). chunk_end C ≤ chunk_begin d) (is_of s) (drop (i + 1) cs)
        (begins_past start (chunk_end C) to (filter (is_of s) (drop (i + 1) cs)) behind_bytes here.behind)

-- ---- the same by heads

-- no later head counts
pub back_same : (heads : List Head) (s : Stream) (at n len : ℕ) → n ≤ len
    → ((k : ℕ) → n ≤ k → k < len → holds_byte s at (head_in heads k) ≡ false)
    → cluster_back heads s at n ≡ cluster_back heads s at len
back_same heads s at n zero le none = ap (cluster_back heads s at) (let z : n ≡ 0 = omega (arith, le) in z)
back_same heads s at n (suc len) le none = elim (one_of n len le) [
  | inl same ↦ ap (cluster_back heads s at) same
  | inr less ↦
      back_same heads s at n len less (λ k low high. none k low (omega (arith, high)))
      ∙ sym (ap (λ b. if b then (head_in heads len).key.cluster else cluster_back heads s at len)
      (none len less (omega arith)))
]
  where
    one_of : (n len : ℕ) → n ≤ suc len → (n ≡ suc len) ⊎ (n ≤ len)
    one_of n len le = grind (arith, le)

nothing_at : (k j : ℕ) → slice_index_or [] k no_chunk ≡ slice_index_or [] j no_chunk
nothing_at k j = refl

dropped : (cs : List Chunk) (i k : ℕ) → i ≤ k → slice_index_or cs k no_chunk ≡ slice_index_or (drop i cs) (k - i) no_chunk
dropped cs zero k low = ap (λ m. slice_index_or cs m no_chunk) (let z : k ≡ k - 0 = omega arith in z)
dropped [] (suc i) k low = nothing_at k (k - suc i)
dropped (c ∷ cs) (suc i) zero low = absurd (let z : ⊥ = omega (arith, low) in z)
dropped (c ∷ cs) (suc i) (suc k) low =
    dropped cs i k (omega (arith, low))
    ∙ ap (λ m. slice_index_or (drop i cs) m no_chunk) (let z : k - i ≡ suc k - suc i = omega arith in z)

module _ (v : Sight) (files : List (List ℕ)) (heads : List Head) (cs : List Chunk) (e : End) (from : ℕ)
    (records : AreRecords v files heads cs) (bytes : Each HasBytes cs) where
  zip_size : (hs : List Head) (ds : List Chunk) → AllZip (IsRecordOf v files) hs ds → length hs ≡ length ds
  zip_size [] [] zip = refl
  zip_size [] (d ∷ ds) zip = absurd zip
  zip_size (h ∷ hs) [] zip = absurd zip
  zip_size (h ∷ hs) (d ∷ ds) zip = ap suc (zip_size hs ds zip.1)

  pub same_size : length heads ≡ length cs
  same_size = zip_size heads cs records.each

  pub record_at : (i : ℕ) → i < length heads → IsRecordOf v files (head_in heads i) (slice_index_or cs i no_chunk)
  record_at i low = zip_at (IsRecordOf v files) heads cs records.each i low no_head no_chunk

  pub of_same : (i : ℕ) → i < length heads → is_head_of e.stream (head_in heads i) ≡ is_of e.stream (slice_index_or cs i no_chunk)
  of_same i low = ap (is_of e.stream) (record_at i low).is

  seq_is : (i : ℕ) → i < length heads → (head_in heads i).key.seq ≡ chunk_end (slice_index_or cs i no_chunk)
  seq_is i low = ap chunk_end (record_at i low).is

  module _ (i : ℕ) (low : i < length heads) where
    pub few : i < length cs
    few = let size = same_size in omega (arith, low, size)

    abbrev pub D : Chunk
    D = C cs i few from e.stream

    own : HasBytes D
    own = each_index HasBytes cs bytes i few no_chunk

    -- where the head's record isn't past the offset, nothing is taken
    pub not_past : ends_past e from (head_in heads i) ≡ false
        → past_in from e.stream (take (i + 1) cs) ≡ past_in from e.stream (take i cs)
    not_past misses = elim (cases_Bool (is_of e.stream D)) [
      | inr other ↦ past_other cs i few from e.stream other
      | inl is ↦
          let end = seq_is i low in
          let seq_low : (head_in heads i).key.seq ≤ from =
          ltb-false from (head_in heads i).key.seq
          (sym (ap (λ b. b && nat_lt from (head_in heads i).key.seq) (of_same i low ∙ is)) ∙ misses) in
          past_low cs i few from e.stream own is (omega (arith, end, seq_low))
    ]

    module _ (passes : ends_past e from (head_in heads i) ≡ true) where
      parts : (is_head_of e.stream (head_in heads i) ≡ true) × (nat_lt from (head_in heads i).key.seq ≡ true)
      parts = let p = and_parts (is_head_of e.stream (head_in heads i)) (nat_lt from (head_in heads i).key.seq) passes in (p.0, p.1)

      of_it : is_of e.stream D ≡ true
      of_it = sym (of_same i low) ∙ parts.0

      pub is_past : past_in from e.stream (take (i + 1) cs) ≡ past_in from e.stream (take i cs) ++ past_of from D
      is_past = past_one cs i few from e.stream of_it

      module _ (runs : RunsSo cs e from) where
        later : (k : ℕ) → i + 1 ≤ k → k < length heads → (at : ℕ) → at < (head_in heads i).key.seq
            → holds_byte e.stream at (head_in heads k) ≡ false
        later k past high at below = elim (cases_Bool (holds_byte e.stream at (head_in heads k))) [
          | inr misses ↦ misses
          | inl holds ↦
              let p = and_parts (is_head_of e.stream (head_in heads k)) (nat_le (head_in heads k).begin at) holds in
              let low_k : k < length cs = let size = same_size in omega (arith, high, size) in
              let rest = length-drop (i + 1) cs in
              let in_rest : k - (i + 1) < length (drop (i + 1) cs) = omega (arith, past, low_k, rest) in
              let there = each_index (λ (d : Chunk). is_of e.stream d ≡ true → chunk_end D ≤ chunk_begin d) (drop (i + 1) cs)
              (later_begin cs i few from e.stream e.start runs.first e.end runs.bytes runs.run of_it) (k - (i + 1)) in_rest no_chunk in
              let same = dropped cs (i + 1) k past in
              let begins : chunk_end D ≤ chunk_begin (slice_index_or cs k no_chunk) =
              subst (λ (d : Chunk). is_of e.stream d ≡ true → chunk_end D ≤ chunk_begin d) (sym same) there
              (sym (of_same k high) ∙ p.0) in
              let begin = (record_at k high).begin in
              let end = seq_is i low in
              let under : (head_in heads k).begin ≤ at = leb-true (head_in heads k).begin at p.1 in
              absurd (let z : ⊥ = omega (arith, begins, begin, end, under, below) in z)
        ]

        pub is_placed : IsPlaced heads e i from (past_in from e.stream (take i cs) ++ past_of from D)
        is_placed = record {
          ends =
              let end = seq_is i low in
              let past : from < chunk_end D = let q = ltb-true from (head_in heads i).key.seq parts.1 in omega (arith, end, q) in
              end ∙ (ends_with cs i few from e.stream e.start runs.first e.end runs.bytes runs.run of_it runs.from_on past
              ∙ ap (λ l. from + length l) is_past);
          alone = λ at below.
              back_same heads e.stream at (i + 1) (length heads) (omega (arith, low)) (λ k past high. later k past high at below);
        }
