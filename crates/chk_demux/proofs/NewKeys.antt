-- A new record has the key of the archived one that holds its first byte.
use Rattle.std.proofs.Common.{◌≡◌, ℕ, zero, suc, ◌+◌, ◌-◌, ◌≤◌, ◌<◌, Bool, true, false, cond, List, [], ◌∷◌, length, map, ap, sym, ◌∙◌, refl, arith, length-append, if◌then◌else◌}
use Rattle.std.specs.Prelude.{filter, nat_le, nat_lt, slice_index_or}
use Rattle.std.proofs.lemmas.Bool.{and_from, ltb-true, ltb-false}
use Rattle.chk_bytes.specs.Words.{joined}
use Rattle.chk_chunk.specs.Keys.{Stream, Chunk, chunk_begin, chunk_end, is_of}
use Rattle.chk_world.specs.Books.{End}
use Rattle.chk_world.specs.Jobs.{Run}
use Rattle.chk_world.specs.Sight.{Sight}
use Rattle.chk_world.specs.Splits.{ends_from}
use Rattle.chk_world.specs.TrueBooks.{HasBytes}
use Rattle.chk_world.proofs.NameTests.{streams_same}
use Rattle.chk_world.proofs.Each.{Each}
use Rattle.chk_record_index.specs.Heads.{Head}
use Rattle.chk_archive_plan.specs.Passes.{head_in}
use Rattle.chk_record_reader.specs.Courses.{is_head_of}
use Rattle.chk_archive_parts.specs.Cuts.{no_chunk}
use Rattle.chk_archive_parts.specs.Records.{AreRecords}
use Rattle.chk_demux.specs.Demuxed.{HasKey}
use Rattle.chk_demux.specs.Giving.{holds_byte, cluster_back, record_chunk}
use Rattle.chk_demux.specs.Splitting.{ends_past, RunsSo}
use Rattle.chk_demux.proofs.Places.{same_size, record_at, of_same, is_placed}

-- one of these is the stream's, has its start, and holds this byte
pub record Holds (s : Stream) (start at : ℕ) (cs : List Chunk) : Type 0 where
  pub index : ℕ
  pub low : index < length cs
  pub of : is_of s (slice_index_or cs index no_chunk) ≡ true
  pub start_is : (slice_index_or cs index no_chunk).key.start ≡ start
  pub on : chunk_begin (slice_index_or cs index no_chunk) ≤ at
  pub before : at < chunk_end (slice_index_or cs index no_chunk)

holds_later : (s : Stream) (start at : ℕ) (c : Chunk) (cs : List Chunk) → Holds s start at cs → Holds s start at (c ∷ cs)
holds_later s start at c cs h = record {
  index = suc h.index;
  low = let low = h.low in omega (arith, low);
  of = h.of;
  start_is = h.start_is;
  on = h.on;
  before = h.before;
}

-- a byte of a run stands in one of its chunks
pub held_by : (s : Stream) (start from to at : ℕ) (cs : List Chunk) → Run start from (filter (is_of s) cs) to → from ≤ at → at < to
    → Holds s start at cs
held_by s start from to at [] r on before = absurd (let z : ⊥ = omega (arith, r, on, before) in z)
held_by s start from to at (c ∷ cs) r on before =
    go (λ f rest low. held_by s start f to at cs rest low before) (is_of s c) refl r
  where
    here : ((f : ℕ) → Run start f (filter (is_of s) cs) to → f ≤ at → Holds s start at cs)
        → is_of s c ≡ true → c.key.start ≡ start → chunk_begin c ≡ from
        → Run start (chunk_end c) (filter (is_of s) cs) to
        → (b : Bool) → nat_lt at (chunk_end c) ≡ b → Holds s start at (c ∷ cs)
    here later of start_is begins rest true low = record {
      index = 0;
      low = omega arith;
      of = of;
      start_is = start_is;
      on = omega (arith, on, begins);
      before = ltb-true at (chunk_end c) low;
    }
    here later of start_is begins rest false high =
        holds_later s start at c cs (later (chunk_end c) rest (ltb-false at (chunk_end c) high))

    go : ((f : ℕ) → Run start f (filter (is_of s) cs) to → f ≤ at → Holds s start at cs)
        → (b : Bool) → is_of s c ≡ b
        → Run start from (cond b (c ∷ filter (is_of s) cs) (filter (is_of s) cs)) to → Holds s start at (c ∷ cs)
    go later true of r = here later of r.0 r.1 r.2 (nat_lt at (chunk_end c)) refl
    go later false other r = holds_later s start at c cs (later from r on)

module _ (v : Sight) (files : List (List ℕ)) (heads : List Head) (cs : List Chunk) (e : End) (from : ℕ)
    (records : AreRecords v files heads cs) (runs : RunsSo cs e from) where
  -- the cluster that is found is that of the record that holds the byte
  pub cluster_of : (at : ℕ) → from ≤ at → (h : Holds e.stream e.start at cs)
      → cluster_back heads e.stream at (length heads) ≡ (slice_index_or cs h.index no_chunk).key.cluster
  cluster_of at on h =
      let i = h.index in
      let c = slice_index_or cs i no_chunk in
      let size = same_size v files heads cs e from records runs.bytes in
      let low_c = h.low in
      let low : i < length heads = omega (arith, low_c, size) in
      let is = record_at v files heads cs e from records runs.bytes i low in
      let key : (head_in heads i).key ≡ c.key = ap (λ (x : Chunk). x.key) is.is in
      let of : is_head_of e.stream (head_in heads i) ≡ true = of_same v files heads cs e from records runs.bytes i low ∙ h.of in
      let seq : (head_in heads i).key.seq ≡ chunk_end c = ap chunk_end is.is in
      let before : at < chunk_end c = h.before in
      let begin : (head_in heads i).begin ≡ chunk_begin c = is.begin in
      let begins : chunk_begin c ≤ at = h.on in
      let past : nat_lt from (head_in heads i).key.seq ≡ true =
      less from (head_in heads i).key.seq (omega (arith, on, seq, before)) in
      let passes : ends_past e from (head_in heads i) ≡ true =
      and_from (is_head_of e.stream (head_in heads i)) (nat_lt from (head_in heads i).key.seq) of past in
      let below : at < (head_in heads i).key.seq = omega (arith, seq, before) in
      let holds : holds_byte e.stream at (head_in heads i) ≡ true =
      and_from (is_head_of e.stream (head_in heads i)) (nat_le (head_in heads i).begin at) of
      (not_more (head_in heads i).begin at (omega (arith, begin, begins))) in
      sym ((is_placed v files heads cs e from records runs.bytes i low passes runs).alone at below)
      ∙ (ap (cluster_back heads e.stream at) (add_one i)
      ∙ (ap (λ b. if b then (head_in heads i).key.cluster else cluster_back heads e.stream at i) holds
      ∙ ap (λ k. k.cluster) key))
    where
      less : (a b : ℕ) → a < b → nat_lt a b ≡ true
      less a b h = grind (arith, h)

      not_more : (a b : ℕ) → a ≤ b → nat_le a b ≡ true
      not_more a b h = grind (arith, h)

      add_one : (n : ℕ) → n + 1 ≡ suc n
      add_one n = omega arith

  -- so each of these records has its key
  pub keys_found : (at : ℕ) (ps : List (List ℕ)) → from ≤ at → at + length (joined ps) ≤ e.end
      → Each HasBytes (map (record_chunk heads e) (ends_from at ps))
      → Each (HasKey cs) (map (record_chunk heads e) (ends_from at ps))
  keys_found at [] on fits all = tt
  keys_found at (p ∷ ps) on fits all =
      let some : 0 < length p = all.0.some in
      let size = length-append p (joined ps) in
      let begins : at + length p - length p ≡ at = omega arith in
      let h = held_by e.stream e.start runs.first e.end at cs runs.run (from_start at on) (omega (arith, some, size, fits)) in
      let c = slice_index_or cs h.index no_chunk in
      let hold = h.on in
      let before = h.before in (
        (
          c,
          (h.index, h.low, at_index cs h.index h.low),
          record {
            stream = streams_same e.stream c.key.stream h.of;
            start = sym h.start_is;
            cluster = ap (λ n. cluster_back heads e.stream n (length heads)) begins ∙ cluster_of at on h;
            on = omega (arith, hold, begins);
            before = omega (arith, before, begins);
          },
        ),
        keys_found (at + length p) ps (omega (arith, on)) (omega (arith, size, fits)) all.1,
      )
    where
      from_start : (at : ℕ) → from ≤ at → runs.first ≤ at
      from_start at low = let high = runs.from_on in omega (arith, low, high)

      at_index : (cs : List Chunk) (k : ℕ) → k < length cs
          → slice_index_or cs k (slice_index_or cs k no_chunk) ≡ slice_index_or cs k no_chunk
      at_index [] k low = absurd (let z : ⊥ = omega (arith, low) in z)
      at_index (c ∷ cs) zero low = refl
      at_index (c ∷ cs) (suc k) low = at_index cs k (omega (arith, low))
