-- A key that is another one but for its sequence id.
use Rattle.std.proofs.Common.{◌≡◌, inl, inr, ℕ, ◌<◌, ◌∷◌, ◌++◌, List, length, drop, sym, ap, ap₂, ◌∙◌, arith}
use Rattle.std.specs.Prelude.{IsTrue, slice_index}
use Rattle.std.proofs.lemmas.Bool.{and_parts, and_from}
use Rattle.chk_bytes.specs.Laws.{AreBytes}
use Rattle.chk_bytes.specs.Numbers.{be64, limit, spelled_at}
use Rattle.chk_chunk.specs.Keys.{Key, Stream, IsKey, is_key, key_1, key_2, fits_1, counted, counted_stream}
use Rattle.chk_chunk.proofs.KeyLemmas.{key_facts, is_key-from_facts}
use Rattle.chk_chunk.proofs.HeadLemmas.{head_spelled}
use Rattle.chk_ctl_cat.specs.declared.recent.Recent.{Recent}
use Rattle.chk_ctl_cat.specs.declared.recent.Row.{Row}
use Rattle.chk_ctl_cat.specs.Recents.{IsAlike, IsRecent, IsRow}

-- the key with another sequence id
abbrev pub with_seq : Key → ℕ → Key
with_seq k n = record { stream = k.stream; start = k.start; cluster = k.cluster; seq = n }

valid_with : (k : Key) (n : ℕ) → k.start < n → n < limit → IsTrue (is_key k) → IsTrue (is_key (with_seq k n))
valid_with k n started fits valid =
    let f = key_facts k valid in
    is_key-from_facts (with_seq k n) record {
      stream = f.stream;
      cluster = f.cluster;
      low = f.low;
      started = started;
      fits = fits;
    }

-- some bytes whose first is this one, and what stands behind the ninth
parts : (last bytes rest : List ℕ) (version seq : ℕ) → AreBytes bytes → IsAlike last bytes → last ≡ version ∷ (be64 seq ++ rest)
    → bytes ≡ version ∷ (be64 (spelled_at 1 8 bytes) ++ rest)
parts last bytes rest version seq each alike is =
    let whole = head_spelled 0 bytes each alike.long in
    let first : spelled_at 0 1 bytes ≡ version = sym (ap (λ t. slice_index t 0) whole) ∙ (alike.version ∙ ap (λ t. slice_index t 0) is) in
    let tail : drop 9 bytes ≡ rest = alike.tail ∙ ap (drop 9) is in
    whole ∙ ap₂ (λ v t. v ∷ (be64 (spelled_at 1 8 bytes) ++ t)) first tail

next_key : (k : Key) (last bytes : List ℕ) → AreBytes bytes → IsAlike last bytes → k.start < spelled_at 1 8 bytes → spelled_at 1 8 bytes < limit
    → IsKey k last → IsKey (with_seq k (spelled_at 1 8 bytes)) bytes
unfolding key_1 key_2
next_key k last bytes each alike started fits (inl h) =
    let a = and_parts (is_key k) (fits_1 k) h.0 in
    inl (
      and_from _ _ (valid_with k (spelled_at 1 8 bytes) started fits a.0) a.1,
      parts last bytes (counted_stream k.stream) 1 k.seq each alike h.1,
    )
next_key k last bytes each alike started fits (inr h) =
    inr (
      valid_with k (spelled_at 1 8 bytes) started fits h.0,
      parts last bytes (be64 k.start ++ (counted_stream k.stream ++ counted k.cluster)) 2 k.seq each alike h.1,
    )

pub next_row : (s : Stream) (r : Recent) (bytes : List ℕ) (row : Row) → AreBytes bytes → IsAlike r.bytes bytes → row.of ≡ r.of → row.start ≡ r.start
    → row.seq ≡ spelled_at 1 8 bytes → r.start < row.seq → row.seq < limit → IsRecent s r → IsRow s bytes row
next_row s r bytes row each alike of start seq started fits (inl none) = absurd (omega (arith, ap length none, alike.kept))
next_row s r bytes row each alike of start seq started fits (inr kept) = (
  with_seq kept.key (spelled_at 1 8 bytes),
  next_key kept.key r.bytes bytes each alike (omega (arith, kept.start, seq, started)) (omega (arith, seq, fits)) kept.is,
  λ i. record { of = (of ∙ kept.of) i; start = (start ∙ kept.start) i; seq = seq i },
)
