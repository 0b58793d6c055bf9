-- The last key serves the next record of the same stream, start and cluster.
use Rattle.std.proofs.Common.{◌≡◌, ℕ, ◌^◌, Bool, true, false, List, [], ◌∷◌, ◌++◌, take, drop, if◌then◌else◌, refl, sym, ap, ◌∙◌, subst, arith}
use Rattle.std.specs.Prelude.{IsTrue}
use Rattle.chk_bytes.specs.Numbers.{be64}
use Rattle.chk_chunk.specs.Keys.{Key, IsKey, is_key, fits_1, key_1, key_2, written_key, counted, counted_stream}
use Rattle.chk_chunk.proofs.KeyLemmas.{key_facts, is_key-from_facts}
use Rattle.chk_chunk.proofs.KeyLaws.{one_key, written_key_is_key}
use Rattle.chk_record_index.specs.LastKeys.{key_version, key_tail, IsButSeq}

-- a key is written as its version, its sequence id and its tail
written_parts : (k : Key) (b : Bool)
    → (if b then key_1 k else key_2 k)
    ≡ (if b then 1 else 2)
    ∷ (be64 k.seq
    ++ (if b then counted_stream k.stream else be64 k.start ++ (counted_stream k.stream ++ counted k.cluster)))
unfolding key_1 key_2
written_parts k true = refl
written_parts k false = refl

pub written_is : (k : Key) → written_key k ≡ key_version k ∷ (be64 k.seq ++ key_tail k)
unfolding written_key
written_is k = written_parts k (fits_1 k)

-- the key with another sequence id
abbrev with_seq : Key → ℕ → Key
with_seq k n = record { stream = k.stream; start = k.start; cluster = k.cluster; seq = n }

valid_with : (k : Key) (n : ℕ) → n ≡ 2 ^ 62 → IsTrue (is_key k) → IsTrue (is_key (with_seq k n))
valid_with k n is valid =
    let f = key_facts k valid in
    let low = f.low in
    is_key-from_facts (with_seq k n) record {
      stream = f.stream;
      cluster = f.cluster;
      low = f.low;
      started = omega (arith, is, low);
      fits = omega (arith, is);
    }

-- two keys with the same version and tail are of one stream
one_stream : (k c : Key) (n : ℕ) → n ≡ 2 ^ 62 → IsTrue (is_key k) → IsTrue (is_key c)
    → key_version k ≡ key_version c → key_tail k ≡ key_tail c → c.stream ≡ k.stream
one_stream k c n is valid known version tail =
    let x = with_seq k n in
    let y = with_seq c n in
    let same : written_key x ≡ written_key y =
    written_is x
    ∙ (ap (λ v. v ∷ (be64 n ++ key_tail k)) version ∙ (ap (λ t. key_version c ∷ (be64 n ++ t)) tail ∙ sym (written_is y))) in
    ap (λ (z : Key). z.stream)
    (one_key y x (written_key y) (written_key_is_key y (valid_with c n is known))
    (subst (IsKey x) same (written_key_is_key x (valid_with k n is valid))))

-- the bytes of a written key, but for its sequence id
written_but : (k : Key) → IsButSeq k (written_key k)
written_but k = record { version = ap (take 1) (written_is k); tail = ap (drop 9) (written_is k) }

heads : (m n : ℕ) → m ∷ [] ≡ n ∷ [] → m ≡ n
heads m n e = cc

-- a key that the written bytes of another are, but for its sequence id, is of that one's stream
pub of_its_stream : (c k : Key) (bytes : List ℕ) → IsTrue (is_key c) → IsTrue (is_key k)
    → bytes ≡ written_key c → IsButSeq k bytes → c.stream ≡ k.stream
of_its_stream c k bytes known valid is but =
    let own = written_but c in
    let version = heads (key_version k) (key_version c) (sym but.version ∙ (ap (take 1) is ∙ own.version)) in
    one_stream k c (2 ^ 62) refl valid known version (sym but.tail ∙ (ap (drop 9) is ∙ own.tail))

-- no bytes are a key
pub none_is_but : (k : Key) (bytes : List ℕ) → bytes ≡ [] → IsButSeq k bytes → ⊥
none_is_but k bytes none but = let e = sym but.version ∙ ap (take 1) none in absurd (cc)

-- the key with the chunk's sequence id in its place
pub spelled_again : (k : Key) (bytes : List ℕ) → IsButSeq k bytes → take 1 bytes ++ (be64 k.seq ++ drop 9 bytes) ≡ written_key k
spelled_again k bytes but =
    ap (λ t. t ++ (be64 k.seq ++ drop 9 bytes)) but.version
    ∙ (ap (λ t. key_version k ∷ (be64 k.seq ++ t)) but.tail ∙ sym (written_is k))
