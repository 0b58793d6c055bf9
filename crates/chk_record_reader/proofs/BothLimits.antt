-- Chunks of at most so many bytes are chunks of at most more.
use Rattle.std.proofs.Common.{◌≡◌, ℕ, ◌≤◌, Bool, true, false, List, [], ◌∷◌, length, Option, Some, None, ap, sym, ◌∙◌, refl, arith}
use Rattle.std.specs.Prelude.{filter_map, nat_le}
use Rattle.std.specs.List.{cons_option}
use Rattle.std.proofs.lemmas.Bool.{and_parts, and_from, leb-true}
use Rattle.chk_chunk.specs.Keys.{Key, Chunk, chunk_limit, record_limit, has_value, read_key}
use Rattle.chk_seqfile.specs.Entries.{Placed, records_of}
use Rattle.chk_world.specs.Books.{AllChunks, chunk_if, chunk_with, chunk_of, chunks_within}

pub wider : (r : Placed) (c : Chunk) → chunk_of chunk_limit r ≡ Some c → chunk_of record_limit r ≡ Some c
wider r c is = go (read_key r.key) is
  where
    more : (k : Key) → has_value chunk_limit k r.value ≡ true → has_value record_limit k r.value ≡ true
    more k h =
        let p = and_parts _ _ h in
        let q = and_parts (nat_le (length r.value) chunk_limit) _ p.1 in
        let low : length r.value ≤ chunk_limit = leb-true (length r.value) chunk_limit q.0 in
        and_from _ _ p.0 (and_from (nat_le (length r.value) record_limit) _ (grind (arith, low)) q.1)

    go : (o : Option Key) → chunk_with chunk_limit o r.value ≡ Some c → chunk_with record_limit o r.value ≡ Some c
    go None e = e
    go (Some k) e = test (has_value chunk_limit k r.value) refl e
      where
        test : (b : Bool) → has_value chunk_limit k r.value ≡ b → chunk_if b k r.value ≡ Some c
            → chunk_if (has_value record_limit k r.value) k r.value ≡ Some c
        test true h e = ap (λ b. chunk_if b k r.value) (more k h) ∙ e
        test false h e = absurd (cc)

pub no_more : (rs : List Placed) → length (filter_map (chunk_of chunk_limit) rs) ≤ length rs
no_more [] = omega arith
no_more (r ∷ rs) = go (chunk_of chunk_limit r) (no_more rs)
  where
    go : (o : Option Chunk) → length (filter_map (chunk_of chunk_limit) rs) ≤ length rs
        → length (cons_option o (filter_map (chunk_of chunk_limit) rs)) ≤ length (r ∷ rs)
    go None low = omega (arith, low)
    go (Some c) low = omega (arith, low)

pub same_within : (rs : List Placed) → length (filter_map (chunk_of chunk_limit) rs) ≡ length rs
    → filter_map (chunk_of record_limit) rs ≡ filter_map (chunk_of chunk_limit) rs
same_within [] all = refl
same_within (r ∷ rs) all = go (chunk_of chunk_limit r) refl (λ k. same_within rs k) all
  where
    go : (o : Option Chunk) → chunk_of chunk_limit r ≡ o
        → (length (filter_map (chunk_of chunk_limit) rs) ≡ length rs
        → filter_map (chunk_of record_limit) rs ≡ filter_map (chunk_of chunk_limit) rs)
        → length (cons_option o (filter_map (chunk_of chunk_limit) rs)) ≡ length (r ∷ rs)
        → cons_option (chunk_of record_limit r) (filter_map (chunk_of record_limit) rs)
        ≡ cons_option (chunk_of chunk_limit r) (filter_map (chunk_of chunk_limit) rs)
    go None e rest all = let low = no_more rs in absurd (let z : ⊥ = omega (arith, low, all) in z)
    go (Some c) e rest all =
        ap (λ o. cons_option o (filter_map (chunk_of record_limit) rs)) (wider r c e)
        ∙ (ap (λ l. c ∷ l) (rest (omega (arith, all)))
        ∙ ap (λ o. cons_option o (filter_map (chunk_of chunk_limit) rs)) (sym e))

-- a segment of the archive has the same chunks by both limits
pub limits_agree : (bytes : List ℕ) → AllChunks chunk_limit bytes
    → chunks_within record_limit bytes ≡ chunks_within chunk_limit bytes
limits_agree bytes all = same_within (records_of bytes) all.all
