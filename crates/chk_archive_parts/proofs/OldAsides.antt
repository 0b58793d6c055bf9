-- Records of the first file at rising places, as many as it has, are all that it has.
use Rattle.std.proofs.Common.{◌≡◌, ℕ, zero, suc, ◌<◌, ◌&&◌, true, List, [], ◌∷◌, length, map, ap, sym, subst, ◌∙◌, refl, arith}
use Rattle.std.specs.List.{AllZip}
use Rattle.std.specs.Prelude.{IsTrue, Contains, nat_eq, nat_lt, All, slice_index_or}
use Rattle.std.proofs.lemmas.Bool.{and_parts, eqb-true, ltb-true}
use Rattle.std.proofs.lemmas.List.{length-map}
use Rattle.std.proofs.lemmas.List.Elements.{All-head, All-tail}
use Rattle.chk_chunk.specs.Keys.{Chunk, chunk_limit}
use Rattle.chk_world.proofs.Each.{Each}
use Rattle.chk_record_index.specs.Heads.{Head, heads_in}
use Rattle.chk_record_index.specs.Order.{no_head}
use Rattle.chk_record_index.specs.Pieces.{bytes_in}
use Rattle.chk_archive_plan.specs.Passes.{head_in}
use Rattle.chk_archive_parts.specs.declared.cuts.Cut.{Cut}
use Rattle.chk_archive_parts.specs.Cuts.{no_chunk, cut_of, cut_chunks}
use Rattle.chk_record_reader.specs.ReadBack.{chunk_at}
use Rattle.chk_record_reader.proofs.Records.{chunks_of_heads}
use Rattle.chk_archive_parts.specs.Gathering.{held}
use Rattle.chk_archive_parts.specs.Records.{file_at, IsRecordOf}
use Rattle.chk_archive_parts.specs.Kept.{is_first, rise_from, are_old_aside, OldAsidesAreWhole}
use Rattle.chk_archive_parts.proofs.Rising.{RisesFrom, IsIn, is_in, all_of, heads_rise}

module _ (heads all : List Head) (cs : List Chunk) (f : Head → Chunk)
    (known : (k : ℕ) → k < length heads → is_first (head_in heads k) ≡ true
    → IsIn all (head_in heads k) × (slice_index_or cs k no_chunk ≡ f (head_in heads k))) where
  abbrev head_cut : Cut → Head
  head_cut k = head_in heads k.index

  -- what the test of the cuts tells
  pub record AreOf (last : ℕ) (cuts : List Cut) : Type 0 where
    pub rise : RisesFrom (suc last) (map head_cut cuts)
    pub each : Each (IsIn all) (map head_cut cuts)
    pub same : cut_chunks cs cuts ≡ map f (map head_cut cuts)

  are_of : (last : ℕ) (cuts : List Cut) → rise_from heads last cuts ≡ true
      → All (λ (k : Cut). k.index < length heads) cuts → AreOf last cuts
  are_of last [] rise within = record { rise = tt; each = tt; same = refl }
  are_of last (k ∷ ks) rise within =
      let h = head_in heads k.index in
      let more = nat_eq k.skip 0 && (nat_lt last h.at && rise_from heads h.at ks) in
      let first = and_parts (is_first h) more rise in
      let whole = and_parts (nat_eq k.skip 0) (nat_lt last h.at && rise_from heads h.at ks) first.1 in
      let past = and_parts (nat_lt last h.at) (rise_from heads h.at ks) whole.1 in
      let rest = are_of h.at ks past.1 (All-tail (λ (k : Cut). k.index < length heads) k ks within) in
      let one = known k.index (All-head (λ (k : Cut). k.index < length heads) k ks within) first.0 in
      record {
        rise = (ltb-true last h.at past.0, rest.rise);
        each = (one.0, rest.each);
        same =
            ap (λ n. cut_of n (slice_index_or cs k.index no_chunk) ∷ cut_chunks cs ks)
            (eqb-true k.skip 0 whole.0)
            ∙ (ap (λ c. c ∷ cut_chunks cs ks) one.1
            ∙ ap (λ l. f h ∷ l) rest.same);
      }

  pub cuts_are_all : (low : ℕ) (cuts : List Cut) → RisesFrom low all
      → IsTrue (are_old_aside heads (length all) cuts)
      → All (λ (k : Cut). k.index < length heads) cuts → cut_chunks cs cuts ≡ map f all
  cuts_are_all low cuts rises old within =
      let parts = and_parts (nat_eq (length cuts) (length all)) (rise_from heads 0 cuts) old in
      let are = are_of 0 cuts parts.1 within in
      are.same
      ∙ ap (map f) (all_of 1 low (map head_cut cuts) all are.rise rises are.each
      (length-map cuts head_cut ∙ eqb-true (length cuts) (length all) parts.0))

-- ---- of a file that the job knows

zip_at : {X Y : Type 0} (R : X → Y → Type 0) (xs : List X) (ys : List Y) → AllZip R xs ys
    → (k : ℕ) (d : X) (e : Y) → k < length xs → R (slice_index_or xs k d) (slice_index_or ys k e)
zip_at R [] ys zip k d e low = absurd (let z : ⊥ = omega (arith, low) in z)
zip_at R (x ∷ xs) [] zip k d e low = absurd zip
zip_at R (x ∷ xs) (y ∷ ys) zip zero d e low = zip.0
zip_at R (x ∷ xs) (y ∷ ys) zip (suc k) d e low = zip_at R xs ys zip.1 k d e (omega (arith, low))

pub old_asides_are_whole : OldAsidesAreWhole
old_asides_are_whole v w files heads cs cuts is records old within =
    let bytes = bytes_in (held v w) in
    let all = heads_in chunk_limit 0 bytes in
    let rises = heads_rise chunk_limit 0 bytes in
    cuts_are_all heads all cs (chunk_at bytes) known rises.0 cuts rises.1 old within
    ∙ chunks_of_heads chunk_limit 0 bytes
  where
    known : (k : ℕ) → k < length heads → is_first (head_in heads k) ≡ true
        → IsIn (heads_in chunk_limit 0 (bytes_in (held v w))) (head_in heads k)
        × (slice_index_or cs k no_chunk ≡ chunk_at (bytes_in (held v w)) (head_in heads k))
    known k low first =
        let h = head_in heads k in
        let one = zip_at (IsRecordOf v (w ∷ files)) heads cs records.each k no_head no_chunk low in
        let zeroth = eqb-true h.file 0 first in (
          is_in (heads_in chunk_limit 0 (bytes_in (held v w))) h
              (subst (λ n. Contains (heads_in chunk_limit n (bytes_in (held v (file_at (w ∷ files) n)))) h)
              zeroth one.known),
          sym (subst (λ n. chunk_at (bytes_in (held v (file_at (w ∷ files) n))) h ≡ slice_index_or cs k no_chunk)
              zeroth one.is),
        )
