-- The heads that are gathered are those of the records that were found, and so they are in order.
use Rattle.std.proofs.Common.{◌≡◌, ℕ, ◌+◌, ◌<◌, List, [], ◌∷◌, ◌++◌, length, Option, Some, None, ap, sym, subst, ◌∙◌, refl, arith, length-append, append_assoc}
use Rattle.std.specs.Prelude.{Contains, filter_map, option_map, map}
use Rattle.std.specs.List.{AllZip, cons_option}
use Rattle.std.proofs.lemmas.List.Elements.{Contains-append_right}
use Rattle.chk_chunk.specs.Keys.{Chunk, chunk_limit}
use Rattle.chk_seqfile.specs.Entries.{Placed, records_of}
use Rattle.chk_world.specs.Books.{chunk_of, chunks_within}
use Rattle.chk_world.specs.ArchiveRuns.{in_order}
use Rattle.chk_world.specs.Sight.{Sight}
use Rattle.chk_record_index.specs.Heads.{Head, head_of, head_at, heads_in}
use Rattle.chk_record_index.specs.Order.{in_head_order}
use Rattle.chk_record_index.specs.Pieces.{bytes_in}
use Rattle.chk_archive_plan.specs.HeadsOf.{IsHeadOf, AreHeads}
use Rattle.chk_archive_plan.proofs.HeadOrder.{ties_sort}
use Rattle.chk_record_reader.specs.ReadBack.{chunk_at}
use Rattle.chk_record_reader.proofs.Records.{chunks_of_heads}
use Rattle.chk_archive_parts.specs.Gathering.{held, heads_of, AreSound}
use Rattle.chk_archive_parts.specs.Records.{file_at, IsRecordOf, AreRecords, chunks_held, found_in}

-- ---- of one file

-- the head is that of the chunk, and says the file
abbrev pub IsHeadIn : ℕ → Head → Chunk → Type 0
IsHeadIn n h c = IsHeadOf h c × (h.file ≡ n)

heads_say : (n : ℕ) (rs : List Placed)
    → AllZip (IsHeadIn n) (filter_map (head_at chunk_limit n) rs) (filter_map (chunk_of chunk_limit) rs)
heads_say n [] = tt
heads_say n (r ∷ rs) = go (chunk_of chunk_limit r) (heads_say n rs)
  where
    go : (o : Option Chunk)
        → AllZip (IsHeadIn n) (filter_map (head_at chunk_limit n) rs) (filter_map (chunk_of chunk_limit) rs)
        → AllZip (IsHeadIn n)
        (cons_option (option_map (head_of n r.at) o) (filter_map (head_at chunk_limit n) rs))
        (cons_option o (filter_map (chunk_of chunk_limit) rs))
    go None rest = rest
    go (Some c) rest = ((record { key = refl; begin = refl }, refl), rest)

-- a head stands for its chunk, and is one of those
abbrev pub IsOneOf : List Head → List ℕ → ℕ → Head → Chunk → Type 0
IsOneOf all bytes n h c = IsHeadIn n h c × (Contains all h × (chunk_at bytes h ≡ c))

ones : (all : List Head) (bytes : List ℕ) (n : ℕ) (front hs : List Head) (cs : List Chunk)
    → all ≡ front ++ hs → AllZip (IsHeadIn n) hs cs → map (chunk_at bytes) hs ≡ cs
    → AllZip (IsOneOf all bytes n) hs cs
ones all bytes n front [] [] is zip same = tt
ones all bytes n front [] (c ∷ cs) is zip same = absurd zip
ones all bytes n front (h ∷ hs) [] is zip same = absurd zip
ones all bytes n front (h ∷ hs) (c ∷ cs) is zip same = (
  (
    zip.0,
    (
      subst (λ l. Contains l h) (sym is) (Contains-append_right front (h ∷ hs) h (0, omega arith, refl)),
      ap (first_of c) same,
    ),
  ),
  ones all bytes n (front ++ h ∷ []) hs cs (is ∙ sym (append_assoc front (h ∷ []) hs)) zip.1
      (ap rest_of same),
)
  where
    first_of : Chunk → List Chunk → Chunk
    first_of d [] = d
    first_of d (x ∷ xs) = x

    rest_of : List Chunk → List Chunk
    rest_of [] = []
    rest_of (x ∷ xs) = xs

of_file : (n : ℕ) (bytes : List ℕ)
    → AllZip (IsOneOf (heads_in chunk_limit n bytes) bytes n) (heads_in chunk_limit n bytes)
    (chunks_within chunk_limit bytes)
of_file n bytes =
    ones (heads_in chunk_limit n bytes) bytes n [] (heads_in chunk_limit n bytes)
    (chunks_within chunk_limit bytes) refl (heads_say n (records_of bytes))
    (chunks_of_heads chunk_limit n bytes)

-- ---- of all files

zip_as : (P Q : Head → Chunk → Type 0) → ((h : Head) (c : Chunk) → P h c → Q h c)
    → (hs : List Head) (cs : List Chunk) → AllZip P hs cs → AllZip Q hs cs
zip_as P Q turn [] [] zip = tt
zip_as P Q turn [] (c ∷ cs) zip = absurd zip
zip_as P Q turn (h ∷ hs) [] zip = absurd zip
zip_as P Q turn (h ∷ hs) (c ∷ cs) zip = (turn h c zip.0, zip_as P Q turn hs cs zip.1)

zip_append : (P : Head → Chunk → Type 0) (hs ks : List Head) (cs ds : List Chunk) → AllZip P hs cs
    → AllZip P ks ds → AllZip P (hs ++ ks) (cs ++ ds)
zip_append P [] ks [] ds p q = q
zip_append P [] ks (c ∷ cs) ds p q = absurd p
zip_append P (h ∷ hs) ks [] ds p q = absurd p
zip_append P (h ∷ hs) ks (c ∷ cs) ds p q = (p.0, zip_append P hs ks cs ds p.1 q)

at_front : (front files : List (List ℕ)) (w : List ℕ) → file_at (front ++ w ∷ files) (length front) ≡ w
at_front [] files w = refl
at_front (x ∷ front) files w = at_front front files w

one_of : (v : Sight) (all : List (List ℕ)) (n : ℕ) (w : List ℕ) → file_at all n ≡ w → n < length all
    → (h : Head) (c : Chunk)
    → IsOneOf (heads_in chunk_limit n (bytes_in (held v w))) (bytes_in (held v w)) n h c
    → IsRecordOf v all h c
one_of v all n w is low h c p =
    let same : w ≡ file_at all h.file = sym is ∙ ap (file_at all) (sym p.0.1) in
    record {
      within = subst (λ m. m < length all) (sym p.0.1) low;
      known = subst (λ m. Contains (heads_in chunk_limit m (bytes_in (held v (file_at all h.file)))) h)
          (sym p.0.1)
          (subst (λ x. Contains (heads_in chunk_limit n (bytes_in (held v x))) h) same p.1.0);
      is = subst (λ x. chunk_at (bytes_in (held v x)) h ≡ c) same p.1.1;
      begin = p.0.0.begin;
    }

of_files : (v : Sight) (front files : List (List ℕ))
    → AllZip (IsRecordOf v (front ++ files)) (heads_of v (length front) files) (found_in v files)
of_files v front [] = tt
of_files v front (w ∷ files) =
    let all = front ++ w ∷ files in
    let n = length front in
    let size = length-append front (w ∷ files) in
    let more = length-append front (w ∷ []) in
    zip_append (IsRecordOf v all) (heads_in chunk_limit n (bytes_in (held v w))) (heads_of v (n + 1) files)
    (chunks_held v w) (found_in v files)
    (zip_as (IsOneOf (heads_in chunk_limit n (bytes_in (held v w))) (bytes_in (held v w)) n)
    (IsRecordOf v all) (one_of v all n w (at_front front files w) (omega (arith, size)))
    (heads_in chunk_limit n (bytes_in (held v w))) (chunks_held v w) (of_file n (bytes_in (held v w))))
    (subst (λ m. AllZip (IsRecordOf v all) (heads_of v m files) (found_in v files)) more
    (subst (λ l. AllZip (IsRecordOf v l) (heads_of v (length (front ++ w ∷ [])) files) (found_in v files))
    (append_assoc front (w ∷ []) files) (of_files v (front ++ w ∷ []) files)))

pub is_head : (v : Sight) (files : List (List ℕ)) (h : Head) (c : Chunk) → IsRecordOf v files h c
    → IsHeadOf h c
is_head v files h c r = record { key = ap (λ (d : Chunk). d.key) r.is; begin = r.begin }

-- the gathered heads in order are those of the chunks in order
pub records_in_order : (v : Sight) (files : List (List ℕ)) → AreSound v files
    → AreRecords v files (in_head_order (heads_of v 0 files)) (in_order (found_in v files))
records_in_order v files sound = record {
  sound = sound;
  each = ties_sort (IsRecordOf v files) (is_head v files) (heads_of v 0 files) (found_in v files)
      (of_files v [] files);
}

pub are_heads : (v : Sight) (files : List (List ℕ)) → AreHeads (heads_of v 0 files) (found_in v files)
are_heads v files =
    zip_as (IsRecordOf v files) IsHeadOf (is_head v files) (heads_of v 0 files) (found_in v files)
    (of_files v [] files)
