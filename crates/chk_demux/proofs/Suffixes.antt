-- The heads of the files behind some of all files, and their chunks.
use Rattle.std.proofs.Common.{◌≡◌, ◌∙◌, ℕ, ◌+◌, List, [], ◌∷◌, ◌++◌, length, map, get_or, ap, ap₂, sym, subst, refl, arith, length-append, append_assoc}
use Rattle.std.specs.Prelude.{Contains}
use Rattle.std.proofs.Math.Seq.{get_or-append_seam}
use Rattle.std.proofs.lemmas.List.{map-append}
use Rattle.chk_chunk.specs.Keys.{Chunk, chunk_limit}
use Rattle.chk_seqfile.specs.Entries.{records_of}
use Rattle.chk_world.specs.Books.{chunks_within}
use Rattle.chk_world.specs.Sight.{Sight}
use Rattle.chk_world.proofs.BooksTrue.{each_append}
use Rattle.chk_world.proofs.Each.{Each, each_at, each_from, later_one}
use Rattle.chk_record_index.specs.Heads.{Head, heads_in}
use Rattle.chk_record_index.specs.Pieces.{bytes_in}
use Rattle.chk_record_reader.specs.ReadBack.{chunk_at}
use Rattle.chk_record_reader.proofs.AllRead.{numbered}
use Rattle.chk_record_reader.proofs.Records.{chunks_of_heads}
use Rattle.chk_archive_parts.specs.Gathering.{held, heads_of}
use Rattle.chk_archive_parts.specs.Records.{file_at, found_in}
use Rattle.chk_demux.proofs.NewestHeads.{chunk_for}

map_alike : (f g : Head → Chunk) (hs : List Head) → Each (λ h. f h ≡ g h) hs → map f hs ≡ map g hs
map_alike f g [] all = refl
map_alike f g (h ∷ hs) all = ap₂ (λ x xs. x ∷ xs) all.0 (map_alike f g hs all.1)

module _ (v : Sight) (all : List (List ℕ)) where
  -- the file behind those in front
  module _ (n : ℕ) (front : List (List ℕ)) (w : List ℕ) (ws : List (List ℕ)) (count : n ≡ length front)
      (split : all ≡ front ++ w ∷ ws) where
    abbrev Block : List Head
    Block = heads_in chunk_limit n (bytes_in (held v w))

    file_is : (h : Head) → Contains Block h → file_at all h.file ≡ w
    file_is h one =
        ap (λ m. get_or all m [])
        (each_at (λ (k : Head). k.file ≡ n) Block h
        (numbered chunk_limit n (records_of (bytes_in (held v w)))) one ∙ count)
        ∙ (ap (λ l. get_or l (length front) []) split ∙ get_or-append_seam front w ws [])

    block_chunks : map (chunk_for v all) Block ≡ chunks_within chunk_limit (bytes_in (held v w))
    block_chunks =
        map_alike (chunk_for v all) (chunk_at (bytes_in (held v w))) Block
        (each_from (λ h. chunk_for v all h ≡ chunk_at (bytes_in (held v w)) h) Block
        (λ h one. ap (λ x. chunk_at (bytes_in (held v x)) h) (file_is h one)))
        ∙ chunks_of_heads chunk_limit n (bytes_in (held v w))

    next_count : n + 1 ≡ length (front ++ w ∷ [])
    next_count = let size = length-append front (w ∷ []) in omega (arith, count, size)

    next_split : all ≡ (front ++ w ∷ []) ++ ws
    next_split = split ∙ sym (append_assoc front (w ∷ []) ws)

  pub suffix_chunks : (n : ℕ) (front ws : List (List ℕ)) → n ≡ length front → all ≡ front ++ ws
      → map (chunk_for v all) (heads_of v n ws) ≡ found_in v ws
  suffix_chunks n front [] count split = refl
  suffix_chunks n front (w ∷ ws) count split =
      map-append (chunk_for v all) (heads_in chunk_limit n (bytes_in (held v w)))
      (heads_of v (n + 1) ws)
      ∙ ap₂ (λ x y. x ++ y) (block_chunks n front w ws count split)
      (suffix_chunks (n + 1) (front ++ w ∷ []) ws (next_count n front w ws count split)
      (next_split n front w ws count split))

  pub suffix_files : (some : List (List ℕ)) (n : ℕ) (front ws : List (List ℕ)) → n ≡ length front
      → all ≡ front ++ ws → ((w : List ℕ) → Contains ws w → Contains some w)
      → Each (λ (h : Head). Contains some (file_at all h.file)) (heads_of v n ws)
  suffix_files some n front [] count split of = tt
  suffix_files some n front (w ∷ ws) count split of =
      each_append (λ (h : Head). Contains some (file_at all h.file))
      (heads_in chunk_limit n (bytes_in (held v w))) (heads_of v (n + 1) ws)
      (each_from (λ (h : Head). Contains some (file_at all h.file))
      (heads_in chunk_limit n (bytes_in (held v w)))
      (λ h one. subst (Contains some) (sym (file_is n front w ws count split h one))
      (of w (0, omega arith, refl))))
      (suffix_files some (n + 1) (front ++ w ∷ []) ws (next_count n front w ws count split)
      (next_split n front w ws count split) (λ x one. of x (later_one w ws x one)))
