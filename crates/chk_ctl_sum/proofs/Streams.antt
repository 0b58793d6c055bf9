-- The bytes of a stream's records, in order, are its archive.
use Rattle.std.proofs.Common.{◌≡◌, ℕ, ◌-◌, arith, List, [], ◌∷◌, drop, map, refl, ap, ap₂, sym, subst, ◌∙◌}
use Rattle.chk_site.specs.Files.{Files}
use Rattle.chk_chunk.specs.Keys.{Stream, Chunk}
use Rattle.chk_world.specs.Books.{Book, End, chunks_of_stream, values}
use Rattle.chk_world.proofs.Each.{Each}
use Rattle.chk_record_index.specs.Heads.{Head}
use Rattle.chk_record_index.specs.Order.{head_before, in_head_order}
use Rattle.chk_book.specs.Folders.{most_in}
use Rattle.chk_book.specs.Views.{end_view}
use Rattle.chk_book.specs.declared.lists.End.{End as EndStruct}
use Rattle.chk_record_reader.specs.Segments.{names_of, heads_from, chunks_in_files}
use Rattle.chk_record_reader.specs.Checking.{AllGoWell}
use Rattle.chk_record_reader.specs.Archives.{IsKnown, chunk_in, values_in}
use Rattle.chk_record_reader.proofs.AllRead.{known_from}
use Rattle.chk_record_reader.proofs.Joining.{chunks_from, values_of}
use Rattle.chk_record_reader.proofs.SortedStream.{each_sort}
use Rattle.chk_join_sources.specs.declared.gathering.Side.{Side}
use Rattle.chk_join_sources.specs.Blocks.{StreamsRise}
use Rattle.chk_join_sources.specs.Reading.{AreAmong}
use Rattle.chk_join_sources.specs.Comparing.{IsSide}
use Rattle.sha2.specs.Sha256.{sha256}
use Rattle.chk_ctl_sum.specs.declared.rests.Rest.{Rest}
use Rattle.chk_ctl_sum.specs.Rests.{end_of, skip_of}
use Rattle.chk_ctl_sum.specs.Summing.{bytes_of, digest_of}
use Rattle.chk_ctl_sum.specs.Sums.{archived, archived_from, rest_digests}
use Rattle.chk_ctl_sum.proofs.InOrder.{heads_rise, order_keeps}
use Rattle.chk_record_reader.proofs.HeadStreams.{chunks_of_heads}

module _ (folder : List ℕ) (b : Book) (held : Files) (side : Side)
    (names_are : side.names.now ≡ names_of folder b)
    (heads_are : side.heads.now
    ≡ in_head_order (heads_from (most_in folder) held 0 (names_of folder b))) where
  abbrev Names : List (List ℕ)
  Names = names_of folder b

  abbrev Hs : List Head
  Hs = heads_from (most_in folder) held 0 Names

  abbrev F : Head → Chunk
  F = chunk_in Names held

  pub is_side : IsSide (most_in folder) Names held side
  is_side = record {
    among = subst (AreAmong Names) (sym names_are) (λ w one. one);
    known = subst (λ ns. Each (IsKnown (most_in folder) ns held) side.heads.now) (sym names_are)
        (subst (Each (IsKnown (most_in folder) Names held)) (sym heads_are)
        (each_sort (IsKnown (most_in folder) Names held) head_before Hs
        (known_from (most_in folder) Names held 0 [] Names refl refl)));
  }

  pub side_rises : StreamsRise side.heads.now
  side_rises = subst StreamsRise (sym heads_are) (heads_rise Hs)

  module _ (well : AllGoWell b.ends Hs) where
    ordered : (s : Stream) → chunks_of_stream s (map F (in_head_order Hs))
        ≡ chunks_of_stream s (chunks_in_files (most_in folder) held Names)
    ordered s =
        chunks_of_heads s F (in_head_order Hs) (λ h. refl)
        ∙ (ap (map F) (order_keeps s b.ends (most_in folder) held Names (well s))
        ∙ (sym (chunks_of_heads s F Hs (λ h. refl))
        ∙ ap (chunks_of_stream s) (chunks_from (most_in folder) Names held 0 [] Names refl refl)))

    stream_bytes : (s : Stream) → bytes_of side held s ≡ archived folder b held s
    stream_bytes s =
        ap (λ ns. values_in s ns held side.heads.now) names_are
        ∙ (ap (values_in s Names held) heads_are
        ∙ (values_of s Names held (in_head_order Hs) ∙ ap values (ordered s)))

    -- and so are the digests
    pub digests_same : (rests : List Rest)
        → map (digest_of side held) rests ≡ rest_digests folder b held rests
    digests_same [] = refl
    digests_same (r ∷ rests) =
        ap₂ (λ (x : List ℕ) (l : List (List ℕ)). x ∷ l)
        (ap (λ (bytes : List ℕ). sha256 (drop (skip_of r) bytes)) (stream_bytes (end_of r).stream))
        (digests_same rests)

-- each stream from its start on
whole_digest : (folder : List ℕ) (b : Book) (held : Files) (r : Rest)
    → r.begin ≡ r.end.now.start
    → sha256 (archived_from folder b held r) ≡ sha256 (archived folder b held (end_of r).stream)
whole_digest folder b held r is =
    ap (λ (k : ℕ). sha256 (drop k (archived folder b held (end_of r).stream)))
    (let z : r.begin - r.end.now.start ≡ 0 = omega (arith, is) in z)

heads_tails : {X : Type 0} (x y : X) (xs ys : List X) → x ∷ xs ≡ y ∷ ys → (x ≡ y) × (xs ≡ ys)
heads_tails x y xs ys h = (cc, cc)

pub whole_digests : (folder : List ℕ) (b : Book) (held : Files) (rests : List Rest)
    (ends : List EndStruct) → map (λ (r : Rest). r.end.now) rests ≡ ends
    → map (λ (r : Rest). r.begin) rests ≡ map (λ (e : EndStruct). e.start) ends
    → rest_digests folder b held rests
    ≡ map (λ (e : End). sha256 (archived folder b held e.stream)) (map end_view ends)
whole_digests folder b held [] [] es is = refl
whole_digests folder b held [] (e ∷ ends) es is =
    absurd (let x : [] ≡ e ∷ ends = es in cc)
whole_digests folder b held (r ∷ rests) [] es is =
    absurd (let x : r.end.now ∷ map (λ (q : Rest). q.end.now) rests ≡ [] = es in cc)
whole_digests folder b held (r ∷ rests) (e ∷ ends) es is =
    let p = heads_tails r.end.now e (map (λ (q : Rest). q.end.now) rests) ends es in
    let q = heads_tails r.begin e.start (map (λ (q : Rest). q.begin) rests)
    (map (λ (e : EndStruct). e.start) ends) is in
    ap₂ (λ (x : List ℕ) (l : List (List ℕ)). x ∷ l)
    (whole_digest folder b held r (q.0 ∙ sym (ap (λ (x : EndStruct). x.start) p.0))
    ∙ ap (λ (x : EndStruct). sha256 (archived folder b held (end_view x).stream)) p.0)
    (whole_digests folder b held rests ends p.1 q.1)
