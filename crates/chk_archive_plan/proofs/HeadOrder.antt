-- Heads in order are those of the chunks in order.
use Rattle.std.proofs.Common.{◌≡◌, Bool, true, false, List, [], ◌∷◌, ap, sym, subst, ◌∙◌, refl}
use Rattle.std.specs.List.{AllZip}
use Rattle.chk_chunk.specs.Keys.{Chunk, chunk_begin}
use Rattle.chk_world.specs.ArchiveRuns.{comes_before, put_in, in_order}
use Rattle.chk_record_index.specs.Heads.{Head}
use Rattle.chk_record_index.specs.Order.{head_before, put_by, sort_by}
use Rattle.chk_archive_plan.specs.HeadsOf.{IsHeadOf, AreHeads}

-- they compare as their chunks do
pub compares : (h k : Head) (c d : Chunk) → IsHeadOf h c → IsHeadOf k d → head_before h k
    ≡ comes_before c d
compares h k c d p q =
    let one : head_before h k ≡ head_before
    (record { key = c.key; begin = chunk_begin c; file = h.file; at = h.at }) k =
    ap (λ (l : Head). head_before l k)
    (λ i. record { key = p.key i; begin = p.begin i; file = h.file; at = h.at }) in
    one ∙ ap (λ (l : Head). head_before
    (record { key = c.key; begin = chunk_begin c; file = h.file; at = h.at }) l)
    (λ i. record { key = q.key i; begin = q.begin i; file = k.file; at = k.at })

-- what ties heads to chunks, and says that they are those of the chunks, ties them in order
module _ (R : Head → Chunk → Type 0) (of : (h : Head) (c : Chunk) → R h c → IsHeadOf h c) where
  ties_put : (h : Head) (c : Chunk) (hs : List Head) (cs : List Chunk) → R h c
      → AllZip R hs cs → AllZip R (put_by head_before h hs) (put_in c cs)
  ties_put h c [] [] p all = (p, tt)
  ties_put h c [] (d ∷ cs) p all = absurd all
  ties_put h c (k ∷ hs) [] p all = absurd all
  ties_put h c (k ∷ hs) (d ∷ cs) p all = go (head_before k h) refl (ties_put h c hs cs p all.1)
    where
      go : (b : Bool) → head_before k h ≡ b → AllZip R (put_by head_before h hs) (put_in c cs)
          → AllZip R (elim b [ true ↦ k ∷ put_by head_before h hs | false ↦ h ∷ k ∷ hs ])
          (elim (comes_before d c) [ true ↦ d ∷ put_in c cs | false ↦ c ∷ d ∷ cs ])
      go true e rest =
          subst (λ b. AllZip R (k ∷ put_by head_before h hs)
          (elim b [ true ↦ d ∷ put_in c cs | false ↦ c ∷ d ∷ cs ]))
          (sym e ∙ compares k h d c (of k d all.0) (of h c p)) (all.0, rest)
      go false e rest =
          subst (λ b. AllZip R (h ∷ k ∷ hs)
          (elim b [ true ↦ d ∷ put_in c cs | false ↦ c ∷ d ∷ cs ]))
          (sym e ∙ compares k h d c (of k d all.0) (of h c p)) (p, (all.0, all.1))

  pub ties_sort : (hs : List Head) (cs : List Chunk) → AllZip R hs cs
      → AllZip R (sort_by head_before hs) (in_order cs)
  ties_sort [] [] all = tt
  ties_sort [] (c ∷ cs) all = absurd all
  ties_sort (h ∷ hs) [] all = absurd all
  ties_sort (h ∷ hs) (c ∷ cs) all =
      ties_put h c (sort_by head_before hs) (in_order cs) all.0 (ties_sort hs cs all.1)

pub heads_sort : (hs : List Head) (cs : List Chunk) → AreHeads hs cs → AreHeads
    (sort_by head_before hs) (in_order cs)
heads_sort hs cs all = ties_sort IsHeadOf (λ h c p. p) hs cs all
