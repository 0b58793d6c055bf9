-- The records of a merge are those of the merged files, in order.
use Rattle.std.proofs.Common.{◌≡◌, ℕ, List, [], ◌∷◌, map, ap, sym, ◌∙◌, refl}
use Rattle.std.specs.List.{AllZip}
use Rattle.chk_site.specs.Files.{Files}
use Rattle.chk_chunk.specs.Keys.{Chunk}
use Rattle.chk_world.specs.ArchiveRuns.{in_order}
use Rattle.chk_world.proofs.Each.{Each}
use Rattle.chk_record_index.specs.Heads.{Head}
use Rattle.chk_record_index.specs.Order.{in_head_order}
use Rattle.chk_archive_plan.specs.HeadsOf.{IsHeadOf}
use Rattle.chk_archive_plan.proofs.HeadOrder.{ties_sort}
use Rattle.chk_record_reader.specs.Archives.{chunk_in}
use Rattle.chk_record_reader.specs.Segments.{heads_from, chunks_in_files}
use Rattle.chk_record_reader.proofs.Joining.{BeginsSo, chunks_from, begin_from}

module _ (most : ℕ) (held : Files) (names : List (List ℕ)) where
  abbrev Ties : Head → Chunk → Type 0
  Ties h c = IsHeadOf h c × (c ≡ chunk_in names held h)

  each_tied : (hs : List Head) → Each (BeginsSo names held) hs → AllZip Ties hs (map (chunk_in names held) hs)
  each_tied [] all = tt
  each_tied (h ∷ hs) all = ((record { key = refl; begin = all.0 }, refl), each_tied hs all.1)

  as_tied : (hs : List Head) (cs : List Chunk) → AllZip Ties hs cs → map (chunk_in names held) hs ≡ cs
  as_tied [] [] zip = refl
  as_tied [] (c ∷ cs) zip = absurd zip
  as_tied (h ∷ hs) [] zip = absurd zip
  as_tied (h ∷ hs) (c ∷ cs) zip =
      ap (λ d. d ∷ map (chunk_in names held) hs) (sym zip.0.1) ∙ ap (λ l. c ∷ l) (as_tied hs cs zip.1)

  pub merged_in_order : map (chunk_in names held) (in_head_order (heads_from most held 0 names))
      ≡ in_order (chunks_in_files most held names)
  merged_in_order =
      let hs = heads_from most held 0 names in
      as_tied (in_head_order hs) (in_order (map (chunk_in names held) hs))
      (ties_sort Ties (λ h c p. p.0) hs (map (chunk_in names held) hs)
      (each_tied hs (begin_from most names held 0 [] names refl refl)))
      ∙ ap in_order (chunks_from most names held 0 [] names refl refl)
