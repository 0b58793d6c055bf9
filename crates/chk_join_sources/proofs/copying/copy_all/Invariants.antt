use Rattle.std.proofs.Common.{◌≡◌, ◌≤◌, ◌++◌, ℕ, List, Ok, take}
use Rattle.std.specs.Prelude.{flat_map}
use Rattle.chk_site.specs.Files.{Files}
use Rattle.chk_site.specs.Site.{Adds}
use Rattle.chk_site.specs.Runs.{anyhow, Leads}
use Rattle.chk_chunk.specs.Keys.{Chunk}
use Rattle.chk_record_reader.specs.Segments.{AreSettled}
use Rattle.chk_record_reader.specs.Merging.{SparesBoth, AreApart}
use Rattle.chk_join_sources.specs.Comparing.{IsSide}
use Rattle.chk_join_sources.specs.Copying.{joined_segment, IsForJoined, HasCopied, CanCopyBoth, chosen_chunks, Worked, Copies}
use Rattle.chk_world.specs.JobSteps.{SparesFile}
use Rattle.chk_join_sources.specs.Standing.{StandsSo, HasStood, chosen_heads}
use Rattle.chk_join_sources.proofs.copying.copy_all.Given as goal

abbrev pub invariant-loop-index : goal.invariant-loop-index
invariant-loop-index g l = record {
  so : (most : ℕ) (all : List (List ℕ)) (held : Files) (chunks : List Chunk) → most ≤ 1048576 → AreSettled all held
      → AreApart all (joined_segment l.fn.segmenter.number) → IsSide most all held l.left → IsSide most all held l.right
      → Adds (g.S.Site.told l.fn.site) (g.S.Site.told l.site)
      (Leads (anyhow (SparesBoth all (joined_segment l.fn.segmenter.number))) (HasCopied all held chunks l.fn.segmenter)
      (CanCopyBoth all held l.left l.right
      (chunks ++ flat_map (chosen_chunks l.left l.right held) (take l.index l.choices)) l.readers l.segmenter));
  stood : (chunks : List Chunk) → Adds (g.S.Site.told l.fn.site) (g.S.Site.told l.site)
      (Leads (anyhow (SparesFile (joined_segment l.fn.segmenter.number))) (StandsSo chunks l.fn.segmenter)
      (HasStood chunks (flat_map (chosen_heads l.left l.right) (take l.index l.choices)) l.segmenter (Ok tt)));
  number : l.segmenter.number ≡ l.fn.segmenter.number;
  writer : IsForJoined l.segmenter;
  works : Adds (g.S.Site.told l.fn.site) (g.S.Site.told l.site) (Worked {T = Unit {0}} (Copies l.fn.segmenter.number) (Ok tt));
  count : g.S.Site.fault_count l.site ≡ g.S.Site.fault_count l.fn.site;
}
