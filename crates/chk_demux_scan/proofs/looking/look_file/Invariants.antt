use Rattle.std.proofs.Common.{◌≡◌, ◌-◌, ◌^◌, List, [], length, map}
use Rattle.std.specs.Prelude.{IsTrue}
use Rattle.chk_site.specs.History.{Every}
use Rattle.chk_site.specs.Site.{Adds}
use Rattle.chk_chunk.specs.Keys.{chunk_limit}
use Rattle.chk_world.specs.Books.{ends_rise}
use Rattle.chk_world.specs.JobSteps.{IsOf, ReadsFile}
use Rattle.chk_record_index.specs.Heads.{Head}
use Rattle.chk_record_index.specs.Pieces.{AsksInPieces}
use Rattle.chk_record_index.proofs.Gathering.{IsGathered}
use Rattle.chk_book.specs.Views.{end_view}
use Rattle.chk_demux_scan.specs.Looking.{LooksOn}
use Rattle.chk_demux_scan.proofs.looking.look_file.Given as goal

abbrev pub invariant-loop-pieces : goal.invariant-loop-pieces
invariant-loop-pieces g l = record {
  seen : List Head;
  so : IsGathered (g.S.Site.told l.fn.site) (g.S.Site.told l.site) l.name chunk_limit l.file
      l.pieces l.at [] seen;
  looks : IsTrue (ends_rise (map end_view l.ends))
      → LooksOn (map end_view l.ends) l.places seen l.fn.heads l.heads l.look;
  same : length l.look.spans.items ≡ length l.ends;
  own : Adds (g.S.Site.told l.fn.site) (g.S.Site.told l.site) (Every (IsOf ReadsFile));
  pieces : Adds (g.S.Site.told l.fn.site) (g.S.Site.told l.site) (Every AsksInPieces);
  count : g.S.Site.fault_count l.site ≡ g.S.Site.fault_count l.fn.site;
}

abbrev pub decreases-loop-pieces : goal.decreases-loop-pieces
decreases-loop-pieces g l = 2 ^ 64 - l.at
