use Rattle.std.proofs.Common.{◌≡◌, ◌-◌, ◌^◌}
use Rattle.chk_site.specs.History.{Every}
use Rattle.chk_site.specs.Site.{Adds}
use Rattle.chk_world.specs.Sight.{job}
use Rattle.chk_world.specs.JobSteps.{IsOf, ReadsFile}
use Rattle.chk_record_index.specs.Pieces.{AsksInPieces}
use Rattle.chk_record_index.proofs.Gathering.{IsGathered}
use Rattle.chk_record_index.proofs.gather.Heads.gather_file.Given as goal

abbrev pub invariant-loop-pieces : goal.invariant-loop-pieces
invariant-loop-pieces g l = record {
  so : IsGathered (g.S.Site.told l.fn.site) (g.S.Site.told l.site) l.name l.most l.file l.pieces l.at l.fn.self l.self;
  own : l.who ≡ job → Adds (g.S.Site.told l.fn.site) (g.S.Site.told l.site) (Every (IsOf ReadsFile));
  pieces : Adds (g.S.Site.told l.fn.site) (g.S.Site.told l.site) (Every AsksInPieces);
  count : g.S.Site.fault_count l.site ≡ g.S.Site.fault_count l.fn.site;
}

abbrev pub decreases-loop-pieces : goal.decreases-loop-pieces
decreases-loop-pieces g l = 2 ^ 64 - l.at
