use Rattle.std.proofs.Common.{◌≡◌, take}
use Rattle.chk_site.specs.Site.{Adds}
use Rattle.chk_ctl_cat.specs.Courses.{KeepsCourse}
use Rattle.chk_ctl_cat.specs.Looking.{Sees}
use Rattle.chk_ctl_cat.proofs.ArchiveLemmas.{CameOver, names_in}
use Rattle.chk_ctl_cat.proofs.archive.print_archive.Given as goal

abbrev pub invariant-loop-segment : goal.invariant-loop-segment
invariant-loop-segment g l = record {
  so : Adds (g.S.Site.told l.fn.site) (g.S.Site.told l.site)
      (Sees (CameOver l.most (names_in l.folder l.segment-items) l.fn.course l.course (names_in l.folder (take l.segment-index l.segment-items))));
  keeps : KeepsCourse l.fn.course l.course;
  count : g.S.Site.fault_count l.site ≡ g.S.Site.fault_count l.fn.site;
}
