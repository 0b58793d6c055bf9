use Rattle.std.proofs.Common.{refl, ap, subst, ◌∙◌, Err, List, take}
use Rattle.std.proofs.lemmas.Result.{err_from_is_err_and}
use Rattle.std.proofs.lemmas.List.{take_all}
use Rattle.chk_site.specs.Site.{Adds}
use Rattle.chk_book.specs.declared.lists.Segment.{Segment as SegmentStruct}
use Rattle.chk_ctl_cat.specs.Archives.{PrintedAll}
use Rattle.chk_ctl_cat.specs.Looking.{Sees}
use Rattle.chk_ctl_cat.proofs.CourseLemmas.{keeps_self, keeps_then}
use Rattle.chk_ctl_cat.proofs.ArchiveLemmas.{CameOver, none_over, next_over, next_failed, all_over, names_in}
use Rattle.chk_ctl_cat.proofs.SegmentLemmas.{looks_last, looks_cause}
use Rattle.chk_ctl_cat.proofs.archive.print_archive.Goals as goal

pub loop-segment-init : goal.loop-segment-init
loop-segment-init g c = record {
  so = none_over (g.S.Site.told c.args.site.now) c.args.most (names_in c.args.folder.now c.as_slice-segment-items.result.now) c.args.course.now;
  keeps = keeps_self c.args.course.now;
  count = refl;
}

pub loop-segment-preserved : goal.loop-segment-preserved
loop-segment-preserved g c =
    let l = c.loop-segment in
    record {
      so = next_over c.args.most c.args.folder.now c.as_slice-segment-items.result.now c.args.course.now l.course l.segment-index
          c.loop-segment-test.true l.invariant.keeps _ c.print_numbered.new.course l.invariant.so c.in_ok-print_numbered.ensures.told;
      keeps = keeps_then c.args.course.now l.course c.print_numbered.new.course l.invariant.keeps c.print_numbered.ensures.keeps;
      count = c.in_ok-print_numbered.ensures.cause ∙ l.invariant.count;
    }

pub returns-in_err-print_numbered : goal.returns-in_err-print_numbered
returns-in_err-print_numbered g c =
    let l = c.loop-segment in
    let fault = c.in_err-print_numbered.field-0.0 in
    let p = err_from_is_err_and c.from_residual.result c.from_residual.ensures.1 in
    rw (p.1, p.2)
    (record {
      told =
          subst (λ (gs : List SegmentStruct). Adds (g.S.Site.told c.args.site.now) (g.S.Site.told c.print_numbered.new.site)
          (Sees (PrintedAll c.args.most (names_in c.args.folder.now gs) c.args.course.now c.print_numbered.new.course (Err fault))))
          c.as_slice-segment-items.ensures
          (next_failed c.args.most c.args.folder.now c.as_slice-segment-items.result.now c.args.course.now l.course l.segment-index
          c.loop-segment-test.true l.invariant.keeps _ c.print_numbered.new.course fault l.invariant.so c.in_err-print_numbered.ensures.told);
      keeps = keeps_then c.args.course.now l.course c.print_numbered.new.course l.invariant.keeps c.print_numbered.ensures.keeps;
      last = looks_last (Unit {0}) (Unit {0}) fault l.invariant.so c.in_err-print_numbered.ensures.last;
      cause = looks_cause (Unit {0}) (Unit {0}) fault (g.S.Site.fault_count c.args.site.now) (g.S.Site.fault_count l.site)
          (g.S.Site.fault_count c.print_numbered.new.site) l.invariant.count c.in_err-print_numbered.ensures.cause;
    })

pub returns-clause-told : goal.returns-clause-told
returns-clause-told g c =
    let l = c.loop-segment in
    let gs = c.as_slice-segment-items.result.now in
    all_over c.args.most (names_in c.args.folder.now c.args.book.now.segments) c.args.course.now l.course
    (names_in c.args.folder.now (take l.segment-index gs))
    (ap (names_in c.args.folder.now) (take_all l.segment-index gs c.loop-segment-test.false ∙ c.as_slice-segment-items.ensures))
    (subst (λ (hs : List SegmentStruct). Adds (g.S.Site.told c.args.site.now) (g.S.Site.told l.site)
    (Sees (CameOver c.args.most (names_in c.args.folder.now hs) c.args.course.now l.course (names_in c.args.folder.now (take l.segment-index gs)))))
    c.as_slice-segment-items.ensures l.invariant.so)
