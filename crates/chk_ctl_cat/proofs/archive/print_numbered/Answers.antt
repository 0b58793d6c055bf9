use Rattle.std.proofs.Common.{refl, subst, ◌∙◌, Err, List, ℕ}
use Rattle.std.proofs.lemmas.Result.{err_from_is_err_and}
use Rattle.chk_site.specs.Site.{Adds}
use Rattle.chk_site.proofs.Runs.{adds_none}
use Rattle.chk_book.specs.Folders.{segment_name}
use Rattle.chk_ctl_cat.specs.declared.fault.LookFault.TheVariants.{NoMemory}
use Rattle.chk_ctl_cat.specs.Faults.{FailsLast}
use Rattle.chk_ctl_cat.specs.Looking.{Sees}
use Rattle.chk_ctl_cat.specs.Segments.{Printed}
use Rattle.chk_ctl_cat.proofs.CourseLemmas.{keeps_self}
use Rattle.chk_ctl_cat.proofs.ArchiveLemmas.{unnamed}
use Rattle.chk_ctl_cat.proofs.archive.print_numbered.Goals as goal

pub returns-in_err-name : goal.returns-in_err-name
returns-in_err-name g c =
    let p = err_from_is_err_and c.from_residual.result c.from_residual.ensures.1 in
    rw (p.1, p.2)
    (record {
      told = unnamed (g.S.Site.told c.args.site.now) c.args.most (segment_name c.args.folder.now c.args.segment.now.number) c.args.course.now;
      keeps = keeps_self c.args.course.now;
      last = adds_none (g.S.Site.told c.args.site.now) (FailsLast {T = Unit {0}} (Err NoMemory)) (λ history. tt);
      cause = refl;
    })

pub returns-clause-told : goal.returns-clause-told
returns-clause-told g c =
    subst (λ (n : List ℕ). Adds (g.S.Site.told c.args.site.now) (g.S.Site.told c.print_segment.new.site)
    (Sees (Printed c.args.most n c.args.course.now c.print_segment.new.course c.print_segment.result)))
    (c.as_str.ensures.text ∙ c.in_ok-name.ensures) c.print_segment.ensures.told
