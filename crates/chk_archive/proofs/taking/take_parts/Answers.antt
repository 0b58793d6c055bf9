use Rattle.std.proofs.Common.{◌≡◌, [], ap, refl, sym, subst}
use Rattle.chk_site.proofs.Leads.{leads_none, leads_as}
use Rattle.chk_world.specs.JobSteps.{ReadsOrWrites}
use Rattle.std.specs.Prelude.{codes}
use Rattle.chk_book.specs.Books.{book_view}
use Rattle.chk_book.specs.Folders.{segment_name}
use Rattle.chk_archive_parts.specs.Cuts.{cut_chunks}
use Rattle.chk_archive_parts.proofs.StepKinds.{as_kind}
use Rattle.chk_archive.specs.Archived.{MergesBy}
use Rattle.chk_archive.specs.Shown.{IsAtLast}
use Rattle.chk_archive.specs.Taking.{HasParts}
use Rattle.chk_archive.proofs.SpentCauses.{spent_by_book, some_there, no_number, parts_number}
use Rattle.chk_archive.proofs.Preparing.{none_taken, parts_taken, cuts_some, of_merge, empty}
use Rattle.chk_archive.proofs.taking.take_parts.Goals as goal

pub returns-then-is_empty-clause-told : goal.returns-then-is_empty-clause-told
returns-then-is_empty-clause-told g c stamped v cs records book free =
    let b = book_view c.args.book.now in
    let parts = cut_chunks cs c.args.cuts.now in
    leads_none (g.S.Site.told c.args.site.now)
    (λ h k. record {
      legal = k.legal;
      may_act = k.may_act;
      alive = λ runs. subst (HasParts v b b parts) (sym (k.alive runs))
          (none_taken v b parts (ap (cut_chunks cs) (empty c.args.cuts.now c.if-is_empty.ensures)));
    })

pub returns-clause-told : goal.returns-clause-told
returns-clause-told g c stamped v cs records book free =
    leads_as (λ h k. k)
    (λ h k. parts_taken stamped v (book_view c.args.book.now) (book_view c.add_segment.new.book) book
    (cut_chunks cs c.args.cuts.now) c.add_segment.result c.add_segment.ensures.spent
    (cuts_some cs c.args.cuts.now c.if-is_empty.ensures) h k)
    (c.add_segment.ensures.told stamped v cs records free)

pub returns-clause-own : goal.returns-clause-own
returns-clause-own g c =
    let n = (book_view c.args.book.now).next in
    as_kind (ReadsOrWrites (segment_name (codes "archive") n)) MergesBy (of_merge n) c.add_segment.ensures.own

pub returns-clause-spent : goal.returns-clause-spent
returns-clause-spent g c =
    let b = book_view c.args.book.now in
    let cuts = c.args.cuts.now in
    spent_by_book b ((cuts ≡ [] → ⊥) × IsAtLast b) (λ x. (some_there cuts c.if-is_empty.ensures, x))
    c.add_segment.result
    c.add_segment.ensures.spent

pub returns-then-is_empty-clause-next : goal.returns-then-is_empty-clause-next
returns-then-is_empty-clause-next g c =
    no_number (book_view c.args.book.now).next c.args.cuts.now
    (empty c.args.cuts.now c.if-is_empty.ensures)

pub returns-clause-next : goal.returns-clause-next
returns-clause-next g c =
    parts_number c.add_segment.result (book_view c.args.book.now).next
    (book_view c.add_segment.new.book).next c.args.cuts.now
    (some_there c.args.cuts.now c.if-is_empty.ensures) c.add_segment.ensures.next

pub returns-clause-aside : goal.returns-clause-aside
returns-clause-aside g c = c.add_segment.ensures.aside refl
