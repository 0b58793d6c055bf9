use Rattle.std.proofs.Common.{◌≡◌, ◌∙◌, [], ap, sym, subst, true, false, true≢false, None, Ok, Err}
use Rattle.std.specs.Prelude.{codes}
use Rattle.std.proofs.lemmas.Result.{err_from_is_err_and}
use Rattle.chk_site.proofs.Leads.{leads_none, leads_as}
use Rattle.chk_world.specs.Books.{Book}
use Rattle.chk_world.specs.JobSteps.{ReadsOrWrites}
use Rattle.chk_book.specs.Books.{book_view}
use Rattle.chk_book.specs.Folders.{segment_name}
use Rattle.chk_archive_parts.specs.Cuts.{cut_chunks}
use Rattle.chk_archive_parts.proofs.StepKinds.{as_kind}
use Rattle.chk_archive.specs.Archived.{MergesBy}
use Rattle.chk_archive.specs.Shown.{IsAtLast}
use Rattle.chk_archive.proofs.SpentCauses.{spent_as, spent_book, some_there}
use Rattle.chk_archive.specs.Taking.{HasAside, AsideKept, stays_aside}
use Rattle.chk_archive.proofs.Preparing.{aside_stays, aside_goes, aside_written, aside_fails, cuts_some, of_merge, empty}
use Rattle.chk_archive.proofs.taking.keep_aside.Goals as goal

pub returns-then-stays-clause-told : goal.returns-then-stays-clause-told
returns-then-stays-clause-told g c stamped v cs records free whole =
    let b = book_view c.args.book.now in
    let kept = cut_chunks cs c.args.kept.now in
    leads_none (g.S.Site.told c.args.site.now)
    (λ h k. record {
      legal = k.legal;
      may_act = k.may_act;
      alive = λ runs. subst (HasAside v b b kept (stays_aside b c.args.heads.now c.args.old c.args.kept.now) false) (sym (k.alive runs))
          (subst (λ x. HasAside v b b kept x false v) (sym (sym c.stays.ensures ∙ c.if-stays.true))
          (aside_stays v b c.args.heads.now c.args.old cs c.args.kept.now
          (sym c.stays.ensures ∙ c.if-stays.true) whole));
    })

pub returns-then-is_empty-clause-told : goal.returns-then-is_empty-clause-told
returns-then-is_empty-clause-told g c stamped v cs records free whole =
    let b = book_view c.args.book.now in
    let kept = cut_chunks cs c.args.kept.now in
    let after : Book = record { next = b.next; segments = b.segments; ends = b.ends; aside = None } in
    leads_none (g.S.Site.told c.args.site.now)
    (λ h k. record {
      legal = k.legal;
      may_act = k.may_act;
      alive = λ runs. subst (HasAside v b after kept (stays_aside b c.args.heads.now c.args.old c.args.kept.now) true) (sym (k.alive runs))
          (subst (λ x. HasAside v b after kept x true v) (sym (sym c.stays.ensures ∙ c.if-stays.false))
          (aside_goes v b kept (ap (cut_chunks cs) (empty c.args.kept.now c.if-is_empty.ensures))));
    })

pub returns-in_err-add_segment-clause-told : goal.returns-in_err-add_segment-clause-told
returns-in_err-add_segment-clause-told g c stamped v cs records free whole =
    let p = err_from_is_err_and c.from_residual.result c.from_residual.ensures.1 in
    rw (p.1, p.2)
    (leads_as (λ h k. k)
    (λ h k. subst (λ x. AsideKept stamped v (book_view c.args.book.now) (book_view c.add_segment.new.book)
    (cut_chunks cs c.args.kept.now) x (Err c.in_err-add_segment.field-0.0) h) (sym (sym c.stays.ensures ∙ c.if-stays.false))
    (aside_fails stamped v (book_view c.args.book.now) (book_view c.add_segment.new.book)
    (cut_chunks cs c.args.kept.now) (cuts_some cs c.args.kept.now c.if-is_empty.ensures)
    c.in_err-add_segment.field-0.0 c.in_err-add_segment.ensures.spent h k))
    (c.in_err-add_segment.ensures.told stamped v cs records free))

pub returns-in_err-add_segment-clause-own : goal.returns-in_err-add_segment-clause-own
returns-in_err-add_segment-clause-own g c =
    let n = (book_view c.args.book.now).next in
    as_kind (ReadsOrWrites (segment_name (codes "archive") n)) MergesBy (of_merge n) c.add_segment.ensures.own

pub returns-clause-told : goal.returns-clause-told
returns-clause-told g c stamped v cs records free whole =
    leads_as (λ h k. k)
    (λ h k. subst (λ x. AsideKept stamped v (book_view c.args.book.now) (book_view c.add_segment.new.book)
    (cut_chunks cs c.args.kept.now) x (Ok true) h) (sym (sym c.stays.ensures ∙ c.if-stays.false))
    (aside_written stamped v (book_view c.args.book.now) (book_view c.add_segment.new.book)
    (cut_chunks cs c.args.kept.now) (cuts_some cs c.args.kept.now c.if-is_empty.ensures)
    c.in_ok-add_segment.field-0 h k))
    (c.in_ok-add_segment.ensures.told stamped v cs records free)

pub returns-clause-own : goal.returns-clause-own
returns-clause-own g c =
    let n = (book_view c.args.book.now).next in
    as_kind (ReadsOrWrites (segment_name (codes "archive") n)) MergesBy (of_merge n) c.add_segment.ensures.own

pub returns-then-is_empty-clause-stays : goal.returns-then-is_empty-clause-stays
returns-then-is_empty-clause-stays g c = λ yes. absurd (true≢false (sym yes ∙ (sym c.stays.ensures ∙ c.if-stays.false)))

pub returns-in_err-add_segment-clause-stays : goal.returns-in_err-add_segment-clause-stays
returns-in_err-add_segment-clause-stays g c = λ yes. absurd (true≢false (sym yes ∙ (sym c.stays.ensures ∙ c.if-stays.false)))

pub returns-clause-stays : goal.returns-clause-stays
returns-clause-stays g c = λ yes. absurd (true≢false (sym yes ∙ (sym c.stays.ensures ∙ c.if-stays.false)))

pub returns-in_err-add_segment-clause-spent : goal.returns-in_err-add_segment-clause-spent
returns-in_err-add_segment-clause-spent g c =
    let q = err_from_is_err_and c.from_residual.result c.from_residual.ensures.1 in
    let b = book_view c.args.book.now in
    let kept = c.args.kept.now in
    rw (q.1, q.2)
    (spent_as (IsAtLast b) ((kept ≡ [] → ⊥)
    × (stays_aside b c.args.heads.now c.args.old kept ≡ false) × IsAtLast b)
    (λ x. (some_there kept c.if-is_empty.ensures, sym c.stays.ensures ∙ c.if-stays.false, x))
    c.in_err-add_segment.field-0.0
    (spent_book (Unit {0}) b c.in_err-add_segment.field-0.0 c.in_err-add_segment.ensures.spent))
