use Rattle.std.proofs.Common.{refl, sym, subst}
use Rattle.chk_site.proofs.Leads.{leads_none}
use Rattle.chk_book.specs.Books.{book_view}
use Rattle.chk_world.specs.Names.{ArchiveFolder}
use Rattle.chk_archive_parts.specs.Publishing.{IsPublished}
use Rattle.chk_archive_parts.proofs.WholeSegments.{archive_folder}
use Rattle.chk_archive.proofs.TakenIn.{unchanged_book}
use Rattle.chk_archive.proofs.taking.publish_if.Goals as goal

pub publish_next-requires-clause-folder : goal.publish_next-requires-clause-folder
publish_next-requires-clause-folder g c = archive_folder

pub returns-then-changed-clause-told : goal.returns-then-changed-clause-told
returns-then-changed-clause-told g c stamped v may = c.publish_next.ensures.told stamped ArchiveFolder v refl (may.0 c.if-changed.true)

pub returns-clause-told : goal.returns-clause-told
returns-clause-told g c stamped v may =
    let b = book_view c.args.book.now in
    leads_none (g.S.Site.told c.args.site.now)
    (λ h k. record {
      legal = k.legal;
      may_act = k.may_act;
      alive = λ runs. subst (IsPublished ArchiveFolder v b) (sym (k.alive runs)) (unchanged_book v b (may.1 c.if-changed.false));
    })
