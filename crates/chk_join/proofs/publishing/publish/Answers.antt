use Rattle.chk_site.proofs.Leads.{leads_none}
use Rattle.chk_join.proofs.BookMay.{told_published}
use Rattle.std.proofs.Common.{subst}
use Rattle.std.specs.Prelude.{codes}
use Rattle.chk_site.specs.Runs.{MadeInTurn}
use Rattle.chk_replace.specs.Replace.{replacement}
use Rattle.chk_world.specs.Books.{book_bytes, written_version}
use Rattle.chk_book.specs.Books.{book_view}
use Rattle.chk_book.specs.Folders.{book_name}
use Rattle.chk_book.specs.Publishing.{site_result}
use Rattle.chk_join_sources.proofs.Segment.{joined_folder as joined_is_folder}
use Rattle.chk_join.proofs.Published.{published_so, not_spelled, publish_works}
use Rattle.chk_archive_parts.specs.Publishing.{ReplacesBookOf}
use Rattle.chk_archive_parts.proofs.Works.{works_memory}
use Rattle.chk_join.proofs.publishing.publish.Goals as goal

pub publish-requires-clause-folder : goal.publish-requires-clause-folder
publish-requires-clause-folder g c = joined_is_folder

pub returns-clause-raw : goal.returns-clause-raw
returns-clause-raw g c f settled =
    let b = book_view c.args.book.now in
    published_so f b (c.can_be_spelled.ensures c.if-not-can_be_spelled.false) settled c.publish.result
    (subst (λ who. MadeInTurn (replacement who (book_name (codes "joined")) (book_bytes (written_version b) b))
    (site_result c.publish.result) (g.S.Site.told c.args.site.now) (g.S.Site.told c.publish.new.site))
    c.requires.job c.publish.ensures.told)

pub returns-clause-works : goal.returns-clause-works
returns-clause-works g c =
    let b = book_view c.args.book.now in
    publish_works (book_bytes (written_version b) b) c.publish.result
    (subst (λ who. MadeInTurn (replacement who (book_name (codes "joined")) (book_bytes (written_version b) b))
    (site_result c.publish.result) (g.S.Site.told c.args.site.now) (g.S.Site.told c.publish.new.site))
    c.requires.job c.publish.ensures.told) c.publish.ensures.last

pub returns-then-not-can_be_spelled-clause-raw : goal.returns-then-not-can_be_spelled-clause-raw
returns-then-not-can_be_spelled-clause-raw g c f settled =
    not_spelled f (book_view c.args.book.now) (g.S.Site.told c.args.site.now)

pub returns-then-not-can_be_spelled-clause-works : goal.returns-then-not-can_be_spelled-clause-works
returns-then-not-can_be_spelled-clause-works g c =
    works_memory (Unit {0}) (ReplacesBookOf (codes "joined")) (g.S.Site.told c.args.site.now)

pub returns-clause-told : goal.returns-clause-told
returns-clause-told g c stamped =
    let b = book_view c.args.book.now in
    told_published stamped b (c.can_be_spelled.ensures c.if-not-can_be_spelled.false) c.publish.result
    (subst (λ who. MadeInTurn (replacement who (book_name (codes "joined")) (book_bytes (written_version b) b))
    (site_result c.publish.result) (g.S.Site.told c.args.site.now) (g.S.Site.told c.publish.new.site))
    c.requires.job c.publish.ensures.told)

pub returns-then-not-can_be_spelled-clause-told : goal.returns-then-not-can_be_spelled-clause-told
returns-then-not-can_be_spelled-clause-told g c stamped =
    leads_none (g.S.Site.told c.args.site.now) (λ h k. k.legal)
