use Rattle.std.proofs.Common.{subst}
use Rattle.chk_site.specs.Runs.{MadeInTurn}
use Rattle.chk_replace.specs.Replace.{replacement}
use Rattle.chk_world.specs.Books.{book_bytes, written_version}
use Rattle.chk_book.specs.Books.{book_view}
use Rattle.chk_book.specs.Folders.{book_name}
use Rattle.chk_archive_parts.proofs.Published.{published, publishes}
use Rattle.chk_archive_parts.proofs.publishing.publish_next.Goals as goal

pub returns-clause-told : goal.returns-clause-told
returns-clause-told g c stamped f v is may =
    let b = book_view c.args.book.now in
    let old = g.S.Site.told c.args.site.now in
    let new = g.S.Site.told c.write.new.site in
    let text = c.args.folder.now in
    published stamped f v b may (c.can_be_spelled.ensures c.if-not-can_be_spelled.false) text is
    (subst (λ who. MadeInTurn (replacement who (book_name text) (book_bytes (written_version b) b))
    c.write.result old new) c.requires.job c.write.ensures.told)

pub returns-clause-own : goal.returns-clause-own
returns-clause-own g c =
    let b = book_view c.args.book.now in
    let old = g.S.Site.told c.args.site.now in
    let new = g.S.Site.told c.write.new.site in
    let text = c.args.folder.now in
    publishes text (book_bytes (written_version b) b)
    (subst (λ who. MadeInTurn (replacement who (book_name text) (book_bytes (written_version b) b))
    c.write.result old new) c.requires.job c.write.ensures.told)
