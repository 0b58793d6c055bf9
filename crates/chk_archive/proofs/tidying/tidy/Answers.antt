use Rattle.std.proofs.Common.{Ok, Err, [], ap, subst, ◌∙◌}
use Rattle.std.specs.Prelude.{codes}
use Rattle.std.proofs.lemmas.Result.{err_from_is_err_and}
use Rattle.chk_site.specs.Runs.{MadeInTurn}
use Rattle.chk_book.specs.Books.{book_view}
use Rattle.chk_archive.specs.Calling.{removals, Listed}
use Rattle.chk_archive.specs.FolderNames.{strays_in}
use Rattle.chk_archive.specs.Tidying.{HasBook}
use Rattle.chk_archive.proofs.Looking.{not_listed}
use Rattle.chk_archive.proofs.StraysGo.{tidied}
use Rattle.chk_archive.proofs.TidyWorks.{listed_works, tidy_works, only_listed}
use Rattle.chk_archive.proofs.Lasts.{listed_last, removals_last}
use Rattle.chk_record_reader.proofs.RunReads.{none_failed as none_last}
use Rattle.chk_archive.proofs.tidying.tidy.Goals as goal

pub returns-in_err-names-clause-told : goal.returns-in_err-names-clause-told
returns-in_err-names-clause-told g c stamped =
    let p = err_from_is_err_and c.from_residual.result c.from_residual.ensures.1 in
    rw p.1
    (not_listed stamped (codes "archive")
    (HasBook (book_view c.args.book.now)) c.in_err-names.field-0.0
    (subst (λ who. Listed who (codes "archive") (Err c.in_err-names.field-0.0)
    (g.S.Site.told c.args.site.now) (g.S.Site.told c.list_folder.new.site))
    c.requires c.in_err-names.ensures.err))

pub returns-in_err-names-clause-own : goal.returns-in_err-names-clause-own
returns-in_err-names-clause-own g c =
    listed_works (book_view c.args.book.now) (Err c.in_err-names.field-0.0)
    (subst (λ who. Listed who (codes "archive") (Err c.in_err-names.field-0.0)
    (g.S.Site.told c.args.site.now) (g.S.Site.told c.list_folder.new.site))
    c.requires c.in_err-names.ensures.err)

pub returns-in_err-strays-clause-told : goal.returns-in_err-strays-clause-told
returns-in_err-strays-clause-told g c stamped =
    let p = err_from_is_err_and c.from_residual-in_err-strays.result c.from_residual-in_err-strays.ensures.1 in
    rw p.1
    (only_listed stamped (book_view c.args.book.now) c.in_ok-names.names.items
    (subst (λ who. Listed who (codes "archive") (Ok c.in_ok-names.names.items)
    (g.S.Site.told c.args.site.now) (g.S.Site.told c.list_folder.new.site))
    c.requires c.in_ok-names.ensures.ok))

pub returns-in_err-strays-clause-own : goal.returns-in_err-strays-clause-own
returns-in_err-strays-clause-own g c =
    listed_works (book_view c.args.book.now) (Ok c.in_ok-names.names.items)
    (subst (λ who. Listed who (codes "archive") (Ok c.in_ok-names.names.items)
    (g.S.Site.told c.args.site.now) (g.S.Site.told c.list_folder.new.site))
    c.requires c.in_ok-names.ensures.ok)

pub returns-clause-told : goal.returns-clause-told
returns-clause-told g c stamped =
    let b = book_view c.args.book.now in
    let names = c.in_ok-names.names.items in
    let old = g.S.Site.told c.args.site.now in
    let mid = g.S.Site.told c.list_folder.new.site in
    let new = g.S.Site.told c.remove_all.new.site in
    tidied stamped b names
    (subst (λ who. Listed who (codes "archive")
    (Ok names) old mid) c.requires c.in_ok-names.ensures.ok)
    (subst (λ who. MadeInTurn (removals who
    (strays_in b names)) c.remove_all.result mid new) c.requires
    (subst (λ l. MadeInTurn (removals c.args.who.now l) c.remove_all.result mid new)
    (c.as_slice-2.ensures.value ∙ (c.in_ok-strays.ensures ∙ ap
    (strays_in b) c.as_slice.ensures.value)) c.remove_all.ensures.told))

pub returns-clause-own : goal.returns-clause-own
returns-clause-own g c =
    let b = book_view c.args.book.now in
    let names = c.in_ok-names.names.items in
    let old = g.S.Site.told c.args.site.now in
    let mid = g.S.Site.told c.list_folder.new.site in
    let new = g.S.Site.told c.remove_all.new.site in
    tidy_works b names
    (subst (λ who. Listed who (codes "archive")
    (Ok names) old mid) c.requires c.in_ok-names.ensures.ok)
    (subst (λ who. MadeInTurn (removals who
    (strays_in b names)) c.remove_all.result mid new) c.requires
    (subst (λ l. MadeInTurn (removals c.args.who.now l) c.remove_all.result mid new)
    (c.as_slice-2.ensures.value ∙ (c.in_ok-strays.ensures ∙ ap
    (strays_in b) c.as_slice.ensures.value)) c.remove_all.ensures.told))

pub returns-in_err-names-clause-last : goal.returns-in_err-names-clause-last
returns-in_err-names-clause-last g c =
    let p = err_from_is_err_and c.from_residual.result c.from_residual.ensures.1 in
    let old = g.S.Site.told c.args.site.now in
    let new = g.S.Site.told c.list_folder.new.site in
    rw (p.1, p.2)
    (listed_last {T = Unit {0}} (λ v. []) (codes "archive") (Err c.in_err-names.field-0.0) tt
    (subst (λ who. Listed who (codes "archive")
    (Err c.in_err-names.field-0.0) old new) c.requires c.in_err-names.ensures.err))

pub returns-in_err-strays-clause-last : goal.returns-in_err-strays-clause-last
returns-in_err-strays-clause-last g c =
    let p = err_from_is_err_and c.from_residual-in_err-strays.result c.from_residual-in_err-strays.ensures.1 in
    let old = g.S.Site.told c.args.site.now in
    let new = g.S.Site.told c.list_folder.new.site in
    rw (p.1, p.2)
    (none_last (Unit {0})
    (subst (λ who. Listed who (codes "archive")
    (Ok c.in_ok-names.names.items) old new) c.requires c.in_ok-names.ensures.ok))

pub returns-clause-last : goal.returns-clause-last
returns-clause-last g c =
    let old = g.S.Site.told c.args.site.now in
    let mid = g.S.Site.told c.list_folder.new.site in
    let new = g.S.Site.told c.remove_all.new.site in
    removals_last c.as_slice-2.result.now
    (subst (λ who. Listed who (codes "archive")
    (Ok c.in_ok-names.names.items) old mid) c.requires c.in_ok-names.ensures.ok)
    (subst (λ who. MadeInTurn
    (removals who c.as_slice-2.result.now) c.remove_all.result mid new) c.requires c.remove_all.ensures.told)
