use Rattle.std.proofs.Common.{◌∙◌, ℕ, List, subst}
use Rattle.std.proofs.lemmas.Result.{err_from_is_err_and}
use Rattle.chk_site.specs.Runs.{MadeInTurn, unbegun}
use Rattle.chk_replace.specs.Replace.{replacement}
use Rattle.chk_book.specs.Folders.{book_name}
use Rattle.chk_book.proofs.book.Book.write.Goals as goal

pub returns-in_err-name-clause-told : goal.returns-in_err-name-clause-told
returns-in_err-name-clause-told g c =
    let p = err_from_is_err_and c.from_residual.result c.from_residual.ensures.1 in rw (p.1, p.2) unbegun

pub returns-in_err-bytes-clause-told : goal.returns-in_err-bytes-clause-told
returns-in_err-bytes-clause-told g c =
    let p = err_from_is_err_and c.from_residual-in_err-bytes.result c.from_residual-in_err-bytes.ensures.1 in rw (p.1, p.2) unbegun

pub returns-clause-told : goal.returns-clause-told
returns-clause-told g c =
    let who = c.args.who.now in
    let result = c.replace.result in
    subst (λ (bytes : List ℕ). MadeInTurn (replacement who (book_name c.args.folder.now) bytes) result (g.S.Site.told c.args.site.now) (g.S.Site.told c.replace.new.site))
    (c.as_slice.ensures ∙ c.in_ok-bytes.ensures)
    (subst (λ (name : List ℕ). MadeInTurn (replacement who name c.as_slice.result.now) result (g.S.Site.told c.args.site.now) (g.S.Site.told c.replace.new.site))
    (c.as_str.ensures.text ∙ c.in_ok-name.ensures.name) c.replace.ensures.told)
