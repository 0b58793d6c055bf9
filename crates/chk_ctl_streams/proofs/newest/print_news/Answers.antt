use Rattle.std.proofs.Common.{ℕ, List, drop, subst, arith}
use Rattle.chk_world.specs.Books.{Segment, End}
use Rattle.chk_book.specs.Books.{book_view, end_in}
use Rattle.chk_ctl_cat.specs.Courses.{stream_of}
use Rattle.chk_ctl_streams.specs.Newest.{PrintsRest, all, newest, unmade}
use Rattle.chk_ctl_streams.proofs.newest.print_news.Goals as goal

pub returns-then-oldest-eq0-clause-told : goal.returns-then-oldest-eq0-clause-told
returns-then-oldest-eq0-clause-told g c = all c.print_on.ensures.told

pub returns-in-Ok-clause-told : goal.returns-in-Ok-clause-told
returns-in-Ok-clause-told g c =
    let oldest : ℕ = c.count_in-oldest.result in
    let from : ℕ = c.args.passed.end in
    let s = stream_of c.args.course.now in
    newest oldest from (omega (arith, c.if-passed-course.false))
    (subst (λ (es : List End). PrintsRest c.args.folder.now c.args.most c.args.books
    (drop oldest (book_view c.args.book).segments) (end_in 0 es s) from c.args.course.now
    c.print_rest.new.course c.print_rest.result (g.S.Site.told c.args.site.now)
    (g.S.Site.told c.print_rest.new.site)) c.in-Ok.ensures.ends
    (subst (λ (gs : List Segment). PrintsRest c.args.folder.now c.args.most c.args.books
    gs (end_in 0 (book_view c.in-Ok.newest).ends s) from c.args.course.now
    c.print_rest.new.course c.print_rest.result (g.S.Site.told c.args.site.now)
    (g.S.Site.told c.print_rest.new.site)) c.in-Ok.ensures.segments
    c.print_rest.ensures.told))

pub returns-in-Err-clause-told : goal.returns-in-Err-clause-told
returns-in-Err-clause-told g c = unmade
