use Rattle.chk_join.proofs.StraysGone.{leaves_segment, book_count}
use Rattle.chk_join.specs.Names.{IsStrayNumber}
use Rattle.chk_world.specs.Books.{Book}
use Rattle.chk_join.proofs.Prepared.{prepared_legal, unprepared_legal}
use Rattle.std.proofs.Common.{Ok, Err, ◌∙◌, ap, sym, subst}
use Rattle.chk_site.proofs.Leads.{leads_as, leads_then}
use Rattle.chk_site.specs.Acts.{Deed}
use Rattle.chk_book.specs.Books.{book_view}
use Rattle.chk_book.specs.declared.book.Book.{Book as Struct}
use Rattle.chk_join.specs.Beginning.{Begins}
use Rattle.chk_join.specs.Working.{PreparesBy, Prepares, goes_on}
use Rattle.chk_join.specs.Joined.{reads_of, joined_folder, LeavesFolders}
use Rattle.chk_join.specs.Preparing.{IsFolderBook}
use Rattle.chk_join.specs.declared.preparing.Prepared.{Prepared}
use Rattle.chk_join.proofs.Begun.{joined_book}
use Rattle.chk_archive_parts.proofs.Works.{works_as, works_fail}
use Rattle.chk_book.proofs.Works.{works_then, own_of}
use Rattle.chk_join.proofs.Apart.{covers}
use Rattle.chk_join.proofs.Chain.{under, untold}
use Rattle.chk_join.proofs.Folders.{folder_loaded, begins_prepare}
use Rattle.chk_join.proofs.Whole.{begin_told, rest_told, all_read, none_read, is_first}
use Rattle.chk_join.proofs.preparing.prepare.Goals as goal

pub returns-in-Ok-clause-raw : goal.returns-in-Ok-clause-raw
returns-in-Ok-clause-raw g c held settled =
    let left = c.args.left.now in
    let right = c.args.right.now in
    let b = book_view c.in-Ok.joined in
    let first = settled joined_book (is_first held left right) in
    leads_then
    (leads_as (λ h x. x) (λ h x. (x.0, folder_loaded held joined_folder c.in-Ok.joined h x.1))
    (begin_told held left right settled (Ok b) (own_of Begins (Ok c.in-Ok.joined) c.in-Ok.ensures.works)
    (c.in-Ok.ensures.raw (held joined_book) first.0 first.1)))
    (under c.load_left.ensures.works
    (λ (one : IsFolderBook held joined_folder b).
    leads_as (λ h x. x) (λ h x. all_read held left right b one c.load_left.result h x)
    (rest_told (PreparesBy b) held left right b.next (own_of (PreparesBy b) c.load_left.result c.load_left.ensures.works)
    (c.load_left.ensures.raw (reads_of held left right) held
    (covers held left right c.requires.left c.requires.right settled)))))

pub returns-in-Ok-clause-works : goal.returns-in-Ok-clause-works
returns-in-Ok-clause-works g c =
    let b = book_view c.in-Ok.joined in
    works_then Prepares (Ok c.in-Ok.joined) c.load_left.result
    (works_as Begins Prepares begins_prepare (Ok c.in-Ok.joined) c.in-Ok.ensures.works)
    (works_as (PreparesBy b) Prepares (λ (call : Deed) k. goes_on b call k) c.load_left.result c.load_left.ensures.works)

pub returns-in-Err-clause-raw : goal.returns-in-Err-clause-raw
returns-in-Err-clause-raw g c held settled =
    let left = c.args.left.now in
    let right = c.args.right.now in
    let first = settled joined_book (is_first held left right) in
    leads_as (λ h x. x)
    (λ h x. none_read held left right c.in-Err.fault c.in-Err.ensures.only h x.1)
    (begin_told held left right settled (Err c.in-Err.fault) (own_of Begins (Err c.in-Err.fault) c.in-Err.ensures.works)
    (c.in-Err.ensures.raw (held joined_book) first.0 first.1))

pub returns-in-Err-clause-works : goal.returns-in-Err-clause-works
returns-in-Err-clause-works g c =
    works_fail Struct Prepared Prepares c.in-Err.fault
    (works_as Begins Prepares begins_prepare (Err c.in-Err.fault) c.in-Err.ensures.works)

pub returns-in-Ok-clause-told : goal.returns-in-Ok-clause-told
returns-in-Ok-clause-told g c stamped =
    let b = book_view c.in-Ok.joined in
    leads_then (c.in-Ok.ensures.told stamped)
    (prepared_legal stamped b c.load_left.result (own_of (PreparesBy b) c.load_left.result c.load_left.ensures.works)
    c.load_left.ensures.stands)

pub returns-in-Err-clause-told : goal.returns-in-Err-clause-told
returns-in-Err-clause-told g c stamped =
    leads_as (λ h x. x) (λ h x. unprepared_legal stamped c.in-Err.fault h x) (c.in-Err.ensures.told stamped)

pub returns-in-Ok-clause-clean : goal.returns-in-Ok-clause-clean
returns-in-Ok-clause-clean g c held k settled stray apart =
    let left = c.args.left.now in
    let right = c.args.right.now in
    let b = book_view c.in-Ok.joined in
    let first = settled joined_book (is_first held left right) in
    leads_then
    (leads_as (λ h x. x) (λ h x. (x.0, folder_loaded held joined_folder c.in-Ok.joined h x.1))
    (begin_told held left right settled (Ok b) (own_of Begins (Ok c.in-Ok.joined) c.in-Ok.ensures.works)
    (c.in-Ok.ensures.raw (held joined_book) first.0 first.1)))
    (under c.load_left.ensures.works
    (λ (one : IsFolderBook held joined_folder b).
    leads_as (λ h x. tt) (λ h x. x)
    (leaves_segment left right k
    (c.load_left.ensures.clean k (subst (λ (x : Book). IsStrayNumber x k) (sym one.is) stray) (book_count held b one)
    (λ e. apart (e ∙ ap (λ (x : Book). x.next) one.is))))))

pub returns-in-Err-clause-clean : goal.returns-in-Err-clause-clean
returns-in-Err-clause-clean g c held k settled stray apart =
    untold (LeavesFolders c.args.left.now c.args.right.now) c.in-Err.ensures.works (λ h. tt)
