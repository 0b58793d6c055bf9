use Rattle.chk_replace.specs.Replace.{LeavesFile}
use Rattle.chk_world.specs.JobSteps.{SparesFile}
use Rattle.std.proofs.Common.{Ok, Err}
use Rattle.chk_site.proofs.Leads.{leads_as, leads_then}
use Rattle.chk_book.specs.Books.{book_view}
use Rattle.chk_book.specs.Folders.{book_name}
use Rattle.chk_book.specs.declared.book.Book.{Book as Struct}
use Rattle.chk_join_sources.specs.Copying.{joined_segment}
use Rattle.chk_join.specs.Working.{PreparesBy}
use Rattle.chk_join.specs.Preparing.{IsFolderBook}
use Rattle.chk_join.specs.declared.preparing.Prepared.{Prepared}
use Rattle.chk_archive_parts.proofs.Works.{works_fail}
use Rattle.chk_book.proofs.Works.{works_then}
use Rattle.chk_join.proofs.Apart.{plain_folder}
use Rattle.chk_join.proofs.Chain.{under, untold}
use Rattle.chk_join.proofs.Folders.{load_told, folder_loaded, left_not_loaded, reads_prepare}
use Rattle.chk_join.proofs.preparing.load_left.Goals as goal

pub load_book-requires : goal.load_book-requires
load_book-requires g c = plain_folder c.args.left.now c.requires.left

pub returns-in-Ok-clause-raw : goal.returns-in-Ok-clause-raw
returns-in-Ok-clause-raw g c all held covers =
    let folder = c.args.left.now in
    leads_then
    (leads_as (λ h x. x) (λ h x. (x.0, folder_loaded held folder c.in-Ok.lefts h x.1))
    (load_told all held (joined_segment c.args.joined.now.next) folder covers.settled covers.left_book
    (Ok (book_view c.in-Ok.lefts)) (c.in-Ok.ensures.own c.requires.job)
    (c.in-Ok.ensures.raw (held (book_name folder)) (covers.settled (book_name folder) covers.left_book).1)))
    (under c.load_right.ensures.works
    (λ (one : IsFolderBook held folder (book_view c.in-Ok.lefts)). c.load_right.ensures.raw all held covers one))

pub returns-in-Ok-clause-works : goal.returns-in-Ok-clause-works
returns-in-Ok-clause-works g c =
    let b = book_view c.args.joined.now in
    works_then (PreparesBy b) (Ok c.in-Ok.lefts) c.load_right.result
    (reads_prepare b (Ok c.in-Ok.lefts) (c.in-Ok.ensures.own c.requires.job) c.in-Ok.ensures.pieces c.in-Ok.ensures.last)
    c.load_right.ensures.works

pub returns-in-Err-clause-raw : goal.returns-in-Err-clause-raw
returns-in-Err-clause-raw g c all held covers =
    let folder = c.args.left.now in
    leads_as (λ h x. x)
    (λ h x. left_not_loaded held c.args.left.now c.args.right.now c.args.joined.now.next c.in-Err.fault c.in-Err.ensures.only h x.1)
    (load_told all held (joined_segment c.args.joined.now.next) folder covers.settled covers.left_book
    (Err c.in-Err.fault) (c.in-Err.ensures.own c.requires.job)
    (c.in-Err.ensures.raw (held (book_name folder)) (covers.settled (book_name folder) covers.left_book).1))

pub returns-in-Err-clause-works : goal.returns-in-Err-clause-works
returns-in-Err-clause-works g c =
    let b = book_view c.args.joined.now in
    works_fail Struct Prepared (PreparesBy b) c.in-Err.fault
    (reads_prepare b (Err c.in-Err.fault) (c.in-Err.ensures.own c.requires.job) c.in-Err.ensures.pieces c.in-Err.ensures.last)

pub returns-in-Ok-clause-stands : goal.returns-in-Ok-clause-stands
returns-in-Ok-clause-stands g c =
    leads_then
    (untold (SparesFile (joined_segment c.args.joined.now.next)) (c.in-Ok.ensures.own c.requires.job) (λ h. tt))
    c.load_right.ensures.stands

pub returns-in-Err-clause-stands : goal.returns-in-Err-clause-stands
returns-in-Err-clause-stands g c =
    untold (SparesFile (joined_segment c.args.joined.now.next)) (c.in-Err.ensures.own c.requires.job) (λ h. tt)

pub returns-in-Ok-clause-clean : goal.returns-in-Ok-clause-clean
returns-in-Ok-clause-clean g c k stray count apart =
    leads_then (untold (LeavesFile (joined_segment k)) (c.in-Ok.ensures.own c.requires.job) (λ h. tt))
    (c.load_right.ensures.clean k stray count apart)

pub returns-in-Err-clause-clean : goal.returns-in-Err-clause-clean
returns-in-Err-clause-clean g c k stray count apart =
    untold (LeavesFile (joined_segment k)) (c.in-Err.ensures.own c.requires.job) (λ h. tt)
