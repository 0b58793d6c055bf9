use Rattle.chk_world.specs.JobSteps.{SparesFile}
use Rattle.std.proofs.Common.{Ok, Err, ◌∙◌, List}
use Rattle.std.proofs.lemmas.Result.{err_from_is_err_and}
use Rattle.chk_site.proofs.Leads.{leads_as, leads_then}
use Rattle.chk_record_index.specs.Heads.{Head}
use Rattle.chk_book.specs.Books.{book_view}
use Rattle.chk_record_reader.specs.Segments.{names_of}
use Rattle.chk_join_sources.specs.Copying.{joined_segment, Copies}
use Rattle.chk_join.specs.declared.preparing.Prepared.{Prepared}
use Rattle.chk_join.proofs.Chain.{reads_told, left_damaged, left_joined, reads_work, untold}
use Rattle.chk_archive_parts.proofs.Works.{works_fail}
use Rattle.chk_book.proofs.Works.{works_then}
use Rattle.chk_join.proofs.preparing.join_books.Goals as goal

pub returns-in_err-heads-clause-raw : goal.returns-in_err-heads-clause-raw
returns-in_err-heads-clause-raw g c all held settled apart lefts rights lm rm oa ob =
    let q = err_from_is_err_and c.from_residual-in_err-heads.result c.from_residual-in_err-heads.ensures.1 in
    let a = book_view c.args.lefts.now in
    rw (q.1, q.2)
    (leads_as (λ h x. x)
    (λ h x. left_damaged held c.args.left.now a c.args.right.now (book_view c.args.rights.now) c.args.next
    c.in_err-heads.field-0.0 c.in_err-heads.ensures.only h x.1)
    (reads_told all (names_of c.args.left.now a) held (joined_segment c.args.next) settled lefts
    (c.in_err-heads.ensures.own c.requires.job)
    (c.in_err-heads.ensures.raw held c.requires.job (λ w is. settled w (lefts w is)))))

pub returns-in_err-heads-clause-works : goal.returns-in_err-heads-clause-works
returns-in_err-heads-clause-works g c =
    let q = err_from_is_err_and c.from_residual-in_err-heads.result c.from_residual-in_err-heads.ensures.1 in
    rw (q.1, q.2)
    (works_fail (List Head) Prepared (Copies c.args.next) c.in_err-heads.field-0.0
    (reads_work c.args.next (Err c.in_err-heads.field-0.0) (c.in_err-heads.ensures.own c.requires.job)
    c.in_err-heads.ensures.pieces c.in_err-heads.ensures.last))

pub returns-clause-raw : goal.returns-clause-raw
returns-clause-raw g c all held settled apart lefts rights lm rm oa ob =
    left_joined all held c.args.left.now (book_view c.args.lefts.now) c.args.right.now (book_view c.args.rights.now) c.args.next
    c.join_left.result c.join_left.ensures.raw c.join_left.ensures.works (c.as_slice-2.ensures.value ∙ c.in_ok-names.ensures) settled apart lefts
    rights lm rm oa ob (c.in_ok-heads.ensures.own c.requires.job)
    (c.in_ok-heads.ensures.raw held c.requires.job (λ w is. settled w (lefts w is)))

pub returns-clause-works : goal.returns-clause-works
returns-clause-works g c =
    works_then (Copies c.args.next) (Ok c.in_ok-heads.heads) c.join_left.result
    (reads_work c.args.next (Ok c.in_ok-heads.heads) (c.in_ok-heads.ensures.own c.requires.job) c.in_ok-heads.ensures.pieces
    c.in_ok-heads.ensures.last) c.join_left.ensures.works

pub returns-in_err-heads-clause-stands : goal.returns-in_err-heads-clause-stands
returns-in_err-heads-clause-stands g c =
    let q = err_from_is_err_and c.from_residual-in_err-heads.result c.from_residual-in_err-heads.ensures.1 in
    rw (q.1, q.2)
    (untold (SparesFile (joined_segment c.args.next)) (c.in_err-heads.ensures.own c.requires.job) (λ h. tt))

pub returns-clause-stands : goal.returns-clause-stands
returns-clause-stands g c =
    leads_then
    (untold (SparesFile (joined_segment c.args.next)) (c.in_ok-heads.ensures.own c.requires.job) (λ h. tt))
    c.join_left.ensures.stands
