use Rattle.chk_world.specs.JobSteps.{SparesFile}
use Rattle.std.proofs.Common.{Ok, Err, map, ap, ◌∙◌, List}
use Rattle.std.proofs.lemmas.Result.{err_from_is_err_and}
use Rattle.chk_site.proofs.Leads.{leads_as, leads_then}
use Rattle.chk_record_index.specs.Heads.{Head}
use Rattle.chk_book.specs.Books.{book_view}
use Rattle.chk_book.specs.Views.{end_view}
use Rattle.chk_record_reader.specs.Segments.{names_of}
use Rattle.chk_join_sources.specs.Copying.{joined_segment, Copies}
use Rattle.chk_join.specs.declared.preparing.Prepared.{Prepared}
use Rattle.chk_join.proofs.Chain.{reads_told, right_damaged, right_joined, reads_work, untold}
use Rattle.chk_archive_parts.proofs.Works.{works_fail}
use Rattle.chk_book.proofs.Works.{works_then}
use Rattle.chk_join.proofs.preparing.join_left.Goals as goal

pub returns-in_err-heads-clause-raw : goal.returns-in_err-heads-clause-raw
returns-in_err-heads-clause-raw g c all held left settled apart lefts rights lm rm oa ob gathered =
    let q = err_from_is_err_and c.from_residual-in_err-heads.result c.from_residual-in_err-heads.ensures.1 in
    let b = book_view c.args.rights.now in
    rw (q.1, q.2)
    (leads_as (λ h x. x)
    (λ h x. right_damaged held left (book_view c.args.lefts.now) c.args.right.now b c.args.next c.in_err-heads.field-0.0
    c.in_err-heads.ensures.only h x.1)
    (reads_told all (names_of c.args.right.now b) held (joined_segment c.args.next) settled rights
    (c.in_err-heads.ensures.own c.requires.job)
    (c.in_err-heads.ensures.raw held c.requires.job (λ w is. settled w (rights w is)))))

pub returns-in_err-heads-clause-works : goal.returns-in_err-heads-clause-works
returns-in_err-heads-clause-works g c =
    let q = err_from_is_err_and c.from_residual-in_err-heads.result c.from_residual-in_err-heads.ensures.1 in
    rw (q.1, q.2)
    (works_fail (List Head) Prepared (Copies c.args.next) c.in_err-heads.field-0.0
    (reads_work c.args.next (Err c.in_err-heads.field-0.0) (c.in_err-heads.ensures.own c.requires.job)
    c.in_err-heads.ensures.pieces c.in_err-heads.ensures.last))

pub returns-clause-raw : goal.returns-clause-raw
returns-clause-raw g c all held left settled apart lefts rights lm rm oa ob gathered =
    right_joined all held left (book_view c.args.lefts.now) c.args.right.now (book_view c.args.rights.now) c.args.next
    c.join_sides.result c.join_sides.ensures.raw c.join_sides.ensures.works (ap (map end_view) c.as_slice-3.ensures)
    (ap (map end_view) c.as_slice-4.ensures) (c.as_slice-2.ensures.value ∙ c.in_ok-names.ensures) settled apart lefts rights
    lm rm oa ob gathered (c.in_ok-heads.ensures.own c.requires.job)
    (c.in_ok-heads.ensures.raw held c.requires.job (λ w is. settled w (rights w is)))

pub returns-clause-works : goal.returns-clause-works
returns-clause-works g c =
    works_then (Copies c.args.next) (Ok c.in_ok-heads.heads) c.join_sides.result
    (reads_work c.args.next (Ok c.in_ok-heads.heads) (c.in_ok-heads.ensures.own c.requires.job) c.in_ok-heads.ensures.pieces
    c.in_ok-heads.ensures.last) c.join_sides.ensures.works

pub returns-in_err-heads-clause-stands : goal.returns-in_err-heads-clause-stands
returns-in_err-heads-clause-stands g c =
    let q = err_from_is_err_and c.from_residual-in_err-heads.result c.from_residual-in_err-heads.ensures.1 in
    rw (q.1, q.2)
    (untold (SparesFile (joined_segment c.args.next)) (c.in_err-heads.ensures.own c.requires.job) (λ h. tt))

pub returns-clause-stands : goal.returns-clause-stands
returns-clause-stands g c =
    leads_then
    (untold (SparesFile (joined_segment c.args.next)) (c.in_ok-heads.ensures.own c.requires.job) (λ h. tt))
    c.join_sides.ensures.stands
