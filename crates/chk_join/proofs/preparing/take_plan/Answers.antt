use Rattle.chk_join.specs.Runs.{AreRuns, IsAlone}
use Rattle.chk_chunk.specs.Keys.{Chunk}
use Rattle.std.proofs.Common.{List, Ok, map, refl, subst}
use Rattle.std.specs.Prelude.{flat_map}
use Rattle.std.proofs.lemmas.Result.{err_from_is_err_and}
use Rattle.chk_site.proofs.Leads.{leads_as}
use Rattle.chk_book.specs.Books.{book_view}
use Rattle.chk_book.specs.Views.{end_view}
use Rattle.chk_book.specs.declared.lists.End.{End as EndStruct}
use Rattle.chk_join_sources.specs.declared.plan.Choice.{Choice}
use Rattle.chk_join_sources.specs.Copying.{chosen_chunks}
use Rattle.chk_join.specs.Preparing.{WrotePlan}
use Rattle.chk_join.proofs.Chain.{not_taken}
use Rattle.chk_join.proofs.preparing.take_plan.Goals as goal

pub returns-in_err-book-clause-raw : goal.returns-in_err-book-clause-raw
returns-in_err-book-clause-raw g c most all held few settled apart left right =
    let q = err_from_is_err_and c.from_residual-in_err-book.result c.from_residual-in_err-book.ensures.1 in
    let f = chosen_chunks c.args.left.now c.args.right.now held in
    rw (q.1, q.2)
    (leads_as (λ h x. x)
    (λ h x. not_taken c.args.next (flat_map f c.as_slice-choices.result.now) (flat_map f c.args.plan.choices.items)
    (map end_view c.as_slice-ends.result.now) c.args.plan c.in_err-book.field-0.0 h x)
    (c.in_err-book.ensures.raw most all held few settled apart left right))

pub returns-clause-raw : goal.returns-clause-raw
returns-clause-raw g c most all held few settled apart left right =
    let f = chosen_chunks c.args.left.now c.args.right.now held in
    let b = book_view c.in_ok-book.book in
    leads_as (λ h x. x)
    (λ h x.
    let y =
    subst (λ (es : List EndStruct). WrotePlan c.args.next (flat_map f c.args.plan.choices.items) (map end_view es) (Ok b) h)
    c.as_slice-ends.ensures
    (subst (λ (cs : List Choice). WrotePlan c.args.next (flat_map f cs) (map end_view c.as_slice-ends.result.now) (Ok b) h)
    c.as_slice-choices.ensures.value x) in
    (y.0, (y.1, (refl, refl))))
    (c.in_ok-book.ensures.raw most all held few settled apart left right)

pub returns-in_err-book-clause-stands : goal.returns-in_err-book-clause-stands
returns-in_err-book-clause-stands g c =
    let q = err_from_is_err_and c.from_residual-in_err-book.result c.from_residual-in_err-book.ensures.1 in
    rw (q.1, q.2) (leads_as (λ h x. x) (λ h x. tt) c.in_err-book.ensures.stands)

pub returns-clause-stands : goal.returns-clause-stands
returns-clause-stands g c =
    let b = book_view c.in_ok-book.book in
    leads_as (λ h x. x)
    (λ h x.
    subst (λ (es : List EndStruct). (cs : List Chunk) × (AreRuns (map end_view es) cs
    × IsAlone c.args.next (map end_view es) b cs h)) c.as_slice-ends.ensures x)
    c.in_ok-book.ensures.stands
