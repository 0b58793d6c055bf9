use Rattle.chk_world.specs.JobSteps.{SparesFile}
use Rattle.std.proofs.Common.{Ok, Err, map}
use Rattle.chk_site.proofs.Leads.{leads_as, leads_then}
use Rattle.chk_world.proofs.Each.{Each}
use Rattle.chk_book.specs.Views.{end_view}
use Rattle.chk_join_sources.specs.declared.choosing.Chosen.{Chosen}
use Rattle.chk_join_sources.specs.Pairs.{pairs_of}
use Rattle.chk_join_sources.specs.Differing.{PairAgrees}
use Rattle.chk_join_sources.specs.Copying.{joined_segment, Copies}
use Rattle.chk_join.specs.declared.preparing.Prepared.{Prepared}
use Rattle.chk_join.specs.declared.preparing.Prepared.TheVariants.{Differs}
use Rattle.chk_join.proofs.Chain.{beside_segment, with_fact, chosen_fit, took_sides, not_compared}
use Rattle.chk_join.proofs.Chain.{reads_work, untold}
use Rattle.chk_archive_parts.proofs.Works.{works_value, works_fail}
use Rattle.chk_book.proofs.Works.{works_then}
use Rattle.chk_join.proofs.preparing.join_sides.Goals as goal

pub take_plan-requires-clause-fits : goal.take_plan-requires-clause-fits
take_plan-requires-clause-fits g c =
    chosen_fit c.args.left.now c.args.right.now (pairs_of (map end_view c.args.lefts.now) (map end_view c.args.rights.now))
    c.in-Ok-Agree.plan.choices.items (rw c.in-Ok-Agree.field-0-is at c.in-Ok-Agree.ensures.chosen).choices

pub returns-in-Ok-Agree-clause-raw : goal.returns-in-Ok-Agree-clause-raw
returns-in-Ok-Agree-clause-raw g c most all held few settled apart left right =
    let l = c.args.left.now in
    let r = c.args.right.now in
    let ps = pairs_of (map end_view c.args.lefts.now) (map end_view c.args.rights.now) in
    leads_then
    (beside_segment all (joined_segment c.args.next)
    (rw c.in-Ok-Agree.field-0-is at (c.in-Ok-Agree.ensures.raw most all held few settled left right)))
    (leads_as (λ h x. x)
    (λ h x. took_sides held c.args.next l r ps c.in-Ok-Agree.plan (rw c.in-Ok-Agree.field-0-is at c.in-Ok-Agree.ensures.chosen)
    c.take_plan.result c.take_plan.ensures.spent h x.0 x.1)
    (with_fact (Each (PairAgrees l r held) ps)
    (c.take_plan.ensures.raw most all held few settled apart left.side right.side)))

pub returns-in-Ok-Agree-clause-works : goal.returns-in-Ok-Agree-clause-works
returns-in-Ok-Agree-clause-works g c =
    works_then (Copies c.args.next) (Ok c.in-Ok-Agree.field-0) c.take_plan.result
    (reads_work c.args.next (Ok c.in-Ok-Agree.field-0) c.in-Ok-Agree.ensures.own c.in-Ok-Agree.ensures.pieces
    c.in-Ok-Agree.ensures.last) c.take_plan.ensures.works

pub returns-in-Ok-Differ-clause-raw : goal.returns-in-Ok-Differ-clause-raw
returns-in-Ok-Differ-clause-raw g c most all held few settled apart left right =
    leads_as (λ h x. x) (λ h x. x.1)
    (beside_segment all (joined_segment c.args.next)
    (rw c.in-Ok-Differ.field-0-is at (c.in-Ok-Differ.ensures.raw most all held few settled left right)))

pub returns-in-Ok-Differ-clause-works : goal.returns-in-Ok-Differ-clause-works
returns-in-Ok-Differ-clause-works g c =
    works_value Chosen Prepared (Copies c.args.next) c.in-Ok-Differ.field-0 (Differs c.in-Ok-Differ.found)
    (reads_work c.args.next (Ok c.in-Ok-Differ.field-0) c.in-Ok-Differ.ensures.own c.in-Ok-Differ.ensures.pieces
    c.in-Ok-Differ.ensures.last)

pub returns-in-Err-clause-raw : goal.returns-in-Err-clause-raw
returns-in-Err-clause-raw g c most all held few settled apart left right =
    let ps = pairs_of (map end_view c.args.lefts.now) (map end_view c.args.rights.now) in
    leads_as (λ h x. x)
    (λ h x. not_compared held c.args.next c.args.left.now c.args.right.now all ps c.in-Err.fault c.in-Err.ensures.only h x)
    (beside_segment all (joined_segment c.args.next) (c.in-Err.ensures.raw most all held few settled left right))

pub returns-in-Err-clause-works : goal.returns-in-Err-clause-works
returns-in-Err-clause-works g c =
    works_fail Chosen Prepared (Copies c.args.next) c.in-Err.fault
    (reads_work c.args.next (Err c.in-Err.fault) c.in-Err.ensures.own c.in-Err.ensures.pieces c.in-Err.ensures.last)

pub returns-in-Ok-Agree-clause-stands : goal.returns-in-Ok-Agree-clause-stands
returns-in-Ok-Agree-clause-stands g c =
    leads_then (untold (SparesFile (joined_segment c.args.next)) c.in-Ok-Agree.ensures.own (λ h. tt))
    c.take_plan.ensures.stands

pub returns-in-Ok-Differ-clause-stands : goal.returns-in-Ok-Differ-clause-stands
returns-in-Ok-Differ-clause-stands g c =
    untold (SparesFile (joined_segment c.args.next)) c.in-Ok-Differ.ensures.own (λ h. tt)

pub returns-in-Err-clause-stands : goal.returns-in-Err-clause-stands
returns-in-Err-clause-stands g c = untold (SparesFile (joined_segment c.args.next)) c.in-Err.ensures.own (λ h. tt)
