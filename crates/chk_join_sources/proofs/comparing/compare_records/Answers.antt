use Rattle.std.proofs.Common.{◌∙◌, ◌+◌, ℕ, Option, Ok, Err}
use Rattle.std.proofs.lemmas.Result.{err_from_is_err_and}
use Rattle.chk_site.proofs.Runs.{adds_as}
use Rattle.chk_site.proofs.Leads.{leads_as}
use Rattle.chk_world.specs.JobSteps.{IsOf, ReadsFile}
use Rattle.chk_record_index.specs.Faults.{FailsLast}
use Rattle.chk_record_index.specs.Pieces.{AsksInPieces}
use Rattle.chk_record_index.specs.declared.fault.JobFault.TheVariants.{NoMemory}
use Rattle.chk_record_index.proofs.Gathering.{every_then, no_failure}
use Rattle.chk_record_reader.proofs.AllGathered.{fails_later}
use Rattle.chk_join_sources.specs.Blocks.{head_in}
use Rattle.chk_join_sources.specs.Comparing.{values_between}
use Rattle.chk_join_sources.proofs.OneComparison.{was_compared, not_compared, both_fetched, second_refused}
use Rattle.chk_join_sources.proofs.comparing.compare_records.Goals as goal

pub returns-in_err-fetch-clause-raw : goal.returns-in_err-fetch-clause-raw
returns-in_err-fetch-clause-raw g c most all held few settled lefts rights true_ones within =
    let l = c.args.left.now in
    let r = c.args.right.now in
    let p = c.args.at.now in
    let q = err_from_is_err_and c.from_residual.result c.from_residual.ensures.1 in
    rw (q.1, q.2)
    (not_compared all l.names.now l r held (head_in l.heads.now p.left.index) c.fetch.new.reader
    (record { left = c.fetch.new.reader; right = c.args.readers.now.right }) p p c.in_err-fetch.field-0.0
    (c.in_err-fetch.ensures.raw most all held few settled lefts.among lefts.known true_ones.left))

pub returns-in_err-fetch-2-clause-raw : goal.returns-in_err-fetch-2-clause-raw
returns-in_err-fetch-2-clause-raw g c most all held few settled lefts rights true_ones within =
    let l = c.args.left.now in
    let r = c.args.right.now in
    let p = c.args.at.now in
    let t = c.from_residual-in_err-fetch-2 in
    let q = err_from_is_err_and t.result t.ensures.1 in
    rw (q.1, q.2)
    (not_compared all r.names.now l r held (head_in r.heads.now p.right.index) c.fetch-2.new.reader
    (record { left = c.fetch.new.reader; right = c.fetch-2.new.reader }) p p c.in_err-fetch-2.field-0.0
    (second_refused all held l.names.now r.names.now (head_in l.heads.now p.left.index) (head_in r.heads.now p.right.index)
    c.fetch.new.reader c.fetch-2.new.reader c.in_err-fetch-2.field-0.0
    (c.in_ok-fetch.ensures.raw most all held few settled lefts.among lefts.known true_ones.left)
    (c.in_err-fetch-2.ensures.raw most all held few settled rights.among rights.known true_ones.right)))

pub returns-in_err-fetch-2-clause-own : goal.returns-in_err-fetch-2-clause-own
returns-in_err-fetch-2-clause-own g c = every_then (IsOf ReadsFile) c.in_ok-fetch.ensures.own c.in_err-fetch-2.ensures.own

pub returns-in_err-fetch-2-clause-pieces : goal.returns-in_err-fetch-2-clause-pieces
returns-in_err-fetch-2-clause-pieces g c = every_then AsksInPieces c.in_ok-fetch.ensures.pieces c.in_err-fetch-2.ensures.pieces

pub returns-in_err-fetch-2-clause-last : goal.returns-in_err-fetch-2-clause-last
returns-in_err-fetch-2-clause-last g c =
    let r = c.from_residual-in_err-fetch-2 in
    let q = err_from_is_err_and r.result r.ensures.1 in
    rw (q.1, q.2)
    (fails_later (Option ℕ) (Unit {0}) c.in_err-fetch-2.field-0.0 c.in_ok-fetch.ensures.pieces c.in_err-fetch-2.ensures.last)

pub returns-in_err-found-clause-raw : goal.returns-in_err-found-clause-raw
returns-in_err-found-clause-raw g c most all held few settled lefts rights true_ones within =
    let l = c.args.left.now in
    let r = c.args.right.now in
    let p = c.args.at.now in
    let t = c.from_residual-in_err-found in
    let q = err_from_is_err_and t.result t.ensures.1 in
    rw (q.1, q.2)
    (leads_as (λ history x. x) (λ history x. tt)
    (both_fetched all held l.names.now r.names.now (head_in l.heads.now p.left.index) (head_in r.heads.now p.right.index)
    c.fetch.new.reader c.fetch-2.new.reader
    (c.in_ok-fetch.ensures.raw most all held few settled lefts.among lefts.known true_ones.left)
    (c.in_ok-fetch-2.ensures.raw most all held few settled rights.among rights.known true_ones.right)))

pub returns-in_err-found-clause-own : goal.returns-in_err-found-clause-own
returns-in_err-found-clause-own g c = every_then (IsOf ReadsFile) c.in_ok-fetch.ensures.own c.in_ok-fetch-2.ensures.own

pub returns-in_err-found-clause-pieces : goal.returns-in_err-found-clause-pieces
returns-in_err-found-clause-pieces g c = every_then AsksInPieces c.in_ok-fetch.ensures.pieces c.in_ok-fetch-2.ensures.pieces

pub returns-in_err-found-clause-last : goal.returns-in_err-found-clause-last
returns-in_err-found-clause-last g c =
    let r = c.from_residual-in_err-found in
    let q = err_from_is_err_and r.result r.ensures.1 in
    rw (q.1, q.2)
    (no_failure {T = Option ℕ} (Err NoMemory) (λ call e. cc)
    (every_then AsksInPieces c.in_ok-fetch.ensures.pieces c.in_ok-fetch-2.ensures.pieces))

pub returns-clause-raw : goal.returns-clause-raw
returns-clause-raw g c most all held few settled lefts rights true_ones within =
    let l = c.args.left.now in
    let r = c.args.right.now in
    let p = c.args.at.now in
    let more = values_between l held (p.left.index + 1) p.left.end in
    let rest = values_between r held (p.right.index + 1) p.right.end in
    leads_as (λ history x. x)
    (λ history x. was_compared l r held p c.compare_values.new.at c.value.result.now c.value-2.result.now
    c.requires.left c.requires.right c.requires.lefts c.requires.rights within (c.value.ensures ∙ x.1.1) (c.value-2.ensures ∙ x.0.2)
    all _ c.in_ok-found.found (λ low high. c.in_ok-found.ensures.is more rest low high) history x.0.0
    (record { left = x.1.0; right = x.0.1 }))
    (both_fetched all held l.names.now r.names.now (head_in l.heads.now p.left.index) (head_in r.heads.now p.right.index)
    c.fetch.new.reader c.fetch-2.new.reader
    (c.in_ok-fetch.ensures.raw most all held few settled lefts.among lefts.known true_ones.left)
    (c.in_ok-fetch-2.ensures.raw most all held few settled rights.among rights.known true_ones.right))

pub returns-clause-own : goal.returns-clause-own
returns-clause-own g c = every_then (IsOf ReadsFile) c.in_ok-fetch.ensures.own c.in_ok-fetch-2.ensures.own

pub returns-clause-pieces : goal.returns-clause-pieces
returns-clause-pieces g c = every_then AsksInPieces c.in_ok-fetch.ensures.pieces c.in_ok-fetch-2.ensures.pieces

pub returns-clause-last : goal.returns-clause-last
returns-clause-last g c =
    adds_as (FailsLast {T = Option ℕ} (Ok c.in_ok-found.found))
    (every_then AsksInPieces c.in_ok-fetch.ensures.pieces c.in_ok-fetch-2.ensures.pieces) (λ added history x. tt)
