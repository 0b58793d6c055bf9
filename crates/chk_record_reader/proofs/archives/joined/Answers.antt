use Rattle.std.proofs.Common.{◌∙◌, ◌≤◌, ℕ, List, length, Ok, refl, ap, arith}
use Rattle.std.proofs.lemmas.List.{take_all}
use Rattle.std.proofs.lemmas.Result.{err_from_is_err_and}
use Rattle.chk_site.specs.History.{Every}
use Rattle.chk_site.proofs.Runs.{adds_none, adds_as}
use Rattle.chk_site.proofs.Leads.{leads_then, leads_as}
use Rattle.chk_world.specs.JobSteps.{IsOf, ReadsFile}
use Rattle.chk_record_index.specs.Pieces.{AsksInPieces}
use Rattle.chk_record_index.specs.Faults.{FailsLast}
use Rattle.chk_record_index.proofs.Gathering.{every_then}
use Rattle.chk_record_reader.specs.Streams.{stream_of}
use Rattle.chk_record_reader.specs.Archives.{values_in}
use Rattle.chk_book.proofs.Added.{cause_later}
use Rattle.chk_record_reader.proofs.AllGathered.{fails_later}
use Rattle.chk_record_reader.proofs.Joining.{none_joined, not_joined}
use Rattle.chk_record_index.proofs.Causes.{shows_then}
use Rattle.chk_record_reader.specs.Gone.{IsGoneIn}
use Rattle.chk_record_reader.proofs.Causes.{late_gone_in}
use Rattle.chk_record_reader.proofs.archives.joined.Goals as goal

pub loop-index-init : goal.loop-index-init
loop-index-init g c = record {
  so = λ most held few settled.
      none_joined (stream_of c.args.stream.now) most c.args.names.now held c.args.heads.now c.new-reader.result
      c.new-bytes.result (g.S.Site.told c.args.site.now) c.new-reader.ensures c.new-bytes.ensures;
  own = λ is. adds_none (g.S.Site.told c.args.site.now) (Every (IsOf ReadsFile)) (λ history. tt);
  pieces = adds_none (g.S.Site.told c.args.site.now) (Every AsksInPieces) (λ history. tt);
  count = refl;
}

pub returns-in_err-join_one-clause-raw : goal.returns-in_err-join_one-clause-raw
returns-in_err-join_one-clause-raw g c most held few settled =
    let l = c.loop-index in
    let p = err_from_is_err_and c.from_residual.result c.from_residual.ensures.1 in
    rw (p.1, p.2)
    (not_joined (stream_of c.args.stream.now) most c.args.names.now held c.args.heads.now l.reader
    c.join_one.new.reader l.bytes c.join_one.new.bytes l.index
    c.in_err-join_one.field-0.0 (l.invariant.so most held few settled)
    (c.in_err-join_one.ensures.raw most held few settled))

pub returns-in_err-join_one-clause-own : goal.returns-in_err-join_one-clause-own
returns-in_err-join_one-clause-own g c = λ is. every_then (IsOf ReadsFile)
    (c.loop-index.invariant.own is) (c.in_err-join_one.ensures.own is)

pub returns-in_err-join_one-clause-pieces : goal.returns-in_err-join_one-clause-pieces
returns-in_err-join_one-clause-pieces g c = every_then AsksInPieces c.loop-index.invariant.pieces
    c.in_err-join_one.ensures.pieces

pub returns-in_err-join_one-clause-last : goal.returns-in_err-join_one-clause-last
returns-in_err-join_one-clause-last g c =
    let p = err_from_is_err_and c.from_residual.result c.from_residual.ensures.1 in
    rw (p.1, p.2) (fails_later (List ℕ) (Unit {0}) c.in_err-join_one.field-0.0
    c.loop-index.invariant.pieces c.in_err-join_one.ensures.last)

pub loop-index-preserved : goal.loop-index-preserved
loop-index-preserved g c = record {
  so = λ most held few settled. leads_then (c.loop-index.invariant.so most held few settled)
      (c.in_ok-join_one.ensures.raw most held few settled);
  own = λ is. every_then (IsOf ReadsFile) (c.loop-index.invariant.own is)
      (c.in_ok-join_one.ensures.own is);
  pieces = every_then AsksInPieces c.loop-index.invariant.pieces c.in_ok-join_one.ensures.pieces;
  count = c.in_ok-join_one.ensures.cause ∙ c.loop-index.invariant.count;
}

pub returns-in_err-join_one-clause-only : goal.returns-in_err-join_one-clause-only
returns-in_err-join_one-clause-only g c =
    let p = err_from_is_err_and c.from_residual.result c.from_residual.ensures.1 in
    rw (p.1, p.2) c.in_err-join_one.ensures.only

pub returns-in_err-join_one-clause-cause : goal.returns-in_err-join_one-clause-cause
returns-in_err-join_one-clause-cause g c =
    let p = err_from_is_err_and c.from_residual.result c.from_residual.ensures.1 in
    rw (p.1, p.2)
    (cause_later (List ℕ) (Unit {0}) c.in_err-join_one.field-0.0 (g.S.Site.fault_count
    c.args.site.now)
    (g.S.Site.fault_count c.loop-index.site) (g.S.Site.fault_count c.join_one.new.site)
    c.loop-index.invariant.count c.in_err-join_one.ensures.cause)

pub returns-clause-raw : goal.returns-clause-raw
returns-clause-raw g c most held few settled =
    let l = c.loop-index in
    let heads = c.args.heads.now in
    let past : length heads ≤ l.index =
    let e = c.loop-index-test.false in let k = c.len-index-end.ensures in omega (arith, e, k) in
    leads_as (λ h x. x)
    (λ h x. (
      x.0.files,
      x.1 ∙ ap (values_in (stream_of c.args.stream.now) c.args.names.now held) (take_all l.index
          heads past),
    ))
    (l.invariant.so most held few settled)

pub returns-clause-own : goal.returns-clause-own
returns-clause-own g c = c.loop-index.invariant.own

pub returns-clause-pieces : goal.returns-clause-pieces
returns-clause-pieces g c = c.loop-index.invariant.pieces

pub returns-clause-last : goal.returns-clause-last
returns-clause-last g c =
    adds_as (FailsLast {T = List ℕ} (Ok c.loop-index.bytes)) c.loop-index.invariant.pieces (λ added
    history x. tt)

pub returns-clause-cause : goal.returns-clause-cause
returns-clause-cause g c = c.loop-index.invariant.count

pub returns-in_err-join_one-clause-shown : goal.returns-in_err-join_one-clause-shown
returns-in_err-join_one-clause-shown g c =
    let p = err_from_is_err_and c.from_residual.result c.from_residual.ensures.1 in
    let names = c.args.names.now in
    let heads = c.args.heads.now in
    rw (p.1, p.2)
    (shows_then (List ℕ) (Unit {0}) (IsGoneIn names heads) (late_gone_in names heads)
    c.in_err-join_one.field-0.0 c.loop-index.invariant.pieces c.in_err-join_one.ensures.shown)

pub returns-clause-shown : goal.returns-clause-shown
returns-clause-shown g c = adds_as _ c.loop-index.invariant.pieces (λ added history x. tt)
