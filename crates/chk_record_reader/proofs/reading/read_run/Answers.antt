use Rattle.std.proofs.Common.{ℕ, ◌<◌, length, List, Err, Ok, sym, ap, subst, ◌∙◌, ◌++◌, arith, ◌≤◌}
use Rattle.std.proofs.lemmas.Result.{err_from_is_err_and}
use Rattle.chk_site.specs.declared.acts.OutsideFault.TheVariants.{NoMemory as no_memory}
use Rattle.chk_site.specs.Site.{Adds, LastFailed, OutsideCause}
use Rattle.chk_site.specs.Runs.{anyhow, Leads}
use Rattle.chk_replace.specs.Load.{Has}
use Rattle.chk_site.proofs.Runs.{adds_as}
use Rattle.chk_site.proofs.Leads.{leads_then}
use Rattle.chk_world.specs.JobSteps.{IsOf, ReadsFile, SparesFile}
use Rattle.chk_record_index.specs.Pieces.{AsksInPieces}
use Rattle.chk_record_reader.specs.Spans.{HasRun}
use Rattle.chk_record_reader.proofs.RunReads.{two_runs, short_run, not_run, unsaid, last_behind, none_failed}
use Rattle.chk_record_index.proofs.Gathering.{every_then}
use Rattle.chk_record_reader.proofs.Causes.{run_once, run_ended, run_twice, run_failed}
use Rattle.chk_record_reader.proofs.reading.read_run.Goals as goal

pub returns-then-size-le-PIECE-clause-raw : goal.returns-then-size-le-PIECE-clause-raw
returns-then-size-le-PIECE-clause-raw g c = λ file small. c.read_once.ensures.raw file

pub returns-then-size-le-PIECE-clause-shown : goal.returns-then-size-le-PIECE-clause-shown
returns-then-size-le-PIECE-clause-shown g c = run_once c.args.name.now c.args.at c.args.size c.read_once.result c.read_once.ensures.shown

pub returns-in_err-bytes : goal.returns-in_err-bytes
returns-in_err-bytes g c =
    let p = err_from_is_err_and c.from_residual.result c.from_residual.ensures.1 in
    let e = c.in_err-bytes.ensures in
    rw (p.1, p.2)
    (record {
      raw = λ file small. e.raw file;
      shown = run_failed c.args.name.now c.args.at c.args.size c.in_err-bytes.field-0.0 e.pieces;
      stays = e.stays;
      own = e.own;
      pieces = e.pieces;
      last = e.last;
      cause = e.cause;
    })

pub returns-in_err-rest : goal.returns-in_err-rest
returns-in_err-rest g c =
    let p = err_from_is_err_and c.from_residual-in_err-rest.result
    c.from_residual-in_err-rest.ensures.1 in
    let a = c.in_ok-bytes.ensures in
    let b = c.in_err-rest.ensures in
    let pieces = every_then AsksInPieces a.pieces b.pieces in
    rw (p.1, p.2)
    (record {
      raw = λ file small. not_run c.args.name.now c.args.at c.args.size c.in_err-rest.field-0.0
          pieces file;
      shown = run_failed c.args.name.now c.args.at c.args.size c.in_err-rest.field-0.0 pieces;
      stays = λ other file. unsaid other file pieces;
      own = λ is. every_then (IsOf ReadsFile) (a.own is) (b.own is);
      pieces = pieces;
      last = last_behind {T = List ℕ} (Err c.in_err-rest.field-0.0) a.pieces b.last;
      cause =
          subst (λ (n : ℕ). OutsideCause {T = List ℕ} n
          (g.S.Site.fault_count c.read_once-3.new.site) (Err c.in_err-rest.field-0.0))
          a.cause b.cause;
    })

pub returns-in_err-push_all : goal.returns-in_err-push_all
returns-in_err-push_all g c =
    let p = err_from_is_err_and c.from_residual-in_err-push_all.result
    c.from_residual-in_err-push_all.ensures.1 in
    let a = c.in_ok-bytes.ensures in
    let b = c.in_ok-rest.ensures in
    let pieces = every_then AsksInPieces a.pieces b.pieces in
    rw (p.1, p.2)
    (record {
      raw = λ file small. not_run c.args.name.now c.args.at c.args.size no_memory pieces file;
      shown = run_failed c.args.name.now c.args.at c.args.size no_memory pieces;
      stays = λ other file. unsaid other file pieces;
      own = λ is. every_then (IsOf ReadsFile) (a.own is) (b.own is);
      pieces = pieces;
      last = none_failed (List ℕ) pieces;
      cause = b.cause ∙ a.cause;
    })

pub returns-clause-raw : goal.returns-clause-raw
returns-clause-raw g c = λ file small.
    let name = c.args.name.now in
    let first = c.in_ok-bytes.bytes in
    let joined = c.in_ok-push_all.ensures.ok ∙ ap (λ rest. first ++ rest) c.as_slice.ensures in
    let more : 1048576 ≤ c.args.size = let e = c.if-size-le-PIECE.false in omega arith in
    subst
    (λ bytes. Adds (g.S.Site.told c.args.site.now) (g.S.Site.told c.read_once-3.new.site)
    (Leads (anyhow (SparesFile name)) (Has name file) (HasRun name c.args.at c.args.size file
    (Ok bytes))))
    (sym joined)
    (two_runs name c.args.at c.saturating_add-behind.result c.args.size first c.in_ok-rest.rest
    file small c.saturating_add-behind.ensures more
    (c.in_ok-bytes.ensures.raw file) (c.in_ok-rest.ensures.raw file))

pub returns-clause-stays : goal.returns-clause-stays
returns-clause-stays g c = λ other file. leads_then (c.in_ok-bytes.ensures.stays other file)
    (c.in_ok-rest.ensures.stays other file)

pub returns-clause-own : goal.returns-clause-own
returns-clause-own g c = λ is. every_then (IsOf ReadsFile) (c.in_ok-bytes.ensures.own is)
    (c.in_ok-rest.ensures.own is)

pub returns-clause-pieces : goal.returns-clause-pieces
returns-clause-pieces g c = every_then AsksInPieces c.in_ok-bytes.ensures.pieces
    c.in_ok-rest.ensures.pieces

pub returns-clause-last : goal.returns-clause-last
returns-clause-last g c =
    adds_as (LastFailed {T = List ℕ} (Ok c.push_all.new.self))
    (every_then AsksInPieces c.in_ok-bytes.ensures.pieces c.in_ok-rest.ensures.pieces)
    (λ added history x. tt)

pub returns-clause-shown : goal.returns-clause-shown
returns-clause-shown g c =
    let first = c.in_ok-bytes.bytes in
    run_twice c.args.name.now c.args.at c.saturating_add-behind.result c.args.size first c.in_ok-rest.rest c.push_all.new.self
    (c.in_ok-push_all.ensures.ok ∙ ap (λ rest. first ++ rest) c.as_slice.ensures)
    (let e = c.if-len.false in let d = c.len.ensures in let z : 1048576 ≤ length first = omega arith in z)
    c.saturating_add-behind.ensures c.in_ok-bytes.ensures.shown c.in_ok-rest.ensures.shown

-- less came than was asked for
pub returns-then-len-clause-raw : goal.returns-then-len-clause-raw
returns-then-len-clause-raw g c = λ file small.
    let first = c.in_ok-bytes.bytes in
    let more : 1048576 ≤ c.args.size = let e = c.if-size-le-PIECE.false in omega arith in
    let short : length first < 1048576 = let e = c.if-len.true in let d = c.len.ensures in omega arith in
    short_run c.args.name.now c.args.at c.args.size first file more short (c.in_ok-bytes.ensures.raw file)

pub returns-then-len-clause-shown : goal.returns-then-len-clause-shown
returns-then-len-clause-shown g c =
    let first = c.in_ok-bytes.bytes in
    let more : 1048576 ≤ c.args.size = let e = c.if-size-le-PIECE.false in omega arith in
    let short : length first < 1048576 = let e = c.if-len.true in let d = c.len.ensures in omega arith in
    run_ended c.args.name.now c.args.at 1048576 c.args.size first more short c.in_ok-bytes.ensures.shown
