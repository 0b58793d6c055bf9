use Rattle.std.proofs.Common.{◌∙◌, map, ap, sym}
use Rattle.std.proofs.lemmas.List.{length-map}
use Rattle.std.proofs.Common.{length}
use Rattle.std.proofs.lemmas.Result.{err_from_is_err_and}
use Rattle.chk_site.specs.History.{Every}
use Rattle.chk_site.proofs.Runs.{adds_none}
use Rattle.chk_record_index.specs.Pieces.{AsksInPieces}
use Rattle.chk_record_index.specs.declared.fault.JobFault.TheVariants.{NoMemory}
use Rattle.chk_book.specs.Views.{end_view}
use Rattle.chk_demux_scan.proofs.Found.{found_all, found_none, found_failed, shows_found, shows_none, shows_not}
use Rattle.chk_demux_scan.proofs.reading.newest_heads.Goals as goal

pub read_back-requires : goal.read_back-requires
read_back-requires g c = record {
  job = c.requires.job;
  places = c.requires.places ∙ (length-map c.args.book.now.ends end_view ∙ sym
      (ap length c.as_slice-ends.ensures));
  begins = c.in_ok-begins.ensures;
  heads = c.new-heads.ensures;
}

pub returns-in_err-begins-clause-raw : goal.returns-in_err-begins-clause-raw
returns-in_err-begins-clause-raw g c held k rise low settled =
    let p = err_from_is_err_and c.from_residual.result c.from_residual.ensures.1 in
    rw (p.1, p.2)
    (found_failed (map end_view c.args.book.now.ends) c.args.places.now c.args.names.now held k
    NoMemory
    (adds_none (g.S.Site.told c.args.site.now) (Every AsksInPieces) (λ history. tt)))

pub returns-in_err-begins-clause-shown : goal.returns-in_err-begins-clause-shown
returns-in_err-begins-clause-shown g c rise =
    let p = err_from_is_err_and c.from_residual.result c.from_residual.ensures.1 in
    rw (p.1, p.2)
    (shows_not (map end_view c.args.book.now.ends) c.args.places.now c.args.names.now NoMemory
    (adds_none (g.S.Site.told c.args.site.now) (Every AsksInPieces) (λ history. tt)))

pub returns-in_err-read_back-clause-raw : goal.returns-in_err-read_back-clause-raw
returns-in_err-read_back-clause-raw g c held k rise low settled =
    let r = c.from_residual-in_err-read_back in
    let p = err_from_is_err_and r.result r.ensures.1 in
    rw (p.1, p.2)
    (found_failed (map end_view c.args.book.now.ends) c.args.places.now c.args.names.now held k
    c.in_err-read_back.field-0.0 c.in_err-read_back.ensures.pieces)

pub returns-in_err-read_back-clause-shown : goal.returns-in_err-read_back-clause-shown
returns-in_err-read_back-clause-shown g c rise =
    let r = c.from_residual-in_err-read_back in
    let p = err_from_is_err_and r.result r.ensures.1 in
    rw (p.1, p.2)
    (shows_not (map end_view c.args.book.now.ends) c.args.places.now c.args.names.now
    c.in_err-read_back.field-0.0 c.in_err-read_back.ensures.pieces)

pub returns-then-not-branch-clause-raw : goal.returns-then-not-branch-clause-raw
returns-then-not-branch-clause-raw g c held k rise low settled =
    found_none c.as_slice-ends.result.now c.args.book.now.ends c.as_slice-ends.ensures rise
    c.args.places.now
    c.args.names.now held k c.read_back.new.heads c.in_ok-read_back.field-0 c.if-not-branch.true
    (λ up. c.in_ok-read_back.ensures.raw held k up low settled)

pub returns-then-not-branch-clause-shown : goal.returns-then-not-branch-clause-shown
returns-then-not-branch-clause-shown g c rise =
    shows_none (map end_view c.args.book.now.ends) c.args.places.now c.args.names.now
    c.in_ok-read_back.ensures.pieces

pub returns-in_err-sort-clause-raw : goal.returns-in_err-sort-clause-raw
returns-in_err-sort-clause-raw g c held k rise low settled =
    let r = c.from_residual-in_err-sort in
    let p = err_from_is_err_and r.result r.ensures.1 in
    rw (p.1, p.2)
    (found_failed (map end_view c.args.book.now.ends) c.args.places.now c.args.names.now held k
    NoMemory
    c.in_ok-read_back.ensures.pieces)

pub returns-in_err-sort-clause-shown : goal.returns-in_err-sort-clause-shown
returns-in_err-sort-clause-shown g c rise =
    let r = c.from_residual-in_err-sort in
    let p = err_from_is_err_and r.result r.ensures.1 in
    rw (p.1, p.2)
    (shows_not (map end_view c.args.book.now.ends) c.args.places.now c.args.names.now NoMemory
    c.in_ok-read_back.ensures.pieces)

pub returns-clause-raw : goal.returns-clause-raw
returns-clause-raw g c held k rise low settled =
    found_all c.as_slice-ends.result.now c.args.book.now.ends c.as_slice-ends.ensures rise
    c.args.places.now
    c.args.names.now held k c.read_back.new.heads c.sort.new.self c.in_ok-sort.ensures.ok
    c.in_ok-read_back.field-0 c.if-not-branch.false
    (λ up. c.in_ok-read_back.ensures.raw held k up low settled)

pub returns-clause-shown : goal.returns-clause-shown
returns-clause-shown g c rise =
    shows_found c.as_slice-ends.result.now c.args.book.now.ends c.as_slice-ends.ensures rise
    c.args.places.now c.args.names.now
    c.read_back.new.heads c.sort.new.self c.in_ok-sort.ensures.ok c.in_ok-read_back.field-0
    c.if-not-branch.false
    c.in_ok-read_back.ensures.shown
