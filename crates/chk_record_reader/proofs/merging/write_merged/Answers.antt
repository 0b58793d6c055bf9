use Rattle.std.proofs.Common.{◌∙◌, [], map, None, refl, ap}
use Rattle.std.proofs.lemmas.Result.{err_from_is_err_and}
use Rattle.chk_site.proofs.Runs.{adds_as}
use Rattle.chk_world.specs.Books.{Book}
use Rattle.chk_book.specs.declared.book.Book.{Book as Struct}
use Rattle.chk_book.specs.Views.{segment_view, end_view}
use Rattle.chk_record_reader.specs.Merging.{bare_book}
use Rattle.chk_book.proofs.Added.{fails_as, cause_later}
use Rattle.chk_record_reader.proofs.MergedInto.{spent_same}
use Rattle.chk_record_index.proofs.Causes.{shows_first}
use Rattle.chk_record_reader.specs.Gone.{IsGoneIn}
use Rattle.chk_record_reader.proofs.merging.write_merged.Goals as goal

pub write_segment-requires-clause-bare : goal.write_segment-requires-clause-bare
write_segment-requires-clause-bare g c =
    ap (λ gs. let b : Book = record {
      next = c.args.next;
      segments = map segment_view gs;
      ends =
          map end_view c.new-2.result;
      aside = None;
    } in b) c.new.ensures
    ∙ ap (λ es. let b : Book = record {
      next = c.args.next;
      segments = [];
      ends = map end_view es;
      aside = None;
    } in b) c.new-2.ensures

pub returns-in_err-write_segment-clause-raw : goal.returns-in_err-write_segment-clause-raw
returns-in_err-write_segment-clause-raw g c =
    let p = err_from_is_err_and c.from_residual.result c.from_residual.ensures.1 in
    rw (p.1, p.2)
    (λ held is settled apart. c.in_err-write_segment.ensures.raw held is settled apart)

pub returns-in_err-write_segment-clause-own : goal.returns-in_err-write_segment-clause-own
returns-in_err-write_segment-clause-own g c = c.in_err-write_segment.ensures.own

pub returns-in_err-write_segment-clause-pieces : goal.returns-in_err-write_segment-clause-pieces
returns-in_err-write_segment-clause-pieces g c = c.in_err-write_segment.ensures.pieces

pub returns-in_err-write_segment-clause-spent : goal.returns-in_err-write_segment-clause-spent
returns-in_err-write_segment-clause-spent g c =
    let p = err_from_is_err_and c.from_residual.result c.from_residual.ensures.1 in
    rw (p.1, p.2)
    (spent_same (Unit {0}) Struct (bare_book c.args.next) (bare_book c.args.next)
    c.in_err-write_segment.field-0.0 refl c.in_err-write_segment.ensures.spent)

pub returns-in_err-write_segment-clause-last : goal.returns-in_err-write_segment-clause-last
returns-in_err-write_segment-clause-last g c =
    let p = err_from_is_err_and c.from_residual.result c.from_residual.ensures.1 in
    rw (p.1, p.2)
    (fails_as Struct (Unit {0}) c.in_err-write_segment.field-0.0
    c.in_err-write_segment.ensures.last)

pub returns-in_err-write_segment-clause-cause : goal.returns-in_err-write_segment-clause-cause
returns-in_err-write_segment-clause-cause g c =
    let p = err_from_is_err_and c.from_residual.result c.from_residual.ensures.1 in
    rw (p.1, p.2)
    (cause_later Struct (Unit {0}) c.in_err-write_segment.field-0.0 (g.S.Site.fault_count
    c.args.site.now) (g.S.Site.fault_count c.args.site.now)
    (g.S.Site.fault_count c.write_segment.new.site) refl c.in_err-write_segment.ensures.cause)

pub returns-clause-raw : goal.returns-clause-raw
returns-clause-raw g c = c.in_ok-write_segment.ensures.raw

pub returns-clause-own : goal.returns-clause-own
returns-clause-own g c = c.in_ok-write_segment.ensures.own

pub returns-clause-pieces : goal.returns-clause-pieces
returns-clause-pieces g c = c.in_ok-write_segment.ensures.pieces

pub returns-clause-spent : goal.returns-clause-spent
returns-clause-spent g c = c.in_ok-write_segment.ensures.spent

pub returns-clause-cause : goal.returns-clause-cause
returns-clause-cause g c = c.in_ok-write_segment.ensures.cause

pub returns-clause-last : goal.returns-clause-last
returns-clause-last g c = adds_as _ c.in_ok-write_segment.ensures.last (λ added history x. tt)

pub returns-in_err-write_segment-clause-shown : goal.returns-in_err-write_segment-clause-shown
returns-in_err-write_segment-clause-shown g c =
    let p = err_from_is_err_and c.from_residual.result c.from_residual.ensures.1 in
    rw (p.1, p.2)
    (shows_first Struct (Unit {0}) (IsGoneIn c.args.names.now c.args.heads.now) c.in_err-write_segment.field-0.0
    c.in_err-write_segment.ensures.shown)

pub returns-clause-shown : goal.returns-clause-shown
returns-clause-shown g c = adds_as _ c.in_ok-write_segment.ensures.shown (λ added history x. tt)

pub returns-clause-next : goal.returns-clause-next
returns-clause-next g c = c.in_ok-write_segment.ensures.next
