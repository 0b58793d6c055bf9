use Rattle.std.proofs.Common.{◌∙◌, [], map, None, Ok, Err, refl, ap}
use Rattle.std.proofs.lemmas.Result.{err_from_is_err_and}
use Rattle.chk_site.proofs.Runs.{adds_as}
use Rattle.chk_world.specs.Books.{Book}
use Rattle.chk_book.specs.declared.book.Book.{Book as Struct}
use Rattle.chk_book.specs.Views.{segment_view, end_view}
use Rattle.chk_record_reader.specs.Merging.{bare_book}
use Rattle.chk_book.proofs.Added.{fails_as, cause_later, spent_same}
use Rattle.chk_join_sources.specs.Copying.{Copies}
use Rattle.chk_book.proofs.Works.{last_of, pieces_of, own_of}
use Rattle.chk_join_sources.proofs.writing.write_chosen.Goals as goal

pub write_segment-requires-clause-bare : goal.write_segment-requires-clause-bare
write_segment-requires-clause-bare g c =
    ap (λ gs. let b : Book = record {
      next = c.args.next;
      segments = map segment_view gs;
      ends = map end_view c.new-2.result;
      aside = None;
    } in b) c.new.ensures
    ∙ ap (λ es. let b : Book = record {
      next = c.args.next;
      segments = [];
      ends = map end_view es;
      aside = None;
    } in b) c.new-2.ensures

pub returns-in_err-write_segment-clause-raw : goal.returns-in_err-write_segment-clause-raw
returns-in_err-write_segment-clause-raw g c =
    let p = err_from_is_err_and c.from_residual.result c.from_residual.ensures.1 in
    rw (p.1, p.2)
    (λ most all held few settled apart left right. c.in_err-write_segment.ensures.raw most all held few settled apart left right)

pub returns-in_err-write_segment-clause-own : goal.returns-in_err-write_segment-clause-own
returns-in_err-write_segment-clause-own g c =
    own_of (Copies c.args.next) (Err c.in_err-write_segment.field-0.0) c.in_err-write_segment.ensures.works

pub returns-in_err-write_segment-clause-pieces : goal.returns-in_err-write_segment-clause-pieces
returns-in_err-write_segment-clause-pieces g c =
    pieces_of (Copies c.args.next) (Err c.in_err-write_segment.field-0.0) c.in_err-write_segment.ensures.works

pub returns-in_err-write_segment-clause-spent : goal.returns-in_err-write_segment-clause-spent
returns-in_err-write_segment-clause-spent g c =
    let p = err_from_is_err_and c.from_residual.result c.from_residual.ensures.1 in
    rw (p.1, p.2)
    (spent_same Struct (Unit {0}) (bare_book c.args.next) c.in_err-write_segment.field-0.0
    c.in_err-write_segment.ensures.spent)

pub returns-in_err-write_segment-clause-last : goal.returns-in_err-write_segment-clause-last
returns-in_err-write_segment-clause-last g c =
    let p = err_from_is_err_and c.from_residual.result c.from_residual.ensures.1 in
    rw (p.1, p.2)
    (fails_as Struct (Unit {0}) c.in_err-write_segment.field-0.0
    (last_of (Copies c.args.next) (Err c.in_err-write_segment.field-0.0) c.in_err-write_segment.ensures.works))

pub returns-in_err-write_segment-clause-cause : goal.returns-in_err-write_segment-clause-cause
returns-in_err-write_segment-clause-cause g c =
    let p = err_from_is_err_and c.from_residual.result c.from_residual.ensures.1 in
    rw (p.1, p.2)
    (cause_later Struct (Unit {0}) c.in_err-write_segment.field-0.0 (g.S.Site.fault_count c.args.site.now)
    (g.S.Site.fault_count c.args.site.now) (g.S.Site.fault_count c.write_segment.new.site) refl c.in_err-write_segment.ensures.cause)

pub returns-clause-raw : goal.returns-clause-raw
returns-clause-raw g c = c.in_ok-write_segment.ensures.raw

pub returns-clause-own : goal.returns-clause-own
returns-clause-own g c = own_of (Copies c.args.next) (Ok tt) c.in_ok-write_segment.ensures.works

pub returns-clause-pieces : goal.returns-clause-pieces
returns-clause-pieces g c = pieces_of (Copies c.args.next) (Ok tt) c.in_ok-write_segment.ensures.works

pub returns-clause-spent : goal.returns-clause-spent
returns-clause-spent g c = c.in_ok-write_segment.ensures.spent

pub returns-clause-cause : goal.returns-clause-cause
returns-clause-cause g c = c.in_ok-write_segment.ensures.cause

pub returns-clause-last : goal.returns-clause-last
returns-clause-last g c = adds_as _ c.in_ok-write_segment.ensures.works (λ added history x. tt)

pub returns-in_err-write_segment-clause-stands : goal.returns-in_err-write_segment-clause-stands
returns-in_err-write_segment-clause-stands g c =
    let p = err_from_is_err_and c.from_residual.result c.from_residual.ensures.1 in
    rw (p.1, p.2) c.in_err-write_segment.ensures.stands

pub returns-clause-stands : goal.returns-clause-stands
returns-clause-stands g c = c.in_ok-write_segment.ensures.stands
