use Rattle.std.proofs.Common.{refl, Ok, Err}
use Rattle.std.proofs.lemmas.Result.{err_from_is_err_and}
use Rattle.chk_site.proofs.Runs.{adds_as, adds_none}
use Rattle.chk_book.specs.Books.{book_view}
use Rattle.chk_book.specs.Views.{end_view}
use Rattle.chk_ctl_cat.specs.declared.stream.Came.{Came}
use Rattle.chk_ctl_cat.specs.declared.stream.Came.TheVariants.{Unknown}
use Rattle.chk_ctl_cat.specs.Archives.{names_of}
use Rattle.chk_ctl_cat.specs.Courses.{stream_of}
use Rattle.chk_ctl_cat.specs.Faults.{FailsLast}
use Rattle.chk_ctl_cat.specs.Streams.{end_of}
use Rattle.chk_ctl_cat.proofs.SegmentLemmas.{looks_last, looks_cause}
use Rattle.chk_ctl_cat.proofs.StreamLemmas.{unknown_seen, booked_seen, unknown_stays, booked_stays}
use Rattle.chk_ctl_cat.proofs.stream.print_booked.Goals as goal

pub returns-in_default : goal.returns-in_default
returns-in_default g c = record {
  told = unknown_seen (g.S.Site.told c.args.site.now) c.args.most (names_of c.args.folder.now (book_view c.args.book.now).segments)
      (end_of (stream_of c.args.course.now) (book_view c.args.book.now).ends) c.args.course.now
      (rw c.as_slice.ensures at (rw c.in_default.is at c.end_of.ensures.none));
  stays = unknown_stays (end_of (stream_of c.args.course.now) (book_view c.args.book.now).ends) c.args.course.now
      (rw c.as_slice.ensures at (rw c.in_default.is at c.end_of.ensures.none));
  last = adds_none (g.S.Site.told c.args.site.now) (FailsLast {T = Came} (Ok Unknown)) (λ history. tt);
  cause = refl;
}

pub returns-in_err-print_archive : goal.returns-in_err-print_archive
returns-in_err-print_archive g c =
    let fault = c.in_err-print_archive.field-0.0 in
    let p = err_from_is_err_and c.from_residual.result c.from_residual.ensures.1 in
    rw (p.1, p.2)
    (record {
      told = booked_seen c.args.most (names_of c.args.folder.now (book_view c.args.book.now).segments)
          (end_of (stream_of c.args.course.now) (book_view c.args.book.now).ends) (end_view c.in-Some.end.now) c.args.course.now
          c.begin_at.new.course c.print_archive.new.course (Err fault)
          (rw c.as_slice.ensures at (rw c.in-Some.is at c.end_of.ensures.some)) c.begin_at.ensures tt c.in_err-print_archive.ensures.told;
      stays = booked_stays (end_of (stream_of c.args.course.now) (book_view c.args.book.now).ends) (end_view c.in-Some.end.now)
          c.args.course.now c.begin_at.new.course c.print_archive.new.course
          (rw c.as_slice.ensures at (rw c.in-Some.is at c.end_of.ensures.some)) c.begin_at.ensures c.print_archive.ensures.keeps;
      last = looks_last Came (Unit {0}) fault (adds_none (g.S.Site.told c.args.site.now) (λ a h. Unit {0}) (λ h. tt)) c.in_err-print_archive.ensures.last;
      cause = looks_cause Came (Unit {0}) fault (g.S.Site.fault_count c.args.site.now) (g.S.Site.fault_count c.args.site.now)
          (g.S.Site.fault_count c.print_archive.new.site) refl c.in_err-print_archive.ensures.cause;
    })

pub returns : goal.returns
returns g c = record {
  told = booked_seen c.args.most (names_of c.args.folder.now (book_view c.args.book.now).segments)
      (end_of (stream_of c.args.course.now) (book_view c.args.book.now).ends) (end_view c.in-Some.end.now) c.args.course.now
      c.begin_at.new.course c.print_archive.new.course (Ok c.outcome_of.result)
      (rw c.as_slice.ensures at (rw c.in-Some.is at c.end_of.ensures.some)) c.begin_at.ensures c.outcome_of.ensures c.in_ok-print_archive.ensures.told;
  stays = booked_stays (end_of (stream_of c.args.course.now) (book_view c.args.book.now).ends) (end_view c.in-Some.end.now)
      c.args.course.now c.begin_at.new.course c.print_archive.new.course
      (rw c.as_slice.ensures at (rw c.in-Some.is at c.end_of.ensures.some)) c.begin_at.ensures c.print_archive.ensures.keeps;
  last = adds_as (FailsLast {T = Came} (Ok c.outcome_of.result)) c.in_ok-print_archive.ensures.told (λ added history x. tt);
  cause = c.in_ok-print_archive.ensures.cause;
}
