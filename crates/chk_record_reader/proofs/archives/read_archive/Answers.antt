use Rattle.std.proofs.Common.{ℕ, List, None, Ok, Err, map, refl, ap, sym, subst}
use Rattle.std.proofs.lemmas.Result.{err_from_is_err_and}
use Rattle.chk_chunk.specs.Keys.{Stream}
use Rattle.chk_world.specs.JobSteps.{IsOf, ReadsFile}
use Rattle.chk_record_index.specs.Pieces.{AsksInPieces}
use Rattle.chk_record_index.proofs.Gathering.{every_then, no_failure}
use Rattle.chk_book.specs.Books.{book_view}
use Rattle.chk_book.specs.Views.{end_view}
use Rattle.chk_book.proofs.Added.{fails_later, fails_as, cause_later, cause_then}
use Rattle.chk_record_index.specs.Heads.{Head}
use Rattle.chk_record_reader.specs.Segments.{AreSettled}
use Rattle.chk_record_reader.specs.Streams.{stream_of}
use Rattle.chk_record_reader.specs.Courses.{end_of, IsBreakBy}
use Rattle.chk_record_reader.specs.Archives.{ToldBreak}
use Rattle.chk_record_reader.proofs.Archived.{archived, not_sound, not_run, gathered_as, joined_as, told_of_read, told_no_call, told_cause}
use Rattle.chk_record_index.proofs.Causes.{shows_as}
use Rattle.chk_record_reader.specs.Gone.{IsUnsound, IsUnreadable, unsound}
use Rattle.chk_record_reader.proofs.Causes.{sound_bad, sound_broken, unreadable_so}
use Rattle.chk_record_reader.proofs.archives.read_archive.Goals as goal

pub returns-in_err-heads-clause-raw : goal.returns-in_err-heads-clause-raw
returns-in_err-heads-clause-raw g c held is settled =
    let folder = c.args.folder.now in
    let b = book_view c.args.book.now in
    let s : Stream = stream_of c.args.stream.now in
    let p = err_from_is_err_and c.from_residual.result
    c.from_residual.ensures.1 in
    let are = c.requires in
    rw (p.1, p.2)
    (not_sound folder b held s c.in_err-heads.field-0.0
    (gathered_as folder b held c.args.names.now c.most_in.result
    (Err c.in_err-heads.field-0.0) are c.most_in.ensures.most
    (c.in_err-heads.ensures.raw held is (subst (λ ws. AreSettled ws held) (sym are) settled))))

pub returns-in-Some-clause-raw : goal.returns-in-Some-clause-raw
returns-in-Some-clause-raw g c held is settled =
    let folder = c.args.folder.now in
    let b = book_view c.args.book.now in
    let s : Stream = stream_of c.args.stream.now in
    let heads = c.in_ok-heads.heads in
    let are = c.requires in
    let told = subst (λ ws. ToldBreak folder b ws s heads c.break_fault.result)
    c.requires c.break_fault.ensures in
    not_run folder b held s heads c.break_fault.result told
    (gathered_as folder b held c.args.names.now c.most_in.result
    (Ok heads) are c.most_in.ensures.most
    (c.in_ok-heads.ensures.raw held is (subst (λ ws. AreSettled ws held) (sym are) settled)))

pub returns-in-Some-clause-only : goal.returns-in-Some-clause-only
returns-in-Some-clause-only g c =
    told_of_read c.args.folder.now (book_view c.args.book.now) c.args.names.now _
    c.in_ok-heads.heads c.break_fault.result c.break_fault.ensures

pub returns-in-Some-clause-last : goal.returns-in-Some-clause-last
returns-in-Some-clause-last g c =
    no_failure {T = List ℕ} (Err c.break_fault.result)
    (told_no_call c.args.folder.now (book_view c.args.book.now) c.args.names.now _
    c.in_ok-heads.heads c.break_fault.result c.break_fault.ensures)
    c.in_ok-heads.ensures.pieces

pub returns-in-Some-clause-cause : goal.returns-in-Some-clause-cause
returns-in-Some-clause-cause g c =
    told_cause c.args.folder.now (book_view c.args.book.now) c.args.names.now _
    c.in_ok-heads.heads c.break_fault.result c.break_fault.ensures
    (g.S.Site.fault_count c.args.site.now) (g.S.Site.fault_count c.gather_all.new.site)
    c.in_ok-heads.ensures.cause

pub returns-clause-raw : goal.returns-clause-raw
returns-clause-raw g c held is settled =
    let folder = c.args.folder.now in
    let b = book_view c.args.book.now in
    let s : Stream = stream_of c.args.stream.now in
    let heads = c.in_ok-heads.heads in
    let are = c.requires in
    let ends = ap (map end_view) c.as_slice.ensures in
    let fine : IsBreakBy s (end_of s b.ends) heads None =
    subst (λ es. IsBreakBy s (end_of s es) heads None) ends (subst (IsBreakBy s (end_of s
    (map end_view c.as_slice.result.now)) heads) c.in_default.is c.stream_break.ensures) in
    archived folder b held s heads c.joined.result fine
    (gathered_as folder b held c.args.names.now c.most_in.result
    (Ok heads) are c.most_in.ensures.most
    (c.in_ok-heads.ensures.raw held is (subst (λ ws. AreSettled ws held) (sym are) settled)))
    (joined_as folder b held s heads c.args.names.now c.most_in.result c.joined.result are
    c.most_in.ensures.most
    (c.joined.ensures.raw c.most_in.result held c.most_in.ensures.few (subst
    (λ ws. AreSettled ws held) (sym are) settled)))

pub returns-clause-own : goal.returns-clause-own
returns-clause-own g c = λ is. every_then (IsOf ReadsFile) (c.in_ok-heads.ensures.own is)
    (c.joined.ensures.own is)

pub returns-clause-pieces : goal.returns-clause-pieces
returns-clause-pieces g c = every_then AsksInPieces c.in_ok-heads.ensures.pieces
    c.joined.ensures.pieces

pub returns-clause-last : goal.returns-clause-last
returns-clause-last g c = fails_later c.joined.result c.in_ok-heads.ensures.pieces
    c.joined.ensures.last

pub returns-in_err-heads-clause-only : goal.returns-in_err-heads-clause-only
returns-in_err-heads-clause-only g c =
    let p = err_from_is_err_and c.from_residual.result c.from_residual.ensures.1 in
    rw (p.1, p.2)
    (c.in_err-heads.ensures.only)

pub returns-in_err-heads-clause-last : goal.returns-in_err-heads-clause-last
returns-in_err-heads-clause-last g c =
    let p = err_from_is_err_and c.from_residual.result c.from_residual.ensures.1 in
    rw (p.1, p.2)
    (fails_as (List ℕ) (List Head) c.in_err-heads.field-0.0 c.in_err-heads.ensures.last)

pub returns-in_err-heads-clause-cause : goal.returns-in_err-heads-clause-cause
returns-in_err-heads-clause-cause g c =
    let p = err_from_is_err_and c.from_residual.result c.from_residual.ensures.1 in
    rw (p.1, p.2)
    (cause_later (List ℕ) (List Head) c.in_err-heads.field-0.0 (g.S.Site.fault_count
    c.args.site.now)
    (g.S.Site.fault_count c.args.site.now) (g.S.Site.fault_count c.gather_all.new.site) refl
    c.in_err-heads.ensures.cause)

pub returns-in_err-heads-clause-own : goal.returns-in_err-heads-clause-own
returns-in_err-heads-clause-own g c = c.in_err-heads.ensures.own

pub returns-in-Some-clause-own : goal.returns-in-Some-clause-own
returns-in-Some-clause-own g c = c.in_ok-heads.ensures.own

pub returns-in_err-heads-clause-pieces : goal.returns-in_err-heads-clause-pieces
returns-in_err-heads-clause-pieces g c = c.in_err-heads.ensures.pieces

pub returns-in-Some-clause-pieces : goal.returns-in-Some-clause-pieces
returns-in-Some-clause-pieces g c = c.in_ok-heads.ensures.pieces

pub returns-clause-only : goal.returns-clause-only
returns-clause-only g c = c.joined.ensures.only

pub returns-clause-cause : goal.returns-clause-cause
returns-clause-cause g c =
    cause_then c.joined.result (g.S.Site.fault_count c.args.site.now) (g.S.Site.fault_count
    c.gather_all.new.site)
    (g.S.Site.fault_count c.joined.new.site) c.in_ok-heads.ensures.cause c.joined.ensures.cause

pub returns-in_err-heads-clause-shown : goal.returns-in_err-heads-clause-shown
returns-in_err-heads-clause-shown g c =
    let p = err_from_is_err_and c.from_residual.result c.from_residual.ensures.1 in
    let folder = c.args.folder.now in
    let b = book_view c.args.book.now in
    rw (p.1, p.2)
    (shows_as (List ℕ) (Unit {0}) (IsUnsound folder b) (IsUnreadable folder b)
    (λ name at added history x. unsound x) c.in_err-heads.field-0.0
    (sound_bad folder b c.args.names.now c.most_in.result c.requires c.most_in.ensures.most
    c.in_err-heads.field-0.0 c.in_err-heads.ensures.shown))

pub returns-in-Some-clause-shown : goal.returns-in-Some-clause-shown
returns-in-Some-clause-shown g c =
    let folder = c.args.folder.now in
    let b = book_view c.args.book.now in
    shows_as (List ℕ) (Unit {0}) (IsUnsound folder b) (IsUnreadable folder b)
    (λ name at added history x. unsound x) c.break_fault.result
    (sound_broken folder b c.args.names.now c.most_in.result c.requires c.most_in.ensures.most
    c.in_ok-heads.heads c.break_fault.result
    (stream_of c.args.stream.now, c.break_fault.ensures) c.in_ok-heads.ensures.shown)

pub returns-clause-shown : goal.returns-clause-shown
returns-clause-shown g c =
    unreadable_so c.args.folder.now (book_view c.args.book.now) c.args.names.now c.most_in.result
    c.requires c.most_in.ensures.most c.in_ok-heads.heads c.joined.result
    c.in_ok-heads.ensures.shown c.joined.ensures.shown
