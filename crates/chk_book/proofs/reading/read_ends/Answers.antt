use Rattle.std.proofs.Common.{◌≡◌, ◌+◌, map, None, refl, sym, subst}
use Rattle.std.proofs.lemmas.Result.{err_from_is_err_and}
use Rattle.chk_book.specs.Damage.{end_damage, ends_damage}
use Rattle.chk_book.specs.Views.{end_view, lent_stream, last_stream}
use Rattle.chk_book.specs.Found.{IsEndAt}
use Rattle.chk_book.specs.Reading.{IsRefused}
use Rattle.chk_book.proofs.ReadLists.{EndsSo, ends_step, ends_wrong, more_is, refused_on}
use Rattle.chk_book.proofs.reading.read_ends.Goals as goal

pub returns-in_err-end-clause-fault : goal.returns-in_err-end-clause-fault
returns-in_err-end-clause-fault c =
    let p = err_from_is_err_and c.from_residual.result c.from_residual.ensures.1 in
    let bytes = c.args.bytes.now in
    let last : lent_stream c.last.result ≡ last_stream (map end_view c.loop-read.ends) = c.last.ensures in
    rw (p.1, p.2)
    (refused_on (end_damage c.args.starts (last_stream (map end_view c.loop-read.ends)) c.loop-read.at bytes) (ends_damage c.args.count c.args.starts None c.args.from bytes) c.in_err-end.field-0.0
    (λ place wrong. ends_wrong c.args.starts c.args.count c.args.from bytes (map end_view c.loop-read.ends) c.loop-read._read c.loop-read.at place
    c.loop-read.invariant c.loop-read-test.true wrong)
    (subst (λ l. IsRefused (end_damage c.args.starts l c.loop-read.at bytes) c.in_err-end.field-0.0) last c.in_err-end.ensures.fault))

pub loop-read-preserved : goal.loop-read-preserved
loop-read-preserved c =
    let bytes = c.args.bytes.now in
    let es = map end_view c.loop-read.ends in
    let e = end_view c.in_ok-end.end in
    let last : lent_stream c.last.result ≡ last_stream (map end_view c.loop-read.ends) = c.last.ensures in
    subst (λ hs. EndsSo c.args.starts c.args.count c.args.from bytes hs (c.loop-read._read + 1) c.in_ok-end.behind)
    (sym (more_is end_view c.loop-read.ends c.push.new.self c.in_ok-end.end e c.in_ok-push.ensures.ok refl))
    (ends_step c.args.starts c.args.count c.args.from bytes es c.loop-read._read c.loop-read.at e c.in_ok-end.behind c.loop-read.invariant c.loop-read-test.true
    (subst (λ l. IsEndAt c.args.starts l c.loop-read.at bytes e c.in_ok-end.behind) last c.in_ok-end.ensures.end))
