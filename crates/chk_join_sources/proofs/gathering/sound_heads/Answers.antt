use Rattle.std.proofs.Common.{List, Ok, Err, sym, subst}
use Rattle.std.proofs.lemmas.Result.{err_from_is_err_and}
use Rattle.chk_record_index.specs.Heads.{Head}
use Rattle.chk_record_index.proofs.Gathering.{no_failure}
use Rattle.chk_book.specs.Books.{book_view}
use Rattle.chk_record_reader.specs.Segments.{AreSettled}
use Rattle.chk_record_reader.specs.Checking.{ToldOfSome}
use Rattle.chk_record_reader.proofs.Archived.{gathered_as}
use Rattle.chk_record_reader.proofs.SoundHeads.{heads_sound, heads_bad, heads_broken, some_of_read, some_no_call, some_cause}
use Rattle.chk_join_sources.proofs.gathering.sound_heads.Goals as goal

pub returns-in_err-heads-clause-raw : goal.returns-in_err-heads-clause-raw
returns-in_err-heads-clause-raw g c held is settled =
    let folder = c.args.folder.now in
    let b = book_view c.args.book.now in
    let p = err_from_is_err_and c.from_residual.result c.from_residual.ensures.1 in
    rw (p.1, p.2)
    (heads_bad folder b held c.in_err-heads.field-0.0
    (gathered_as folder b held c.args.names.now c.most_in.result (Err c.in_err-heads.field-0.0) c.requires c.most_in.ensures.most
    (c.in_err-heads.ensures.raw held is (subst (λ ws. AreSettled ws held) (sym c.requires) settled))))

pub returns-in_err-put_in_order-clause-raw : goal.returns-in_err-put_in_order-clause-raw
returns-in_err-put_in_order-clause-raw g c held is settled =
    let folder = c.args.folder.now in
    let b = book_view c.args.book.now in
    let r = c.from_residual-in_err-put_in_order in
    let p = err_from_is_err_and r.result r.ensures.1 in
    rw (p.1, p.2)
    (heads_broken folder b held c.in_ok-heads.heads c.in_err-put_in_order.field-0.0
    (subst (λ ws. ToldOfSome folder b ws c.in_ok-heads.heads c.in_err-put_in_order.field-0.0)
    c.requires c.in_err-put_in_order.ensures.err)
    (gathered_as folder b held c.args.names.now c.most_in.result (Ok c.in_ok-heads.heads) c.requires c.most_in.ensures.most
    (c.in_ok-heads.ensures.raw held is (subst (λ ws. AreSettled ws held) (sym c.requires) settled))))

pub returns-in_err-put_in_order-clause-only : goal.returns-in_err-put_in_order-clause-only
returns-in_err-put_in_order-clause-only g c =
    let r = c.from_residual-in_err-put_in_order in
    let p = err_from_is_err_and r.result r.ensures.1 in
    rw (p.1, p.2)
    (some_of_read c.args.folder.now (book_view c.args.book.now) c.args.names.now
    c.in_ok-heads.heads c.in_err-put_in_order.field-0.0
    c.in_err-put_in_order.ensures.err)

pub returns-in_err-put_in_order-clause-last : goal.returns-in_err-put_in_order-clause-last
returns-in_err-put_in_order-clause-last g c =
    let r = c.from_residual-in_err-put_in_order in
    let p = err_from_is_err_and r.result r.ensures.1 in
    rw (p.1, p.2)
    (no_failure {T = List Head} (Err c.in_err-put_in_order.field-0.0)
    (some_no_call c.args.folder.now (book_view c.args.book.now) c.args.names.now
    c.in_ok-heads.heads c.in_err-put_in_order.field-0.0
    c.in_err-put_in_order.ensures.err) c.in_ok-heads.ensures.pieces)

pub returns-in_err-put_in_order-clause-cause : goal.returns-in_err-put_in_order-clause-cause
returns-in_err-put_in_order-clause-cause g c =
    let r = c.from_residual-in_err-put_in_order in
    let p = err_from_is_err_and r.result r.ensures.1 in
    rw (p.1, p.2)
    (some_cause c.args.folder.now (book_view c.args.book.now) c.args.names.now c.in_ok-heads.heads
    c.in_err-put_in_order.field-0.0
    c.in_err-put_in_order.ensures.err (g.S.Site.fault_count c.args.site.now) (g.S.Site.fault_count
    c.gather_all.new.site)
    c.in_ok-heads.ensures.cause)

pub returns-clause-raw : goal.returns-clause-raw
returns-clause-raw g c held is settled =
    let folder = c.args.folder.now in
    let b = book_view c.args.book.now in
    heads_sound folder b held c.in_ok-heads.heads c.put_in_order.new.heads
    c.in_ok-put_in_order.ensures.well c.in_ok-put_in_order.ensures.order
    (gathered_as folder b held c.args.names.now c.most_in.result (Ok c.in_ok-heads.heads) c.requires c.most_in.ensures.most
    (c.in_ok-heads.ensures.raw held is (subst (λ ws. AreSettled ws held) (sym c.requires) settled)))
