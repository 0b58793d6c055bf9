use Rattle.std.proofs.Common.{◌∙◌, ◌++◌, ap, sym, get_or}
use Rattle.std.proofs.lemmas.Result.{err_from_is_err_and}
use Rattle.chk_site.proofs.Runs.{adds_none, adds_as}
use Rattle.chk_record_index.specs.Order.{no_head}
use Rattle.chk_record_reader.specs.Streams.{stream_of}
use Rattle.chk_record_reader.specs.Courses.{is_head_of}
use Rattle.chk_record_reader.proofs.Joining.{other_joined, one_joined, not_one, no_memory_one}
use Rattle.chk_record_reader.proofs.archives.join_one.Goals as goal

pub returns-then-not-has-clause-raw : goal.returns-then-not-has-clause-raw
returns-then-not-has-clause-raw g c most held few settled =
    let s = stream_of c.args.stream.now in
    let heads = c.args.heads.now in
    other_joined s most c.args.names.now held heads c.args.reader.now c.args.bytes.now c.args.index
    (g.S.Site.told c.args.site.now) c.requires
    (sym (c.has.ensures ∙ ap (is_head_of s) c.get.ensures.head) ∙ c.if-not-has.true)

pub returns-in_err-fetch-clause-raw : goal.returns-in_err-fetch-clause-raw
returns-in_err-fetch-clause-raw g c most held few settled =
    let p = err_from_is_err_and c.from_residual.result c.from_residual.ensures.1 in
    rw (p.1, p.2)
    (not_one (stream_of c.args.stream.now) most c.args.names.now held c.args.heads.now
    c.args.reader.now c.fetch.new.reader c.args.bytes.now c.args.bytes.now
    c.args.index (get_or c.args.heads.now c.args.index no_head) c.in_err-fetch.field-0.0
    (c.in_err-fetch.ensures.raw most held few settled))

pub returns-in_err-push_all-clause-raw : goal.returns-in_err-push_all-clause-raw
returns-in_err-push_all-clause-raw g c most held few settled =
    let p = err_from_is_err_and c.from_residual-in_err-push_all.result
    c.from_residual-in_err-push_all.ensures.1 in
    rw (p.1, p.2)
    (no_memory_one (stream_of c.args.stream.now) most c.args.names.now held c.args.heads.now
    c.args.reader.now c.fetch.new.reader c.args.bytes.now
    c.push_all.new.self c.args.index c.in_ok-fetch.ensures.pieces)

pub returns-clause-raw : goal.returns-clause-raw
returns-clause-raw g c most held few settled =
    let s = stream_of c.args.stream.now in
    let bytes = c.args.bytes.now in
    one_joined s most c.args.names.now held c.args.heads.now c.args.reader.now c.fetch.new.reader
    bytes c.push_all.new.self c.args.index c.requires
    (sym (c.has.ensures ∙ ap (is_head_of s) c.get.ensures.head) ∙ c.if-not-has.false)
    (c.in_ok-push_all.ensures.ok ∙ ap (λ v. bytes ++ v) c.value.ensures)
    (c.in_ok-fetch.ensures.raw most held few settled)

pub returns-then-not-has-clause-shown : goal.returns-then-not-has-clause-shown
returns-then-not-has-clause-shown g c = adds_none _ _ (λ history. tt)

pub returns-in_err-fetch-clause-shown : goal.returns-in_err-fetch-clause-shown
returns-in_err-fetch-clause-shown g c =
    let p = err_from_is_err_and c.from_residual.result c.from_residual.ensures.1 in
    rw (p.1, p.2) c.in_err-fetch.ensures.shown

pub returns-in_err-push_all-clause-shown : goal.returns-in_err-push_all-clause-shown
returns-in_err-push_all-clause-shown g c =
    let p = err_from_is_err_and c.from_residual-in_err-push_all.result
    c.from_residual-in_err-push_all.ensures.1 in
    rw (p.1, p.2) (adds_as _ c.in_ok-fetch.ensures.pieces (λ added history x. tt))

pub returns-clause-shown : goal.returns-clause-shown
returns-clause-shown g c = adds_as _ c.in_ok-fetch.ensures.pieces (λ added history x. tt)
