use Rattle.std.proofs.Common.{◌∙◌, ◌-◌, map, ap, sym, arith}
use Rattle.std.proofs.lemmas.List.{length-map}
use Rattle.chk_chunk.specs.Keys.{stream_lt}
use Rattle.chk_world.specs.Books.{End}
use Rattle.chk_book.specs.Views.{end_view}
use Rattle.chk_record_reader.specs.OnePass.{end_at}
use Rattle.chk_record_reader.proofs.OnePass.{end_there, rising_more, rising_once}
use Rattle.chk_record_reader.proofs.one_pass.is_rising.Goals as goal

pub loop-index-preserved : goal.loop-index-preserved
loop-index-preserved c =
    let ends = c.args.ends.now in
    let es = map end_view ends in
    let first = c.index-ends-index in
    let second = c.index-ends-index-in-loop-index in
    let i = c.loop-index.index in
    let some = c.loop-index.auto.index in
    let below = c.loop-index-test.true in
    let a = end_there ends (i - 1) first.result (omega (arith, some, below)) first.is in
    let b = end_there ends i second.result below second.is in
    rising_more es i some c.loop-index.invariant
    (sym
    (c.if-not-is_before.ensures
    ∙ (ap (λ (e : End). stream_lt e.stream (end_view second.result).stream) a
    ∙ ap (λ (e : End). stream_lt (end_at es (i - 1)).stream e.stream) b)))

pub returns : goal.returns
returns c = λ _.
    rising_once (map end_view c.args.ends.now) c.loop-index.index
    (let same = length-map c.args.ends.now end_view in let past = c.loop-index-test.false in omega (arith, same, past))
    c.loop-index.invariant
