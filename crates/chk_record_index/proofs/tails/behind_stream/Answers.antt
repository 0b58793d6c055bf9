use Rattle.std.proofs.Common.{◌++◌, arith}
use Rattle.chk_chunk.specs.Keys.{counted}
use Rattle.chk_chunk.specs.Lent.{lent_chunk}
use Rattle.chk_chunk.proofs.KeyLemmas.{word_fits, stream_facts, key_facts}
use Rattle.chk_record_index.proofs.PassedTails.{not_first, not_behind, both_passed}
use Rattle.chk_record_index.proofs.tails.behind_stream.Goals as goal

pub behind_text-requires : goal.behind_text-requires
behind_text-requires c =
    omega (arith, word_fits _ (stream_facts _ (key_facts (lent_chunk c.args.chunk.now).key c.requires).stream).source)

pub behind_text-requires-2 : goal.behind_text-requires-2
behind_text-requires-2 c =
    omega (arith, word_fits _ (stream_facts _ (key_facts (lent_chunk c.args.chunk.now).key c.requires).stream).kind)

pub behind_text-requires-3 : goal.behind_text-requires-3
behind_text-requires-3 c =
    omega (arith, word_fits _ (stream_facts _ (key_facts (lent_chunk c.args.chunk.now).key c.requires).stream).name)

pub returns-in_err-name : goal.returns-in_err-name
returns-in_err-name c =
    let s = (lent_chunk c.args.chunk.now).key.stream in
    let kind = c.in_ok-kind.kind.now in
    rw c.from_residual-in_err-name.ensures
    (not_behind (counted s.source) (counted s.kind ++ counted s.name) c.args.bytes.now kind c.in_ok-kind.ensures
    (not_first (counted s.kind) (counted s.name) kind c.in_err-name.ensures))

pub returns : goal.returns
returns c =
    let s = (lent_chunk c.args.chunk.now).key.stream in
    let kind = c.in_ok-kind.kind.now in
    both_passed (counted s.source) (counted s.kind ++ counted s.name) c.args.bytes.now kind c.behind_text-3.result
    c.in_ok-kind.ensures
    (both_passed (counted s.kind) (counted s.name) kind c.in_ok-name.name.now c.behind_text-3.result c.in_ok-name.ensures
    c.behind_text-3.ensures)
