use Rattle.std.proofs.Common.{List, ◌++◌, ◌∙◌, ap₂, arith}
use Rattle.chk_chunk.specs.Keys.{Chunk}
use Rattle.chk_http_grammar.specs.Messages.{Ack}
use Rattle.chk_tee.specs.Messages.{written_teeds}
use Rattle.chk_tee.specs.Filters.{passing}
use Rattle.chk_tee_sender.specs.Offers.{teeds_of}
use Rattle.chk_tee_sender.proofs.WantedLemmas.{wanted_whole}
use Rattle.chk_tee_sender.proofs.wanted.write_wanted.Goals as goal

pub returns : goal.returns
returns c =
    let f = c.args.filter.now in
    let head = c.put_tee_head.new.out in
    wanted_whole f c.args.offer.now _ _ head _ c.requires c.count_wanted-count.ensures (omega (arith, c.if-count-eq0.false)) c.new-out.ensures
    c.in_ok-put_tee_head.ensures
    (c.in_ok-push_wanted.ensures
    ∙ ap₂ (λ (cs : List Chunk) (xs : List Ack). head ++ written_teeds (passing f (teeds_of cs xs))) c.chunks.ensures c.lines.ensures)
