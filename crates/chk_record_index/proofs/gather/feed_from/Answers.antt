use Rattle.std.proofs.lemmas.List.{take_rest}
use Rattle.chk_record_index.proofs.Passing.{fed_behind}
use Rattle.chk_record_index.proofs.gather.feed_from.Goals as goal

pub returns-in_ok-feed-in-Some-clause-ok : goal.returns-in_ok-feed-in-Some-clause-ok
returns-in_ok-feed-in-Some-clause-ok c =
    rw c.in-Some.is
    (fed_behind c.args.pieces.now c.pass.new.self c.feed.new.self c.in-Some.last c.args.piece.now _ c.requires.some (take_rest c.args.piece.now 1)
    c.pass.ensures.past.0 c.in_ok-feed-in-Some.ensures.same.2 c.pass.ensures.fed c.in_ok-feed-in-Some.ensures.fed)
