use Rattle.std.proofs.Common.{◌++◌, refl, ap, ◌∙◌}
use Rattle.chk_salvage.proofs.FeedLemmas.{fed_more}
use Rattle.chk_salvage.proofs.pieces.Pieces.feed.Goals as goal

pub returns-clause-fed : goal.returns-clause-fed
returns-clause-fed c fed h =
    fed_more c.args.self.now _ fed c.args.piece.now refl refl
    (c.in_ok-extend_from_slice.ensures.items ∙ ap (λ x. x ++ c.args.piece.now) c.make_room.ensures) h
