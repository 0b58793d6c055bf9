use Rattle.chk_tee_sender.specs.Offers.{acks_of}
use Rattle.chk_tee_sender.proofs.OfferLemmas.{same_lines}
use Rattle.chk_tee_sender.proofs.offers.lines.Goals as goal

pub unreachable-requires : goal.unreachable-requires
unreachable-requires c = c.in-Err.ensures.none (acks_of c.args.offer.now) c.requires.lines.lines

pub returns : goal.returns
returns c = same_lines c.args.offer.now.count _ _ c.args.offer.now.lines.now c.in-Ok.ensures.lines c.requires.lines.lines
