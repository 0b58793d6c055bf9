use Rattle.chk_tee_sender.specs.Offers.{chunks_of}
use Rattle.chk_tee_sender.proofs.offers.chunks.Goals as goal

pub unreachable-requires : goal.unreachable-requires
unreachable-requires c = c.in-Err.ensures.every_post (chunks_of c.args.offer.now) c.requires.post

pub returns : goal.returns
returns c = c.in-Ok.ensures.every_post (chunks_of c.args.offer.now) c.requires.post
