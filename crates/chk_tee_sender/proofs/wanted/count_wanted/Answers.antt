use Rattle.std.proofs.Common.{arith}
use Rattle.chk_tee.proofs.PassingLemmas.{fewer}
use Rattle.chk_tee_sender.specs.Offers.{items_of}
use Rattle.chk_tee_sender.proofs.OfferLemmas.{offer_facts}
use Rattle.chk_tee_sender.proofs.wanted.count_wanted.Goals as goal

pub overflow_add-count : goal.overflow_add-count
overflow_add-count c =
    let o = c.args.offer.now in
    omega (arith, c.loop-chunk.invariant, fewer c.args.filter.now (items_of o), (offer_facts o c.requires).few)
