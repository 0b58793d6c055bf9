use Rattle.std.proofs.Common.{List, Ok, subst, arith}
use Rattle.chk_tee.specs.Messages.{Teed}
use Rattle.chk_tee_sender.specs.Offers.{passed, chunks_of, acks_of, teeds_of}
use Rattle.chk_tee_sender.specs.Passing.{Passes}
use Rattle.chk_tee_sender.specs.Sending.{PassesOn}
use Rattle.chk_tee_sender.specs.declared.Subscriber.{Subscriber}
use Rattle.chk_tee_sender.proofs.OfferLemmas.{one_offer}
use Rattle.chk_tee_sender.proofs.PassingLemmas.{nobody}
use Rattle.chk_tee_sender.proofs.tees.Tees.pass.Goals as goal

pub returns-then-len-eq0-clause-told : goal.returns-then-len-eq0-clause-told
returns-then-len-eq0-clause-told g c chunks acks p =
    let told = g.S.Site.told c.args.site.now in
    subst (λ (xs : List Subscriber). PassesOn c.args.who.now (teeds_of chunks acks) xs xs 0 0 (Ok tt) told told) c.self.view_is
    (nobody c.args.who.now (teeds_of chunks acks) c.self.inside.standing.items told (omega (arith, c.if-len-eq0.true)))

pub returns-in-Some-clause-told : goal.returns-in-Some-clause-told
returns-in-Some-clause-told g c chunks acks p =
    let o = c.in-Some.offer in
    let who = c.args.who.now in
    let after : List Subscriber = c.pass_on.new.standing.items in
    let old = g.S.Site.told c.args.site.now in
    let new = g.S.Site.told c.pass_on.new.site in
    subst (λ (before : List Subscriber). Passes who (teeds_of chunks acks) before after c.pass_on.result old new) c.self.view_is
    (subst (λ (ts : List Teed). Passes who ts c.self.inside.standing.items after c.pass_on.result old new)
    (one_offer c.args.request.now c.args.reply.now (chunks_of o) chunks (acks_of o) acks c.in-Some.ensures.some.of p) c.pass_on.ensures.told)

pub returns-in-Some-clause-did : goal.returns-in-Some-clause-did
returns-in-Some-clause-did g c =
    rw (← c.self.view_is)
    (passed (chunks_of c.in-Some.offer) (acks_of c.in-Some.offer) c.in-Some.ensures.some.of
    c.pass_on.ensures.told)
