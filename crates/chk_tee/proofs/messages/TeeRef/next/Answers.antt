use Rattle.std.proofs.Common.{◌-◌, ap, ◌∙◌}
use Rattle.chk_tee.specs.Faults.{teeds_wrong}
use Rattle.chk_tee.proofs.MessageGrammar.{one_and_more}
use Rattle.chk_tee.proofs.messages.TeeRef.next.Goals as goal

pub invariant_of-self : goal.invariant_of-self
invariant_of-self c =
    let p = c.self.inside in
    ap (λ n. teeds_wrong (p.left - 1) n p.bytes.now) c.in-Ok.ensures.teed.behind
    ∙ (one_and_more p.left p.at p.bytes.now c.if-self-eq0.false c.self.invariant).1

pub unreachable-requires : goal.unreachable-requires
unreachable-requires c =
    let p = c.self.inside in
    let fine = (one_and_more p.left p.at p.bytes.now c.if-self-eq0.false c.self.invariant).0 in
    let fault = c.in-Err.ensures.fault in
    absurd (cc (fine, fault))
