use Rattle.std.proofs.Common.{subst, arith, refl}
use Rattle.chk_ctl_cat.specs.Recents.{IsAlike}
use Rattle.chk_ctl_cat.proofs.NextKey.{next_row}
use Rattle.chk_ctl_cat.proofs.recent.Recent.next.Goals as goal

pub returns : goal.returns
returns c = λ s recent.
    next_row s c.args.self.now c.args.bytes.now (record { of = c.args.self.now.of; start = c.args.self.now.start; seq = c.in_ok-seq.seq })
    (λ i. omega (arith, c.type_inv.bytes i)) (subst (λ last. IsAlike last c.args.bytes.now) c.as_slice.ensures (c.is_alike.ensures c.if-not-is_alike.false)) refl refl
    c.in_ok-seq.ensures.1 (omega (arith, c.if-seq-self.false, c.if-seq.false)) (omega (arith, c.if-seq-self.false, c.if-seq.false)) recent
