use Rattle.std.proofs.Common.{ℕ, ◌∙◌, ap, subst, sym, arith}
use Rattle.chk_tee.specs.Messages.{IsTee, guessed_teeds}
use Rattle.chk_tee.proofs.MessageGrammar.{tee_from_faultless, teeds_from_tee, tee_read}
use Rattle.chk_tee.proofs.messages.read_tee.Goals as goal

pub returns-in_err-count-clause-every_tee : goal.returns-in_err-count-clause-every_tee
returns-in_err-count-clause-every_tee c items h =
    let fine = (tee_read c.args.bytes.now items h).fine (λ i. omega (arith, c.type_inv.bytes i)) in
    absurd (cc (fine, c.in_err-count.ensures.fault))

pub invariant_of-result : goal.invariant_of-result
invariant_of-result c =
    teeds_from_tee c.in_ok-count.count c.args.bytes.now c.in_ok-count.ensures.fine c.in_ok-count.ensures.count

pub returns-clause-tee : goal.returns-clause-tee
returns-clause-tee c =
    let bytes = c.args.bytes.now in
    subst (λ (n : ℕ). IsTee (guessed_teeds n 9 bytes) bytes) (sym c.in_ok-count.ensures.count)
    (tee_from_faultless bytes (λ i. omega (arith, c.type_inv.bytes i)) c.in_ok-count.ensures.fine)

pub returns-clause-every_tee : goal.returns-clause-every_tee
returns-clause-every_tee c items h =
    ap (λ n. guessed_teeds n 9 c.args.bytes.now) c.in_ok-count.ensures.count
    ∙ (tee_read c.args.bytes.now items h).are
