use Rattle.std.proofs.Common.{◌≡◌, ◌<◌, ◌-◌, ◌+◌, ◌∙◌, ℕ, true, false, true≢false, inl, inr, subst, ap, sym, arith, refl}
use Rattle.std.specs.Prelude.{nat_eq, nat_lt}
use Rattle.std.proofs.lemmas.Bool.{cases_Bool, cases_lt}
use Rattle.chk_record_index.specs.Heads.{Head}
use Rattle.chk_record_index.specs.Order.{in_head_order}
use Rattle.chk_archive_plan.specs.Passes.{head_in}
use Rattle.chk_archive_plan.specs.Starts.{stream_start, HasStart, IsOtherStart}
use Rattle.chk_archive_plan.proofs.OneStart.{has_not, has_more}
use Rattle.chk_archive_plan.proofs.starts.other_start.Goals as goal

pub loop-index-init : goal.loop-index-init
loop-index-init c = record {
  before = λ low. absurd (let z : ⊥ = omega (arith, low) in z);
  so_far = λ k low. absurd (let z : ⊥ = omega (arith, low) in z);
}

pub loop-index-preserved : goal.loop-index-preserved
loop-index-preserved c =
    let heads = c.args.heads.now in
    let ks = c.args.known.now in
    let i = c.loop-index.index in
    record {
      before = λ low.
          subst (λ n. c.start_at-start.result ≡ stream_start ks heads (head_in heads n).key.stream)
          (let z : i ≡ i + 1 - 1 = omega arith in z) c.start_at-start.ensures;
      so_far =
          has_more ks heads i c.start_at-start.result c.start_at-start.ensures
          (ap (λ (h : Head). nat_eq h.key.start c.start_at-start.result) (sym c.get.ensures.head)
          ∙ (sym c.starts_at.ensures ∙ c.if-not-starts_at.false))
          c.loop-index.invariant.so_far;
    }

pub returns-then-not-starts_at-clause-some : goal.returns-then-not-starts_at-clause-some
returns-then-not-starts_at-clause-some c =
    let heads = c.args.heads.now in
    let ks = c.args.known.now in
    let i = c.loop-index.index in
    record {
      within = omega (arith, c.loop-index-test.true, c.len-index-end.ensures);
      other =
          has_not ks heads i c.start_at-start.result c.start_at-start.ensures
          (ap (λ (h : Head). nat_eq h.key.start c.start_at-start.result) (sym c.get.ensures.head)
          ∙ (sym c.starts_at.ensures ∙ c.if-not-starts_at.true));
      before = c.loop-index.invariant.so_far;
    }

pub returns-clause-none : goal.returns-clause-none
returns-clause-none c = λ k low. c.loop-index.invariant.so_far k (omega (arith, low, c.loop-index-test.false, c.len-index-end.ensures))
