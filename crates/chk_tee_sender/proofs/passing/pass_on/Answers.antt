use Rattle.std.proofs.Common.{arith, ◌≡◌, ◌<◌, ◌≤◌, ◌+◌, length, ap, ◌∙◌, subst, Ok, Err}
use Rattle.chk_site.specs.Site.{Rose}
use Rattle.chk_tee_sender.specs.Offers.{items_of}
use Rattle.chk_tee_sender.specs.Sending.{IsPassedTo, SendCause}
use Rattle.chk_tee_sender.specs.declared.sending.Sending.{Sending}
use Rattle.chk_tee_sender.specs.declared.sending.Sending.TheVariants.{Nothing, Sent, Lost}
use Rattle.chk_tee_sender.proofs.PassingLemmas.{next_by, next_sent, next_lost, all_done, gave_up, cause_kept, cause_more, length_removed}
use Rattle.chk_tee_sender.proofs.passing.pass_on.Goals as goal

pub loop-at-preserved-in-Ok-Nothing : goal.loop-at-preserved-in-Ok-Nothing
loop-at-preserved-in-Ok-Nothing g c =
    let l = c.loop-at in
    let within : l.at < length l.standing.items = omega arith in
    let same : g.S.Site.fault_count c.send_to.new.site ≡ g.S.Site.fault_count l.site =
    subst (λ (x : Sending). SendCause (g.S.Site.fault_count l.site) (g.S.Site.fault_count c.send_to.new.site) (Ok x))
    c.in-Ok-Nothing.field-0-is c.in-Ok-Nothing.ensures.cause in
    let told : IsPassedTo c.args.who.now (items_of c.args.offer.now) c.index.result.now (Ok Nothing) (g.S.Site.told l.site) (g.S.Site.told c.send_to.new.site) =
    subst (λ (x : Sending). IsPassedTo c.args.who.now (items_of c.args.offer.now) c.index.result.now (Ok x) (g.S.Site.told l.site) (g.S.Site.told c.send_to.new.site))
    c.in-Ok-Nothing.field-0-is c.in-Ok-Nothing.ensures.told in
    record {
      within = omega arith;
      fewer = omega (arith, l.invariant.fewer);
      few = omega (arith, l.invariant.few);
      goes_on =
          next_by c.args.who.now (items_of c.args.offer.now) c.args.standing.now.items _ l.standing.items l.at l.passed.sent
          l.passed.dropped _ _ c.index.result.now within c.index.ensures l.invariant.goes_on told;
      cause = cause_kept l.passed.dropped _ _ _ l.invariant.cause same;
    }

pub loop-at-preserved-in-Ok-Sent : goal.loop-at-preserved-in-Ok-Sent
loop-at-preserved-in-Ok-Sent g c =
    let l = c.loop-at in
    let within : l.at < length l.standing.items = omega arith in
    let same : g.S.Site.fault_count c.send_to.new.site ≡ g.S.Site.fault_count l.site =
    subst (λ (x : Sending). SendCause (g.S.Site.fault_count l.site) (g.S.Site.fault_count c.send_to.new.site) (Ok x))
    c.in-Ok-Sent.field-0-is c.in-Ok-Sent.ensures.cause in
    let told : IsPassedTo c.args.who.now (items_of c.args.offer.now) c.index.result.now (Ok Sent) (g.S.Site.told l.site) (g.S.Site.told c.send_to.new.site) =
    subst (λ (x : Sending). IsPassedTo c.args.who.now (items_of c.args.offer.now) c.index.result.now (Ok x) (g.S.Site.told l.site) (g.S.Site.told c.send_to.new.site))
    c.in-Ok-Sent.field-0-is c.in-Ok-Sent.ensures.told in
    record {
      within = omega arith;
      fewer = omega (arith, l.invariant.fewer);
      few = omega (arith, l.invariant.few);
      goes_on =
          next_sent c.args.who.now (items_of c.args.offer.now) c.args.standing.now.items _ l.standing.items l.at l.passed.sent
          l.passed.dropped _ _ c.index.result.now within c.index.ensures l.invariant.goes_on told;
      cause = cause_kept l.passed.dropped _ _ _ l.invariant.cause same;
    }

pub loop-at-preserved-in-Ok-Lost : goal.loop-at-preserved-in-Ok-Lost
loop-at-preserved-in-Ok-Lost g c =
    let l = c.loop-at in
    let within : l.at < length l.standing.items = omega arith in
    let rose : Rose (g.S.Site.fault_count l.site) (g.S.Site.fault_count c.send_to.new.site) × (g.S.Site.fault_count l.site ≤ g.S.Site.fault_count c.send_to.new.site) =
    subst (λ (x : Sending). SendCause (g.S.Site.fault_count l.site) (g.S.Site.fault_count c.send_to.new.site) (Ok x))
    c.in-Ok-Lost.field-0-is c.in-Ok-Lost.ensures.cause in
    let told : IsPassedTo c.args.who.now (items_of c.args.offer.now) c.index.result.now (Ok Lost) (g.S.Site.told l.site) (g.S.Site.told c.send_to.new.site) =
    subst (λ (x : Sending). IsPassedTo c.args.who.now (items_of c.args.offer.now) c.index.result.now (Ok x) (g.S.Site.told l.site) (g.S.Site.told c.send_to.new.site))
    c.in-Ok-Lost.field-0-is c.in-Ok-Lost.ensures.told in
    let less : length c.remove-lost.new.self.items + 1 ≡ length l.standing.items =
    ap (λ n. n + 1) (ap length c.remove-lost.ensures.items) ∙ length_removed l.standing.items l.at within in
    record {
      within = omega arith;
      fewer = omega (arith, l.invariant.fewer);
      few = omega (arith, l.invariant.few);
      goes_on =
          next_lost c.args.who.now (items_of c.args.offer.now) c.args.standing.now.items _ l.standing.items _ l.at l.passed.sent
          l.passed.dropped _ _ c.index.result.now within c.index.ensures c.remove-lost.ensures.items l.invariant.goes_on told;
      cause = cause_more l.passed.dropped _ _ _ l.invariant.cause rose;
    }

pub loop-at-preserved : goal.loop-at-preserved
loop-at-preserved g c =
    let l = c.loop-at in
    let within : l.at < length l.standing.items = omega arith in
    let rose : Rose (g.S.Site.fault_count l.site) (g.S.Site.fault_count c.send_to.new.site) × (g.S.Site.fault_count l.site ≤ g.S.Site.fault_count c.send_to.new.site) =
    subst (λ (x : Sending). SendCause (g.S.Site.fault_count l.site) (g.S.Site.fault_count c.send_to.new.site) (Ok x))
    c.in-Ok-Lost.field-0-is c.in-Ok-Lost.ensures.cause in
    let told : IsPassedTo c.args.who.now (items_of c.args.offer.now) c.index.result.now (Ok Lost) (g.S.Site.told l.site) (g.S.Site.told c.send_to.new.site) =
    subst (λ (x : Sending). IsPassedTo c.args.who.now (items_of c.args.offer.now) c.index.result.now (Ok x) (g.S.Site.told l.site) (g.S.Site.told c.send_to.new.site))
    c.in-Ok-Lost.field-0-is c.in-Ok-Lost.ensures.told in
    let less : length c.remove-lost.new.self.items + 1 ≡ length l.standing.items =
    ap (λ n. n + 1) (ap length c.remove-lost.ensures.items) ∙ length_removed l.standing.items l.at within in
    record {
      within = omega arith;
      fewer = omega (arith, l.invariant.fewer);
      few = omega (arith, l.invariant.few);
      goes_on =
          next_lost c.args.who.now (items_of c.args.offer.now) c.args.standing.now.items _ l.standing.items _ l.at l.passed.sent
          l.passed.dropped _ _ c.index.result.now within c.index.ensures c.remove-lost.ensures.items l.invariant.goes_on told;
      cause = cause_more l.passed.dropped _ _ _ l.invariant.cause rose;
    }

pub returns-in-Err-clause-told : goal.returns-in-Err-clause-told
returns-in-Err-clause-told g c =
    let l = c.loop-at in
    let within : l.at < length l.standing.items = omega arith in
    let told : IsPassedTo c.args.who.now (items_of c.args.offer.now) c.index.result.now (Err c.in-Err.fault) (g.S.Site.told l.site) (g.S.Site.told c.send_to.new.site) =
    c.in-Err.ensures.told in (
      l.passed.sent,
      l.passed.dropped,
      gave_up c.args.who.now (items_of c.args.offer.now) c.args.standing.now.items _ l.standing.items l.at l.passed.sent l.passed.dropped
          _ _ c.index.result.now c.in-Err.fault within c.index.ensures l.invariant.goes_on told,
    )

pub returns-clause-told : goal.returns-clause-told
returns-clause-told g c =
    let l = c.loop-at in
    let past : length l.standing.items ≤ l.at = omega arith in
    all_done c.args.who.now (items_of c.args.offer.now) c.args.standing.now.items _ l.standing.items l.at l.passed.sent l.passed.dropped _
    past l.invariant.goes_on
