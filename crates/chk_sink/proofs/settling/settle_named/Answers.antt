use Rattle.chk_sink.specs.Works.{OfSettling}
use Rattle.chk_world.specs.Works.{rests}
use Rattle.chk_world.proofs.Working.{works_as}
use Rattle.chk_sink.proofs.Owning.{made_as, made_ok, refused_by}
use Rattle.std.proofs.Common.{◌∙◌, sym, ap, Some, ◌∷◌, inr}
use Rattle.chk_site.specs.declared.acts.Who.{Who}
use Rattle.chk_site.proofs.Leads.{leads_none, leads_as}
use Rattle.chk_sink.specs.Settling.{HoldsAt, HoldsBut, AnyFiles, BothGone, left_in, left_of, chosen}
use Rattle.chk_sink.proofs.Founding.{found_as, found_then, told_less}
use Rattle.chk_sink.proofs.LeftNamed.{chosen_other, skipped, begins_at, settled_one}
use Rattle.chk_sink.proofs.settling.settle_named.Goals as goal

pub returns-in_default-clause-told : goal.returns-in_default-clause-told
returns-in_default-clause-told g c stamped s names settles kept =
    leads_none _
    (told_less stamped s (HoldsBut s (left_of (c.args.name.now ∷ names) c.args.last.now)) (HoldsBut s (left_of names c.args.last.now))
    (λ h x. skipped s c.args.kept.now c.args.last.now c.args.name.now names h kept
    (ap (λ (w : Who). chosen w.name c.args.kept.now c.args.last.now (left_in c.args.name.now)) (sym settles.writer)
    ∙ (sym c.to_settle.ensures.chosen ∙ c.in_default.is)) x))

pub returns-in_err-settle_stem-clause-told : goal.returns-in_err-settle_stem-clause-told
returns-in_err-settle_stem-clause-told g c stamped s names settles kept =
    let x = c.in-Some.stem in
    let may = left_of (c.args.name.now ∷ names) c.args.last.now in
    let other = chosen_other s c.args.kept.now c.args.last.now (left_in c.args.name.now) x kept c.in-Some.ensures.good
    (ap (λ (w : Who). chosen w.name c.args.kept.now c.args.last.now (left_in c.args.name.now)) (sym settles.writer)
    ∙ (sym c.to_settle.ensures.chosen ∙ c.in-Some.is)) in
    found_as stamped s (λ v. HoldsBut s (left_of names c.args.last.now)) (λ v. HoldsAt s may x BothGone) c.settle_stem.result
    c.from_residual.result _ c.in_err-settle_stem.was (refused_by c.from_residual.ensures.1)
    (leads_as (told_less stamped s (HoldsBut s may) (HoldsAt s may x AnyFiles) (begins_at s may x)) (λ h y. y)
    (c.settle_stem.ensures.told stamped s may settles other.1))

pub returns-clause-told : goal.returns-clause-told
returns-clause-told g c stamped s names settles kept =
    let x = c.in-Some.stem in
    let last = c.args.last.now in
    let may = left_of (c.args.name.now ∷ names) last in
    let other = chosen_other s c.args.kept.now last (left_in c.args.name.now) x kept c.in-Some.ensures.good
    (ap (λ (w : Who). chosen w.name c.args.kept.now c.args.last.now (left_in c.args.name.now)) (sym settles.writer)
    ∙ (sym c.to_settle.ensures.chosen ∙ c.in-Some.is)) in
    found_then stamped s (λ v. HoldsAt s may x BothGone) c.settle_stem.result _ c.in_ok-settle_stem.was
    (leads_as (told_less stamped s (HoldsBut s may) (HoldsAt s may x AnyFiles) (begins_at s may x)) (λ h y. y)
    (c.settle_stem.ensures.told stamped s may settles other.1))
    (leads_none _
    (told_less stamped s (HoldsAt s may x BothGone) (HoldsBut s (left_of names (Some x))) (λ h y. settled_one s last c.args.name.now names x h other.0 y)))

pub returns-in_default-clause-own : goal.returns-in_default-clause-own
returns-in_default-clause-own g c s settles kept = rests

pub returns-in_err-settle_stem-clause-own : goal.returns-in_err-settle_stem-clause-own
returns-in_err-settle_stem-clause-own g c s settles kept =
    let other = chosen_other s c.args.kept.now c.args.last.now (left_in c.args.name.now) c.in-Some.stem kept c.in-Some.ensures.good
    (ap (λ (w : Who). chosen w.name c.args.kept.now c.args.last.now (left_in c.args.name.now)) (sym settles.writer)
    ∙ (sym c.to_settle.ensures.chosen ∙ c.in-Some.is)) in
    made_as c.settle_stem.result c.from_residual.result _ c.in_err-settle_stem.was (refused_by c.from_residual.ensures.1)
    (works_as (OfSettling s) (λ call may. inr (c.in-Some.stem, other.1, may)) c.settle_stem.ensures.own)

pub returns-clause-own : goal.returns-clause-own
returns-clause-own g c s settles kept =
    let other = chosen_other s c.args.kept.now c.args.last.now (left_in c.args.name.now) c.in-Some.stem kept c.in-Some.ensures.good
    (ap (λ (w : Who). chosen w.name c.args.kept.now c.args.last.now (left_in c.args.name.now)) (sym settles.writer)
    ∙ (sym c.to_settle.ensures.chosen ∙ c.in-Some.is)) in
    made_ok c.settle_stem.result _ c.in_ok-settle_stem.was
    (works_as (OfSettling s) (λ call may. inr (c.in-Some.stem, other.1, may)) c.settle_stem.ensures.own)
