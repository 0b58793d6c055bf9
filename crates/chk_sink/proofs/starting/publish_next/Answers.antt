use Rattle.chk_sink.specs.Works.{OfPublishing}
use Rattle.chk_sink.proofs.Owned.{publish_works, replaced_writes, writes_silent, writes_unread}
use Rattle.chk_world.proofs.Working.{works_then, works_as}
use Rattle.chk_sink.proofs.Owning.{made_err, refused_by}
use Rattle.std.proofs.Common.{Some, Ok, Err, ◌<◌, ◌+◌, ◌∙◌, arith, inl}
use Rattle.std.proofs.lemmas.Bool.{ne_eqb}
use Rattle.chk_bytes.specs.Numbers.{limit}
use Rattle.chk_site.proofs.Leads.{leads_then, leads_as}
use Rattle.chk_sink.specs.Damage.{IsInLimit}
use Rattle.chk_site.proofs.Runs.{start_then}
use Rattle.chk_sink.proofs.StartTold.{published_told, legal_published}
use Rattle.chk_sink.proofs.StartShows.{shown_damage, shown_spent}
use Rattle.chk_sink.proofs.JoinedCauses.{of_outside}
use Rattle.chk_replace.proofs.CallSteps.{script_last}
use Rattle.chk_sink.proofs.starting.publish_next.Goals as goal

pub returns-in_err-looked-clause-told : goal.returns-in_err-looked-clause-told
returns-in_err-looked-clause-told g c stamped =
    rw (refused_by c.from_residual.ensures.1)
    (leads_as (λ h x. x) (legal_published stamped c.args.who.now c.in_err-looked.field-0.0) (c.in_err-looked.ensures.told stamped))

pub returns-in_err-publish-clause-told : goal.returns-in_err-publish-clause-told
returns-in_err-publish-clause-told g c stamped =
    let looked = rw c.in-Some.is at (c.in_ok-looked.ensures.told stamped) in
    let number : IsInLimit (Some c.in-Some.last) = rw c.in-Some.is at c.in_ok-looked.ensures.number in
    let other = c.if-last-eq-LAST_NUMBER.false in
    let small : c.in-Some.last + 1 < limit = omega (arith, number, other) in
    rw (refused_by c.from_residual-in_err-publish.ensures.1)
    (leads_then looked
    (published_told stamped c.as_str-2.result.now c.in-Some.last small (Err c.in_err-publish.field-0.0) c.args.who.now c.requires.role c.requires.collector
    (c.as_str-2.ensures.text ∙ c.requires.name) c.in_err-publish.ensures.told))

pub returns-clause-told : goal.returns-clause-told
returns-clause-told g c stamped =
    let looked = rw c.in-Some.is at (c.in_ok-looked.ensures.told stamped) in
    let number : IsInLimit (Some c.in-Some.last) = rw c.in-Some.is at c.in_ok-looked.ensures.number in
    let other = c.if-last-eq-LAST_NUMBER.false in
    let small : c.in-Some.last + 1 < limit = omega (arith, number, other) in
    leads_then looked
    (published_told stamped c.as_str-2.result.now c.in-Some.last small (Ok tt) c.args.who.now c.requires.role c.requires.collector
    (c.as_str-2.ensures.text ∙ c.requires.name) c.in_ok-publish.ensures.told)

pub returns-clause-starts : goal.returns-clause-starts
returns-clause-starts g c = start_then c.args.who.now c.in_ok-looked.ensures.starts (script_last c.publish.ensures.told)

pub returns-in_err-looked-clause-own : goal.returns-in_err-looked-clause-own
returns-in_err-looked-clause-own g c =
    made_err c.from_residual.result _ (refused_by c.from_residual.ensures.1) (works_as (OfPublishing c.args.who.now) (λ call one. inl one) c.in_err-looked.ensures.own)

pub returns-in_default-clause-own : goal.returns-in_default-clause-own
returns-in_default-clause-own g c = (works_as (OfPublishing c.args.who.now) (λ call one. inl one) c.in_ok-looked.ensures.own)

pub returns-then-last-eq-LAST_NUMBER-clause-own : goal.returns-then-last-eq-LAST_NUMBER-clause-own
returns-then-last-eq-LAST_NUMBER-clause-own g c = (works_as (OfPublishing c.args.who.now) (λ call one. inl one) c.in_ok-looked.ensures.own)

pub returns-in_err-publish-clause-own : goal.returns-in_err-publish-clause-own
returns-in_err-publish-clause-own g c =
    made_err c.from_residual-in_err-publish.result _ (refused_by c.from_residual-in_err-publish.ensures.1)
    (works_then (works_as (OfPublishing c.args.who.now) (λ call one. inl one) c.in_ok-looked.ensures.own)
    (publish_works c.args.who.now c.as_str-2.result.now _ (Err c.in_err-publish.field-0.0) (c.as_str-2.ensures.text ∙ c.requires.name) c.in_err-publish.ensures.told))

pub returns-clause-own : goal.returns-clause-own
returns-clause-own g c =
    works_then (works_as (OfPublishing c.args.who.now) (λ call one. inl one) c.in_ok-looked.ensures.own)
    (publish_works c.args.who.now c.as_str-2.result.now _ (Ok tt) (c.as_str-2.ensures.text ∙ c.requires.name) c.in_ok-publish.ensures.told)

pub returns-in_err-publish-clause-spent_exactly : goal.returns-in_err-publish-clause-spent_exactly
returns-in_err-publish-clause-spent_exactly g c =
    let refused = refused_by c.from_residual-in_err-publish.ensures.1 in
    shown_spent c.as_str.result.now c.in-Some.last _ writes_unread (ne_eqb _ _ c.if-last-eq-LAST_NUMBER.false)
    (of_outside _ (Err c.in_err-publish.field-0.0) refused) (rw c.in-Some.is at c.in_ok-looked.ensures.shown)
    (made_err _ _ refused (replaced_writes c.args.who.now c.as_str-2.result.now _ c.in_err-publish.ensures.told))

pub returns-in_err-publish-clause-damaged : goal.returns-in_err-publish-clause-damaged
returns-in_err-publish-clause-damaged g c =
    let refused = refused_by c.from_residual-in_err-publish.ensures.1 in
    shown_damage c.as_str.result.now c.in-Some.last _ writes_silent
    (of_outside _ (Err c.in_err-publish.field-0.0) refused) (rw c.in-Some.is at c.in_ok-looked.ensures.shown)
    (made_err _ _ refused (replaced_writes c.args.who.now c.as_str-2.result.now _ c.in_err-publish.ensures.told))

pub returns-clause-spent_exactly : goal.returns-clause-spent_exactly
returns-clause-spent_exactly g c =
    shown_spent c.as_str.result.now c.in-Some.last (Ok (c.in-Some.last + 1)) writes_unread (ne_eqb _ _ c.if-last-eq-LAST_NUMBER.false) tt
    (rw c.in-Some.is at c.in_ok-looked.ensures.shown) (replaced_writes c.args.who.now c.as_str-2.result.now _ c.in_ok-publish.ensures.told)

pub returns-clause-damaged : goal.returns-clause-damaged
returns-clause-damaged g c =
    shown_damage c.as_str.result.now c.in-Some.last (Ok (c.in-Some.last + 1)) writes_silent tt
    (rw c.in-Some.is at c.in_ok-looked.ensures.shown) (replaced_writes c.args.who.now c.as_str-2.result.now _ c.in_ok-publish.ensures.told)
