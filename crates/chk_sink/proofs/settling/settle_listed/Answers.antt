use Rattle.std.proofs.Common.{◌≡◌, ◌+◌, [], Err, arith, subst, drop, List, ℕ, Ok, refl}
use Rattle.chk_sink.proofs.Owning.{made_as, refused_by}
use Rattle.chk_sink.proofs.LeftLoop.{IsSettledTo, settle_begins, next_named, settled_on}
use Rattle.chk_site.proofs.Leads.{leads_then}
use Rattle.chk_world.proofs.Working.{works_then}
use Rattle.chk_sink.specs.Settling.{HoldsBut, left_of, none_left}
use Rattle.chk_sink.proofs.Founding.{found_as}
use Rattle.chk_sink.proofs.JoinedCauses.{cause_then, cause_as}
use Rattle.std.proofs.lemmas.List.{drop_all}
use Rattle.chk_sink.specs.Faults.{SinkCause}
use Rattle.chk_sink.proofs.settling.settle_listed.Goals as goal

pub loop-name-init : goal.loop-name-init
loop-name-init g c =
    settle_begins c.args.who.now c.args.kept.now c.args.names.now (g.S.Site.fault_count c.args.site.now) (g.S.Site.told c.args.site.now)

pub loop-name-preserved : goal.loop-name-preserved
loop-name-preserved g c =
    let l = c.loop-name in
    let names = c.args.names.now in
    let next = next_named names l.name-index c.name-item.result c.as_str.result.now c.loop-name-test.true c.name-item.is c.as_str.ensures.text in
    let so_far = subst (λ (r : List (List ℕ)). IsSettledTo c.args.who.now c.args.kept.now names r l.last (g.S.Site.fault_count c.args.site.now)
    (g.S.Site.fault_count l.site) (g.S.Site.told c.args.site.now) (g.S.Site.told l.site)) next l.invariant in
    settled_on c.args.who.now c.args.kept.now names c.as_str.result.now (drop (l.name-index + 1) names) l.last c.settle_named.new.last
    (g.S.Site.fault_count c.args.site.now) (g.S.Site.fault_count l.site) (g.S.Site.told c.args.site.now) (g.S.Site.told l.site)
    (g.S.Site.told c.settle_named.new.site) so_far c.settle_named.result (g.S.Site.fault_count c.settle_named.new.site) _
    c.in_ok-settle_named.was c.settle_named.ensures.told c.settle_named.ensures.damaged c.in_ok-settle_named.ensures.cause
    (λ s settles kept. c.settle_named.ensures.own s settles kept)

pub returns-in_err-settle_named-clause-told : goal.returns-in_err-settle_named-clause-told
returns-in_err-settle_named-clause-told g c stamped s settles kept =
    let l = c.loop-name in
    let rest : List (List ℕ) = drop (l.name-index + 1) c.args.names.now in
    let next = next_named c.args.names.now l.name-index c.name-item.result c.as_str.result.now c.loop-name-test.true c.name-item.is c.as_str.ensures.text in
    leads_then (rw next at (l.invariant.told stamped s settles kept))
    (found_as stamped s (λ v. HoldsBut s none_left) (λ v. HoldsBut s (left_of rest c.settle_named.new.last)) c.settle_named.result _ _
    c.in_err-settle_named.was (refused_by c.from_residual.ensures.1) (c.settle_named.ensures.told stamped s rest settles kept))

pub returns-in_err-settle_named-clause-damaged : goal.returns-in_err-settle_named-clause-damaged
returns-in_err-settle_named-clause-damaged g c =
    cause_then (Ok (tt {0})) tt _ refl c.loop-name.invariant.damaged
    (cause_as c.settle_named.result _ _ c.in_err-settle_named.was (refused_by c.from_residual.ensures.1) c.settle_named.ensures.damaged)

pub returns-in_err-settle_named-clause-own : goal.returns-in_err-settle_named-clause-own
returns-in_err-settle_named-clause-own g c s settles kept =
    works_then (c.loop-name.invariant.own s settles kept)
    (made_as c.settle_named.result _ _ c.in_err-settle_named.was (refused_by c.from_residual.ensures.1) (c.settle_named.ensures.own s settles kept))

pub returns-clause-told : goal.returns-clause-told
returns-clause-told g c stamped s settles kept =
    let none : drop c.loop-name.name-index c.args.names.now ≡ [] =
    drop_all c.loop-name.name-index c.args.names.now (omega (arith, c.loop-name-test.false)) in
    rw none at (c.loop-name.invariant.told stamped s settles kept)

pub returns-clause-own : goal.returns-clause-own
returns-clause-own g c s settles kept = c.loop-name.invariant.own s settles kept

pub returns-clause-damaged : goal.returns-clause-damaged
returns-clause-damaged g c = c.loop-name.invariant.damaged

pub returns-clause-cause : goal.returns-clause-cause
returns-clause-cause g c = c.loop-name.invariant.cause

pub returns-in_err-settle_named-clause-only : goal.returns-in_err-settle_named-clause-only
returns-in_err-settle_named-clause-only g c =
    rw (refused_by c.from_residual.ensures.1) c.in_err-settle_named.ensures.only

pub returns-in_err-settle_named-clause-cause : goal.returns-in_err-settle_named-clause-cause
returns-in_err-settle_named-clause-cause g c =
    rw (refused_by c.from_residual.ensures.1)
    (subst (λ (n : ℕ). SinkCause {T = Unit {0}} n (g.S.Site.fault_count c.settle_named.new.site)
    (Err c.in_err-settle_named.field-0.0))
    c.loop-name.invariant.cause c.in_err-settle_named.ensures.cause)
