use Rattle.chk_sink.proofs.Settled.{settling_as}
use Rattle.chk_sink.proofs.Refusing.{unsettled_leaves, settled_leaves, ok_fine}
use Rattle.chk_sink.proofs.Owned.{settled_works}
use Rattle.chk_sink.specs.Works.{OfTick}
use Rattle.chk_world.proofs.Working.{works_as, works_then}
use Rattle.chk_sink.proofs.Owning.{made_as, made_ok, fails_of, refused_by}
use Rattle.std.proofs.Common.{sym, ◌∙◌, inl, inr, true≢false}
use Rattle.chk_sink.proofs.JoinedCauses.{cause_then}
use Rattle.chk_sink.proofs.Ticks.{unsettled_ticks, settle_ticks}
use Rattle.chk_sink.proofs.sinks.Sinks.tick.Goals as goal

pub returns-in_err-settle-clause-told : goal.returns-in_err-settle-clause-told
returns-in_err-settle-clause-told g c stamped =
    rw (refused_by c.from_residual.ensures.1) (unsettled_ticks stamped c.args.self.now c.settle.new.self c.in_err-settle.field-0.0 c.in_err-settle.ensures.err (c.in_err-settle.ensures.told stamped))

pub returns-clause-told : goal.returns-clause-told
returns-clause-told g c stamped =
    settle_ticks stamped c.args.self.now c.settle.new.self c.tick_settled-2.new.self c.tick_settled-2.result c.in_ok-settle.ensures.ok
    (c.in_ok-settle.ensures.told stamped) (c.tick_settled-2.ensures.told stamped)

pub returns-clause-damaged : goal.returns-clause-damaged
returns-clause-damaged g c =
    cause_then c.settle.result _ c.tick_settled-2.result c.in_ok-settle.was c.settle.ensures.damaged c.tick_settled-2.ensures.damaged

pub returns-then-not-self-clause-own : goal.returns-then-not-self-clause-own
returns-then-not-self-clause-own g c = works_as (OfTick c.args.self.now) (λ call one. inr one) c.tick_settled.ensures.own

pub returns-in_err-settle-clause-own : goal.returns-in_err-settle-clause-own
returns-in_err-settle-clause-own g c =
    made_as c.settle.result c.from_residual.result _ c.in_err-settle.was (refused_by c.from_residual.ensures.1)
    (works_as (OfTick c.args.self.now) (λ call one. inl one) c.settle.ensures.own)

pub returns-clause-own : goal.returns-clause-own
returns-clause-own g c =
    works_then (works_as (OfTick c.args.self.now) (λ call one. inl one) (made_ok c.settle.result _ c.in_ok-settle.was c.settle.ensures.own))
    (works_as (OfTick c.args.self.now) (λ call one. inr one)
    (settled_works c.args.self.now c.settle.new.self c.in_ok-settle.ensures.ok c.tick_settled-2.ensures.own))

pub returns-then-not-self-clause-refused : goal.returns-then-not-self-clause-refused
returns-then-not-self-clause-refused g c =
    unsettled_leaves c.args.self.now c.tick_settled.new.self c.tick_settled.result c.tick_settled.ensures.only c.tick_settled.ensures.refused
    c.tick_settled.ensures.own

pub returns-in_err-settle-clause-refused : goal.returns-in_err-settle-clause-refused
returns-in_err-settle-clause-refused g c =
    let settles = settling_as c.self.inside c.args.self.now c.self.view_is c.self.invariant c.if-not-self.false in
    rw (refused_by c.from_residual.ensures.1) (inl (record { abandoned = settles.abandoned; same = c.in_err-settle.ensures.err; own = c.in_err-settle.ensures.own }))

pub returns-clause-refused : goal.returns-clause-refused
returns-clause-refused g c =
    settled_leaves c.args.self.now c.settle.new.self c.tick_settled-2.new.self c.tick_settled-2.result c.in_ok-settle.ensures.ok
    c.in_ok-settle.ensures.own c.tick_settled-2.ensures.only c.tick_settled-2.ensures.refused c.tick_settled-2.ensures.own

pub returns-then-not-self-clause-fine : goal.returns-then-not-self-clause-fine
returns-then-not-self-clause-fine g c = ok_fine c.tick_settled.result c.tick_settled.ensures.own

pub returns-clause-fine : goal.returns-clause-fine
returns-clause-fine g c = ok_fine c.tick_settled-2.result (returns-clause-own g c)

pub returns-then-not-self-clause-last : goal.returns-then-not-self-clause-last
returns-then-not-self-clause-last g c = fails_of _ (returns-then-not-self-clause-own g c)

pub returns-in_err-settle-clause-last : goal.returns-in_err-settle-clause-last
returns-in_err-settle-clause-last g c = fails_of _ (returns-in_err-settle-clause-own g c)

pub returns-clause-last : goal.returns-clause-last
returns-clause-last g c = fails_of _ (returns-clause-own g c)

pub returns-then-not-self-clause-closes : goal.returns-then-not-self-clause-closes
returns-then-not-self-clause-closes g c none = c.tick_settled.ensures.own

pub returns-in_err-settle-clause-closes : goal.returns-in_err-settle-clause-closes
returns-in_err-settle-clause-closes g c none =
    let settles = settling_as c.self.inside c.args.self.now c.self.view_is c.self.invariant c.if-not-self.false in
    absurd (true≢false (sym settles.abandoned ∙ none))

pub returns-clause-closes : goal.returns-clause-closes
returns-clause-closes g c none =
    let settles = settling_as c.self.inside c.args.self.now c.self.view_is c.self.invariant c.if-not-self.false in
    absurd (true≢false (sym settles.abandoned ∙ none))
