use Rattle.chk_sink.specs.Works.{OfStart}
use Rattle.chk_sink.proofs.Owned.{settle_starts, settling_unread}
use Rattle.chk_world.proofs.Working.{works_then, works_as}
use Rattle.chk_sink.proofs.Owning.{made_as, made_none, made_ok, fails_of, refused_by}
use Rattle.std.proofs.Common.{◌∙◌, ap, Ok, inl}
use Rattle.chk_site.specs.declared.acts.Who.{Who}
use Rattle.chk_sink.specs.Starting.{first_state}
use Rattle.chk_sink.specs.States.{State}
use Rattle.chk_site.proofs.Runs.{start_then, adds_as}
use Rattle.chk_sink.proofs.Started.{started_told, unstarted_told, started_spent, unstarted_spent}
use Rattle.chk_sink.proofs.Showing.{last, works_silent}
use Rattle.chk_sink.proofs.JoinedCauses.{cause_then, cause_as}
use Rattle.chk_sink.specs.Damage.{DamageCause}
use Rattle.chk_sink.proofs.sinks.Sinks.start.Goals as goal

pub returns-in_err-settle-clause-told : goal.returns-in_err-settle-clause-told
returns-in_err-settle-clause-told g c stamped =
    rw (refused_by c.from_residual-in_err-settle.ensures.1)
    (unstarted_told stamped c.args.who.now c.in_ok-born.born c.args.rotate c.first-sinks.result c.settle.new.self c.in_err-settle.field-0.0 c.requires.role
    (c.first-sinks.ensures ∙ ap (λ (k : Who). first_state k c.in_ok-born.born c.args.rotate) c.in_ok-own.ensures)
    c.in_err-settle.ensures.err c.in_err-settle.ensures.only (c.in_ok-born.ensures.told stamped) (c.in_err-settle.ensures.told stamped))

pub returns-clause-told : goal.returns-clause-told
returns-clause-told g c stamped =
    started_told stamped c.args.who.now c.in_ok-born.born c.args.rotate c.first-sinks.result c.settle.new.self c.requires.role
    (c.first-sinks.ensures ∙ ap (λ (k : Who). first_state k c.in_ok-born.born c.args.rotate) c.in_ok-own.ensures)
    c.in_ok-settle.ensures.ok (c.in_ok-born.ensures.told stamped) (c.in_ok-settle.ensures.told stamped)

pub returns-in_err-own-clause-own : goal.returns-in_err-own-clause-own
returns-in_err-own-clause-own g c =
    made_none c.from_residual.result _ (refused_by c.from_residual.ensures.1)

pub returns-in_err-name-clause-own : goal.returns-in_err-name-clause-own
returns-in_err-name-clause-own g c =
    made_none c.from_residual-in_err-name.result _ (refused_by c.from_residual-in_err-name.ensures.1)

pub returns-in_err-born-clause-own : goal.returns-in_err-born-clause-own
returns-in_err-born-clause-own g c =
    made_as c.publish_next.result c.from_residual-in_err-born.result _ c.in_err-born.was (refused_by c.from_residual-in_err-born.ensures.1)
    (works_as (OfStart c.args.who.now) (λ call one. inl one) c.publish_next.ensures.own)

pub returns-in_err-settle-clause-own : goal.returns-in_err-settle-clause-own
returns-in_err-settle-clause-own g c =
    works_then (works_as (OfStart c.args.who.now) (λ call one. inl one) c.in_ok-born.ensures.own)
    (made_as c.settle.result c.from_residual-in_err-settle.result _ c.in_err-settle.was (refused_by c.from_residual-in_err-settle.ensures.1)
    (settle_starts c.args.who.now c.in_ok-born.born c.args.rotate c.first-sinks.result c.requires.role (c.first-sinks.ensures ∙ ap (λ (k : Who). first_state k c.in_ok-born.born c.args.rotate) c.in_ok-own.ensures) c.settle.ensures.own))

pub returns-clause-own : goal.returns-clause-own
returns-clause-own g c =
    works_then (works_as (OfStart c.args.who.now) (λ call one. inl one) c.in_ok-born.ensures.own)
    (made_ok c.settle.result _ c.in_ok-settle.was
    (settle_starts c.args.who.now c.in_ok-born.born c.args.rotate c.first-sinks.result c.requires.role (c.first-sinks.ensures ∙ ap (λ (k : Who). first_state k c.in_ok-born.born c.args.rotate) c.in_ok-own.ensures) c.settle.ensures.own))

pub returns-in_err-own-clause-last : goal.returns-in_err-own-clause-last
returns-in_err-own-clause-last g c = fails_of _ (returns-in_err-own-clause-own g c)

pub returns-in_err-name-clause-last : goal.returns-in_err-name-clause-last
returns-in_err-name-clause-last g c = fails_of _ (returns-in_err-name-clause-own g c)

pub returns-in_err-born-clause-last : goal.returns-in_err-born-clause-last
returns-in_err-born-clause-last g c = fails_of _ (returns-in_err-born-clause-own g c)

pub returns-in_err-settle-clause-last : goal.returns-in_err-settle-clause-last
returns-in_err-settle-clause-last g c = fails_of _ (returns-in_err-settle-clause-own g c)

pub returns-clause-last : goal.returns-clause-last
returns-clause-last g c = fails_of (Ok c.settle.new.self) (returns-clause-own g c)

pub returns-in_err-settle-clause-spent_exactly : goal.returns-in_err-settle-clause-spent_exactly
returns-in_err-settle-clause-spent_exactly g c =
    rw (refused_by c.from_residual-in_err-settle.ensures.1)
    (unstarted_spent State c.in_err-settle.field-0.0 c.in_ok-born.born c.in_err-settle.ensures.only c.in_ok-born.ensures.spent_exactly
    (works_silent last (settling_unread c.first-sinks.result) c.settle.ensures.own))

pub returns-in_err-settle-clause-damaged : goal.returns-in_err-settle-clause-damaged
returns-in_err-settle-clause-damaged g c =
    cause_then c.publish_next.result _ _ c.in_ok-born.was c.publish_next.ensures.damaged
    (cause_as c.settle.result _ _ c.in_err-settle.was (refused_by c.from_residual-in_err-settle.ensures.1) c.settle.ensures.damaged)

pub returns-clause-spent_exactly : goal.returns-clause-spent_exactly
returns-clause-spent_exactly g c =
    started_spent State c.settle.new.self c.in_ok-born.born c.in_ok-born.ensures.spent_exactly
    (works_silent last (settling_unread c.first-sinks.result) c.settle.ensures.own)

pub returns-clause-damaged : goal.returns-clause-damaged
returns-clause-damaged g c =
    adds_as (DamageCause (Ok c.settle.new.self))
    (cause_then c.publish_next.result _ (Ok (tt {0})) c.in_ok-born.was c.publish_next.ensures.damaged c.in_ok-settle.ensures.damaged) (λ a h x. x)

pub returns-clause-starts : goal.returns-clause-starts
returns-clause-starts g c = start_then c.args.who.now c.in_ok-born.ensures.starts c.settle.ensures.damaged
