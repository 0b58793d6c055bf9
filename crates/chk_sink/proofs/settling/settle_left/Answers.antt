use Rattle.chk_sink.specs.Works.{OfSettling}
use Rattle.chk_world.proofs.Working.{works_as, works_then}
use Rattle.chk_sink.proofs.Owning.{made_as, made_ok, refused_by}
use Rattle.std.proofs.Common.{None, inl}
use Rattle.chk_sink.specs.Settling.{HoldsBut, left_of, none_left}
use Rattle.chk_sink.proofs.Founding.{found_as, found_then}
use Rattle.chk_sink.proofs.JoinedCauses.{cause_then}
use Rattle.chk_sink.proofs.settling.settle_left.Goals as goal

pub returns-in_err-names-clause-told : goal.returns-in_err-names-clause-told
returns-in_err-names-clause-told g c stamped s settles kept =
    found_as stamped s (λ v. HoldsBut s none_left) (λ names. HoldsBut s (left_of names.items None)) c.list_sinks.result
    c.from_residual.result _ c.in_err-names.was (refused_by c.from_residual.ensures.1) (c.list_sinks.ensures.told stamped s settles)

pub returns-clause-told : goal.returns-clause-told
returns-clause-told g c stamped s settles kept =
    found_then stamped s (λ names. HoldsBut s (left_of names.items None)) c.list_sinks.result c.in_ok-names.names c.in_ok-names.was
    (c.list_sinks.ensures.told stamped s settles)
    (rw c.as_slice.ensures.value at (c.settle_listed.ensures.told stamped s settles kept))

pub returns-clause-damaged : goal.returns-clause-damaged
returns-clause-damaged g c =
    cause_then c.list_sinks.result c.in_ok-names.names c.settle_listed.result c.in_ok-names.was c.list_sinks.ensures.damaged c.settle_listed.ensures.damaged

pub returns-in_err-names-clause-own : goal.returns-in_err-names-clause-own
returns-in_err-names-clause-own g c s settles kept =
    made_as c.list_sinks.result c.from_residual.result _ c.in_err-names.was (refused_by c.from_residual.ensures.1)
    (works_as (OfSettling s) (λ call l. inl l) c.list_sinks.ensures.own)

pub returns-clause-own : goal.returns-clause-own
returns-clause-own g c s settles kept =
    works_then (made_ok c.list_sinks.result c.in_ok-names.names c.in_ok-names.was (works_as (OfSettling s) (λ call l. inl l) c.list_sinks.ensures.own))
    (c.settle_listed.ensures.own s settles kept)
