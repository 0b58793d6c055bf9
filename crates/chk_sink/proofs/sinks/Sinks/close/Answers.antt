use Rattle.chk_sink.proofs.Owned.{close_works, close_writes, writes_cause, writes_unlisted}
use Rattle.chk_sink.specs.Works.{OfClose}
use Rattle.chk_world.proofs.Working.{works_as, works_then}
use Rattle.chk_sink.proofs.Owning.{made_as, made_ok, made_result, fails_of, refused_by}
use Rattle.std.proofs.Common.{inl, inr}
use Rattle.chk_sink.specs.SinkFields.{writing_of}
use Rattle.chk_sink.proofs.Fields.{seen_as, open_as}
use Rattle.chk_sink.proofs.JoinedCauses.{of_outside}
use Rattle.chk_sink.proofs.Commits.{close_refused, close_made}
use Rattle.chk_sink.proofs.sinks.Sinks.close.Goals as goal

pub returns-in_err-commit-clause-told : goal.returns-in_err-commit-clause-told
returns-in_err-commit-clause-told g c stamped =
    close_refused stamped c.args.self.now c.commit.new.self c.commit.result _ _ _ c.in_err-commit.was
    (refused_by c.from_residual.ensures.1) (c.commit.ensures.told stamped)

pub returns-clause-told : goal.returns-clause-told
returns-clause-told g c stamped =
    let mid = c.commit.new.self in
    let known = seen_as c.self.inside mid c.self.view_is c.self.invariant in
    let f = open_as c.self.inside mid c.in-Some.current c.self.view_is c.self.invariant c.in-Some.is in
    close_made stamped c.args.self.now mid (writing_of c.in-Some.current) known.named f.some f.of_stem.good f.of_stem.begun
    c.in_ok-commit.ensures.ok c.self.inside.who known.who c.in-Some.current.stem f.of_stem.stem
    c.commit.result _ c.in_ok-commit.was (c.commit.ensures.told stamped) c.rename_to_done-closed.ensures.told
    c.leave_where_done.new.self c.leave_where_done.ensures.new _ c.leave_where_done.ensures.result

pub returns-in_err-commit-clause-own : goal.returns-in_err-commit-clause-own
returns-in_err-commit-clause-own g c =
    made_as c.commit.result c.from_residual.result _ c.in_err-commit.was (refused_by c.from_residual.ensures.1)
    (works_as (OfClose c.args.self.now) (λ call one. inl one) c.commit.ensures.own)

pub returns-in_default-clause-own : goal.returns-in_default-clause-own
returns-in_default-clause-own g c = works_as (OfClose c.args.self.now) (λ call one. inl one) (made_ok c.commit.result _ c.in_ok-commit.was c.commit.ensures.own)

pub returns-clause-own : goal.returns-clause-own
returns-clause-own g c =
    let s = c.args.self.now in
    let mid = c.commit.new.self in
    let f = open_as c.self.inside mid c.in-Some.current c.self.view_is c.self.invariant c.in-Some.is in
    works_then (works_as (OfClose s) (λ call one. inl one) (made_ok c.commit.result _ c.in_ok-commit.was c.commit.ensures.own))
    (made_result _ c.rename_to_done-closed.result c.leave_where_done.ensures.result
    (works_as (OfClose s) (λ call one. inr one)
    (close_works s mid (writing_of c.in-Some.current) c.in_ok-commit.ensures.ok f.some c.self.inside.who
    (seen_as c.self.inside mid c.self.view_is c.self.invariant).who c.in-Some.current.stem f.of_stem.stem c.rename_to_done-closed.ensures.told)))

pub returns-in_err-commit-clause-last : goal.returns-in_err-commit-clause-last
returns-in_err-commit-clause-last g c = fails_of _ (returns-in_err-commit-clause-own g c)

pub returns-clause-last : goal.returns-clause-last
returns-clause-last g c = fails_of _ (returns-clause-own g c)

pub returns-clause-lists : goal.returns-clause-lists
returns-clause-lists g c = writes_unlisted (close_writes c.args.self.now) (returns-clause-own g c)

pub returns-clause-damaged : goal.returns-clause-damaged
returns-clause-damaged g c =
    writes_cause _ (close_writes c.args.self.now) (of_outside _ c.rename_to_done-closed.result c.leave_where_done.ensures.result)
    (returns-clause-own g c)
