use Rattle.chk_sink.proofs.Refusing.{commit_leaves, close_leaves}
use Rattle.chk_world.specs.Works.{rests}
use Rattle.chk_sink.proofs.Owned.{marked_works, close_writes, writes_cause, writes_unlisted}
use Rattle.chk_sink.specs.Works.{OfClose}
use Rattle.chk_world.proofs.Working.{works_as, works_then}
use Rattle.chk_sink.proofs.Owning.{made_as, made_ok, refused_by}
use Rattle.std.proofs.Common.{inl, true}
use Rattle.chk_sink.proofs.Ticks.{none_seen, none_ticks, unmarked_ticks, close_ticks, see_ticks, is_seen}
use Rattle.chk_sink.proofs.sinks.Sinks.tick_settled.Goals as goal

pub returns-then-is_none-clause-told : goal.returns-then-is_none-clause-told
returns-then-is_none-clause-told g c stamped =
    none_ticks stamped c.args.self.now _ (none_seen c.self.inside c.args.self.now c.self.view_is c.if-is_none.ensures)

pub returns-then-is_due-clause-told : goal.returns-then-is_due-clause-told
returns-then-is_due-clause-told g c stamped =
    close_ticks stamped c.args.self.now c.commit.new.self c.close.new.self c.close.result c.in_ok-commit.ensures.ok c.close.ensures.only c.close.ensures.ok
    (c.in_ok-commit.ensures.told stamped) (c.close.ensures.told stamped)

pub returns-clause-told : goal.returns-clause-told
returns-clause-told g c stamped =
    see_ticks stamped c.args.now c.args.self.now c.commit.new.self c.see.new.self c.in_ok-commit.ensures.ok c.see.ensures (c.in_ok-commit.ensures.told stamped)

pub returns-then-is_none-clause-own : goal.returns-then-is_none-clause-own
returns-then-is_none-clause-own g c = rests

pub returns-in_err-commit-clause-own : goal.returns-in_err-commit-clause-own
returns-in_err-commit-clause-own g c =
    made_as c.commit.result c.from_residual.result _ c.in_err-commit.was (refused_by c.from_residual.ensures.1)
    (works_as (OfClose c.args.self.now) (λ call one. inl one) c.commit.ensures.own)

pub returns-then-is_due-clause-own : goal.returns-then-is_due-clause-own
returns-then-is_due-clause-own g c =
    works_then (works_as (OfClose c.args.self.now) (λ call one. inl one) (made_ok c.commit.result _ c.in_ok-commit.was c.commit.ensures.own))
    (marked_works c.args.self.now c.commit.new.self c.in_ok-commit.ensures.ok c.close.ensures.own)

pub returns-clause-own : goal.returns-clause-own
returns-clause-own g c = works_as (OfClose c.args.self.now) (λ call one. inl one) (made_ok c.commit.result _ c.in_ok-commit.was c.commit.ensures.own)

pub returns-in_err-commit-clause-told : goal.returns-in_err-commit-clause-told
returns-in_err-commit-clause-told g c stamped =
    rw (refused_by c.from_residual.ensures.1) (unmarked_ticks stamped c.args.self.now c.commit.new.self c.in_err-commit.field-0.0 c.in_err-commit.ensures.only (c.in_err-commit.ensures.told stamped))

pub returns-in_err-commit-clause-refused : goal.returns-in_err-commit-clause-refused
returns-in_err-commit-clause-refused g c =
    let some = is_seen c.self.inside c.args.self.now true c.self.view_is c.if-is_none.ensures in
    rw (refused_by c.from_residual.ensures.1) (commit_leaves c.args.self.now c.commit.new.self some c.in_err-commit.ensures.err)

pub returns-then-is_due-clause-refused : goal.returns-then-is_due-clause-refused
returns-then-is_due-clause-refused g c =
    close_leaves c.args.self.now c.commit.new.self c.close.new.self c.close.result
    (is_seen c.self.inside c.args.self.now true c.self.view_is c.if-is_none.ensures) c.in_ok-commit.ensures.ok c.close.ensures.err

pub returns-then-is_due-clause-lists : goal.returns-then-is_due-clause-lists
returns-then-is_due-clause-lists g c = writes_unlisted (close_writes c.args.self.now) (returns-then-is_due-clause-own g c)

pub returns-then-is_due-clause-damaged : goal.returns-then-is_due-clause-damaged
returns-then-is_due-clause-damaged g c =
    writes_cause _ (close_writes c.args.self.now) c.close.ensures.only (returns-then-is_due-clause-own g c)
