use Rattle.chk_world.specs.Works.{rests}
use Rattle.chk_sink.proofs.Owned.{commit_works, commit_writes, writes_cause, writes_unlisted}
use Rattle.chk_sink.proofs.Owning.{made_result, fails_of}
use Rattle.std.proofs.Common.{ap}
use Rattle.chk_sink.specs.SinkFields.{writing_of}
use Rattle.chk_sink.proofs.Fields.{seen_as, open_as}
use Rattle.chk_sink.proofs.JoinedCauses.{of_outside}
use Rattle.chk_sink.proofs.Commits.{commit_same, commit_made}
use Rattle.chk_sink.proofs.sinks.Sinks.commit.Goals as goal

pub returns-then-current-clause-told : goal.returns-then-current-clause-told
returns-then-current-clause-told g c stamped =
    let f = open_as c.self.inside c.args.self.now c.in-Some.current c.self.view_is c.self.invariant c.in-Some.is in
    commit_same stamped c.args.self.now (writing_of c.in-Some.current) f.some f.of_stem.good f.of_stem.begun _ c.if-current.true

pub returns-clause-told : goal.returns-clause-told
returns-clause-told g c stamped =
    let s = c.args.self.now in
    let known = seen_as c.self.inside s c.self.view_is c.self.invariant in
    let f = open_as c.self.inside s c.in-Some.current c.self.view_is c.self.invariant c.in-Some.is in
    commit_made stamped s (writing_of c.in-Some.current) f.some f.of_stem.good f.of_stem.begun known.named c.self.inside.who known.who
    c.in-Some.current.stem f.of_stem.stem c.publish-published.ensures.told c.keep_where_done.new.self (writing_of c.all_marked.result)
    c.keep_where_done.ensures.new (ap writing_of c.all_marked.ensures) _ c.keep_where_done.ensures.result

pub returns-in_default-clause-own : goal.returns-in_default-clause-own
returns-in_default-clause-own g c = rests

pub returns-then-current-clause-own : goal.returns-then-current-clause-own
returns-then-current-clause-own g c = rests

pub returns-clause-own : goal.returns-clause-own
returns-clause-own g c =
    let s = c.args.self.now in
    let f = open_as c.self.inside s c.in-Some.current c.self.view_is c.self.invariant c.in-Some.is in
    made_result _ c.publish-published.result c.keep_where_done.ensures.result
    (commit_works s (writing_of c.in-Some.current) f.some c.self.inside.who (seen_as c.self.inside s c.self.view_is c.self.invariant).who
    c.in-Some.current.stem f.of_stem.stem c.publish-published.ensures.told)

pub returns-clause-last : goal.returns-clause-last
returns-clause-last g c = fails_of _ (returns-clause-own g c)

pub returns-clause-lists : goal.returns-clause-lists
returns-clause-lists g c = writes_unlisted (commit_writes c.args.self.now) (returns-clause-own g c)

pub returns-clause-damaged : goal.returns-clause-damaged
returns-clause-damaged g c =
    writes_cause _ (commit_writes c.args.self.now) (of_outside _ c.publish-published.result c.keep_where_done.ensures.result) (returns-clause-own g c)
