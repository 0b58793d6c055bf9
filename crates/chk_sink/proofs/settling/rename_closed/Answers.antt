use Rattle.chk_world.proofs.Working.{call_ends, call_works}
use Rattle.chk_sink.proofs.Owning.{made_err, refused_by}
use Rattle.std.proofs.Common.{refl, [], ◌∷◌}
use Rattle.chk_site.specs.declared.acts.Call.TheVariants.{Rename}
use Rattle.chk_site.specs.Site.{asked, plain}
use Rattle.chk_sink.specs.Settling.{HoldsAt, NoSink}
use Rattle.chk_sink.proofs.LeftCalls.{as_writer}
use Rattle.chk_sink.proofs.LeftCuts.{close_done, close_tried}
use Rattle.chk_sink.proofs.Founding.{is_left, found_failed}
use Rattle.chk_sink.proofs.JoinedCauses.{done_cause, ends_cause}
use Rattle.chk_sink.proofs.settling.rename_closed.Goals as goal

pub returns-in_err-done-clause-told : goal.returns-in_err-done-clause-told
returns-in_err-done-clause-told g c stamped s may x n settles other named closed =
    found_failed stamped s (λ v. HoldsAt s may x NoSink) c.from_residual.result _ (refused_by c.from_residual.ensures.1)
    (close_tried stamped s may x (is_left s c.args.who.now x settles other) c.args.sink.now c.args.closed.now named closed n c.rename-renamed.result
    (as_writer plain s c.args.who.now Rename (c.args.sink.now ∷ c.args.closed.now ∷ []) 0 0 settles.writer c.rename-renamed.result c.rename-renamed.ensures.told))

pub returns-clause-told : goal.returns-clause-told
returns-clause-told g c stamped s may x n settles other named closed =
    close_done stamped s may x (is_left s c.args.who.now x settles other) c.args.sink.now c.args.closed.now named closed n c.rename-renamed.result c.in_ok-done.ensures
    (as_writer plain s c.args.who.now Rename (c.args.sink.now ∷ c.args.closed.now ∷ []) 0 0 settles.writer c.rename-renamed.result c.rename-renamed.ensures.told)

pub returns-in_err-done-clause-damaged : goal.returns-in_err-done-clause-damaged
returns-in_err-done-clause-damaged g c =
    ends_cause _ plain c.rename-renamed.result _ c.rename-renamed.ensures.told c.in_err-done.ensures (refused_by c.from_residual.ensures.1)

pub returns-clause-damaged : goal.returns-clause-damaged
returns-clause-damaged g c = done_cause (tt {0}) plain c.rename-renamed.result c.rename-renamed.ensures.told (λ answer. refl)

pub returns-in_err-done-clause-own : goal.returns-in_err-done-clause-own
returns-in_err-done-clause-own g c x named closed =
    made_err c.from_residual.result _ (refused_by c.from_residual.ensures.1)
    (call_ends (asked c.args.who.now Rename (c.args.sink.now ∷ c.args.closed.now ∷ []) 0 0) plain c.rename-renamed.result _ (named, closed) c.in_err-done.ensures c.rename-renamed.ensures.told)

pub returns-clause-own : goal.returns-clause-own
returns-clause-own g c x named closed =
    call_works (asked c.args.who.now Rename (c.args.sink.now ∷ c.args.closed.now ∷ []) 0 0) plain c.rename-renamed.result (λ v. tt) (named, closed) c.in_ok-done.ensures c.rename-renamed.ensures.told
