use Rattle.chk_world.proofs.Working.{call_ends, call_works}
use Rattle.chk_sink.proofs.Owning.{made_err, refused_by}
use Rattle.std.proofs.Common.{false, refl, [], ◌∷◌, inl}
use Rattle.chk_site.specs.declared.acts.Call.TheVariants.{Remove}
use Rattle.chk_site.specs.Site.{asked, plain}
use Rattle.chk_sink.specs.Settling.{HoldsAt, BothGone}
use Rattle.chk_sink.proofs.LeftCalls.{as_writer, removed_done, removed_tried}
use Rattle.chk_sink.proofs.Founding.{is_left, found_failed}
use Rattle.chk_sink.proofs.JoinedCauses.{done_cause, ends_cause}
use Rattle.chk_sink.proofs.settling.remove_sink.Goals as goal

pub returns-in_err-done-clause-told : goal.returns-in_err-done-clause-told
returns-in_err-done-clause-told g c stamped s may x settles other named =
    found_failed stamped s (λ v. HoldsAt s may x BothGone) c.from_residual.result _ (refused_by c.from_residual.ensures.1)
    (removed_tried stamped s may x (is_left s c.args.who.now x settles other) false c.args.sink.now named c.remove-removed.result
    (as_writer plain s c.args.who.now Remove (c.args.sink.now ∷ []) 0 0 settles.writer c.remove-removed.result c.remove-removed.ensures.told))

pub returns-clause-told : goal.returns-clause-told
returns-clause-told g c stamped s may x settles other named =
    removed_done stamped s may x (is_left s c.args.who.now x settles other) false c.args.sink.now named c.remove-removed.result c.in_ok-done.ensures
    (as_writer plain s c.args.who.now Remove (c.args.sink.now ∷ []) 0 0 settles.writer c.remove-removed.result c.remove-removed.ensures.told)

pub returns-in_err-done-clause-damaged : goal.returns-in_err-done-clause-damaged
returns-in_err-done-clause-damaged g c =
    ends_cause _ plain c.remove-removed.result _ c.remove-removed.ensures.told c.in_err-done.ensures (refused_by c.from_residual.ensures.1)

pub returns-clause-damaged : goal.returns-clause-damaged
returns-clause-damaged g c = done_cause (tt {0}) plain c.remove-removed.result c.remove-removed.ensures.told (λ answer. refl)

pub returns-in_err-done-clause-own : goal.returns-in_err-done-clause-own
returns-in_err-done-clause-own g c x named =
    made_err c.from_residual.result _ (refused_by c.from_residual.ensures.1)
    (call_ends (asked c.args.who.now Remove (c.args.sink.now ∷ []) 0 0) plain c.remove-removed.result _ (inl named) c.in_err-done.ensures c.remove-removed.ensures.told)

pub returns-clause-own : goal.returns-clause-own
returns-clause-own g c x named =
    call_works (asked c.args.who.now Remove (c.args.sink.now ∷ []) 0 0) plain c.remove-removed.result (λ v. tt) (inl named) c.in_ok-done.ensures c.remove-removed.ensures.told
