use Rattle.chk_sink.proofs.Owning.{tried_works, damaged_works}
use Rattle.std.proofs.Common.{◌∙◌, refl, sym, ap, Some, Ok, Err, Bool, true, false, [], ◌∷◌}
use Rattle.chk_site.specs.declared.acts.Call.TheVariants.{Cut}
use Rattle.chk_site.specs.declared.acts.OutsideFault.TheVariants.{Outside, NoMemory as no_memory}
use Rattle.chk_site.specs.Site.{asked, plain}
use Rattle.chk_world.specs.Names.{SinkFile, read}
use Rattle.chk_world.proofs.NameLemmas.{read-spell}
use Rattle.chk_sink.specs.Damage.{mark_name}
use Rattle.chk_sink.specs.Faults.{sink_fault}
use Rattle.chk_sink.specs.Settling.{HoldsAt, CutFound}
use Rattle.chk_sink.proofs.LeftCalls.{as_writer}
use Rattle.chk_sink.proofs.LeftCuts.{cut_done, cut_missed, cut_short, cut_tried}
use Rattle.chk_sink.proofs.Founding.{is_left, found_damage}
use Rattle.chk_sink.proofs.JoinedCauses.{gave_cause, damage_causes}
use Rattle.chk_sink.proofs.settling.cut_to.Goals as goal

pub returns-in-Ok-clause-told : goal.returns-in-Ok-clause-told
returns-in-Ok-clause-told g c stamped s may x settles other named =
    cut_done stamped s may x (is_left s c.args.who.now x settles other) c.args.sink.now named c.args.length c.cut.result c.in-Ok.field-0 c.in-Ok.is
    (as_writer plain s c.args.who.now Cut (c.args.sink.now ∷ []) c.args.length 0 settles.writer c.cut.result c.cut.ensures.told)

pub returns-in-Ok-clause-damaged : goal.returns-in-Ok-clause-damaged
returns-in-Ok-clause-damaged g c x good named marked = gave_cause (Ok true) plain c.cut.result c.cut.ensures.told c.in-Ok.is refl

pub returns-in-Err-Short-clause-told : goal.returns-in-Err-Short-clause-told
returns-in-Err-Short-clause-told g c stamped s may x settles other named =
    let told = as_writer plain s c.args.who.now Cut (c.args.sink.now ∷ []) c.args.length 0 settles.writer c.cut.result c.cut.ensures.told in
    let left = is_left s c.args.who.now x settles other in
    found_damage stamped s (λ there. HoldsAt s may x (CutFound c.args.length there)) c.args.mark.now c.damaged.result c.damaged.ensures
    (cut_short stamped s may x left c.args.sink.now named c.args.length c.cut.result _ (c.in-Err-Short.is ∙ ap Err c.in-Err-Short.field-0-is) told)
    (cut_tried stamped s may x left c.args.sink.now named c.args.length c.cut.result told)

pub returns-in-Err-Short-clause-damaged : goal.returns-in-Err-Short-clause-damaged
returns-in-Err-Short-clause-damaged g c x good named marked =
    gave_cause {T = Bool} (Err c.damaged.result) plain c.cut.result c.cut.ensures.told (c.in-Err-Short.is ∙ ap Err c.in-Err-Short.field-0-is)
    (damage_causes Bool c.args.mark.now c.damaged.result _ c.damaged.ensures
    (ap mark_name (ap read named ∙ read-spell (SinkFile x) good) ∙ ap Some (sym marked)))

pub returns-in-Err-Failed-clause-told : goal.returns-in-Err-Failed-clause-told
returns-in-Err-Failed-clause-told g c stamped s may x settles other named =
    cut_tried stamped s may x (is_left s c.args.who.now x settles other) c.args.sink.now named c.args.length c.cut.result
    (as_writer plain s c.args.who.now Cut (c.args.sink.now ∷ []) c.args.length 0 settles.writer c.cut.result c.cut.ensures.told)

pub returns-in-Err-Failed-clause-damaged : goal.returns-in-Err-Failed-clause-damaged
returns-in-Err-Failed-clause-damaged g c x good named marked =
    gave_cause {T = Bool} (Err (sink_fault (Outside Cut))) plain c.cut.result c.cut.ensures.told
    (c.in-Err-Failed.is ∙ ap Err c.in-Err-Failed.field-0-is) refl

pub returns-in-Err-NoMemory-clause-told : goal.returns-in-Err-NoMemory-clause-told
returns-in-Err-NoMemory-clause-told g c stamped s may x settles other named =
    cut_tried stamped s may x (is_left s c.args.who.now x settles other) c.args.sink.now named c.args.length c.cut.result
    (as_writer plain s c.args.who.now Cut (c.args.sink.now ∷ []) c.args.length 0 settles.writer c.cut.result c.cut.ensures.told)

pub returns-in-Err-NoMemory-clause-damaged : goal.returns-in-Err-NoMemory-clause-damaged
returns-in-Err-NoMemory-clause-damaged g c x good named marked =
    gave_cause {T = Bool} (Err (sink_fault no_memory)) plain c.cut.result c.cut.ensures.told
    (c.in-Err-NoMemory.is ∙ ap Err c.in-Err-NoMemory.field-0-is) tt

pub returns-in-Err-Missing-clause-told : goal.returns-in-Err-Missing-clause-told
returns-in-Err-Missing-clause-told g c stamped s may x settles other named =
    cut_missed stamped s may x (is_left s c.args.who.now x settles other) c.args.sink.now named c.args.length c.cut.result (c.in-Err-Missing.is ∙ ap Err c.in-Err-Missing.field-0-is)
    (as_writer plain s c.args.who.now Cut (c.args.sink.now ∷ []) c.args.length 0 settles.writer c.cut.result c.cut.ensures.told)

pub returns-in-Err-Missing-clause-damaged : goal.returns-in-Err-Missing-clause-damaged
returns-in-Err-Missing-clause-damaged g c x good named marked =
    gave_cause (Ok false) plain c.cut.result c.cut.ensures.told (c.in-Err-Missing.is ∙ ap Err c.in-Err-Missing.field-0-is) refl

pub returns-in-Ok-clause-own : goal.returns-in-Ok-clause-own
returns-in-Ok-clause-own g c x named =
    tried_works (asked c.args.who.now Cut (c.args.sink.now ∷ []) c.args.length 0) plain c.cut.result _ c.in-Ok.is (λ v. tt) named c.cut.ensures.told

pub returns-in-Err-Failed-clause-own : goal.returns-in-Err-Failed-clause-own
returns-in-Err-Failed-clause-own g c x named =
    tried_works (asked c.args.who.now Cut (c.args.sink.now ∷ []) c.args.length 0) plain c.cut.result _ (c.in-Err-Failed.is ∙ ap Err c.in-Err-Failed.field-0-is) (λ v. tt) named c.cut.ensures.told

pub returns-in-Err-NoMemory-clause-own : goal.returns-in-Err-NoMemory-clause-own
returns-in-Err-NoMemory-clause-own g c x named =
    tried_works (asked c.args.who.now Cut (c.args.sink.now ∷ []) c.args.length 0) plain c.cut.result _ (c.in-Err-NoMemory.is ∙ ap Err c.in-Err-NoMemory.field-0-is) (λ v. tt) named c.cut.ensures.told

pub returns-in-Err-Missing-clause-own : goal.returns-in-Err-Missing-clause-own
returns-in-Err-Missing-clause-own g c x named =
    tried_works (asked c.args.who.now Cut (c.args.sink.now ∷ []) c.args.length 0) plain c.cut.result _ (c.in-Err-Missing.is ∙ ap Err c.in-Err-Missing.field-0-is) (λ v. tt) named c.cut.ensures.told

pub returns-in-Err-Short-clause-own : goal.returns-in-Err-Short-clause-own
returns-in-Err-Short-clause-own g c x named =
    damaged_works Bool c.args.mark.now c.damaged.result c.damaged.ensures
    (tried_works (asked c.args.who.now Cut (c.args.sink.now ∷ []) c.args.length 0) plain c.cut.result _
    (c.in-Err-Short.is ∙ ap Err c.in-Err-Short.field-0-is) (λ v. tt) named c.cut.ensures.told)
