use Rattle.chk_sink.proofs.Owning.{tried_works}
use Rattle.std.proofs.Common.{◌∙◌, refl, ap, Err, [], ◌∷◌}
use Rattle.std.specs.Prelude.{codes}
use Rattle.chk_site.specs.declared.acts.Call.TheVariants.{List as ListNames}
use Rattle.chk_site.specs.declared.acts.OutsideFault.TheVariants.{Outside, NoMemory as no_memory}
use Rattle.chk_site.specs.Site.{asked, names_given}
use Rattle.chk_sink.specs.Faults.{sink_fault}
use Rattle.chk_sink.proofs.LeftCalls.{as_writer}
use Rattle.chk_sink.proofs.LeftListed.{listed, list_tried}
use Rattle.chk_sink.proofs.JoinedCauses.{done_cause, gave_cause}
use Rattle.chk_sink.proofs.settling.list_sinks.Goals as goal

pub returns-in-Ok-clause-told : goal.returns-in-Ok-clause-told
returns-in-Ok-clause-told g c stamped s settles =
    listed stamped s c.args.who.now settles c.in-Ok.names.items (λ v. v.items) c.list.result c.in-Ok.names c.in-Ok.is refl
    (as_writer (λ v. names_given v.items) s c.args.who.now ListNames (codes "sinks" ∷ []) 0 0 settles.writer c.list.result c.list.ensures.told)

pub returns-in-Ok-clause-damaged : goal.returns-in-Ok-clause-damaged
returns-in-Ok-clause-damaged g c = done_cause c.in-Ok.names (λ v. names_given v.items) c.list.result c.list.ensures.told (λ answer. refl)

pub returns-in-Err-Failed-clause-told : goal.returns-in-Err-Failed-clause-told
returns-in-Err-Failed-clause-told g c stamped s settles =
    list_tried stamped s c.args.who.now settles (λ v. v.items) c.list.result
    (as_writer (λ v. names_given v.items) s c.args.who.now ListNames (codes "sinks" ∷ []) 0 0 settles.writer c.list.result c.list.ensures.told)

pub returns-in-Err-Failed-clause-damaged : goal.returns-in-Err-Failed-clause-damaged
returns-in-Err-Failed-clause-damaged g c =
    gave_cause {T = Unit {0}} (Err (sink_fault (Outside ListNames))) (λ v. names_given v.items) c.list.result c.list.ensures.told
    (c.in-Err-Failed.is ∙ ap Err c.in-Err-Failed.field-0-is) refl

pub returns-in-Err-NoMemory-clause-told : goal.returns-in-Err-NoMemory-clause-told
returns-in-Err-NoMemory-clause-told g c stamped s settles =
    list_tried stamped s c.args.who.now settles (λ v. v.items) c.list.result
    (as_writer (λ v. names_given v.items) s c.args.who.now ListNames (codes "sinks" ∷ []) 0 0 settles.writer c.list.result c.list.ensures.told)

pub returns-in-Err-NoMemory-clause-damaged : goal.returns-in-Err-NoMemory-clause-damaged
returns-in-Err-NoMemory-clause-damaged g c =
    gave_cause {T = Unit {0}} (Err (sink_fault no_memory)) (λ v. names_given v.items) c.list.result c.list.ensures.told
    (c.in-Err-NoMemory.is ∙ ap Err c.in-Err-NoMemory.field-0-is) tt

pub returns-in-Ok-clause-own : goal.returns-in-Ok-clause-own
returns-in-Ok-clause-own g c =
    tried_works (asked c.args.who.now ListNames (codes "sinks" ∷ []) 0 0) (λ v. names_given v.items) c.list.result _ c.in-Ok.is (λ v. tt) refl c.list.ensures.told

pub returns-in-Err-Failed-clause-own : goal.returns-in-Err-Failed-clause-own
returns-in-Err-Failed-clause-own g c =
    tried_works (asked c.args.who.now ListNames (codes "sinks" ∷ []) 0 0) (λ v. names_given v.items) c.list.result _
    (c.in-Err-Failed.is ∙ ap Err c.in-Err-Failed.field-0-is) (λ v. tt) refl c.list.ensures.told

pub returns-in-Err-NoMemory-clause-own : goal.returns-in-Err-NoMemory-clause-own
returns-in-Err-NoMemory-clause-own g c =
    tried_works (asked c.args.who.now ListNames (codes "sinks" ∷ []) 0 0) (λ v. names_given v.items) c.list.result _
    (c.in-Err-NoMemory.is ∙ ap Err c.in-Err-NoMemory.field-0-is) (λ v. tt) refl c.list.ensures.told
