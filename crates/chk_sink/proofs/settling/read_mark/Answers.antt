use Rattle.chk_world.proofs.Working.{call_ends, taken_works}
use Rattle.chk_sink.proofs.Owning.{made_err, damaged_works, refused_by}
use Rattle.std.proofs.Common.{◌∙◌, refl, sym, ap, Ok, Err, Some, None, subst, ℕ, [], ◌∷◌, Option, if◌then◌else◌, true≢false}
use Rattle.chk_site.specs.declared.acts.Call.TheVariants.{Read}
use Rattle.chk_site.specs.Site.{asked, bytes_given}
use Rattle.chk_world.specs.Names.{MarkFile, read}
use Rattle.chk_world.proofs.NameLemmas.{read-spell}
use Rattle.chk_sink.specs.Damage.{number_from}
use Rattle.chk_sink.specs.Settling.{HoldsAt, MarkFound, MarkedBy}
use Rattle.chk_sink.proofs.NumberBytes.{number_found, number_none}
use Rattle.chk_sink.proofs.LeftCalls.{as_writer}
use Rattle.chk_sink.proofs.LeftCuts.{mark_taken, mark_asked}
use Rattle.chk_sink.proofs.Holding.{leads_by}
use Rattle.chk_sink.proofs.Founding.{is_left, found_failed, found_damage}
use Rattle.chk_sink.proofs.JoinedCauses.{mark_cause, ends_cause, damage_causes}
use Rattle.chk_sink.proofs.settling.read_mark.Goals as goal

pub returns-in_err-taken-clause-told : goal.returns-in_err-taken-clause-told
returns-in_err-taken-clause-told g c stamped s may x settles other named =
    found_failed stamped s (λ found. HoldsAt s may x (MarkFound found)) c.from_residual.result _ (refused_by c.from_residual.ensures.1)
    (mark_asked stamped s may x (is_left s c.args.who.now x settles other) c.args.mark.now named c.read-read.result
    (as_writer bytes_given s c.args.who.now Read (c.args.mark.now ∷ []) 0 9 settles.writer c.read-read.result c.read-read.ensures.told))

pub returns-in_err-taken-clause-damaged : goal.returns-in_err-taken-clause-damaged
returns-in_err-taken-clause-damaged g c x good named =
    ends_cause _ bytes_given c.read-read.result _ c.read-read.ensures.told c.in_err-taken.ensures (refused_by c.from_residual.ensures.1)

pub returns-in-None-clause-told : goal.returns-in-None-clause-told
returns-in-None-clause-told g c stamped s may x settles other named =
    mark_taken stamped s may x (is_left s c.args.who.now x settles other) c.args.mark.now named c.read-read.result None
    (rw c.in-None.is at c.in_ok-taken.ensures)
    (as_writer bytes_given s c.args.who.now Read (c.args.mark.now ∷ []) 0 9 settles.writer c.read-read.result c.read-read.ensures.told)

pub returns-in-None-clause-damaged : goal.returns-in-None-clause-damaged
returns-in-None-clause-damaged g c x good named =
    mark_cause c.args.who.now c.args.mark.now x (ap read named ∙ read-spell (MarkFile x) good) {T = Option ℕ} (Ok None) c.read-read.result _
    c.in_ok-taken.ensures (rw c.in-None.is refl) c.read-read.ensures.told

pub returns-in-Some-number_from-clause-told : goal.returns-in-Some-number_from-clause-told
returns-in-Some-number_from-clause-told g c stamped s may x settles other named =
    let number = number_found 96 c.in-Some.bytes c.in-Some-number_from.number
    (sym (c.number_from.ensures.is ∙ ap (number_from 96) c.as_slice.ensures) ∙ c.in-Some-number_from.is) in
    leads_by (λ h y. subst (λ n. HoldsAt s may x (MarkedBy n) h) number.1 y.1)
    (mark_taken stamped s may x (is_left s c.args.who.now x settles other) c.args.mark.now named c.read-read.result (Some c.in-Some.bytes)
    (rw c.in-Some.is at c.in_ok-taken.ensures)
    (as_writer bytes_given s c.args.who.now Read (c.args.mark.now ∷ []) 0 9 settles.writer c.read-read.result c.read-read.ensures.told))

pub returns-in-Some-number_from-clause-damaged : goal.returns-in-Some-number_from-clause-damaged
returns-in-Some-number_from-clause-damaged g c x good named =
    let number = number_found 96 c.in-Some.bytes c.in-Some-number_from.number
    (sym (c.number_from.ensures.is ∙ ap (number_from 96) c.as_slice.ensures) ∙ c.in-Some-number_from.is) in
    mark_cause c.args.who.now c.args.mark.now x (ap read named ∙ read-spell (MarkFile x) good) (Ok (Some c.in-Some-number_from.number)) c.read-read.result _
    c.in_ok-taken.ensures (rw c.in-Some.is (ap (λ b. if b then None else Some c.args.mark.now) number.0)) c.read-read.ensures.told

pub returns-clause-told : goal.returns-clause-told
returns-clause-told g c stamped s may x settles other named =
    let bad = number_none 96 c.in-Some.bytes (sym (c.number_from.ensures.is ∙ ap (number_from 96) c.as_slice.ensures) ∙ c.in-None-number_from.is) in
    let told = as_writer bytes_given s c.args.who.now Read (c.args.mark.now ∷ []) 0 9 settles.writer c.read-read.result c.read-read.ensures.told in
    let left = is_left s c.args.who.now x settles other in
    found_damage stamped s (λ found. HoldsAt s may x (MarkFound found)) c.args.mark.now c.damaged.result c.damaged.ensures
    (leads_by (λ h y. true≢false (sym y.0 ∙ bad))
    (mark_taken stamped s may x left c.args.mark.now named c.read-read.result (Some c.in-Some.bytes) (rw c.in-Some.is at c.in_ok-taken.ensures) told))
    (mark_asked stamped s may x left c.args.mark.now named c.read-read.result told)

pub returns-clause-damaged : goal.returns-clause-damaged
returns-clause-damaged g c x good named =
    let bad = number_none 96 c.in-Some.bytes (sym (c.number_from.ensures.is ∙ ap (number_from 96) c.as_slice.ensures) ∙ c.in-None-number_from.is) in
    mark_cause c.args.who.now c.args.mark.now x (ap read named ∙ read-spell (MarkFile x) good) {T = Option ℕ} (Err c.damaged.result) c.read-read.result _
    c.in_ok-taken.ensures
    (rw c.in-Some.is (damage_causes (Option ℕ) c.args.mark.now c.damaged.result _ c.damaged.ensures (ap (λ b. if b then None else Some c.args.mark.now) bad)))
    c.read-read.ensures.told

pub returns-in_err-taken-clause-own : goal.returns-in_err-taken-clause-own
returns-in_err-taken-clause-own g c x named =
    made_err c.from_residual.result _ (refused_by c.from_residual.ensures.1)
    (call_ends (asked c.args.who.now Read (c.args.mark.now ∷ []) 0 9) bytes_given c.read-read.result _ (named, refl, refl) c.in_err-taken.ensures c.read-read.ensures.told)

pub returns-in-None-clause-own : goal.returns-in-None-clause-own
returns-in-None-clause-own g c x named =
    taken_works (asked c.args.who.now Read (c.args.mark.now ∷ []) 0 9) bytes_given c.read-read.result _ (λ v. tt) (named, refl, refl)
    c.in_ok-taken.ensures c.read-read.ensures.told

pub returns-in-Some-number_from-clause-own : goal.returns-in-Some-number_from-clause-own
returns-in-Some-number_from-clause-own g c x named =
    taken_works (asked c.args.who.now Read (c.args.mark.now ∷ []) 0 9) bytes_given c.read-read.result _ (λ v. tt) (named, refl, refl)
    c.in_ok-taken.ensures c.read-read.ensures.told

pub returns-clause-own : goal.returns-clause-own
returns-clause-own g c x named =
    damaged_works (Option ℕ) c.args.mark.now c.damaged.result c.damaged.ensures
    (taken_works (asked c.args.who.now Read (c.args.mark.now ∷ []) 0 9) bytes_given c.read-read.result _ (λ v. tt) (named, refl, refl)
    c.in_ok-taken.ensures c.read-read.ensures.told)
