use Rattle.chk_site.specs.Site.{asked, bytes_given}
use Rattle.chk_site.specs.declared.acts.Call.TheVariants.{Read}
use Rattle.chk_sink.proofs.Owned.{number_works}
use Rattle.chk_sink.proofs.Owning.{made_err, made_none, taken_once, refused_by}
use Rattle.std.proofs.Common.{◌∙◌, ap, sym, subst, Ok, List, ℕ, refl, [], ◌∷◌}
use Rattle.chk_world.specs.Names.{MarkFile, read}
use Rattle.chk_world.proofs.NameLemmas.{read-spell}
use Rattle.chk_sink.specs.Asking.{IsMarkNumber}
use Rattle.chk_sink.proofs.ExactLengths.{number_exact, unmarked_exact}
use Rattle.chk_sink.proofs.LeastLengths.{reads_number, reads_none}
use Rattle.chk_sink.proofs.AskedLengths.{mark_given, mark_none, mark_ended}
use Rattle.chk_sink.proofs.JoinedCauses.{ends_cause, mark_cause, number_causes}
use Rattle.chk_sink.proofs.asking.marked.Goals as goal

pub returns-in_err-read-clause-told : goal.returns-in_err-read-clause-told
returns-in_err-read-clause-told g c stamped s handled t stems acks asks =
    mark_ended stamped s handled t stems acks c.args.who.now asks c.args.stem.now c.requires c.as_str.result.now
    (c.as_str.ensures.value ∙ c.in_ok-name.ensures) c.bytes_of.result c.bytes_of.ensures.told
    c.in_err-read.field-0.0 c.from_residual-in_err-read.result c.in_err-read.was (refused_by c.from_residual-in_err-read.ensures.1)

pub returns-in-Some-clause-told : goal.returns-in-Some-clause-told
returns-in-Some-clause-told g c stamped s handled t stems acks asks =
    let w : List ℕ = c.as_str.result.now in
    let is = subst (λ v. IsMarkNumber v c.in-Some.bytes c.number_of.result) (c.as_str-in-Some.ensures.value ∙ sym c.as_str.ensures.value)
    (subst (λ b. IsMarkNumber c.as_str-in-Some.result.now b c.number_of.result) c.as_slice.ensures c.number_of.ensures) in
    mark_given stamped s handled t stems acks c.args.who.now asks c.args.stem.now c.requires w
    (c.as_str.ensures.value ∙ c.in_ok-name.ensures) c.bytes_of.result c.bytes_of.ensures.told
    c.in-Some.bytes c.number_of.result (c.in_ok-read.was ∙ ap Ok c.in-Some.is) is

pub returns-clause-told : goal.returns-clause-told
returns-clause-told g c stamped s handled t stems acks asks =
    mark_none stamped s handled t stems acks c.args.who.now asks c.args.stem.now c.requires c.as_str.result.now
    (c.as_str.ensures.value ∙ c.in_ok-name.ensures) c.bytes_of.result c.bytes_of.ensures.told (c.in_ok-read.was ∙ ap Ok c.in-None.is)

pub returns-in_err-name-clause-own : goal.returns-in_err-name-clause-own
returns-in_err-name-clause-own g c =
    made_none c.from_residual.result _ (refused_by c.from_residual.ensures.1)

pub returns-in_err-read-clause-own : goal.returns-in_err-read-clause-own
returns-in_err-read-clause-own g c =
    made_err c.from_residual-in_err-read.result c.in_err-read.field-0.0 (refused_by c.from_residual-in_err-read.ensures.1)
    (taken_once (asked c.args.who.now Read (c.as_str.result.now ∷ []) 0 9) bytes_given c.bytes_of.result _ c.in_err-read.was (λ v. tt) (c.as_str.ensures.value ∙ c.in_ok-name.ensures, refl, refl) c.bytes_of.ensures.told)

pub returns-in-Some-clause-own : goal.returns-in-Some-clause-own
returns-in-Some-clause-own g c =
    number_works c.as_str-in-Some.result.now c.as_slice.result.now c.number_of.result c.number_of.ensures
    (taken_once (asked c.args.who.now Read (c.as_str.result.now ∷ []) 0 9) bytes_given c.bytes_of.result _ c.in_ok-read.was (λ v. tt) (c.as_str.ensures.value ∙ c.in_ok-name.ensures, refl, refl) c.bytes_of.ensures.told)

pub returns-clause-own : goal.returns-clause-own
returns-clause-own g c = taken_once (asked c.args.who.now Read (c.as_str.result.now ∷ []) 0 9) bytes_given c.bytes_of.result _ c.in_ok-read.was (λ v. tt) (c.as_str.ensures.value ∙ c.in_ok-name.ensures, refl, refl) c.bytes_of.ensures.told

pub returns-in_err-read-clause-damaged : goal.returns-in_err-read-clause-damaged
returns-in_err-read-clause-damaged g c =
    let m = c.in_err-read.ensures.told in
    ends_cause _ bytes_given m.given _ m.told m.came (refused_by c.from_residual-in_err-read.ensures.1)

pub returns-in-Some-clause-damaged : goal.returns-in-Some-clause-damaged
returns-in-Some-clause-damaged g c =
    let m = c.in_ok-read.ensures.told in
    let w : List ℕ = c.as_str.result.now in
    let w_is = c.as_str.ensures.value ∙ c.in_ok-name.ensures in
    let is = subst (λ v. IsMarkNumber v c.in-Some.bytes c.number_of.result) (c.as_str-in-Some.ensures.value ∙ sym c.as_str.ensures.value)
    (subst (λ b. IsMarkNumber c.as_str-in-Some.result.now b c.number_of.result) c.as_slice.ensures c.number_of.ensures) in
    mark_cause c.args.who.now w c.args.stem.now (ap read w_is ∙ read-spell (MarkFile c.args.stem.now) c.requires) c.number_of.result
    m.given _ m.came (rw c.in-Some.is (number_causes w c.in-Some.bytes c.number_of.result is)) m.told

pub returns-clause-damaged : goal.returns-clause-damaged
returns-clause-damaged g c =
    let m = c.in_ok-read.ensures.told in
    let w_is = c.as_str.ensures.value ∙ c.in_ok-name.ensures in
    mark_cause c.args.who.now c.as_str.result.now c.args.stem.now (ap read w_is ∙ read-spell (MarkFile c.args.stem.now) c.requires) {T = ℕ} (Ok 0)
    m.given _ m.came (rw c.in-None.is refl) m.told

pub returns-in-Some-clause-exact : goal.returns-in-Some-clause-exact
returns-in-Some-clause-exact g c =
    let w : List ℕ = c.as_str.result.now in
    let is = subst (λ v. IsMarkNumber v c.in-Some.bytes c.number_of.result) (c.as_str-in-Some.ensures.value ∙ sym c.as_str.ensures.value)
    (subst (λ b. IsMarkNumber c.as_str-in-Some.result.now b c.number_of.result) c.as_slice.ensures c.number_of.ensures) in
    number_exact c.args.who.now c.args.stem.now c.requires w (c.as_str.ensures.value ∙ c.in_ok-name.ensures) c.bytes_of.result c.bytes_of.ensures.told
    c.in-Some.bytes c.number_of.result (c.in_ok-read.was ∙ ap Ok c.in-Some.is) is

pub returns-clause-exact : goal.returns-clause-exact
returns-clause-exact g c stamped s earlier asks =
    unmarked_exact stamped s earlier c.args.who.now asks c.args.stem.now c.requires c.as_str.result.now
    (c.as_str.ensures.value ∙ c.in_ok-name.ensures) c.bytes_of.result c.bytes_of.ensures.told (c.in_ok-read.was ∙ ap Ok c.in-None.is)

pub returns-in-Some-clause-reads : goal.returns-in-Some-clause-reads
returns-in-Some-clause-reads g c =
    let w : List ℕ = c.as_str.result.now in
    let is = subst (λ v. IsMarkNumber v c.in-Some.bytes c.number_of.result) (c.as_str-in-Some.ensures.value ∙ sym c.as_str.ensures.value)
    (subst (λ b. IsMarkNumber c.as_str-in-Some.result.now b c.number_of.result) c.as_slice.ensures c.number_of.ensures) in
    reads_number c.args.who.now c.args.stem.now c.requires w (c.as_str.ensures.value ∙ c.in_ok-name.ensures) c.bytes_of.result c.bytes_of.ensures.told
    c.in-Some.bytes c.number_of.result (c.in_ok-read.was ∙ ap Ok c.in-Some.is) is

pub returns-clause-reads : goal.returns-clause-reads
returns-clause-reads g c =
    reads_none c.args.who.now c.args.stem.now c.requires c.as_str.result.now (c.as_str.ensures.value ∙ c.in_ok-name.ensures)
    c.bytes_of.result c.bytes_of.ensures.told (c.in_ok-read.was ∙ ap Ok c.in-None.is)
