use Rattle.chk_site.specs.Site.{asked, sized}
use Rattle.chk_site.specs.declared.acts.Call.TheVariants.{Size}
use Rattle.chk_sink.proofs.Fields.{seen_as}
use Rattle.chk_world.proofs.Working.{works_then}
use Rattle.chk_sink.proofs.Owning.{made_err, made_none, made_by, taken_once, fails_of, refused_by}
use Rattle.std.proofs.Common.{◌∙◌, ap, refl, ℕ, Ok, [], ◌∷◌}
use Rattle.chk_site.proofs.Leads.{leads_then}
use Rattle.std.proofs.lemmas.Result.{IfOk-weaker}
use Rattle.chk_sink.proofs.ExactLengths.{size_exact, size_open}
use Rattle.chk_sink.proofs.LeastLengths.{least_done, least_marked}
use Rattle.chk_sink.proofs.AskedLengths.{asker, size_given, size_none, size_ended}
use Rattle.chk_sink.proofs.JoinedCauses.{ends_cause, done_cause, cause_then}
use Rattle.chk_sink.proofs.sinks.Sinks.committed.Goals as goal

pub returns-in_err-size-clause-told : goal.returns-in_err-size-clause-told
returns-in_err-size-clause-told g c stamped handled t stems acks =
    let s = c.args.self.now in
    size_ended stamped s handled t stems acks c.self.inside.who (asker c.self.inside s c.self.view_is c.self.invariant)
    c.args.stem c.stem_is_good.ensures c.as_str.result.now (c.as_str.ensures.value ∙ c.in_ok-name.ensures) c.size_of.result c.size_of.ensures.told
    c.in_err-size.field-0.0 c.from_residual-in_err-size.result c.in_err-size.was (refused_by c.from_residual-in_err-size.ensures.1)

pub returns-in-Some-clause-told : goal.returns-in-Some-clause-told
returns-in-Some-clause-told g c stamped handled t stems acks =
    let s = c.args.self.now in
    size_given stamped s handled t stems acks c.self.inside.who (asker c.self.inside s c.self.view_is c.self.invariant)
    c.args.stem c.stem_is_good.ensures c.as_str.result.now (c.as_str.ensures.value ∙ c.in_ok-name.ensures) c.size_of.result c.size_of.ensures.told
    c.in-Some.size (c.in_ok-size.was ∙ ap Ok c.in-Some.is)

pub returns-clause-told : goal.returns-clause-told
returns-clause-told g c stamped handled t stems acks =
    let s = c.args.self.now in
    let asks = asker c.self.inside s c.self.view_is c.self.invariant in
    leads_then
    (size_none stamped s handled t stems acks c.self.inside.who asks
    c.args.stem c.stem_is_good.ensures c.as_str.result.now (c.as_str.ensures.value ∙ c.in_ok-name.ensures) c.size_of.result c.size_of.ensures.told
    (c.in_ok-size.was ∙ ap Ok c.in-None.is))
    (c.marked.ensures.told stamped s handled t stems acks asks)

pub returns-in_err-name-clause-own : goal.returns-in_err-name-clause-own
returns-in_err-name-clause-own g c =
    made_none c.from_residual.result _ (refused_by c.from_residual.ensures.1)

pub returns-in_err-size-clause-own : goal.returns-in_err-size-clause-own
returns-in_err-size-clause-own g c =
    made_err c.from_residual-in_err-size.result c.in_err-size.field-0.0 (refused_by c.from_residual-in_err-size.ensures.1)
    (made_by (seen_as c.self.inside c.args.self.now c.self.view_is c.self.invariant).who (taken_once (asked c.self.inside.who Size (c.as_str.result.now ∷ []) 0 0) sized c.size_of.result _ c.in_err-size.was (λ v. tt) (c.as_str.ensures.value ∙ c.in_ok-name.ensures) c.size_of.ensures.told))

pub returns-in-Some-clause-own : goal.returns-in-Some-clause-own
returns-in-Some-clause-own g c = made_by (seen_as c.self.inside c.args.self.now c.self.view_is c.self.invariant).who (taken_once (asked c.self.inside.who Size (c.as_str.result.now ∷ []) 0 0) sized c.size_of.result _ c.in_ok-size.was (λ v. tt) (c.as_str.ensures.value ∙ c.in_ok-name.ensures) c.size_of.ensures.told)

pub returns-clause-own : goal.returns-clause-own
returns-clause-own g c = made_by (seen_as c.self.inside c.args.self.now c.self.view_is c.self.invariant).who (works_then (taken_once (asked c.self.inside.who Size (c.as_str.result.now ∷ []) 0 0) sized c.size_of.result _ c.in_ok-size.was (λ v. tt) (c.as_str.ensures.value ∙ c.in_ok-name.ensures) c.size_of.ensures.told) c.marked.ensures.own)

pub returns-in_err-name-clause-last : goal.returns-in_err-name-clause-last
returns-in_err-name-clause-last g c = fails_of _ (returns-in_err-name-clause-own g c)

pub returns-in_err-size-clause-last : goal.returns-in_err-size-clause-last
returns-in_err-size-clause-last g c = fails_of _ (returns-in_err-size-clause-own g c)

pub returns-in-Some-clause-last : goal.returns-in-Some-clause-last
returns-in-Some-clause-last g c = fails_of (Ok c.in-Some.size) (returns-in-Some-clause-own g c)

pub returns-clause-last : goal.returns-clause-last
returns-clause-last g c = fails_of _ (returns-clause-own g c)

pub returns-in_err-size-clause-damaged : goal.returns-in_err-size-clause-damaged
returns-in_err-size-clause-damaged g c =
    let m = c.in_err-size.ensures.told in
    ends_cause _ sized m.given _ m.told m.came (refused_by c.from_residual-in_err-size.ensures.1)

pub returns-in-Some-clause-damaged : goal.returns-in-Some-clause-damaged
returns-in-Some-clause-damaged g c =
    let m = c.in_ok-size.ensures.told in
    done_cause c.in-Some.size sized m.given m.told (λ answer. refl)

pub returns-clause-damaged : goal.returns-clause-damaged
returns-clause-damaged g c =
    let m = c.in_ok-size.ensures.told in
    cause_then {T = ℕ} (Ok 0) 0 c.marked.result refl (done_cause {T = ℕ} 0 sized m.given m.told (λ answer. refl)) c.marked.ensures.damaged

pub returns-in-Some-clause-exact : goal.returns-in-Some-clause-exact
returns-in-Some-clause-exact g c stamped earlier =
    let s = c.args.self.now in
    size_exact stamped s earlier c.self.inside.who (asker c.self.inside s c.self.view_is c.self.invariant)
    c.args.stem c.stem_is_good.ensures c.as_str.result.now (c.as_str.ensures.value ∙ c.in_ok-name.ensures) c.size_of.result c.size_of.ensures.told
    c.in-Some.size (c.in_ok-size.was ∙ ap Ok c.in-Some.is)

pub returns-clause-exact : goal.returns-clause-exact
returns-clause-exact g c =
    let s = c.args.self.now in
    let asks = asker c.self.inside s c.self.view_is c.self.invariant in
    IfOk-weaker c.marked.result _ _
    (λ n exact stamped earlier.
    leads_then
    (size_open stamped s earlier c.self.inside.who asks
    c.args.stem c.stem_is_good.ensures c.as_str.result.now (c.as_str.ensures.value ∙ c.in_ok-name.ensures) c.size_of.result c.size_of.ensures.told
    (c.in_ok-size.was ∙ ap Ok c.in-None.is))
    (exact stamped s earlier asks))
    c.marked.ensures.exact

pub returns-in-Some-clause-least : goal.returns-in-Some-clause-least
returns-in-Some-clause-least g c =
    let s = c.args.self.now in
    let asks = asker c.self.inside s c.self.view_is c.self.invariant in
    least_done s c.args.stem c.stem_is_good.ensures c.as_str.result.now (c.as_str.ensures.value ∙ c.in_ok-name.ensures) c.size_of.result
    (rw asks.who_is at c.size_of.ensures.told) c.in-Some.size (c.in_ok-size.was ∙ ap Ok c.in-Some.is)

pub returns-clause-least : goal.returns-clause-least
returns-clause-least g c =
    let s = c.args.self.now in
    let asks = asker c.self.inside s c.self.view_is c.self.invariant in
    IfOk-weaker c.marked.result _ _
    (λ n reads.
    least_marked s c.args.stem c.stem_is_good.ensures c.as_str.result.now (c.as_str.ensures.value ∙ c.in_ok-name.ensures) c.size_of.result
    (rw asks.who_is at c.size_of.ensures.told) n (c.in_ok-size.was ∙ ap Ok c.in-None.is) reads)
    c.marked.ensures.reads
