use Rattle.std.proofs.Common.{◌∙◌, subst}
use Rattle.std.proofs.lemmas.Result.{err_from_is_err_and}
use Rattle.chk_site.specs.Site.{answered}
use Rattle.chk_site_mem_calls.specs.Plans.{Plans}
use Rattle.chk_site_mem.specs.Memory.{Memory}
use Rattle.chk_site_mem.specs.declared.fate.Fate.{Fate}
use Rattle.chk_site_mem.proofs.CallLemmas.{cause_made, cause_since, failed_call, made_call, may_unbegun, may_unmade, plan_loses, some_number, unbegun_call, unmade_call}
use Rattle.chk_site_mem.proofs.FollowLemmas.{follows_failed, follows_made, follows_unbegun, follows_unmade}
use Rattle.chk_site_mem.proofs.site_mem.SiteMem.call_numbered.Goals as goal

pub returns-in_err-fate-clause-told : goal.returns-in_err-fate-clause-told
returns-in_err-fate-clause-told g c =
    let p = err_from_is_err_and c.from_residual.result c.from_residual.ensures.1 in
    let q = g.Q.Numbered.asks c.args.question in
    rw (p.1, p.2) (some_number q _ 0 (unbegun_call Fate (q 0) _ _ _ c.in_err-fate.ensures.begins))

pub returns-in_err-fate-clause-follows : goal.returns-in_err-fate-clause-follows
returns-in_err-fate-clause-follows g c =
    let p = err_from_is_err_and c.from_residual.result c.from_residual.ensures.1 in
    rw (p.1, p.2) (follows_unbegun _ Fate _ _ _ c.in_err-fate.ensures.script)

pub returns-in_err-planned-clause-told : goal.returns-in_err-planned-clause-told
returns-in_err-planned-clause-told g c =
    let p = err_from_is_err_and c.from_residual-in_err-planned.result c.from_residual-in_err-planned.ensures.1 in
    let begins = c.in_ok-fate.ensures.begins in
    let q = g.Q.Numbered.asks c.args.question in
    rw (p.1, p.2) (some_number q _ 0 (unmade_call (q 0) _ _ begins.0 begins.1))

pub returns-in_err-planned-clause-follows : goal.returns-in_err-planned-clause-follows
returns-in_err-planned-clause-follows g c =
    let p = err_from_is_err_and c.from_residual-in_err-planned.result c.from_residual-in_err-planned.ensures.1 in
    let script = c.in_ok-fate.ensures.script in
    rw (p.1, p.2) (follows_unmade (Unit {0}) _ _ script.0 script.1)

pub returns-in_err-make-clause-told : goal.returns-in_err-make-clause-told
returns-in_err-make-clause-told g c =
    let p = err_from_is_err_and c.from_residual-in_err-make.result c.from_residual-in_err-make.ensures.1 in
    let begins = c.in_ok-fate.ensures.begins in
    let q = g.Q.Numbered.asks c.args.question in
    let how = g.Q.Numbered.says in
    let planned = c.in_ok-planned.planned in
    let n = c.in_ok-planned.ensures.plans.0 in
    let plans = subst (λ (m : Memory). Plans (q n) (how n) m.state planned) c.self.view_is c.in_ok-planned.ensures.plans.1 in
    rw (p.1, p.2)
    (some_number q _ n
    (failed_call (Unit {0}) (q n) (how n) planned c.in_err-make.field-0.0 _ _ _ begins.0 begins.1 plans c.in_err-make.ensures.becomes))

pub returns-in_err-make-clause-follows : goal.returns-in_err-make-clause-follows
returns-in_err-make-clause-follows g c =
    let p = err_from_is_err_and c.from_residual-in_err-make.result c.from_residual-in_err-make.ensures.1 in
    let script = c.in_ok-fate.ensures.script in
    let q = g.Q.Numbered.asks c.args.question in
    let how = g.Q.Numbered.says in
    let planned = c.in_ok-planned.planned in
    let n = c.in_ok-planned.ensures.plans.0 in
    let plans = subst (λ (m : Memory). Plans (q n) (how n) m.state planned) c.self.view_is c.in_ok-planned.ensures.plans.1 in
    rw (p.1, p.2)
    (follows_failed (Unit {0}) (q n) (how n) planned c.in_err-make.field-0.0 _ _ _ _ script.0 script.1 c.in_ok-fate.ensures.fate plans
    c.in_err-make.ensures.script)

pub returns-clause-told : goal.returns-clause-told
returns-clause-told g c =
    let begins = c.in_ok-fate.ensures.begins in
    let q = g.Q.Numbered.asks c.args.question in
    let how = g.Q.Numbered.says in
    let planned = c.in_ok-planned.planned in
    let n = c.in_ok-planned.ensures.plans.0 in
    let plans = subst (λ (m : Memory). Plans (q n) (how n) m.state planned) c.self.view_is c.in_ok-planned.ensures.plans.1 in
    some_number q (λ n. answered (how n) planned.gives) n
    (made_call (q n) (how n) planned.act planned.gives _ _ _ begins.0 begins.1 plans c.in_ok-make.ensures.becomes)

pub returns-clause-follows : goal.returns-clause-follows
returns-clause-follows g c =
    let script = c.in_ok-fate.ensures.script in
    let q = g.Q.Numbered.asks c.args.question in
    let how = g.Q.Numbered.says in
    let planned = c.in_ok-planned.planned in
    let n = c.in_ok-planned.ensures.plans.0 in
    let plans = subst (λ (m : Memory). Plans (q n) (how n) m.state planned) c.self.view_is c.in_ok-planned.ensures.plans.1 in
    follows_made c.in_ok-make.field-0 (q n) (how n) planned.act planned.gives _ _ _ _ script.0 script.1 c.in_ok-fate.ensures.fate plans
    c.in_ok-make.ensures.script

pub returns-in_err-fate-clause-may : goal.returns-in_err-fate-clause-may
returns-in_err-fate-clause-may g c =
    let p = err_from_is_err_and c.from_residual.result c.from_residual.ensures.1 in
    rw (p.1, p.2)
    (may_unbegun Fate (g.Q.Numbered.may c.args.question) _ _ _
    (g.met.Q.Numbered.may_fail c.args.question) (g.met.Q.Numbered.may_want c.args.question)
    c.in_err-fate.ensures.begins)

pub returns-in_err-fate-clause-cause : goal.returns-in_err-fate-clause-cause
returns-in_err-fate-clause-cause g c =
    let p = err_from_is_err_and c.from_residual.result c.from_residual.ensures.1 in
    rw (p.1, p.2) c.in_err-fate.ensures.cause

pub returns-in_err-planned-clause-may : goal.returns-in_err-planned-clause-may
returns-in_err-planned-clause-may g c =
    let p = err_from_is_err_and c.from_residual-in_err-planned.result c.from_residual-in_err-planned.ensures.1 in
    rw (p.1, p.2) (g.met.Q.Numbered.may_want c.args.question)

pub returns-in_err-planned-clause-cause : goal.returns-in_err-planned-clause-cause
returns-in_err-planned-clause-cause g c =
    let p = err_from_is_err_and c.from_residual-in_err-planned.result c.from_residual-in_err-planned.ensures.1 in
    rw (p.1, p.2) c.in_ok-fate.ensures.cause

pub returns-in_err-make-clause-may : goal.returns-in_err-make-clause-may
returns-in_err-make-clause-may g c =
    let p = err_from_is_err_and c.from_residual-in_err-make.result c.from_residual-in_err-make.ensures.1 in
    rw (p.1, p.2)
    (may_unmade (Unit {0}) (g.Q.Numbered.may c.args.question) c.in_ok-planned.planned.act _ _ _
    (g.met.Q.Numbered.may_fail c.args.question) (g.met.Q.Numbered.may_want c.args.question)
    c.in_err-make.ensures.becomes)

pub returns-in_err-make-clause-cause : goal.returns-in_err-make-clause-cause
returns-in_err-make-clause-cause g c =
    let p = err_from_is_err_and c.from_residual-in_err-make.result c.from_residual-in_err-make.ensures.1 in
    rw (p.1, p.2) (cause_since (Unit {0}) _ _ _ _ c.in_ok-fate.ensures.cause c.in_err-make.ensures.cause)

pub returns-clause-may : goal.returns-clause-may
returns-clause-may g c =
    c.in_ok-planned.ensures.may

pub returns-clause-cause : goal.returns-clause-cause
returns-clause-cause g c =
    let q = g.Q.Numbered.asks c.args.question in
    let how = g.Q.Numbered.says in
    let planned = c.in_ok-planned.planned in
    let n = c.in_ok-planned.ensures.plans.0 in
    let plans = subst (λ (m : Memory). Plans (q n) (how n) m.state planned) c.self.view_is c.in_ok-planned.ensures.plans.1 in
    cause_made (q n) (how n) planned.act planned.gives _ _ _ plans (c.in_ok-make.ensures.cause ∙ c.in_ok-fate.ensures.cause)

pub make-requires-clause-runs : goal.make-requires-clause-runs
make-requires-clause-runs g c =
    c.in_ok-planned.ensures.plans.1.runs

pub make-requires-clause-loses : goal.make-requires-clause-loses
make-requires-clause-loses g c =
    let q = g.Q.Numbered.asks c.args.question in
    let how = g.Q.Numbered.says in
    let planned = c.in_ok-planned.planned in
    let n = c.in_ok-planned.ensures.plans.0 in
    let plans = subst (λ (m : Memory). Plans (q n) (how n) m.state planned) c.self.view_is c.in_ok-planned.ensures.plans.1 in
    plan_loses (q n) (how n) _ planned plans
