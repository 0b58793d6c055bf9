use Rattle.std.proofs.Common.{sym, ap, ◌∙◌, List, subst}
use Rattle.chk_tee_sender.specs.Sieves.{mark_of, is_fresh, asked_for, IsFirst, HasNone}
use Rattle.chk_tee_sender.specs.declared.sieve.Mark.{Mark}
use Rattle.chk_tee_sender.proofs.SieveLemmas.{raised_fresh, raised_asked, fresh_none}
use Rattle.chk_tee_sender.proofs.sieve.Sieve.fresh.Goals as goal

pub returns-in-Some-clause-fresh : goal.returns-in-Some-clause-fresh
returns-in-Some-clause-fresh c =
    let p = mark_of c.args.stem c.args.offset in
    let marks = c.self.inside.marks.items in
    raised_fresh marks p c.in-Some.i _ _ (subst (λ (l : List Mark). IsFirst l p c.in-Some.i) c.deref.ensures.value c.in-Some.ensures.some)
    c.index_mut.ensures.value c.raise.ensures.fresh
    ∙ ap (λ (l : List Mark). is_fresh l p) c.self.view_is

pub returns-in-Some-clause-ok : goal.returns-in-Some-clause-ok
returns-in-Some-clause-ok c =
    let p = mark_of c.args.stem c.args.offset in
    let marks = c.self.inside.marks.items in
    raised_asked marks p c.in-Some.i _ _ (subst (λ (l : List Mark). IsFirst l p c.in-Some.i) c.deref.ensures.value c.in-Some.ensures.some)
    c.index_mut.ensures.value c.raise.ensures.mark
    ∙ ap (λ (l : List Mark). asked_for l p) c.self.view_is

pub returns-in_ok-push-in-None-clause-fresh : goal.returns-in_ok-push-in-None-clause-fresh
returns-in_ok-push-in-None-clause-fresh c =
    let p = mark_of c.args.stem c.args.offset in
    sym (fresh_none c.self.inside.marks.items p (subst (λ (l : List Mark). HasNone l p) c.deref.ensures.value c.in-None.ensures.none)).0
    ∙ ap (λ (l : List Mark). is_fresh l p) c.self.view_is

pub returns-in_ok-push-in-None-clause-ok : goal.returns-in_ok-push-in-None-clause-ok
returns-in_ok-push-in-None-clause-ok c =
    let p = mark_of c.args.stem c.args.offset in
    c.in_ok-push-in-None.ensures.items
    ∙ (sym (fresh_none c.self.inside.marks.items p (subst (λ (l : List Mark). HasNone l p) c.deref.ensures.value c.in-None.ensures.none)).1
    ∙ ap (λ (l : List Mark). asked_for l p) c.self.view_is)
