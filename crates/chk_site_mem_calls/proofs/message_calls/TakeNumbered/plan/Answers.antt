use Rattle.std.proofs.Common.{◌≡◌, List, ℕ, [], ◌∷◌, Option, Some, None, refl, ◌∙◌, ap, subst, rules}
use Rattle.chk_site.specs.Site.{taking_given}
use Rattle.chk_site_mem_store.specs.Told.{told_of}
use Rattle.chk_site_mem_calls.specs.declared.mail.Letter.{Letter}
use Rattle.chk_site_mem_calls.specs.Mail.{IsMailbox, IsNext, waits}
use Rattle.chk_site_mem_calls.proofs.PlanLemmas.{plans_done, plans_some}
use Rattle.chk_site_mem_calls.proofs.TakeLemmas.{none_taken, some_taken}
use Rattle.chk_site_mem_calls.proofs.message_calls.TakeNumbered.plan.Goals as goal

pub returns-in_default-clause-plans : goal.returns-in_default-clause-plans
returns-in_default-clause-plans c =
    let s = c.args.self.now in
    let h = told_of c.args.keeper.now.kept in
    let numbers = c.args.keeper.now.repeats.numbers in
    let box = c.at_door-mailbox.result in
    let at = subst (λ (r : List ℕ). IsMailbox s.who.now s.door.now r box) c.repeated.ensures c.at_door-mailbox.ensures in
    let none : c.in_ok-letter.field-0 ≡ None = search rules in
    let words = c.in_ok-words.ensures ∙ ap (λ (d : List ℕ). d ∷ []) c.as_bytes.ensures.value in
    let next = subst (λ (o : Option Letter). IsNext h (waits box h) o) none c.in_ok-letter.ensures in
    let follows = none_taken h s.who.now s.door.now numbers box at next in
    plans_some c.give.result 0 _ taking_given c.args.keeper.now
    (plans_done c.give.result _ _ _ (s.door.now ∷ []) s.wait 0 (taking_given 0) c.args.keeper.now _ None c.give.ensures words c.done.ensures
    follows.agrees follows.loses refl)

pub returns-clause-plans : goal.returns-clause-plans
returns-clause-plans c =
    let s = c.args.self.now in
    let h = told_of c.args.keeper.now.kept in
    let numbers = c.args.keeper.now.repeats.numbers in
    let box = c.at_door-mailbox.result in
    let at = subst (λ (r : List ℕ). IsMailbox s.who.now s.door.now r box) c.repeated.ensures c.at_door-mailbox.ensures in
    let letter = c.in-Some.letter in
    let taking = c.in_ok-taking.taking in
    let words = c.in_ok-words.ensures ∙ ap (λ (d : List ℕ). d ∷ []) c.as_bytes.ensures.value in
    let next = subst (λ (o : Option Letter). IsNext h (waits box h) o) c.in-Some.is c.in_ok-letter.ensures in
    let follows =
    some_taken h s.who.now s.door.now numbers box letter taking at next c.in_ok-taking.ensures in
    plans_some c.give-2.result letter.number _ taking_given c.args.keeper.now
    (plans_done c.give-2.result _ _ _ (s.door.now ∷ []) s.wait 0 (taking_given letter.number) c.args.keeper.now _ (Some taking) c.give-2.ensures words
    c.in_ok-given.ensures
    follows.agrees follows.loses refl)
