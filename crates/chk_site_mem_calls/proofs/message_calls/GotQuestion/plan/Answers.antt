use Rattle.std.proofs.Common.{List, ℕ, [], ◌∷◌, refl, sym, ◌∙◌, ap, subst}
use Rattle.chk_site.specs.declared.acts.ActAnswer.TheVariants.{Done}
use Rattle.chk_site.specs.Honest.{GotAnswer}
use Rattle.chk_site.specs.Messages.{replies}
use Rattle.chk_site.specs.Site.{bytes_given}
use Rattle.chk_site_mem_store.specs.Told.{told_of}
use Rattle.chk_site_mem_calls.proofs.GotLemmas.{got_answers}
use Rattle.chk_site_mem_calls.proofs.PlanLemmas.{plans_done}
use Rattle.chk_site_mem_calls.proofs.message_calls.GotQuestion.plan.Goals as goal

pub returns-clause-plans : goal.returns-clause-plans
returns-clause-plans c =
    let h = told_of c.args.keeper.now.kept in
    let rs = replies h c.args.self.now.message in
    let got = c.in_ok-got.got.now in
    let bytes = c.in_ok-bytes.bytes in
    plans_done c.give.result _ _ _ [] c.args.self.now.message 0 bytes_given c.args.keeper.now _ bytes c.give.ensures
    c.new-words.ensures
    (c.worded-given.ensures ∙ ap (λ (w : List (List ℕ)). Done w 0 0) (c.in_ok-one.ensures ∙ ap (λ (b : List ℕ). b ∷ []) (sym c.in_ok-bytes.ensures)))
    (subst (GotAnswer rs) (sym (c.in_ok-bytes.ensures ∙ c.in_ok-got.ensures)) (got_answers rs))
    (ap (λ (b : List ℕ). b ∷ []) (c.in_ok-bytes.ensures ∙ c.in_ok-got.ensures)) refl
