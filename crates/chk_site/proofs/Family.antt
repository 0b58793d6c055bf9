-- A call that was made once, and leads from each of several facts to another.
use Rattle.std.proofs.Common.{◌≡◌, ◌++◌, Option, Some, sym, subst, ◌∙◌}
use Rattle.std.proofs.lemmas.List.{append_cancel_right}
use Rattle.std.proofs.lemmas.Option.{same_Some}
use Rattle.chk_site.specs.History.{History, Others}
use Rattle.chk_site.specs.Site.{Adds}
use Rattle.chk_site.specs.Runs.{Side, Leads}

-- what it leads to, of all of them together
pub leads_family : {S : Side} {I : Type 0} (A C : I → History → Type 0) (P Q : History → Type 0) {old new : Option History} → I
    → ((i : I) → Adds old new (Leads S (A i) (C i)))
    → ((added history : History) → ((i : I) → A i history → C i (added ++ history)) → P history → Q (added ++ history))
    → Adds old new (Leads S P Q)
leads_family {S = S} {I = I} A C P Q {old = old} {new = new} one each join = record {
  told = λ history e.
      let x = (each one).told history e in (
        x.0,
        x.1,
        record { leads = λ s p. join x.0 history (λ i a. same i history e x.0 x.1 s a) p; own = x.2.own },
      );
  untold = (each one).untold;
}
  where
    same : (i : I) (history : History) → old ≡ Some history → (added : History) → new ≡ Some (added ++ history) → Others S.others added history → A i history
        → C i (added ++ history)
    same i history e added is s a =
        let y = (each i).told history e in
        let eq : y.0 ≡ added = append_cancel_right y.0 added history (same_Some (y.0 ++ history) (added ++ history) (sym y.1 ∙ is)) in
        subst (λ (b : History). C i (b ++ history)) eq (y.2.leads (subst (λ (b : History). Others S.others b history) (sym eq) s) a)
