use Rattle.std.proofs.Common.{◌≡◌, ◌∙◌, ℕ, List, Err, refl, ap, subst, sym, length, map}
use Rattle.std.proofs.lemmas.List.{length-map}
use Rattle.chk_site.specs.History.{Every}
use Rattle.chk_site.proofs.Leads.{leads_as, leads_none}
use Rattle.chk_site.proofs.Runs.{adds_none}
use Rattle.chk_world.specs.JobSteps.{IsOf, ReadsFile}
use Rattle.chk_record_index.specs.Faults.{FailsLast}
use Rattle.chk_record_index.specs.declared.fault.JobFault.TheVariants.{NoMemory}
use Rattle.chk_book.specs.Books.{book_view}
use Rattle.chk_book.specs.Views.{end_view}
use Rattle.chk_book.specs.declared.lists.End.{End}
use Rattle.chk_ctl_sum.specs.declared.rests.Rest.{Rest}
use Rattle.chk_ctl_sum.proofs.Later.{counted}
use Rattle.chk_ctl_sum.proofs.Sides.{whole_so}
use Rattle.chk_ctl_sum.proofs.sums.sum_book.Goals as goal

pub returns-in-Ok : goal.returns-in-Ok
returns-in-Ok g c =
    let rests = c.as_slice.result.now in
    let ends = c.as_slice-ends.result.now in
    let result = c.sum_rests.result in
    let items = sym c.as_slice.ensures.value in
    let same : map (λ (r : Rest). r.end.now) rests ≡ ends =
    subst (λ (rs : List Rest). map (λ (r : Rest). r.end.now) rs ≡ ends) items
    c.in-Ok.ensures.ends in
    let begin : map (λ (r : Rest). r.begin) rests ≡ map (λ (e : End). e.start) ends =
    subst (λ (rs : List Rest). map (λ (r : Rest). r.begin) rs ≡ map (λ (e : End). e.start) ends)
    items c.in-Ok.ensures.begin in
    record {
      raw = λ held settled.
          leads_as (λ h x. x)
          (λ h x. whole_so c.args.folder.now (book_view c.args.book.now) held rests ends same
          begin (ap (map end_view) c.as_slice-ends.ensures) result h x)
          (c.sum_rests.ensures.raw held settled);
      count = counted result (length rests) (length (map end_view c.args.book.now.ends))
          (sym (length-map rests (λ (r : Rest). r.end.now))
          ∙ (ap length (same ∙ c.as_slice-ends.ensures)
          ∙ sym (length-map c.args.book.now.ends end_view)))
          c.sum_rests.ensures.count;
      own = c.sum_rests.ensures.own;
      only = c.sum_rests.ensures.only;
      last = c.sum_rests.ensures.last;
      cause = c.sum_rests.ensures.cause;
    }

pub returns-in-Err : goal.returns-in-Err
returns-in-Err g c = record {
  raw = λ held settled. leads_none (g.S.Site.told c.args.site.now) (λ history x. tt);
  count = tt;
  own = adds_none (g.S.Site.told c.args.site.now) (Every (IsOf ReadsFile)) (λ history. tt);
  only = tt;
  last = adds_none (g.S.Site.told c.args.site.now) (FailsLast {T = List (List ℕ)} (Err NoMemory))
      (λ history. tt);
  cause = refl;
}
