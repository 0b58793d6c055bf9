use Rattle.chk_join.specs.Runs.{AreRuns}
use Rattle.std.proofs.Common.{◌≡◌, ◌==◌, ◌∙◌, List, [], None, ap, ap₂, sym, map, length, true≢false}
use Rattle.std.proofs.Common.{subst, refl}
use Rattle.std.specs.Prelude.{flat_map}
use Rattle.std.proofs.lemmas.Bool.{eqb-true}
use Rattle.std.proofs.lemmas.List.{nil_from_length}
use Rattle.chk_site.proofs.Leads.{leads_none}
use Rattle.chk_world.specs.Books.{Book, End}
use Rattle.chk_book.specs.Views.{segment_view, end_view}
use Rattle.chk_book.specs.Loaded.{book_result}
use Rattle.chk_book.specs.declared.book.Book.{Book as Struct}
use Rattle.chk_join_sources.specs.declared.plan.Choice.{Choice}
use Rattle.chk_join_sources.specs.Copying.{chosen_chunks, Copies}
use Rattle.chk_join.proofs.PlanWritten.{none_chosen, wrote_plan, none_alone, stood_plan}
use Rattle.chk_archive_parts.proofs.Works.{works_memory}
use Rattle.chk_book.proofs.Works.{works_none, worked}
use Rattle.chk_join.proofs.preparing.write_plan.Goals as goal

pub returns-then-not-runs_on-clause-raw : goal.returns-then-not-runs_on-clause-raw
returns-then-not-runs_on-clause-raw g c most all held few settled apart left right =
    leads_none (g.S.Site.told c.args.site.now) (λ h x. tt)

pub returns-then-not-runs_on-clause-works : goal.returns-then-not-runs_on-clause-works
returns-then-not-runs_on-clause-works g c = works_memory Struct (Copies c.args.next) (g.S.Site.told c.args.site.now)

pub returns-then-is_empty-clause-raw : goal.returns-then-is_empty-clause-raw
returns-then-is_empty-clause-raw g c most all held few settled apart left right =
    let es = map end_view c.args.ends.now in
    let cs = c.args.choices.now in
    let f = chosen_chunks c.args.left.now c.args.right.now held in
    let empty : cs ≡ [] = nil_from_length cs (eqb-true _ 0 (sym c.is_empty.ensures ∙ c.if-is_empty.true)) in
    let none : es ≡ [] =
    none_chosen c.args.left.now c.args.right.now es cs (c.runs_on.ensures c.if-not-runs_on.false) empty in
    let chunks : flat_map f cs ≡ [] = ap (flat_map f) empty in
    leads_none (g.S.Site.told c.args.site.now)
    (λ h x. (
      none_alone c.args.next es _ (flat_map f cs) h none
          (ap₂ (λ gs bs. let b : Book = record {
            next = c.args.next;
            segments = map segment_view gs;
            ends = map end_view bs;
            aside = None;
          } in b) c.new.ensures c.new-then-is_empty.ensures) chunks,
      rw none chunks,
    ))

pub returns-then-is_empty-clause-spent : goal.returns-then-is_empty-clause-spent
returns-then-is_empty-clause-spent g c last =
    none_chosen c.args.left.now c.args.right.now (map end_view c.args.ends.now) c.args.choices.now
    (c.runs_on.ensures c.if-not-runs_on.false)
    (nil_from_length c.args.choices.now (eqb-true _ 0 (sym c.is_empty.ensures ∙ c.if-is_empty.true)))

pub returns-then-is_empty-clause-works : goal.returns-then-is_empty-clause-works
returns-then-is_empty-clause-works g c = works_none (Copies c.args.next) _ (g.S.Site.told c.args.site.now)

pub returns-clause-raw : goal.returns-clause-raw
returns-clause-raw g c most all held few settled apart left right =
    let l = c.args.left.now in
    let r = c.args.right.now in
    let cs = c.args.choices.now in
    wrote_plan all held c.args.next l r (map end_view c.args.ends.now) cs (flat_map (chosen_chunks l r held) cs)
    (c.runs_on.ensures c.if-not-runs_on.false)
    (λ e. true≢false (sym (ap (λ (x : List Choice). length x == 0) e) ∙ (sym c.is_empty.ensures ∙ c.if-is_empty.false)))
    (book_result c.write_chosen.result) (c.write_chosen.ensures.raw most all held few settled apart left right)
    c.write_chosen.ensures.stands

pub returns-clause-works : goal.returns-clause-works
returns-clause-works g c =
    worked (Copies c.args.next) c.write_chosen.result c.write_chosen.ensures.own c.write_chosen.ensures.pieces
    c.write_chosen.ensures.last

pub returns-then-not-runs_on-clause-stands : goal.returns-then-not-runs_on-clause-stands
returns-then-not-runs_on-clause-stands g c = leads_none (g.S.Site.told c.args.site.now) (λ h x. tt)

pub returns-then-is_empty-clause-stands : goal.returns-then-is_empty-clause-stands
returns-then-is_empty-clause-stands g c =
    let es = map end_view c.args.ends.now in
    let cs = c.args.choices.now in
    let empty : cs ≡ [] = nil_from_length cs (eqb-true _ 0 (sym c.is_empty.ensures ∙ c.if-is_empty.true)) in
    let none : es ≡ [] =
    none_chosen c.args.left.now c.args.right.now es cs (c.runs_on.ensures c.if-not-runs_on.false) empty in
    leads_none (g.S.Site.told c.args.site.now)
    (λ h x. (
      [],
      (
        subst (λ (l : List End). AreRuns l []) (sym none) refl,
        none_alone c.args.next es _ [] h none
            (ap₂ (λ gs bs. let b : Book = record {
              next = c.args.next;
              segments = map segment_view gs;
              ends = map end_view bs;
              aside = None;
            } in b) c.new.ensures c.new-then-is_empty.ensures) refl,
      ),
    ))

pub returns-clause-stands : goal.returns-clause-stands
returns-clause-stands g c =
    let cs = c.args.choices.now in
    stood_plan [] (λ w. None) c.args.next c.args.left.now c.args.right.now (map end_view c.args.ends.now) cs []
    (c.runs_on.ensures c.if-not-runs_on.false)
    (λ e. true≢false (sym (ap (λ (x : List Choice). length x == 0) e) ∙ (sym c.is_empty.ensures ∙ c.if-is_empty.false)))
    (book_result c.write_chosen.result) c.write_chosen.ensures.stands
