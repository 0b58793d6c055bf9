use Rattle.std.proofs.Common.{◌≡◌, ◌∙◌, ◌++◌, map, ap, sym, subst, append-nil, List}
use Rattle.std.proofs.Math.ListN.{drop_of_length-le}
use Rattle.chk_world.specs.Books.{End}
use Rattle.chk_book.specs.Views.{end_view}
use Rattle.chk_book.specs.Books.{end_in}
use Rattle.chk_archive_plan.specs.Passes.{begins_at}
use Rattle.chk_archive_plan.specs.Starts.{start_known}
use Rattle.chk_archive.specs.Starts.{start_in}
use Rattle.chk_archive.proofs.KnownEnds.{as_end, ends_known, starts_known}
use Rattle.chk_archive.proofs.known.known_ends.Goals as goal

pub returns-clause-ends : goal.returns-clause-ends
returns-clause-ends c h =
    let es = c.as_slice-end-items.result.now in
    let ks = c.loop-end.known.items in
    let same : map as_end ks ≡ map end_view es =
    sym (append-nil (map as_end ks))
    ∙ (ap (λ l. map as_end ks ++ map end_view l)
    (sym (drop_of_length-le es c.loop-end-test.false)) ∙ c.loop-end.invariant) in
    subst (λ l. begins_at ks h ≡ end_in h.key.start (map end_view l) h.key.stream)
    c.as_slice-end-items.ensures
    (ends_known ks h ∙ ap (λ (l : List End). end_in h.key.start l h.key.stream) same)

pub returns-clause-starts : goal.returns-clause-starts
returns-clause-starts c n s =
    let es = c.as_slice-end-items.result.now in
    let ks = c.loop-end.known.items in
    let same : map as_end ks ≡ map end_view es =
    sym (append-nil (map as_end ks))
    ∙ (ap (λ l. map as_end ks ++ map end_view l)
    (sym (drop_of_length-le es c.loop-end-test.false)) ∙ c.loop-end.invariant) in
    subst (λ l. start_known n ks s ≡ start_in n (map end_view l) s)
    c.as_slice-end-items.ensures
    (starts_known n ks s ∙ ap (λ (l : List End). start_in n l s) same)
