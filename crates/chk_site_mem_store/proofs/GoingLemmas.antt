-- How the history goes on.
use Rattle.std.proofs.Common.{◌≡◌, Bool, true, false, List, [], ◌∷◌, ◌++◌, refl, sym, ◌∙◌, ap, subst}
use Rattle.std.specs.Prelude.{if◌then◌else◌}
use Rattle.std.specs.Bool.{OnTrue}
use Rattle.std.proofs.lemmas.Bool.{false≢true}
use Rattle.chk_site.specs.declared.acts.Act.{Act}
use Rattle.chk_site.specs.History.{History, IsTheirs, Modelled, files_after}
use Rattle.chk_site_mem_store.specs.Told.{Kept, kept_as, step_of, told_of, fitted}
use Rattle.chk_site_mem_store.specs.State.{State, after}
use Rattle.chk_site_mem_store.specs.Going.{TheirsSince, GoesOn}
use Rattle.chk_site_mem_store.proofs.KeepLemmas.{told_push}

-- others did nothing yet
-- one act more of others
pub theirs_one : (start : History) (kept : List Kept) (act : Act) → TheirsSince start (told_of kept)
    → Modelled (told_of kept) (step_of (told_of kept) (kept_as false act))
    → TheirsSince start (told_of (kept ++ kept_as false act ∷ []))
theirs_one start kept act since modelled =
    let now = told_of kept in
    let step = step_of now (kept_as false act) in
    record {
      added = step ∷ since.added;
      goes_on = told_push kept (kept_as false act) ∙ ap (λ h. step ∷ h) since.goes_on;
      theirs = (since.theirs, subst (λ (h : History). IsTheirs h step) since.goes_on (refl, modelled));
    }

-- the same, where the act may be left out
pub theirs_kept : (start : History) (old new : State) (act : Act) (kept : Bool) → TheirsSince start (told_of old.kept)
    → new ≡ (if kept then after (kept_as false (fitted (files_after (told_of old.kept)) act)) old else old)
    → OnTrue kept (Modelled (told_of old.kept) (step_of (told_of old.kept) (kept_as false (fitted (files_after (told_of old.kept)) act))))
    → TheirsSince start (told_of new.kept)
theirs_kept start old new act true since is modelled =
    subst (λ (s : State). TheirsSince start (told_of s.kept)) (sym is)
    (theirs_one start old.kept (fitted (files_after (told_of old.kept)) act) since modelled)
theirs_kept start old new act false since is modelled =
    subst (λ (s : State). TheirsSince start (told_of s.kept)) (sym is) since

-- without memory nothing was added
-- one own act more
pub goes_kept : (old new : State) (act : Act) (kept : Bool) → kept ≡ true
    → new ≡ (if kept then after (kept_as true (fitted (files_after (told_of old.kept)) act)) old else old)
    → OnTrue kept (Modelled (told_of old.kept) (step_of (told_of old.kept) (kept_as true (fitted (files_after (told_of old.kept)) act))))
    → GoesOn (fitted (files_after (told_of old.kept)) act) (told_of old.kept) (told_of new.kept)
goes_kept old new act true kept_so is modelled =
    let one = kept_as true (fitted (files_after (told_of old.kept)) act) in
    record {
      files = (step_of (told_of old.kept) one).files;
      logs = (step_of (told_of old.kept) one).logs;
      goes_on = ap (λ s. told_of s.kept) is ∙ told_push old.kept one;
      modelled = modelled;
    }
goes_kept old new act false kept_so is modelled = absurd (false≢true kept_so)
