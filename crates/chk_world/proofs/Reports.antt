-- The report of a run whose listing showed no sink under writing is that of a complete run.
use Rattle.std.proofs.Common.{◌≡◌, ℕ, ◌+◌, true, List, ◌∷◌, length, Option, Some, None, ap, sym, subst, ◌∙◌, refl, MatchBool}
use Rattle.std.specs.Prelude.{IsTrue, Any}
use Rattle.chk_site.specs.declared.acts.Role.TheVariants.{Job}
use Rattle.chk_site.specs.declared.acts.ActAnswer.TheVariants.{Done}
use Rattle.chk_site.specs.Files.{Files, changed}
use Rattle.chk_site.specs.Acts.{Says, deed, change_of, same_role}
use Rattle.chk_site.specs.History.{Step, History, files_after}
use Rattle.chk_chunk.specs.Keys.{Covers}
use Rattle.chk_chunk.specs.Reach.{IsReach}
use Rattle.chk_world.specs.Streams.{start_of}
use Rattle.chk_world.specs.Committed.{archive_of_stream}
use Rattle.chk_world.specs.ArchiveRuns.{Listing, listing_by, last_listing, unclosed_in, found, end_before, report, is_report, HasReached, IsArchiveRun}
use Rattle.chk_world.specs.Jobs.{JobRule, ReportIsTrue, RanSo, TrueReport}
use Rattle.chk_world.specs.Rules.{Legal, RoleMay}
use Rattle.chk_world.specs.Laws.{IsComplete, ReportsAreTrue}
use Rattle.chk_world.proofs.Commits.{done_tails}

-- the step leaves the files as they were
module _ (history : History) (step : Step) (same : ◌≡◌ {A = Files} step.files (files_after history)) where
  still_reached : (l : Listing) → HasReached history l → HasReached (step ∷ history) l
  still_reached l reached s =
      subst (λ files. IsReach (λ o. Any (Covers s o) (found l)) (end_before history l s) (start_of l.upto s + length (archive_of_stream files s)))
      (sym same) (reached s)

-- what the rule of the job says of a report
report_true : (history : History) (text : List ℕ) → is_report text ≡ true → ReportIsTrue history text → TrueReport history text
report_true history text is rule = subst (λ b. MatchBool b (TrueReport history text) (Unit {0})) is rule.1

ran_reached : (history : History) (l : Listing) (text : List ℕ) → last_listing history ≡ Some l → TrueReport history text → HasReached history l
ran_reached history l text last t =
    (subst (λ o. RanSo history o t.unclosed t.taken t.held t.removed) last t.ran).reached

-- with the report the history ends with a complete run
pub reported : (stamped : List (List ℕ)) (history : History) (step : Step) → Legal stamped (step ∷ history) → step.act.who.role ≡ Job
    → (text : List ℕ) → deed step.act ≡ Says text → IsTrue (is_report text) → (words : List (List ℕ)) (number of : ℕ) → step.act.answer ≡ Done words number of
    → (l : Listing) → last_listing history ≡ Some l → unclosed_in l.names ≡ 0 → IsComplete (step ∷ history) l
reported stamped history step legal job text call is words number of answer l last closed =
    let e = legal.1.honest.modelled.effect in
    let each : (n : List ℕ) → step.files n ≡ files_after history n =
    λ n. done_tails (deed step.act) step.act.answer words number of e.did (files_after history) step.files answer e.may e.files_left n
    ∙ ap (λ c. changed (change_of c) (files_after history) n) call in
    let rule : JobRule stamped history (deed step.act) = subst (λ role. RoleMay stamped role history step) job legal.1.rule in
    let says : ReportIsTrue history text = (subst (JobRule stamped history) call rule).1 in
    record {
      last = ap (λ c. listing_by (same_role step.act.who.role Job) c step.act.answer (step ∷ history) (last_listing history)) call ∙ last;
      closed = closed;
      reached = still_reached history step (λ i n. each n i) l (ran_reached history l text last (report_true history text is says));
    }

-- the listing of a true report
last_of : (history : History) (text : List ℕ) → TrueReport history text
    → (l : Listing) × (last_listing history ≡ Some l)
last_of history text t = go (last_listing history) refl t.ran
  where
    go : (o : Option Listing) → last_listing history ≡ o → RanSo history o t.unclosed t.taken t.held t.removed
        → (l : Listing) × (last_listing history ≡ Some l)
    go None e ran = absurd ran
    go (Some l) e ran = (l, e)

pub reports_are_true : ReportsAreTrue
reports_are_true stamped history step legal job text call is words number of answer =
    let rule : JobRule stamped history (deed step.act) = subst (λ role. RoleMay stamped role history step) job legal.1.rule in
    let says : ReportIsTrue history text = (subst (JobRule stamped history) call rule).1 in
    let t = report_true history text is says in
    let l = last_of history text t in
    let ran : IsArchiveRun history l.0 t.unclosed t.taken t.held t.removed =
    subst (λ o. RanSo history o t.unclosed t.taken t.held t.removed) l.1 t.ran in
    record {
      listing = l.0;
      last = l.1;
      taken = t.taken;
      held = t.held;
      removed = t.removed;
      is = t.is ∙ ap (λ n. report n t.taken t.held t.removed) ran.unclosed_is;
      ran = subst (λ n. IsArchiveRun history l.0 n t.taken t.held t.removed) ran.unclosed_is ran;
      complete = reported stamped history step legal job text call is words number of answer l.0 l.1;
    }
