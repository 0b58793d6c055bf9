-- The outcome of a verdict, and what runs add.
use Rattle.std.proofs.Common.{◌≡◌, ℕ, Option, Some, sym, subst}
use Rattle.chk_site.specs.History.{History, Every}
use Rattle.chk_site.specs.Site.{Adds}
use Rattle.chk_ctl_passed.specs.declared.judging.Verdict.{Verdict}
use Rattle.chk_ctl_passed.specs.declared.judging.Verdict.TheVariants.{Passed, Behind, Unknown}
use Rattle.chk_ctl_line.specs.Commands.{Asked}
use Rattle.chk_ctl_run.specs.Calls.{IsOfAsked, IsOfRun}
use Rattle.chk_ctl_run.specs.Outcomes.{OutcomeCause}
use Rattle.chk_ctl_run.specs.Passing.{passed_as}

pub passed_cause : (verdict : Verdict) (before now : ℕ) → now ≡ before
    → OutcomeCause before now (passed_as verdict)
passed_cause Passed before now same = same
passed_cause Behind before now same = same
passed_cause Unknown before now same = same

-- what a command adds, the words that ask for it do
pub run_own : (o : Option Asked) (command : Asked) → o ≡ Some command → {old new : Option History}
    → Adds old new (Every (IsOfAsked command)) → Adds old new (Every (IsOfRun o))
run_own o command is {old = old} {new = new} told =
    subst (λ (a : Option Asked). Adds old new (Every (IsOfRun a))) (sym is) told
