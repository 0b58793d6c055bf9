-- Takings and prints obey a writer's rule.
use Rattle.std.proofs.Common.{◌≡◌, ℕ, List, refl, subst, sym}
use Rattle.std.specs.Prelude.{IsTrue}
use Rattle.chk_site.specs.declared.acts.Role.TheVariants.{Writer}
use Rattle.chk_site.specs.declared.acts.Who.{Who}
use Rattle.chk_site.specs.Acts.{Deed, Says, Takes, TakesMore, deed}
use Rattle.chk_site.specs.History.{History, Step, files_after}
use Rattle.chk_site.specs.Honest.{Honest}
use Rattle.chk_world.specs.Rules.{Framed, Obeys, OnlyAgentsPost, OnlyWritersGrowLogs, RoleMay}
use Rattle.chk_world.specs.Rules.{StartsAfterStop, is_named_so}

-- the call takes what came, or prints
pub data OfTalk : Deed → Type 0 where
  taking : (door : List ℕ) (wait : ℕ) → OfTalk (Takes door wait)
  reading : (number : ℕ) → OfTalk (TakesMore number)
  saying : (text : List ℕ) → OfTalk (Says text)

framed : (who : Who) (before : History) (call : Deed) → OfTalk call
    → Framed who (files_after before) call
framed who before call (taking door wait) = tt
framed who before call (reading number) = tt
framed who before call (saying text) = tt

starts_well : (name : List ℕ) (before : History) (call : Deed) → OfTalk call
    → StartsAfterStop (record { role = Writer; name = name }) before call
starts_well name before call (taking door wait) = refl
starts_well name before call (reading number) = refl
starts_well name before call (saying text) = refl

no_logs : (call : Deed) → OfTalk call → OnlyWritersGrowLogs Writer call
no_logs call (taking door wait) = tt
no_logs call (reading number) = tt
no_logs call (saying text) = tt

no_posts : (call : Deed) → OfTalk call → OnlyAgentsPost Writer call
no_posts call (taking door wait) = tt
no_posts call (reading number) = tt
no_posts call (saying text) = tt

pub writer_talks : (stamped : List (List ℕ)) (name : List ℕ) (before : History) (step : Step)
    → step.act.who ≡ record { role = Writer; name = name } → OfTalk (deed step.act)
    → RoleMay stamped Writer before step → Honest before step → Obeys stamped before step
writer_talks stamped name before step by of may honest = record {
  honest = honest;
  named = subst (λ (w : Who). IsTrue (is_named_so w.role w.name)) (sym by) refl;
  starts = subst (λ (w : Who). StartsAfterStop w before (deed step.act)) (sym by)
      (starts_well name before (deed step.act) of);
  own_files = framed step.act.who before (deed step.act) of;
  logs = subst (λ (w : Who). OnlyWritersGrowLogs w.role (deed step.act)) (sym by)
      (no_logs (deed step.act) of);
  requests = subst (λ (w : Who). OnlyAgentsPost w.role (deed step.act)) (sym by)
      (no_posts (deed step.act) of);
  rule = subst (λ (w : Who). RoleMay stamped w.role before step) (sym by) may;
}
