-- Which ending a damaged file of an agent is.
use Rattle.std.proofs.Common.{◌≡◌, inl, inr, ℕ, List, Ok, Err, Option, Some, Result, sym, ◌∙◌, ap, subst}
use Rattle.std.specs.Prelude.{IfOk}
use Rattle.chk_bytes.specs.declared.NoMemory.{NoMemory as Wanting}
use Rattle.chk_world.specs.Names.{CheckFile, spell}
use Rattle.chk_agent_run.specs.declared.faults.RunFault.TheVariants as runs
use Rattle.chk_cmd_line.specs.declared.endings.Ending.{Ending}
use Rattle.chk_cmd_line.specs.declared.endings.Ending.TheVariants.{Damaged}
use Rattle.chukwa_run.specs.Showing.{IsInitial}
use Rattle.chukwa_run.specs.Causes.{IsRunEnding, IsDamagedAt}

module _ (initial : Option (List ℕ)) (source : List ℕ) (at : ℕ) where
  pub initial_ending : (file : List ℕ) (name : Result (List ℕ) Wanting) {e : Ending} → initial ≡ Some file
      → IfOk name (λ n. n ≡ file) → IsDamagedAt name at e → IsRunEnding initial source (runs.Initial at) e
  initial_ending file (Ok name) is same damaged =
      inl (name, subst (λ (o : Option (List ℕ)). IsInitial o name) (sym is) same, damaged)
  initial_ending file (Err fault) is same damaged = inr damaged

  pub check_ending : (name : Result (List ℕ) Wanting) {e : Ending} → IfOk name (λ n. n ≡ spell (CheckFile source))
      → IsDamagedAt name at e → IsRunEnding initial source (runs.Checkpoint at) e
  check_ending (Ok name) same damaged = inl (damaged ∙ ap (λ (n : List ℕ). Damaged n at) same)
  check_ending (Err fault) same damaged = inr damaged
