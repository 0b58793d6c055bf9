-- The creation of the next sink.
use Rattle.std.specs.Prelude.{◌≡◌, ℕ, List, [], ◌∷◌, Option, Result, MatchResult}
use Rattle.chk_site.specs.declared.acts.Call.TheVariants.{Create}
use Rattle.chk_site.specs.declared.acts.CallFault.{CallFault}
use Rattle.chk_site.specs.declared.acts.OutsideFault.{OutsideFault}
use Rattle.chk_site.specs.History.{History}
use Rattle.chk_site.specs.Site.{Adds, asked, answered, plain, Calls, IsDone, Ends}
use Rattle.chk_sink.specs.States.{State, process, counted}

-- the creation was called once, and the sinks count it
pub record CountedOnce (old new : State) (name : List ℕ) (result : Result (Unit {0}) OutsideFault)
    (before after : Option History) : Type 0 where
  pub given : Result (Unit {0}) CallFault
  pub came : MatchResult result (λ value. IsDone given) (λ fault. Ends Create given fault)
  pub told : Adds before after (Calls (asked (process old) Create (name ∷ []) 0 0)
      (answered plain given))
  pub counted : new ≡ counted old given
