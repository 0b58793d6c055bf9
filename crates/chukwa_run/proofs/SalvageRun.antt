-- A salvage under the rules of all processes.
use Rattle.std.proofs.Common.{◌≡◌, inl, inr, ℕ, true, false, List, [], ◌∷◌, ◌++◌, Ok, Err, Option, Result, refl, sym, ◌∙◌, ap, subst, true≢false}
use Rattle.std.specs.Prelude.{Contains}
use Rattle.chk_site.specs.declared.acts.Who.{Who}
use Rattle.chk_site.specs.History.{Step, History, Every, Others, is_stopped}
use Rattle.chk_site.specs.Site.{Adds}
use Rattle.chk_site.specs.Runs.{Leads, Owns, own_acts}
use Rattle.chk_site.proofs.Runs.{adds_as, adds_both}
use Rattle.chk_world.specs.Rules.{Legal, Obeys}
use Rattle.chk_world.specs.Together.{Outside as OfOthers, IsByOne}
use Rattle.chk_cmd_salvage.specs.declared.fault.SalvageFault.{SalvageFault}
use Rattle.chk_cmd_salvage.specs.declared.fault.SalvageFault.TheVariants as Salvaging
use Rattle.chk_cmd_salvage.specs.Printing.{PrintsFile, LooksOrPrints, FailsLast, EndsRunning}
use Rattle.chk_cmd_line.specs.Commands.{Salvage}
use Rattle.chk_cmd_line.specs.declared.endings.Ending.{Ending}
use Rattle.chukwa_run.specs.Processes.{acting_for, RunSide}
use Rattle.chk_cmd_load.specs.Processes.{chukwa}
use Rattle.chukwa_run.specs.Whole.{ReadsOrPrints, AreSalvageActs, Whole}
use Rattle.chukwa_run.specs.Showing.{SalvageCut, Shows}
use Rattle.chukwa_run.specs.Causes.{IsEndingOf}
use Rattle.chukwa_run.specs.Runs.{Begins, EndsWith, CameTo, CausedBy}
use Rattle.chukwa_run.proofs.Acts.{failed_last}
use Rattle.chukwa_run.proofs.Writing.{IsHarmless, writer_obeys, chukwa_acts}

module _ (file : List ℕ) where
  -- the own acts among looks and prints
  acts_of_salvage : (added history : History) → Every (LooksOrPrints chukwa file) added history
      → AreSalvageActs file (own_acts added)
  acts_of_salvage [] history each = tt
  acts_of_salvage (step ∷ added) history each =
      let rest = acts_of_salvage added history each.0 in
      elim each.1 [
        | inl look ↦ elim look [
          | inl theirs ↦ rw theirs.0 rest
          | inr read ↦ rw (read.own) (read.by, subst (ReadsOrPrints file) (sym read.asks) (refl, refl), rest)
        ]
        | inr print ↦ rw (print.own) (print.by, subst (ReadsOrPrints file) (sym print.says) print.few, rest)
      ]

  -- each step obeys its rule
  step_obeys : (stamped : List (List ℕ)) (before : History) (step : Step) → LooksOrPrints chukwa file before step
      → (step.own ≡ false → OfOthers stamped [] before step) → Obeys stamped before step
  step_obeys stamped before step (inl (inl theirs)) outside = (outside theirs.0).obeys
  step_obeys stamped before step (inl (inr read)) outside =
      writer_obeys stamped before step read.by (subst IsHarmless (sym read.asks) tt) read.honest
  step_obeys stamped before step (inr print) outside =
      writer_obeys stamped before step print.by (subst IsHarmless (sym print.says) tt) print.honest

  stays_legal : (stamped : List (List ℕ)) (added history : History) → Every (LooksOrPrints chukwa file) added history
      → Others (OfOthers stamped []) added history → Legal stamped history → Legal stamped (added ++ history)
  stays_legal stamped [] history each others legal = legal
  stays_legal stamped (step ∷ added) history each others legal = (
    stays_legal stamped added history each.0 others.0 legal,
    step_obeys stamped (added ++ history) step each.1 others.1,
  )

  step_of_one : (before : History) (step : Step) → LooksOrPrints chukwa file before step → step.own ≡ true
      → IsByOne (acting_for (Salvage file)) before step
  step_of_one before step (inl (inl theirs)) own = absurd (true≢false (sym own ∙ theirs.0))
  step_of_one before step (inl (inr read)) own =
      record { one = subst (Contains (acting_for (Salvage file))) (sym read.by) (chukwa_acts (Salvage file)); running = read.running }
  step_of_one before step (inr print) own =
      record { one = subst (Contains (acting_for (Salvage file))) (sym print.by) (chukwa_acts (Salvage file)); running = print.running }

  all_of_one : (added history : History) → Every (LooksOrPrints chukwa file) added history
      → Owns (IsByOne (acting_for (Salvage file))) added history
  all_of_one [] history each = tt
  all_of_one (step ∷ added) history each =
      (all_of_one added history each.0, step_of_one (added ++ history) step each.1)

  -- what the library says of the steps
  pub record IsSalvage (result : Result (Unit {0}) SalvageFault) (added history : History) : Type 0 where
    pub prints : PrintsFile file result added history
    pub acts : Every (LooksOrPrints chukwa file) added history
    pub last : FailsLast result added history
    pub runs : EndsRunning result added history

  pub is_salvage : (result : Result (Unit {0}) SalvageFault) {who : Who} {old new : Option History} → who ≡ chukwa
      → Adds old new (PrintsFile file result) → Adds old new (Every (LooksOrPrints who file))
      → Adds old new (FailsLast result) → Adds old new (EndsRunning result) → Adds old new (IsSalvage result)
  is_salvage result {old = old} {new = new} is prints acts last runs =
      adds_both (IsSalvage result)
      (adds_both (λ a h. PrintsFile file result a h × Every (LooksOrPrints chukwa file) a h) prints
      (subst (λ (w : Who). Adds old new (Every (LooksOrPrints w file))) is acts) (λ a h p q. (p, q)))
      (adds_both (λ a h. FailsLast result a h × EndsRunning result a h) last runs (λ a h p q. (p, q)))
      (λ a h p q. record { prints = p.0; acts = p.1; last = q.0; runs = q.1 })

  -- the result of a run by that of a salvage
  pub data IsResultOf : Result (Unit {0}) SalvageFault → Result (Unit {0}) Ending → Type 0 where
    went_well : IsResultOf (Ok tt) (Ok tt)
    went_wrong : {fault : SalvageFault} {e : Ending} → IsEndingOf file fault e → IsResultOf (Err fault) (Err e)

  shows_so : (fault : SalvageFault) (e : Ending) (added history : History) → IsEndingOf file fault e → IsSalvage (Err fault) added history
      → is_stopped (added ++ history) ≡ false → SalvageCut file history e added
  shows_so (Salvaging.Outside call) e added history is s running =
      subst (λ (e : Ending). SalvageCut file history e added) (sym is) (failed_last added call (s.last running))
  shows_so Salvaging.NoMemory e added history is s running =
      subst (λ (e : Ending). SalvageCut file history e added) (sym is) tt
  shows_so Salvaging.Damaged e added history (inr is) s running =
      subst (λ (e : Ending). SalvageCut file history e added) (sym is) tt
  shows_so Salvaging.Damaged e added history (inl is) s running =
      subst (λ (e : Ending). SalvageCut file history e added) (sym is)
      (record {
        named = refl;
        first = refl;
        refused = λ content small others has. let p = s.prints.prints content small others has in (p.why, p.header, p.none);
      })

  came_so : {r : Result (Unit {0}) SalvageFault} {result : Result (Unit {0}) Ending} (added history : History) → IsResultOf r result
      → IsSalvage r added history → CausedBy (Salvage file) result added history
  came_so added history went_well s = record {
    running = λ running. (acts_of_salvage added history s.acts, s.prints.prints);
    stopped = λ stop. absurd (true≢false (sym stop ∙ s.runs));
  }
  came_so added history (went_wrong {fault = fault} {e = e} is) s = record {
    running = λ running. (acts_of_salvage added history s.acts, shows_so fault e added history is s running);
    stopped = λ stop. tt;
  }

  pub caused_so : {r : Result (Unit {0}) SalvageFault} {result : Result (Unit {0}) Ending} {old new : Option History} → IsResultOf r result
      → Adds old new (IsSalvage r) → Adds old new (CausedBy (Salvage file) result)
  caused_so {result = result} is told = adds_as (CausedBy (Salvage file) result) told (λ added history s. came_so added history is s)

  whole_so : (stamped : List (List ℕ)) (result : Result (Unit {0}) Ending) (added history : History) → CausedBy (Salvage file) result added history
      → CameTo (Whole stamped (Salvage file) history) (Shows (Salvage file) history) result added history
  whole_so stamped (Ok value) added history came = record { running = λ r. (came.running r).1; stopped = came.stopped }
  whole_so stamped (Err e) added history came = record { running = λ r. (came.running r).1; stopped = came.stopped }

  pub told_so : (stamped : List (List ℕ)) (earlier : History) {r : Result (Unit {0}) SalvageFault} {result : Result (Unit {0}) Ending}
      {old new : Option History} → IsResultOf r result → Adds old new (IsSalvage r)
      → Adds old new (Leads (RunSide stamped (Salvage file)) (Begins stamped earlier) (EndsWith stamped (Salvage file) result earlier))
  told_so stamped earlier {result = result} is told =
      adds_as (Leads (RunSide stamped (Salvage file)) (Begins stamped earlier) (EndsWith stamped (Salvage file) result earlier)) told
      (λ added history s. record {
        leads =
            λ others begins. record {
              legal = stays_legal stamped added history s.acts others begins.legal;
              since = record {
                added = added;
                goes_on = ap (λ (h : History). added ++ h) begins.is;
                holds =
                    subst (λ (h : History). CameTo (Whole stamped (Salvage file) h) (Shows (Salvage file) h) result added h) begins.is
                    (whole_so stamped result added history (came_so added history is s));
              };
            };
        own = all_of_one added history s.acts;
      })
