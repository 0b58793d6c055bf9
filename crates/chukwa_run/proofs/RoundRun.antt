-- A round under the rules of all processes.
use Rattle.std.proofs.Common.{◌≡◌, inl, inr, ℕ, false, List, ◌∷◌, [], ◌++◌, Ok, Err, Option, Some, Result, refl, sym, ◌∙◌, ap, subst, true≢false}
use Rattle.std.proofs.lemmas.List.Elements.{Contains-append_left}
use Rattle.chk_control.specs.declared.Class.{Class}
use Rattle.chk_site.specs.declared.acts.Who.{Who}
use Rattle.chk_site.specs.History.{History, Others, is_stopped}
use Rattle.chk_site.specs.Site.{Adds}
use Rattle.chk_site.specs.Runs.{Leads}
use Rattle.chk_site.proofs.Runs.{adds_as, adds_both}
use Rattle.chk_world.specs.Rules.{Legal}
use Rattle.chk_world.specs.Together.{Outside as OutsideOf}
use Rattle.chk_round.specs.declared.faults.RoundFault.{RoundFault}
use Rattle.chk_round.specs.declared.faults.RoundFault.TheVariants as rounds
use Rattle.chk_round.specs.declared.words.RoundWords.{RoundWords}
use Rattle.chk_round.specs.Processes.{IsRunOf, processes}
use Rattle.chk_cmd_round.specs.declared.ends.RoundEnd.{RoundEnd}
use Rattle.chk_cmd_round.specs.declared.ends.RoundEnd.TheVariants.{Fault, Unclosed as FoundUnclosed}
use Rattle.chk_cmd_round.specs.Running.{AfterRun, EndsByCall, RunCause, RunsRound, RunsTo}
use Rattle.chk_cmd_line.specs.Commands.{RoundAsked}
use Rattle.chk_cmd_line.specs.declared.endings.Ending.{Ending}
use Rattle.chukwa_run.specs.Causes.{EndingCause}
use Rattle.chk_cmd_line.specs.Commands.{Round}
use Rattle.chukwa_run.specs.Processes.{RunSide, acting_for, started_by}
use Rattle.chk_cmd_load.specs.Processes.{chukwa}
use Rattle.chukwa_run.specs.RoundRuns.{AreWordsOf, IsFaultEnding, IsRoundEnding, RoundCut, RoundFits, RoundScript}
use Rattle.chukwa_run.specs.Runs.{Begins, CameTo, CausedBy, EndsWith}
use Rattle.chukwa_run.specs.Showing.{Shows}
use Rattle.chukwa_run.specs.Whole.{Whole}

-- what the library says of the run, between these told histories
pub record IsRoundRun (source kind : List ℕ) (class : Class) (cluster : List ℕ) (logs : List (List ℕ)) (reads : ℕ)
    (result : Result (Unit {0}) RoundEnd) (old new : Option History) : Type 0 where
  pub ran : RunsRound source kind class cluster logs reads result old new
  pub last : Adds old new (EndsByCall result)
  pub told : (stamped : List (List ℕ)) (started acting : List Who) → IsRunOf source started acting
      → Adds old new (RunsTo stamped started acting source kind cluster logs result)

-- the result of a run by that of the library
pub data IsResultOf (source : List ℕ) : Result (Unit {0}) RoundEnd → Result (Unit {0}) Ending → Type 0 where
  went_well : IsResultOf source (Ok tt) (Ok tt)
  went_wrong : {end : RoundEnd} {e : Ending} → IsRoundEnding source end e → IsResultOf source (Err end) (Err e)

pub of_words : (w : RoundAsked) (given : RoundWords) → AreWordsOf w given → (result : Result (Unit {0}) RoundEnd) {old new : Option History}
    → IsRoundRun given.source given.kind given.class given.cluster given.logs.items given.reads result old new
    → IsRoundRun w.source w.kind w.class w.cluster w.logs w.reads result old new
of_words w given are result {old = old} {new = new} run =
    subst (λ m. IsRoundRun w.source w.kind w.class w.cluster w.logs m result old new) are.reads
    (subst (λ ls. IsRoundRun w.source w.kind w.class w.cluster ls given.reads result old new) are.logs
    (subst (λ n. IsRoundRun w.source w.kind w.class n given.logs.items given.reads result old new) are.cluster
    (subst (λ k. IsRoundRun w.source w.kind k given.cluster given.logs.items given.reads result old new) are.class
    (subst (λ k. IsRoundRun w.source k given.class given.cluster given.logs.items given.reads result old new) are.kind
    (subst (λ n. IsRoundRun n given.kind given.class given.cluster given.logs.items given.reads result old new) are.source
    run)))))

module _ (w : RoundAsked) where
  -- the processes of the run are those that the command starts
  run_of : IsRunOf w.source (started_by (Round w)) (acting_for (Round w))
  run_of = record {
    started_all = λ who one. one;
    acts_all = λ who one. Contains-append_left (processes w.source) (chukwa ∷ []) who one;
  }

  alone : IsRunOf w.source (processes w.source) (processes w.source)
  alone = record { started_all = λ who one. one; acts_all = λ who one. one }

  -- ---- what each end shows

  fault_cut : (fault : RoundFault) (e : Ending) (earlier added : History) → IsFaultEnding w.source fault e
      → EndsByCall (Err (Fault fault)) added earlier
      → RoundScript w (Err (Fault fault)) earlier added → RoundCut w earlier e added
  fault_cut (rounds.Outside call) e earlier added is last script =
      subst (λ (e : Ending). RoundCut w earlier e added) (sym is) (last, script)
  fault_cut rounds.NoMemory e earlier added is last script = subst (λ (e : Ending). RoundCut w earlier e added) (sym is) tt
  fault_cut (rounds.Damaged name at) e earlier added is last script = subst (λ (e : Ending). RoundCut w earlier e added) (sym is) (inl script)
  fault_cut (rounds.Checkpoint at) e earlier added (inl is) last script =
      subst (λ (e : Ending). RoundCut w earlier e added) (sym is) (inr (refl, script))
  fault_cut (rounds.Checkpoint at) e earlier added (inr is) last script = subst (λ (e : Ending). RoundCut w earlier e added) (sym is) tt
  fault_cut (rounds.Length stem got want) e earlier added is last script = subst (λ (e : Ending). RoundCut w earlier e added) (sym is) script
  fault_cut (rounds.Growing path reads) e earlier added is last script = subst (λ (e : Ending). RoundCut w earlier e added) (sym is) script
  fault_cut (rounds.Shrank path had has) e earlier added is last script = subst (λ (e : Ending). RoundCut w earlier e added) (sym is) script
  fault_cut (rounds.Spent number) e earlier added is last script = subst (λ (e : Ending). RoundCut w earlier e added) (sym is) script
  fault_cut (rounds.Refused code) e earlier added is last script = subst (λ (e : Ending). RoundCut w earlier e added) (sym is) script

  cut_so : (end : RoundEnd) (e : Ending) (earlier added : History) → IsRoundEnding w.source end e
      → EndsByCall (Err end) added earlier → RoundScript w (Err end) earlier added → RoundCut w earlier e added
  cut_so (Fault fault) e earlier added is last script = fault_cut fault e earlier added is last script
  cut_so (FoundUnclosed name) e earlier added is last script = subst (λ (e : Ending). RoundCut w earlier e added) (sym is) script

  -- ---- these steps

  record IsAt (result : Result (Unit {0}) RoundEnd) (stamped : List (List ℕ)) (started acting : List Who) (added history : History) : Type 0 where
    script : RoundScript w result history added
    last : EndsByCall result added history
    to : RunsTo stamped started acting w.source w.kind w.cluster w.logs result added history

  at_end : (result : Result (Unit {0}) RoundEnd) (stamped : List (List ℕ)) (started acting : List Who) → IsRunOf w.source started acting
      → {old new : Option History} → IsRoundRun w.source w.kind w.class w.cluster w.logs w.reads result old new → Adds old new (IsAt result stamped started acting)
  at_end result stamped started acting run {old = old} {new = new} s =
      let both : Adds old new (λ added history. RunsTo stamped started acting w.source w.kind w.cluster w.logs result added history
      × EndsByCall result added history) =
      adds_both (λ added history. RunsTo stamped started acting w.source w.kind w.cluster w.logs result added history × EndsByCall result added history)
      (s.told stamped started acting run) s.last (λ added history x y. (x, y)) in
      record {
        told =
            λ history e.
            let t = both.told history e in (
              t.0,
              t.1,
              record {
                script =
                    subst (λ (o : Option History). RunsRound w.source w.kind w.class w.cluster w.logs w.reads result o (Some (t.0 ++ history))) e
                    (subst (λ (n : Option History). RunsRound w.source w.kind w.class w.cluster w.logs w.reads result old n) t.1 s.ran);
                last = t.2.1;
                to = t.2.0;
              },
            );
        untold = both.untold;
      }

  -- ---- by the acts alone

  came : (result : Result (Unit {0}) RoundEnd) (r : Result (Unit {0}) Ending) (added history : History) → IsResultOf w.source result r
      → IsAt result [] (processes w.source) (processes w.source) added history → CausedBy (Round w) r added history
  came result r added history went_well at = record {
    running = λ run. at.script;
    stopped = λ stop. absurd (true≢false (sym stop ∙ at.to.running tt));
  }
  came result r added history (went_wrong {end = end} {e = e} is) at = record {
    running = λ run. cut_so end e history added is at.last at.script;
    stopped = λ stop. tt;
  }

  pub causes : (result : Result (Unit {0}) RoundEnd) (r : Result (Unit {0}) Ending) {old new : Option History} → IsResultOf w.source result r
      → IsRoundRun w.source w.kind w.class w.cluster w.logs w.reads result old new → Adds old new (CausedBy (Round w) r)
  causes result r is s =
      adds_as (CausedBy (Round w) r) (at_end result [] (processes w.source) (processes w.source) alone s)
      (λ added history at. came result r added history is at)

  -- ---- from a legal history

  module _ (stamped : List (List ℕ)) where
    abbrev At : Result (Unit {0}) RoundEnd → History → History → Type 0
    At result = IsAt result stamped (started_by (Round w)) (acting_for (Round w))

    fault_fits : (fault : RoundFault) (e : Ending) (earlier added : History) → IsFaultEnding w.source fault e
        → AfterRun stamped (Err (Fault fault)) (added ++ earlier) → is_stopped (added ++ earlier) ≡ false → RoundFits w earlier e added
    fault_fits (rounds.Outside call) e earlier added is c running = subst (λ (e : Ending). RoundFits w earlier e added) (sym is) tt
    fault_fits rounds.NoMemory e earlier added is c running = subst (λ (e : Ending). RoundFits w earlier e added) (sym is) tt
    fault_fits (rounds.Damaged name at) e earlier added is c running = absurd (c.never running)
    fault_fits (rounds.Checkpoint at) e earlier added is c running = absurd (c.never running)
    fault_fits (rounds.Length stem got want) e earlier added is c running = subst (λ (e : Ending). RoundFits w earlier e added) (sym is) (c.alive running)
    fault_fits (rounds.Growing path reads) e earlier added is c running = subst (λ (e : Ending). RoundFits w earlier e added) (sym is) tt
    fault_fits (rounds.Shrank path had has) e earlier added is c running = absurd (c.never running)
    fault_fits (rounds.Spent number) e earlier added is c running = subst (λ (e : Ending). RoundFits w earlier e added) (sym is) (c.alive running)
    fault_fits (rounds.Refused code) e earlier added is c running = absurd (c.never running)

    fits_so : (end : RoundEnd) (e : Ending) (earlier added : History) → IsRoundEnding w.source end e → At (Err end) added earlier
        → Others (OutsideOf stamped (started_by (Round w))) added earlier → Legal stamped earlier
        → is_stopped (added ++ earlier) ≡ false → RoundFits w earlier e added
    fits_so (Fault fault) e earlier added is at others legal running =
        fault_fits fault e earlier added is (at.to.leads.leads others legal) running
    fits_so (FoundUnclosed name) e earlier added is at others legal running =
        subst (λ (e : Ending). RoundFits w earlier e added) (sym is) (at.to.done tt others legal)

    fault_legal : (fault : RoundFault) (h : History) → AfterRun stamped (Err (Fault fault)) h → Legal stamped h
    fault_legal (rounds.Outside call) h c = c
    fault_legal rounds.NoMemory h c = c
    fault_legal (rounds.Damaged name at) h c = c.legal
    fault_legal (rounds.Checkpoint at) h c = c.legal
    fault_legal (rounds.Length stem got want) h c = c.legal
    fault_legal (rounds.Growing path reads) h c = c
    fault_legal (rounds.Shrank path had has) h c = c.legal
    fault_legal (rounds.Spent number) h c = c.legal
    fault_legal (rounds.Refused code) h c = c.legal

    legal_so : (result : Result (Unit {0}) RoundEnd) (h : History) → AfterRun stamped result h → Legal stamped h
    legal_so (Ok value) h c = c
    legal_so (Err (Fault fault)) h c = fault_legal fault h c
    legal_so (Err (FoundUnclosed name)) h c = c

    came_legally : (result : Result (Unit {0}) RoundEnd) (r : Result (Unit {0}) Ending) (added history : History) → IsResultOf w.source result r
        → At result added history → Others (OutsideOf stamped (started_by (Round w))) added history → Legal stamped history
        → CameTo (Whole stamped (Round w) history) (Shows (Round w) history) r added history
    came_legally result r added history went_well at others legal = record {
      running = λ run. record { ran = at.script; done = at.to.done tt others legal };
      stopped = λ stop. absurd (true≢false (sym stop ∙ at.to.running tt));
    }
    came_legally result r added history (went_wrong {end = end} {e = e} is) at others legal = record {
      running = λ run. (cut_so end e history added is at.last at.script, fits_so end e history added is at others legal run);
      stopped = λ stop. tt;
    }

    pub told : (earlier : History) (result : Result (Unit {0}) RoundEnd) (r : Result (Unit {0}) Ending) {old new : Option History}
        → IsResultOf w.source result r → IsRoundRun w.source w.kind w.class w.cluster w.logs w.reads result old new
        → Adds old new (Leads (RunSide stamped (Round w)) (Begins stamped earlier) (EndsWith stamped (Round w) r earlier))
    told earlier result r is s =
        adds_as (Leads (RunSide stamped (Round w)) (Begins stamped earlier) (EndsWith stamped (Round w) r earlier))
        (at_end result stamped (started_by (Round w)) (acting_for (Round w)) run_of s)
        (λ added history at. record {
          leads =
              λ others begins. record {
                legal = legal_so result (added ++ history) (at.to.leads.leads others begins.legal);
                since = record {
                  added = added;
                  goes_on = ap (λ (h : History). added ++ h) begins.is;
                  holds =
                      subst (λ (h : History). CameTo (Whole stamped (Round w) h) (Shows (Round w) h) r added h) begins.is
                      (came_legally result r added history is at others begins.legal);
                };
              };
          own = at.to.leads.own;
        })

-- ---- the count

pub fault_count : (source : List ℕ) (before now : ℕ) (fault : RoundFault) (e : Ending) → IsFaultEnding source fault e
    → RunCause before now (Err (Fault fault)) → EndingCause before now (Err e)
fault_count source before now (rounds.Outside call) e is c = subst (λ (e : Ending). EndingCause before now (Err e)) (sym is) c.0
fault_count source before now rounds.NoMemory e is c = subst (λ (e : Ending). EndingCause before now (Err e)) (sym is) tt
fault_count source before now (rounds.Damaged name at) e is c = subst (λ (e : Ending). EndingCause before now (Err e)) (sym is) tt
fault_count source before now (rounds.Checkpoint at) e (inl is) c = subst (λ (e : Ending). EndingCause before now (Err e)) (sym is) tt
fault_count source before now (rounds.Checkpoint at) e (inr is) c = subst (λ (e : Ending). EndingCause before now (Err e)) (sym is) tt
fault_count source before now (rounds.Length stem got want) e is c = subst (λ (e : Ending). EndingCause before now (Err e)) (sym is) tt
fault_count source before now (rounds.Growing path reads) e is c = subst (λ (e : Ending). EndingCause before now (Err e)) (sym is) tt
fault_count source before now (rounds.Shrank path had has) e is c = subst (λ (e : Ending). EndingCause before now (Err e)) (sym is) tt
fault_count source before now (rounds.Spent number) e is c = subst (λ (e : Ending). EndingCause before now (Err e)) (sym is) tt
fault_count source before now (rounds.Refused code) e is c = subst (λ (e : Ending). EndingCause before now (Err e)) (sym is) tt

pub end_count : (source : List ℕ) (before now : ℕ) (end : RoundEnd) (e : Ending) → IsRoundEnding source end e
    → RunCause before now (Err end) → EndingCause before now (Err e)
end_count source before now (Fault fault) e is c = fault_count source before now fault e is c
end_count source before now (FoundUnclosed name) e is c = subst (λ (e : Ending). EndingCause before now (Err e)) (sym is) tt
