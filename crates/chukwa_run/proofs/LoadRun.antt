-- A load under the rules of all processes.
use Rattle.std.proofs.Common.{◌≡◌, inl, inr, ℕ, false, List, [], ◌∷◌, ◌++◌, Ok, Err, Option, Some, Result, refl, sym, ◌∙◌, ap, subst, true≢false, arith}
use Rattle.std.specs.Prelude.{codes}
use Rattle.std.proofs.lemmas.List.Elements.{Contains-append_left, Contains-append_right}
use Rattle.chk_site.specs.declared.acts.Who.{Who}
use Rattle.chk_site.specs.History.{History, is_stopped}
use Rattle.chk_site.specs.Runs.{Leads, Owns}
use Rattle.chk_site.specs.Site.{Adds}
use Rattle.chk_site.proofs.Runs.{adds_as, adds_both}
use Rattle.chk_world.specs.Rules.{Legal}
use Rattle.chk_round.specs.declared.faults.RoundFault.{RoundFault}
use Rattle.chk_round.specs.declared.faults.RoundFault.TheVariants as rounds
use Rattle.chk_round.specs.Processes.{processes}
use Rattle.chk_round.specs.Rounded.{AfterRound}
use Rattle.chk_cmd_load.specs.declared.ends.LoadEnd.{LoadEnd}
use Rattle.chk_cmd_load.specs.declared.ends.LoadEnd.TheVariants as loads
use Rattle.chk_cmd_load.specs.declared.ends.LoadReport.{LoadReport}
use Rattle.chk_cmd_load.specs.Loads.{AfterLoad, AppendedSo, EndsRunning, LoadDone, LoadFailsLast, LoadTo, LoadsBy, PrintedSo, RoundEndsSo}
use Rattle.chk_cmd_load.specs.Processes.{IsLoadRun}
use Rattle.chk_cmd_line.specs.declared.endings.Ending.{Ending}
use Rattle.chk_cmd_line.specs.Commands.{Load}
use Rattle.chukwa_run.specs.Processes.{RunSide, acting_for, started_by}
use Rattle.chk_cmd_load.specs.Processes.{chukwa}
use Rattle.chukwa_run.specs.Whole.{Whole}
use Rattle.chukwa_run.specs.Showing.{Shows}
use Rattle.chukwa_run.specs.Loading.{IsLoadEnding, IsRoundEnding, IsRoundOfLoad, LoadCut, LoadFault, LoadFits, LoadedOnce}
use Rattle.chukwa_run.specs.Runs.{Begins, CameTo, CausedBy, EndsWith}

-- the processes of the round are started, and they and the writer act
load_run : (lines : ℕ) → IsLoadRun (started_by (Load lines)) (acting_for (Load lines))
load_run lines = record {
  round = record {
    started_all = λ who one. one;
    acts_all = λ who one. Contains-append_left (processes (codes "load")) (chukwa ∷ []) who one;
  };
  writes = Contains-append_right (processes (codes "load")) (chukwa ∷ []) chukwa (0, omega arith, refl);
}

-- what relates two told histories, of the steps that were added
at_steps : (R : Option History → Option History → Type 0) {P : History → History → Type 0} {old new : Option History}
    → R old new → Adds old new P → Adds old new (λ a h. P a h × R (Some h) (Some (a ++ h)))
at_steps R {old = old} r p = record {
  told = λ h e. let t = p.told h e in (t.0, t.1, (t.2, subst (λ o. R o (Some (t.0 ++ h))) e (subst (R old) t.1 r)));
  untold = p.untold;
}

module _ (lines : ℕ) where
  -- what the library says of the load, between these told histories
  pub record IsLoad (result : Result LoadReport LoadEnd) (old new : Option History) : Type 0 where
    pub told : (stamped : List (List ℕ)) (started acting : List Who) → IsLoadRun started acting
        → Adds old new (LoadTo stamped started acting lines result)
    pub appends : Adds old new (AppendedSo lines result)
    pub own : Adds old new (Owns LoadsBy)
    pub prints : Adds old new (PrintedSo result)
    pub runs : Adds old new (EndsRunning result)
    pub last : Adds old new (LoadFailsLast result)
    pub round : RoundEndsSo lines result old new

  -- the result of the command by that of the library
  pub data IsResultOf : Result LoadReport LoadEnd → Result (Unit {0}) Ending → Type 0 where
    went_well : {report : LoadReport} → IsResultOf (Ok report) (Ok tt)
    went_wrong : {end : LoadEnd} {e : Ending} → IsLoadEnding end e → IsResultOf (Err end) (Err e)

  -- and what that comes to for the steps that it added
  record IsAt (result : Result LoadReport LoadEnd) (added history : History) : Type 0 where
    appends : AppendedSo lines result added history
    own : Owns LoadsBy added history
    prints : PrintedSo result added history
    runs : EndsRunning result added history
    last : LoadFailsLast result added history
    round : RoundEndsSo lines result (Some history) (Some (added ++ history))

  at_end : (result : Result LoadReport LoadEnd) {old new : Option History} → IsLoad result old new → Adds old new (IsAt result)
  at_end result s =
      adds_both (IsAt result)
      (at_steps (RoundEndsSo lines result) s.round
      (adds_both (λ a h. AppendedSo lines result a h × Owns LoadsBy a h) s.appends s.own (λ a h x y. (x, y))))
      (adds_both (λ a h. PrintedSo result a h × EndsRunning result a h × LoadFailsLast result a h) s.prints
      (adds_both (λ a h. EndsRunning result a h × LoadFailsLast result a h) s.runs s.last (λ a h x y. (x, y))) (λ a h x y. (x, y.0, y.1)))
      (λ a h x y. record { appends = x.0.0; own = x.0.1; round = x.1; prints = y.0; runs = y.1; last = y.2 })

  -- ---- by the acts alone

  round_fault : (fault : RoundFault) (e : Ending) (added history : History) → IsRoundEnding fault e
      → IsRoundOfLoad lines fault history added → LoadFault lines history e added
  round_fault (rounds.Outside call) e added history is so = rw is (inr so)
  round_fault rounds.NoMemory e added history is so = rw is tt
  round_fault (rounds.Damaged name at) e added history is so = rw is (inl so)
  round_fault (rounds.Checkpoint at) e added history (inl is) so = rw is (inr (refl, so))
  round_fault (rounds.Checkpoint at) e added history (inr is) so = rw is tt
  round_fault (rounds.Length stem got want) e added history is so = rw is so
  round_fault (rounds.Growing path reads) e added history is so = rw is so
  round_fault (rounds.Shrank path had size) e added history is so = rw is so
  round_fault (rounds.Spent number) e added history is so = rw is so
  round_fault (rounds.Refused code) e added history is so = rw is so

  fault_so : (end : LoadEnd) (e : Ending) (added history : History) → IsLoadEnding end e → IsAt (Err end) added history
      → is_stopped (added ++ history) ≡ false → LoadFault lines history e added
  fault_so (loads.Outside call) e added history is at running = rw is (inl (at.last running, at.appends))
  fault_so loads.NoMemory e added history is at running = rw is tt
  fault_so (loads.Round fault) e added history is at running = round_fault fault e added history is (at.appends, at.round)
  fault_so (loads.Unclosed name) e added history is at running = rw is (at.appends, at.round)

  cut_so : (end : LoadEnd) (e : Ending) (added history : History) → IsLoadEnding end e → IsAt (Err end) added history
      → is_stopped (added ++ history) ≡ false → LoadCut lines history e added
  cut_so end e added history is at running =
      record { own = at.own; unprinted = at.prints; fault = fault_so end e added history is at running }

  once : (report : LoadReport) (added history : History) → IsAt (Ok report) added history → LoadedOnce lines report history added
  once report added history at = record {
    own = at.own;
    appended = at.appends;
    printed = at.prints;
    script = at.round;
  }

  came : (result : Result LoadReport LoadEnd) (r : Result (Unit {0}) Ending) (added history : History) → IsResultOf result r
      → IsAt result added history → CausedBy (Load lines) r added history
  came result r added history (went_well {report = report}) at = record {
    running = λ run. (report, once report added history at);
    stopped = λ stop. absurd (true≢false (sym stop ∙ at.runs));
  }
  came result r added history (went_wrong {end = end} {e = e} is) at = record {
    running = λ run. cut_so end e added history is at run;
    stopped = λ stop. tt;
  }

  pub causes : (result : Result LoadReport LoadEnd) (r : Result (Unit {0}) Ending) {old new : Option History} → IsResultOf result r
      → IsLoad result old new → Adds old new (CausedBy (Load lines) r)
  causes result r is s = adds_as (CausedBy (Load lines) r) (at_end result s) (λ added history at. came result r added history is at)

  -- ---- from a legal history

  round_fits : (stamped : List (List ℕ)) (fault : RoundFault) (e : Ending) (added history : History) → IsRoundEnding fault e
      → AfterRound stamped (Err fault) (added ++ history) → is_stopped (added ++ history) ≡ false → LoadFits lines history e added
  round_fits stamped (rounds.Outside call) e added history is c running = subst (λ (e : Ending). LoadFits lines history e added) (sym is) tt
  round_fits stamped rounds.NoMemory e added history is c running = subst (λ (e : Ending). LoadFits lines history e added) (sym is) tt
  round_fits stamped (rounds.Damaged name at) e added history is c running = absurd (c.never running)
  round_fits stamped (rounds.Checkpoint at) e added history is c running = absurd (c.never running)
  round_fits stamped (rounds.Length stem got want) e added history is c running =
      subst (λ (e : Ending). LoadFits lines history e added) (sym is) (c.alive running)
  round_fits stamped (rounds.Growing path reads) e added history is c running =
      subst (λ (e : Ending). LoadFits lines history e added) (sym is) tt
  round_fits stamped (rounds.Shrank path had size) e added history is c running = absurd (c.never running)
  round_fits stamped (rounds.Spent number) e added history is c running =
      subst (λ (e : Ending). LoadFits lines history e added) (sym is) (c.alive running)
  round_fits stamped (rounds.Refused code) e added history is c running = absurd (c.never running)

  fits_so : (stamped : List (List ℕ)) (end : LoadEnd) (e : Ending) (added history : History) → IsLoadEnding end e
      → AfterLoad stamped (Err end) (added ++ history) → LoadDone lines (Err end) added history
      → is_stopped (added ++ history) ≡ false → LoadFits lines history e added
  fits_so stamped (loads.Outside call) e added history is c d running = subst (λ (e : Ending). LoadFits lines history e added) (sym is) tt
  fits_so stamped loads.NoMemory e added history is c d running = subst (λ (e : Ending). LoadFits lines history e added) (sym is) tt
  fits_so stamped (loads.Round fault) e added history is c d running = round_fits stamped fault e added history is c running
  fits_so stamped (loads.Unclosed name) e added history is c d running =
      subst (λ (e : Ending). LoadFits lines history e added) (sym is) d

  round_legal : (stamped : List (List ℕ)) (fault : RoundFault) (h : History) → AfterRound stamped (Err fault) h → Legal stamped h
  round_legal stamped (rounds.Outside call) h c = c
  round_legal stamped rounds.NoMemory h c = c
  round_legal stamped (rounds.Damaged name at) h c = c.legal
  round_legal stamped (rounds.Checkpoint at) h c = c.legal
  round_legal stamped (rounds.Length stem got want) h c = c.legal
  round_legal stamped (rounds.Growing path reads) h c = c
  round_legal stamped (rounds.Shrank path had size) h c = c.legal
  round_legal stamped (rounds.Spent number) h c = c.legal
  round_legal stamped (rounds.Refused code) h c = c.legal

  legal_so : (stamped : List (List ℕ)) (result : Result LoadReport LoadEnd) (h : History) → AfterLoad stamped result h → Legal stamped h
  legal_so stamped (Ok report) h c = c
  legal_so stamped (Err (loads.Outside call)) h c = c
  legal_so stamped (Err loads.NoMemory) h c = c
  legal_so stamped (Err (loads.Round fault)) h c = round_legal stamped fault h c
  legal_so stamped (Err (loads.Unclosed name)) h c = c

  came_legally : (stamped : List (List ℕ)) (result : Result LoadReport LoadEnd) (r : Result (Unit {0}) Ending) (added history : History)
      → IsResultOf result r → IsAt result added history → AfterLoad stamped result (added ++ history)
      → (is_stopped (added ++ history) ≡ false → LoadDone lines result added history)
      → CameTo (Whole stamped (Load lines) history) (Shows (Load lines) history) r added history
  came_legally stamped result r added history (went_well {report = report}) at c done = record {
    running = λ run. (report, once report added history at, done run);
    stopped = λ stop. absurd (true≢false (sym stop ∙ at.runs));
  }
  came_legally stamped result r added history (went_wrong {end = end} {e = e} is) at c done = record {
    running = λ run. (cut_so end e added history is at run, fits_so stamped end e added history is c (done run) run);
    stopped = λ stop. tt;
  }

  pub told : (stamped : List (List ℕ)) (earlier : History) (result : Result LoadReport LoadEnd) (r : Result (Unit {0}) Ending)
      {old new : Option History} → IsResultOf result r → IsLoad result old new
      → Adds old new (Leads (RunSide stamped (Load lines)) (Begins stamped earlier) (EndsWith stamped (Load lines) r earlier))
  told stamped earlier result r is s =
      adds_both (Leads (RunSide stamped (Load lines)) (Begins stamped earlier) (EndsWith stamped (Load lines) r earlier))
      (at_end result s) (s.told stamped (started_by (Load lines)) (acting_for (Load lines)) (load_run lines))
      (λ added history at y. record {
        leads =
            λ others begins.
            let c = y.leads.leads others begins.legal in
            record {
              legal = legal_so stamped result (added ++ history) c;
              since = record {
                added = added;
                goes_on = ap (λ (h : History). added ++ h) begins.is;
                holds =
                    subst (λ (h : History). CameTo (Whole stamped (Load lines) h) (Shows (Load lines) h) r added h) begins.is
                    (came_legally stamped result r added history is at c (y.done others begins.legal));
              };
            };
        own = y.leads.own;
      })
