-- The run of a watcher under the rules of all processes.
use Rattle.std.proofs.Common.{◌≡◌, ℕ, false, List, [], ◌∷◌, ◌++◌, Ok, Err, Option, Some, None, Result, refl, sym, ◌∙◌, ap, subst, true≢false, arith}
use Rattle.std.specs.Prelude.{Contains}
use Rattle.chk_site.specs.declared.acts.Who.{Who}
use Rattle.chk_site.specs.declared.acts.OutsideFault.{OutsideFault}
use Rattle.chk_site.specs.declared.acts.OutsideFault.TheVariants as Outsides
use Rattle.chk_site.specs.History.{Step, History, Others, is_stopped}
use Rattle.chk_site.specs.Site.{Adds, LastFailed}
use Rattle.chk_site.specs.Runs.{Leads}
use Rattle.chk_site.proofs.Runs.{adds_both}
use Rattle.chk_world.specs.Rules.{Obeys}
use Rattle.chk_world.specs.Together.{Outside as OfOthers, IsByOne}
use Rattle.chk_world.proofs.Beside.{owns_as}
use Rattle.chk_cmd_output.specs.Printing.{PrintsInTurn}
use Rattle.chk_cmd_output.proofs.Printed.{prints_run}
use Rattle.chk_cmd_subscribe.specs.Legality.{IsWatchers, StaysLegal}
use Rattle.chk_cmd_subscribe.specs.Runs.{HasSubscribed}
use Rattle.chk_cmd_subscribe.specs.Told.{PrintsOnce}
use Rattle.chk_cmd_line.specs.Commands.{Subscribe}
use Rattle.chk_cmd_line.specs.Subscribing.{SubscribeAsked}
use Rattle.chk_cmd_line.specs.declared.endings.Ending.{Ending}
use Rattle.chukwa_run.specs.declared.subscribing.WatchSetting.{WatchSetting}
use Rattle.chukwa_run.specs.Subscribing.{IsSetToWatch, WatchScript, SubscribeCut, watch_ending}
use Rattle.chukwa_run.specs.Processes.{the_watcher, acting_for, RunSide}
use Rattle.chukwa_run.specs.Runs.{Begins, EndsWith, CameTo, CausedBy}
use Rattle.chukwa_run.specs.Showing.{Shows}
use Rattle.chukwa_run.specs.Statuses.{HasItsStatus}
use Rattle.chukwa_run.specs.Whole.{Whole}
use Rattle.chukwa_run.proofs.Acts.{failed_last}
use Rattle.chukwa_run.proofs.Alive.{Alive}

pub watch_status : (w : SubscribeAsked) (fault : OutsideFault)
    → HasItsStatus (Subscribe w) (Err (watch_ending fault))
watch_status w (Outsides.Outside call) = refl
watch_status w Outsides.NoMemory = refl

-- ---- behind the printed line the site isn't stopped

alive_by : {old new : Option History}
    → Adds old new (λ added history. is_stopped (added ++ history) ≡ false) → Alive new
alive_by {old = None} told = subst Alive (sym (told.untold refl)) tt
alive_by {old = Some history} told = let t = told.told history refl in subst Alive (sym t.1) t.2

line_alive : {who : Who} {line : List ℕ} (result : Result (Unit {0}) OutsideFault)
    {old new : Option History}
    → PrintsInTurn who (line ∷ []) result old new → result ≡ Ok tt → Alive new
line_alive (Ok value) prints is = alive_by (prints_run prints)
line_alive (Err fault) prints is = absurd (cc)

run_alive : {who : Who} {door : List ℕ} {turns : ℕ} (result : Result (Unit {0}) OutsideFault)
    {old new : Option History}
    → HasSubscribed who door turns result old new → result ≡ Ok tt → Alive new
run_alive result (HasSubscribed.broken turns) is = absurd (cc)
run_alive result (HasSubscribed.unwritten turns) is = absurd (cc)
run_alive result (HasSubscribed.told turns prints) is = line_alive result prints is

-- the result as that of a run
abbrev pub ending : Result (Unit {0}) OutsideFault → Result (Unit {0}) Ending
ending (Ok value) = Ok value
ending (Err fault) = Err (watch_ending fault)

module _ (w : SubscribeAsked) where
  abbrev pub Ran : Result (Unit {0}) OutsideFault → Option History → Option History → Type 0
  Ran result old new = HasSubscribed the_watcher w.address w.turns result old new

  -- what the library says of the run, between these told histories
  pub record IsWatch (result : Result (Unit {0}) OutsideFault) (old new : Option History) : Type 0
    where
      pub ran : Ran result old new
      pub legal : StaysLegal the_watcher old new
      pub once : Adds old new (PrintsOnce the_watcher result)
      pub last : Adds old new (LastFailed result)

  -- what of it is said of the added steps
  record IsAt (result : Result (Unit {0}) OutsideFault) (added history : History) : Type 0 where
    once : PrintsOnce the_watcher result added history
    last : LastFailed result added history

  cut_so : (fault : OutsideFault) (added history : History) → WatchScript w (Err fault) history added
      → IsAt (Err fault) added history → is_stopped (added ++ history) ≡ false
      → SubscribeCut w history (watch_ending fault) added
  cut_so (Outsides.Outside call) added history script at running =
      (failed_last added call (at.last running), record { script = script; once = at.once })
  cut_so Outsides.NoMemory added history script at running = at.once

  script_of : (result : Result (Unit {0}) OutsideFault) (old new : Option History)
      (added history : History) → old ≡ Some history
      → new ≡ Some (added ++ history) → Ran result old new → WatchScript w result history added
  script_of result old new added history is to ran =
      subst (λ (o : Option History). Ran result o (Some (added ++ history))) is
      (subst (λ (n : Option History). Ran result old n) to ran)

  caused : (result : Result (Unit {0}) OutsideFault) {old new : Option History}
      → IsWatch result old new → (added history : History)
      → old ≡ Some history → new ≡ Some (added ++ history) → IsAt result added history
      → CausedBy (Subscribe w) (ending result) added history
  caused (Ok value) {old = old} {new = new} s added history is to at =
      let script = script_of (Ok value) old new added history is to s.ran in
      record {
        running = λ r. record { script = script; once = at.once };
        stopped = λ stop. absurd (true≢false (sym stop ∙ run_alive (Ok tt) script refl));
      }
  caused (Err fault) {old = old} {new = new} s added history is to at =
      let script = script_of (Err fault) old new added history is to s.ran in
      record {
        running = λ r. cut_so fault added history script at r;
        stopped = λ stop. tt;
      }

  pub causes : (result : Result (Unit {0}) OutsideFault) {old new : Option History}
      → IsWatch result old new
      → Adds old new (CausedBy (Subscribe w) (ending result))
  causes result s =
      let both : Adds _ _ (IsAt result) = adds_both (IsAt result) s.once s.last (λ a h x y. record { once = x; last = y }) in
      record {
        told = λ history e. let t = both.told history e in
            (t.0, t.1, caused result s t.0 history e t.1 t.2);
        untold = both.untold;
      }

  came_so : (stamped : List (List ℕ)) (result : Result (Unit {0}) OutsideFault)
      (added history : History)
      → CausedBy (Subscribe w) (ending result) added history
      → CameTo (Whole stamped (Subscribe w) history) (Shows (Subscribe w) history) (ending result)
      added history
  came_so stamped (Ok value) added history by = record
      { running = by.running; stopped = by.stopped }
  came_so stamped (Err fault) added history by = record
      { running = by.running; stopped = by.stopped }

  by_one : (before : History) (step : Step) → IsWatchers the_watcher before step
      → IsByOne (acting_for (Subscribe w)) before step
  by_one before step by = record {
    one = subst (Contains (acting_for (Subscribe w))) (sym by.by) (0, omega arith, refl);
    running = by.running;
  }

  others_obey : (stamped : List (List ℕ)) (added history : History)
      → Others (OfOthers stamped []) added history
      → Others (Obeys stamped) added history
  others_obey stamped [] history others = tt
  others_obey stamped (step ∷ added) history others =
      (others_obey stamped added history others.0, λ theirs. (others.1 theirs).obeys)

  pub told : (stamped : List (List ℕ)) (earlier : History) (result : Result (Unit {0}) OutsideFault)
      {old new : Option History}
      → IsWatch result old new
      → Adds old new (Leads (RunSide stamped (Subscribe w)) (Begins stamped earlier)
      (EndsWith stamped (Subscribe w) (ending result) earlier))
  told stamped earlier result s =
      adds_both (Leads (RunSide stamped (Subscribe w)) (Begins stamped earlier)
      (EndsWith stamped (Subscribe w) (ending result) earlier))
      (causes result s) (s.legal stamped)
      (λ added history x y. record {
        leads =
            λ others begins. record {
              legal = y.leads (others_obey stamped added history others) begins.legal;
              since = record {
                added = added;
                goes_on = ap (λ (h : History). added ++ h) begins.is;
                holds =
                    subst (λ (h : History). CameTo (Whole stamped (Subscribe w) h)
                    (Shows (Subscribe w) h) (ending result) added h) begins.is
                    (came_so stamped result added history x);
              };
            };
        own = owns_as (IsWatchers the_watcher) (IsByOne (acting_for (Subscribe w))) by_one added
            history y.own;
      })

  -- the same of a process and a door of these names
  pub record IsGiven (result : Result (Unit {0}) OutsideFault) (old new : Option History)
      (who : Who) (door : List ℕ) : Type 0 where
    pub ran : HasSubscribed who door w.turns result old new
    pub legal : StaysLegal who old new
    pub once : Adds old new (PrintsOnce who result)
    pub last : Adds old new (LastFailed result)

  pub given : (result : Result (Unit {0}) OutsideFault) {old new : Option History}
      (setting : WatchSetting) → IsSetToWatch w setting
      → IsGiven result old new setting.who setting.door → IsWatch result old new
  given result {old = old} {new = new} setting set g =
      let a = subst (λ (x : List ℕ). IsGiven result old new setting.who x) set.door g in
      let b = subst (λ (x : Who). IsGiven result old new x w.address) set.who a in
      record { ran = b.ran; legal = b.legal; once = b.once; last = b.last }
