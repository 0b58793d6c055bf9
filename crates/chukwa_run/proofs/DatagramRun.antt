-- The run of a writer of datagrams under the rules of all processes.
use Rattle.std.proofs.Common.{◌≡◌, ◌⊎◌, inl, inr, ℕ, Bool, true, false, List, [], ◌∷◌, ◌++◌, Ok, Err, Option, Some, None, Result, refl, sym, ◌∙◌, ap, subst, true≢false, arith}
use Rattle.std.specs.Prelude.{Contains, IsTrue, string_bytes, ◌||◌, ◌==◌, nat_lt, nat_le, ◌&&◌, length}
use Rattle.std.specs.Char.{is_ascii_alphanumeric}
use Rattle.std.specs.List.{list_all}
use Rattle.std.proofs.lemmas.Bool.{and_parts, and_from}
use Rattle.chk_bytes.specs.Stems.{is_stem_letter}
use Rattle.chk_bytes.specs.Words.{is_word}
use Rattle.chk_site.specs.declared.acts.Who.{Who}
use Rattle.chk_site.specs.declared.acts.OutsideFault.{OutsideFault}
use Rattle.chk_site.specs.History.{Step, History, Others, is_stopped}
use Rattle.chk_site.specs.Site.{Adds}
use Rattle.chk_site.specs.Runs.{Leads}
use Rattle.chk_site.proofs.Runs.{adds_both}
use Rattle.chk_world.specs.Rules.{Obeys}
use Rattle.chk_world.specs.Together.{Outside as OfOthers, IsByOne}
use Rattle.chk_world.proofs.Beside.{owns_as}
use Rattle.chk_wahead.specs.declared.fault.WaheadFault.{WaheadFault}
use Rattle.chk_wahead.specs.declared.fault.WaheadFault.TheVariants as Waheads
use Rattle.chk_wahead.specs.Faults.{FailsLast, wahead_result}
use Rattle.chk_wahead.specs.States.{State}
use Rattle.chk_cmd_output.specs.Printing.{PrintsInTurn}
use Rattle.chk_cmd_output.proofs.Printed.{prints_run}
use Rattle.chk_cmd_udp.specs.Legality.{IsByEither, GoesOnLegal}
use Rattle.chk_udp_laws.proofs.Finding.{turns_find_tidy}
use Rattle.chk_udp_laws.proofs.Wholes.{runs_leave}
use Rattle.chk_cmd_udp.specs.Runs.{HasRun, unstarted, started, GoesOn, finished, unclosed, told as told_line, IsLastNumber}
use Rattle.chk_cmd_line.specs.Commands.{Udp}
use Rattle.chk_cmd_line.specs.Datagrams.{UdpAsked, is_writer_byte, is_writer_name}
use Rattle.chk_cmd_line.specs.declared.endings.Ending.{Ending}
use Rattle.chukwa_run.specs.declared.datagrams.DatagramSetting.{DatagramSetting}
use Rattle.chukwa_run.specs.Datagrams.{IsSetFor, UdpScript, UdpRan, UdpCut, door_of, wahead_ending}
use Rattle.chukwa_run.specs.Processes.{the_writer, acting_for, RunSide}
use Rattle.chk_cmd_load.specs.Processes.{chukwa}
use Rattle.chukwa_run.specs.Runs.{Begins, EndsWith, CameTo, CausedBy}
use Rattle.chukwa_run.specs.Showing.{Shows}
use Rattle.chukwa_run.specs.Statuses.{HasItsStatus}
use Rattle.chukwa_run.specs.Whole.{Whole}
use Rattle.chukwa_run.proofs.Acts.{failed_last}
use Rattle.chukwa_run.proofs.Alive.{Alive}
use Rattle.chukwa_run.proofs.CollectorNames.{collector_is_word}

-- ---- the name

letter_of : (a u h : Bool) → (a || u) ≡ true → (a || (u || h)) ≡ true
letter_of true u h e = refl
letter_of false true h e = refl
letter_of false false h e = absurd (true≢false (sym e))

letters : (name : List ℕ) → list_all is_writer_byte name ≡ true
    → list_all is_stem_letter name ≡ true
letters [] e = refl
letters (b ∷ rest) e =
    let p = and_parts (is_writer_byte b) (list_all is_writer_byte rest) e in
    and_from (is_stem_letter b) (list_all is_stem_letter rest)
    (letter_of (is_ascii_alphanumeric b) (b == 95) (b == 45) p.0) (letters rest p.1)

-- the name of a writer is a word
pub writer_is_word : (name : List ℕ) → IsTrue (is_writer_name name) → IsTrue (is_word name)
writer_is_word name is =
    let p = and_parts (nat_lt 0 (length name) && nat_le (length name) 64)
    (list_all is_writer_byte name) is in
    collector_is_word name
    (and_from (nat_lt 0 (length name) && nat_le (length name) 64) (list_all is_stem_letter name) p.0
    (letters name p.1))

-- ---- the statuses

pub udp_status : (w : UdpAsked) (fault : WaheadFault)
    → HasItsStatus (Udp w) (Err (wahead_ending fault))
udp_status w (Waheads.Outside call) = refl
udp_status w (Waheads.Damaged name at) = refl
udp_status w (Waheads.Spent number) = refl
udp_status w Waheads.NoMemory = refl

-- ---- behind the printed line the site isn't stopped

alive_by : {old new : Option History} → Adds old new
    (λ added history. is_stopped (added ++ history) ≡ false) → Alive new
alive_by {old = None} told = subst Alive (sym (told.untold refl)) tt
alive_by {old = Some history} told = let t = told.told history refl in subst Alive (sym t.1) t.2

line_alive : {who : Who} {line : List ℕ} (outside : Result (Unit {0}) OutsideFault)
    {old new : Option History}
    → PrintsInTurn who (line ∷ []) outside old new → wahead_result outside ≡ Ok tt → Alive new
line_alive (Ok value) prints is = alive_by (prints_run prints)
line_alive (Err fault) prints is = absurd (cc)

goes_alive : {who writer : Who} {door : List ℕ} {turns rotate messages : ℕ} {s : State}
    {result : Result (Unit {0}) WaheadFault}
    {old new : Option History} → GoesOn who writer door turns rotate messages s result old new
    → result ≡ Ok tt → Alive new
goes_alive (GoesOn.cut fault turned) is = absurd (cc)
goes_alive (finished turned (unclosed fault did)) is = absurd (cc)
goes_alive (finished turned (told_line outside did prints)) is = line_alive outside prints is

run_alive : {who writer : Who} {door : List ℕ} {turns rotate messages : ℕ}
    {result : Result (Unit {0}) WaheadFault}
    {old new : Option History} → HasRun who writer door turns rotate messages result old new
    → result ≡ Ok tt → Alive new
run_alive (unstarted fault starts) is = absurd (cc)
run_alive (started starts rest) is = goes_alive rest is

-- the result as that of a run
abbrev pub ending : Result (Unit {0}) WaheadFault → Result (Unit {0}) Ending
ending (Ok value) = Ok value
ending (Err fault) = Err (wahead_ending fault)

module _ (w : UdpAsked) where
  abbrev W : Who
  W = the_writer w.name

  abbrev pub Ran : Result (Unit {0}) WaheadFault → Option History → Option History → Type 0
  Ran result old new = HasRun W chukwa (door_of w.address) w.turns w.rotate w.messages result old
      new

  -- what the library says of the run, between these told histories
  pub record IsUdpRun (result : Result (Unit {0}) WaheadFault) (old new : Option History) : Type 0
    where
      pub ran : Ran result old new
      pub legal : GoesOnLegal W chukwa old new
      pub spent : IsLastNumber result
      pub last : Adds old new (FailsLast result)

  -- and what the files show behind it
  ran_so : (result : Result (Unit {0}) WaheadFault) (added history : History)
      → UdpScript w result history added → UdpRan w result history added
  ran_so result added history script = record {
    script = script;
    leaves = λ runs others. runs_leave w.name result added history runs
        (door_of w.address, chukwa, w.turns, w.rotate, w.messages, script) others;
    finds = λ runs others. turns_find_tidy w.name (door_of w.address) chukwa w.turns w.rotate
        w.messages result added history runs script others;
  }

  cut_so : (fault : WaheadFault) (added history : History) → UdpRan w (Err fault) history added
      → IsLastNumber {T = Unit {0}} (Err fault) → FailsLast {T = Unit {0}} (Err fault) added history
      → is_stopped (added ++ history) ≡ false → UdpCut w history (wahead_ending fault) added
  cut_so (Waheads.Outside call) added history cut spent last running =
      (failed_last added call (last running), cut)
  cut_so (Waheads.Damaged name at) added history cut spent last running = cut
  cut_so (Waheads.Spent number) added history cut spent last running = (spent, cut)
  cut_so Waheads.NoMemory added history cut spent last running = tt

  script_of : (result : Result (Unit {0}) WaheadFault) (old new : Option History)
      (added history : History) → old ≡ Some history
      → new ≡ Some (added ++ history) → Ran result old new → UdpScript w result history added
  script_of result old new added history is to ran =
      subst (λ (o : Option History). Ran result o (Some (added ++ history))) is
      (subst (λ (n : Option History). Ran result old n) to ran)

  caused : (result : Result (Unit {0}) WaheadFault) {old new : Option History}
      → IsUdpRun result old new → (added history : History)
      → old ≡ Some history → new ≡ Some (added ++ history) → FailsLast result added history
      → CausedBy (Udp w) (ending result) added history
  caused (Ok value) {old = old} {new = new} s added history is to last =
      let script = script_of (Ok value) old new added history is to s.ran in
      record {
        running = λ r. ran_so (Ok value) added history script;
        stopped = λ stop. absurd
            (true≢false (sym stop ∙ run_alive script refl));
      }
  caused (Err fault) {old = old} {new = new} s added history is to last =
      let script = script_of (Err fault) old new added history is to s.ran in
      record {
        running = λ r. cut_so fault added history (ran_so (Err fault) added history script)
            s.spent last r;
        stopped = λ stop. tt;
      }

  pub causes : (result : Result (Unit {0}) WaheadFault) {old new : Option History}
      → IsUdpRun result old new
      → Adds old new (CausedBy (Udp w) (ending result))
  causes result s = record {
    told = λ history e. let t = s.last.told history e in
        (t.0, t.1, caused result s t.0 history e t.1 t.2);
    untold = s.last.untold;
  }

  came_so : (stamped : List (List ℕ)) (result : Result (Unit {0}) WaheadFault)
      (added history : History)
      → CausedBy (Udp w) (ending result) added history
      → CameTo (Whole stamped (Udp w) history) (Shows (Udp w) history) (ending result) added history
  came_so stamped (Ok value) added history by = record
      { running = by.running; stopped = by.stopped }
  came_so stamped (Err fault) added history by = record
      { running = by.running; stopped = by.stopped }

  by_one : (before : History) (step : Step) → IsByEither W chukwa before step
      → IsByOne (acting_for (Udp w)) before step
  by_one before step by = record { one = go by.by; running = by.running }
    where
      go : (step.act.who ≡ W) ⊎ (step.act.who ≡ chukwa) → Contains (acting_for (Udp w)) step.act.who
      go (inl e) = subst (Contains (acting_for (Udp w))) (sym e) (0, omega arith, refl)
      go (inr e) = subst (Contains (acting_for (Udp w))) (sym e) (1, omega arith, refl)

  others_obey : (stamped : List (List ℕ)) (added history : History)
      → Others (OfOthers stamped []) added history
      → Others (Obeys stamped) added history
  others_obey stamped [] history others = tt
  others_obey stamped (step ∷ added) history others =
      (others_obey stamped added history others.0, λ theirs. (others.1 theirs).obeys)

  pub told : (stamped : List (List ℕ)) (earlier : History) (result : Result (Unit {0}) WaheadFault)
      {old new : Option History}
      → IsUdpRun result old new
      → Adds old new (Leads (RunSide stamped (Udp w)) (Begins stamped earlier)
      (EndsWith stamped (Udp w) (ending result) earlier))
  told stamped earlier result s =
      adds_both (Leads (RunSide stamped (Udp w)) (Begins stamped earlier)
      (EndsWith stamped (Udp w) (ending result) earlier))
      (causes result s) (s.legal stamped)
      (λ added history x y. record {
        leads =
            λ others begins. record {
              legal = y.leads (others_obey stamped added history others) begins.legal;
              since = record {
                added = added;
                goes_on = ap (λ (h : History). added ++ h) begins.is;
                holds =
                    subst (λ (h : History). CameTo (Whole stamped (Udp w) h) (Shows (Udp w) h)
                    (ending result) added h) begins.is
                    (came_so stamped result added history x);
              };
            };
        own = owns_as (IsByEither W chukwa) (IsByOne (acting_for (Udp w))) by_one added history
            y.own;
      })

  -- the same of two processes and a door of these names
  pub record IsGiven (result : Result (Unit {0}) WaheadFault) (old new : Option History)
      (who writer : Who) (door : List ℕ) : Type 0 where
    pub ran : HasRun who writer door w.turns w.rotate w.messages result old new
    pub legal : GoesOnLegal who writer old new
    pub spent : IsLastNumber result
    pub last : Adds old new (FailsLast result)

  pub given : (result : Result (Unit {0}) WaheadFault) {old new : Option History}
      (setting : DatagramSetting) (door : List ℕ)
      → IsSetFor w setting → door ≡ string_bytes setting.door
      → IsGiven result old new setting.who setting.writer door
      → IsUdpRun result old new
  given result {old = old} {new = new} setting door set at g =
      let a = subst (λ (x : List ℕ). IsGiven result old new setting.who setting.writer x)
      (at ∙ set.door) g in
      let b = subst (λ (x : Who). IsGiven result old new x setting.writer (door_of w.address))
      set.who a in
      let c = subst (λ (x : Who). IsGiven result old new W x (door_of w.address)) set.writer b in
      record { ran = c.ran; legal = c.legal; spent = c.spent; last = c.last }
