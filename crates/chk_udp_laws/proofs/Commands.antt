-- The command `udp` uses its buffers as a run does.
use Rattle.std.proofs.Common.{◌≡◌, ℕ, Bool, List, [], ◌∷◌, Option, Some, None, Result, Ok, Err, refl, sym, ◌∙◌, subst}
use Rattle.chk_site.specs.declared.acts.Call.TheVariants.{Take, Say}
use Rattle.chk_site.specs.declared.acts.CallFault.{CallFault}
use Rattle.chk_site.specs.declared.acts.OutsideFault.{OutsideFault}
use Rattle.chk_site.specs.declared.acts.Who.{Who}
use Rattle.chk_site.specs.declared.suffixes.Taking.{Taking}
use Rattle.chk_site.specs.History.{History}
use Rattle.chk_site.specs.Runs.{MadeInTurn}
use Rattle.chk_site.specs.Site.{asked, Ends}
use Rattle.chk_cmd_output.proofs.Printed.{prints_made}
use Rattle.chk_wahead.specs.declared.fault.WaheadFault.{WaheadFault}
use Rattle.chk_wahead.specs.Faults.{wahead_result}
use Rattle.chk_wahead.specs.Names.{writer}
use Rattle.chk_wahead.specs.Scripts.{Did, commit_of, close_of}
use Rattle.chk_wahead.specs.States.{State, all_marked}
use Rattle.chk_wahead.specs.Telling.{Starts}
use Rattle.chk_cmd_udp.specs.declared.tally.Tally.{Tally}
use Rattle.chk_cmd_udp.specs.Takings.{Waits, TakesOnce, Further, Gathers, came}
use Rattle.chk_cmd_udp.specs.Turns.{Commits, Closes, Settles, IsTurn}
use Rattle.chk_cmd_udp.specs.Runs.{AreTurned, Finishes, GoesOn, HasRun}
use Rattle.chk_cmd_udp.proofs.Gathering.{gathers_same}
use Rattle.chk_cmd_udp.proofs.Keeping.{done_same, done_held}
use Rattle.chk_cmd_udp.proofs.Turning.{turn_same}
use Rattle.chk_cmd_udp.proofs.Starting.{begun}
use Rattle.chk_udp_laws.specs.Uses.{Goes, IsRun}
use Rattle.chk_udp_laws.specs.Commands.{IsRunOf, CommandsAreRuns}

module _ (who : Who) where
  -- how the work goes on behind something: from there on, where it was done; else it is over
  abbrev Onward : {T : Type 0} → Result T WaheadFault → State → Option State → Option History
      → Option History → Type 0
  Onward (Ok value) u end mid new = Goes who u end mid new
  Onward (Err fault) u end mid new = (end ≡ None) × (new ≡ mid)

  over_with : {s : State} {end : Option State} {old mid new : Option History}
      → Goes who s None old mid → (end ≡ None) × (new ≡ mid)
      → Goes who s end old new
  over_with {s = s} {end = end} {old = old} {mid = mid} {new = new} goes is =
      subst (λ o. Goes who s o old new) (sym is.0)
      (subst (λ x. Goes who s None old x) (sym is.1) goes)

  untaken_by : {s : State} {door : List ℕ} {wait : ℕ} (fault : OutsideFault)
      (given : Result (Option Taking) CallFault) {old new : Option History}
      → Ends Take given fault → Waits who door wait given old new → Goes who s None old new
  untaken_by fault (Ok value) ends call = absurd ends
  untaken_by {door = door} {wait = wait} fault (Err f) ends call = Goes.untaken door wait f call

  untaken_goes : {s : State} {door : List ℕ} {wait : ℕ} (fault : OutsideFault)
      {old new : Option History}
      → TakesOnce who door wait (Err fault) old new → Goes who s None old new
  untaken_goes fault call = untaken_by fault call.0 call.1 call.2

  further_goes : {door : List ℕ} {rotate left : ℕ} {s u : State} {t w : Tally}
      {result : Result (Unit {0}) WaheadFault} {end : Option State}
      {old mid new : Option History} → Further who door rotate left s t old result u w mid
      → Onward result u end mid new → Goes who s end old new
  further_goes Further.enough onward = onward
  further_goes (Further.full long) onward = onward
  further_goes {door = door} (Further.none short call) onward = Goes.silent door 0 call onward
  further_goes {door = door} (Further.one taking short call did later) onward =
      Goes.put door 0 taking call did (further_goes later onward)
  further_goes (Further.untaken fault short call) onward =
      over_with (untaken_goes fault call) onward
  further_goes {door = door} (Further.unput {u = u} taking fault short call did) onward =
      over_with (Goes.unput u door 0 taking fault call did) onward

  came_onward : (result : Result (Unit {0}) WaheadFault) (u : State) (end : Option State)
      (mid new : Option History)
      → Onward (came result) u end mid new → Onward result u end mid new
  came_onward (Ok value) u end mid new onward = onward
  came_onward (Err fault) u end mid new onward = onward

  gathers_goes : {door : List ℕ} {rotate further : ℕ} {s u : State} {t w : Tally}
      {result : Result Bool WaheadFault} {end : Option State}
      {old mid new : Option History} → Gathers who door rotate further s t old result u w mid
      → Onward result u end mid new → Goes who s end old new
  gathers_goes {door = door} (Gathers.silent call) onward = Goes.silent door 1000 call onward
  gathers_goes {door = door} {u = last} {end = end} {mid = mid} {new = new} (Gathers.heard {result =
      result} taking call did later) onward =
      Goes.put door 1000 taking call did (further_goes later
      (came_onward result last end mid new onward))
  gathers_goes (Gathers.untaken fault call) onward = over_with (untaken_goes fault call) onward
  gathers_goes {door = door} (Gathers.unput {u = u} taking fault call did) onward =
      over_with (Goes.unput u door 1000 taking fault call did) onward

  close_goes : (s u : State) (result : Result (Unit {0}) WaheadFault) {end : Option State}
      {old mid new : Option History} → s.who ≡ who
      → Closes s old result u mid → Onward result u end mid new → Goes who s end old new
  close_goes s u (Ok value) {old = old} {mid = mid} e did onward =
      Goes.closed (subst (λ (w : Who). Did (close_of w s.number s.held) s s.number None (Ok tt) u
      old mid) e did) onward
  close_goes s u (Err fault) {old = old} {mid = mid} e did onward =
      over_with (Goes.unclosed fault (subst (λ (w : Who). Did (close_of w s.number s.held) s
      s.number None (Err fault) u old mid) e did)) onward

  commit_goes : (s u : State) (result : Result (Unit {0}) WaheadFault) {end : Option State}
      {old mid new : Option History} → s.who ≡ who
      → Commits s old result u mid → Onward result u end mid new → Goes who s end old new
  commit_goes s u (Ok value) {old = old} {mid = mid} e did onward =
      Goes.committed (subst (λ (w : Who). Did (commit_of w s.held) s s.number (all_marked s.held)
      (Ok tt) u old mid) e did) onward
  commit_goes s u (Err fault) {old = old} {mid = mid} e did onward =
      over_with (Goes.uncommitted fault (subst
      (λ (w : Who). Did (commit_of w s.held) s s.number (all_marked s.held) (Err fault) u old
      mid) e did)) onward

  settles_goes : {rotate : ℕ} (s u : State) (result : Result (Unit {0}) WaheadFault)
      {end : Option State} {old mid new : Option History} → s.who ≡ who
      → Settles rotate s old result u mid → Onward result u end mid new → Goes who s end old new
  settles_goes s u result e (Settles.uncommitted fault did) onward =
      commit_goes s u (Err fault) e did onward
  settles_goes s u result e (Settles.kept did short) onward = commit_goes s u (Ok tt) e did onward
  settles_goes s u result e (Settles.closed {u = v} did long shut) onward =
      commit_goes s v (Ok tt) e did (close_goes v u result ((done_same did).who ∙ e) shut onward)

  turn_goes : {door : List ℕ} {rotate messages : ℕ} (s u : State) {t w : Tally}
      (result : Result (Unit {0}) WaheadFault) {end : Option State}
      {old mid new : Option History} → s.who ≡ who
      → IsTurn who door rotate messages s t old result u w mid → Onward result u end mid new
      → Goes who s end old new
  turn_goes s u result e (IsTurn.ungathered fault taken) onward = gathers_goes taken onward
  turn_goes s u result e (IsTurn.silent {u = v} taken shut) onward =
      gathers_goes taken (close_goes v u result ((gathers_same taken).0 ∙ e) shut onward)
  turn_goes s u result e (IsTurn.heard {u = v} taken settled) onward =
      gathers_goes taken (settles_goes v u result ((gathers_same taken).0 ∙ e) settled onward)

  turns_goes : {door : List ℕ} {rotate messages left : ℕ} (s u : State) {t w : Tally}
      (result : Result (Unit {0}) WaheadFault) {end : Option State}
      {old mid new : Option History} → s.who ≡ who
      → AreTurned who door rotate messages left s t old result u w mid
      → Onward result u end mid new
      → Goes who s end old new
  turns_goes s u result e AreTurned.over onward = onward
  turns_goes s u result e (AreTurned.turn {u = v} one later) onward =
      turn_goes s v (Ok tt) e one (turns_goes v u result ((turn_same one).who ∙ e) later onward)
  turns_goes s u result e (AreTurned.cut fault one) onward = turn_goes s u (Err fault) e one onward

  turned_who : {door : List ℕ} {rotate messages left : ℕ} {s u : State} {t w : Tally}
      {result : Result (Unit {0}) WaheadFault}
      {old new : Option History} → AreTurned who door rotate messages left s t old result u w new
      → u.who ≡ s.who
  turned_who AreTurned.over = refl
  turned_who (AreTurned.turn one later) = turned_who later ∙ (turn_same one).who
  turned_who (AreTurned.cut fault one) = (turn_same one).who

  -- the work is over, without a buffer where it was done
  abbrev Over : {T : Type 0} → Result T WaheadFault → State → Option History → Option History
      → Type 0
  Over (Ok value) s old new = (u : State) × (u.held ≡ None) × Goes who s (Some u) old new
  Over (Err fault) s old new = Goes who s None old new

  told_over : {teller : Who} {line : List ℕ} (s u : State)
      (outside : Result (Unit {0}) OutsideFault) {old mid new : Option History} → s.who ≡ who
      → Closes s old (Ok tt) u mid → MadeInTurn (asked teller Say (line ∷ []) 0 0 ∷ []) outside mid
      new → Over (wahead_result outside) s old new
  told_over {teller = teller} {line = line} s u (Ok value) e did script =
      (u, done_held did refl, close_goes s u (Ok tt) e did (Goes.told teller line script Goes.ends))
  told_over {teller = teller} {line = line} s u (Err fault) e did script =
      close_goes s u (Ok tt) e did (Goes.untold teller line fault script)

  finishes_over : {teller : Who} (s : State) {t : Tally} (result : Result (Unit {0}) WaheadFault)
      {old new : Option History} → s.who ≡ who
      → Finishes teller s t result old new → Over result s old new
  finishes_over s result e (Finishes.unclosed {u = u} fault did) =
      close_goes s u (Err fault) e did (refl, refl)
  finishes_over s result e (Finishes.told {u = u} outside did prints) =
      told_over s u outside e did (prints_made prints)

  over_behind : {door : List ℕ} {rotate messages left : ℕ} (s u : State) {t w : Tally}
      (result : Result (Unit {0}) WaheadFault)
      (old mid new : Option History) → s.who ≡ who
      → AreTurned who door rotate messages left s t old (Ok tt) u w mid → Over result u mid new
      → Over result s old new
  over_behind s u (Ok value) old mid new e turned over =
      (over.0, over.1, turns_goes s u (Ok tt) e turned over.2)
  over_behind s u (Err fault) old mid new e turned over = turns_goes s u (Ok tt) e turned over

  goes_over : {teller : Who} {door : List ℕ} {turns rotate messages : ℕ} (s : State)
      (result : Result (Unit {0}) WaheadFault) {old new : Option History}
      → s.who ≡ who → GoesOn who teller door turns rotate messages s result old new
      → Over result s old new
  goes_over s result e (GoesOn.cut {u = u} fault turned) =
      turns_goes s u (Err fault) e turned (refl, refl)
  goes_over s result e (GoesOn.finished {u = u} {old = old} {mid = mid} {new = new} turned finish) =
      over_behind s u result old mid new e turned
      (finishes_over u result (turned_who turned ∙ e) finish)

  run_behind : (s : State) (result : Result (Unit {0}) WaheadFault) (old mid new : Option History)
      → Starts who (Ok s) old mid
      → Over result s mid new → IsRunOf result who old new
  run_behind s (Ok value) old mid new starts over = (over.0, over.1, IsRun.started starts over.2)
  run_behind s (Err fault) old mid new starts over = IsRun.started starts over

  has_run : {teller : Who} {door : List ℕ} {turns rotate messages : ℕ}
      (result : Result (Unit {0}) WaheadFault) {old new : Option History}
      → HasRun who teller door turns rotate messages result old new → IsRunOf result who old new
  has_run result (HasRun.unstarted fault starts) = IsRun.unstarted fault starts
  has_run result (HasRun.started {s = s} {old = old} {mid = mid} {new = new} starts later) =
      run_behind s result old mid new starts (goes_over s result (begun s starts).who_is later)

pub commands_are_runs : CommandsAreRuns
commands_are_runs n door teller turns rotate messages result old new ran =
    has_run (writer n) result ran
