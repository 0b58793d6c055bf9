-- What the parts of a load add, whatever others do.
use Rattle.std.proofs.Common.{◌≡◌, ◌<◌, inl, inr, ℕ, Bool, true, false, List, [], ◌∷◌, ◌++◌, Ok, Err, Option, Result, refl, sym, ◌∙◌, ap, subst, append_assoc, append-nil}
use Rattle.std.specs.Prelude.{codes}
use Rattle.chk_bytes.specs.Words.{BeginsWith}
use Rattle.chk_site.specs.declared.acts.ActAnswer.{ActAnswer}
use Rattle.chk_site.specs.declared.acts.ActAnswer.TheVariants.{Refused, Stopped}
use Rattle.chk_site.specs.declared.acts.Call.TheVariants.{Say}
use Rattle.chk_site.specs.declared.acts.CallFault.{CallFault}
use Rattle.chk_site.specs.declared.acts.CallFault.TheVariants.{Failed, Missing, Exists, Short, NoMemory}
use Rattle.chk_site.specs.declared.acts.OutsideFault.{OutsideFault}
use Rattle.chk_site.specs.declared.acts.OutsideFault.TheVariants.{NoMemory as no_memory}
use Rattle.chk_site.specs.Acts.{Deed}
use Rattle.chk_site.specs.History.{History, is_stopped}
use Rattle.chk_site.specs.Runs.{Owns, own_acts}
use Rattle.chk_site.specs.Site.{Acted, Adds, Calls, Ends, LastFailed, answered, plain}
use Rattle.chk_site.proofs.LastCalls.{ended_last, last_of_both}
use Rattle.chk_site.proofs.Runs.{adds_as, adds_both, adds_none, adds_then, ran}
use Rattle.chk_world.specs.Together.{IsByOne}
use Rattle.chk_round.specs.Processes.{processes}
use Rattle.chk_cmd_line.specs.Loads.{load_log}
use Rattle.chk_cmd_load.specs.Lines.{all_lines}
use Rattle.chk_cmd_load.specs.Loads.{SaysLine, unsaid, said, unsayable, saying}
use Rattle.chk_cmd_load.specs.Pieces.{AppendsFront, HasAppended, LogPiece, WritesAll, asked_piece, done_piece, done_print, joined, of_writer}
use Rattle.chk_cmd_load.specs.Processes.{chukwa}
use Rattle.chk_cmd_load.proofs.Joined.{front_then, joined_then}
use Rattle.chk_cmd_load.proofs.OwnCalls.{OwnCalls, appends_own, own_join, round_own, round_silent, say_own}
use Rattle.chk_cmd_load.proofs.Scripts.{AreDone, AsksFront, PrintsNothing, appends_asked, appends_done, appends_last, appends_silent, call_one, made, one_act, writer_join}
use Rattle.chk_archive.proofs.OnceListed.{theirs_none as theirs_silent}

-- ---- the appends

asks_front : (lines : ℕ) (ps : List LogPiece)
    → ((log : ℕ) → log < 3 → BeginsWith (all_lines lines log) (joined (load_log log) ps))
    → (added history : History) → AsksFront ps added history → AppendsFront lines (own_acts added)
asks_front lines ps fits added history asks log low =
    front_then (all_lines lines log) (joined (load_log log) ps) (joined (load_log log) (of_writer asked_piece (own_acts added)))
    (fits log low) (
      joined (load_log log) asks.0,
      ap (joined (load_log log)) asks.1 ∙ joined_then (load_log log) (of_writer asked_piece (own_acts added)) asks.0,
    )

-- where the appends ended the work
pub record Cut (lines : ℕ) (fault : OutsideFault) (added history : History) : Type 0 where
  pub own : OwnCalls added history
  pub front : AppendsFront lines (own_acts added)
  pub silent : PrintsNothing added history
  pub last : LastFailed {T = Unit {0}} (Err fault) added history

pub appends_cut : (lines : ℕ) (fault : OutsideFault) {old new : Option History} → WritesAll chukwa lines (Err fault) old new
    → Adds old new (Cut lines fault)
appends_cut lines fault (ps, script, fits) =
    adds_both (Cut lines fault) (adds_both (λ a h. OwnCalls a h × AsksFront ps a h) (appends_own script) (appends_asked script) (λ a h x y. (x, y)))
    (adds_both (λ a h. PrintsNothing a h × LastFailed {T = Unit {0}} (Err fault) a h) (appends_silent script) (appends_last script) (λ a h x y. (x, y)))
    (λ a h x y. record { own = x.0; front = asks_front lines ps fits a h x.1; silent = y.0; last = y.1 })

-- where they were all made
pub record Appended (lines : ℕ) (added history : History) : Type 0 where
  pub own : OwnCalls added history
  pub done : HasAppended lines (own_acts added)
  pub front : AppendsFront lines (own_acts added)
  pub silent : PrintsNothing added history

whole_asked : (lines : ℕ) (ps : List LogPiece) → ((log : ℕ) → log < 3 → joined (load_log log) ps ≡ all_lines lines log)
    → (log : ℕ) → log < 3 → BeginsWith (all_lines lines log) (joined (load_log log) ps)
whole_asked lines ps fits log low = ([], sym (append-nil (joined (load_log log) ps) ∙ fits log low))

pub appends_all : (lines n : ℕ) {old new : Option History} → WritesAll chukwa lines (Ok n) old new → Adds old new (Appended lines)
appends_all lines n (ps, script, size, fits) =
    adds_both (Appended lines) (adds_both (λ a h. OwnCalls a h × AsksFront ps a h) (appends_own script) (appends_asked script) (λ a h x y. (x, y)))
    (adds_both (λ a h. PrintsNothing a h × AreDone ps a h) (appends_silent script) (appends_done script refl) (λ a h x y. (x, y)))
    (λ a h x y. record {
      own = x.0;
      done = λ log low. ap (joined (load_log log)) y.1 ∙ fits log low;
      front = asks_front lines ps (whole_asked lines ps fits) a h x.1;
      silent = y.0;
    })

-- ---- what stands behind them

same_part : {X : Type 0} (part : Deed → ActAnswer → List X) (b a : History) → of_writer part (own_acts b) ≡ []
    → of_writer part (own_acts (b ++ a)) ≡ of_writer part (own_acts a)
same_part {X = X} part b a none =
    writer_join part b a ∙ (ap (λ (xs : List X). of_writer part (own_acts a) ++ xs) none ∙ append-nil (of_writer part (own_acts a)))

still_done : (lines : ℕ) (b a : History) → of_writer done_piece (own_acts b) ≡ [] → HasAppended lines (own_acts a)
    → HasAppended lines (own_acts (b ++ a))
still_done lines b a none done log low = ap (joined (load_log log)) (same_part done_piece b a none) ∙ done log low

still_front : (lines : ℕ) (b a : History) → of_writer asked_piece (own_acts b) ≡ [] → AppendsFront lines (own_acts a)
    → AppendsFront lines (own_acts (b ++ a))
still_front lines b a none front log low =
    subst (λ (ps : List LogPiece). BeginsWith (all_lines lines log) (joined (load_log log) ps))
    (sym (same_part asked_piece b a none)) (front log low)

-- steps of the round
pub then_round : (lines : ℕ) {old mid new : Option History} → Adds old mid (Appended lines)
    → Adds mid new (Owns (IsByOne (processes (codes "load")))) → Adds old new (Appended lines)
then_round lines first second =
    adds_then (Appended lines) first second
    (λ a b h x by. record {
      own = own_join b a h x.own (round_own b (a ++ h) by);
      done = still_done lines b a (round_silent done_piece b (a ++ h) by) x.done;
      front = still_front lines b a (round_silent asked_piece b (a ++ h) by) x.front;
      silent = same_part done_print b a (round_silent done_print b (a ++ h) by) ∙ x.silent;
    })

-- ---- the summary

-- what was printed, by whether it was
abbrev pub SaidSo : List ℕ → Result (Unit {0}) OutsideFault → History → Type 0
SaidSo line (Ok value) added = of_writer done_print (own_acts added) ≡ line ∷ []
SaidSo line (Err fault) added = of_writer done_print (own_acts added) ≡ []

abbrev pub RunsSo : Result (Unit {0}) OutsideFault → History → Type 0
RunsSo (Ok value) history = is_stopped history ≡ false
RunsSo (Err fault) history = Unit {0}

record Said (line : List ℕ) (result : Result (Unit {0}) OutsideFault) (added history : History) : Type 0 where
  said : SaidSo line result added
  asks_none : of_writer asked_piece (own_acts added) ≡ []
  done_none : of_writer done_piece (own_acts added) ≡ []
  last : LastFailed result added history
  running : RunsSo result (added ++ history)

say_part : {X : Type 0} (part : Deed → ActAnswer → List X) (line : List ℕ)
    → ((answer : ActAnswer) → of_writer part (made (saying chukwa line) answer ∷ []) ≡ [])
    → (given : Result (Unit {0}) CallFault) (added history : History)
    → Calls (saying chukwa line) (answered plain given) added history → of_writer part (own_acts added) ≡ []
say_part part line none given added history calls =
    elim (call_one (saying chukwa line) plain given added history calls) [
      | inl one ↦ ap (of_writer part) one.1 ∙ none one.0
      | inr quiet ↦ ap (of_writer part) quiet
    ]

-- a print that ended the work wasn't done
print_cut : (line : List ℕ) (given : Result (Unit {0}) CallFault) (fault : OutsideFault) (added history : History)
    → Ends Say given fault → Calls (saying chukwa line) (answered plain given) added history
    → of_writer done_print (own_acts added) ≡ []
print_cut line (Ok value) fault added history ends calls = absurd ends
print_cut line (Err Failed) fault added history ends calls = by (is_stopped history) refl
  where
    by : (b : Bool) → is_stopped history ≡ b → of_writer done_print (own_acts added) ≡ []
    by true e = ap (λ (a : History). of_writer done_print (own_acts a)) (calls.stopped e).0
    by false e =
        elim (calls.running e) [
          | inl x ↦ ap (of_writer done_print) (one_act (saying chukwa line) (Refused Failed) added history x)
          | inr x ↦ ap (of_writer done_print) (one_act (saying chukwa line) (Stopped x.0) added history x.1)
        ]
print_cut line (Err NoMemory) fault added history ends calls = by (is_stopped history) refl
  where
    by : (b : Bool) → is_stopped history ≡ b → of_writer done_print (own_acts added) ≡ []
    by true e = ap (λ (a : History). of_writer done_print (own_acts a)) (calls.stopped e).0
    by false e = ap (of_writer done_print) (theirs_silent added history (calls.running e))
print_cut line (Err Missing) fault added history ends calls = absurd ends
print_cut line (Err Exists) fault added history ends calls = absurd ends
print_cut line (Err (Short size)) fault added history ends calls = absurd ends

say_facts : (line : List ℕ) {result : Result (Unit {0}) OutsideFault} {old new : Option History}
    → SaysLine chukwa line result old new → Adds old new (Said line result)
say_facts line unsaid =
    adds_none _ (Said line (Err no_memory)) (λ history. record { said = refl; asks_none = refl; done_none = refl; last = tt; running = tt })
say_facts line (said told) =
    adds_as (Said line (Ok tt)) told
    (λ added history calls.
    let acted : Acted (saying chukwa line) (plain {T = Unit {0}} tt) added history = ran (Ok (plain {T = Unit {0}} tt)) (λ e. cc) calls in
    record {
      said = ap (of_writer done_print) (one_act (saying chukwa line) (plain {T = Unit {0}} tt) added history acted);
      asks_none = say_part asked_piece line (λ answer. refl) (Ok tt) added history calls;
      done_none = say_part done_piece line (λ answer. refl) (Ok tt) added history calls;
      last = tt;
      running = subst (λ (a : History). is_stopped (a ++ history) ≡ false) (sym acted.added_is) refl;
    })
say_facts line (unsayable {fault = fault} given ends told) =
    adds_as (Said line (Err fault)) told
    (λ added history calls. record {
      said = print_cut line given fault added history ends calls;
      asks_none = say_part asked_piece line (λ answer. refl) given added history calls;
      done_none = say_part done_piece line (λ answer. refl) given added history calls;
      last = ended_last (Unit {0}) plain given fault ends calls;
      running = tt;
    })

-- all parts, up to the summary
pub record Whole (lines : ℕ) (line : List ℕ) (result : Result (Unit {0}) OutsideFault) (added history : History) : Type 0 where
  pub own : OwnCalls added history
  pub done : HasAppended lines (own_acts added)
  pub front : AppendsFront lines (own_acts added)
  pub said : SaidSo line result added
  pub last : LastFailed result added history
  pub running : RunsSo result (added ++ history)

said_later : (line : List ℕ) (result : Result (Unit {0}) OutsideFault) (b a : History) → of_writer done_print (own_acts a) ≡ []
    → SaidSo line result b → SaidSo line result (b ++ a)
said_later line (Ok value) b a none is =
    writer_join done_print b a ∙ (ap (λ (t : List (List ℕ)). t ++ of_writer done_print (own_acts b)) none ∙ is)
said_later line (Err fault) b a none is =
    writer_join done_print b a ∙ (ap (λ (t : List (List ℕ)). t ++ of_writer done_print (own_acts b)) none ∙ is)

runs_later : (result : Result (Unit {0}) OutsideFault) (b a history : History) → RunsSo result (b ++ (a ++ history))
    → RunsSo result ((b ++ a) ++ history)
runs_later (Ok value) b a history is = subst (λ (h : History). is_stopped h ≡ false) (sym (append_assoc b a history)) is
runs_later (Err fault) b a history is = tt

pub then_say : (lines : ℕ) (line : List ℕ) {result : Result (Unit {0}) OutsideFault} {old mid new : Option History}
    → Adds old mid (Appended lines) → SaysLine chukwa line result mid new → Adds old new (Whole lines line result)
then_say lines line {result = result} first says =
    adds_then (Whole lines line result) first
    (adds_both (λ b h. OwnCalls b h × Said line result b h) (say_own line says) (say_facts line says) (λ b h x y. (x, y)))
    (λ a b h x y. record {
      own = own_join b a h x.own y.0;
      done = still_done lines b a y.1.done_none x.done;
      front = still_front lines b a y.1.asks_none x.front;
      said = said_later line result b a x.silent y.1.said;
      last = last_of_both result b a h y.1.last;
      running = runs_later result b a h y.1.running;
    })
