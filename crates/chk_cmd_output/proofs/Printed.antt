-- What lines that are printed in turn add.
use Rattle.std.proofs.Common.{◌≡◌, ℕ, Bool, true, false, List, [], ◌∷◌, ◌++◌, Ok, Err, Option, Result, map, refl, sym, ◌∙◌, ap, subst, append_assoc, append-nil}
use Rattle.std.specs.Prelude.{IsTrue, MatchResult}
use Rattle.chk_site.specs.declared.acts.Who.{Who}
use Rattle.chk_site.specs.declared.acts.Act.{Act}
use Rattle.chk_site.specs.declared.acts.OutsideFault.{OutsideFault}
use Rattle.chk_site.specs.declared.acts.CallFault.{CallFault}
use Rattle.chk_site.specs.declared.acts.Call.TheVariants.{Say}
use Rattle.chk_world.specs.ArchiveRuns.{is_one_line}
use Rattle.chk_site.specs.Acts.{deed}
use Rattle.chk_site.specs.History.{History, Every, IsTheirs, is_stopped}
use Rattle.chk_site.specs.Site.{Adds, Asked, Acted, Calls, plain, answered, Ends}
use Rattle.chk_site.specs.Runs.{MadeInTurn, finished, unbegun, went_on, ended as ended_so, own_acts}
use Rattle.chk_site.proofs.Runs.{adds_then, adds_none, ran}
use Rattle.chk_cmd_output.specs.Printing.{PrintsInTurn, all_printed, unprinted, printed_on, ended, printing, Print, by, print_of, printed}

-- the calls that print these lines
abbrev pub printings : Who → List (List ℕ) → List Asked
printings who lines = map (printing who) lines

-- they are made in turn
pub prints_made : {who : Who} {lines : List (List ℕ)} {result : Result (Unit {0}) OutsideFault} {old new : Option History}
    → PrintsInTurn who lines result old new → MadeInTurn (printings who lines) result old new
prints_made all_printed = finished
prints_made unprinted = unbegun
prints_made (printed_on one told rest) = went_on (Ok tt) tt told (prints_made rest)
prints_made (ended given one ends told) = ended_so given ends told

-- one line is said, and the answer tells how that ended
pub said_line : {who : Who} {line : List ℕ} {old new : Option History} (given : Result (Unit {0}) CallFault)
    (result : Result (Unit {0}) OutsideFault) → IsTrue (is_one_line line)
    → Adds old new (Calls (printing who line) (answered plain given))
    → MatchResult result (λ value. given ≡ Ok value) (λ fault. Ends Say given fault)
    → PrintsInTurn who (line ∷ []) result old new
said_line {who} {line} {old} {new} given (Ok tt) one told is =
    printed_on one (subst (λ (x : Result (Unit {0}) CallFault). Adds old new (Calls (printing who line) (answered plain x))) is told)
    all_printed
said_line given (Err fault) one told ends = ended given one ends told

-- ---- joining

-- the first lines and then the rest
pub prints_then : {who : Who} {line : List ℕ} {lines : List (List ℕ)} {result : Result (Unit {0}) OutsideFault} {old mid new : Option History}
    → PrintsInTurn who (line ∷ []) (Ok tt) old mid → PrintsInTurn who lines result mid new
    → PrintsInTurn who (line ∷ lines) result old new
prints_then (printed_on one told all_printed) rest = printed_on one told rest

-- behind a line whose printing ended the work nothing follows
pub prints_ended : {who : Who} {line : List ℕ} (lines : List (List ℕ)) {fault : OutsideFault} {old new : Option History}
    → PrintsInTurn who (line ∷ []) (Err fault) old new → PrintsInTurn who (line ∷ lines) (Err fault) old new
prints_ended lines unprinted = unprinted
prints_ended lines (printed_on one told unprinted) = printed_on one told unprinted
prints_ended lines (ended given one ends told) = ended given one ends told

-- ---- what was printed

-- the acts of two stretches, the second one being the newer
pub acts_then : (b a : History) → own_acts (b ++ a) ≡ own_acts b ++ own_acts a
acts_then [] a = refl
acts_then (step ∷ b) a = go step.own refl (acts_then b a)
  where
    go : (own : Bool) → step.own ≡ own → own_acts (b ++ a) ≡ own_acts b ++ own_acts a
        → own_acts (step ∷ (b ++ a)) ≡ own_acts (step ∷ b) ++ own_acts a
    go true e rest = rw e (ap (λ (acts : List Act). step.act ∷ acts) rest)
    go false e rest = rw e rest

pub printed_then : (b a : List Act) → printed (b ++ a) ≡ printed a ++ printed b
printed_then [] a = sym (append-nil (printed a))
printed_then (act ∷ b) a =
    ap (λ (p : List Print). p ++ print_of act.who (deed act) act.answer) (printed_then b a)
    ∙ append_assoc (printed a) (printed b) (print_of act.who (deed act) act.answer)

-- what was printed in two stretches
pub prints_join : (b a : History) → printed (own_acts (b ++ a)) ≡ printed (own_acts a) ++ printed (own_acts b)
prints_join b a = ap printed (acts_then b a) ∙ printed_then (own_acts b) (own_acts a)

pub theirs_silent : (added history : History) → Every IsTheirs added history → own_acts added ≡ []
theirs_silent [] history theirs = refl
theirs_silent (step ∷ added) history theirs = rw theirs.1.0 (theirs_silent added history theirs.0)

one_printed : (who : Who) (line : List ℕ) (added history : History)
    → Calls (printing who line) (Ok (plain {T = Unit {0}} tt)) added history → printed (own_acts added) ≡ by who line ∷ []
one_printed who line added history calls =
    let acted : Acted (printing who line) (plain {T = Unit {0}} tt) added history = ran (Ok (plain {T = Unit {0}} tt)) (λ e. cc) calls in
    ap (λ (a : History). printed (own_acts a)) acted.added_is
    ∙ ap (λ (acts : List Act). printed acts ++ by who line ∷ []) (theirs_silent acted.others history acted.theirs)

-- where all were printed, just these lines were
abbrev pub Printed : Who → List (List ℕ) → History → History → Type 0
Printed who lines added history = printed (own_acts added) ≡ map (by who) lines

all_told : {who : Who} {lines : List (List ℕ)} {result : Result (Unit {0}) OutsideFault} {old new : Option History}
    → PrintsInTurn who lines result old new → result ≡ Ok tt → Adds old new (Printed who lines)
all_told {who = who} all_printed is = adds_none _ (Printed who []) (λ history. refl)
all_told unprinted is = absurd (cc)
all_told {who = who} {lines = lines} (printed_on {line = line} {lines = rest} one told more) is =
    adds_then (Printed who (line ∷ rest)) told (all_told more is)
    (λ a b history calls p. prints_join b a ∙ (ap (λ (x : List Print). x ++ printed (own_acts b)) (one_printed who line a history calls) ∙ ap (λ (x : List Print). by who line ∷ x) p))
all_told (ended given one ends told) is = absurd (cc)

pub prints_told : {who : Who} {lines : List (List ℕ)} {old new : Option History}
    → PrintsInTurn who lines (Ok tt) old new → Adds old new (Printed who lines)
prints_told prints = all_told prints refl

-- ---- that the site wasn't stopped

one_runs : (who : Who) (line : List ℕ) (added history : History)
    → Calls (printing who line) (Ok (plain {T = Unit {0}} tt)) added history → is_stopped (added ++ history) ≡ false
one_runs who line added history calls =
    let acted : Acted (printing who line) (plain {T = Unit {0}} tt) added history = ran (Ok (plain {T = Unit {0}} tt)) (λ e. cc) calls in
    subst (λ (a : History). is_stopped (a ++ history) ≡ false) (sym acted.added_is) refl

abbrev GoesOn : History → History → Type 0
GoesOn added history = is_stopped history ≡ false → is_stopped (added ++ history) ≡ false

rest_runs : {who : Who} {lines : List (List ℕ)} {result : Result (Unit {0}) OutsideFault} {old new : Option History}
    → PrintsInTurn who lines result old new → result ≡ Ok tt → Adds old new GoesOn
rest_runs all_printed is = adds_none _ GoesOn (λ history runs. runs)
rest_runs unprinted is = absurd (cc)
rest_runs {who = who} (printed_on {line = line} one told more) is =
    adds_then GoesOn told (rest_runs more is)
    (λ a b history calls p runs. subst (λ (h : History). is_stopped h ≡ false) (sym (append_assoc b a history)) (p (one_runs who line a history calls)))
rest_runs (ended given one ends told) is = absurd (cc)

all_run : {who : Who} {line : List ℕ} {lines : List (List ℕ)} {result : Result (Unit {0}) OutsideFault} {old new : Option History}
    → PrintsInTurn who (line ∷ lines) result old new → result ≡ Ok tt → Adds old new (λ added history. is_stopped (added ++ history) ≡ false)
all_run unprinted is = absurd (cc)
all_run {who = who} {line = line} (printed_on one told more) is =
    adds_then (λ added history. is_stopped (added ++ history) ≡ false) told (rest_runs more is)
    (λ a b history calls p. subst (λ (h : History). is_stopped h ≡ false) (sym (append_assoc b a history)) (p (one_runs who line a history calls)))
all_run (ended given one ends told) is = absurd (cc)

-- where all were printed, and there is one, it wasn't
pub prints_run : {who : Who} {line : List ℕ} {lines : List (List ℕ)} {old new : Option History}
    → PrintsInTurn who (line ∷ lines) (Ok tt) old new → Adds old new (λ added history. is_stopped (added ++ history) ≡ false)
prints_run prints = all_run prints refl
