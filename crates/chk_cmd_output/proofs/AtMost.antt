-- A print of one line prints that line, or nothing.
use Rattle.std.proofs.Common.{◌≡◌, ◌⊎◌, inl, inr, ℕ, Bool, true, false, List, [], ◌∷◌, ◌++◌, Ok, Err, Option, Result, refl, sym, ap, subst}
use Rattle.chk_site.specs.declared.acts.Who.{Who}
use Rattle.chk_site.specs.declared.acts.Call.TheVariants.{Say}
use Rattle.chk_site.specs.declared.acts.CallFault.{CallFault}
use Rattle.chk_site.specs.declared.acts.CallFault.TheVariants.{Failed, Missing, Exists, Short, NoMemory}
use Rattle.chk_site.specs.declared.acts.OutsideFault.{OutsideFault}
use Rattle.chk_site.specs.History.{History, Every, IsTheirs, is_stopped}
use Rattle.chk_site.specs.Site.{Adds, Added, Calls, Ends, answered, plain}
use Rattle.chk_site.specs.Runs.{own_acts}
use Rattle.chk_site.proofs.Runs.{adds_as, adds_none}
use Rattle.chk_cmd_output.specs.Printing.{PrintsInTurn, unprinted, all_printed, printed_on, ended, printing, by, printed}
use Rattle.chk_cmd_output.proofs.Printed.{prints_told}

others_silent : (added history : History) → Every IsTheirs added history → printed (own_acts added) ≡ []
others_silent [] history theirs = refl
others_silent (step ∷ added) history theirs = rw theirs.1.0 (others_silent added history theirs.0)

-- a print that wasn't done printed nothing
failed_silent : (who : Who) (line : List ℕ) (given : Result (Unit {0}) CallFault) (fault : OutsideFault) → Ends Say given fault
    → (added history : History) → Calls (printing who line) (answered plain given) added history → printed (own_acts added) ≡ []
failed_silent who line given fault ends added history calls = by_stop (is_stopped history) refl
  where
    silent : (given : Result (Unit {0}) CallFault) → Ends Say given fault
        → Added (printing who line) (answered plain given) added history → printed (own_acts added) ≡ []
    silent (Ok value) ends theirs = absurd ends
    silent (Err Missing) ends theirs = absurd ends
    silent (Err Exists) ends theirs = absurd ends
    silent (Err (Short size)) ends theirs = absurd ends
    silent (Err NoMemory) ends theirs = others_silent added history theirs
    silent (Err Failed) ends (inl acted) =
        subst (λ (a : History). printed (own_acts a) ≡ []) (sym acted.added_is)
        (ap (λ l. l ++ []) (others_silent acted.others history acted.theirs))
    silent (Err Failed) ends (inr stopped) =
        subst (λ (a : History). printed (own_acts a) ≡ []) (sym stopped.1.added_is)
        (ap (λ l. l ++ []) (others_silent stopped.1.others history stopped.1.theirs))

    by_stop : (b : Bool) → is_stopped history ≡ b → printed (own_acts added) ≡ []
    by_stop true stop = subst (λ (a : History). printed (own_acts a) ≡ []) (sym (calls.stopped stop).0) refl
    by_stop false runs = silent given ends (calls.running runs)

abbrev pub AtMost : Who → List ℕ → History → History → Type 0
AtMost who line added history = (printed (own_acts added) ≡ []) ⊎ (printed (own_acts added) ≡ by who line ∷ [])

pub at_most : {who : Who} {line : List ℕ} {result : Result (Unit {0}) OutsideFault} {old new : Option History}
    → PrintsInTurn who (line ∷ []) result old new → Adds old new (AtMost who line)
at_most {who = who} {line = line} unprinted = adds_none _ (AtMost who line) (λ history. inl refl)
at_most {who = who} {line = line} (printed_on one told all_printed) =
    adds_as (AtMost who line) (prints_told (printed_on one told all_printed)) (λ added history is. inr is)
at_most {who = who} {line = line} (printed_on one told unprinted) =
    adds_as (AtMost who line) (prints_told (printed_on one told all_printed)) (λ added history is. inr is)
at_most {who = who} {line = line} (ended {fault = fault} given one ends told) =
    adds_as (AtMost who line) told (λ added history calls. inl (failed_silent who line given fault ends added history calls))
