-- Lists of lines that are printed one behind the other.
use Rattle.std.proofs.Common.{◌≡◌, ℕ, ◌+◌, ◌<◌, List, ◌∷◌, ◌++◌, Ok, Err, Option, Result, ap, drop, get_or, length, map}
use Rattle.std.proofs.lemmas.List.{drop_more}
use Rattle.chk_site.specs.declared.acts.Who.{Who}
use Rattle.chk_site.specs.declared.acts.OutsideFault.{OutsideFault}
use Rattle.chk_site.specs.History.{History}
use Rattle.chk_cmd_output.specs.Printing.{PrintsInTurn, all_printed, unprinted, printed_on, ended}

-- the first lines and then the rest
pub all_then : {who : Who} {lines more : List (List ℕ)} {given : Result (Unit {0}) OutsideFault}
    {result : Result (Unit {0}) OutsideFault} {old mid new : Option History} → given ≡ Ok tt
    → PrintsInTurn who lines given old mid → PrintsInTurn who more result mid new
    → PrintsInTurn who (lines ++ more) result old new
all_then is all_printed rest = rest
all_then is unprinted rest = absurd (cc)
all_then is (printed_on one told more) rest = printed_on one told (all_then is more rest)
all_then is (ended given one ends told) rest = absurd (cc)

-- behind one whose printing ended the work nothing follows
pub all_ended : {who : Who} {lines : List (List ℕ)} (more : List (List ℕ)) {fault : OutsideFault}
    {given : Result (Unit {0}) OutsideFault} {old new : Option History} → given ≡ Err fault
    → PrintsInTurn who lines given old new → PrintsInTurn who (lines ++ more) given old new
all_ended more is all_printed = absurd (cc)
all_ended more is unprinted = unprinted
all_ended more is (printed_on one told rest) = printed_on one told (all_ended more is rest)
all_ended more is (ended given one ends told) = ended given one ends told

-- the next one of some texts, and those behind it
pub next_line : {X : Type 0} (f : X → List ℕ) (xs : List X) (i : ℕ) (d : X) → i < length xs
    → map f (drop i xs) ≡ f (get_or xs i d) ∷ map f (drop (i + 1) xs)
next_line f xs i d low = ap (map f) (drop_more xs i d low)
