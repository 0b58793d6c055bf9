-- Where a read of a step failed, it was the last act.
use Rattle.std.proofs.Common.{◌≡◌, inl, inr, List, Option, Result, Ok, Err, sym, subst}
use Rattle.chk_site.specs.declared.acts.CallFault.{CallFault}
use Rattle.chk_site.specs.declared.acts.CallFault.TheVariants.{Failed, Missing, Exists}
use Rattle.chk_site.specs.declared.acts.CallFault.TheVariants.{Short, NoMemory}
use Rattle.chk_site.specs.declared.acts.OutsideFault.{OutsideFault}
use Rattle.chk_site.specs.declared.suffixes.Piece.{Piece}
use Rattle.chk_site.specs.History.{History}
use Rattle.chk_site.specs.Site.{Adds, answered, Calls, LastFailed, piece_given}
use Rattle.chk_site.proofs.Runs.{adds_as, adds_then}
use Rattle.chk_site.proofs.LastCalls.{ended_last, last_of_both}
use Rattle.chk_tail.specs.declared.step.Step.{Step}
use Rattle.chk_tail.specs.Walks.{Spot, Way, reading, Decides, Walks, decided, walked, unkept}

gave_last : (result : Result Step OutsideFault) (step : Step) (added history : History)
    → result ≡ Ok step → LastFailed result added history
gave_last result step added history is =
    subst (λ (r : Result Step OutsideFault). LastFailed r added history) (sym is) tt

decided_last : (way : Way) (p next : Spot) (given : Result Piece CallFault)
    (result : Result Step OutsideFault) (added history : History)
    → Decides way p given result next
    → Calls (reading way p) (answered piece_given given) added history
    → LastFailed result added history
decided_last way p next (Ok piece) result added history (ends, inl took) calls =
    gave_last result _ added history took.1
decided_last way p next (Ok piece) result added history (ends, inr none) calls =
    gave_last result _ added history none.2
decided_last way p next (Err (Short size)) result added history d calls =
    gave_last result _ added history d.0
decided_last way p next (Err Failed) (Ok step) added history d calls = tt
decided_last way p next (Err Missing) (Ok step) added history d calls = tt
decided_last way p next (Err Exists) (Ok step) added history d calls = tt
decided_last way p next (Err NoMemory) (Ok step) added history d calls = tt
decided_last way p next (Err Failed) (Err fault) added history d calls =
    ended_last Step piece_given (Err Failed) fault d.0 calls
decided_last way p next (Err NoMemory) (Err fault) added history d calls =
    ended_last Step piece_given (Err NoMemory) fault d.0 calls
decided_last way p next (Err Missing) (Err fault) added history d calls = absurd d.0
decided_last way p next (Err Exists) (Err fault) added history d calls = absurd d.0

-- the failure of a step comes last
pub walk_last : {way : Way} {result : Result Step OutsideFault} {next p : Spot} {marks : List Spot}
    {old new : Option History} → Walks way result next p marks old new
    → Adds old new (LastFailed result)
walk_last {way = way} {result = result} {next = next} (decided {p = p} given told d) =
    adds_as (LastFailed result) told
    (λ a h calls. decided_last way p next given result a h d calls)
walk_last {result = result} (walked piece suffix ended ends none told rest) =
    adds_then (LastFailed result) told (walk_last rest) (λ a b h x y. last_of_both result b a h y)
walk_last {result = result} (unkept piece some told is next_is) =
    adds_as (LastFailed result) told
    (λ a h calls. subst (λ (r : Result Step OutsideFault). LastFailed r a h) (sym is) tt)
