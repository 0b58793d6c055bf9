-- Prints of several lines, one stretch after the other.
use Rattle.std.proofs.Common.{ℕ, List, ◌++◌, Ok, Err, Option, Result}
use Rattle.chk_site.specs.declared.acts.Who.{Who}
use Rattle.chk_site.specs.declared.acts.OutsideFault.{OutsideFault}
use Rattle.chk_site.specs.History.{History}
use Rattle.chk_cmd_output.specs.Printing.{PrintsInTurn, all_printed, unprinted, printed_on, ended}

-- all of the first lines, and then further ones
pub prints_on : {who : Who} {first more : List (List ℕ)} {result : Result (Unit {0}) OutsideFault} {old mid new : Option History}
    → PrintsInTurn who first (Ok tt) old mid → PrintsInTurn who more result mid new → PrintsInTurn who (first ++ more) result old new
prints_on all_printed rest = rest
prints_on (printed_on one told later) rest = printed_on one told (prints_on later rest)

-- behind lines of which one ended the work nothing follows
pub prints_cut : {who : Who} {first : List (List ℕ)} (more : List (List ℕ)) {fault : OutsideFault} {old new : Option History}
    → PrintsInTurn who first (Err fault) old new → PrintsInTurn who (first ++ more) (Err fault) old new
prints_cut more unprinted = unprinted
prints_cut more (printed_on one told later) = printed_on one told (prints_cut more later)
prints_cut more (ended given one ends told) = ended given one ends told
