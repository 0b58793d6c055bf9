-- The suffixes of the places that a reader keeps.
use Rattle.std.proofs.Common.{ℕ, zero, suc, Bool, true, false, List, [], ◌∷◌, ◌++◌, take, Option}
use Rattle.std.proofs.Common.{Some, None, Result, Ok, Err, refl, if◌then◌else◌, nat_le}
use Rattle.std.specs.Prelude.{IsTrue}
use Rattle.chk_site.specs.declared.acts.CallFault.{CallFault}
use Rattle.chk_site.specs.declared.acts.OutsideFault.{OutsideFault}
use Rattle.chk_site.specs.declared.suffixes.Piece.{Piece}
use Rattle.chk_site.specs.History.{History}
use Rattle.chk_tail.specs.declared.step.Step.{Step}
use Rattle.chk_tail.specs.Taking.{taken_of}
use Rattle.chk_tail.specs.Walks.{Spot, Way, EndsAfter, mark_behind, given_marks, Decides}
use Rattle.chk_tail.specs.Walks.{Walks, decided, walked, unkept}
use Rattle.chk_rotate.specs.Marks.{forgotten, kept_to, newest_at}
use Rattle.chk_rotate.specs.Readers.{Reader, stepped}
use Rattle.chk_world.specs.Checkpoints.{is_after_text}
use Rattle.chk_agent_adaptor.specs.Fields.{AreNamed}
use Rattle.chk_rotate.proofs.MarkLemmas.{either}

pub named_forgotten : (o : ℕ) (marks : List Spot) → AreNamed marks → AreNamed (forgotten o marks)
named_forgotten o [] named = tt
named_forgotten o (m ∷ []) named = named
named_forgotten o (m ∷ n ∷ marks) named =
    either AreNamed (nat_le n.first o) (named_forgotten o (n ∷ marks) named.1) named

pub named_kept : (o : ℕ) (marks : List Spot) → AreNamed marks → AreNamed (kept_to o marks)
named_kept o [] named = tt
named_kept o (m ∷ marks) named =
    let rest = named_kept o marks named.1 in
    either AreNamed (nat_le m.first o) (named.0, rest) rest

pub named_front : (k : ℕ) (marks : List Spot) → AreNamed marks → AreNamed (take k marks)
named_front zero marks named = tt
named_front (suc k) [] named = tt
named_front (suc k) (m ∷ marks) named = (named.0, named_front k marks named.1)

named_both : (marks more : List Spot) → AreNamed marks → AreNamed more → AreNamed (marks ++ more)
named_both [] more named later = later
named_both (m ∷ marks) more named later = (named.0, named_both marks more named.1 later)

-- the newest one
pub newest_named : (marks : List Spot) (o : ℕ) → AreNamed marks
    → IsTrue (is_after_text (newest_at marks o).after)
newest_named [] o named = refl
newest_named (m ∷ []) o named = named.0
newest_named (m ∷ n ∷ marks) o named = newest_named (n ∷ marks) o named.1

-- ---- those of a step

ended_named : (way : Way) (p : Spot) (ended : Option (List ℕ)) (n : ℕ) → EndsAfter way p ended
    → AreNamed (mark_behind p ended n)
ended_named way p None n ends = tt
ended_named way p (Some suffix) n ends = (ends.1, tt)

given_named : (way : Way) (p next : Spot) (given : Result Piece CallFault)
    (result : Result Step OutsideFault)
    → Decides way p given result next → AreNamed (given_marks way.lines p given)
given_named way p next (Ok piece) result d =
    ended_named way p piece.ended (taken_of way.lines piece) d.0
given_named way p next (Err fault) result d = tt

pub walk_named : (way : Way) (result : Result Step OutsideFault) (next p : Spot)
    (marks : List Spot) {old new : Option History}
    → Walks way result next p marks old new → AreNamed marks
walk_named way result next p marks (decided given told d) = given_named way p next given result d
walk_named way result next p marks
    (walked {marks = later} piece suffix ended ends none told rest) =
    (ends.1, walk_named way result next _ later rest)
walk_named way result next p marks (unkept piece some told is next_is) = tt

pub named_stepped : (marks : List Spot) (next : Spot) (result : Result Step OutsideFault)
    (r : Reader) → AreNamed marks → AreNamed r.marks
    → AreNamed (stepped marks next result r).marks
named_stepped marks next (Ok step) r more named = named_both r.marks marks named more
named_stepped marks next (Err fault) r more named = named
