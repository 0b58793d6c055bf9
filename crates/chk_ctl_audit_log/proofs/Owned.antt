-- Reads of a log are steps of the one who looks.
use Rattle.std.proofs.Common.{◌≡◌, inl, inr, ℕ, List, [], ◌∷◌, Option, Result, refl}
use Rattle.std.proofs.Common.{Ok}
use Rattle.chk_site.specs.declared.acts.ActAnswer.{ActAnswer}
use Rattle.chk_site.specs.declared.acts.Call.TheVariants.{LogRead}
use Rattle.chk_site.specs.declared.acts.CallFault.{CallFault}
use Rattle.chk_site.specs.declared.acts.OutsideFault.{OutsideFault}
use Rattle.chk_site.specs.declared.acts.Who.{Who}
use Rattle.chk_site.specs.History.{History, Every}
use Rattle.chk_site.specs.Logs.{part_of}
use Rattle.chk_site.specs.Site.{Adds, asked, answered, piece_given, Calls}
use Rattle.chk_site.proofs.Runs.{adds_as, adds_then, every_join}
use Rattle.chk_replace.proofs.CallSteps.{call_each}
use Rattle.chk_tail.specs.declared.step.Step.{Step}
use Rattle.chk_tail.specs.Taking.{asks_at}
use Rattle.chk_tail.specs.Walks.{Spot, Way, Walks, decided, walked, unkept, part, in_file}
use Rattle.chk_rotate.specs.Readers.{Reader, Stepped}
use Rattle.chk_world.specs.JobSteps.{IsOf}
use Rattle.chk_world.specs.Sight.{job}
use Rattle.chk_ctl_audit_log.specs.Placing.{ReadsLogOf, reads}

pub read_own : (who : Who) (path word : List ℕ) (at max : ℕ) (given : Result ActAnswer CallFault)
    {old new : Option History} → who ≡ job
    → Adds old new (Calls (asked who LogRead (path ∷ word ∷ []) at max) given)
    → Adds old new (Every (IsOf (ReadsLogOf path)))
read_own who path word at max given is told =
    adds_as (Every (IsOf (ReadsLogOf path))) told
    (λ added history calls.
    call_each (IsOf (ReadsLogOf path)) given (λ before step theirs. inl theirs)
    (λ before answer files logs running honest.
    inr (
      record { own = refl; running = running; honest = honest; by = is },
      reads (part_of word) at max,
    ))
    calls)

pub own_then : (path : List ℕ) {old mid new : Option History}
    → Adds old mid (Every (IsOf (ReadsLogOf path))) → Adds mid new (Every (IsOf (ReadsLogOf path)))
    → Adds old new (Every (IsOf (ReadsLogOf path)))
own_then path p q =
    adds_then (Every (IsOf (ReadsLogOf path))) p q
    (λ a b h x y. every_join (IsOf (ReadsLogOf path)) b a h x y)

walks_own : (way : Way) → way.who ≡ job → {result : Result Step OutsideFault} {next p : Spot}
    {marks : List Spot} {old new : Option History} → Walks way result next p marks old new
    → Adds old new (Every (IsOf (ReadsLogOf way.path)))
walks_own way is (decided {p = p} given told d) =
    read_own way.who way.path (part way.rotated p.after) (in_file p) (asks_at p.offset)
    (answered piece_given given) is told
walks_own way is (walked {p = p} piece suffix ended ends none told rest) =
    own_then way.path
    (read_own way.who way.path (part way.rotated p.after) (in_file p) (asks_at p.offset)
    (answered piece_given (Ok piece)) is told)
    (walks_own way is rest)
walks_own way is (unkept {p = p} piece some told r place) =
    read_own way.who way.path (part way.rotated p.after) (in_file p) (asks_at p.offset)
    (answered piece_given (Ok piece)) is told

-- a step of a reader makes no other call
pub stepped_own : (who : Who) (old new : Reader) (result : Result Step OutsideFault)
    {before after : Option History} → who ≡ job → Stepped who old result new before after
    → Adds before after (Every (IsOf (ReadsLogOf old.path)))
stepped_own who old new result is s = walks_own _ is s.walks
