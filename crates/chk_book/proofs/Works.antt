-- Own calls, one stretch behind the other.
use Rattle.std.proofs.Common.{inl, inr, List, [], ◌∷◌, Option, Ok, Err, Result}
use Rattle.chk_site.specs.Acts.{Deed, deed}
use Rattle.chk_site.specs.History.{History, Every}
use Rattle.chk_site.specs.Site.{Adds}
use Rattle.chk_site.proofs.Runs.{adds_as, adds_both, adds_none}
use Rattle.chk_world.specs.JobSteps.{IsOf}
use Rattle.chk_record_index.specs.Faults.{FailsLast, Worked}
use Rattle.chk_record_index.specs.Pieces.{AsksInPieces}
use Rattle.chk_record_index.specs.declared.fault.JobFault.{JobFault}
use Rattle.chk_record_index.proofs.Gathering.{every_then}
use Rattle.chk_book.proofs.Added.{fails_as, fails_later}

pub worked : {T : Type 0} (K : Deed → Type 0) (r : Result T JobFault) {old new : Option History}
    → Adds old new (Every (IsOf K)) → Adds old new (Every AsksInPieces) → Adds old new (FailsLast r)
    → Adds old new (Worked K r)
worked K r own pieces last =
    adds_both (Worked K r)
    (adds_both (λ added history. Every (IsOf K) added history × Every AsksInPieces added history) own pieces
    (λ added history a b. (a, b))) last
    (λ added history a b. record { own = a.0; pieces = a.1; last = b })

pub own_of : {T : Type 0} (K : Deed → Type 0) (r : Result T JobFault) {old new : Option History}
    → Adds old new (Worked K r) → Adds old new (Every (IsOf K))
own_of K r told = adds_as (Every (IsOf K)) told (λ added history w. w.own)

pub pieces_of : {T : Type 0} (K : Deed → Type 0) (r : Result T JobFault) {old new : Option History}
    → Adds old new (Worked K r) → Adds old new (Every AsksInPieces)
pieces_of K r told = adds_as (Every AsksInPieces) told (λ added history w. w.pieces)

pub last_of : {T : Type 0} (K : Deed → Type 0) (r : Result T JobFault) {old new : Option History}
    → Adds old new (Worked K r) → Adds old new (FailsLast r)
last_of K r told = adds_as (FailsLast r) told (λ added history w. w.last)

pub works_then : {T U : Type 0} (K : Deed → Type 0) (s : Result T JobFault) (r : Result U JobFault)
    {old mid new : Option History} → Adds old mid (Worked K s) → Adds mid new (Worked K r) → Adds old new (Worked K r)
works_then K s r first second =
    worked K r (every_then (IsOf K) (own_of K s first) (own_of K r second))
    (every_then AsksInPieces (pieces_of K s first) (pieces_of K r second))
    (fails_later r first (last_of K r second))

pub works_none : {T : Type 0} (K : Deed → Type 0) (value : T) (now : Option History) → Adds now now (Worked {T = T} K (Ok value))
works_none K value now = adds_none now (Worked K (Ok value)) (λ history. record { own = tt; pieces = tt; last = tt })

-- steps of one kind are of a wider one
pub as_kind : (K M : Deed → Type 0) → ((call : Deed) → K call → M call) → {old new : Option History}
    → Adds old new (Every (IsOf K)) → Adds old new (Every (IsOf M))
as_kind K M wider own = adds_as (Every (IsOf M)) own (λ added history made. go added history made)
  where
    go : (added history : History) → Every (IsOf K) added history → Every (IsOf M) added history
    go [] history made = tt
    go (step ∷ added) history made = (
      go added history made.0,
      elim made.1 [
        | inl theirs ↦ inl theirs
        | inr mine ↦ inr (mine.0, wider (deed step.act) mine.1)
      ],
    )

-- a refusal behind other calls
pub refused_later : (T U : Type 0) {P : History → History → Type 0} (fault : JobFault)
    {old mid new : Option History} → Adds old mid P → Adds mid new (FailsLast {T = U} (Err fault))
    → Adds old new (FailsLast {T = T} (Err fault))
refused_later T U fault first second = fails_later {T = T} (Err fault) first
    (fails_as T U fault second)
