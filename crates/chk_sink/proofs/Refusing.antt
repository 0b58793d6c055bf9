-- What a refused tick leaves.
use Rattle.std.proofs.Common.{◌≡◌, inr, Bool, true, false, ◌||◌, Option, Some, None, option_map, Result, Ok, Err, ap, subst, refl, ◌∙◌, is_some}
use Rattle.std.specs.Prelude.{IfErr, OnOk, OnErr}
use Rattle.chk_site.specs.Acts.{Deed}
use Rattle.chk_site.specs.declared.acts.Who.{Who}
use Rattle.chk_site.specs.History.{History}
use Rattle.chk_site.specs.Site.{Adds}
use Rattle.chk_world.specs.Works.{Works, rests, NoneFailed}
use Rattle.chk_world.proofs.Working.{works_fine}
use Rattle.chk_sink.specs.declared.fault.SinkFault.{SinkFault}
use Rattle.chk_sink.specs.Faults.{IsOutside, ended_by}
use Rattle.chk_sink.specs.States.{State, Writing, process, let_go, given_up, all_marked, committed_state, settled_state}
use Rattle.chk_sink.specs.Works.{OfSettling, OfClose, IsLetGo, LeavesAfterTick}
use Rattle.chk_sink.proofs.Owning.{Made}
use Rattle.chk_sink.proofs.Owned.{settled_works}

or_true : (b : Bool) → (b || true) ≡ true
or_true true = refl
or_true false = refl

given : (s : State) (b : Bool) → b ≡ true → (let n : State = record { collector = s.collector; born = s.born; number = s.number; rotate = s.rotate; current = None; abandoned = b } in n) ≡ given_up s
given s b e = λ i. record { collector = s.collector; born = s.born; number = s.number; rotate = s.rotate; current = None; abandoned = e i }

-- the commit was refused
pub commit_leaves : (s st : State) → is_some s.current ≡ true → st ≡ let_go s → IsLetGo s st
commit_leaves s st some e =
    record { written = some; given_up = e ∙ given s (s.abandoned || is_some s.current) (ap (λ b. s.abandoned || b) some ∙ or_true s.abandoned) }

marked_some : (o : Option Writing) → is_some (option_map all_marked o) ≡ is_some o
marked_some None = refl
marked_some (Some o) = refl

-- the close was refused
pub close_leaves : (s mid st : State) (result : Result (Unit {0}) SinkFault) → is_some s.current ≡ true → mid ≡ committed_state s
    → OnErr result (st ≡ let_go mid) → IfErr result (λ fault. IsLetGo s st)
close_leaves s mid st (Ok value) some e gone = tt
close_leaves s mid st (Err fault) some e gone =
    let flag : (s.abandoned || is_some (option_map all_marked s.current)) ≡ true =
    ap (λ b. s.abandoned || b) (marked_some s.current ∙ some) ∙ or_true s.abandoned in
    record { written = some; given_up = gone ∙ (ap let_go e ∙ given s (s.abandoned || is_some (option_map all_marked s.current)) flag) }

-- nothing was left to settle
pub unsettled_leaves : (s st : State) (result : Result (Unit {0}) SinkFault) {old new : Option History} → IfErr result IsOutside
    → IfErr result (λ fault. IsLetGo s st) → Works (process s) (OfClose s) (ended_by result) old new
    → IfErr result (λ fault. LeavesAfterTick s st fault old new)
unsettled_leaves s st (Ok value) only gone own = tt
unsettled_leaves s st (Err fault) {old = old} only gone own =
    inr (record { outside = only; let_go = gone; settled = old; settling = rests; own = own })

-- what was left was settled
pub settled_leaves : (s mid st : State) (result : Result (Unit {0}) SinkFault) {old more new : Option History} → mid ≡ settled_state s
    → Works (process s) (OfSettling s) None old more → IfErr result IsOutside → IfErr result (λ fault. IsLetGo mid st)
    → Works (process mid) (OfClose mid) (ended_by result) more new → IfErr result (λ fault. LeavesAfterTick s st fault old new)
settled_leaves s mid st (Ok value) e settling only gone own = tt
settled_leaves s mid st (Err fault) {more = more} e settling only gone own =
    let left : IsLetGo (settled_state s) st = subst (λ (m : State). IsLetGo m st) e gone in
    inr
    (record {
      outside = only;
      let_go = record { written = left.written; given_up = left.given_up };
      settled = more;
      settling = settling;
      own = settled_works s mid e own;
    })

-- where a tick was done, no call failed
pub ok_fine : {who : Who} {P : Deed → Type 0} (result : Result (Unit {0}) SinkFault) {old new : Option History} → Made who P result old new
    → OnOk result (Adds old new NoneFailed)
ok_fine (Ok value) own = works_fine own
ok_fine (Err fault) own = tt
