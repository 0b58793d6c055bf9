-- What a turn leaves.
use Rattle.std.proofs.Common.{◌≡◌, ℕ, ◌<◌, ◌≤◌, true, false, List, Option, Some, None, Result, Ok, Err, sym, subst, refl, ◌∙◌, arith}
use Rattle.std.specs.Prelude.{OnOk}
use Rattle.chk_site.specs.declared.acts.Who.{Who}
use Rattle.chk_site.specs.History.{History}
use Rattle.chk_wahead.specs.declared.fault.WaheadFault.{WaheadFault}
use Rattle.chk_wahead.specs.States.{State, Held, all_marked, length_of}
use Rattle.chk_cmd_udp.specs.declared.tally.Tally.{Tally}
use Rattle.chk_cmd_udp.specs.Turns.{Settles, uncommitted, kept, closed, IsTurn, IsTidy}
use Rattle.chk_cmd_udp.proofs.Keeping.{IsSame, done_same, done_held, then_same}
use Rattle.chk_cmd_udp.proofs.Gathering.{gathers_same}

pub settles_same : {rotate : ℕ} {s u : State} {result : Result (Unit {0}) WaheadFault}
    {old new : Option History}
    → Settles rotate s old result u new → IsSame result s u
settles_same (uncommitted fault did) = done_same did
settles_same (kept did short) = done_same did
settles_same (closed did long shut) = then_same refl (done_same did) (done_same shut)

tidy_marked : (rotate : ℕ) (held : Option Held) → length_of (all_marked held) < rotate
    → IsTidy rotate (all_marked held)
tidy_marked rotate None short = tt
tidy_marked rotate (Some h) short = (refl, short)

pub settles_tidy : {rotate : ℕ} {s u : State} {result : Result (Unit {0}) WaheadFault}
    {old new : Option History} → result ≡ Ok tt
    → Settles rotate s old result u new → IsTidy rotate u.held
settles_tidy is (uncommitted fault did) = absurd (cc)
settles_tidy {rotate = rotate} {s = s} is (kept did short) =
    let e = done_held did refl in
    subst (λ (h : Option Held). IsTidy rotate h) (sym e)
    (tidy_marked rotate s.held (subst (λ (h : Option Held). length_of h < rotate) e short))
settles_tidy {rotate = rotate} is (closed did long shut) = subst
    (λ (h : Option Held). IsTidy rotate h) (sym (done_held shut is)) tt

pub turn_same : {who : Who} {door : List ℕ} {rotate messages : ℕ} {s u : State} {t w : Tally}
    {result : Result (Unit {0}) WaheadFault}
    {old new : Option History} → IsTurn who door rotate messages s t old result u w new
    → IsSame result s u
turn_same (IsTurn.ungathered fault taken) = let g = gathers_same taken in record
    { who = g.0; ready = λ is. absurd (cc) }
turn_same (IsTurn.silent taken shut) =
    let g = gathers_same taken in
    let two = done_same shut in
    record { who = two.who ∙ g.0; ready = λ is. two.ready is ∙ g.1 false refl }
turn_same (IsTurn.heard taken settled) =
    let g = gathers_same taken in
    let two = settles_same settled in
    record { who = two.who ∙ g.0; ready = λ is. two.ready is ∙ g.1 true refl }

pub turn_tidy : {who : Who} {door : List ℕ} {rotate messages : ℕ} {s u : State} {t w : Tally}
    {result : Result (Unit {0}) WaheadFault}
    {old new : Option History} → result ≡ Ok tt
    → IsTurn who door rotate messages s t old result u w new → IsTidy rotate u.held
turn_tidy is (IsTurn.ungathered fault taken) = absurd (cc)
turn_tidy {rotate = rotate} is (IsTurn.silent taken shut) = subst
    (λ (h : Option Held). IsTidy rotate h) (sym (done_held shut is)) tt
turn_tidy is (IsTurn.heard taken settled) = settles_tidy is settled

-- a tidy buffer is shorter than 2^63
pub tidy_small : (rotate limit : ℕ) (held : Option Held) → rotate ≤ limit → 0 < limit
    → IsTidy rotate held → length_of held < limit
tidy_small rotate limit None low some tidy = some
tidy_small rotate limit (Some h) low some tidy = omega (arith, low, tidy.1)

-- the same by the result
pub settles_on : {rotate : ℕ} {s u : State} (result : Result (Unit {0}) WaheadFault)
    {old new : Option History} → Settles rotate s old result u new
    → OnOk result (IsTidy rotate u.held)
settles_on (Ok value) settled = settles_tidy refl settled
settles_on (Err fault) settled = tt
