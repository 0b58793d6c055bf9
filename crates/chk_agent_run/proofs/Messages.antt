-- A control message is read piece by piece.
use Rattle.std.proofs.Common.{◌≡◌, ℕ, ◌≤◌, ◌<◌, true, false, List, [], ◌∷◌, ◌++◌, length, Option, Some, None, Result, Ok, Err, ap, sym, subst, ◌∙◌, ◌-◌, refl, arith}
use Rattle.std.specs.Prelude.{min}
use Rattle.std.proofs.lemmas.List.{length-take, length-append}
use Rattle.chk_site.specs.declared.acts.Who.{Who}
use Rattle.chk_site.specs.declared.acts.CallFault.{CallFault}
use Rattle.chk_site.specs.declared.acts.CallFault.TheVariants.{Failed, Missing, Exists, Short, NoMemory as site_wanting}
use Rattle.chk_site.specs.History.{History}
use Rattle.chk_site.specs.Site.{Adds, answered, bytes_given, Calls}
use Rattle.chk_site.proofs.Leads.{leads_none}
use Rattle.chk_agent.specs.declared.answers.AgentFault.{AgentFault}
use Rattle.chk_agent.specs.declared.answers.AgentFault.TheVariants.{NoMemory}
use Rattle.chk_agent.specs.States.{State, process}
use Rattle.chk_agent.specs.Fits.{IsSound}
use Rattle.chk_agent.proofs.TurningTold.{TalksOn, same_agent, talks_then}
use Rattle.chk_agent_run.specs.Closing.{is_closed_by, capped, IsOpen, IsPassed}
use Rattle.chk_agent_run.specs.declared.message.Scan.{Scan}
use Rattle.chk_agent_run.specs.declared.message.Scan.TheVariants.{Closed, Open}
use Rattle.chk_agent_run.specs.Messages.{AsksMore, Scanned, Brought, IsRead, closed, long, came, over, broken, ungiven, unkept, wanting}
use Rattle.chk_agent_run.proofs.Carried.{carried_none}
use Rattle.chk_agent_run.proofs.CallsTold.{more_told}
use Rattle.chk_agent_run.proofs.MessageLemmas.{passed_none, passed_more}

-- the pieces of a message leave the agent as it was
pub read_told : (s : State) (who : Who) → who ≡ process s → IsSound s → s.ready ≡ true → (t : ℕ) {bytes : List ℕ}
    {result : Result (Option (List ℕ)) AgentFault} {old new : Option History} → IsRead who t bytes result old new → TalksOn s s old new
read_told s who by sound ready t {old = old} (closed is) = (carried_none s old).talks
read_told s who by sound ready t {old = old} (long is) = (carried_none s old).talks
read_told s who by sound ready t (came piece opened some told rest) =
    talks_then s s s (same_agent s) (more_told s who by sound ready t (Ok piece) told) (read_told s who by sound ready t rest)
read_told s who by sound ready t (over opened told) = more_told s who by sound ready t (Ok []) told
read_told s who by sound ready t (broken opened told) = more_told s who by sound ready t (Err Failed) told
read_told s who by sound ready t (ungiven opened told) = more_told s who by sound ready t (Err site_wanting) told
read_told s who by sound ready t (unkept piece opened told) = more_told s who by sound ready t (Ok piece) told
read_told s who by sound ready t {old = old} wanting = (carried_none s old).talks

-- ---- what a piece is taken for

brought_some : (given : Result (List ℕ) CallFault) (piece : List ℕ) → Brought given (Ok (Some piece)) → given ≡ Ok piece
brought_some (Ok p) piece is = cc
brought_some (Err Failed) piece is = absurd (let z : ⊥ = cc in z)
brought_some (Err site_wanting) piece is = absurd (let z : ⊥ = cc in z)
brought_some (Err Missing) piece is = absurd is
brought_some (Err Exists) piece is = absurd is
brought_some (Err (Short size)) piece is = absurd is

brought_none : (given : Result (List ℕ) CallFault) → Brought given (Ok None) → given ≡ Err Failed
brought_none (Ok p) is = absurd (let z : ⊥ = cc in z)
brought_none (Err Failed) is = refl
brought_none (Err site_wanting) is = absurd (let z : ⊥ = cc in z)
brought_none (Err Missing) is = absurd is
brought_none (Err Exists) is = absurd is
brought_none (Err (Short size)) is = absurd is

brought_fault : (given : Result (List ℕ) CallFault) (fault : AgentFault) → Brought given (Err fault) → given ≡ Err site_wanting
brought_fault (Ok p) fault is = absurd (let z : ⊥ = cc in z)
brought_fault (Err Failed) fault is = absurd (let z : ⊥ = cc in z)
brought_fault (Err site_wanting) fault is = refl
brought_fault (Err Missing) fault is = absurd is
brought_fault (Err Exists) fault is = absurd is
brought_fault (Err (Short size)) fault is = absurd is

-- The pieces so far came; what is left of the message is what is left of all.
pub record CameTo (who : Who) (t : ℕ) (first : List ℕ) (old : Option History) (bytes : List ℕ) (at : ℕ) (mid : Option History) : Type 0 where
  pub passed : IsPassed at bytes
  pub onward : (result : Result (Option (List ℕ)) AgentFault) (new : Option History)
      → IsRead who t bytes result mid new → IsRead who t first result old new

pub came_none : (who : Who) (t : ℕ) (first : List ℕ) (now : Option History) → CameTo who t first now first 0 now
came_none who t first now = record { passed = passed_none first; onward = λ result new read. read }

-- what was found of the whole lines of a text that the message is
pub found_closed : (text bytes : List ℕ) → text ≡ bytes → (scan : Scan) → Scanned text scan → scan ≡ Closed → is_closed_by bytes ≡ true
found_closed text bytes same scan found is =
    subst (λ (b : List ℕ). is_closed_by b ≡ true) same (subst (Scanned text) is found)

pub found_open : (text bytes : List ℕ) → text ≡ bytes → (scan : Scan) → Scanned text scan → (next : ℕ) → scan ≡ Open next
    → IsPassed next bytes × (is_closed_by bytes ≡ false)
found_open text bytes same scan found next is =
    subst (λ (b : List ℕ). IsPassed next b × (is_closed_by b ≡ false)) same (subst (Scanned text) is found)

module _ (who : Who) (t : ℕ) (first : List ℕ) (old : Option History) (bytes : List ℕ) (at : ℕ) (mid : Option History)
    (so_far : CameTo who t first old bytes at mid) where
  pub ends_wanting : IsRead who t first (Err NoMemory) old mid
  ends_wanting = so_far.onward (Err NoMemory) mid wanting

  pub ends_closed : is_closed_by bytes ≡ true → IsRead who t first (Ok (Some bytes)) old mid
  ends_closed is = so_far.onward (Ok (Some bytes)) mid (closed is)

  pub ends_long : 65536 ≤ length bytes → IsRead who t first (Ok (Some bytes)) old mid
  ends_long is = so_far.onward (Ok (Some bytes)) mid (long is)

  module _ (opened : IsOpen bytes) (given : Result (List ℕ) CallFault) {new : Option History}
      (told : Adds mid new (Calls (AsksMore who t) (answered bytes_given given))) where
    gave : (piece : List ℕ) → Brought given (Ok (Some piece)) → Adds mid new (Calls (AsksMore who t) (answered bytes_given (Ok piece)))
    gave piece is =
        subst (λ (g : Result (List ℕ) CallFault). Adds mid new (Calls (AsksMore who t) (answered bytes_given g))) (brought_some given piece is) told

    pub ends_over : (piece : List ℕ) → Brought given (Ok (Some piece)) → length piece ≡ 0
        → IsRead who t first (Ok (Some bytes)) old new
    ends_over [] is none = so_far.onward (Ok (Some bytes)) new (over opened (gave [] is))
    ends_over (b ∷ piece) is none = absurd (let z : ⊥ = omega (arith, none) in z)

    pub ends_unkept : (piece : List ℕ) → Brought given (Ok (Some piece)) → IsRead who t first (Err NoMemory) old new
    ends_unkept piece is = so_far.onward (Err NoMemory) new (unkept piece opened (gave piece is))

    pub ends_broken : Brought given (Ok None) → IsRead who t first (Ok None) old new
    ends_broken is =
        so_far.onward (Ok None) new
        (broken opened (subst (λ (g : Result (List ℕ) CallFault). Adds mid new (Calls (AsksMore who t) (answered bytes_given g))) (brought_none given is) told))

    pub ends_ungiven : (fault : AgentFault) → Brought given (Err fault) → IsRead who t first (Err NoMemory) old new
    ends_ungiven fault is =
        so_far.onward (Err NoMemory) new
        (ungiven opened (subst (λ (g : Result (List ℕ) CallFault). Adds mid new (Calls (AsksMore who t) (answered bytes_given g))) (brought_fault given fault is) told))

    pub came_piece : (next : ℕ) → IsPassed next bytes → (piece whole : List ℕ) → Brought given (Ok (Some piece)) → 0 < length piece
        → whole ≡ capped (bytes ++ piece) → CameTo who t first old whole next new
    came_piece next passed piece whole is some same =
        let short = opened.short in
        subst (λ (w : List ℕ). CameTo who t first old w next new) (sym same) (record {
          passed = passed_more next bytes piece passed (omega (arith, short));
          onward = λ result later read. so_far.onward result later (came piece opened some (gave piece is) read);
        })

-- the message is read on: no whole line ends it, and it is short
pub opened_by : (text bytes : List ℕ) → text ≡ bytes → (scan : Scan) → Scanned text scan → (next : ℕ) → scan ≡ Open next
    → (n : ℕ) → n ≡ length bytes → n < 65536 → IsOpen bytes
opened_by text bytes same scan found next is n size short =
    record { unclosed = (found_open text bytes same scan found next is).1; short = omega (arith, size, short) }

-- a piece makes a short message longer
pub grows : (bytes piece whole : List ℕ) → whole ≡ capped (bytes ++ piece) → 0 < length piece → length bytes < 65536
    → 65536 - length whole < 65536 - length bytes
grows bytes piece whole is some short =
    let size : length whole ≡ min 65536 (length (bytes ++ piece)) = ap length is ∙ length-take 65536 (bytes ++ piece) in
    let both = length-append bytes piece in
    omega (arith, size, both, some, short)
