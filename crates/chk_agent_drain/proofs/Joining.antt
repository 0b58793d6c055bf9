-- How the parts of a drain join.
use Rattle.std.proofs.Common.{◌≡◌, ℕ, ◌≤◌, false, List, [], ◌∷◌, ◌++◌, Option, Some, None, Result, Ok, Err, ap, sym, subst, ◌∙◌, refl, append_assoc, arith}
use Rattle.chk_site.specs.declared.acts.Call.{Call}
use Rattle.chk_site.specs.History.{History, is_stopped}
use Rattle.chk_site.specs.Site.{Adds, EndsIn, Rose}
use Rattle.chk_site.specs.declared.acts.Role.TheVariants.{Agent}
use Rattle.chk_site.specs.Runs.{Leads}
use Rattle.chk_site.proofs.Runs.{adds_then, adds_none}
use Rattle.chk_site.proofs.Leads.{leads_none, leads_then}
use Rattle.chk_agent.specs.declared.answers.AgentFault.TheVariants.{Damaged, Outside, NoMemory}
use Rattle.chk_world.specs.Places.{Talking}
use Rattle.chk_agent.specs.Facts.{Matches}
use Rattle.chk_agent.specs.States.{State}
use Rattle.chk_agent.proofs.TurningTold.{talks_then}
use Rattle.chk_agent_drain.specs.declared.answers.Drained.{Drained}
use Rattle.chk_agent_drain.specs.declared.answers.Drained.TheVariants.{AllTried, Done, Growing, Pending, Shrank}
use Rattle.chk_agent_drain.specs.Drains.{Progress, tried_answer}
use Rattle.chk_agent_drain.specs.Parts.{Part, GoesOn, Comes, EndsLast, EndCause, NeverShort, SameReading, SameRest, Talks}
use Rattle.chk_agent.specs.declared.answers.AgentFault.{AgentFault}
use Rattle.chk_site.proofs.LastCalls.{ends_in_both as ends_later}

-- ---- the count of faults

pub rose_then : (a b c : ℕ) → a ≤ b → Rose b c → Rose a c
rose_then a b c on rose = omega (arith, on, rose)

pub rose_later : (a b c : ℕ) → Rose a b → b ≤ c → Rose a c
rose_later a b c rose on = omega (arith, on, rose)

pub cause_then : (a b c : ℕ) (end : Option (Result Drained AgentFault)) → a ≤ b → EndCause b c end
    → EndCause a c end
cause_then a b c None on x = omega (arith, on, x)
cause_then a b c (Some (Ok value)) on x = (let more = x.0 in omega (arith, on, more), x.1)
cause_then a b c (Some (Err (Damaged at))) on x = absurd x.1
cause_then a b c (Some (Err (Outside call))) on x =
    ((rose_then a b c on x.0.0, let more = x.0.1 in omega (arith, on, more)), x.1)
cause_then a b c (Some (Err NoMemory)) on x = (let more = x.0 in omega (arith, on, more), x.1)

-- ---- the call that failed

pub last_later : (end : Option (Result Drained AgentFault)) (b a history : History)
    → EndsLast end b (a ++ history)
    → EndsLast end (b ++ a) history
last_later None b a history x = tt
last_later (Some (Ok value)) b a history x = tt
last_later (Some (Err (Damaged at))) b a history x = tt
last_later (Some (Err NoMemory)) b a history x = tt
last_later (Some (Err (Outside call))) b a history x =
    λ other running. ends_later call b a
    (x other (ap is_stopped (sym (append_assoc b a history)) ∙ running))

-- ---- parts

comes_as : (now reads polls : ℕ) (p : Progress) (s t : State) (K L : Progress → State → Type 0)
    (old new : Option History) (end : Option (Result Drained AgentFault))
    → ((q : Progress) → K q t → L q t)
    → Comes now reads polls p s K end t old new → Comes now reads polls p s L end t old new
comes_as now reads polls p s t K L old new (Some result) less x = x
comes_as now reads polls p s t K L old new None less g = record {
  progress = g.progress;
  known = less g.progress g.known;
  source = g.source;
  ready = g.ready;
  onward = g.onward;
}

-- the same part, with less known of where it comes to
pub part_map : {now reads polls : ℕ} {p : Progress} {s t : State} {K L : Progress → State → Type 0}
    {end : Option (Result Drained AgentFault)} {old new : Option History} {a b : ℕ}
    → ((q : Progress) → K q t → L q t)
    → Part now reads polls p s K end t old new a b → Part now reads polls p s L end t old new a b
part_map {now = now} {reads = reads} {polls = polls} {p = p} {s = s} {t = t} {K = K} {L = L}
    {end = end}
    {old = old} {new = new} less x = record {
      comes = comes_as now reads polls p s t K L old new end less x.comes;
      talks = x.talks;
      long = x.long;
      last = x.last;
      cause = x.cause;
    }

-- where it ends the drain, nothing more is to be known
pub part_ends : {now reads polls : ℕ} {p : Progress} {s t : State} {K L : Progress → State → Type 0}
    {result : Result Drained AgentFault} {old new : Option History} {a b : ℕ}
    → Part now reads polls p s K (Some result) t old new a b
    → Part now reads polls p s L (Some result) t old new a b
part_ends x = record { comes = x.comes; talks = x.talks; long = x.long; last = x.last; cause = x.cause }

-- no part
pub part_none : (now reads polls : ℕ) (p : Progress) (s : State) (K : Progress → State → Type 0)
    (at : Option History)
    (a : ℕ) → K p s → Part now reads polls p s K None s at at a a
part_none now reads polls p s K at a known = record {
  comes = record {
    progress = p;
    known = known;
    source = refl;
    ready = refl;
    onward = λ result u new rest. rest;
  };
  talks = λ stamped. leads_none at (λ h x. x);
  long = tt;
  last = adds_none at (EndsLast None) (λ history. tt);
  cause = omega arith;
}

comes_then : {now reads polls : ℕ} {p : Progress} {s t : State} {K : Progress → State → Type 0}
    {old mid : Option History}
    (L : Progress → State → Type 0) (end : Option (Result Drained AgentFault)) (u : State)
    (new : Option History)
    (g : GoesOn now reads polls p s K t old mid)
    → Comes now reads polls g.progress t L end u mid new
    → Comes now reads polls p s L end u old new
comes_then L (Some result) u new g x = g.onward result u new x
comes_then L None u new g x = record {
  progress = x.progress;
  known = x.known;
  source = x.source ∙ g.source;
  ready = x.ready ∙ g.ready;
  onward = λ result v later rest. g.onward result v later (x.onward result v later rest);
}

-- an end at a shorter log, behind an earlier part
long_then : (s t : State) (end : Option (Result Drained AgentFault)) → t.source ≡ s.source
    → (old mid new : Option History) → Talks s t old mid → NeverShort t end mid new
    → NeverShort s end old new
long_then s t (Some (Ok (Shrank i had is))) source old mid new talks long =
    λ stamped. leads_then (talks stamped)
    (subst (λ n. Adds mid new (Leads (Talking stamped (record { role = Agent; name = n }))
    (Matches stamped t) (λ h. is_stopped h ≡ false → ⊥))) source (long stamped))
long_then s t (Some (Ok Done)) source old mid new talks long = tt
long_then s t (Some (Ok (Pending stem got want))) source old mid new talks long = tt
long_then s t (Some (Ok (Growing i reads))) source old mid new talks long = tt
long_then s t (Some (Ok (AllTried count code))) source old mid new talks long = tt
long_then s t (Some (Err fault)) source old mid new talks long = tt
long_then s t None source old mid new talks long = tt

-- no end behind tries at all addresses is one at a shorter log
pub long_tried : (s : State) (q : Progress) (old new : Option History)
    → NeverShort s (Some (tried_answer q)) old new
long_tried s q old new = go q.failed
  where
    go : (failed : Option Call) → NeverShort s (Some (elim failed [
      | None ↦ Ok (AllTried q.tried q.code)
      | Some call ↦ Err (Outside call)
    ])) old new
    go None = tt
    go (Some call) = tt

-- one part after another
pub part_then : {now reads polls : ℕ} {p : Progress} {s t u : State}
    {K L : Progress → State → Type 0}
    {end : Option (Result Drained AgentFault)} {old mid new : Option History} {a b c : ℕ}
    → Part now reads polls p s K None t old mid a b
    → ((q : Progress) → K q t → Part now reads polls q t L end u mid new b c)
    → Part now reads polls p s L end u old new a c
part_then {s = s} {t = t} {u = u} {L = L} {end = end} {old = old} {mid = mid} {new = new} {a = a}
    {b = b} {c = c} x next =
    let g = x.comes in
    let y = next g.progress g.known in
    record {
      comes = comes_then L end u new g y.comes;
      talks = talks_then s t u (record { source = g.source; ready = g.ready }) x.talks y.talks;
      long = long_then s t end g.source old mid new x.talks y.long;
      last = adds_then (EndsLast end) x.last y.last
          (λ before later h m n. last_later end later before h n);
      cause = cause_then a b c end x.cause y.cause;
    }

-- ---- what is known of two in turn

pub reading_then : (p q r : Progress) → SameReading p q → SameReading q r → SameReading p r
reading_then p q r x y = record { reads = y.reads ∙ x.reads; ended = y.ended ∙ x.ended }

pub rest_then : (s t u : State) → SameRest s t → SameRest t u → SameRest s u
rest_then s t u x y = record {
  adaptors = y.adaptors ∙ x.adaptors;
  addresses = y.addresses ∙ x.addresses;
  room = y.room ∙ x.room;
}
