-- What was written is passed on to the subscribers.
use Rattle.std.proofs.Common.{◌≡◌, ◌⊎◌, inl, inr, ℕ, ◌≤◌, ◌<◌, List, Option, Result, Ok, Err, sym, subst, refl, arith}
use Rattle.std.specs.Prelude.{IsTrue}
use Rattle.chk_bytes.specs.declared.NoMemory.{NoMemory}
use Rattle.chk_bytes.specs.Stems.{is_collector}
use Rattle.chk_site.specs.declared.acts.CallFault.{CallFault}
use Rattle.chk_site.specs.declared.acts.CallFault.TheVariants.{Failed, NoMemory as no_memory}
use Rattle.chk_site.specs.History.{History}
use Rattle.chk_site.specs.Runs.{Leads}
use Rattle.chk_site.specs.Site.{Adds}
use Rattle.chk_site.proofs.Leads.{leads_none, leads_then}
use Rattle.chk_world.specs.Places.{Talking}
use Rattle.chk_sink.specs.Held.{Matches}
use Rattle.chk_sink.specs.States.{State, process}
use Rattle.chk_tee.specs.Messages.{Teed, written_tee}
use Rattle.chk_tee_sender.specs.declared.Subscriber.{Subscriber}
use Rattle.chk_tee_sender.specs.declared.tees.Passed.{Passed}
use Rattle.chk_tee_sender.specs.Offers.{IsPassed, nobody, nothing, passed}
use Rattle.chk_tee_sender.specs.Passing.{Passes, PassCause}
use Rattle.chk_tee_sender.specs.Sending.{IsSentTo, PassesOn, all_passed, wanting, passed_by, sent_to, dropped, ended, wanted}
use Rattle.chk_collector.specs.Replies.{MayHaveRisen}
use Rattle.chk_collector_run.proofs.Talking.{sent_on}

-- ---- the rules allow them, and they leave the sinks

module _ (stamped : List (List ℕ)) (s : State) (named : IsTrue (is_collector s.collector)) where
  abbrev Keeps : Option History → Option History → Type 0
  Keeps old new = Adds old new (Leads (Talking stamped (process s)) (Matches stamped s)
      (Matches stamped s))

  send_keeps : {items : List Teed} {x : Subscriber} (given : Result ℕ CallFault)
      {old new : Option History} → IsSentTo (process s) items x given old new → Keeps old new
  send_keeps {items = items} {x = x} given told =
      sent_on stamped s named x.address (written_tee (wanted x items)) (wanted x items) told.tee
      given told.told

  stays_keeps : {old new : Option History} → new ≡ old → Keeps old new
  stays_keeps {old = old} is =
      subst (λ (n : Option History). Keeps old n) (sym is) (leads_none old (λ h x. x))

  passes_keep : {items : List Teed} {a b : List Subscriber} {sent lost : ℕ}
      {end : Result (Unit {0}) NoMemory} {old new : Option History}
      → PassesOn (process s) items a b sent lost end old new → Keeps old new
  passes_keep all_passed = stays_keeps refl
  passes_keep wanting = stays_keeps refl
  passes_keep (passed_by by rest) = leads_then (stays_keeps by.1) (passes_keep rest)
  passes_keep (sent_to by rest) = leads_then (send_keeps (Ok by.0) by.1) (passes_keep rest)
  passes_keep (dropped by rest) = leads_then (send_keeps (Err Failed) by) (passes_keep rest)
  passes_keep (ended (inl is)) = stays_keeps is
  passes_keep (ended (inr by)) = send_keeps (Err no_memory) by

  told_keeps : (items : List Teed) (a b : List Subscriber) (result : Result Passed NoMemory)
      {old new : Option History} → Passes (process s) items a b result old new → Keeps old new
  told_keeps items a b (Ok numbers) passes = passes_keep passes
  told_keeps items a b (Err fault) passes = passes_keep passes.2

  pub pass_keeps : {request reply : List ℕ} {a b : List Subscriber}
      (result : Result Passed NoMemory) {old new : Option History}
      → IsPassed (process s) request reply a b result old new → Keeps old new
  pass_keeps result (nobody is did) = stays_keeps did.quiet
  pass_keeps result (nothing is did) = stays_keeps did.quiet
  pass_keeps result (passed chunks acks post did) = told_keeps _ _ _ result did

-- ---- the count of failed calls

compared : (before now : ℕ) → before ≤ now → (before ≡ now) ⊎ (before < now)
compared before now le = grind arith

more_or_same : (before now : ℕ) → before ≤ now → MayHaveRisen before now
more_or_same before now le = by (compared before now le)
  where
    by : (before ≡ now) ⊎ (before < now) → MayHaveRisen before now
    by (inl e) = inl (sym e)
    by (inr e) = inr (omega (arith, e), le)

pub pass_risen : (before now : ℕ) (result : Result Passed NoMemory) → PassCause before now result
    → MayHaveRisen before now
pass_risen before now (Ok numbers) cause = more_or_same before now cause.stays
pass_risen before now (Err fault) cause = more_or_same before now cause
