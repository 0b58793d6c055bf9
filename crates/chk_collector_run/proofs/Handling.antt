-- A message is read on, handled and answered.
use Rattle.std.proofs.Common.{◌≡◌, ℕ, true, false, Bool, List, [], ◌∷◌, Option, Some, None, Result, Ok, Err, sym, subst, ◌∙◌}
use Rattle.std.specs.Prelude.{IsTrue}
use Rattle.chk_bytes.specs.declared.NoMemory.{NoMemory}
use Rattle.chk_bytes.specs.Stems.{is_collector}
use Rattle.chk_site.specs.declared.acts.Call.TheVariants.{Answer}
use Rattle.chk_site.specs.declared.acts.CallFault.{CallFault}
use Rattle.chk_site.specs.declared.acts.Who.{Who}
use Rattle.chk_site.specs.History.{History}
use Rattle.chk_site.specs.Runs.{Leads, Owns}
use Rattle.chk_site.specs.Site.{Adds, asked, answered, plain, Calls}
use Rattle.chk_site.proofs.Leads.{leads_then}
use Rattle.chk_site.proofs.Runs.{adds_as}
use Rattle.chk_world.specs.Places.{Talking, IsBy}
use Rattle.chk_world.specs.Works.{Works}
use Rattle.chk_sink.specs.Held.{Matches}
use Rattle.chk_sink.specs.States.{State, IsSameStart, process}
use Rattle.chk_collector.specs.Handled.{KeepsSeen, OfRequest, Unanswered}
use Rattle.chk_collector.specs.Outcomes.{Replied, outcome_ended}
use Rattle.chk_tee_sender.specs.declared.Subscriber.{Subscriber}
use Rattle.chk_tee_sender.specs.declared.tees.Passed.{Passed}
use Rattle.chk_tee_sender.specs.Offers.{IsPassed}
use Rattle.chk_collector_run.specs.Calls.{sending_of}
use Rattle.chk_collector_run.specs.Legality.{HasTaken}
use Rattle.chk_collector_run.specs.Messages.{IsReadOn, LeadsToReply, IsHandled, IsUnreplied, IsSentOrFailed}
use Rattle.chk_collector_run.proofs.Passing.{pass_keeps}
use Rattle.chk_collector_run.proofs.Talking.{read_told, answered_told}
use Rattle.chk_collector_run.proofs.Turning.{same_process}

-- an answer that was no want of memory was sent or failed
pub sent_or_failed : (sent : Bool) → IsSentOrFailed (sending_of (Ok sent))
sent_or_failed true = tt
sent_or_failed false = tt

module _ (s u : State) (request : List ℕ) (reply : Result (List ℕ) NoMemory)
    {old new : Option History} (told : LeadsToReply (process s) request s u reply old new) where
  made_quiet : Adds old new (Owns (IsBy (process s)))
  made_quiet = adds_as (Owns (IsBy (process s))) (told [] 0 [] []) (λ a h x. x.own)

  -- for the process under its name
  quiet_by : (who : Who) → who ≡ process s → Adds old new (Owns (IsBy who))
  quiet_by who is = subst (λ w. Adds old new (Owns (IsBy w))) (sym is) made_quiet

  -- and what it leads to
  told_by : (who : Who) → who ≡ process s → LeadsToReply who request s u reply old new
  told_by who is = subst (λ w. LeadsToReply w request s u reply old new) (sym is) told

  pub handled_so : (who : Who) → who ≡ process s → (bytes : List ℕ) → reply ≡ Ok bytes
      → {before now : ℕ} → Replied request s u before now old new bytes → IsSameStart s u
      → KeepsSeen s u → IsHandled who request bytes s u old new
  handled_so who is bytes e replied same seen = record {
    told = subst (λ r. LeadsToReply who request s u r old new) e (told_by who is);
    outcome = replied.outcome;
    is = replied.is;
    by_bytes = replied.by_bytes;
    same = same;
    seen = seen;
    state = replied.state;
    quiet = quiet_by who is;
    own = subst (λ w. Works w (OfRequest request s) (outcome_ended replied.outcome) old new)
        (sym is) replied.own;
    acts = replied.acts;
    last = replied.last;
    damaged = replied.damaged;
  }

  pub unreplied_so : (who : Who) → who ≡ process s → (fault : NoMemory) → reply ≡ Err fault
      → Unanswered request s u old new → IsSameStart s u → KeepsSeen s u
      → IsUnreplied who request fault s u old new
  unreplied_so who is fault e unanswered same seen = record {
    told = subst (λ r. LeadsToReply who request s u r old new) e (told_by who is);
    unanswered = unanswered;
    same = same;
    seen = seen;
    quiet = quiet_by who is;
  }

module _ (stamped : List (List ℕ)) (s : State) (who : Who) (is : who ≡ process s)
    (named : IsTrue (is_collector who.name)) (t : ℕ) (bytes : List ℕ) where
  abbrev Side : State → Option History → Option History → Type 0
  Side u old new = Adds old new (Leads (Talking stamped (process s)) (HasTaken stamped s t bytes)
      (Matches stamped u))

  named_s : IsTrue (is_collector s.collector)
  named_s = subst (λ (w : Who). IsTrue (is_collector w.name)) is named

  by_s : (got : Result (Option (List ℕ)) NoMemory) {old new : Option History}
      → IsReadOn who t bytes got old new → IsReadOn (process s) t bytes got old new
  by_s got {old = old} {new = new} = subst (λ w. IsReadOn w t bytes got old new) is

  pub broken_told : {old new : Option History} → IsReadOn who t bytes (Ok None) old new
      → Side s old new
  broken_told read = read_told stamped s named_s t (by_s (Ok None) read)

  pub unread_told : (fault : NoMemory) {old new : Option History}
      → IsReadOn who t bytes (Err fault) old new → Side s old new
  unread_told fault read = read_told stamped s named_s t (by_s (Err fault) read)

  -- what it is answered leads on
  pub read_then : (u : State) (request : List ℕ) {old mid new : Option History}
      → IsReadOn who t bytes (Ok (Some request)) old mid
      → Adds mid new
      (Leads (Talking stamped (process s)) (HasTaken stamped s t request) (Matches stamped u))
      → Side u old new
  read_then u request read told =
      leads_then (read_told stamped s named_s t (by_s (Ok (Some request)) read)) told

  -- these bytes are all of the message, and it is answered
  pub answer_told : (u : State) (same : IsSameStart s u) (reply : List ℕ)
      (given : Result (Unit {0}) CallFault) {old next new : Option History}
      → LeadsToReply (process s) bytes s u (Ok reply) old next
      → Adds next new (Calls (asked who Answer (reply ∷ []) t 0) (answered plain given))
      → Side u old new
  answer_told u same reply given {next = next} {new = new} told call =
      answered_told stamped s u t bytes NoMemory named_s (same_process s u same) reply given
      (told stamped t [])
      (subst (λ w. Adds next new (Calls (asked w Answer (reply ∷ []) t 0) (answered plain given)))
      is call)

  -- and then it is passed on
  pub pass_told : (u : State) (same : IsSameStart s u) (reply : List ℕ) {a b : List Subscriber}
      (result : Result Passed NoMemory) {old mid new : Option History} → Side u old mid
      → IsPassed who bytes reply a b result mid new → Side u old new
  pass_told u same reply {a = a} {b = b} result {mid = mid} {new = new} told did =
      let to : process u ≡ process s = same_process s u same in
      leads_then told
      (subst (λ w. Adds mid new (Leads (Talking stamped w) (Matches stamped u) (Matches stamped u)))
      to
      (pass_keeps stamped u (subst (λ (w : Who). IsTrue (is_collector w.name)) (sym to) named_s)
      result (subst (λ w. IsPassed w bytes reply a b result mid new) (is ∙ sym to) did)))
