-- A message keeps its number, and what was sent under it.
use Rattle.std.proofs.Common.{◌≡◌, ℕ, zero, suc, ◌<◌, Bool, true, false, List, [], ◌∷◌, length, Some, ap, sym, subst, ◌∙◌, refl, arith, if◌then◌else◌}
use Rattle.std.specs.Prelude.{Contains, slice_index_or, ◌==◌}
use Rattle.std.proofs.lemmas.Option.{none-some}
use Rattle.chk_site.specs.declared.acts.Who.{Who}
use Rattle.chk_site.specs.declared.acts.ActAnswer.{ActAnswer}
use Rattle.chk_site.specs.Acts.{Deed, Sends, deed, is_done}
use Rattle.chk_site.specs.History.{Step, History, is_by, is_start, since_start}
use Rattle.chk_site.specs.Messages.{Message, message, message_in}
use Rattle.chk_site.specs.Honest.{Agrees}
use Rattle.chk_world.specs.Rules.{Legal}
use Rattle.chk_world.proofs.NameTests.{nat_same, nat_self}

-- a later message has another number
pub message_stays : (stamped : List (List ℕ)) (history : History) (step : Step) → Legal stamped (step ∷ history) → (n : ℕ) (m : Message)
    → message history n ≡ Some m → message (step ∷ history) n ≡ Some m
message_stays stamped history step legal n m e = go (deed step.act) step.act.answer legal.1.honest.agrees
  where
    go : (call : Deed) (answer : ActAnswer) → Agrees history step.act.who call answer
        → message_in n call step.act.who (is_done step.act.answer) (message history n) ≡ Some m
    go (Sends k address bytes) answer agrees = pick (n == k) refl
      where
        pick : (b : Bool) → (n == k) ≡ b
            → (if b then Some (record { sender = step.act.who; address = address; bytes = bytes; done = is_done step.act.answer }) else message history n) ≡ Some m
        pick true same = absurd (none-some m (sym agrees.0.1 ∙ (ap (message history) (sym (nat_same n k same)) ∙ e)))
        pick false same = e
    go call answer agrees = e

-- what one of these steps sent is the message of its number
pub record IsSentAs (history : History) (n : ℕ) (bytes : List ℕ) : Type 0 where
  pub m : Message
  pub is : message history n ≡ Some m
  pub same : m.bytes ≡ bytes

sent_stays : (stamped : List (List ℕ)) (history : History) (step : Step) → Legal stamped (step ∷ history) → (n : ℕ) (bytes : List ℕ)
    → IsSentAs history n bytes → IsSentAs (step ∷ history) n bytes
sent_stays stamped history step legal n bytes s =
    record { m = s.m; is = message_stays stamped history step legal n s.m s.is; same = s.same }

sent_here : (history : History) (step : Step) (n : ℕ) (address bytes : List ℕ) → deed step.act ≡ Sends n address bytes → IsSentAs (step ∷ history) n bytes
sent_here history step n address bytes e = record {
  m = record { sender = step.act.who; address = address; bytes = bytes; done = is_done step.act.answer };
  is = ap (λ c. message_in n c step.act.who (is_done step.act.answer) (message history n)) e
      ∙ ap (λ b. if b then Some (record { sender = step.act.who; address = address; bytes = bytes; done = is_done step.act.answer }) else message history n) (nat_self n);
  same = refl;
}

-- what holds behind a step of a process, and stays, holds at the end
pub since_holds : (P : History → Type 0) (stamped : List (List ℕ)) (who : Who) (s : Step)
    → ((history : History) → Legal stamped (s ∷ history) → P (s ∷ history))
    → ((history : History) (step : Step) → Legal stamped (step ∷ history) → P history → P (step ∷ history))
    → (history : History) → Legal stamped history → Contains (since_start who history) s → P history
since_holds P stamped who s here stays [] legal one = absurd (let below = one.1 in omega (arith, below))
since_holds P stamped who s here stays (step ∷ history) legal one =
    go (is_by who step) (is_start (deed step.act)) one (λ k. stays history step legal (since_holds P stamped who s here stays history legal.0 k))
  where
    none : {A : Type 0} → Contains [] s → A
    none k = absurd (let below = k.1 in let z : ⊥ = omega (arith, below) in z)

    first_or_later : (k : ℕ) → k < length (step ∷ since_start who history) → slice_index_or (step ∷ since_start who history) k s ≡ s
        → (Contains (since_start who history) s → P (step ∷ history)) → P (step ∷ history)
    first_or_later zero low at later =
        subst (λ t. P (t ∷ history)) (sym at) (here history (subst (λ t. Legal stamped (t ∷ history)) at legal))
    first_or_later (suc k) low at later = later (k, omega arith, at)

    go : (b c : Bool) → Contains (if b then (if c then [] else step ∷ since_start who history) else since_start who history) s
        → (Contains (since_start who history) s → P (step ∷ history)) → P (step ∷ history)
    go true true k later = none k
    go true false k later = first_or_later k.0 k.1 k.2 later
    go false c k later = later k

pub sent_as : (stamped : List (List ℕ)) (history : History) → Legal stamped history → (who : Who) (s : Step) → Contains (since_start who history) s
    → (n : ℕ) (address bytes : List ℕ) → deed s.act ≡ Sends n address bytes → IsSentAs history n bytes
sent_as stamped history legal who s one n address bytes e =
    since_holds (λ h. IsSentAs h n bytes) stamped who s (λ h l. sent_here h s n address bytes e)
    (λ h step l k. sent_stays stamped h step l n bytes k) history legal one
