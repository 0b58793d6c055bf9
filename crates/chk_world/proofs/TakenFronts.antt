-- What a collector took of a message is a front of it.
use Rattle.std.proofs.Common.{◌≡◌, ℕ, Bool, true, false, List, [], ◌∷◌, ◌++◌, Option, Some, None, ap, sym, subst, refl, if◌then◌else◌, MatchBool}
use Rattle.std.specs.Prelude.{◌==◌}
use Rattle.chk_site.specs.declared.acts.Role.{Role}
use Rattle.chk_site.specs.declared.acts.Role.TheVariants.{Collector}
use Rattle.chk_site.specs.declared.acts.Who.{Who}
use Rattle.chk_site.specs.declared.acts.ActAnswer.{ActAnswer}
use Rattle.chk_site.specs.declared.acts.ActAnswer.TheVariants.{Done}
use Rattle.chk_site.specs.Acts.{Deed, Takes, TakesMore, deed, same_who}
use Rattle.chk_site.specs.History.{Step, History}
use Rattle.chk_site.specs.Messages.{Message, Taken, message, taken, taken_in, with_more}
use Rattle.chk_site.specs.Honest.{Agrees, AtMore, IsFrontOf, TakenPrefix}
use Rattle.chk_world.specs.Rules.{Legal}
use Rattle.chk_world.proofs.NameTests.{nat_same}
use Rattle.chk_world.proofs.SentMessages.{message_stays}

-- a front of a message stays one
pub front_stays : (stamped : List (List ℕ)) (history : History) (step : Step) → Legal stamped (step ∷ history) → (n : ℕ) (bytes : List ℕ)
    → IsFrontOf (message history n) bytes → IsFrontOf (message (step ∷ history) n) bytes
front_stays stamped history step legal n bytes = go (message history n) refl
  where
    go : (o : Option Message) → message history n ≡ o → IsFrontOf o bytes → IsFrontOf (message (step ∷ history) n) bytes
    go None e h = absurd h
    go (Some m) e h = subst (λ o. IsFrontOf o bytes) (sym (message_stays stamped history step legal n m e)) h

-- a taking of a collector is a front of its message
abbrev IsFront : History → Option Taken → Type 0
IsFront history None = Unit {0}
IsFront history (Some t) = t.taker.role ≡ Collector → IsFrontOf (message history t.of) t.bytes

collector_front : (role : Role) (history : History) (of : ℕ) (bytes : List ℕ) → TakenPrefix role of (message history of) bytes → role ≡ Collector
    → IsFrontOf (message history of) bytes
collector_front role history of bytes h e = subst (λ r. TakenPrefix r of (message history of) bytes) e h

one_word : (bytes more : List ℕ) (words : List (List ℕ)) → bytes ∷ words ≡ more ∷ [] → more ≡ bytes
one_word bytes more words e = sym (ap first_of e)
  where
    first_of : List (List ℕ) → List ℕ
    first_of [] = []
    first_of (x ∷ xs) = x

more_front : (history : History) (who : Who) (bytes : List ℕ) (words : List (List ℕ)) (o : Option Taken) → IsFront history o
    → AtMore history who o (bytes ∷ words) → IsFront history (with_more who bytes o)
more_front history who bytes words None front at = tt
more_front history who bytes words (Some t) front at = pick (same_who who t.taker) at
  where
    pick : (b : Bool)
        → MatchBool b ((more : List ℕ) × (bytes ∷ words ≡ more ∷ []) × TakenPrefix t.taker.role t.of (message history t.of) (t.bytes ++ more)) (bytes ∷ words ≡ [] ∷ [])
        → IsFront history (if b then Some (record { taker = t.taker; door = t.door; of = t.of; bytes = t.bytes ++ bytes }) else Some t)
    pick true k =
        λ role. subst (λ more. IsFrontOf (message history t.of) (t.bytes ++ more)) (one_word bytes k.0 words k.1)
        (collector_front t.taker.role history t.of (t.bytes ++ k.0) k.2 role)
    pick false k = front

step_front : (history : History) (n : ℕ) (who : Who) (call : Deed) (answer : ActAnswer) → Agrees history who call answer → IsFront history (taken history n)
    → IsFront history (taken_in n call answer who (taken history n))
step_front history n who (Takes door wait) (Done (bytes ∷ words) number of) agrees front = pick (n == number)
  where
    pick : (b : Bool) → IsFront history (if b then Some (record { taker = who; door = door; of = of; bytes = bytes }) else taken history n)
    pick true = λ role. collector_front who.role history of bytes agrees.0.3 role
    pick false = front
step_front history n who (TakesMore k) (Done (bytes ∷ words) number of) agrees front = pick (n == k) refl
  where
    pick : (b : Bool) → (n == k) ≡ b → IsFront history (if b then with_more who bytes (taken history n) else taken history n)
    pick true e = more_front history who bytes words (taken history n) front (subst (λ k. AtMore history who (taken history k) (bytes ∷ words)) (sym (nat_same n k e)) agrees)
    pick false e = front
step_front history n who call answer agrees front = front

taken_front : (stamped : List (List ℕ)) (history : History) → Legal stamped history → (n : ℕ) → IsFront history (taken history n)
taken_front stamped [] legal n = tt
taken_front stamped (step ∷ history) legal n =
    go (taken (step ∷ history) n) (step_front history n step.act.who (deed step.act) step.act.answer legal.1.honest.agrees (taken_front stamped history legal.0 n))
  where
    go : (o : Option Taken) → IsFront history o → IsFront (step ∷ history) o
    go None h = tt
    go (Some t) h = λ role. front_stays stamped history step legal t.of t.bytes (h role)

-- what a collector took is a front of a message
pub taken_is_front : (stamped : List (List ℕ)) (history : History) → Legal stamped history → (n : ℕ) (t : Taken) → taken history n ≡ Some t
    → t.taker.role ≡ Collector → IsFrontOf (message history t.of) t.bytes
taken_is_front stamped history legal n t e = subst (IsFront history) e (taken_front stamped history legal n)
