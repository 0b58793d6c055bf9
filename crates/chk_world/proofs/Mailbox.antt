-- How a message goes through the mailbox: what each step does to it.
use Rattle.std.proofs.Common.{◌≡◌, ◌⊎◌, inl, inr, ℕ, Bool, true, false, ◌&&◌, ◌||◌, List, [], ◌∷◌, ◌++◌, Option, Some, None, ap, sym, subst, ◌∙◌, refl, true≢false, if◌then◌else◌, MatchBool}
use Rattle.std.specs.Prelude.{◌==◌, not, filter, bytes_eq}
use Rattle.std.specs.List.{list_any}
use Rattle.std.proofs.lemmas.Option.{same_Some, none-some}
use Rattle.chk_site.specs.declared.acts.Role.TheVariants.{Collector}
use Rattle.chk_site.specs.declared.acts.Who.{Who}
use Rattle.chk_site.specs.declared.acts.Call.{Call}
use Rattle.chk_site.specs.declared.acts.Call.TheVariants.{Start, LogRead, LogNewest, LogAppend, Create, Append, Sync, Rename, Remove, Cut, Size, Read, List as ListNames, Clock, Pause, Send, Got, Take, More, Answer, Say}
use Rattle.chk_site.specs.declared.acts.ActAnswer.{ActAnswer}
use Rattle.chk_site.specs.declared.acts.ActAnswer.TheVariants.{Done}
use Rattle.chk_site.specs.Acts.{Deed, Starts, Sends, Gets, Takes, TakesMore, Answers, deed, deed_by, is_done, same_role, same_who}
use Rattle.chk_site.specs.History.{Step, History}
use Rattle.chk_site.specs.Messages.{Message, Taken, Reply, self_address, message, message_in, taken, taken_in, with_more, replies, replies_in, is_of, is_inside, waiting, waiting_in}
use Rattle.chk_site.specs.Honest.{Agrees, AtTake, GotAnswer, IsFrontOf, IsWholeOf, MailboxOrder, FrontOfSome, WholeOfSure, is_sure}
use Rattle.chk_world.specs.Rules.{Legal}
use Rattle.chk_world.specs.Places.{is_message}
use Rattle.chk_world.specs.Together.{names_self}
use Rattle.chk_world.specs.Mailbox.{IsEmptyFor, IsTakingOf, Waits, AreSurely, IsInHand}
use Rattle.chk_world.proofs.Ends.{bytes_same, bytes_self}
use Rattle.chk_world.proofs.Law.{role_same, who_same}
use Rattle.chk_world.proofs.NameTests.{nat_same, nat_self}
use Rattle.chk_world.proofs.SentMessages.{message_stays}
use Rattle.chk_world.proofs.TakenFronts.{taken_is_front}
use Rattle.chk_world.proofs.ToldCalls.{who_self}

-- the call leaves this taker's messages alone: it is none on messages, or another process's that
-- doesn't name the mailbox
pub record IsApart (taker : Who) (step : Step) : Type 0 where
  pub elsewhere : names_self (deed step.act) ≡ false
  pub apart : (is_message step.act.call ≡ false) ⊎ (same_who taker step.act.who ≡ false)

-- the call is on messages, by what it asks for
abbrev is_talk : Deed → Bool
is_talk (Sends n address bytes) = true
is_talk (Takes door wait) = true
is_talk (TakesMore t) = true
is_talk (Answers t bytes) = true
is_talk call = false

talk_same : (call : Call) (words : List (List ℕ)) (number max : ℕ)
    → is_message call ≡ is_talk (deed_by call words number max)
talk_same Start words number max = refl
talk_same LogRead words number max = refl
talk_same LogNewest words number max = refl
talk_same LogAppend words number max = refl
talk_same Create words number max = refl
talk_same Append words number max = refl
talk_same Sync words number max = refl
talk_same Rename words number max = refl
talk_same Remove words number max = refl
talk_same Cut words number max = refl
talk_same Size words number max = refl
talk_same Read words number max = refl
talk_same ListNames words number max = refl
talk_same Clock words number max = refl
talk_same Pause words number max = refl
talk_same Send words number max = refl
talk_same Got words number max = refl
talk_same Take words number max = refl
talk_same More words number max = refl
talk_same Answer words number max = refl
talk_same Say words number max = refl

no_talk_elsewhere : (call : Deed) → is_talk call ≡ false → names_self call ≡ false
no_talk_elsewhere (Sends n address bytes) e = absurd (true≢false e)
no_talk_elsewhere (Takes door wait) e = absurd (true≢false e)
no_talk_elsewhere call e = refl

-- a call that is none on messages is none of these
quiet_talk : (step : Step) → is_message step.act.call ≡ false → is_talk (deed step.act) ≡ false
quiet_talk step e = sym (talk_same step.act.call step.act.words step.act.number step.act.max) ∙ e

pub quiet_apart : (taker : Who) (step : Step) → is_message step.act.call ≡ false
    → IsApart taker step
quiet_apart taker step e =
    record { elsewhere = no_talk_elsewhere (deed step.act) (quiet_talk step e); apart = inl e }

pub foreign_apart : (taker : Who) (step : Step) → names_self (deed step.act) ≡ false
    → same_who taker step.act.who ≡ false → IsApart taker step
foreign_apart taker step e other = record { elsewhere = e; apart = inr other }

-- ---- what waits

waiting_same : (call : Deed) (answer : ActAnswer) (own : Bool) (ws : List ℕ)
    → names_self call ≡ false → (own ≡ false) ⊎ (ws ≡ [])
    → waiting_in call answer own ws ≡ ws
waiting_same Starts answer own ws elsewhere (inl other) = rw other refl
waiting_same Starts answer true ws elsewhere (inr none) = sym none
waiting_same Starts answer false ws elsewhere (inr none) = refl
waiting_same (Sends n address bytes) (Done words number of) own ws elsewhere h = rw elsewhere refl
waiting_same (Takes door wait) (Done (bytes ∷ words) number of) own ws elsewhere h = rw elsewhere refl
waiting_same call answer own ws elsewhere h = refl

-- ---- what was taken

-- b is the taking a, of which more may have been taken since
pub record IsSameTaking (a b : Taken) : Type 0 where
  pub taker : b.taker ≡ a.taker
  pub door : b.door ≡ a.door
  pub of : b.of ≡ a.of

-- a taking of the step was there before, or is the step's own at this door
data CameFrom (history : History) (step : Step) (u : ℕ) (k : Taken) : Type 0 where
  earlier : (a : Taken) → taken history u ≡ Some a → IsSameTaking a k → CameFrom history step u k
  here : (door : List ℕ) (wait : ℕ) → deed step.act ≡ Takes door wait → k.door ≡ door
      → CameFrom history step u k

more_same : (who : Who) (more : List ℕ) (o : Option Taken) (k : Taken)
    → with_more who more o ≡ Some k → (a : Taken) × (o ≡ Some a) × IsSameTaking a k
more_same who more None k e = absurd (none-some k e)
more_same who more (Some a) k e = go (same_who who a.taker) e
  where
    go : (b : Bool) → (if b then Some (record { taker = a.taker; door = a.door; of = a.of; bytes = a.bytes ++ more }) else Some a) ≡ Some k
        → (x : Taken) × (Some a ≡ Some x) × IsSameTaking x k
    go true h =
        let is = same_Some _ _ h in
        (a, refl, record { taker = ap (λ (t : Taken). t.taker) (sym is); door = ap (λ (t : Taken). t.door) (sym is); of = ap (λ (t : Taken). t.of) (sym is) })
    go false h =
        let is = same_Some _ _ h in
        (a, refl, record { taker = ap (λ (t : Taken). t.taker) (sym is); door = ap (λ (t : Taken). t.door) (sym is); of = ap (λ (t : Taken). t.of) (sym is) })

came_from : (history : History) (step : Step) (u : ℕ) (k : Taken)
    → taken (step ∷ history) u ≡ Some k → CameFrom history step u k
came_from history step u k e = go (deed step.act) step.act.answer refl e
  where
    as_was : taken history u ≡ Some k → CameFrom history step u k
    as_was h = earlier k h (record { taker = refl; door = refl; of = refl })

    go : (call : Deed) (answer : ActAnswer) → deed step.act ≡ call
        → taken_in u call answer step.act.who (taken history u) ≡ Some k
        → CameFrom history step u k
    go (Takes door wait) (Done (bytes ∷ words) number of) is h = pick (u == number) h
      where
        pick : (b : Bool) → (if b then Some (record { taker = step.act.who; door = door; of = of; bytes = bytes }) else taken history u) ≡ Some k
            → CameFrom history step u k
        pick true g = here door wait is (ap (λ (t : Taken). t.door) (sym (same_Some _ _ g)))
        pick false g = as_was g
    go (TakesMore n) (Done (bytes ∷ words) number of) is h = pick (u == n) h
      where
        pick : (b : Bool)
            → (if b then with_more step.act.who bytes (taken history u) else taken history u) ≡ Some k
            → CameFrom history step u k
        pick true g = let x = more_same step.act.who bytes (taken history u) k g in earlier x.0 x.1 x.2
        pick false g = as_was g
    go call answer is h = as_was h

-- a taking that there is stays the same one
taken_stays : (stamped : List (List ℕ)) (history : History) (step : Step)
    → Legal stamped (step ∷ history) → (u : ℕ) (a : Taken)
    → taken history u ≡ Some a
    → (k : Taken) × (taken (step ∷ history) u ≡ Some k) × IsSameTaking a k
taken_stays stamped history step legal u a e = go (deed step.act) step.act.answer legal.1.honest.agrees
  where
    Stays : Deed → ActAnswer → Type 0
    Stays call answer = (k : Taken) × (taken_in u call answer step.act.who (taken history u) ≡ Some k) × IsSameTaking a k

    as_was : (k : Taken) × (taken history u ≡ Some k) × IsSameTaking a k
    as_was = (a, e, record { taker = refl; door = refl; of = refl })

    go : (call : Deed) (answer : ActAnswer) → Agrees history step.act.who call answer
        → Stays call answer
    go (Takes door wait) (Done (bytes ∷ words) number of) agrees = pick (u == number) refl
      where
        pick : (b : Bool) → (u == number) ≡ b
            → (k : Taken) × ((if b then Some (record { taker = step.act.who; door = door; of = of; bytes = bytes }) else taken history u) ≡ Some k) × IsSameTaking a k
        pick true same = absurd (none-some a (sym agrees.0.2 ∙ (ap (taken history) (sym (nat_same u number same)) ∙ e)))
        pick false same = as_was
    go (TakesMore n) (Done (bytes ∷ words) number of) agrees = pick (u == n)
      where
        more : (k : Taken) × (with_more step.act.who bytes (taken history u) ≡ Some k) × IsSameTaking a k
        more = subst (λ (o : Option Taken). (k : Taken) × (with_more step.act.who bytes o ≡ Some k) × IsSameTaking a k) (sym e) (grows (same_who step.act.who a.taker))
          where
            grows : (b : Bool)
                → (k : Taken) × ((if b then Some (record { taker = a.taker; door = a.door; of = a.of; bytes = a.bytes ++ bytes }) else Some a) ≡ Some k) × IsSameTaking a k
            grows true = (_, refl, record { taker = refl; door = refl; of = refl })
            grows false = (a, refl, record { taker = refl; door = refl; of = refl })

        pick : (b : Bool)
            → (k : Taken) × ((if b then with_more step.act.who bytes (taken history u) else taken history u) ≡ Some k) × IsSameTaking a k
        pick true = more
        pick false = as_was
    go call answer agrees = as_was

-- the takings of the message at the mailbox are no more than before
no_new : (history : History) (step : Step) (m u : ℕ) (k : Taken)
    → names_self (deed step.act) ≡ false → taken (step ∷ history) u ≡ Some k
    → IsTakingOf m k → (a : Taken) × (taken history u ≡ Some a) × IsTakingOf m a
no_new history step m u k elsewhere e of = go (came_from history step u k e)
  where
    go : CameFrom history step u k → (a : Taken) × (taken history u ≡ Some a) × IsTakingOf m a
    go (earlier a is same) = (
      a,
      is,
      record {
        collector = ap (λ (w : Who). w.role) (sym same.taker) ∙ of.collector;
        message = sym same.of ∙ of.message;
        inside = sym same.door ∙ of.inside;
      },
    )
    go (here door wait is at) =
        absurd (true≢false (sym (ap (λ d. bytes_eq d self_address) (sym at ∙ of.inside) ∙ bytes_self self_address)
        ∙ subst (λ d. names_self d ≡ false) is elsewhere))

-- ---- the answers

abbrev SureIn : Who → History → ℕ → Type 0
SureIn taker history m = (u : ℕ) (k : Taken) → taken history u ≡ Some k → IsTakingOf m k → same_who taker k.taker ≡ true

-- an answer that was added isn't sure
replies_same : (taker : Who) (history : History) (step : Step) (m : ℕ) → IsApart taker step
    → SureIn taker history m
    → (P : List Reply → Type 0)
    → ((r : Reply) → is_sure r ≡ false → P (replies history m) → P (r ∷ replies history m))
    → P (replies history m) → P (replies (step ∷ history) m)
replies_same taker history step m apart mine P more h = go (deed step.act) refl
  where
    go : (call : Deed) → deed step.act ≡ call
        → P (replies_in m call step.act.who (is_done step.act.answer) history (replies history m))
    go (Answers t bytes) is = pick (same_role step.act.who.role Collector) refl (taken history t) refl
      where
        R : Option Taken → Reply
        R o = record { bytes = bytes; done = is_done step.act.answer; inside = is_inside o }

        other : same_who taker step.act.who ≡ false
        other = elim apart.apart [ inl quiet ↦ absurd (true≢false (sym (ap is_talk is) ∙ quiet_talk step quiet)) | inr o ↦ o ]

        unsure : (k : Taken) → taken history t ≡ Some k → same_role step.act.who.role Collector ≡ true → same_who step.act.who k.taker ≡ true → (k.of == m) ≡ true
            → (b : Bool) → bytes_eq k.door self_address ≡ b → b && is_done step.act.answer ≡ false
        unsure k e role by of false at = refl
        unsure k e role by of true at =
            let me = who_same step.act.who k.taker by in
            let sure = mine t k e (record {
              collector = ap (λ (w : Who). w.role) (sym me) ∙ role_same step.act.who.role Collector role;
              message = nat_same k.of m of;
              inside = bytes_same k.door self_address at;
            }) in
            absurd (true≢false (sym sure ∙ (ap (same_who taker) (sym me) ∙ other)))

        pick : (role : Bool) → same_role step.act.who.role Collector ≡ role → (o : Option Taken)
            → taken history t ≡ o
            → P (if role && is_of step.act.who m o then R o ∷ replies history m else replies history m)
        pick false role o e = h
        pick true role None e = h
        pick true role (Some k) e = both (same_who step.act.who k.taker) refl (k.of == m) refl
          where
            both : (a : Bool) → same_who step.act.who k.taker ≡ a → (b : Bool) → (k.of == m) ≡ b
                → P (if a && b then R (Some k) ∷ replies history m else replies history m)
            both true by true of = more (R (Some k)) (unsure k e role by of (bytes_eq k.door self_address) refl) h
            both true by false of = h
            both false by b of = h
    go call is = h

surely_more : (answer : Option (List ℕ)) (rs : List Reply) (r : Reply) → is_sure r ≡ false
    → AreSurely answer rs → AreSurely answer (r ∷ rs)
surely_more None rs r not_sure h = ap (λ b. b || list_any is_sure rs) not_sure ∙ h
surely_more (Some reply) rs r not_sure h = (
  ap (λ b. b || list_any is_sure rs) not_sure ∙ h.0,
  λ bytes whole. elim whole [ inl now ↦ absurd (true≢false (sym now.0 ∙ not_sure)) | inr later ↦ h.1 bytes later ],
)

-- ---- what stays

same_mine : (taker : Who) (k : Taken) → k.taker ≡ taker → same_who taker k.taker ≡ true
same_mine taker k e = ap (same_who taker) e ∙ who_self taker

pub empty_stays : (taker : Who) (history : History) (step : Step) → IsApart taker step
    → IsEmptyFor taker history → IsEmptyFor taker (step ∷ history)
empty_stays taker history step apart h =
    waiting_same (deed step.act) step.act.answer (same_who taker step.act.who) (waiting taker history) apart.elsewhere (inr h) ∙ h

pub in_hand_stays : (stamped : List (List ℕ)) (taker : Who) (m t : ℕ) (answer : Option (List ℕ))
    (history : History) (step : Step)
    → Legal stamped (step ∷ history) → IsApart taker step → IsInHand taker m t answer history
    → IsInHand taker m t answer (step ∷ history)
in_hand_stays stamped taker m t answer history step legal apart h =
    let now = taken_stays stamped history step legal t h.taking h.is_taken in
    record {
      empty = empty_stays taker history step apart h.empty;
      taking = now.0;
      is_taken = now.1;
      by = now.2.taker ∙ h.by;
      of = record { collector = ap (λ (w : Who). w.role) now.2.taker ∙ h.of.collector; message = now.2.of ∙ h.of.message; inside = now.2.door ∙ h.of.inside };
      only = λ u k e of. let was = no_new history step m u k apart.elsewhere e of in h.only u was.0 was.1 was.2;
      answers = replies_same taker history step m apart (λ u k e of. mine u k e (h.only u k e of)) (AreSurely answer)
          (λ r not_sure s. surely_more answer (replies history m) r not_sure s) h.answers;
    }
  where
    mine : (u : ℕ) (k : Taken) → taken history u ≡ Some k → u ≡ t → same_who taker k.taker ≡ true
    mine u k e same =
        let is : k ≡ h.taking = same_Some _ _ (sym e ∙ (ap (taken history) same ∙ h.is_taken)) in
        same_mine taker k (ap (λ (a : Taken). a.taker) is ∙ h.by)

-- over the steps of others: a start of the taker's own would empty the mailbox
pub waits_stays : (stamped : List (List ℕ)) (taker : Who) (m : ℕ) (bytes : List ℕ)
    (history : History) (step : Step)
    → Legal stamped (step ∷ history) → names_self (deed step.act) ≡ false
    → same_who taker step.act.who ≡ false
    → Waits taker m bytes history → Waits taker m bytes (step ∷ history)
waits_stays stamped taker m bytes history step legal elsewhere other h = record {
  alone = waiting_same (deed step.act) step.act.answer (same_who taker step.act.who) (waiting taker history) elsewhere (inl other) ∙ h.alone;
  sent = h.sent;
  is_sent = message_stays stamped history step legal m h.sent h.is_sent;
  same = h.same;
  untaken = λ u k e of. let was = no_new history step m u k elsewhere e of in h.untaken u was.0 was.1 was.2;
  unsure = replies_same taker history step m (foreign_apart taker step elsewhere other) (λ u k e of. absurd (h.untaken u k e of)) (AreSurely None)
      (λ r not_sure s. surely_more None (replies history m) r not_sure s) h.unsure;
}

-- ---- the message's own steps

-- a message that isn't there has no answer
no_replies : (stamped : List (List ℕ)) (history : History) → Legal stamped history → (m : ℕ)
    → message history m ≡ None → replies history m ≡ []
no_replies stamped [] legal m none = refl
no_replies stamped (step ∷ history) legal m none = go (deed step.act) (no_replies stamped history legal.0 m (earlier_none (message history m) refl))
  where
    earlier_none : (o : Option Message) → message history m ≡ o → message history m ≡ None
    earlier_none None e = e
    earlier_none (Some w) e = absurd (none-some w (sym none ∙ message_stays stamped history step legal m w e))

    go : (call : Deed) → replies history m ≡ []
        → replies_in m call step.act.who (is_done step.act.answer) history (replies history m) ≡ []
    go (Answers t bytes) before = pick (same_role step.act.who.role Collector) refl (taken history t) refl
      where
        R : Option Taken → Reply
        R o = record { bytes = bytes; done = is_done step.act.answer; inside = is_inside o }

        pick : (role : Bool) → same_role step.act.who.role Collector ≡ role → (o : Option Taken)
            → taken history t ≡ o
            → (if role && is_of step.act.who m o then R o ∷ replies history m else replies history m) ≡ []
        pick false role o e = before
        pick true role None e = before
        pick true role (Some k) e = both (same_who step.act.who k.taker) refl (k.of == m) refl
          where
            both : (a : Bool) → same_who step.act.who k.taker ≡ a → (b : Bool) → (k.of == m) ≡ b
                → (if a && b then R (Some k) ∷ replies history m else replies history m) ≡ []
            both true by true of =
                absurd (subst (λ o. IsFrontOf o k.bytes) (ap (message history) (nat_same k.of m of) ∙ earlier_none (message history m) refl)
                (taken_is_front stamped history legal.0 t k e
                (ap (λ (w : Who). w.role) (sym (who_same step.act.who k.taker by)) ∙ role_same step.act.who.role Collector role)))
            both true by false of = before
            both false by b of = before
    go call before = before

-- the message is sent
pub sends_waits : (stamped : List (List ℕ)) (taker : Who) (m : ℕ) (bytes : List ℕ)
    (history : History) (step : Step) (words : List (List ℕ)) (number of : ℕ)
    → Legal stamped (step ∷ history) → deed step.act ≡ Sends m self_address bytes
    → step.act.answer ≡ Done words number of
    → IsEmptyFor taker history → Waits taker m bytes (step ∷ history)
sends_waits stamped taker m bytes history step words number of legal is answer empty =
    let sent : Message = record { sender = step.act.who; address = self_address; bytes = bytes; done = is_done step.act.answer } in
    let fresh : message history m ≡ None = (subst (λ call. Agrees history step.act.who call step.act.answer) is legal.1.honest.agrees).0.1 in
    record {
      alone =
          ap (λ call. waiting_in call step.act.answer (same_who taker step.act.who) (waiting taker history)) is
          ∙ (ap (λ a. waiting_in (Sends m self_address bytes) a (same_who taker step.act.who) (waiting taker history)) answer
          ∙ (ap (λ b. if b then waiting taker history ++ m ∷ [] else waiting taker history) (bytes_self self_address)
          ∙ ap (λ ws. ws ++ m ∷ []) empty));
      sent = sent;
      is_sent = ap (λ call. message_in m call step.act.who (is_done step.act.answer) (message history m)) is
          ∙ ap (λ b. if b then Some sent else message history m) (nat_self m);
      same = refl;
      untaken = λ u k e t. no_taking u k (subst (λ call. taken_in u call step.act.answer step.act.who (taken history u) ≡ Some k) is e) t fresh;
      unsure =
          ap (λ call. list_any is_sure (replies_in m call step.act.who (is_done step.act.answer) history (replies history m))) is
          ∙ ap (list_any is_sure) (no_replies stamped history legal.0 m fresh);
    }
  where
    no_taking : (u : ℕ) (k : Taken) → taken history u ≡ Some k → IsTakingOf m k
        → message history m ≡ None → ⊥
    no_taking u k e t fresh =
        subst (λ o. IsFrontOf o k.bytes) (ap (message history) t.message ∙ fresh) (taken_is_front stamped history legal.0 u k e t.collector)

-- the oldest message is taken, and the taking gives all of it
pub record TakesWhole (taker : Who) (m : ℕ) (bytes : List ℕ) (words : List (List ℕ)) (number of : ℕ)
    (history : History) : Type 0 where
  pub words_are : words ≡ bytes ∷ []
  pub of_is : of ≡ m
  pub in_hand : IsInHand taker m number None history

pub takes_whole : (stamped : List (List ℕ)) (taker : Who) (m : ℕ) (bytes : List ℕ)
    (history : History) (step : Step) (wait : ℕ) (words : List (List ℕ)) (number of : ℕ)
    → taker.role ≡ Collector → Legal stamped (step ∷ history) → step.act.who ≡ taker
    → deed step.act ≡ Takes self_address wait → step.act.answer ≡ Done words number of
    → Waits taker m bytes history → TakesWhole taker m bytes words number of (step ∷ history)
takes_whole stamped taker m bytes history step wait words number of role legal by is answer h = record {
  words_are = ordered.1;
  of_is = ordered.0;
  in_hand = record {
    empty = by_call (λ call a. waiting_in call a (same_who taker step.act.who) (waiting taker history) ≡ []) emptied;
    taking = now;
    is_taken = by_call (λ call a. taken_in number call a step.act.who (taken history number) ≡ Some now)
        (ap (λ b. if b then Some now else taken history number) (nat_self number));
    by = by;
    of = record { collector = ap (λ (w : Who). w.role) by ∙ role; message = ordered.0; inside = refl };
    only = λ u k e t. once u k (as_call (λ call a. taken_in u call a step.act.who (taken history u) ≡ Some k) e) t;
    answers = subst (λ call. list_any is_sure (replies_in m call step.act.who (is_done step.act.answer) history (replies history m)) ≡ false) (sym is) h.unsure;
  };
}
  where
    at : AtTake history taker self_address words number of
    at =
        subst (λ w. AtTake history w self_address words number of) by
        (subst (λ a. Agrees history step.act.who (Takes self_address wait) a) answer
        (subst (λ call. Agrees history step.act.who call step.act.answer) is legal.1.honest.agrees))

    ordered : (of ≡ m) × (words ≡ bytes ∷ [])
    ordered =
        let order = subst (λ b. MatchBool b (MailboxOrder history (waiting taker history) words of) (Unit {0})) (bytes_self self_address) at.1 in
        let one : MailboxOrder history (m ∷ []) words of = subst (λ ws. MailboxOrder history ws words of) h.alone order in
        let whole : one.1 ≡ h.sent.bytes = subst (λ o. IsWholeOf o one.1) h.is_sent one.3 in
        (one.0, one.2 ∙ ap (λ b. b ∷ []) (whole ∙ h.same))

    now : Taken
    now = record { taker = step.act.who; door = self_address; of = of; bytes = bytes }

    given : step.act.answer ≡ Done (bytes ∷ []) number of
    given = answer ∙ ap (λ ws. Done ws number of) ordered.1

    by_call : (P : Deed → ActAnswer → Type 0)
        → P (Takes self_address wait) (Done (bytes ∷ []) number of)
        → P (deed step.act) step.act.answer
    by_call P h = subst (λ call. P call step.act.answer) (sym is) (subst (P (Takes self_address wait)) (sym given) h)

    as_call : (P : Deed → ActAnswer → Type 0) → P (deed step.act) step.act.answer
        → P (Takes self_address wait) (Done (bytes ∷ []) number of)
    as_call P h = subst (P (Takes self_address wait)) given (subst (λ call. P call step.act.answer) is h)

    emptied : (if bytes_eq self_address self_address then filter (λ n. not (n == of)) (waiting taker history) else waiting taker history) ≡ []
    emptied =
        ap (λ b. if b then filter (λ n. not (n == of)) (waiting taker history) else waiting taker history) (bytes_self self_address)
        ∙ (ap (filter (λ n. not (n == of))) h.alone
        ∙ ap (λ b. if not b then m ∷ [] else []) (ap (λ o. m == o) ordered.0 ∙ nat_self m))

    once : (u : ℕ) (k : Taken) → (if u == number then Some now else taken history u) ≡ Some k → IsTakingOf m k → u ≡ number
    once u k e t = pick (u == number) refl e
      where
        pick : (b : Bool) → (u == number) ≡ b → (if b then Some now else taken history u) ≡ Some k → u ≡ number
        pick true same g = nat_same u number same
        pick false same g = absurd (h.untaken u k g t)

tail_false : (b c : Bool) → b || c ≡ false → c ≡ false
tail_false true c e = absurd (true≢false e)
tail_false false c e = e

none_sure : (rs : List Reply) (bytes : List ℕ) → list_any is_sure rs ≡ false → WholeOfSure rs bytes
    → ⊥
none_sure [] bytes e w = w
none_sure (r ∷ rs) bytes e (inl w) = true≢false (sym (ap (λ b. b || list_any is_sure rs) w.0) ∙ e)
none_sure (r ∷ rs) bytes e (inr w) = none_sure rs bytes (tail_false (is_sure r) (list_any is_sure rs) e) w

-- the taken message is answered
pub answers_surely : (stamped : List (List ℕ)) (taker : Who) (m t : ℕ) (reply : List ℕ)
    (history : History) (step : Step) (words : List (List ℕ)) (number of : ℕ)
    → Legal stamped (step ∷ history) → step.act.who ≡ taker → deed step.act ≡ Answers t reply
    → step.act.answer ≡ Done words number of
    → IsInHand taker m t None history → IsInHand taker m t (Some reply) (step ∷ history)
answers_surely stamped taker m t reply history step words number of legal by is answer h =
    record {
      empty = subst (λ call. waiting_in call step.act.answer (same_who taker step.act.who) (waiting taker history) ≡ []) (sym is) h.empty;
      taking = h.taking;
      is_taken = subst (λ call. taken_in t call step.act.answer step.act.who (taken history t) ≡ Some h.taking) (sym is) h.is_taken;
      by = h.by;
      of = h.of;
      only = λ u k e of. h.only u k (subst (λ call. taken_in u call step.act.answer step.act.who (taken history u) ≡ Some k) is e) of;
      answers =
          subst (λ call. AreSurely (Some reply) (replies_in m call step.act.who (is_done step.act.answer) history (replies history m))) (sym is)
          (subst (AreSurely (Some reply)) (sym added) sure);
    }
  where
    added : replies_in m (Answers t reply) step.act.who (is_done step.act.answer) history (replies history m)
        ≡ record { bytes = reply; done = true; inside = true } ∷ replies history m
    added =
        ap (λ (o : Option Taken). if same_role step.act.who.role Collector && is_of step.act.who m o
        then record { bytes = reply; done = is_done step.act.answer; inside = is_inside o } ∷ replies history m else replies history m) h.is_taken
        ∙ rw (role, who, number_is, answer, door) refl
      where
        role : same_role step.act.who.role Collector ≡ true
        role = ap (λ (w : Who). same_role w.role Collector) (by ∙ sym h.by) ∙ ap (λ r. same_role r Collector) h.of.collector

        who : same_who step.act.who h.taking.taker ≡ true
        who = ap (λ w. same_who w h.taking.taker) (by ∙ sym h.by) ∙ who_self h.taking.taker

        number_is : (h.taking.of == m) ≡ true
        number_is = ap (λ n. n == m) h.of.message ∙ nat_self m

        door : bytes_eq h.taking.door self_address ≡ true
        door = ap (λ d. bytes_eq d self_address) h.of.inside ∙ bytes_self self_address

    sure : AreSurely (Some reply) (record { bytes = reply; done = true; inside = true } ∷ replies history m)
    sure = (refl, λ bytes whole. elim whole [ inl now ↦ now.1 | inr later ↦ absurd (none_sure (replies history m) bytes h.answers later) ])

-- what is got for it is the answer
pub got_is : (taker : Who) (m t : ℕ) (reply bytes : List ℕ) (history : History) (step : Step)
    (words : List (List ℕ)) (number of : ℕ)
    → Agrees history step.act.who (deed step.act) step.act.answer → deed step.act ≡ Gets m
    → step.act.answer ≡ Done (bytes ∷ words) number of
    → IsInHand taker m t (Some reply) history → bytes ≡ reply
got_is taker m t reply bytes history step words number of agrees is answer h =
    let got : GotAnswer (replies history m) bytes =
    subst (λ a. Agrees history step.act.who (Gets m) a) answer (subst (λ call. Agrees history step.act.who call step.act.answer) is agrees) in
    h.answers.1 bytes (subst (λ b. MatchBool b (WholeOfSure (replies history m) bytes) (FrontOfSome (replies history m) bytes)) h.answers.0 got)
