-- What is taken follows the outside's rules.
use Rattle.std.proofs.Common.{◌≡◌, inr, ℕ, Bool, true, false, List, [], ◌∷◌, ◌++◌, Option, Some, None, refl, sym, ◌∙◌, ap, subst, eq-eqb}
use Rattle.std.specs.Prelude.{◌≢◌, ◌==◌, not, filter, MatchBool, MatchOption, if◌then◌else◌, bytes_eq, option_map}
use Rattle.std.specs.List.{list_any, slice_get}
use Rattle.std.proofs.lemmas.List.{append-nil}
use Rattle.chk_site_mem_store.proofs.NamedLemmas.{same_bytes}
use denote.Ref.{Bor}
use Rattle.chk_site.specs.declared.acts.Who.{Who}
use Rattle.chk_site.specs.declared.acts.Role.{Role}
use Rattle.chk_site.specs.declared.acts.Role.TheVariants.{Agent}
use Rattle.chk_site.specs.declared.acts.ActAnswer.{ActAnswer}
use Rattle.chk_site.specs.declared.acts.ActAnswer.TheVariants.{Done}
use Rattle.chk_site.specs.declared.suffixes.Taking.{Taking}
use Rattle.chk_site.specs.Acts.{Deed, Starts, Sends, Takes, deed, is_done, same_who}
use Rattle.chk_site.specs.History.{Step, History}
use Rattle.chk_site.specs.Honest.{AtTake, IsFrontOf, IsWholeOf, MailboxOrder, TakenPrefix, TakesOne}
use Rattle.chk_site.specs.Messages.{Message, message, message_in, self_address, taken, waiting, waiting_in}
use Rattle.chk_site_mem_store.specs.Reads.{text_at}
use Rattle.chk_site_mem_calls.specs.declared.mail.Mailbox.{Mailbox}
use Rattle.chk_site_mem_calls.specs.declared.mail.Letter.{Letter}
use Rattle.chk_site_mem_calls.specs.declared.mail.Mail.{Mail}
use Rattle.chk_site_mem_calls.specs.declared.mail.Mail.TheVariants.{Nothing, Emptied, Came, Went}
use Rattle.chk_site_mem_calls.specs.Mail.{IsMailbox, IsNext, IsTaking, came, is_emptied, mail_in, waits, went, with_mail}
use Rattle.chk_site_mem_calls.specs.Plans.{TakesOldest}
use Rattle.chk_site_mem_calls.specs.Taken.{IsBehind}

-- what stands behind a front
pub behind_is : (message : Option (Bor (List ℕ))) (m : Bor (List ℕ)) (taken : List ℕ) (r : Option (Bor (List ℕ))) → message ≡ Some m
    → MatchOption r ((rest : List ℕ) → m.now ≢ taken ++ rest) (λ x. m.now ≡ taken ++ x.now) → IsBehind (text_at message) taken (text_at r)
behind_is message m taken r is strips = subst (λ o. IsBehind (text_at o) taken (text_at r)) (sym is) (by r strips)
  where
    by : (r : Option (Bor (List ℕ))) → MatchOption r ((rest : List ℕ) → m.now ≢ taken ++ rest) (λ x. m.now ≡ taken ++ x.now)
        → IsBehind (Some m.now) taken (text_at r)
    by None none = none
    by (Some x) is = is

-- the mailbox inside the process, after one act
waits_one : (who : Who) (box : Mailbox) → box.door.now ≡ self_address → box.repeated.now ≡ []
    → ((other : Who) → is_emptied box.taker other ≡ same_who who other) → (call : Deed) (answer : ActAnswer) (other : Who) (ws : List ℕ)
    → with_mail (mail_in box call answer other) ws ≡ waiting_in call answer (same_who who other) ws
waits_one who box door none empties Starts answer other ws =
    ap (λ (b : Bool). with_mail (if b then Emptied else Nothing) ws) (empties other) ∙ by (same_who who other)
  where
    by : (b : Bool) → with_mail (if b then Emptied else Nothing) ws ≡ (if b then [] else ws)
    by true = refl
    by false = refl
waits_one who box door none empties (Sends n address bytes) (Done words number of) other ws =
    ap (λ (d : List ℕ). with_mail (came n (Done words number of) (bytes_eq address d)) ws) door ∙ by (bytes_eq address self_address)
  where
    by : (b : Bool) → with_mail (came n (Done words number of) b) ws ≡ (if b then ws ++ n ∷ [] else ws)
    by true = refl
    by false = refl
waits_one who box door none empties (Takes at wait) (Done (bytes ∷ words) number of) other ws =
    ap (λ (d : List ℕ). with_mail (went box.repeated.now (Done (bytes ∷ words) number of) (bytes_eq at d)) ws) door
    ∙ ap (λ (r : List ℕ). with_mail (went r (Done (bytes ∷ words) number of) (bytes_eq at self_address)) ws) none
    ∙ by (bytes_eq at self_address)
  where
    by : (b : Bool) → with_mail (went [] (Done (bytes ∷ words) number of) b) ws ≡ (if b then filter (λ n. not (n == of)) ws else ws)
    by true = refl
    by false = refl
waits_one who box door none empties call answer other ws = refl

-- it has what waits for its taker
waits_waiting : (who : Who) (box : Mailbox) → box.door.now ≡ self_address → box.repeated.now ≡ []
    → ((other : Who) → is_emptied box.taker other ≡ same_who who other) → (h : History) → waits box h ≡ waiting who h
waits_waiting who box door none empties [] = refl
waits_waiting who box door none empties (step ∷ h) =
    ap (with_mail (mail_in box (deed step.act) step.act.answer step.act.who)) (waits_waiting who box door none empties h)
    ∙ waits_one who box door none empties (deed step.act) step.act.answer step.act.who (waiting who h)

-- the whole is a front
whole_front : (m : Option Message) (bytes : List ℕ) → IsWholeOf m bytes → IsFrontOf m bytes
whole_front None bytes none = none
whole_front (Some m) bytes whole = ([], sym whole ∙ sym (append-nil bytes))

taken_front : (role : Role) (of : ℕ) (m : Option Message) (bytes : List ℕ) → IsFrontOf m bytes → TakenPrefix role of m bytes
taken_front Agent of m bytes front = inr front
taken_front role of m bytes front = front

-- nothing is taken where nothing waits
none_order : (h : History) (ws : List ℕ) → IsNext h ws None → MailboxOrder h ws [] 0
none_order h [] is = refl
none_order h (n ∷ later) is = absurd is

-- what is taken is the next message, whole
next_order : (h : History) (ws : List ℕ) (letter : Letter) (taking : Taking) → IsNext h ws (Some letter) → IsTaking h letter taking
    → MailboxOrder h ws (taking.bytes ∷ []) letter.number
next_order h [] letter taking is takes = absurd is
next_order h (n ∷ later) letter taking is takes =
    (is.0, taking.bytes, refl, subst (IsWholeOf (message h n)) (sym takes.whole) is.1)

-- it is one that may be taken
next_taken : (h : History) (who : Who) (ws : List ℕ) (letter : Letter) (taking : Taking) → IsNext h ws (Some letter) → IsTaking h letter taking
    → TakesOne h who (taking.bytes ∷ []) taking.number letter.number
next_taken h who [] letter taking is takes = absurd is
next_taken h who (n ∷ later) letter taking is takes =
    let whole : IsWholeOf (message h n) taking.bytes = subst (IsWholeOf (message h n)) (sym takes.whole) is.1 in
    let front = taken_front who.role n (message h n) taking.bytes (whole_front (message h n) taking.bytes whole) in
    (refl, takes.numbered, takes.fresh, subst (λ (k : ℕ). TakenPrefix who.role k (message h k) taking.bytes) (sym is.0) front)

-- at the mailbox inside the process, what waits there does
as_waiting : (h : History) (who : Who) (door repeated : List ℕ) (box : Mailbox) → IsMailbox who door repeated box
    → bytes_eq door self_address ≡ true → waits box h ≡ waiting who h
as_waiting h who door repeated box is = by (bytes_eq door self_address) refl is.1
  where
    by : (b : Bool) → bytes_eq door self_address ≡ b
        → MatchBool b
        ((box.repeated.now ≡ []) × ((other : Who) → is_emptied box.taker other ≡ same_who who other))
        ((box.repeated.now ≡ repeated) × ((other : Who) → is_emptied box.taker other ≡ false))
        → bytes_eq door self_address ≡ true → waits box h ≡ waiting who h
    by true e inside at = waits_waiting who box (is.0 ∙ same_bytes door self_address at) inside.0 inside.1 h
    by false e inside at = absurd (cc)

-- at the mailbox inside the process, its order is that of the outside's rules
in_order : (h : History) (who : Who) (door repeated : List ℕ) (box : Mailbox) (words : List (List ℕ)) (of : ℕ)
    → IsMailbox who door repeated box → MailboxOrder h (waits box h) words of
    → MatchBool (bytes_eq door self_address) (MailboxOrder h (waiting who h) words of) (Unit {0})
in_order h who door repeated box words of is order = by (bytes_eq door self_address) (as_waiting h who door repeated box is)
  where
    by : (b : Bool) → (b ≡ true → waits box h ≡ waiting who h)
        → MatchBool b (MailboxOrder h (waiting who h) words of) (Unit {0})
    by true same = subst (λ (ws : List ℕ). MailboxOrder h ws words of) (same refl) order
    by false same = tt

-- a taking from a mailbox agrees with the history and loses nothing
pub record FollowsRules (repeated : List ℕ) (h : History) (who : Who) (door : List ℕ) (words : List (List ℕ)) (number of : ℕ) : Type 0 where
  pub agrees : AtTake h who door words number of
  pub loses : TakesOldest repeated h who door words of

pub none_taken : (h : History) (who : Who) (door repeated : List ℕ) (box : Mailbox) → IsMailbox who door repeated box
    → IsNext h (waits box h) None → FollowsRules repeated h who door [] 0 0
none_taken h who door repeated box is none =
    let order = none_order h (waits box h) none in
    record {
      agrees = (tt, in_order h who door repeated box [] 0 is order);
      loses = record { box = box; at = is; oldest = order };
    }

pub some_taken : (h : History) (who : Who) (door repeated : List ℕ) (box : Mailbox) (letter : Letter) (taking : Taking)
    → IsMailbox who door repeated box → IsNext h (waits box h) (Some letter) → IsTaking h letter taking
    → FollowsRules repeated h who door (taking.bytes ∷ []) taking.number letter.number
some_taken h who door repeated box letter taking is oldest takes =
    let order = next_order h (waits box h) letter taking oldest takes in
    record {
      agrees = (
        next_taken h who (waits box h) letter taking oldest takes,
        in_order h who door repeated box (taking.bytes ∷ []) letter.number is order,
      );
      loses = record { box = box; at = is; oldest = order };
    }

-- the message is there
abbrev There : Option Message → Type 0
There None = ⊥
There (Some m) = Unit {0}

-- what comes was sent
abbrev Fits : (ℕ → Option Message) → Mail → Type 0
Fits at (Came n) = There (at n)
Fits at mail = Unit {0}

fits_in : (box : Mailbox) (call : Deed) (answer : ActAnswer) (who : Who) (done : Bool) (earlier : ℕ → Option Message)
    → Fits (λ n. message_in n call who done (earlier n)) (mail_in box call answer who)
fits_in box Starts answer who done earlier = by (is_emptied box.taker who)
  where
    by : (b : Bool) → Fits (λ n. message_in n Starts who done (earlier n)) (if b then Emptied else Nothing)
    by true = tt
    by false = tt
fits_in box (Sends n address bytes) (Done words number of) who done earlier = by (bytes_eq address box.door.now)
  where
    there : (b : Bool) → b ≡ true
        → There (if b then Some (record { sender = who; address = address; bytes = bytes; done = done }) else earlier n)
    there true e = tt
    there false e = absurd (cc)

    by : (b : Bool) → Fits (λ k. message_in k (Sends n address bytes) who done (earlier k)) (came n (Done words number of) b)
    by true = there (n == n) (eq-eqb n n refl)
    by false = tt
fits_in box (Takes at wait) (Done (bytes ∷ words) number of) who done earlier =
    by (bytes_eq at box.door.now) (list_any (λ t. t == number) box.repeated.now)
  where
    by : (b c : Bool)
        → Fits (λ n. message_in n (Takes at wait) who done (earlier n)) (elim b [ true ↦ if c then Nothing else Went of | false ↦ Nothing ])
    by true true = tt
    by true false = tt
    by false c = tt
fits_in box call answer who done earlier = tt

-- each of these messages is there
abbrev Sent : (ℕ → Option Message) → List ℕ → Type 0
Sent at [] = Unit {0}
Sent at (n ∷ ns) = There (at n) × Sent at ns

sent_push : (at : ℕ → Option Message) (ns : List ℕ) (n : ℕ) → Sent at ns → There (at n) → Sent at (ns ++ n ∷ [])
sent_push at [] n sent there = (there, tt)
sent_push at (k ∷ ns) n sent there = (sent.0, sent_push at ns n sent.1 there)

sent_some : (at : ℕ → Option Message) (test : ℕ → Bool) (ns : List ℕ) → Sent at ns → Sent at (filter test ns)
sent_some at test [] sent = tt
sent_some at test (n ∷ ns) sent = by (test n) (sent_some at test ns sent.1)
  where
    by : (b : Bool) → Sent at (filter test ns) → Sent at (if b then n ∷ filter test ns else filter test ns)
    by true rest = (sent.0, rest)
    by false rest = rest

sent_with : (at : ℕ → Option Message) (mail : Mail) (ns : List ℕ) → Fits at mail → Sent at ns → Sent at (with_mail mail ns)
sent_with at Nothing ns fits sent = sent
sent_with at Emptied ns fits sent = tt
sent_with at (Came n) ns fits sent = sent_push at ns n sent fits
sent_with at (Went n) ns fits sent = sent_some at (λ m. not (m == n)) ns sent

-- a message stays
stays_there : (n : ℕ) (call : Deed) (who : Who) (done : Bool) (earlier : Option Message) → There earlier
    → There (message_in n call who done earlier)
stays_there n (Sends k address bytes) who done earlier there = by (n == k)
  where
    by : (b : Bool) → There (if b then Some (record { sender = who; address = address; bytes = bytes; done = done }) else earlier)
    by true = tt
    by false = there
stays_there n call who done earlier there = there

stay_sent : (step : Step) (h : History) (ns : List ℕ) → Sent (message h) ns → Sent (message (step ∷ h)) ns
stay_sent step h [] sent = tt
stay_sent step h (n ∷ ns) sent =
    (stays_there n (deed step.act) step.act.who (is_done step.act.answer) (message h n) sent.0, stay_sent step h ns sent.1)

waits_sent : (box : Mailbox) (h : History) → Sent (message h) (waits box h)
waits_sent box [] = tt
waits_sent box (step ∷ h) =
    sent_with (message (step ∷ h)) (mail_in box (deed step.act) step.act.answer step.act.who) (waits box h)
    (fits_in box (deed step.act) step.act.answer step.act.who (is_done step.act.answer) (message h))
    (stay_sent step h (waits box h) (waits_sent box h))

-- the first that waits was sent
pub first_sent : (box : Mailbox) (h : History) (ws : List ℕ) (n : ℕ) → ws ≡ waits box h → slice_get ws 0 ≡ Some n
    → option_map (λ (m : Message). m.bytes) (message h n) ≡ None → ⊥
first_sent box h ws n same first none =
    by ws first (subst (Sent (message h)) (sym same) (waits_sent box h)) (message h n) refl none
  where
    is_none : (m : Option Message) → There m → option_map (λ (m : Message). m.bytes) m ≡ None → ⊥
    is_none None there none = there
    is_none (Some m) there none = absurd (cc)

    by : (ws : List ℕ) → slice_get ws 0 ≡ Some n → Sent (message h) ws → (m : Option Message) → message h n ≡ m
        → option_map (λ (m : Message). m.bytes) m ≡ None → ⊥
    by [] first sent m is none = absurd (cc)
    by (k ∷ ws) first sent m is none =
        let same : k ≡ n = cc in
        is_none m (subst There (ap (message h) same ∙ is) sent.0) none
