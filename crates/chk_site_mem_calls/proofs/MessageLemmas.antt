-- What is found of messages by going through the acts.
use Rattle.std.proofs.Common.{◌≡◌, ℕ, ◌+◌, Bool, true, false, List, ◌∷◌, ◌++◌, take, Option, Some, None, refl, sym, ◌∙◌, ap}
use Rattle.std.specs.Prelude.{◌==◌, ◌&&◌, option_map, if◌then◌else◌, bytes_eq}
use Rattle.chk_site.specs.declared.acts.Act.{Act}
use Rattle.chk_site.specs.declared.acts.Who.{Who}
use Rattle.chk_site.specs.declared.acts.Role.TheVariants.{Collector}
use Rattle.chk_site.specs.declared.acts.ActAnswer.{ActAnswer}
use Rattle.chk_site.specs.declared.acts.ActAnswer.TheVariants.{Done}
use Rattle.chk_site.specs.Acts.{Deed, Sends, Takes, TakesMore, Answers, deed, is_done, same_role, same_who}
use Rattle.chk_site.specs.History.{History}
use Rattle.chk_site.specs.Messages.{Message, Taken, Reply, message, message_in, taken, taken_in, with_more, is_of, is_inside, replies, replies_in, self_address}
use Rattle.chk_site_mem_store.specs.Told.{Kept, told_of}
use Rattle.chk_site_mem_store.proofs.PastLemmas.{Past, past_more}
use Rattle.chk_site_mem_calls.specs.declared.mail.Mailbox.{Mailbox}
use Rattle.chk_site_mem_calls.specs.Mail.{mail_in, waits, with_mail}
use Rattle.chk_site_mem_calls.specs.Taken.{sent_in}
use Rattle.chk_site_mem_calls.specs.Replies.{TakenBy, taker_of, noted, reply_to, reply_by, older_of, oldest_where}

sent_one : (n : ℕ) (call : Deed) (who : Who) (done : Bool) (earlier : Option Message)
    → option_map (λ (m : Message). m.bytes) (message_in n call who done earlier) ≡ sent_in n call (option_map (λ (m : Message). m.bytes) earlier)
sent_one n (Sends k address bytes) who done earlier = by (n == k)
  where
    by : (b : Bool) → option_map (λ (m : Message). m.bytes)
        (if b then Some (record { sender = who; address = address; bytes = bytes; done = done }) else earlier)
        ≡ (if b then Some bytes else option_map (λ (m : Message). m.bytes) earlier)
    by true = refl
    by false = refl
sent_one n call who done earlier = refl

-- the message of this number, after one act more
pub sent_more : (kept : List Kept) (i : ℕ) (act : Act) (n : ℕ) → Past kept i act
    → option_map (λ (m : Message). m.bytes) (message (told_of (take (i + 1) kept)) n)
    ≡ sent_in n (deed act) (option_map (λ (m : Message). m.bytes) (message (told_of (take i kept)) n))
sent_more kept i act n past =
    past_more (λ (h : History). option_map (λ (m : Message). m.bytes) (message h n)) (λ (a : Act). sent_in n (deed a))
    (λ step h. sent_one n (deed step.act) step.act.who (is_done step.act.answer) (message h n)) kept i act past

-- what was taken under this number, after one act more
pub taken_more : (kept : List Kept) (i : ℕ) (act : Act) (n : ℕ) → Past kept i act
    → taken (told_of (take (i + 1) kept)) n ≡ taken_in n (deed act) act.answer act.who (taken (told_of (take i kept)) n)
taken_more kept i act n past =
    past_more (λ (h : History). taken h n) (λ (a : Act) e. taken_in n (deed a) a.answer a.who e) (λ step h. refl) kept i act past

-- what waits in a mailbox, after one act more
pub waits_more : (box : Mailbox) (kept : List Kept) (i : ℕ) (act : Act) → Past kept i act
    → waits box (told_of (take (i + 1) kept)) ≡ with_mail (mail_in box (deed act) act.answer act.who) (waits box (told_of (take i kept)))
waits_more box kept i act past =
    past_more (waits box) (λ (a : Act) ws. with_mail (mail_in box (deed a) a.answer a.who) ws) (λ step h. refl) kept i act past

-- who took the message, after one act
taker_one : (m t : ℕ) (call : Deed) (answer : ActAnswer) (who : Who) (earlier : Option Taken)
    → taker_of m (taken_in t call answer who earlier) ≡ noted m t call answer who (taker_of m earlier)
taker_one m t (Takes door wait) (Done (bytes ∷ words) number of) who earlier = by (t == number)
  where
    by : (b : Bool) → taker_of m (if b then Some (record { taker = who; door = door; of = of; bytes = bytes }) else earlier)
        ≡ (if b
        then (if of == m then Some (record { taker = who; inside = bytes_eq door self_address }) else None)
        else taker_of m earlier)
    by true = refl
    by false = refl
taker_one m t (TakesMore n) (Done (bytes ∷ words) number of) who earlier = by (t == n) earlier
  where
    alike : (b : Bool) (k : Taken)
        → taker_of m (if b then Some (record { taker = k.taker; door = k.door; of = k.of; bytes = k.bytes ++ bytes }) else Some k)
        ≡ taker_of m (Some k)
    alike true k = refl
    alike false k = refl

    by : (b : Bool) (e : Option Taken) → taker_of m (if b then with_more who bytes e else e) ≡ taker_of m e
    by true None = refl
    by true (Some k) = alike (same_who who k.taker) k
    by false e = refl
taker_one m t call answer who earlier = refl

pub taker_more : (m t : ℕ) (kept : List Kept) (i : ℕ) (act : Act) → Past kept i act
    → taker_of m (taken (told_of (take (i + 1) kept)) t) ≡ noted m t (deed act) act.answer act.who (taker_of m (taken (told_of (take i kept)) t))
taker_more m t kept i act past =
    past_more (λ (h : History). taker_of m (taken h t)) (λ (a : Act) e. noted m t (deed a) a.answer a.who e)
    (λ step h. taker_one m t (deed step.act) step.act.answer step.act.who (taken h t)) kept i act past

-- no answer more
none_older : (test : Reply → Bool) (found : Option (List ℕ)) → found ≡ older_of test found None
none_older test None = refl
none_older test (Some bytes) = refl

reply_one : (test : Reply → Bool) (m : ℕ) (call : Deed) (who : Who) (done : Bool) (h : History) (earlier : List Reply)
    → oldest_where test (replies_in m call who done h earlier)
    ≡ older_of test (oldest_where test earlier) (reply_by call who done (λ t. taker_of m (taken h t)))
reply_one test m (Answers t bytes) who done h earlier = by (same_role who.role Collector) (taken h t)
  where
    of_taking : (k : Taken) (mine of : Bool) → mine ≡ same_who who k.taker
        → oldest_where test (if mine && of then record { bytes = bytes; done = done; inside = bytes_eq k.door self_address } ∷ earlier else earlier)
        ≡ older_of test (oldest_where test earlier)
        (reply_to who bytes done (if of then Some (record { taker = k.taker; inside = bytes_eq k.door self_address }) else None))
    of_taking k true false e = none_older test (oldest_where test earlier)
    of_taking k false false e = none_older test (oldest_where test earlier)
    of_taking k true true e = ap (λ (b : Bool). older_of test (oldest_where test earlier)
        (if b then Some (record { bytes = bytes; done = done; inside = bytes_eq k.door self_address }) else None)) e
    of_taking k false true e = none_older test (oldest_where test earlier)
        ∙ ap (λ (b : Bool). older_of test (oldest_where test earlier)
        (if b then Some (record { bytes = bytes; done = done; inside = bytes_eq k.door self_address }) else None)) e

    by : (b : Bool) (e : Option Taken)
        → oldest_where test (if b && is_of who m e then record { bytes = bytes; done = done; inside = is_inside e } ∷ earlier else earlier)
        ≡ older_of test (oldest_where test earlier) (if b then reply_to who bytes done (taker_of m e) else None)
    by false e = none_older test (oldest_where test earlier)
    by true None = none_older test (oldest_where test earlier)
    by true (Some k) = of_taking k (same_who who k.taker) (k.of == m) refl
reply_one test m call who done h earlier = none_older test (oldest_where test earlier)

-- the oldest answer that passes a test, after one act more
pub reply_more : (test : Reply → Bool) (m : ℕ) (kept : List Kept) (i : ℕ) (act : Act) (at : ℕ → Option TakenBy) → Past kept i act
    → ((t : ℕ) → at t ≡ taker_of m (taken (told_of (take i kept)) t))
    → oldest_where test (replies (told_of (take (i + 1) kept)) m)
    ≡ older_of test (oldest_where test (replies (told_of (take i kept)) m)) (reply_by (deed act) act.who (is_done act.answer) at)
reply_more test m kept i act at past same =
    let h = told_of (take i kept) in
    let older = λ (r : Option Reply). older_of test (oldest_where test (replies h m)) r in
    ap (λ (h : History). oldest_where test (replies h m)) past.goes_on
    ∙ reply_one test m (deed past.step.act) past.step.act.who (is_done past.step.act.answer) h (replies h m)
    ∙ ap (λ (a : Act). older (reply_by (deed a) a.who (is_done a.answer) (λ t. taker_of m (taken h t)))) past.act_is
    ∙ ap older (sym (reply_same (deed act) act.who (is_done act.answer) at (λ t. taker_of m (taken h t)) same))
  where
    reply_same : (call : Deed) (who : Who) (done : Bool) (f g : ℕ → Option TakenBy) → ((t : ℕ) → f t ≡ g t)
        → reply_by call who done f ≡ reply_by call who done g
    reply_same (Answers t bytes) who done f g same =
        ap (λ e. if same_role who.role Collector then reply_to who bytes done e else None) (same t)
    reply_same call who done f g same = refl
