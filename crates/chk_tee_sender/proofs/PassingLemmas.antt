-- One subscriber after the other.
use Rattle.std.proofs.Common.{◌≡◌, ℕ, suc, ◌+◌, ◌<◌, ◌≤◌, List, [], ◌∷◌, ◌++◌, length, take, drop, get_or, remove, Option, Result, Ok, Err, refl, sym, ap, ◌∙◌, subst, arith, append_assoc, append-nil}
use Rattle.std.proofs.lemmas.List.{take-append-drop, take_all, drop_all, length-take-le, take_at, drop_at, length-append, length-drop}
use Rattle.std.proofs.Math.Seq.{drop-cons}
use Rattle.std.proofs.lemmas.List.{take_more}
use Rattle.chk_bytes.specs.declared.NoMemory.{NoMemory}
use Rattle.chk_site.specs.declared.acts.Who.{Who}
use Rattle.chk_site.specs.History.{History}
use Rattle.chk_site.specs.Site.{Rose}
use Rattle.chk_tee.specs.Messages.{Teed}
use Rattle.chk_tee_sender.specs.declared.Subscriber.{Subscriber}
use Rattle.chk_tee_sender.specs.declared.sending.Sending.TheVariants.{Nothing, Sent, Lost}
use Rattle.chk_tee_sender.specs.Sending.{PassesOn, IsPassedTo, all_passed, passed_by, sent_to, dropped, ended}
use Rattle.chk_tee_sender.specs.Passing.{IsCaused}

-- with these numbers
as_numbers : {who : Who} {items : List Teed} {all stay kept : List Subscriber} {s t n m : ℕ} {end : Result (Unit {0}) NoMemory} {old new : Option History}
    → stay ≡ kept → s ≡ t → n ≡ m → PassesOn who items all stay s n end old new → PassesOn who items all kept t m end old new
as_numbers {who = who} {items = items} {all = all} {kept = kept} {s = s} {t = t} {n = n} {end = end} {old = old} {new = new} p q r passes =
    subst (λ (k : ℕ). PassesOn who items all kept t k end old new) r
    (subst (λ (k : ℕ). PassesOn who items all kept k n end old new) q
    (subst (λ (k : List Subscriber). PassesOn who items all k s n end old new) p passes))

-- what is done with the rest from here is done with all from the beginning
abbrev pub GoesOn : Who → List Teed → List Subscriber → Option History → List Subscriber → ℕ → ℕ → ℕ → Option History → Type 0
GoesOn who items all first xs at sent lost now =
    (stay : List Subscriber) (s n : ℕ) (end : Result (Unit {0}) NoMemory) (new : Option History)
    → PassesOn who items (drop at xs) stay s n end now new
    → PassesOn who items all (take at xs ++ stay) (sent + s) (lost + n) end first new

pub begins : (who : Who) (items : List Teed) (all : List Subscriber) (now : Option History) → GoesOn who items all now all 0 0 0 now
begins who items all now stay s n end new passes = as_numbers refl (omega arith) (omega arith) passes

rest_is : (xs : List Subscriber) (at : ℕ) (x : Subscriber) → at < length xs → x ≡ get_or xs at x
    → drop at xs ≡ x ∷ drop (at + 1) xs
rest_is xs at x within is =
    let next : suc at ≡ at + 1 = omega arith in
    drop-cons xs at x within ∙ (ap (λ (y : Subscriber). y ∷ drop (suc at) xs) (sym is) ∙ ap (λ k. x ∷ drop k xs) next)

front_is : (xs stay : List Subscriber) (at : ℕ) (x : Subscriber) → at < length xs → x ≡ get_or xs at x
    → take at xs ++ (x ∷ stay) ≡ take (at + 1) xs ++ stay
front_is xs stay at x within is =
    sym (append_assoc (take at xs) (x ∷ []) stay)
    ∙ ap (λ l. l ++ stay) (ap (λ (y : Subscriber). take at xs ++ y ∷ []) is ∙ sym (take_more xs at x within))

pub next_by : (who : Who) (items : List Teed) (all : List Subscriber) (first : Option History) (xs : List Subscriber) (at sent lost : ℕ)
    (now mid : Option History) (x : Subscriber) → at < length xs → x ≡ get_or xs at x
    → GoesOn who items all first xs at sent lost now → IsPassedTo who items x (Ok Nothing) now mid
    → GoesOn who items all first xs (at + 1) sent lost mid
next_by who items all first xs at sent lost now mid x within is on one stay s n end new passes =
    as_numbers (front_is xs stay at x within is) refl refl
    (on (x ∷ stay) s n end new
    (subst (λ (l : List Subscriber). PassesOn who items l (x ∷ stay) s n end now new) (sym (rest_is xs at x within is)) (passed_by one passes)))

pub next_sent : (who : Who) (items : List Teed) (all : List Subscriber) (first : Option History) (xs : List Subscriber) (at sent lost : ℕ)
    (now mid : Option History) (x : Subscriber) → at < length xs → x ≡ get_or xs at x
    → GoesOn who items all first xs at sent lost now → IsPassedTo who items x (Ok Sent) now mid
    → GoesOn who items all first xs (at + 1) (sent + 1) lost mid
next_sent who items all first xs at sent lost now mid x within is on one stay s n end new passes =
    as_numbers (front_is xs stay at x within is) (omega arith) refl
    (on (x ∷ stay) (suc s) n end new
    (subst (λ (l : List Subscriber). PassesOn who items l (x ∷ stay) (suc s) n end now new) (sym (rest_is xs at x within is)) (sent_to one passes)))

pub length_removed : (xs : List Subscriber) (at : ℕ) → at < length xs → length (remove xs at) + 1 ≡ length xs
length_removed xs at within =
    let front : length (take at xs) ≡ at = length-take-le at xs (omega arith) in
    omega (arith, length-append (take at xs) (drop (suc at) xs), length-drop (suc at) xs)

take_kept : (xs : List Subscriber) (at : ℕ) → at ≤ length xs → take at (remove xs at) ≡ take at xs
take_kept xs at within = take_at (take at xs) (drop (suc at) xs) at (length-take-le at xs within)

drop_kept : (xs : List Subscriber) (at : ℕ) → at ≤ length xs → drop at (remove xs at) ≡ drop (suc at) xs
drop_kept xs at within = drop_at (take at xs) (drop (suc at) xs) at (length-take-le at xs within)

pub next_lost : (who : Who) (items : List Teed) (all : List Subscriber) (first : Option History) (xs ys : List Subscriber) (at sent lost : ℕ)
    (now mid : Option History) (x : Subscriber) → at < length xs → x ≡ get_or xs at x → ys ≡ remove xs at
    → GoesOn who items all first xs at sent lost now → IsPassedTo who items x (Ok Lost) now mid
    → GoesOn who items all first ys at sent (lost + 1) mid
next_lost who items all first xs ys at sent lost now mid x within is less on one stay s n end new passes =
    let next : suc at ≡ at + 1 = omega arith in
    let later : drop at ys ≡ drop (at + 1) xs = ap (drop at) less ∙ (drop_kept xs at (omega arith) ∙ ap (λ k. drop k xs) next) in
    let front : take at ys ≡ take at xs = ap (take at) less ∙ take_kept xs at (omega arith) in
    as_numbers (ap (λ l. l ++ stay) (sym front)) refl (omega arith)
    (on stay s (suc n) end new
    (subst (λ (l : List Subscriber). PassesOn who items l stay s (suc n) end now new) (sym (rest_is xs at x within is))
    (dropped one (subst (λ (l : List Subscriber). PassesOn who items l stay s n end mid new) later passes))))

pub all_done : (who : Who) (items : List Teed) (all : List Subscriber) (first : Option History) (xs : List Subscriber) (at sent lost : ℕ)
    (now : Option History) → length xs ≤ at → GoesOn who items all first xs at sent lost now
    → PassesOn who items all xs sent lost (Ok tt) first now
all_done who items all first xs at sent lost now past on =
    as_numbers (append-nil (take at xs) ∙ take_all at xs past) (omega arith) (omega arith)
    (on [] 0 0 (Ok tt) now (subst (λ (l : List Subscriber). PassesOn who items l [] 0 0 (Ok tt) now now) (sym (drop_all at xs past)) all_passed))

pub gave_up : (who : Who) (items : List Teed) (all : List Subscriber) (first : Option History) (xs : List Subscriber) (at sent lost : ℕ)
    (now new : Option History) (x : Subscriber) (fault : NoMemory) → at < length xs → x ≡ get_or xs at x
    → GoesOn who items all first xs at sent lost now → IsPassedTo who items x (Err fault) now new
    → PassesOn who items all xs sent lost (Err fault) first new
gave_up who items all first xs at sent lost now new x fault within is on one =
    let rest : drop at xs ≡ x ∷ drop (at + 1) xs = rest_is xs at x within is in
    as_numbers (take-append-drop at xs) (omega arith) (omega arith)
    (on (drop at xs) 0 0 (Err fault) new
    (subst (λ (l : List Subscriber). PassesOn who items l l 0 0 (Err fault) now new) (sym rest) (ended one)))

-- ---- the count of faults

pub cause_kept : (lost first before now : ℕ) → IsCaused lost first before → now ≡ before → IsCaused lost first now
cause_kept lost first before now h same = record {
  none = λ e. same ∙ h.none e;
  some = λ e. let rose : Rose first before = h.some e in omega arith;
  stays = let less : first ≤ before = h.stays in omega arith;
}

pub cause_more : (lost first before now : ℕ) → IsCaused lost first before → Rose before now × (before ≤ now)
    → IsCaused (lost + 1) first now
cause_more lost first before now h rose =
    let less : first ≤ before = h.stays in
    let up : Rose before now = rose.0 in
    let on : before ≤ now = rose.1 in
    record {
      none = λ e. absurd (omega arith);
      some = λ e. omega arith;
      stays = omega arith;
    }

-- without a subscriber nothing is done
pub nobody : (who : Who) (items : List Teed) (xs : List Subscriber) (now : Option History) → length xs ≡ 0
    → PassesOn who items xs xs 0 0 (Ok tt) now now
nobody who items [] now none = all_passed
nobody who items (x ∷ xs) now none = absurd (omega arith)
