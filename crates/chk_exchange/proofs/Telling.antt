-- The line of a fault says which fault it is.
use Rattle.std.proofs.Common.{◌≡◌, inl, inr, ℕ, Bool, true, false, List, [], ◌∷◌, ◌++◌, Some, None, Result, Ok, Err, ◌≢◌, ap, sym, ◌∙◌, refl, decimal, ◌<◌, ◌⊎◌, arith}
use Rattle.std.specs.Prelude.{IsTrue, IfOk, IfErr, codes, ◌==◌}
use Rattle.std.proofs.lemmas.Bool.{cases_lt}
use Rattle.std.proofs.lemmas.List.{append_cancel_left, append_cancel_right, append_assoc}
use Rattle.std.proofs.lemmas.Option.{same_Some, none-some}
use Rattle.chk_bytes.specs.Numbers.{limit, plain_number}
use Rattle.chk_bytes.specs.Words.{is_word, lacks, SplitsAt}
use Rattle.chk_bytes.proofs.DecimalLemmas.{plain_number-Some, plain_number-decimal}
use Rattle.chk_bytes.proofs.PartLemmas.{same_split}
use Rattle.chk_site.specs.declared.acts.Call.{Call}
use Rattle.chk_site.specs.declared.acts.Call.TheVariants.{Start, LogRead, LogNewest, LogAppend, Create, Append, Sync, Rename, Remove, Cut, Size, Read, List as ListNames, Clock, Pause, Send, Got, Take, More, Answer, Say}
use Rattle.chk_site.specs.CallNames.{call_name}
use Rattle.chk_http_grammar.proofs.Apart.{unparted, no_mark}
use Rattle.chk_sink.specs.declared.fault.SinkFault.{SinkFault}
use Rattle.chk_sink.specs.declared.fault.SinkFault.TheVariants.{Outside as sink_outside, Damaged as sink_damaged, Spent as sink_spent, NoMemory as sink_wanting}
use Rattle.chk_collector.specs.Outcomes.{line, sink_fault_text}
use Rattle.chk_exchange.specs.declared.fault.ExchangeFault.{ExchangeFault}
use Rattle.chk_exchange.specs.declared.fault.ExchangeFault.TheVariants.{Outside, Damaged, Spent}
use Rattle.chk_exchange.specs.Faults.{IsTold, IsUntold, called}

-- a line has one text
pub text_same : (bytes text : List ℕ) (fault : SinkFault) → bytes ≡ text ++ 10 ∷ []
    → bytes ≡ line (sink_fault_text fault)
    → text ≡ sink_fault_text fault
text_same bytes text fault is told =
    append_cancel_right text (sink_fault_text fault) (10 ∷ []) (sym is ∙ told)

-- each call is found by its name
by_name : (call : Call) → called (call_name call) ≡ Some call
by_name Start = refl
by_name LogRead = refl
by_name LogNewest = refl
by_name LogAppend = refl
by_name Create = refl
by_name Append = refl
by_name Sync = refl
by_name Rename = refl
by_name Remove = refl
by_name Cut = refl
by_name Size = refl
by_name Read = refl
by_name ListNames = refl
by_name Clock = refl
by_name Pause = refl
by_name Send = refl
by_name Got = refl
by_name Take = refl
by_name More = refl
by_name Answer = refl
by_name Say = refl

-- the first byte of a text, or 0
abbrev first : List ℕ → ℕ
first [] = 0
first (b ∷ bytes) = b

-- what stands behind `outside ` names the call
pub outside_told : (name : List ℕ) (call : Call) → called name ≡ Some call → (fault : SinkFault)
    → codes "outside " ++ name ≡ sink_fault_text fault → IsTold fault (Outside call)
outside_told name call found (sink_outside other) same =
    let e : name ≡ call_name other =
    append_cancel_left (codes "outside ") name (call_name other) same in
    ap Outside (same_Some call other (sym found ∙ (ap called e ∙ by_name other)))
outside_told name call found (sink_damaged other at) same =
    absurd (let e : 111 ≡ 100 = ap first same in omega (arith, e))
outside_told name call found (sink_spent born) same =
    absurd (let e : 111 ≡ 115 = ap first same in omega (arith, e))
outside_told name call found sink_wanting same =
    absurd (let e : 111 ≡ 0 = ap first same in omega (arith, e))

-- what stands behind `spent ` is the number
pub spent_told : (digits : List ℕ) (n : ℕ) → plain_number digits ≡ Some n → (fault : SinkFault)
    → codes "spent " ++ digits ≡ sink_fault_text fault → IsTold fault (Spent n)
spent_told digits n read (sink_outside call) same =
    absurd (let e : 115 ≡ 111 = ap first same in omega (arith, e))
spent_told digits n read (sink_damaged name at) same =
    absurd (let e : 115 ≡ 100 = ap first same in omega (arith, e))
spent_told digits n read (sink_spent born) same =
    let plain = plain_number-Some digits n read in
    (n, refl, plain.1, plain.0 ∙ append_cancel_left (codes "spent ") digits (decimal born) same)
spent_told digits n read sink_wanting same =
    absurd (let e : 115 ≡ 0 = ap first same in omega (arith, e))

-- what stands behind `damaged ` names a file and a place
pub damaged_told : {E : Type 0} (place : List ℕ) (result : Result ExchangeFault E)
    → ((name : List ℕ) (at : ℕ) → place ≡ name ++ 32 ∷ decimal at
    → IfOk result (IsTold (sink_damaged name at)))
    → (fault : SinkFault) → codes "damaged " ++ place ≡ sink_fault_text fault
    → IfOk result (IsTold fault)
damaged_told place result tells (sink_outside call) same =
    absurd (let e : 100 ≡ 111 = ap first same in omega (arith, e))
damaged_told place result tells (sink_damaged name at) same =
    tells name at (append_cancel_left (codes "damaged ") place (name ++ 32 ∷ decimal at) same)
damaged_told place result tells (sink_spent born) same =
    absurd (let e : 100 ≡ 115 = ap first same in omega (arith, e))
damaged_told place result tells sink_wanting same =
    absurd (let e : 100 ≡ 0 = ap first same in omega (arith, e))

-- ---- the file and the place

-- a text with a separator is split at the first one
split_first : (separator : ℕ) (text : List ℕ)
    → (lacks separator text ≡ true)
    ⊎ ((front : List ℕ) × (back : List ℕ) × IsTrue (lacks separator front)
    × (text ≡ front ++ separator ∷ back))
split_first separator [] = inl refl
split_first separator (b ∷ text) = go (b == separator) refl (split_first separator text)
  where
    go : (t : Bool) → (b == separator) ≡ t
        → (lacks separator text ≡ true)
        ⊎ ((front : List ℕ) × (back : List ℕ) × IsTrue (lacks separator front)
        × (text ≡ front ++ separator ∷ back))
        → (lacks separator (b ∷ text) ≡ true)
        ⊎ ((front : List ℕ) × (back : List ℕ) × IsTrue (lacks separator front)
        × (b ∷ text ≡ front ++ separator ∷ back))
    go true here rest = inr ([], text, refl, ap (λ c. c ∷ text) (grind (arith, here)))
    go false here (inl none) = inl (rw (here, none) refl)
    go false here (inr some) = inr (b ∷ some.0, some.1, rw here some.2, ap (λ t. b ∷ t) some.3)

-- only a word and a number stand there so
pub place_told : (place word digits : List ℕ) (k : ℕ) → IsTrue (lacks 32 word)
    → place ≡ word ++ 32 ∷ digits
    → plain_number digits ≡ Some k → (name : List ℕ) (at : ℕ) → place ≡ name ++ 32 ∷ decimal at
    → IsTold (sink_damaged name at) (Damaged word k)
place_told place word digits k free is read name at same = go (split_first 32 name)
  where
    plain : (decimal k ≡ digits) × (k < limit)
    plain = plain_number-Some digits k read

    go : (lacks 32 name ≡ true)
        ⊎ ((front : List ℕ) × (back : List ℕ) × IsTrue (lacks 32 front)
        × (name ≡ front ++ 32 ∷ back))
        → IsTold (sink_damaged name at) (Damaged word k)
    go (inl none) =
        let parts = same_split 32 word digits name (decimal at) free none (sym is ∙ same) in
        (k, ap (λ w. Damaged w k) parts.0, plain.1, plain.0 ∙ parts.1)
    go (inr some) =
        let again : place ≡ some.0 ++ 32 ∷ (some.1 ++ 32 ∷ decimal at) =
        same ∙ (ap (λ n. n ++ 32 ∷ decimal at) some.3
        ∙ append_assoc some.0 (32 ∷ some.1) (32 ∷ decimal at)) in
        let parts = same_split 32 word digits some.0 (some.1 ++ 32 ∷ decimal at) free some.2
        (sym is ∙ again) in
        absurd (unparted 32 some.1 (decimal k) (decimal at) (no_mark 32 k (omega arith) plain.1)
        (sym (plain.0 ∙ parts.1)))

pub word_told : (place word digits : List ℕ) (k : ℕ) → IsTrue (is_word word)
    → SplitsAt 32 place word digits
    → plain_number digits ≡ Some k → (name : List ℕ) (at : ℕ) → place ≡ name ++ 32 ∷ decimal at
    → IsTold (sink_damaged name at) (Damaged word k)
word_told place word digits k is split read name at same =
    place_told place word digits k split.front_lacks split.whole read name at same

-- ---- a line that isn't read back

-- what stands behind `spent ` is a number, below the limit or not
pub spent_untold : (digits : List ℕ) → plain_number digits ≡ None → (fault : SinkFault)
    → codes "spent " ++ digits ≡ sink_fault_text fault → IsUntold fault
spent_untold digits read (sink_outside call) same =
    absurd (let e : 115 ≡ 111 = ap first same in omega (arith, e))
spent_untold digits read (sink_damaged file at) same = tt
spent_untold digits read (sink_spent born) same = elim (cases_lt born limit) [
  | inl small ↦
      let e = append_cancel_left (codes "spent ") digits (decimal born) same in
      absurd (none-some born (sym read ∙ (ap plain_number e ∙ plain_number-decimal born small)))
  | inr high ↦ high
]
spent_untold digits read sink_wanting same = tt

-- what stands behind `outside ` names no call
pub outside_untold : (name : List ℕ) → called name ≡ None → (fault : SinkFault)
    → codes "outside " ++ name ≡ sink_fault_text fault → IsUntold fault
outside_untold name none (sink_outside call) same =
    let e : name ≡ call_name call =
    append_cancel_left (codes "outside ") name (call_name call) same in
    absurd (none-some call (sym none ∙ (ap called e ∙ by_name call)))
outside_untold name none (sink_damaged file at) same = tt
outside_untold name none (sink_spent born) same =
    absurd (let e : 111 ≡ 115 = ap first same in omega (arith, e))
outside_untold name none sink_wanting same = tt

-- what stands behind `damaged ` wants memory
pub damaged_untold : {E : Type 0} (place : List ℕ) (result : Result ExchangeFault E)
    → (fault : SinkFault) → codes "damaged " ++ place ≡ sink_fault_text fault
    → IfErr result (λ _. IsUntold fault)
damaged_untold place (Ok told) fault same = tt
damaged_untold place (Err wanted) (sink_outside call) same =
    absurd (let e : 100 ≡ 111 = ap first same in omega (arith, e))
damaged_untold place (Err wanted) (sink_damaged name at) same = tt
damaged_untold place (Err wanted) (sink_spent born) same =
    absurd (let e : 100 ≡ 115 = ap first same in omega (arith, e))
damaged_untold place (Err wanted) sink_wanting same = tt

-- the text begins with no word of a fault
pub none_untold : (text : List ℕ) → ((rest : List ℕ) → text ≢ codes "outside " ++ rest)
    → ((rest : List ℕ) → text ≢ codes "spent " ++ rest) → (fault : SinkFault)
    → text ≡ sink_fault_text fault → IsUntold fault
none_untold text no_call no_number (sink_outside call) same = absurd (no_call (call_name call) same)
none_untold text no_call no_number (sink_damaged name at) same = tt
none_untold text no_call no_number (sink_spent born) same = absurd (no_number (decimal born) same)
none_untold text no_call no_number sink_wanting same = tt
