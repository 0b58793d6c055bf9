-- Texts that grow at their end.
use Rattle.std.proofs.Common.{◌≡◌, ℕ, List, ◌++◌, Result, Ok, Err, OnOk, OnErr, ap, ◌∙◌, append_assoc}
use Rattle.chk_bytes.specs.Words.{BeginsWith}

-- what begins with a longer beginning begins with the shorter one
pub begins_after : {T E : Type 0} (r : Result T E) (old mid new more : List ℕ) → mid ≡ old ++ more
    → OnErr r (BeginsWith new mid) → OnErr r (BeginsWith new old)
begins_after (Ok x) old mid new more longer h = h
begins_after (Err e) old mid new more longer (rest, is) =
    (more ++ rest, is ∙ ap (λ front. front ++ rest) longer ∙ append_assoc old more rest)

-- one text behind another
pub appended_after : {T E : Type 0} (r : Result T E) (old mid new front more : List ℕ)
    → mid ≡ old ++ front
    → OnOk r (new ≡ mid ++ more) → OnOk r (new ≡ old ++ (front ++ more))
appended_after (Ok x) old mid new front more first then =
    then ∙ ap (λ bytes. bytes ++ more) first ∙ append_assoc old front more
appended_after (Err e) old mid new front more first then = then
