-- The lines of a text, one after the other.
use Rattle.std.proofs.Common.{◌≡◌, ◌∙◌, ℕ, ◌+◌, List, [], ◌∷◌, ◌++◌, take, drop, Some, None, ap}
use Rattle.std.proofs.Common.{subst, sym, append_assoc, append-nil, ◌-◌, ◌<◌, length, refl, arith}
use Rattle.std.specs.Prelude.{◌==◌, position, Option, Result, Ok, Err, OnOk}
use Rattle.std.proofs.lemmas.List.{drop-drop, length-drop, take_all}
use Rattle.std.proofs.lemmas.List.Quantifiers.{position-Some}
use Rattle.chk_bytes.specs.Words.{parts_at}
use Rattle.chk_control.specs.Lines.{meaning_of}
use Rattle.chk_site.specs.History.{History}
use Rattle.chk_ctl_check.specs.declared.finding.Finding.{Finding}
use Rattle.chk_ctl_check.specs.declared.judging.Added.{Added}
use Rattle.chk_ctl_check.specs.Judging.{added_after, verdict_of}
use Rattle.chk_ctl_check.specs.Looking.{LinesSeen, VerdictSeen, line_seen, no_lines}
use Rattle.chk_bytes.proofs.PartLemmas.{parts_at-whole, parts_at-front, split_found, split_none}

pub first_line : (rest : List ℕ) (size : ℕ) → position (λ b. b == 10) rest ≡ Some size
    → parts_at 10 rest ≡ take size rest ∷ parts_at 10 (drop (size + 1) rest)
first_line rest size is =
    let split = split_found 10 size rest is in
    ap (parts_at 10) split.whole
    ∙ parts_at-front 10 (take size rest) (drop (size + 1) rest) split.front_lacks

pub last_line : (rest : List ℕ) → position (λ b. b == 10) rest ≡ None
    → parts_at 10 rest ≡ rest ∷ []
last_line rest is = parts_at-whole 10 rest (split_none 10 rest is)

pub no_some : (o : Option ℕ) → ((n : ℕ) → o ≡ Some n → ⊥) → o ≡ None
no_some None h = refl
no_some (Some n) h = absurd (h n refl)

-- a newline that was found stands within the text
pub size_within : (rest : List ℕ) (size : ℕ) → position (λ b. b == 10) rest ≡ Some size
    → size < length rest
size_within rest size is = (position-Some (λ b. b == 10) rest size 0 is).0

slice_rest : (at : ℕ) (text : List ℕ) → take (length text - at) (drop at text) ≡ drop at text
slice_rest at text = take_all (length text - at) (drop at text) (let whole = length-drop at text in
    omega (arith, whole))

-- what stands behind a byte, by two slices
pub sliced : (at : ℕ) (text : List ℕ)
    → take (length (take (length text - at) (drop at text)) - 1)
    (drop 1 (take (length text - at) (drop at text))) ≡ drop (at + 1) text
sliced at text =
    slice_rest 1 (take (length text - at) (drop at text))
    ∙ (ap (drop 1) (slice_rest at text) ∙ drop-drop 1 at text)

-- a line and those behind it
pub one_line : {line size : ℕ} {added : List Added} (rest : List ℕ) {found more : List Finding}
    {old mid new : Option History} → position (λ b. b == 10) rest ≡ Some size
    → VerdictSeen line (verdict_of added (meaning_of (take size rest))) found old mid
    → LinesSeen (line + 1) (added_after added (meaning_of (take size rest)))
    (parts_at 10 (drop (size + 1) rest)) more mid new
    → LinesSeen line added (parts_at 10 rest) (found ++ more) old new
one_line {line = line} {size = size} {added = added} rest {found = found} {more = more}
    {old = old} {new = new} is one later =
    subst (λ (texts : List (List ℕ)). LinesSeen line added texts (found ++ more) old new)
    (sym (first_line rest size is)) (line_seen one later)

-- the last line
pub last_seen : {line : ℕ} {added : List Added} (rest : List ℕ) {found : List Finding}
    {old new : Option History} → position (λ b. b == 10) rest ≡ None
    → VerdictSeen line (verdict_of added (meaning_of rest)) found old new
    → LinesSeen line added (parts_at 10 rest) found old new
last_seen {line = line} {added = added} rest {found = found} {old = old} {new = new} is one =
    subst (λ (texts : List (List ℕ)). LinesSeen line added texts found old new)
    (sym (last_line rest is))
    (subst (λ (fs : List Finding). LinesSeen line added (rest ∷ []) fs old new)
    (append-nil found) (line_seen one no_lines))

-- what was found, and what is found behind it
pub found_then : (old found more new : List Finding) → new ≡ old ++ found
    → old ++ (found ++ more) ≡ new ++ more
found_then old found more new is =
    sym (append_assoc old found more) ∙ ap (λ (fs : List Finding). fs ++ more) (sym is)

-- what follows from what holds at Ok
pub ok_weaker : {T E : Type 0} {P Q : Type 0} (r : Result T E) → (P → Q) → OnOk r P → OnOk r Q
ok_weaker (Ok value) wider holds = wider holds
ok_weaker (Err fault) wider holds = tt
