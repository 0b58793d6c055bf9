-- The line of an address at which nobody answers, and addresses in turn.
use Rattle.std.proofs.Common.{◌≡◌, ℕ, ◌<◌, ◌≤◌, ◌+◌, suc, zero, Bool, true, false, List, [], ◌∷◌}
use Rattle.std.proofs.Common.{◌++◌, append_assoc}
use Rattle.std.proofs.Common.{Err, Ok, Result, ap, drop, get_or, length, map, refl, sym, ◌∙◌}
use Rattle.std.proofs.Common.{arith, add-one}
use Rattle.std.specs.Borrow.{Bor}
use Rattle.std.specs.List.{list_all}
use Rattle.std.specs.Prelude.{IsTrue, codes, ◌||◌}
use Rattle.std.proofs.lemmas.Bool.{and_parts}
use Rattle.std.proofs.Math.Seq.{drop-cons}
use Rattle.chk_bytes.specs.Words.{is_word}
use Rattle.chk_bytes.proofs.WordLemmas.{word_lacks}
use Rattle.chk_site.specs.declared.acts.OutsideFault.{OutsideFault}
use Rattle.chk_world.specs.ArchiveRuns.{is_one_line}
use Rattle.chk_cmd_output.proofs.OneLine.{Lack, none, next, words_line}
use Rattle.chk_site.specs.Site.{OutsideCause}
use Rattle.chk_ctl_check.specs.Checking.{CheckCause}
use Rattle.chk_ctl_check.specs.Collectors.{or_silent, silent_by, silent_line}
use Rattle.chk_ctl_check.proofs.OwnCalls.{cause_of}

pub silent_one : (address : List ℕ) → IsTrue (is_word address)
    → IsTrue (is_one_line (silent_line address))
silent_one address word =
    let all : Lack (codes "collector" ∷ address ∷ codes "NoAnswer" ∷ []) =
    next refl (next (word_lacks 10 address (omega arith) word) (next refl none)) in
    words_line all

pub silent_spelled : (address : List ℕ)
    → codes "collector " ++ (address ++ codes " NoAnswer\n") ≡ silent_line address
silent_spelled address = simp append_assoc

-- each of the addresses is a word
pub word_at : (xs : List (Bor (List ℕ))) (i : ℕ) (d : Bor (List ℕ)) → i < length xs
    → IsTrue (list_all is_word (map (λ a. a.now) xs)) → IsTrue (is_word (get_or xs i d).now)
word_at [] i d low all = absurd (omega (arith, low))
word_at (x ∷ xs) zero d low all = (and_parts _ _ all).0
word_at (x ∷ xs) (suc i) d low all = word_at xs i d (omega (arith, low)) (and_parts _ _ all).1

-- the next one of them, and those behind it
pub next_address : (xs : List (Bor (List ℕ))) (i : ℕ) (d : Bor (List ℕ)) → i < length xs
    → map (λ a. a.now) (drop i xs)
    ≡ (get_or xs i d).now ∷ map (λ a. a.now) (drop (i + 1) xs)
next_address xs i d low =
    ap (map (λ a. a.now)) (drop-cons xs i d low
    ∙ ap (λ (k : ℕ). get_or xs i d ∷ drop k xs) (sym (add-one i)))

-- what was found before, and what is behind it
pub or_then : (found more : Bool) (r : Result Bool OutsideFault)
    → or_silent found (or_silent more r) ≡ or_silent (found || more) r
or_then true more (Ok b) = refl
or_then false more (Ok b) = refl
or_then found more (Err fault) = refl

pub or_none : (r : Result Bool OutsideFault) → or_silent false r ≡ r
or_none (Ok b) = refl
or_none (Err fault) = refl

pub or_end : (found : Bool) → or_silent found (Ok false) ≡ Ok found
or_end true = refl
or_end false = refl

-- the count behind a print
pub silent_cause : (given : Result (Unit {0}) OutsideFault) (before mid now : ℕ) → before ≤ mid
    → OutsideCause mid now given → CheckCause before now (silent_by given)
silent_cause (Ok value) before mid now low cause = omega (arith, low, cause)
silent_cause (Err fault) before mid now low cause =
    cause_of Bool (Unit {0}) fault before mid now low cause
