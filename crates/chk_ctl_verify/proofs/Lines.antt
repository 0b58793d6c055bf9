-- The line of damage is one line.
use Rattle.std.proofs.Common.{◌≡◌, ℕ, ◌<◌, ◌^◌, List, [], ◌∷◌, ◌++◌, append_assoc, refl, arith}
use Rattle.std.proofs.Common.{Option, Result, subst}
use Rattle.std.specs.Prelude.{IsTrue, codes, decimal}
use Rattle.chk_site.specs.declared.acts.OutsideFault.{OutsideFault}
use Rattle.chk_site.specs.declared.acts.Who.{Who}
use Rattle.chk_site.specs.History.{History}
use Rattle.chk_world.specs.Sight.{job}
use Rattle.chk_cmd_output.specs.Printing.{PrintsInTurn}
use Rattle.chk_bytes.specs.Words.{is_word}
use Rattle.chk_bytes.proofs.WordLemmas.{word_lacks}
use Rattle.chk_world.specs.ArchiveRuns.{is_one_line}
use Rattle.chk_cmd_output.proofs.OneLine.{Lack, none, next, number_lacks, words_line}
use Rattle.chk_ctl_verify.specs.Telling.{damage_line}

pub damage_one : (name : List ℕ) (at : ℕ) → IsTrue (is_word name) → at < 2 ^ 64
    → IsTrue (is_one_line (damage_line name at))
damage_one name at word low =
    let all : Lack (codes "damaged" ∷ name ∷ decimal at ∷ []) =
    next refl (next (word_lacks 10 name (omega arith) word) (next (number_lacks at low) none)) in
    words_line all

pub damage_spelled : (name : List ℕ) (at : ℕ)
    → codes "damaged " ++ (name ++ (codes " " ++ (decimal at ++ codes "\n")))
    ≡ damage_line name at
damage_spelled name at = simp append_assoc

-- a line that this process prints
pub line_told : {who : Who} {text line : List ℕ} {given : Result (Unit {0}) OutsideFault}
    {old new : Option History} → who ≡ job → text ≡ line
    → PrintsInTurn who (text ∷ []) given old new → PrintsInTurn job (line ∷ []) given old new
line_told {who = who} {text = text} {given = given} {old = old} {new = new} is same prints =
    subst (λ (l : List ℕ). PrintsInTurn job (l ∷ []) given old new) same
    (subst (λ (w : Who). PrintsInTurn w (text ∷ []) given old new) is prints)
