-- What was printed, over several stretches of steps.
use Rattle.std.proofs.Common.{◌≡◌, inl, inr, ℕ, Bool, true, false, List, [], ◌∷◌, ◌++◌, refl, sym, ◌∙◌, ap, append_assoc, append-nil}
use Rattle.chk_site.specs.declared.acts.ActAnswer.{ActAnswer}
use Rattle.chk_site.specs.declared.acts.Who.{Who}
use Rattle.chk_site.specs.Acts.{Deed, Reads, deed}
use Rattle.chk_site.specs.History.{History, Every, IsTheirs}
use Rattle.chk_site.specs.Runs.{own_acts}
use Rattle.chk_replace.specs.Load.{IsLook}
use Rattle.chk_salvage.specs.Front.{Item}
use Rattle.chk_cmd_salvage.specs.Lines.{IsLine, AreLines}
use Rattle.chk_cmd_salvage.specs.Printing.{text_said, said}

-- what these steps printed
abbrev pub text_of : History → List ℕ
text_of added = said (own_acts added)

-- the text of two stretches, the second one being the newer
pub text_then : (b a : History) → text_of (b ++ a) ≡ text_of a ++ text_of b
text_then [] a = sym (append-nil (text_of a))
text_then (step ∷ b) a =
    let by : (own : Bool) → step.own ≡ own → text_of (step ∷ (b ++ a)) ≡ text_of a ++ text_of (step ∷ b) =
    λ own. elim own as (λ own. step.own ≡ own → text_of (step ∷ (b ++ a)) ≡ text_of a ++ text_of (step ∷ b)) [
      | true ↦ λ e. rw e (ap (λ t. t ++ text_said (deed step.act) step.act.answer) (text_then b a)
          ∙ append_assoc (text_of a) (text_of b) (text_said (deed step.act) step.act.answer))
      | false ↦ λ e. rw e (text_then b a)
    ] in
    by step.own refl

-- others print nothing
pub theirs_silent : (added history : History) → Every IsTheirs added history → text_of added ≡ []
theirs_silent [] history theirs = refl
theirs_silent (step ∷ added) history theirs = rw theirs.1.0 (theirs_silent added history theirs.0)

quiet_read : (call : Deed) (answer : ActAnswer) (name : List ℕ) (at max : ℕ) → call ≡ Reads name at max → text_said call answer ≡ []
quiet_read call answer name at max e = rw e refl

-- nor does a read
pub looks_silent : (who : Who) (name : List ℕ) (added history : History) → Every (IsLook who name) added history → text_of added ≡ []
looks_silent who name [] history looks = refl
looks_silent who name (step ∷ added) history looks =
    let before = looks_silent who name added history looks.0 in
    elim looks.1 [
      | inl theirs ↦ rw theirs.0 before
      | inr read ↦ rw (read.own, before) (quiet_read (deed step.act) step.act.answer name read.at _ read.asks)
    ]

-- one line more
pub lines_more : (items : List Item) (item : Item) (text line : List ℕ) → AreLines items text → IsLine item line
    → AreLines (items ++ item ∷ []) (text ++ line)
lines_more [] item text line are is =
    rw are (line, [], is, refl, sym (append-nil line))
lines_more (first ∷ items) item text line are is = (
  are.0,
  are.1 ++ line,
  are.2,
  lines_more items item are.1 line are.3 is,
  ap (λ t. t ++ line) are.4 ∙ append_assoc are.0 are.1 line,
)

-- parts that were written one after the other
pub entry_parts : (o₀ o₁ o₂ o₃ o₄ o₅ o₆ o₇ what begin end source kind name space seq last : List ℕ)
    → o₁ ≡ o₀ ++ (what ++ (begin ++ end)) → o₂ ≡ o₁ ++ source → o₃ ≡ o₂ ++ kind → o₄ ≡ o₃ ++ name
    → o₅ ≡ o₄ ++ space → o₆ ≡ o₅ ++ seq → o₇ ≡ o₆ ++ last
    → o₇ ≡ o₀ ++ (what ++ (begin ++ (end ++ (source ++ (kind ++ (name ++ (space ++ (seq ++ last))))))))
entry_parts o₀ o₁ o₂ o₃ o₄ o₅ o₆ o₇ what begin end source kind name space seq last e₁ e₂ e₃ e₄ e₅ e₆ e₇ =
    rw (e₇, e₆, e₅, e₄, e₃, e₂, e₁) (simp append_assoc)
