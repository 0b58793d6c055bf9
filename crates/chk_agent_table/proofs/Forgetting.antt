-- What stands under the names, once one was forgotten.
use Rattle.std.proofs.Common.{◌≡◌, ℕ, ◌&&◌, ◌==◌, Bool, true, false, cond, if◌then◌else◌, List}
use Rattle.std.proofs.Common.{bytes_eq, Option, Some, None, refl, sym, ap, ap₂, ◌∙◌}
use Rattle.std.proofs.lemmas.Slice.Eq.{bytes_eq-Decides}
use Rattle.std.proofs.lemmas.Bool.Decides.{Decides-eqb}
use Rattle.std.specs.Map.{update}
use Rattle.chk_agent_table.specs.Fields.{noted, without}

module _ (numbers : List ℕ → Option ℕ) (name : List ℕ) (number : ℕ) where
  -- the name stays where another number, or none, stands under it
  pub not_under : (numbers name ≡ Some number → ⊥) → (text : List ℕ) → numbers text
      ≡ without name number text (numbers text)
  not_under other text = go (numbers text) refl
    where
      go : (o : Option ℕ) → numbers text ≡ o → o ≡ without name number text o
      go None is = refl
      go (Some i) is = by (bytes_eq name text) (i == number) refl refl
        where
          by : (b c : Bool) → bytes_eq name text ≡ b → (i == number) ≡ c → Some i
              ≡ (if b && c then None else Some i)
          by true true same counted =
              absurd (other (ap numbers ((bytes_eq-Decides name text).0 same) ∙ is
              ∙ ap Some ((Decides-eqb i number).0 counted)))
          by true false same counted = refl
          by false c same counted = refl

  -- and goes where this number does
  pub gone : (now : List ℕ → Option ℕ) → numbers name ≡ Some number
      → ((text : List ℕ) → now text ≡ update bytes_eq numbers name None text)
      → (text : List ℕ) → now text ≡ without name number text (numbers text)
  gone now under found text = found text ∙ go (bytes_eq name text) refl
    where
      go : (b : Bool) → bytes_eq name text ≡ b → cond b None (numbers text)
          ≡ without name number text (numbers text)
      go true same =
          sym (ap (without name number text)
          (ap numbers (sym ((bytes_eq-Decides name text).0 same)) ∙ under)
          ∙ ap₂ (λ b c. if b && c then None else Some number) same
          ((Decides-eqb number number).1 refl))
      go false same = apart (numbers text)
        where
          apart : (o : Option ℕ) → o ≡ without name number text o
          apart None = refl
          apart (Some i) = sym (ap (λ b. if b && (i == number) then None else Some i) same)

-- a number put under a new name, once it no more stands under the old one
pub noted_over : (numbers less now : List ℕ → Option ℕ) (spelled name gone old : List ℕ) (n : ℕ)
    → spelled ≡ name → gone ≡ old
    → ((text : List ℕ) → less text ≡ without gone n text (numbers text))
    → ((text : List ℕ) → now text ≡ noted true spelled n less text)
    → (text : List ℕ) → now text ≡ noted true name n (λ t. without old n t (numbers t)) text
noted_over numbers less now spelled name gone old n same was forgot found text =
    found text
    ∙ ap (λ s. cond (bytes_eq s text) (Some n) (less text)) same
    ∙ ap (cond (bytes_eq name text) (Some n))
    (forgot text ∙ ap (λ g. without g n text (numbers text)) was)
