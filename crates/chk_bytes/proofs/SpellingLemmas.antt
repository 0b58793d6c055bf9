-- `spelling`: a value counts only where it is allowed and its spelling is the text.
use Rattle.std.proofs.Common.{◌≡◌, ℕ, ◌&&◌, Bool, List, Some, None, ap, sym, ◌∙◌, bytes_eq}
use Rattle.std.specs.Prelude.{IsTrue}
use Rattle.std.proofs.lemmas.Bool.{and_parts, and_from, cond-true}
use Rattle.std.proofs.lemmas.Option.{cond_some}
use Rattle.std.proofs.lemmas.Slice.Eq.{bytes_eq-Decides}
use Rattle.chk_bytes.specs.Words.{spelling}

-- what is read is allowed, and is spelled so
pub spelling-Some : {A : Type 0} (allowed : A → Bool) (spell : A → List ℕ) (guess value : A)
    (text : List ℕ)
    → spelling allowed spell guess text ≡ Some value
    → (guess ≡ value) × IsTrue (allowed value) × (spell value ≡ text)
spelling-Some allowed spell guess value text h =
    let parts = cond_some (allowed guess && bytes_eq (spell guess) text) guess value h in
    let tests = and_parts (allowed guess) (bytes_eq (spell guess) text) parts.0 in (
      parts.1,
      ap allowed (sym parts.1) ∙ tests.0,
      ap spell (sym parts.1)
          ∙ (bytes_eq-Decides (spell guess) text).0 tests.1,
    )

-- an allowed value is read where its spelling stands
pub spelling-spelled : {A : Type 0} (allowed : A → Bool) (spell : A → List ℕ) (value : A)
    (text : List ℕ)
    → IsTrue (allowed value) → spell value ≡ text → spelling allowed spell value text ≡ Some value
spelling-spelled allowed spell value text is_allowed spelled =
    cond-true (allowed value && bytes_eq (spell value) text) (Some value) None
    (and_from (allowed value) (bytes_eq (spell value) text) is_allowed
    ((bytes_eq-Decides (spell value) text).1 spelled))
