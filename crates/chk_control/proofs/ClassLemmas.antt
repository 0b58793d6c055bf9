-- The names of classes.
use Rattle.std.proofs.Common.{◌≡◌, ◌⊎◌, ℕ, Bool, true, false, cond, List, ◌++◌, length, take, drop, Option, Some, None, refl, sym, ap, ◌∙◌, inl, inr}
use Rattle.std.specs.Prelude.{◌↔◌, bytes_eq, unwrap_or}
use Rattle.std.proofs.lemmas.Bool.{cases_Bool}
use Rattle.std.proofs.lemmas.List.{take-append-drop}
use Rattle.std.proofs.lemmas.Slice.Eq.{bytes_eq-Decides}
use Rattle.chk_bytes.specs.Words.{behind_front}
use Rattle.chk_control.specs.declared.Class.{Class}
use Rattle.chk_control.specs.declared.Class.TheVariants.{Plain, Rotating, Lines}
use Rattle.chk_control.specs.Classes.{class_name, class_named, short_package, long_package, class_of_name, IsNameOf}

-- each name of a class is read as that class
pub class_of_bare : (class : Class) → class_of_name (class_name class) ≡ Some class
unfolding class_of_name
class_of_bare Plain = refl
class_of_bare Rotating = refl
class_of_bare Lines = refl

class_of_short : (class : Class) → class_of_name (short_package ++ class_name class) ≡ Some class
unfolding class_of_name
class_of_short Plain = refl
class_of_short Rotating = refl
class_of_short Lines = refl

class_of_long : (class : Class) → class_of_name (long_package ++ class_name class) ≡ Some class
unfolding class_of_name
class_of_long Plain = refl
class_of_long Rotating = refl
class_of_long Lines = refl

read_names : (class : Class) (name : List ℕ) → IsNameOf class name → class_of_name name ≡ Some class
read_names class name (inl bare) = ap class_of_name bare ∙ class_of_bare class
read_names class name (inr (inl short)) = ap class_of_name short ∙ class_of_short class
read_names class name (inr (inr long)) = ap class_of_name long ∙ class_of_long class

-- a name is the package that was taken off it and the rest
in_front : (front name bare : List ℕ) → behind_front front name ≡ Some bare → name ≡ front ++ bare
in_front front name bare behind = elim (cases_Bool (bytes_eq (take (length front) name) front)) [
  | inl same ↦
      let begins : take (length front) name ≡ front =
      (bytes_eq-Decides (take (length front) name) front).0 same in
      let rest : drop (length front) name ≡ bare = let seen = rw same at behind in cc in
      sym (take-append-drop (length front) name) ∙ (cc)
  | inr other ↦ absurd (let seen = rw other at behind in cc)
]

-- which of two a choice took
chosen : (t : Bool) (first : Class) (rest : Option Class) (class : Class)
    → cond t (Some first) rest ≡ Some class
    → ((t ≡ true) × (first ≡ class)) ⊎ (rest ≡ Some class)
chosen true first rest class is = inl (refl, cc)
chosen false first rest class is = inr is

-- a name that is read as a class is its name
pub named_is : (name : List ℕ) (class : Class) → class_named name ≡ Some class → name ≡ class_name class
named_is name class named =
    elim (chosen (bytes_eq name (class_name Plain)) Plain _ class named) [
      | inl here ↦ (bytes_eq-Decides name (class_name Plain)).0 here.0 ∙ ap class_name here.1
      | inr not_plain ↦ elim
          (chosen (bytes_eq name (class_name Rotating)) Rotating _ class not_plain) [
            | inl here ↦ (bytes_eq-Decides name (class_name Rotating)).0 here.0 ∙ ap class_name here.1
            | inr neither ↦ elim (chosen (bytes_eq name (class_name Lines)) Lines None class neither) [
              | inl here ↦ (bytes_eq-Decides name (class_name Lines)).0 here.0 ∙ ap class_name here.1
              | inr none ↦ absurd (cc)
            ]
          ]
    ]

told_by_front : (class : Class) (name : List ℕ) (long short : Option (List ℕ))
    → behind_front long_package name ≡ long
    → behind_front short_package name ≡ short
    → class_named (unwrap_or long (unwrap_or short name)) ≡ Some class
    → IsNameOf class name
told_by_front class name (Some bare) short long_is short_is told =
    inr (inr (in_front long_package name bare long_is
    ∙ ap (λ b. long_package ++ b) (named_is bare class told)))
told_by_front class name None (Some bare) long_is short_is told =
    inr (inl (in_front short_package name bare short_is
    ∙ ap (λ b. short_package ++ b) (named_is bare class told)))
told_by_front class name None None long_is short_is told = inl (named_is name class told)

told_names : (class : Class) (name : List ℕ) → class_of_name name ≡ Some class → IsNameOf class name
unfolding class_of_name
told_names class name told = told_by_front class name _ _ refl refl told

pub names_tell_classes : (class : Class) (name : List ℕ)
    → (class_of_name name ≡ Some class) ↔ IsNameOf class name
names_tell_classes class name = (told_names class name, read_names class name)
