-- The classes of adaptors and their names.
use Rattle.std.specs.Prelude.{◌≡◌, ◌⊎◌, ◌↔◌, ℕ, Bool, true, false, List, ◌++◌, bytes_eq, codes, Option, Some, None, unwrap_or, if◌then◌else◌}
use Rattle.chk_bytes.specs.Words.{behind_front}
use Rattle.chk_control.specs.declared.Class.{Class}
use Rattle.chk_control.specs.declared.Class.TheVariants.{Plain, Rotating, Lines}

-- the bare name of a class
abbrev pub class_name : Class → List ℕ
class_name Plain = codes "LWFTAdaptor"
class_name Rotating = codes "FileTailingAdaptor"
class_name Lines = codes "CharFileTailingAdaptorUTF8"

-- the class of a bare name
abbrev pub class_named : List ℕ → Option Class
class_named name =
    if bytes_eq name (class_name Plain) then Some Plain
    else if bytes_eq name (class_name Rotating) then Some Rotating
    else if bytes_eq name (class_name Lines) then Some Lines else None

-- the class reads the base file alone
abbrev pub is_plain : Class → Bool
is_plain Plain = true
is_plain class = false

-- the class breaks at lines
abbrev pub breaks_lines : Class → Bool
breaks_lines Lines = true
breaks_lines class = false

-- they are the same class
abbrev pub same_class : Class → Class → Bool
same_class Plain Plain = true
same_class Rotating Rotating = true
same_class Lines Lines = true
same_class _ _ = false

-- the two packages that may stand before a bare name
abbrev pub short_package : List ℕ
short_package = codes "filetailer."

abbrev pub long_package : List ℕ
long_package = codes "org.apache.hadoop.chukwa.datacollection.adaptor.filetailer."

-- a name without its package
abbrev pub bare_name : List ℕ → List ℕ
bare_name name =
    unwrap_or (behind_front long_package name) (unwrap_or (behind_front short_package name) name)

-- the class of a name, bare or behind a package
unfoldable pub class_of_name : List ℕ → Option Class
class_of_name name = class_named (bare_name name)

-- a class has three names
abbrev pub IsNameOf : Class → List ℕ → Type 0
IsNameOf class name =
    (name ≡ class_name class)
    ⊎ ((name ≡ short_package ++ class_name class) ⊎ (name ≡ long_package ++ class_name class))

-- a name is of a class exactly where it is one of the three of that class
abbrev pub NamesTellClasses : Type 0
NamesTellClasses =
    (class : Class) (name : List ℕ) → (class_of_name name ≡ Some class) ↔ IsNameOf class name
