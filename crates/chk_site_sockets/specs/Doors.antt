-- The doors that are open, the one opened last at the end.
use Rattle.std.specs.Prelude.{◌≡◌, ◌⊎◌, ℕ, Bool, true, false, nat_eq, List, [], ◌∷◌, ◌++◌, Option, Some, None, Result, Ok, Err, IsErr, bytes_eq, codes, is_some, length, position, slice_get, slice_set}
use Rattle.std.specs.List.{starts_with}
use Rattle.chk_site.specs.declared.suffixes.Taking.{Taking}

-- a door of this name is open
abbrev pub is_open : {X : Type 0} → (X → List ℕ) → List ℕ → List X → Bool
is_open name_of name doors = is_some (position (λ door. bytes_eq (name_of door) name) doors)

-- a door of this name comes last
pub record IsNew {X : Type 0} (old new : List X) (name_of : X → List ℕ) (name : List ℕ) : Type 0 where
  pub door : X
  pub named : name_of door ≡ name
  pub last : new ≡ old ++ door ∷ []

-- the door of the name was open and nothing is changed, or it comes last
abbrev pub IsOpen : {X : Type 0} → List X → List X → (X → List ℕ) → List ℕ → Type 0
IsOpen old new name_of name =
    ((is_open name_of name old ≡ true) × (new ≡ old))
    ⊎ ((is_open name_of name old ≡ false) × IsNew old new name_of name)

-- a door of this name stands at this place
pub record StandsAt {X : Type 0} (doors : List X) (name_of : X → List ℕ) (name : List ℕ)
    (place : ℕ) : Type 0 where
  pub door : X
  pub there : slice_get doors place ≡ Some door
  pub named : name_of door ≡ name

-- the taking that may go on is this one
abbrev pub is_taking : ℕ → Option ℕ → Bool
is_taking taking None = false
is_taking taking (Some number) = nat_eq number taking

-- the first of those that are meant may have changed, in this way, and no other one
pub record IsAt {X : Type 0} (old new : List X) (is_meant : X → Bool) (Is : X → X → Type 0)
    : Type 0 where
  pub place : ℕ
  pub before : X
  pub after : X
  pub first : position is_meant old ≡ Some place
  pub there : slice_get old place ≡ Some before
  pub left : new ≡ slice_set old place after
  pub so : Is before after

-- the door keeps its name, and this taking may go on at it
pub record Has {X : Type 0} (name_of : X → List ℕ) (taking_of : X → Option ℕ)
    (taking : Option ℕ) (before after : X) : Type 0 where
  pub named : name_of after ≡ name_of before
  pub goes_on : taking_of after ≡ taking

-- the door of this name is open, and this taking may go on at it; all others are as they were
pub record IsAtDoor {X : Type 0} (old new : List X) (name_of : X → List ℕ)
    (taking_of : X → Option ℕ) (name : List ℕ) (taking : Option ℕ) : Type 0 where
  pub opened : List X
  pub place : ℕ
  pub before : X
  pub after : X
  pub opening : IsOpen old opened name_of name
  pub there : slice_get opened place ≡ Some before
  pub of_name : name_of before ≡ name
  pub left : new ≡ slice_set opened place after
  pub so : Has name_of taking_of taking before after

-- behind a taking with this number: it may go on where a message came, and none may where none
-- came; where it failed none may either, or no door has changed
abbrev pub Takes :
    {X T F : Type 0} → List X → List X → (X → List ℕ) → (X → Option ℕ) → List ℕ → ℕ
    → Result (Option T) F → Type 0
Takes old new name_of taking_of name number (Ok (Some bytes)) =
    IsAtDoor old new name_of taking_of name (Some number)
Takes old new name_of taking_of name number (Ok None) =
    IsAtDoor old new name_of taking_of name None
Takes old new name_of taking_of name number (Err fault) =
    (new ≡ old) ⊎ IsAtDoor old new name_of taking_of name None

-- behind a taking of a datagram its door is open; where it failed the door was opened, or nothing
-- is changed
abbrev pub TakesDatagram :
    {X T F : Type 0} → List X → List X → (X → List ℕ) → List ℕ → Result T F → Type 0
TakesDatagram old new name_of name (Ok given) = IsOpen old new name_of name
TakesDatagram old new name_of name (Err fault) = (new ≡ old) ⊎ IsOpen old new name_of name

-- no door has this taking
abbrev pub IsAbsent : {X : Type 0} → List X → (X → Option ℕ) → ℕ → Type 0
IsAbsent doors taking_of taking =
    position (λ door. is_taking taking (taking_of door)) doors ≡ None

-- of the door that has this taking it is so, and all others are as they were
abbrev pub IsAtTaking :
    {X : Type 0} → List X → List X → (X → Option ℕ) → ℕ → (X → X → Type 0) → Type 0
IsAtTaking old new taking_of taking Is =
    IsAt old new (λ door. is_taking taking (taking_of door)) Is

-- a further piece: the taking may go on where one was given, and the piece is as is said of the
-- door before and after; it may not where that failed; no byte of a taking that no door has, and no
-- door is changed then
abbrev pub GoesOn :
    {X F : Type 0} → List X → List X → (X → List ℕ) → (X → Option ℕ)
    → (X → X → List ℕ → Type 0) → ℕ → Result (List ℕ) F → Type 0
GoesOn old new name_of taking_of Gave taking (Ok bytes) =
    (IsAbsent old taking_of taking × (bytes ≡ []) × (new ≡ old))
    ⊎ IsAtTaking old new taking_of taking
    (λ before after. Has name_of taking_of (Some taking) before after × Gave before after bytes)
GoesOn old new name_of taking_of Gave taking (Err fault) =
    IsAtTaking old new taking_of taking (Has name_of taking_of None)

-- an answer to a taking: it goes on no more at the door that had it, and this was put on its
-- stream; where no door has it the answer is refused, and no door is changed
abbrev pub Answers :
    {X T F : Type 0} → List X → List X → (X → List ℕ) → (X → Option ℕ) → ℕ → (X → Type 0)
    → Result T F → Type 0
Answers old new name_of taking_of taking Put result =
    (IsAbsent old taking_of taking × IsErr result × (new ≡ old))
    ⊎ IsAtTaking old new taking_of taking
    (λ before after. Has name_of taking_of None before after × Put before)

-- there was no room to read into, and so nothing was done
abbrev pub IsRoomless : {X B T F : Type 0} → X → X → List B → Result T F → Type 0
IsRoomless old new buffer result = (length buffer ≡ 0) × IsErr result × (new ≡ old)

-- the door is one for datagrams
abbrev pub is_for_datagrams : List ℕ → Bool
is_for_datagrams name = starts_with nat_eq name (codes "udp:")

-- what was taken under this number
abbrev pub taking_at : ℕ → List ℕ → Taking
taking_at number bytes = record { number = number; bytes = bytes }
