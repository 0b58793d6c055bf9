-- What a start finds of an earlier run, and what it makes of it.
use Rattle.std.specs.Prelude.{ℕ, Bool, ◌&&◌, ◌==◌, nat_lt, List, [], ◌∷◌, length, Option, Some, None, if◌then◌else◌}
use Rattle.chk_bytes.specs.Numbers.{spelled, limit}
use Rattle.chk_site.specs.declared.acts.Who.{Who}
use Rattle.chk_site.specs.declared.acts.Call.TheVariants.{Remove, Cut}
use Rattle.chk_site.specs.Site.{Asked, asked}
use Rattle.chk_wahead.specs.declared.found.Small.{Small}
use Rattle.chk_wahead.specs.declared.found.Small.TheVariants.{Absent, Number, Damaged}
use Rattle.chk_wahead.specs.declared.found.Found.{Found}
use Rattle.chk_wahead.specs.declared.found.Plan.{Plan}
use Rattle.chk_wahead.specs.declared.found.Plan.TheVariants.{DamagedNext, DamagedMark, Close, DropBuffer, DropMark, Rest}
use Rattle.chk_wahead.specs.Names.{next_name, buffer_name, mark_name, closed_name}
use Rattle.chk_wahead.specs.Scripts.{shutting}

-- the bytes are 8, of a number below 2^63
abbrev pub is_number : List ℕ → Bool
is_number bytes = (length bytes == 8) && nat_lt (spelled bytes) limit

-- what a small file is, by the bytes that were read of it; none where it isn't there
abbrev pub small_of : Option (List ℕ) → Small
small_of None = Absent
small_of (Some bytes) = if is_number bytes then Number (spelled bytes) else Damaged

-- the same, by its file's bytes and the size of the buffer
abbrev pub found_of : Option (List ℕ) → Option (List ℕ) → Option ℕ → Found
found_of next mark size = record { next = small_of next; mark = small_of mark; size = size }

-- what is made of a buffer of this size with this mark, where the number is this one
abbrev pub left_buffer : ℕ → Small → ℕ → Plan
left_buffer number Absent size = DropBuffer number
left_buffer number Damaged size = DamagedMark
left_buffer number (Number mark) size =
    if (mark == 0) then DamagedMark else (if nat_lt size mark then DamagedMark else Close number mark)

-- what is made without a buffer
abbrev pub left_mark : ℕ → Small → Plan
left_mark number Absent = Rest number
left_mark number Damaged = DamagedMark
left_mark number (Number mark) = if mark == 0 then DamagedMark else DropMark number

-- the number, where there is a buffer: none is damage, and so is 0
abbrev pub plan_beside : Small → Small → ℕ → Plan
plan_beside Absent mark size = DamagedNext
plan_beside Damaged mark size = DamagedNext
plan_beside (Number number) mark size = if number == 0 then DamagedNext else left_buffer number mark size

-- the number, where there is no buffer
abbrev pub plan_without : Small → Small → Plan
plan_without Absent mark = left_mark 0 mark
plan_without Damaged mark = DamagedNext
plan_without (Number number) mark = left_mark number mark

-- What is made of what was found. The number is damaged where it isn't 8 bytes of one below 2^63, or is missing or 0
-- beside a buffer. The mark is damaged where it isn't 8 bytes of such a number, is 0 or is above the buffer's size.
abbrev pub plan_of : Found → Plan
plan_of f = by f.size
  where
    by : Option ℕ → Plan
    by None = plan_without f.next f.mark
    by (Some size) = plan_beside f.next f.mark size

-- the number that a plan goes on from
abbrev pub number_in : Plan → ℕ
number_in (Close number size) = number
number_in (DropBuffer number) = number
number_in (DropMark number) = number
number_in (Rest number) = number
number_in plan = 0

-- the calls of a plan
abbrev pub settling : Who → Plan → List Asked
settling who (Close number size) =
    asked who Cut (buffer_name who.name ∷ []) size 0
    ∷ shutting who (buffer_name who.name) (closed_name who.name number) (mark_name who.name)
settling who (DropBuffer number) = asked who Remove (buffer_name who.name ∷ []) 0 0 ∷ []
settling who (DropMark number) = asked who Remove (mark_name who.name ∷ []) 0 0 ∷ []
settling who plan = []

-- the file that is damaged
abbrev pub damaged_file : List ℕ → Plan → Option (List ℕ)
damaged_file n DamagedNext = Some (next_name n)
damaged_file n DamagedMark = Some (mark_name n)
damaged_file n plan = None
