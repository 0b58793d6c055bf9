-- Where the oldest generation of a log begins in a stream.
use Rattle.std.specs.Prelude.{◌≡◌, ℕ, ◌+◌, ◌-◌, ◌^◌, nat_lt, Bool, true, false, List, [], ◌∷◌, length}
use Rattle.std.specs.Prelude.{if◌then◌else◌}
use Rattle.std.specs.Prelude.{Option, Some, None, Result, Ok, Err}
use Rattle.chk_bytes.specs.Words.{text_lt}
use Rattle.chk_site.specs.declared.acts.Call.TheVariants.{LogRead}
use Rattle.chk_site.specs.declared.acts.CallFault.{CallFault}
use Rattle.chk_site.specs.declared.acts.CallFault.TheVariants.{Failed, NoMemory, Short}
use Rattle.chk_site.specs.declared.acts.OutsideFault.{OutsideFault}
use Rattle.chk_site.specs.declared.acts.OutsideFault.TheVariants.{Outside}
use Rattle.chk_site.specs.declared.acts.OutsideFault.TheVariants.{NoMemory as no_memory}
use Rattle.chk_site.specs.declared.acts.Who.{Who}
use Rattle.chk_site.specs.declared.limits.TheConstants.{LOG_END, PIECE_BYTES}
use Rattle.chk_site.specs.declared.suffixes.Piece.{Piece}
use Rattle.chk_site.specs.Acts.{Deed, ReadsLog}
use Rattle.chk_site.specs.History.{History}
use Rattle.chk_site.specs.Logs.{Part}
use Rattle.chk_site.specs.Site.{Adds, Asked, asked, answered, piece_given, Calls}
use Rattle.chk_tail.specs.Walks.{part}
use Rattle.chk_ctl_audit_log.specs.declared.placing.Passing.{Passing}
use Rattle.chk_ctl_audit_log.specs.declared.placing.Passing.TheVariants.{Done, Further}
use Rattle.chk_ctl_audit_log.specs.declared.placing.Next.{Next}
use Rattle.chk_ctl_audit_log.specs.declared.placing.Next.TheVariants.{Rotated, Other}

-- the call reads the log
pub data ReadsLogOf (path : List ℕ) : Deed → Type 0 where
  reads : (p : Part) (at max : ℕ) → ReadsLogOf path (ReadsLog path p at max)

-- a read of the generation behind a suffix
abbrev pub reading_at : Who → List ℕ → Option (List ℕ) → ℕ → Asked
reading_at who path after at = asked who LogRead (path ∷ part true after ∷ []) at PIECE_BYTES

-- what a read at a generation's end shows of it
abbrev pub seen_of : ℕ → Option (List ℕ) → ℕ → Next
seen_of size (Some suffix) more =
    if nat_lt (size + more) (2 ^ 64) then Rotated suffix (size + more) else Other
seen_of size None more = Other

abbrev pub next_by : ℕ → Result Piece CallFault → Result Next OutsideFault
next_by size (Ok piece) = Ok (seen_of size piece.ended (length piece.bytes))
next_by size (Err Failed) = Err (Outside LogRead)
next_by size (Err NoMemory) = Err no_memory
next_by size (Err fault) = Ok Other

-- the generation is read at its end, where a read far behind that told its size
abbrev pub SeenBehind : Who → List ℕ → Option (List ℕ) → Result Piece CallFault
    → Result Next OutsideFault → Option History → Option History → Type 0
SeenBehind who path after (Err (Short size)) result old new =
    (given : Result Piece CallFault)
    × Adds old new (Calls (reading_at who path after size) (answered piece_given given))
    × (result ≡ next_by size given)
SeenBehind who path after (Ok piece) result old new = (new ≡ old) × (result ≡ Ok Other)
SeenBehind who path after (Err fault) result old new =
    (new ≡ old) × (result ≡ next_by 0 (Err fault))

-- the generation behind a suffix is looked at by two reads: its size, and whether it is rotated
pub record SeesNext (who : Who) (path : List ℕ) (after : Option (List ℕ))
    (result : Result Next OutsideFault) (old new : Option History) : Type 0 where
  pub given : Result Piece CallFault
  pub middle : Option History
  pub far : Adds old middle (Calls (reading_at who path after LOG_END) (answered piece_given given))
  pub behind : SeenBehind who path after given result middle new

-- it isn't a rotated one up to the last
abbrev pub is_past : List ℕ → Next → Bool
is_past last (Rotated suffix size) = text_lt last suffix
is_past last Other = true

-- what comes of a rotated one, behind so many bytes
abbrev pub further : List ℕ → List ℕ → ℕ → ℕ → Result Passing OutsideFault
further last suffix size bytes =
    if text_lt last suffix then Ok Done
    else if nat_lt (bytes + size) (2 ^ 64) then Ok (Further suffix (bytes + size))
    else Err no_memory

-- one more of them is passed, or it is past the last one
abbrev pub PassesNext : Who → List ℕ → List ℕ → Option (List ℕ) → ℕ → Result Passing OutsideFault
    → Option History → Option History → Type 0
PassesNext who path last after bytes (Ok (Further suffix sum)) old new =
    (size : ℕ) × SeesNext who path after (Ok (Rotated suffix size)) old new
    × (text_lt last suffix ≡ false) × (sum ≡ bytes + size)
PassesNext who path last after bytes (Ok Done) old new =
    (next : Next) × SeesNext who path after (Ok next) old new × (is_past last next ≡ true)
PassesNext who path last after bytes (Err fault) old new = Unit {0}

-- The rotated generations behind a suffix, up to the last one, in their order: how many bytes they
-- have together, as each was looked at in its turn.
pub data Passes (who : Who) (path last : List ℕ) : Option (List ℕ) → ℕ → Option History
    → Option History → Type 0 where
  stops : {after : Option (List ℕ)} {old new : Option History} (next : Next)
      → SeesNext who path after (Ok next) old new → is_past last next ≡ true
      → Passes who path last after 0 old new
  passes : {after : Option (List ℕ)} {n : ℕ} {old mid new : Option History} (suffix : List ℕ)
      (size : ℕ) → SeesNext who path after (Ok (Rotated suffix size)) old mid
      → text_lt last suffix ≡ false → Passes who path last (Some suffix) n mid new
      → Passes who path last after (size + n) old new

abbrev pub PassedBytes : Who → List ℕ → List ℕ → Result ℕ OutsideFault → Option History
    → Option History → Type 0
PassedBytes who path last (Ok n) old new = Passes who path last None n old new
PassedBytes who path last (Err fault) old new = Unit {0}

-- where the oldest generation begins, by the place of one: the last one before it, and its beginning
abbrev pub FoundBegin : Who → List ℕ → Option (List ℕ) → ℕ → Result ℕ OutsideFault
    → Option History → Option History → Type 0
FoundBegin who path None first result old new = (new ≡ old) × (result ≡ Ok first)
FoundBegin who path (Some last) first (Ok begin) old new =
    (n : ℕ) × Passes who path last None n old new × (begin ≡ first - n)
FoundBegin who path (Some last) first (Err fault) old new = Unit {0}
