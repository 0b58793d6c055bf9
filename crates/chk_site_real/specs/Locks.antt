-- The locks of processes.
use Rattle.std.specs.Prelude.{◌≡◌, ◌⊎◌, ℕ, Bool, true, false, List, [], ◌∷◌, ◌++◌, bytes_eq, codes, string_bytes, Option, Some, None}
use Rattle.std.specs.List.{list_any}
use Rattle.chk_site.specs.declared.acts.Role.{Role}
use Rattle.chk_site.specs.declared.acts.Role.TheVariants.{Agent, Collector, Job, Writer}
use Rattle.chk_site_real.specs.declared.locks.Lock.{Lock}

-- the file of the lock of a process with this name; a writer has none
abbrev pub lock_of : Role → List ℕ → Option (List ℕ)
lock_of Agent name = Some (codes "locks/agent." ++ name)
lock_of Collector name = Some (codes "locks/collector." ++ name)
lock_of Job name = Some (codes "locks/job")
lock_of Writer name = None

-- it is the lock of this name
abbrev pub is_of : List ℕ → Lock → Bool
is_of name lock = bytes_eq (string_bytes lock.name) name

-- the lock of the name was held before and nothing is changed, or it comes last
abbrev pub Holds : List Lock → List Lock → List ℕ → Type 0
Holds old new name =
    ((list_any (is_of name) old ≡ true) × (new ≡ old))
    ⊎ ((list_any (is_of name) old ≡ false)
    × ((lock : Lock) × (string_bytes lock.name ≡ name) × (new ≡ old ++ lock ∷ [])))
