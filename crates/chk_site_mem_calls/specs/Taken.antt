-- What was sent and taken, as a site in memory finds it.
use Rattle.std.specs.Prelude.{◌≡◌, ℕ, ◌==◌, List, ◌++◌, Option, Some, None, if◌then◌else◌}
use Rattle.chk_site.specs.Acts.{Deed, Sends}
use Rattle.chk_site.specs.Messages.{Taken}
use Rattle.chk_site_mem_calls.specs.declared.messages.Took.{Took}

-- the bytes of the message m, after this call
abbrev pub sent_in : ℕ → Deed → Option (List ℕ) → Option (List ℕ)
sent_in m (Sends n address bytes) earlier = if m == n then Some bytes else earlier
sent_in m call earlier = earlier

-- a taking as the outside's rules see it
abbrev pub taken_seen : Option Took → Option Taken
taken_seen None = None
taken_seen (Some t) = Some (record { taker = t.taker.now; door = t.door.now; of = t.of; bytes = t.bytes })

-- a taking with a further piece
abbrev pub grown_by : List ℕ → Took → Taken
grown_by more t = record { taker = t.taker.now; door = t.door.now; of = t.of; bytes = t.bytes ++ more }

-- what stands behind those bytes, where the message begins with them
abbrev pub IsBehind : Option (List ℕ) → List ℕ → Option (List ℕ) → Type 0
IsBehind None taken rest = rest ≡ None
IsBehind (Some message) taken None = (rest : List ℕ) → message ≡ taken ++ rest → ⊥
IsBehind (Some message) taken (Some rest) = message ≡ taken ++ rest
