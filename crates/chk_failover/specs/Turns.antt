-- A ring of addresses, and what a failure does to it.
use Rattle.std.specs.Prelude.{◌≡◌, ℕ, zero, suc, ◌+◌, ◌%◌, ◌<◌, Bool, ◌==◌, if◌then◌else◌, List, length}
use Rattle.chk_failover.specs.declared.Turned.{Turned}
use Rattle.chk_failover.specs.declared.Turned.TheVariants.{Next, AllTried}

-- the addresses in order, the place of the one in use, and the failures since the count began
pub record Turns : Type 0 where
  pub addresses : List (List ℕ)
  pub place : ℕ
  pub failures : ℕ

-- with one failure more there are as many as addresses
abbrev pub is_last_failure : Turns → Bool
is_last_failure ring = ring.failures + 1 == length ring.addresses

-- a failure answers that all were tried at the last failure of a count
abbrev pub answer_to_failure : Turns → Turned
answer_to_failure ring = if is_last_failure ring then AllTried (length ring.addresses) else Next

-- a failure turns to the next address, from the last one to the first; at the last of a count it begins anew
abbrev pub after_failure : Turns → Turns
after_failure ring = record ring {
  place = (ring.place + 1) % length ring.addresses;
  failures = (if is_last_failure ring then 0 else ring.failures + 1);
}

-- after this many failures
abbrev pub after_failures : ℕ → Turns → Turns
after_failures zero ring = ring
after_failures (suc n) ring = after_failure (after_failures n ring)

-- from a fresh count the failures go once through all addresses, one after the other, and back to the first of
-- them; the last failure alone answers that all were tried, and leaves the ring as it was
pub record GoesRound (ring : Turns) : Type 0 where
  pub places : (n : ℕ) → n < length ring.addresses → (after_failures n ring).place ≡ (ring.place + n) % length ring.addresses
  pub answers : (n : ℕ) → n + 1 < length ring.addresses → answer_to_failure (after_failures n ring) ≡ Next
  pub last : (n : ℕ) → n + 1 ≡ length ring.addresses → answer_to_failure (after_failures n ring) ≡ AllTried (length ring.addresses)
  pub round : after_failures (length ring.addresses) ring ≡ ring
