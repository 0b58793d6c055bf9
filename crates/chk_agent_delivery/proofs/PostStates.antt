-- The script of the sending of a post, exit by exit.
use Rattle.std.proofs.Common.{◌≡◌, ℕ, zero, suc, ◌+◌, ◌-◌, ◌<◌, false, List, [], ◌∷◌, length, Option, Some, Result, Ok, Err, refl, sym, subst, ◌∙◌, arith, true≢false}
use Rattle.std.specs.Prelude.{IsTrue, slice_get, slice_index_or}
use Rattle.std.proofs.lemmas.Option.{same_Some, none-some}
use Rattle.chk_bytes.specs.declared.NoMemory.{NoMemory}
use Rattle.chk_site.specs.declared.acts.Who.{Who}
use Rattle.chk_site.specs.declared.acts.Call.TheVariants.{Send}
use Rattle.chk_site.specs.declared.acts.CallFault.{CallFault}
use Rattle.chk_site.specs.declared.acts.CallFault.TheVariants.{Failed, NoMemory as no_memory}
use Rattle.chk_site.specs.History.{History}
use Rattle.chk_site.specs.Site.{Adds, asked, answered, CallsSome, sized}
use Rattle.chk_failover.specs.Turns.{Turns}
use Rattle.chk_agent_delivery.specs.declared.answers.Posted.TheVariants.{Sent, NoRows, Failed as post_failed}
use Rattle.chk_agent_delivery.specs.States.{State, address_now}
use Rattle.chk_agent_delivery.specs.Turns.{without_post, posted, post_refused}
use Rattle.chk_agent_delivery.specs.Scripts.{Sends, IsNextPost, IsPosted, no_rows, sent, failed, refused}

pub got_at : (xs : List (List ℕ)) (i : ℕ) (a : List ℕ) → slice_get xs i ≡ Some a → slice_index_or xs i [] ≡ a
got_at [] i a e = absurd (none-some a e)
got_at (x ∷ xs) zero a e = same_Some x a e
got_at (x ∷ xs) (suc i) a e = got_at xs i a e

-- what was handed over went to the address in use
pub sends_at : (who : Who) (ring : Turns) (a text w bytes : List ℕ) (given : Result ℕ CallFault) {old new : Option History}
    → slice_get ring.addresses ring.place ≡ Some a → text ≡ a → w ≡ bytes
    → Adds old new (CallsSome (λ n. asked who Send (text ∷ w ∷ []) n 0) (λ n. answered sized given))
    → Sends who (address_now ring) bytes given old new
sends_at who ring a text w bytes given {old = old} {new = new} at is same call =
    subst (λ t. Sends who t bytes given old new) (is ∙ sym (got_at ring.addresses ring.place a at))
    (subst (λ v. Sends who text v given old new) same call)

-- a list that isn't empty has an element
pub some_waits : {A : Type 0} (xs : List A) → (xs ≡ [] → IsTrue false) → 0 < length xs
some_waits [] some = absurd (true≢false (sym (some refl)))
some_waits (x ∷ xs) some = omega arith

pub no_free : (who : Who) (s : State) (free : ℕ) {now : Option History} → (s.queue.chunks ≡ [] → IsTrue false)
    → free + length s.table.rows ≡ s.table.room → free ≡ 0 → IsPosted who s (Ok NoRows) (without_post s) now now
no_free who s free some is none =
    no_rows (λ e. true≢false (sym (some e))) (let z : s.table.room - length s.table.rows ≡ 0 = omega (arith, is, none) in z)

pub is_sent : (who : Who) (s : State) (bytes : List ℕ) (count m : ℕ) {old new : Option History} → IsNextPost s bytes count
    → Sends who (address_now s.ring) bytes (Ok m) old new → IsPosted who s (Ok (Sent count)) (posted m count s) old new
is_sent who s bytes count m {old = old} {new = new} n call =
    subst (λ k. IsPosted who s (Ok (Sent k)) (posted m k s) old new) (sym n.count_is) (sent n.front bytes m n.is_front n.written call)

pub is_failed : (who : Who) (s : State) (bytes : List ℕ) (count : ℕ) {old new : Option History} → IsNextPost s bytes count
    → Sends who (address_now s.ring) bytes (Err Failed) old new → IsPosted who s (Ok post_failed) (post_refused s) old new
is_failed who s bytes count n call = failed n.front bytes n.is_front n.written call

pub is_refused : (who : Who) (s : State) (bytes : List ℕ) (count : ℕ) (fault : NoMemory) {old new : Option History} → IsNextPost s bytes count
    → Sends who (address_now s.ring) bytes (Err no_memory) old new → IsPosted who s (Err fault) s old new
is_refused who s bytes count fault n call = refused fault n.front bytes n.is_front n.written call
