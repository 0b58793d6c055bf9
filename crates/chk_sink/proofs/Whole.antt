-- A put from its begin: a full sink is let go of, and the chunk is put into the sink that is written to or the next one.
use Rattle.std.proofs.Common.{◌≡◌, ℕ, ◌+◌, ◌≤◌, Bool, true, false, List, length, Option, None, Result, Ok, Err, inl, inr, refl, ◌∙◌, true≢false, ap, sym, subst, arith, if◌then◌else◌, nat_lt, nat_le, ◌&&◌}
use Rattle.std.specs.Prelude.{IsTrue, IfErr}
use Rattle.chk_bytes.specs.Stems.{Stem}
use Rattle.std.proofs.lemmas.Bool.{and_parts, leb-true}
use Rattle.chk_site.specs.History.{History}
use Rattle.chk_site.specs.Site.{Adds}
use Rattle.chk_site.specs.Runs.{Leads}
use Rattle.chk_site.proofs.Leads.{leads_as}
use Rattle.chk_chunk.specs.Keys.{Chunk, IsKey, is_chunk, is_key, has_value, chunk_limit, written_key}
use Rattle.chk_chunk.proofs.KeyLaws.{written_key_is_key}
use Rattle.chk_chunk.proofs.KeySizes.{key_size}
use Rattle.chk_world.specs.Collectors.{Handling}
use Rattle.chk_world.specs.Places.{As}
use Rattle.chk_sink.specs.declared.fault.SinkFault.{SinkFault}
use Rattle.chk_sink.specs.declared.fault.SinkFault.TheVariants.{Outside, Damaged, Spent, NoMemory}
use Rattle.chk_sink.specs.Puts.{LeavesInSame, LeavesInNext, LeavesAfterPut}
use Rattle.chk_sink.specs.States.{State, process, let_go, needs_next, without_full}
use Rattle.chk_sink.specs.Held.{Ready}
use Rattle.chk_sink.proofs.Holding.{told_by, let_go_handles}

-- a sink that is written to is let go of
pub let_go_ready : (stamped : List (List ℕ)) (s : State) (messages : List Handling) (h : History) → Ready stamped s messages h
    → Ready stamped (let_go s) messages h
let_go_ready stamped s messages h x = told_by h (let_go_handles s messages h) x

-- what is put once a full sink was let go of
pub after_full : (stamped : List (List ℕ)) (s mid : State) (messages : List Handling) (After : History → Type 0) {old new : Option History}
    → mid ≡ without_full s → Adds old new (Leads (As stamped (process mid)) (Ready stamped mid messages) After)
    → Adds old new (Leads (As stamped (process s)) (Ready stamped s messages) After)
after_full stamped s mid messages After {old = old} {new = new} e told =
    go (needs_next s.current) (subst (λ m. Adds old new (Leads (As stamped (process m)) (Ready stamped m messages) After)) e told)
  where
    go : (b : Bool) → Adds old new (Leads (As stamped (process (if b then let_go s else s))) (Ready stamped (if b then let_go s else s) messages) After)
        → Adds old new (Leads (As stamped (process s)) (Ready stamped s messages) After)
    go true t = leads_as (let_go_ready stamped s messages) (λ h x. x) t
    go false t = t

-- a chunk's key and data are small enough for an entry
pub chunk_small : (c : Chunk) (key value : List ℕ) → IsTrue (is_chunk c) → key ≡ written_key c.key → value ≡ c.value
    → length key + length value ≤ 16777216
chunk_small c key value good k v =
    let parts = and_parts (is_key c.key) (has_value chunk_limit c.key c.value) good in
    let n : ℕ = length c.value in
    let some = and_parts (nat_lt 0 n) (nat_le n chunk_limit && nat_le (c.key.start + n) c.key.seq) parts.1 in
    let most : length c.value ≤ 131072 = leb-true n chunk_limit (and_parts (nat_le n chunk_limit) (nat_le (c.key.start + n) c.key.seq) some.1).0 in
    let short = key_size c.key (written_key c.key) (written_key_is_key c.key parts.0) in
    omega (arith, ap length k, ap length v, most, short)

-- and the key is one
pub chunk_key : (c : Chunk) (key : List ℕ) → IsTrue (is_chunk c) → key ≡ written_key c.key → IsKey c.key key
chunk_key c key good k =
    let parts = and_parts (is_key c.key) (has_value chunk_limit c.key c.value) good in
    subst (IsKey c.key) (sym k) (written_key_is_key c.key parts.0)

-- ---- what a refused put leaves

-- into the sink that is written to, once a full one was let go of
pub same_leaves : (s mid st : State) (result : Result (Stem × ℕ) SinkFault) → mid ≡ without_full s
    → IfErr result (LeavesInSame mid st) → IfErr result (LeavesAfterPut s st)
same_leaves s mid st (Ok placed) e left = tt
same_leaves s mid st (Err (Outside call)) e left = left
same_leaves s mid st (Err (Damaged name at)) e left = left
same_leaves s mid st (Err (Spent born)) e left = absurd left
same_leaves s mid st (Err NoMemory) e left = inl (left ∙ e)

-- without a sink that is written to, the next one is needed
pub next_needed : (s : State) → (without_full s).current ≡ None → IsTrue (needs_next s.current)
next_needed s none = go (needs_next s.current) refl none
  where
    go : (b : Bool) → needs_next s.current ≡ b → (if b then let_go s else s).current ≡ None → IsTrue b
    go true e none = refl
    go false e none = absurd (true≢false (subst (λ o. needs_next o ≡ false) none e))

pub full_number : (s : State) → (without_full s).number ≡ s.number
full_number s = go (needs_next s.current)
  where
    go : (b : Bool) → (if b then let_go s else s).number ≡ s.number
    go true = refl
    go false = refl

-- into the next sink
pub next_leaves : (s mid st : State) (result : Result (Stem × ℕ) SinkFault) → mid ≡ without_full s → mid.current ≡ None
    → IfErr result (LeavesInNext mid st) → IfErr result (LeavesAfterPut s st)
next_leaves s mid st (Ok placed) e none left = tt
next_leaves s mid st (Err (Outside call)) e none left = left
next_leaves s mid st (Err (Damaged name at)) e none left = left
next_leaves s mid st (Err (Spent born)) e none left = absurd left
next_leaves s mid st (Err NoMemory) e none (inl same) = inl (same ∙ e)
next_leaves s mid st (Err NoMemory) e none (inr made) = inr (
  next_needed s (sym (ap (λ (t : State). t.current) e) ∙ none),
  record { number = made.number ∙ ap (λ n. n + 1) (ap (λ (t : State). t.number) e ∙ full_number s); abandoned = made.abandoned },
)
