-- A settle behind which all is delivered.
use Rattle.std.proofs.Common.{◌≡◌, ℕ, suc, zero, ◌<◌, List, [], ◌∷◌, length, Option, Some, Ok, ap, sym, subst, ◌∙◌, refl, arith}
use Rattle.std.specs.Prelude.{slice_get, slice_index}
use Rattle.chk_site.specs.History.{History}
use Rattle.chk_acks.specs.Rows.{expired_adaptors, rows_of}
use Rattle.chk_acks.specs.Sound.{IsSound as IsSoundTable, AreInTurn}
use Rattle.chk_agent_adaptor.specs.Adaptors.{Adaptor}
use Rattle.chk_agent_delivery.specs.Sound.{ends_after}
use Rattle.chk_agent_delivery.specs.Turns.{numbers_of, without_chunks}
use Rattle.chk_agent.specs.declared.answers.Settled.{Settled}
use Rattle.chk_agent.specs.States.{State, committed_at}
use Rattle.chk_agent.specs.Fits.{IsSound}
use Rattle.chk_agent.specs.Settles as settle
use Rattle.chk_agent.specs.Settles.{IsSettled, all_back, gone_at, settled_all}
use Rattle.chk_agent.proofs.Soundness.{below_at}
use Rattle.chk_agent.proofs.SettlingSound.{settled_at}
use Rattle.chk_agent_drain.specs.Drains.{AllDelivered}
use Rattle.chk_agent.proofs.SettlingBack.{none_back as back_none}

-- ---- what is committed where nothing waits and no row is left

ends_none : (last owners : List ℕ) → ends_after last owners [] ≡ last
ends_none last [] = refl
ends_none last (i ∷ owners) = refl

pub all_committed : (s : State) → IsSound s → IsSoundTable s.delivery.table
    → s.delivery.queue.chunks ≡ []
    → s.delivery.table.rows ≡ [] → (i : ℕ) (a : Adaptor) → slice_get s.adaptors i ≡ Some a
    → committed_at s i ≡ a.read.offset
all_committed s sound table none no_rows i a at =
    let d = s.delivery in
    let below = below_at s.adaptors i a at in
    let few = sound.few in
    let size = sound.known in
    let known : i < length d.table.committed = omega (arith, below, few, size) in
    let turn : AreInTurn (slice_index d.table.committed i) (rows_of i [])
    (slice_index d.table.last i) =
    subst (λ rows. AreInTurn (slice_index d.table.committed i) (rows_of i rows)
    (slice_index d.table.last i)) no_rows
    (table.turn i known) in
    turn ∙ (sym (ap (λ chunks. slice_index (ends_after d.table.last d.owners chunks) i) none
    ∙ ap (λ xs. slice_index xs i) (ends_none d.table.last d.owners))
    ∙ (sound.each i a at).place.queued)

-- ---- none goes back

pub none_gone : (i n : ℕ) → numbers_of [] i n ≡ []
none_gone i zero = refl
none_gone i (suc n) = none_gone (suc i) n

gone_none : (now : ℕ) (s : State) → s.delivery.table.rows ≡ [] → gone_at now s ≡ []
gone_none now s none =
    ap (λ rows. numbers_of (expired_adaptors now s.delivery.rules.expire rows) 0
    (length s.delivery.table.committed)) none
    ∙ none_gone 0 (length s.delivery.table.committed)

no_chunks : (gone owners : List ℕ) → without_chunks gone owners [] ≡ []
no_chunks gone [] = refl
no_chunks gone (i ∷ owners) = refl

module _ (now : ℕ) (s : State) (sound : IsSound s) (none : s.delivery.queue.chunks ≡ [])
    (no_rows : s.delivery.table.rows ≡ [])
    (all : (i : ℕ) (a : Adaptor) → slice_get s.adaptors i ≡ Some a
    → committed_at s i ≡ a.read.offset) where
  queue : without_chunks (gone_at now s) s.delivery.owners s.delivery.queue.chunks ≡ []
  queue = ap (without_chunks (gone_at now s) s.delivery.owners) none ∙ no_chunks (gone_at now s)
      s.delivery.owners

  committed : (i : ℕ) (b : Adaptor)
      → slice_get (settled_all (all_back (gone_at now s) s.delivery.table.committed 0 s.adaptors)
      s.delivery.table.committed) i ≡ Some b → committed_at s i ≡ b.read.offset
  committed i b at =
      let few = sound.few in
      let known = sound.known in
      let same = ap (λ gone. all_back gone s.delivery.table.committed 0 s.adaptors)
      (gone_none now s no_rows)
      ∙ back_none s.delivery.table.committed 0 s.adaptors in
      let r = settled_at s.adaptors s.delivery.table.committed i b (omega (arith, few, known))
      (ap (λ xs. slice_get (settled_all xs s.delivery.table.committed) i) (sym same) ∙ at) in
      all i r.0 r.1 ∙ ap (λ (x : Adaptor). x.read.offset) (sym r.2)

  pub settled_delivered : {t : State} {given : Settled} {old new : Option History}
      → IsSettled now s (Ok given) t old new
      → AllDelivered t
  settled_delivered (settle.same same) = record
      { queue = queue; committed = λ i b at live. committed i b at; saved = sym same }
  settled_delivered (settle.written other writes) =
      record { queue = queue; committed = λ i b at live. committed i b at; saved = refl }

pub settled_ready : {now : ℕ} {s t : State} {given : Settled} {old new : Option History}
    → IsSettled now s (Ok given) t old new → t.ready ≡ s.ready
settled_ready (settle.same same) = refl
settled_ready (settle.written other writes) = refl

pub settled_ends : {now : ℕ} {s t : State} {given : Settled} {old new : Option History}
    → IsSettled now s (Ok given) t old new → (i : ℕ) → committed_at t i ≡ committed_at s i
settled_ends (settle.same same) i = refl
settled_ends (settle.written other writes) i = refl
