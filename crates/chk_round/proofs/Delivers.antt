-- A settle behind which all is delivered.
use Rattle.std.proofs.Common.{◌≡◌, ℕ, zero, suc, ◌≤◌, true, false, List, [], ◌∷◌, length, Option, Some, None, Result, Ok, Err, refl, sym, ap, ◌∙◌, arith}
use Rattle.std.specs.Prelude.{slice_get, slice_index}
use Rattle.std.proofs.lemmas.Option.{same_Some, none-some}
use Rattle.chk_site.specs.History.{History}
use Rattle.chk_site.specs.Site.{Adds}
use Rattle.chk_site.specs.Runs.{Leads}
use Rattle.chk_site.proofs.Leads.{leads_as}
use Rattle.chk_world.specs.Places.{As}
use Rattle.chk_acks.specs.declared.row.Row.{Row}
use Rattle.chk_acks.specs.Rows.{expired_adaptors}
use Rattle.chk_agent_delivery.specs.Turns.{numbers_of}
use Rattle.chk_acks.specs.Sound.{IsSound as IsSoundTable}
use Rattle.chk_queue.specs.Queues.{Waiting}
use Rattle.chk_sink.specs.States.{State as Sinks}
use Rattle.chk_agent_adaptor.specs.declared.adaptor.Phase.{Phase}
use Rattle.chk_agent_adaptor.specs.declared.adaptor.Phase.TheVariants.{Live, Stopping, Shrank, Past}
use Rattle.chk_agent_adaptor.specs.Adaptors.{Adaptor, is_past, phase_at, settled_one}
use Rattle.chk_agent_delivery.specs.States.{State as Delivery, free_rows}
use Rattle.chk_agent.specs.declared.answers.AgentFault.{AgentFault}
use Rattle.chk_agent.specs.declared.answers.AgentFault.TheVariants.{Damaged as agent_damaged, Outside as agent_failed, NoMemory as agent_wanting}
use Rattle.chk_agent.specs.declared.answers.Settled.{Settled}
use Rattle.chk_agent.specs.Facts.{Matches as AgentMatches}
use Rattle.chk_agent.specs.Faults.{IsUndamaged}
use Rattle.chk_agent.specs.Fits.{IsSound}
use Rattle.chk_agent.specs.Settles.{IsSettled}
use Rattle.chk_agent.specs.Settles as settle
use Rattle.chk_agent.specs.States.{State as Agents, process as agent_of}
use Rattle.chk_agent.proofs.SettlingSound.{settled_at}
use Rattle.chk_agent_drain.proofs.Settled.{all_committed, settled_delivered, settled_ready, none_gone}
use Rattle.chk_agent.proofs.Alike.{settled_source}
use Rattle.chk_round.specs.Delivering.{Delivered, ReadAsFar}
use Rattle.chk_round.specs.Faults.{of_agent}
use Rattle.chk_round.specs.Following.{KeepsLogs}
use Rattle.chk_round.specs.Joint.{BothAt, GoesOn, JointTo}
use Rattle.chk_round.specs.Polling.{HasFree, PostedAll}
use Rattle.chk_round.proofs.Following.{keeps_same, keeps_then}
use Rattle.chk_round.proofs.Joining.{same_then}
use Rattle.chk_round.proofs.Sides.{agent_goes}

-- ---- no row is left

none_left : (rows : List Row) → length rows ≡ 0 → rows ≡ []
none_left [] none = refl
none_left (r ∷ rows) none = absurd (let z : ⊥ = omega (arith, none) in z)

pub rows_gone : (d : Delivery) → 1 ≤ d.table.room → d.table.room ≤ free_rows d → d.table.rows ≡ []
rows_gone d some free = none_left d.table.rows (omega (arith, some, free))

-- ---- none goes back

gone_none : (now : ℕ) (s : Agents) → s.delivery.table.rows ≡ [] → settle.gone_at now s ≡ []
gone_none now s none =
    ap (λ rows. numbers_of (expired_adaptors now s.delivery.rules.expire rows) 0 (length s.delivery.table.committed)) none
    ∙ none_gone 0 (length s.delivery.table.committed)

back_none : (committed : List ℕ) (i : ℕ) (xs : List Adaptor) → settle.all_back [] committed i xs ≡ xs
back_none committed i [] = refl
back_none committed i (a ∷ xs) = ap (λ ys. a ∷ ys) (back_none committed (suc i) xs)

all_there : (now : ℕ) (s : Agents) → s.delivery.table.rows ≡ []
    → settle.all_back (settle.gone_at now s) s.delivery.table.committed 0 s.adaptors ≡ s.adaptors
all_there now s rows =
    ap (λ gone. settle.all_back gone s.delivery.table.committed 0 s.adaptors) (gone_none now s rows)
    ∙ back_none s.delivery.table.committed 0 s.adaptors

-- ---- the adaptors behind a settle

past_before : (o : ℕ) (p : Phase) → is_past (phase_at o p) ≡ false → is_past p ≡ false
past_before o Live e = refl
past_before o (Stopping None) e = refl
past_before o (Stopping (Some end)) e = refl
past_before o Shrank e = refl
past_before o Past e = e

module _ (now : ℕ) (s : Agents) (sound : IsSound s) (rows : s.delivery.table.rows ≡ []) where
  kept_at : (i : ℕ) (b : Adaptor) → slice_get (settle.settled_all
      (settle.all_back (settle.gone_at now s) s.delivery.table.committed 0 s.adaptors) s.delivery.table.committed) i ≡ Some b
      → (a : Adaptor) × (slice_get s.adaptors i ≡ Some a) × ReadAsFar a b
  kept_at i b at =
      let few = sound.few in
      let known = sound.known in
      let same = all_there now s rows in
      let r = settled_at s.adaptors s.delivery.table.committed i b (omega (arith, few, known))
      (ap (λ xs. slice_get (settle.settled_all xs s.delivery.table.committed) i) (sym same) ∙ at) in (
        r.0,
        r.1,
        record {
          kind = ap (λ (x : Adaptor). x.kind) r.2;
          path = ap (λ (x : Adaptor). x.path) r.2;
          offset = ap (λ (x : Adaptor). x.read.offset) r.2;
          lives = λ e. past_before (slice_index s.delivery.table.committed i) r.0.phase
              (ap (λ (x : Adaptor). is_past x.phase) (sym r.2) ∙ e);
        },
      )

  pub adaptors_kept : {t : Agents} {given : Settled} {old new : Option History} → IsSettled now s (Ok given) t old new
      → (i : ℕ) (b : Adaptor) → slice_get t.adaptors i ≡ Some b
      → (a : Adaptor) × (slice_get s.adaptors i ≡ Some a) × ReadAsFar a b
  adaptors_kept (settle.same is) i b at = kept_at i b at
  adaptors_kept (settle.written other writes) i b at = kept_at i b at

-- ---- the logs that are read

settled_to : (xs : List Adaptor) (ends : List ℕ) (i : ℕ) (x : Adaptor) → slice_get xs i ≡ Some x → x.phase ≡ Live
    → (y : Adaptor) × (slice_get (settle.settled_all xs ends) i ≡ Some y) × (y.kind ≡ x.kind) × (y.path ≡ x.path)
    × (y.phase ≡ Live)
settled_to [] ends i x at live = absurd (none-some x at)
settled_to (a ∷ xs) [] zero x at live = (x, at, refl, refl, live)
settled_to (a ∷ xs) [] (suc i) x at live = settled_to xs [] i x at live
settled_to (a ∷ xs) (o ∷ ends) zero x at live =
    let same = same_Some a x at in (
      settled_one o a,
      refl,
      ap (λ (k : Adaptor). k.kind) same,
      ap (λ (k : Adaptor). k.path) same,
      ap (phase_at o) (ap (λ (k : Adaptor). k.phase) same ∙ live),
    )
settled_to (a ∷ xs) (o ∷ ends) (suc i) x at live = settled_to xs ends i x at live

settled_size : (xs : List Adaptor) (ends : List ℕ) → length (settle.settled_all xs ends) ≡ length xs
settled_size [] ends = refl
settled_size (a ∷ xs) [] = ap suc (settled_size xs [])
settled_size (a ∷ xs) (o ∷ ends) = ap suc (settled_size xs ends)

module _ (now : ℕ) (s : Agents) (sound : IsSound s) (rows : s.delivery.table.rows ≡ []) where
  keeps_list : (t : Agents) → t.adaptors ≡ settle.settled_all s.adaptors s.delivery.table.committed → KeepsLogs s t
  keeps_list t is kind path = (
    (λ f.
        let y = settled_to s.adaptors s.delivery.table.committed f.place f.adaptor f.at f.live in
        record {
          place = f.place;
          adaptor = y.0;
          at = ap (λ xs. slice_get xs f.place) is ∙ y.1;
          kind_is = y.2 ∙ f.kind_is;
          path_is = y.3 ∙ f.path_is;
          live = y.4;
        }),
    (λ h. record {
      full = ap length is ∙ (settled_size s.adaptors s.delivery.table.committed ∙ h.full);
      none = λ i x at k p.
          let few = sound.few in
          let known = sound.known in
          let r = settled_at s.adaptors s.delivery.table.committed i x (omega (arith, few, known))
          (ap (λ xs. slice_get xs i) (sym is) ∙ at) in
          h.none i r.0 r.1 (sym (ap (λ (y : Adaptor). y.kind) r.2) ∙ k)
          (sym (ap (λ (y : Adaptor). y.path) r.2) ∙ p);
    }),
  )

  settle_keeps : {t : Agents} {given : Settled} {old new : Option History} → IsSettled now s (Ok given) t old new
      → KeepsLogs s t
  settle_keeps (settle.same is) =
      keeps_list (settle.settled (settle.reset (settle.gone_at now s) s))
      (ap (λ xs. settle.settled_all xs s.delivery.table.committed) (all_there now s rows))
  settle_keeps (settle.written other writes) =
      keeps_list (settle.saved_now (settle.settled (settle.reset (settle.gone_at now s) s)))
      (ap (λ xs. settle.settled_all xs s.delivery.table.committed) (all_there now s rows))

settled_cluster : {now : ℕ} {s t : Agents} {result : Result Settled AgentFault} {old new : Option History}
    → IsSettled now s result t old new → t.cluster ≡ s.cluster
settled_cluster (settle.same same) = refl
settled_cluster (settle.written other writes) = refl
settled_cluster (settle.failed call other writes) = refl
settled_cluster (settle.unwritten other writes) = refl
settled_cluster settle.wanting = refl

-- ---- all of it

pub delivered : (now : ℕ) (a b c d : Agents) → PostedAll a b → HasFree b.delivery.table.room b c → 1 ≤ b.delivery.table.room
    → IsSound c → IsSoundTable c.delivery.table → a.ready ≡ true
    → {given : Settled} {old new : Option History} → IsSettled now c (Ok given) d old new → Delivered a d
delivered now a b c d posted free some sound table ready is =
    let room = free.same.rest.room in
    let many = free.free in
    let rows = rows_gone c.delivery (omega (arith, some, room)) (omega (arith, many, room)) in
    let none = ap (λ (q : Waiting). q.chunks) free.queue ∙ posted.none in
    let same = same_then a b c posted.same free.same in
    record {
      source = settled_source is ∙ same.source;
      cluster = settled_cluster is ∙ same.cluster;
      ready = settled_ready is ∙ (same.ready ∙ ready);
      delivered = settled_delivered now c sound none rows (all_committed c sound table none rows) is;
      adaptors = λ i y at.
          let k = adaptors_kept now c sound rows is i y at in
          (k.0, ap (λ xs. slice_get xs i) (sym same.rest.adaptors) ∙ k.1, k.2);
    }

pub delivered_logs : (now : ℕ) (a b c d : Agents) → PostedAll a b → HasFree b.delivery.table.room b c → 1 ≤ b.delivery.table.room
    → IsSound c → {given : Settled} {old new : Option History} → IsSettled now c (Ok given) d old new → KeepsLogs a d
delivered_logs now a b c d posted free some sound is =
    let room = free.same.rest.room in
    let many = free.free in
    let rows = rows_gone c.delivery (omega (arith, some, room)) (omega (arith, many, room)) in
    keeps_then a c d
    (keeps_then a b c (keeps_same a b posted.same.rest.adaptors)
    (keeps_same b c free.same.rest.adaptors)) (settle_keeps now c sound rows is)

-- ---- what it leads to

settle_ended : (stamped : List (List ℕ)) (s : Sinks) (b : Agents) (fault : AgentFault) → IsUndamaged {T = Settled} (Err fault)
    → (h : History) → BothAt stamped s b h → GoesOn stamped s b (Err (of_agent fault)) h
settle_ended stamped s b (agent_damaged at) is h x = absurd is
settle_ended stamped s b (agent_failed call) is h x = x.0.legal
settle_ended stamped s b agent_wanting is h x = x.0.legal

module _ (s : Sinks) (a b : Agents) {old new : Option History}
    (told : (stamped : List (List ℕ)) → Adds old new (Leads (As stamped (agent_of a)) (AgentMatches stamped a) (AgentMatches stamped b))) where
  pub agent_call : JointTo s a s b (Ok tt) old new
  agent_call stamped started acting run = agent_goes stamped started acting s a run b (told stamped)

  pub settle_ends : (fault : AgentFault) → IsUndamaged {T = Settled} (Err fault) → JointTo s a s b (Err (of_agent fault)) old new
  settle_ends fault is stamped started acting run =
      leads_as (λ h x. x) (settle_ended stamped s b fault is) (agent_call stamped started acting run)
