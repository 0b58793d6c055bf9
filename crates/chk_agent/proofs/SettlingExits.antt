-- The exits of a settle: what it leaves at each, and what the told history then holds.
use Rattle.std.proofs.Common.{◌≡◌, ◌≢◌, ℕ, zero, suc, ◌≤◌, Bool, true, false, List, ◌∷◌, length}
use Rattle.std.proofs.Common.{Some, Option, Result, Ok, Err, ap, sym, subst, ◌∙◌, refl, arith}
use Rattle.std.proofs.Common.{if◌then◌else◌}
use Rattle.std.specs.Prelude.{IsTrue, slice_get, slice_index}
use Rattle.chk_site.specs.declared.acts.Call.{Call}
use Rattle.chk_site.specs.declared.acts.Role.TheVariants.{Agent}
use Rattle.chk_site.specs.declared.acts.Who.{Who}
use Rattle.chk_site.specs.declared.acts.OutsideFault.{OutsideFault}
use Rattle.chk_site.specs.declared.acts.OutsideFault.TheVariants.{Outside as site_failed}
use Rattle.chk_site.specs.declared.acts.OutsideFault.TheVariants.{NoMemory as no_memory}
use Rattle.chk_site.specs.History.{Every, History}
use Rattle.chk_site.specs.Site.{Adds}
use Rattle.chk_site.specs.Runs.{Leads, MadeInTurn}
use Rattle.chk_site.proofs.Leads.{leads_as, leads_none}
use Rattle.chk_replace.specs.Replace.{replacement, SparesOld}
use Rattle.chk_acks.specs.Sound.{IsSound as IsSoundTable}
use Rattle.chk_rotate.specs.Marks.{BeginsBelow}
use Rattle.chk_checkpoint.specs.Lines.{written_text}
use Rattle.chk_world.specs.Names.{CheckFile, spell}
use Rattle.chk_world.specs.Checkpoints.{Line, Two, are_lines, read_checkpoint}
use Rattle.chk_world.specs.Places.{As}
use Rattle.chk_world.specs.Answering.{LinesGoOn}
use Rattle.chk_world.specs.Knowing.{agent}
use Rattle.chk_agent_adaptor.specs.Adaptors.{Adaptor}
use Rattle.chk_agent_delivery.specs.States.{State as Delivery}
use Rattle.chk_agent_delivery.specs.Sound.{IsSound as IsSoundDelivery}
use Rattle.chk_agent_delivery.specs.Turns.{is_one_of, numbers_of, without_adaptors}
use Rattle.chk_agent.specs.declared.answers.AgentFault.TheVariants.{Outside, NoMemory}
use Rattle.chk_agent.specs.States.{State, process, committed_at, lines_at, lines_of}
use Rattle.chk_agent.specs.Settles.{all_back, reset, settled_all, settled, saved_now, unsure}
use Rattle.chk_agent.specs.Settles.{Writes, gone_at, IsSettled, same, written, failed, unwritten}
use Rattle.chk_agent.specs.Facts.{Matches}
use Rattle.chk_agent.specs.Fits.{IsSound}
use Rattle.chk_agent.specs.Within.{Rising}
use Rattle.chk_agent.proofs.Soundness.{lines_spelled, sound_saved}
use Rattle.chk_agent.proofs.SettlingBack.{lines_back}
use Rattle.chk_agent_delivery.proofs.Leaving.{length-last_back as last_size}
use Rattle.chk_agent.proofs.SettlingSound.{sound_reset, sound_settled}
use Rattle.chk_agent.proofs.SettlingHolds.{holds_settled}
use Rattle.chk_agent.proofs.SettlingTold.{reset_matches, settled_matches, lines_go_on, lines_unmade}
use Rattle.chk_agent.proofs.SettlingTold.{lines_written, lines_unsure}

-- ---- who goes back

numbers_rise : (gone : List ℕ) (low i n : ℕ) → low ≤ i → Rising low (numbers_of gone i n)
numbers_rise gone low i zero on = tt
numbers_rise gone low i (suc n) on = go (is_one_of gone i) (λ low below. numbers_rise gone low (suc i) n below)
  where
    go : (b : Bool) → ((low : ℕ) → low ≤ suc i → Rising low (numbers_of gone (suc i) n))
        → Rising low (if b then i ∷ numbers_of gone (suc i) n else numbers_of gone (suc i) n)
    go true rest = (on, rest (suc i) (omega arith))
    go false rest = rest low (omega (arith, on))

numbers_size : (gone : List ℕ) (i n : ℕ) → length (numbers_of gone i n) ≤ n
numbers_size gone i zero = omega arith
numbers_size gone i (suc n) = go (is_one_of gone i) (numbers_size gone (suc i) n)
  where
    go : (b : Bool) → length (numbers_of gone (suc i) n) ≤ n
        → length (if b then i ∷ numbers_of gone (suc i) n else numbers_of gone (suc i) n) ≤ suc n
    go true rest = omega (arith, rest)
    go false rest = omega (arith, rest)

pub gone_rise : (now : ℕ) (s : State) → Rising 0 (gone_at now s)
gone_rise now s = numbers_rise _ 0 0 (length s.delivery.table.committed) (omega arith)

pub gone_few : (now : ℕ) (s : State) → IsSound s → length (gone_at now s) ≤ 10000
gone_few now s sound =
    let few = numbers_size _ 0 (length s.delivery.table.committed) in
    let known = sound.known in
    let k : length (gone_at now s) ≤ length s.delivery.table.committed = few in omega (arith, k, known)

-- where each committed end lies
pub ends_from : (s : State) → IsSound s → (i : ℕ) (a : Adaptor) → slice_get s.adaptors i ≡ Some a → BeginsBelow (committed_at s i) a.marks
ends_from s sound i a at = (sound.each i a at).place.from

pub ends_to : (s : State) → IsSound s → (i : ℕ) (a : Adaptor) → slice_get s.adaptors i ≡ Some a → committed_at s i ≤ a.read.offset
ends_to s sound i a at = (sound.each i a at).place.to

-- ---- once they went back

-- what the calls up to there gave
pub record WentBack (now : ℕ) (s : State) (d : Delivery) (back : List Adaptor) : Type 0 where
  pub delivery : d ≡ without_adaptors (gone_at now s) s.delivery
  pub adaptors : back ≡ all_back (gone_at now s) s.delivery.table.committed 0 s.adaptors
  pub sound : IsSoundDelivery d
  pub table : IsSoundTable d.table

pub went_back : (now : ℕ) (s : State) (d : Delivery) (back : List Adaptor) (gone numbers : List ℕ) (xs : List Adaptor)
    → d ≡ without_adaptors (gone_at now s) s.delivery → gone ≡ gone_at now s → numbers ≡ gone → xs ≡ s.adaptors
    → back ≡ all_back numbers d.table.committed 0 xs → IsSoundDelivery d → IsSoundTable d.table → WentBack now s d back
went_back now s d back gone numbers xs delivery gone_is numbers_are xs_are is sound table = record {
  delivery = delivery;
  adaptors = is ∙ (λ i. all_back ((numbers_are ∙ gone_is) i) (ap (λ (d : Delivery). d.table.committed) delivery i) 0 (xs_are i));
  sound = sound;
  table = table;
}

-- the writing, as one by the agent of its source
pub writes_as : (w : Who) (s : State) (lines : List Line) (result : Result (Unit {0}) OutsideFault) {old new : Option History} → w.role ≡ Agent
    → w.name ≡ s.source → MadeInTurn (replacement w (spell (CheckFile w.name)) (written_text lines)) result old new → Writes s lines result old new
writes_as w s lines result {old = old} {new = new} role name script =
    subst (λ (w : Who). MadeInTurn (replacement w (spell (CheckFile w.name)) (written_text lines)) result old new)
    (λ i. record { role = role i; name = name i }) script

module _ (now : ℕ) (s : State) (sound : IsSound s) (d : Delivery) (back : List Adaptor) (w : WentBack now s d back) where
  abbrev T : State
  T = record s { adaptors = back; delivery = d }

  pub reset_is : T ≡ reset (gone_at now s) s
  reset_is = λ i. record s { adaptors = w.adaptors i; delivery = w.delivery i }

  pub committed_is : d.table.committed ≡ s.delivery.table.committed
  committed_is = ap (λ (d : Delivery). d.table.committed) w.delivery

  reset_sound : IsSound (reset (gone_at now s) s)
  reset_sound =
      sound_reset s sound (gone_at now s)
      (let many = w.table.as_many in
      let last : length d.table.last ≡ length s.delivery.table.last =
      ap (λ (d : Delivery). length d.table.last) w.delivery ∙ last_size (gone_at now s) s.delivery.table.committed 0 s.delivery.table.last in
      let same = ap length committed_is in omega (arith, many, last, same))
      (subst IsSoundDelivery w.delivery w.sound)

  pub back_sound : IsSound T
  back_sound = subst IsSound (sym reset_is) reset_sound

  -- the lines are those of the adaptors before
  pub back_lines : lines_at back d.table.committed ≡ lines_at s.adaptors s.delivery.table.committed
  back_lines =
      (λ i. lines_at (w.adaptors i) (committed_is i))
      ∙ lines_back (gone_at now s) s.delivery.table.committed 0 s.adaptors s.delivery.table.committed
      (λ i a at. (sound.each i a at).place.marked.placed) (ends_from s sound) (λ j below. ap (slice_index s.delivery.table.committed) (omega arith))
      (let few = sound.few in let known = sound.known in omega (arith, few, known))

  pub back_matches : (stamped : List (List ℕ)) (h : History) → Matches stamped s h → Matches stamped T h
  back_matches stamped h x = subst (λ t. Matches stamped t h) (sym reset_is) (reset_matches stamped s sound (gone_at now s) h x)

-- ---- once they are settled

module _ (t : State) (sound : IsSound t) (lines : List Line) (are : lines ≡ lines_of (settled t)) where
  settled_sound : IsSound (settled t)
  settled_sound = sound_settled t sound

  pub good_lines : IsTrue (are_lines Two lines)
  good_lines = subst (λ ls. IsTrue (are_lines Two ls)) (sym are) (lines_spelled (settled t) settled_sound)

  -- the lines are those of a settle at this moment
  lines_is : (now : ℕ) (s : State) → t ≡ reset (gone_at now s) s → lines ≡ lines_of (settled (reset (gone_at now s) s))
  lines_is now s is = are ∙ ap (λ t. lines_of (settled t)) is

  saved_as : (now : ℕ) (s : State) → t ≡ reset (gone_at now s) s → t.saved ≡ s.saved
  saved_as now s is = ap (λ (t : State). t.saved) is

  -- another list of lines is saved
  others : (now : ℕ) (s : State) → t ≡ reset (gone_at now s) s → (lines ≡ t.saved → ⊥)
      → lines_of (settled (reset (gone_at now s) s)) ≢ s.saved
  others now s is other e = other (lines_is now s is ∙ (e ∙ sym (saved_as now s is)))

  -- the writing of a settle at this moment
  script_as : (now : ℕ) (s : State) → t ≡ reset (gone_at now s) s → (result : Result (Unit {0}) OutsideFault)
      {old new : Option History} → Writes t lines result old new
      → Writes s (lines_of (settled (reset (gone_at now s) s))) result old new
  script_as now s is result {old = old} {new = new} script =
      subst (λ t. Writes t (lines_of (settled t)) result old new) is (subst (λ ls. Writes t ls result old new) are script)

  module _ (after : List Adaptor) (after_is : after ≡ settled_all t.adaptors t.delivery.table.committed) where
    settled_is : record t { adaptors = after } ≡ settled t
    settled_is = λ i. record t { adaptors = after_is i }

    saved_is : record t { adaptors = after; saved = lines } ≡ saved_now (settled t)
    saved_is = λ i. record t { adaptors = after_is i; saved = are i }

    pub sound_after : IsSound (record t { adaptors = after })
    sound_after = subst IsSound (sym settled_is) settled_sound

    pub sound_written : IsSound (record t { adaptors = after; saved = lines })
    sound_written = subst IsSound (sym saved_is) (sound_saved (settled t) settled_sound)

    -- nothing is written
    pub same_state : lines ≡ t.saved → (now : ℕ) (s : State) → t ≡ reset (gone_at now s) s → (n : ℕ) → n ≡ length (gone_at now s)
        → (at : Option History) → IsSettled now s (Ok (record { reset = n; written = false })) (record t { adaptors = after }) at at
    same_state saved now s is n many at =
        subst (λ n. IsSettled now s (Ok (record { reset = n; written = false })) (record t { adaptors = after }) at at) (sym many)
        (subst (λ u. IsSettled now s (Ok (record { reset = length (gone_at now s); written = false })) u at at)
        (sym (settled_is ∙ ap settled is))
        (same (sym (lines_is now s is) ∙ (saved ∙ saved_as now s is))))

    pub same_told : (stamped : List (List ℕ)) (at : Option History)
        → Adds at at (Leads (As stamped (process t)) (Matches stamped t) (Matches stamped (record t { adaptors = after })))
    same_told stamped at = leads_none at (λ h x.
        subst (λ u. Matches stamped u h) (sym settled_is) (settled_matches stamped t sound h x))

    -- the lines are written
    pub written_state : (lines ≡ t.saved → ⊥) → {old new : Option History} → Writes t lines (Ok tt) old new
        → (now : ℕ) (s : State) → t ≡ reset (gone_at now s) s → (n : ℕ) → n ≡ length (gone_at now s)
        → IsSettled now s (Ok (record { reset = n; written = true })) (record t { adaptors = after; saved = lines }) old new
    written_state other {old = old} {new = new} script now s is n many =
        subst (λ n. IsSettled now s (Ok (record { reset = n; written = true })) (record t { adaptors = after; saved = lines }) old new)
        (sym many)
        (subst (λ u. IsSettled now s (Ok (record { reset = length (gone_at now s); written = true })) u old new)
        (sym (saved_is ∙ ap (λ t. saved_now (settled t)) is))
        (written (others now s is other) (script_as now s is (Ok tt) script)))

    pub written_told : t.ready ≡ true → read_checkpoint (written_text lines) ≡ Some lines → (stamped : List (List ℕ))
        → {old new : Option History} → Writes t lines (Ok tt) old new
        → Adds old new (Leads (As stamped (process t)) (Matches stamped t)
        (Matches stamped (record t { adaptors = after; saved = lines })))
    written_told ready is_read stamped {old = old} {new = new} script =
        leads_as (settled_matches stamped t sound) (λ h x. subst (λ u. Matches stamped u h) (sym saved_is) x)
        (lines_written stamped (settled t) settled_sound ready (subst (λ ls. read_checkpoint (written_text ls) ≡ Some ls) are is_read)
        (subst (λ ls. Writes t ls (Ok tt) old new) are script))

  -- a call of the writing failed
  pub failed_state : (lines ≡ t.saved → ⊥) → (call : Call) → {old new : Option History}
      → Writes t lines (Err (site_failed call)) old new
      → (now : ℕ) (s : State) → t ≡ reset (gone_at now s) s
      → IsSettled now s (Err (Outside call)) (unsure t) old new
  failed_state other call {old = old} {new = new} script now s is =
      subst (λ t. IsSettled now s (Err (Outside call)) (unsure t) old new) (sym is)
      (failed call (others now s is other) (script_as now s is (Err (site_failed call)) script))

  pub failed_told : t.ready ≡ true → read_checkpoint (written_text lines) ≡ Some lines
      → (stamped : List (List ℕ)) (call : Call)
      → {old new : Option History} → Writes t lines (Err (site_failed call)) old new
      → Adds old new (Leads (As stamped (process t)) (Matches stamped t) (Matches stamped (unsure t)))
  failed_told ready is_read stamped call {old = old} {new = new} script =
      leads_as (settled_matches stamped t sound) (λ h x. x)
      (lines_unsure stamped (settled t) settled_sound ready (subst (λ ls. read_checkpoint (written_text ls) ≡ Some ls) are is_read)
      t refl (site_failed call) (subst (λ ls. Writes t ls (Err (site_failed call)) old new) are script))

  -- the writing wanted memory
  pub unmade_state : (lines ≡ t.saved → ⊥) → {old new : Option History} → Writes t lines (Err no_memory) old new
      → (now : ℕ) (s : State) → t ≡ reset (gone_at now s) s → IsSettled now s (Err NoMemory) t old new
  unmade_state other {old = old} {new = new} script now s is =
      subst (λ t. IsSettled now s (Err NoMemory) t old new) (sym is)
      (unwritten (others now s is other) (script_as now s is (Err no_memory) script))

  pub unmade_told : t.ready ≡ true → read_checkpoint (written_text lines) ≡ Some lines
      → (stamped : List (List ℕ)) → {old new : Option History} → Writes t lines (Err no_memory) old new
      → Adds old new (Every (SparesOld (Err no_memory) (spell (CheckFile t.source))))
      → Adds old new (Leads (As stamped (process t)) (Matches stamped t) (Matches stamped t))
  unmade_told ready is_read stamped script spares =
      lines_unmade stamped t sound ready lines is_read
      (λ h x. subst (λ ls. LinesGoOn (agent t.source) t.saved ls h) (sym are)
      (lines_go_on (settled t) settled_sound h (holds_settled h t sound x)))
      script spares
