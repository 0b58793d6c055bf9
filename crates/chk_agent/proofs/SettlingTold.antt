-- What the told history holds after a settle.
use Rattle.std.proofs.Common.{◌≡◌, ℕ, true, List, [], ◌∷◌, Some, Option, Result, Ok, Err, ap, sym}
use Rattle.std.proofs.Common.{subst, ◌∙◌, refl, true≢false}
use Rattle.std.specs.Prelude.{IsTrue, slice_get, find}
use Rattle.chk_site.specs.declared.acts.OutsideFault.{OutsideFault}
use Rattle.chk_site.specs.declared.acts.OutsideFault.TheVariants.{NoMemory as no_memory}
use Rattle.chk_site.specs.History.{Every, History, since_start}
use Rattle.chk_site.specs.Site.{Adds}
use Rattle.chk_site.specs.Runs.{Leads}
use Rattle.chk_site.proofs.Leads.{leads_as}
use Rattle.chk_replace.specs.Replace.{SparesOld}
use Rattle.chk_tail.specs.Walks.{Spot}
use Rattle.chk_checkpoint.specs.Lines.{written_text}
use Rattle.chk_world.specs.Names.{CheckFile, is_source, spell}
use Rattle.chk_world.specs.Checkpoints.{Line, is_line_of, read_checkpoint}
use Rattle.chk_world.specs.Agents.{stream_of}
use Rattle.chk_world.specs.Rules.{must_start}
use Rattle.chk_world.specs.Places.{As, AtTold}
use Rattle.chk_world.specs.Answering.{GoesOnOrBegins, LinesGoOn}
use Rattle.chk_world.specs.Knowing.{agent, Grows}
use Rattle.chk_world.proofs.LinesStand.{stands_on}
use Rattle.chk_world.proofs.AgentWrites.{AfterWriting, written_told, grows_stays, grows_writes}
use Rattle.chk_agent_adaptor.specs.Adaptors.{Adaptor, stream_at, line_at, read_line}
use Rattle.chk_agent_adaptor.specs.Facts.{MarksStand, ReaderStands}
use Rattle.chk_agent_delivery.proofs.Growing.{holds_grows}
use Rattle.chk_agent.specs.States.{State, process, committed_at, lines_of, basis_of}
use Rattle.chk_agent.specs.Settles.{reset, settled, saved_now, unsure, Writes}
use Rattle.chk_agent.specs.Facts.{Holds, Matches}
use Rattle.chk_agent.specs.Fits.{IsSound}
use Rattle.chk_agent.proofs.Soundness.{in_at, at_map, line_in, none_lost, fits_basis}
use Rattle.chk_agent.proofs.Unrenamed.{unmade_told}
use Rattle.chk_agent.proofs.SettlingHolds.{end_stands, holds_reset, holds_settled, holds_saved}

-- ---- it grows

module _ (stamped : List (List ℕ)) (source : List ℕ) (known : IsTrue (is_source source)) where
  marks_grow : (a : Adaptor) (marks : List Spot) → Grows stamped (agent source) (λ h. MarksStand h (stream_at source a) a marks)
  marks_grow a [] history step legal no_start h = tt
  marks_grow a (m ∷ []) history step legal no_start h = stands_on stamped history step legal (stream_at source a) known _ h
  marks_grow a (m ∷ n ∷ marks) history step legal no_start h =
      (stands_on stamped history step legal (stream_at source a) known _ h.0, marks_grow a (n ∷ marks) history step legal no_start h.1)

  pub reader_grows : (a : Adaptor) → Grows stamped (agent source) (ReaderStands source a)
  reader_grows a history step legal no_start h = record {
    read = stands_on stamped history step legal (stream_at source a) known (read_line a) h.read;
    marks = marks_grow a a.marks history step legal no_start h.marks;
  }

-- what the history holds of a state grows
pub state_grows : (stamped : List (List ℕ)) (s : State) → IsSound s → Grows stamped (agent s.source) (Holds s)
state_grows stamped s sound history step legal no_start h = record {
  readers = λ a one. reader_grows stamped s.source sound.source a history step legal no_start (h.readers a one);
  delivery =
      holds_grows stamped (basis_of s) s.delivery sound.source (fits_basis s sound) sound.delivery.valid history step legal no_start h.delivery;
}

-- ---- the checkpoint goes on

-- the lines of a state go on from those that were saved
pub lines_go_on : (s : State) → IsSound s → (history : History) → Holds s history → LinesGoOn (agent s.source) s.saved (lines_of s) history
lines_go_on s sound history h = record {
  none_lost = none_lost s sound;
  each = λ l one. each l (line_in s.adaptors s.delivery.table.committed l one);
}
  where
    each : (l : Line) → (i : ℕ) × (a : Adaptor) × (slice_get s.adaptors i ≡ Some a) × (l ≡ line_at (committed_at s i) a)
        → GoesOnOrBegins (since_start (agent s.source) history) history (stream_of s.source l) (find (is_line_of (stream_of s.source l)) s.saved) l
    each l (i, a, at, is) =
        let f = sound.each i a at in
        let e = h.delivery.ends i (stream_at s.source a) f.saved (at_map (stream_at s.source) s.adaptors i a at) f.there in
        subst (λ k. GoesOnOrBegins (since_start (agent s.source) history) history (stream_of s.source k) (find (is_line_of (stream_of s.source k)) s.saved) k)
        (sym is)
        (subst (λ o. GoesOnOrBegins (since_start (agent s.source) history) history (stream_at s.source a) o (line_at (committed_at s i) a)) (sym f.there)
        (record {
          class = f.class;
          start = f.start;
          offset = f.on;
          after = f.later;
          acknowledged = e.acknowledged;
          stands = end_stands history (stream_at s.source a) a (committed_at s i) (h.readers a (in_at s.adaptors i a at)).marks f.place.from f.place.to e.cut;
        }))

-- ---- from what is known to the state

module _ (stamped : List (List ℕ)) (s : State) (sound : IsSound s) where
  -- the state once the adaptors went back
  pub reset_matches : (gone : List ℕ) (h : History) → Matches stamped s h → Matches stamped (reset gone s) h
  reset_matches gone h x = record {
    legal = x.legal;
    may_act = x.may_act;
    alive = λ run ready. let k = x.alive run ready in
        record { one_cluster = k.one_cluster; lines_are = k.lines_are; holds = holds_reset h s sound k.holds gone };
  }

  pub settled_matches : (h : History) → Matches stamped s h → Matches stamped (settled s) h
  settled_matches h x = record {
    legal = x.legal;
    may_act = x.may_act;
    alive = λ run ready. let k = x.alive run ready in
        record { one_cluster = k.one_cluster; lines_are = k.lines_are; holds = holds_settled h s sound k.holds };
  }

  module _ (ready : s.ready ≡ true) (is_read : read_checkpoint (written_text (lines_of s)) ≡ Some (lines_of s)) where
    wrote : (result : Result (Unit {0}) OutsideFault) {old new : Option History} → Writes s (lines_of s) result old new
        → Adds old new (Leads (As stamped (process s)) (Matches stamped s)
        (AtTold stamped (process s) (AfterWriting s.source s.cluster (lines_of s) (Holds s) result)))
    wrote result script =
        let grows = state_grows stamped s sound in
        leads_as (λ h x. record { legal = x.legal; may_act = x.may_act; alive = λ run. x.alive run ready }) (λ h x. x)
        (written_told stamped s.source sound.source s.cluster (Holds s) (grows_stays stamped s.source sound.source s.cluster (Holds s) grows)
        (grows_writes stamped s.source sound.source s.cluster (Holds s) grows) s.saved (lines_of s) (written_text (lines_of s)) is_read
        (lines_go_on s sound) (spell (CheckFile s.source)) refl script)

    -- its lines are written
    pub lines_written : {old new : Option History} → Writes s (lines_of s) (Ok tt) old new
        → Adds old new (Leads (As stamped (process s)) (Matches stamped s) (Matches stamped (saved_now s)))
    lines_written script = leads_as (λ h x. x)
        (λ h x. record {
          legal = x.legal;
          may_act = x.may_act;
          alive = λ run ready. let k = x.alive run in
              record { one_cluster = k.one_cluster; lines_are = k.lines_are; holds = holds_saved h s sound k.holds };
        })
        (wrote (Ok tt) script)

    -- they may have been written
    pub lines_unsure : (t : State) → t.source ≡ s.source → (fault : OutsideFault)
        → {old new : Option History} → Writes s (lines_of s) (Err fault) old new
        → Adds old new (Leads (As stamped (process s)) (Matches stamped s) (Matches stamped (unsure t)))
    lines_unsure t source fault script = leads_as (λ h x. x)
        (λ h x. record {
          legal = x.legal;
          may_act = λ run. ap (λ name. must_start (agent name) h) source ∙ x.may_act run;
          alive = λ run ready. absurd (true≢false (sym ready));
        })
        (wrote (Err fault) script)

-- a checkpoint of these lines that wanted memory is the old one, and the state is held as before
pub lines_unmade : (stamped : List (List ℕ)) (s : State) → IsSound s → s.ready ≡ true
    → (lines : List Line) → read_checkpoint (written_text lines) ≡ Some lines
    → ((h : History) → Holds s h → LinesGoOn (agent s.source) s.saved lines h)
    → {old new : Option History} → Writes s lines (Err no_memory) old new
    → Adds old new (Every (SparesOld (Err no_memory) (spell (CheckFile s.source))))
    → Adds old new (Leads (As stamped (process s)) (Matches stamped s) (Matches stamped s))
lines_unmade stamped s sound ready lines is_read go_on script spares =
    let grows = state_grows stamped s sound in
    leads_as
    (λ h x. record { legal = x.legal; may_act = x.may_act; alive = λ run. x.alive run ready })
    (λ h x. record { legal = x.legal; may_act = x.may_act; alive = λ run ready. x.alive run })
    (unmade_told stamped s.source sound.source s.cluster (Holds s)
    (grows_stays stamped s.source sound.source s.cluster (Holds s) grows)
    (grows_writes stamped s.source sound.source s.cluster (Holds s) grows)
    s.saved lines (written_text lines) is_read go_on script spares)
