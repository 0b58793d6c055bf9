-- The exits of the taking of a new stream: what it leaves at each.
use Rattle.std.proofs.Common.{◌≡◌, ℕ, true, false, not, List, [], ◌∷◌, ◌++◌, length, Option, None}
use Rattle.std.proofs.Common.{Result, Ok, Err, ap, sym, subst, ◌∙◌, refl}
use Rattle.chk_control.specs.declared.Class.{Class}
use Rattle.chk_control.specs.Classes.{is_plain}
use Rattle.std.specs.Prelude.{IsTrue, ◌==◌, Some}
use Rattle.std.specs.List.{list_any}
use Rattle.chk_site.specs.declared.acts.Call.{Call}
use Rattle.chk_site.specs.declared.acts.Call.TheVariants.{LogNewest}
use Rattle.chk_site.specs.declared.acts.Role.TheVariants.{Agent}
use Rattle.chk_site.specs.declared.acts.Who.{Who}
use Rattle.chk_site.specs.declared.acts.OutsideFault.{OutsideFault}
use Rattle.chk_site.specs.declared.acts.OutsideFault.TheVariants.{Outside as site_failed}
use Rattle.chk_site.specs.declared.acts.OutsideFault.TheVariants.{NoMemory as no_memory}
use Rattle.chk_site.specs.History.{Every, History}
use Rattle.chk_replace.specs.Replace.{SparesOld}
use Rattle.chk_world.specs.Names.{CheckFile, spell}
use Rattle.chk_site.specs.Site.{Adds, asked, answered, suffix_given, Calls}
use Rattle.chk_site.specs.Runs.{Leads}
use Rattle.chk_site.proofs.Leads.{leads_none}
use Rattle.chk_checkpoint.specs.Lines.{written_text}
use Rattle.chk_world.specs.Checkpoints.{Line, Two, are_lines, read_checkpoint}
use Rattle.chk_world.specs.Places.{As}
use Rattle.chk_agent_adaptor.specs.Adaptors.{Adaptor, adaptor_of, line_at}
use Rattle.chk_agent_delivery.specs.States.{State as Delivery}
use Rattle.chk_agent_delivery.specs.Sound.{IsSound as IsSoundDelivery, next_begins}
use Rattle.chk_agent_delivery.specs.Turns.{begun_at}
use Rattle.chk_agent.specs.declared.answers.AgentFault.{AgentFault}
use Rattle.chk_agent.specs.declared.answers.AgentFault.TheVariants.{Outside, NoMemory}
use Rattle.chk_agent.specs.States.{State, process, lines_of}
use Rattle.chk_agent.specs.Facts.{Matches}
use Rattle.chk_agent.specs.Faults.{fault_of}
use Rattle.chk_agent.specs.Fits.{IsSound}
use Rattle.chk_agent.specs.Settles.{Writes, saved_now, unsure}
use Rattle.chk_agent.specs.Adds.{IsNewest, asked_for, new_line, with_added, TakesStream, written}
use Rattle.chk_agent.specs.Adds.{failed, unwritten, unkept, unasked, wanting}
use Rattle.chk_agent.specs.Takes.{Asks, IsMore, IsNewLine, MatchesNewest, Keeps, kept}
use Rattle.chk_agent.specs.Takes.{failed as keep_failed, unwritten as keep_unwritten}
use Rattle.chk_agent.specs.Takes.{wanting as keep_wanting}
use Rattle.chk_agent.proofs.StartingSound.{line_again}
use Rattle.chk_agent.proofs.Soundness.{lines_good, sound_unsure}
use Rattle.chk_agent.proofs.AddingNew.{new_lines, none_owned, places, new_sound}
use Rattle.chk_agent.proofs.AddingTold.{new_written, new_unmade, new_unsure}

-- ---- the suffix

pub asked_so : (s : State) (who : Who) (path shown : List ℕ) (after : Option (List ℕ)) {old new : Option History} → who.role ≡ Agent
    → who.name ≡ s.source → shown ≡ path
    → Adds old new (Calls (asked who LogNewest (shown ∷ []) 0 0) (answered suffix_given (Ok after)))
    → IsNewest s path true after old new
asked_so s who path shown after {old = old} {new = new} role name same call =
    asked_for after (subst (λ p. Adds old new (Calls (asked (process s) LogNewest (p ∷ []) 0 0) (answered suffix_given (Ok after)))) same
    (subst (λ w. Adds old new (Calls (asked w LogNewest (shown ∷ []) 0 0) (answered suffix_given (Ok after)))) is call))
  where
    is : who ≡ process s
    is = λ i. record { role = role i; name = name i }

-- without its suffix nothing is taken
pub unasked_takes : (s : State) (name : List ℕ) (class : Class) (kind path : List ℕ) (start : ℕ) (fault : OutsideFault)
    {old new : Option History} → Asks s path (not (is_plain class)) (Err fault) old new
    → TakesStream s name class kind path start None (Err (fault_of fault)) s old new
unasked_takes s name class kind path start (site_failed call) {old = old} {new = new} a =
    subst (λ c. TakesStream s name class kind path start None (Err (Outside c)) s old new) (sym a.1) (unasked a.0 a.2)
unasked_takes s name class kind path start no_memory a = wanting a.0 a.1

-- a new one that was kept was taken
pub takes_new : (s : State) (name : List ℕ) (class : Class) (kind path : List ℕ) (start : ℕ) (after : Option (List ℕ)) (l : Line)
    → l ≡ new_line name class kind path start after
    → {result : Result (Unit {0}) AgentFault} {t : State} {old mid new : Option History}
    → IsNewest s path (not (is_plain class)) after old mid → Keeps s (with_added s None l) result t mid new
    → TakesStream s name class kind path start None result t old new
takes_new s name class kind path start after l is {result = result} {t = t} {old = old} {mid = mid} {new = new} newest keeps =
    go result t mid new newest (subst (λ l. Keeps s (with_added s None l) result t mid new) is keeps)
  where
    go : (result : Result (Unit {0}) AgentFault) (t : State) (mid new : Option History)
        → IsNewest s path (not (is_plain class)) after old mid
        → Keeps s (with_added s None (new_line name class kind path start after)) result t mid new
        → TakesStream s name class kind path start None result t old new
    go result t mid new newest (kept script) = written after newest refl script
    go result t mid new newest (keep_failed call script) = failed after call newest refl script
    go result t mid new newest (keep_unwritten script) = unwritten after newest refl script
    go result t mid new newest (keep_wanting) = unkept after newest

-- ---- the states

-- room for one more adaptor changes nothing
pub same_room : (s : State) (xs : List Adaptor) → xs ≡ s.adaptors → record s { adaptors = xs } ≡ s
same_room s xs is = λ i. record s { adaptors = is i }

-- a new line that was written, or is to be
pub record IsNewKept (s : State) (l : Line) (lines : List Line) : Type 0 where
  pub sound : IsSound s
  pub new : IsNewLine s l
  pub lasts : length s.delivery.table.last ≡ length s.delivery.table.committed
  pub are : lines ≡ lines_of (with_added s None l)

pub kept_from : (s t : State) → s ≡ t → IsSound s → (l : Line) (from : ℕ) (a : Adaptor) (lines : List Line) → IsMore t l from a lines
    → length s.delivery.table.last ≡ length s.delivery.table.committed → IsNewKept s l lines
kept_from s t same sound l from a lines more lasts =
    let here : IsNewLine s l = subst (λ t. IsNewLine t l) (sym same) more.new in
    record {
      sound = sound;
      new = here;
      lasts = lasts;
      are =
          subst (λ (t : State). lines ≡ lines_of t ++ line_at l.start a ∷ []) (sym same) more.lines_are
          ∙ (ap (λ b. lines_of s ++ line_at l.start b ∷ []) more.adaptor
          ∙ (ap (λ o. lines_of s ++ line_at o (adaptor_of l) ∷ []) (sym here.offset)
          ∙ (ap (λ k. lines_of s ++ k ∷ []) (line_again l) ∙ sym (new_lines s sound l here lasts))));
    }

module _ (s : State) (l : Line) (lines : List Line) (k : IsNewKept s l lines) where
  abbrev T : State
  T = with_added s None l

  pub good_new : IsTrue (are_lines Two lines)
  good_new =
      subst (λ ls. IsTrue (are_lines Two ls)) (sym k.are)
      (lines_good T.adaptors (next_begins T.delivery) T.delivery.table.committed (places s k.sound l k.new k.lasts))

  pub free_new : (n : ℕ) → n ≡ length s.adaptors → list_any (λ i. i == n) s.delivery.owners ≡ false
  free_new n is = subst (λ n. list_any (λ i. i == n) s.delivery.owners ≡ false) (sym is) (none_owned s k.sound l k.new k.lasts)

  written_is : {result : Result (Unit {0}) OutsideFault} {old new : Option History} → Writes s lines result old new
      → Writes s (lines_of T) result old new
  written_is {result = result} {old = old} {new = new} script = subst (λ ls. Writes s ls result old new) k.are script

  read_is : read_checkpoint (written_text lines) ≡ Some lines → read_checkpoint (written_text (lines_of T)) ≡ Some (lines_of T)
  read_is read = subst (λ ls. read_checkpoint (written_text ls) ≡ Some ls) k.are read

  module _ (xs : List Adaptor) (more : xs ≡ s.adaptors ++ adaptor_of l ∷ []) (d : Delivery)
      (begun : d ≡ begun_at (length s.adaptors) l.start s.delivery) where
    state_is : record s { adaptors = xs; delivery = d; saved = lines } ≡ saved_now T
    state_is = λ i. record s { adaptors = more i; delivery = begun i; saved = k.are i }

    pub sound_more : IsSoundDelivery d → IsSound (record s { adaptors = xs; delivery = d; saved = lines })
    sound_more delivery = subst IsSound (sym state_is) (new_sound s k.sound l k.new k.lasts (subst IsSoundDelivery begun delivery))

    pub kept_more : {old new : Option History} → Writes s lines (Ok tt) old new
        → Keeps s T (Ok tt) (record s { adaptors = xs; delivery = d; saved = lines }) old new
    kept_more {old = old} {new = new} script = subst (λ u. Keeps s T (Ok tt) u old new) (sym state_is) (kept (written_is script))

    pub told_more : (stamped : List (List ℕ)) → read_checkpoint (written_text lines) ≡ Some lines → {old new : Option History}
        → Writes s lines (Ok tt) old new
        → Adds old new (Leads (As stamped (process s)) (MatchesNewest stamped s l)
        (Matches stamped (record s { adaptors = xs; delivery = d; saved = lines })))
    told_more stamped read {old = old} {new = new} script =
        subst (λ u. Adds old new (Leads (As stamped (process s)) (MatchesNewest stamped s l) (Matches stamped u))) (sym state_is)
        (new_written s k.sound l k.new k.lasts stamped (read_is read) (written_is script))

  module _ (xs : List Adaptor) (room : xs ≡ s.adaptors) where
    unsure_is : record s { adaptors = xs; ready = false } ≡ unsure s
    unsure_is = λ i. record s { adaptors = room i; ready = false }

    pub sound_room : IsSound (record s { adaptors = xs; ready = false })
    sound_room = subst IsSound (sym unsure_is) (sound_unsure s k.sound)

    pub failed_room : (call : Call) {old new : Option History} → Writes s lines (Err (site_failed call)) old new
        → Keeps s T (Err (Outside call)) (record s { adaptors = xs; ready = false }) old new
    failed_room call {old = old} {new = new} script =
        subst (λ u. Keeps s T (Err (Outside call)) u old new) (sym unsure_is) (keep_failed call (written_is script))

    pub told_room : (stamped : List (List ℕ)) (call : Call) → read_checkpoint (written_text lines) ≡ Some lines
        → {old new : Option History} → Writes s lines (Err (site_failed call)) old new
        → Adds old new (Leads (As stamped (process s)) (MatchesNewest stamped s l)
        (Matches stamped (record s { adaptors = xs; ready = false })))
    told_room stamped call read {old = old} {new = new} script =
        subst (λ u. Adds old new (Leads (As stamped (process s)) (MatchesNewest stamped s l) (Matches stamped u))) (sym unsure_is)
        (new_unsure s k.sound l k.new k.lasts stamped (read_is read) (site_failed call) (written_is script))

    -- without memory the room is all that changed
    pub sound_kept : IsSound (record s { adaptors = xs })
    sound_kept = subst IsSound (sym (same_room s xs room)) k.sound

    pub unmade_room : {old new : Option History} → Writes s lines (Err no_memory) old new
        → Keeps s T (Err NoMemory) (record s { adaptors = xs }) old new
    unmade_room {old = old} {new = new} script =
        subst (λ u. Keeps s T (Err NoMemory) u old new) (sym (same_room s xs room)) (keep_unwritten (written_is script))

    pub told_unmade : (stamped : List (List ℕ)) → read_checkpoint (written_text lines) ≡ Some lines
        → {old new : Option History} → Writes s lines (Err no_memory) old new
        → Adds old new (Every (SparesOld (Err no_memory) (spell (CheckFile s.source))))
        → Adds old new (Leads (As stamped (process s)) (MatchesNewest stamped s l)
        (Matches stamped (record s { adaptors = xs })))
    told_unmade stamped read {old = old} {new = new} script spares =
        subst (λ u. Adds old new (Leads (As stamped (process s)) (MatchesNewest stamped s l) (Matches stamped u)))
        (sym (same_room s xs room))
        (new_unmade s k.sound l k.new k.lasts stamped (read_is read) (written_is script) spares)

pub newest_left : (stamped : List (List ℕ)) (s t : State) (l : Line) → s ≡ t → (now : Option History)
    → Adds now now (Leads (As stamped (process s)) (MatchesNewest stamped s l) (Matches stamped t))
newest_left stamped s t l same now =
    subst (λ t. Adds now now (Leads (As stamped (process s)) (MatchesNewest stamped s l) (Matches stamped t))) same
    (leads_none now (λ h x. record {
      legal = x.legal;
      may_act = x.may_act;
      alive = λ run ready. let k = x.alive run in
          record { one_cluster = k.one_cluster; lines_are = k.lines_are; holds = k.holds.one };
    }))
