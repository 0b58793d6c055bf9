-- The replacement of an agent's checkpoint.
use Rattle.std.proofs.Common.{◌≡◌, ℕ, Bool, true, false, ◌&&◌, List, [], ◌∷◌, length, Option, Some, None, ap, sym, subst, ◌∙◌, refl, true≢false, if◌then◌else◌, is_some, is_none, option_map, nat_le}
use Rattle.std.specs.Prelude.{Result, Ok, Err, IsTrue, Contains, Any, find, unwrap_or}
use Rattle.std.proofs.lemmas.Bool.{and_parts}
use Rattle.chk_bytes.proofs.SpellingLemmas.{spelling-Some}
use Rattle.chk_bytes.specs.Words.{parts_at}
use Rattle.std.specs.List.{list_all}
use Rattle.chk_site.specs.declared.acts.Role.TheVariants.{Agent}
use Rattle.chk_site.specs.declared.acts.Who.{Who}
use Rattle.chk_site.specs.declared.acts.OutsideFault.{OutsideFault}
use Rattle.chk_site.specs.declared.acts.ActAnswer.{ActAnswer}
use Rattle.chk_site.specs.Files.{File, Files, Moved, changed}
use Rattle.chk_site.specs.Effect.{with_tail}
use Rattle.chk_site.specs.Acts.{Deed, Creates, Appends, Syncs, Renames, Removes, deed, Did, is_done, same_who, tail_of}
use Rattle.chk_site.specs.History.{Step, History, files_after, logs_after, since_start, is_start, took_effect}
use Rattle.chk_site.specs.Honest.{Honest}
use Rattle.chk_site.specs.Site.{Adds}
use Rattle.chk_site.specs.Runs.{Leads, MadeInTurn}
use Rattle.chk_chunk.specs.Keys.{Stream}
use Rattle.chk_replace.specs.Replace.{tmp, replacement}
use Rattle.chk_world.specs.Names.{Name, CheckFile, Temporary, read, spell, file, is_known, is_source}
use Rattle.chk_world.specs.Checkpoints.{Line, read_checkpoint, checkpoint_text, checkpoint_lines, lines_in, line_of, is_line_of, same_log, is_line, are_lines, are_apart, fits_version, guessed_version, guessed_lines, behind_first}
use Rattle.chk_world.specs.Committed.{OnFile, IsWhole}
use Rattle.chk_world.specs.Agents.{LineMay, LineIsTrue, CheckpointMovesForward, MayPublish, AgentRule, stream_of}
use Rattle.chk_world.specs.Rules.{RoleMay, Legal}
use Rattle.chk_world.specs.Places.{As, AtTold, IsOwn}
use Rattle.chk_world.proofs.NameLemmas.{read-spell}
use Rattle.chk_world.proofs.NameTests.{name_self, moved_named, bridge}
use Rattle.chk_world.proofs.Kept.{no_tail_fits}
use Rattle.chk_world.proofs.Outcomes.{CameTo, whole, nothing, junk, Leaves, went_on, was_stopped, leaves}
use Rattle.chk_world.proofs.Frames.{files_stay}
use Rattle.chk_world.proofs.PlacesStay.{Stays}
use Rattle.chk_site.proofs.Leads.{leads_as}
use Rattle.chk_world.proofs.NewLines.{renamed_logs, stays_true_line, begins_true_line, line_found}
use Rattle.chk_world.proofs.ToldCalls.{who_self}
use Rattle.chk_world.proofs.Replacing.{Aim, OnNext, on_remove, on_create, on_append, on_sync, settled, Replaces, EndedAt, next_word, replaced_on}

-- ---- where the rename of a next content took effect, whatever it answered

abbrev is_append : Deed → Bool
is_append (Appends w piece) = true
is_append call = false

module _ (n : Name) (known : IsTrue (is_known n)) (w name bytes : List ℕ)
    (reads : read w ≡ Temporary n) (reads_name : read name ≡ n) (before : Files) (next : file before (Temporary n) ≡ settled bytes) where
  -- the next content is gone
  abbrev Gone : Files → Type 0
  Gone after = is_none (file after (Temporary n)) ≡ true

  still_there : (after : Files) → file after (Temporary n) ≡ settled bytes → Gone after → ⊥
  still_there after e g = true≢false (sym g ∙ ap is_none e)

  moved : (after : Files) → ((v : List ℕ) → after v ≡ changed (Moved w name) before v) → file after n ≡ settled bytes
  moved after e =
      let fb : Name → Option File = file before in
      e (spell n) ∙ (bridge (Moved w name) before n known
      ∙ (ap (λ o. moved_named (fb o) o (read name) fb n) reads
      ∙ (ap (λ o. moved_named (fb (Temporary n)) (Temporary n) o fb n) reads_name
      ∙ (ap (λ o. moved_named o (Temporary n) n fb n) next ∙ rw (name_self n) refl))))

  came_so : (d : Bool) (after : Files) → CameTo (Renames w name) d before after → Gone after → file after n ≡ settled bytes
  came_so d after (whole e) g = moved after e
  came_so d after (nothing not_done e) g = absurd (still_there after (e (spell (Temporary n)) ∙ next) g)
  came_so d after (junk v piece more is not_done e) g = absurd (true≢false (sym (ap is_append is)))

  -- before the tails of a stop
  gone_before : (tail : Option (List ℕ)) (o : Option File) → is_none (option_map (with_tail tail) o) ≡ true → is_none o ≡ true
  gone_before tail None g = refl
  gone_before tail (Some f) g = absurd (true≢false (sym g))

  pub published : (answer : ActAnswer) (after : Files) → Leaves (Renames w name) answer before after
      → took_effect before after (spell (Temporary n)) ≡ true → file after n ≡ settled bytes
  published answer after (went_on no_stop came) took =
      came_so (is_done answer) after came (and_parts (is_some (file before (Temporary n))) (is_none (file after (Temporary n))) took).1
  published answer after (was_stopped left is middle came tails) took =
      let g = (and_parts (is_some (file before (Temporary n))) (is_none (file after (Temporary n))) took).1 in
      let t = tails (spell (Temporary n)) in
      let there = came_so false middle came
      (gone_before (tail_of left (spell (Temporary n))) (file middle (Temporary n)) (sym (ap is_none t.0) ∙ g)) in
      (tails (spell n)).0
      ∙ (no_tail_fits (file middle n) (tail_of left (spell n)) (subst (λ o. OnFile o IsWhole) (sym there) refl) (tails (spell n)).1 ∙ there)

-- ---- the agent's own steps

-- a call that writes a file
abbrev pub is_write : Deed → Bool
is_write (Creates w) = true
is_write (Appends w piece) = true
is_write (Syncs w) = true
is_write (Renames old new) = true
is_write (Removes w) = true
is_write call = false

-- what is known of a history stays over the agent's own writes of files
abbrev pub KeptByWrites : List (List ℕ) → Who → (History → Type 0) → Type 0
KeptByWrites stamped me A =
    (before : History) (step : Step) → step.act.who ≡ me → is_write (deed step.act) ≡ true → Legal stamped (step ∷ before) → A before
    → A (step ∷ before)

write_no_start : (call : Deed) → is_write call ≡ true → is_start call ≡ false
write_no_start (Creates w) e = refl
write_no_start (Appends w piece) e = refl
write_no_start (Syncs w) e = refl
write_no_start (Renames old new) e = refl
write_no_start (Removes w) e = refl
write_no_start call e = absurd (true≢false (sym e))

next_writes : (w : List ℕ) (call : Deed) → OnNext w call → is_write call ≡ true
next_writes w call on_remove = refl
next_writes w call on_create = refl
next_writes w call (on_append bytes) = refl
next_writes w call on_sync = refl

pub own_write : (me : Who) (before : History) (step : Step) → step.act.who ≡ me → is_write (deed step.act) ≡ true
    → since_start me (step ∷ before) ≡ step ∷ since_start me before
own_write me before step by writes =
    ap (λ b. if b then (if is_start (deed step.act) then [] else step ∷ since_start me before) else since_start me before)
    (ap (same_who me) by ∙ who_self me)
    ∙ ap (λ b. if b then [] else step ∷ since_start me before) (write_no_start (deed step.act) writes)

pub agent_rule : (stamped : List (List ℕ)) (who : Who) (before : History) (step : Step) (call : Deed) → who.role ≡ Agent
    → step.act.who ≡ who → deed step.act ≡ call → AgentRule who before step call → RoleMay stamped step.act.who.role before step
agent_rule stamped who before step call role by is may =
    subst (λ r. RoleMay stamped r before step) (sym (ap (λ (k : Who). k.role) by ∙ role))
    (subst (λ (k : Who). AgentRule k before step (deed step.act)) (sym by) (subst (AgentRule who before step) (sym is) may))

-- ---- the checkpoint

-- the checkpoint has these lines, and A holds
pub record Checked (A : History → Type 0) (lines : List Line) (history : History) (m : Option File) : Type 0 where
  pub known : A history
  pub lines_are : lines_in m ≡ lines

-- What is owed of new lines in place of the old ones, at the history before their publication: no stream is lost, each line begins or moves
-- forward, and one that moves forward is true.
pub record MayFollow (who : Who) (history : History) (old new : List Line) : Type 0 where
  pub none_lost : (l : Line) → Contains old l → Any (λ m. IsTrue (same_log l m)) new
  pub each : (l : Line) → Contains new l
      → LineMay who history (stream_of who.name l) (find (is_line_of (stream_of who.name l)) old) l
  pub is_true : (l was : Line) → Contains new l → find (is_line_of (stream_of who.name l)) old ≡ Some was
      → LineIsTrue history (stream_of who.name l) l

-- wherever the old lines are there and A holds, the new lines may follow
abbrev pub MayFollowFrom : List (List ℕ) → Who → (History → Type 0) → List Line → List Line → Type 0
MayFollowFrom stamped who A old new =
    (history : History) → Legal stamped history → checkpoint_lines (files_after history) who.name ≡ old → A history
    → MayFollow who history old new

read_apart : (bytes : List ℕ) (lines : List Line) → read_checkpoint bytes ≡ Some lines → are_apart lines ≡ true
unfolding read_checkpoint
read_apart bytes lines e =
    let v = guessed_version (parts_at 10 bytes) in
    let is = spelling-Some (are_lines v) (checkpoint_text v) (guessed_lines (behind_first (parts_at 10 bytes))) lines bytes e in
    let p = and_parts (nat_le (length lines) 10000) (list_all is_line lines && (list_all (fits_version v) lines && are_apart lines)) is.1 in
    let q = and_parts (list_all is_line lines) (list_all (fits_version v) lines && are_apart lines) p.1 in
    (and_parts (list_all (fits_version v) lines) (are_apart lines) q.1).1

module _ (stamped : List (List ℕ)) (source : List ℕ) (known : IsTrue (is_source source)) (old new : List Line) (w name bytes : List ℕ)
    (is_read : read_checkpoint bytes ≡ Some new) (A : History → Type 0)
    (kept : KeptByWrites stamped (record { role = Agent; name = source }) A)
    (may : MayFollowFrom stamped (record { role = Agent; name = source }) A old new)
    (reads : read w ≡ Temporary (CheckFile source)) (reads_name : read name ≡ CheckFile source) where
  abbrev Me : Who
  Me = record { role = Agent; name = source }

  abbrev N : Name
  N = CheckFile source

  abbrev S : Line → Stream
  S l = stream_of source l

  renames : (step : Step) → deed step.act ≡ Renames w name → is_write (deed step.act) ≡ true
  renames step is = ap is_write is

  settled_lines : (m : Option File) → m ≡ settled bytes → lines_in m ≡ new
  settled_lines m e = ap lines_in e ∙ ap (λ o. unwrap_or o []) is_read

  -- where the publication took effect, each line is true
  true_at : (before : History) (step : Step) → deed step.act ≡ Renames w name → Honest before step → Legal stamped before
      → checkpoint_lines (files_after before) source ≡ old → MayFollow Me before old new
      → file (files_after before) (Temporary N) ≡ settled bytes → took_effect (files_after before) step.files (spell (Temporary N)) ≡ true
      → (l : Line) → Contains new l → LineIsTrue (step ∷ before) (stream_of source l) l
  true_at before step is honest legal lines follow next took l c = go (find (is_line_of (S l)) old) refl (follow.each l c) (λ was. follow.is_true l was c)
    where
      same_log_there : step.logs (S l).name ≡ logs_after before (S l).name
      same_log_there =
          let e = honest.modelled.effect in
          e.logs_left (S l).name ∙ renamed_logs w name step.act.answer e.did (logs_after before) (S l).name
          (subst (λ call. Did call step.act.answer e.did) is e.may)

      there : line_of step.files (S l) ≡ Some l
      there =
          let e = honest.modelled.effect in
          let left = leaves (deed step.act) step.act.answer (files_after before) step.files e.did e.may e.files_left in
          let now = published N known w name bytes reads reads_name (files_after before) next step.act.answer step.files
          (subst (λ call. Leaves call step.act.answer (files_after before) step.files) is left) took in
          ap (find (is_line_of (S l))) (settled_lines (file step.files N) now) ∙ line_found source new l (read_apart bytes new is_read) c

      go : (o : Option Line) → find (is_line_of (S l)) old ≡ o → LineMay Me before (S l) (find (is_line_of (S l)) old) l
          → ((was : Line) → find (is_line_of (S l)) old ≡ Some was → LineIsTrue before (S l) l) → LineIsTrue (step ∷ before) (S l) l
      go (Some was) e each is_true =
          stays_true_line before step (S l) l was same_log_there (ap (find (is_line_of (S l))) lines ∙ e) (is_true was e)
      go None e each is_true =
          begins_true_line stamped Me before step (S l) l legal known (ap (find (is_line_of (S l))) lines ∙ e) there
          (subst (λ o. LineMay Me before (S l) o l) e each)

  moves_forward : (before : History) (step : Step) → deed step.act ≡ Renames w name → Honest before step → Legal stamped before
      → checkpoint_lines (files_after before) source ≡ old → MayFollow Me before old new
      → file (files_after before) (Temporary N) ≡ settled bytes → CheckpointMovesForward Me before step new
  moves_forward before step is honest legal lines follow next = record {
    none_lost = λ l c. follow.none_lost l (subst (λ ls. Contains ls l) lines c);
    each = λ l c. subst (λ ls. LineMay Me before (stream_of source l) (find (is_line_of (stream_of source l)) ls) l) (sym lines) (follow.each l c);
    true_at = λ took l c. true_at before step is honest legal lines follow next took l c;
  }

  check_may : (before : History) (step : Step) → step.act.who ≡ Me → deed step.act ≡ Renames w name → Honest before step → Legal stamped before
      → Checked A old before (file (files_after before) N) → file (files_after before) (Temporary N) ≡ settled bytes
      → RoleMay stamped step.act.who.role before step
  check_may before step by is honest legal h next =
      agent_rule stamped Me before step (Renames w name) refl by is
      (subst (λ m. MayPublish Me before step m (read name)) (sym reads)
      (subst (λ m. MayPublish Me before step (Temporary N) m) (sym reads_name) (
        refl,
        subst (λ o. OnFile o (λ f. (lines : List Line) × (read_checkpoint f.bytes ≡ Some lines) × CheckpointMovesForward Me before step lines))
            (sym next)
            (new, is_read, moves_forward before step is honest legal h.lines_are (may before legal h.lines_are h.known) next),
      )))

  -- what is to be known of the replacement of the checkpoint
  check_replaces : Replaces stamped Me (λ history. history) N N w name bytes (λ h s m. Checked A old h m) A (λ h s t m. Checked A new h m)
  check_replaces = record {
    keeps = λ before step s m by on went legal h.
        record { known = kept before step by (next_writes w (deed step.act) on) legal h.known; lines_are = h.lines_are };
    less = λ v s m h. h.known;
    fails = λ before step s m by on failed legal h. kept before step by (next_writes w (deed step.act) on) legal h.known;
    rename_fails = λ before step s m by is failed legal h. kept before step by (renames step is) legal h.known;
    at_last = λ v s t m g. g.known;
    may = check_may;
    renamed = λ before step by is done legal h was same gone there.
        record { known = kept before step by (renames step is) legal h.known; lines_are = settled_lines (file step.files N) there };
  }

-- the checkpoint and its next content
pub agent_aim : (source : List ℕ) → IsTrue (is_source source)
    → Aim (record { role = Agent; name = source }) (λ (history : History). history) (CheckFile source) (CheckFile source)
agent_aim source known =
    let own : IsOwn (record { role = Agent; name = source }) (CheckFile source) = record { own = refl; known = known } in
    record {
      place = record { named = known; first = own; second = record { own = refl; known = known }; third = own };
      small = refl;
      apart_next = refl;
    }

-- A holds of the history, and the checkpoint has these lines
pub record HasLines (A : History → Type 0) (source : List ℕ) (lines : List Line) (history : History) : Type 0 where
  pub known : A history
  pub lines_are : checkpoint_lines (files_after history) source ≡ lines

-- after a writing of new lines: they are there, or after a refusal the old ones or the new ones
abbrev pub WroteLines : {T : Type 0} → (History → Type 0) → List ℕ → List Line → Result T OutsideFault → History → Type 0
WroteLines A source new (Ok value) history = HasLines A source new history
WroteLines A source new (Err fault) history = A history

-- The checkpoint with the old lines is replaced by the one with the new lines. A is what is known of the history: it shows that the new lines
-- may follow the old ones.
pub checkpoint_replaced : (stamped : List (List ℕ)) (source : List ℕ) → IsTrue (is_source source) → (old new : List Line) (bytes : List ℕ)
    → read_checkpoint bytes ≡ Some new → (A : History → Type 0) → Stays stamped (record { role = Agent; name = source }) A
    → KeptByWrites stamped (record { role = Agent; name = source }) A
    → MayFollowFrom stamped (record { role = Agent; name = source }) A old new
    → (name : List ℕ) → name ≡ spell (CheckFile source) → {result : Result (Unit {0}) OutsideFault} {before after : Option History}
    → MadeInTurn (replacement (record { role = Agent; name = source }) name bytes) result before after
    → Adds before after (Leads (As stamped (record { role = Agent; name = source }))
    (AtTold stamped (record { role = Agent; name = source }) (HasLines A source old))
    (AtTold stamped (record { role = Agent; name = source }) (WroteLines A source new result)))
checkpoint_replaced stamped source known old new bytes is_read A stays kept may name e {result = result} script =
    let me : Who = record { role = Agent; name = source } in
    let n = CheckFile source in
    let next = next_word name n e in
    let aim = agent_aim source known in
    let F : History → Option File → Option File → Type 0 = λ h s m. Checked A old h m in
    let G : History → Option File → Option File → Option File → Type 0 = λ h s t m. Checked A new h m in
    leads_as (λ h x. record {
      legal = x.legal;
      may_act = x.may_act;
      alive = λ r. let y = x.alive r in
          record { base = record { known = y.known; lines_are = y.lines_are }; next = tt };
    })
    (λ h x. record { legal = x.legal; may_act = x.may_act; alive = λ r. ended result h (x.alive r) })
    (replaced_on stamped me (λ history. history) n n aim name bytes e F A G
    (check_replaces stamped source known old new (tmp name) name bytes is_read A kept may
    (ap read next ∙ read-spell (Temporary n) known) (ap read e ∙ read-spell n known))
    (λ U history step legal f h. record {
      base = record {
        known = stays history step legal f h.base.known;
        lines_are = ap lines_in (files_stay stamped me history step n f aim.place.third) ∙ h.base.lines_are;
      };
      next = subst U (sym (files_stay stamped me history step (Temporary n) f aim.place.second)) h.next;
    }) script)
  where
    ended : (r : Result (Unit {0}) OutsideFault) (h : History)
        → EndedAt (record { role = Agent; name = source }) (λ (history : History). history) (CheckFile source) (CheckFile source) A
        (λ h s t m. Checked A new h m) r h → WroteLines A source new r h
    ended (Ok value) h x = record { known = x.known; lines_are = x.lines_are }
    ended (Err fault) h x = x
