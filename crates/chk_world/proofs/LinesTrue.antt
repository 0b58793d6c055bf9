-- Each line of a checkpoint of a legal history stands, and who reads on from it is shown the
-- stream's log.
use Rattle.std.proofs.Common.{◌≡◌, inl, inr, ℕ, Bool, true, false, ◌&&◌, ◌||◌, List, [], ◌∷◌, Option, Some, None, option_map, ap, sym, subst, ◌∙◌, refl, true≢false, bytes_eq, if◌then◌else◌, is_some, is_none}
use Rattle.std.specs.Prelude.{IsTrue, MatchBool, find, unwrap_or}
use Rattle.std.proofs.lemmas.Bool.{and_parts}
use Rattle.std.proofs.lemmas.Option.{same_Some, none-some}
use Rattle.chk_control.specs.Classes.{is_plain}
use Rattle.chk_site.specs.declared.acts.Who.{Who}
use Rattle.chk_site.specs.declared.acts.ActAnswer.{ActAnswer}
use Rattle.chk_site.specs.declared.acts.ActAnswer.TheVariants.{Done}
use Rattle.chk_site.specs.Files.{File, Files, Moved, changed}
use Rattle.chk_site.specs.Suffixes.{is_after}
use Rattle.chk_site.specs.Effect.{with_tail}
use Rattle.chk_site.specs.Acts.{Deed, Starts, ReadsLog, AsksNewest, GrowsLog, Creates, Appends, Syncs, Renames, Removes, Cuts, AsksSize, Reads, Lists, AsksClock, Pauses, Sends, Gets, Takes, TakesMore, Answers, Says, deed, Did, is_done, tail_of}
use Rattle.chk_site.specs.Logs.{Generation, Log, newest}
use Rattle.chk_site.specs.Honest.{Agrees, AtNewest}
use Rattle.chk_site.specs.History.{Step, History, files_after, logs_after, since_start, is_by, is_start, took_effect}
use Rattle.chk_chunk.specs.Keys.{Stream}
use Rattle.chk_world.specs.Names.{Name, CheckFile, Temporary, is_source, is_known, read, spell, file, owns}
use Rattle.chk_world.specs.Checkpoints.{Line, read_checkpoint, checkpoint_lines, lines_in, is_line_of, line_of}
use Rattle.chk_world.specs.Committed.{OnFile, IsWhole}
use Rattle.chk_world.specs.Streams.{Parts, founding, founded_by, or_else, parts_since, parts_of}
use Rattle.chk_world.specs.Agents.{SuffixMoves, has_generation, newest_by, last_newest, LineMay, LineIsTrue, CheckpointMovesForward, MayPublish, AgentRule}
use Rattle.chk_world.specs.Rules.{Legal, Obeys, RoleMay}
use Rattle.chk_world.specs.Laws.{IsCheckpointFile, agent_of}
use Rattle.chk_world.specs.Standing.{IsSuffixOf, past, open_past, LineStands}
use Rattle.chk_world.proofs.Ends.{bytes_same, bytes_self}
use Rattle.chk_world.proofs.Kept.{on_file, no_tail_fits}
use Rattle.chk_world.proofs.NameTests.{same_name, name_same, name_self, moved_named, bridge}
use Rattle.chk_world.proofs.Outcomes.{CameTo, whole, nothing, junk, Leaves, went_on, was_stopped, leaves}
use Rattle.chk_world.proofs.SmallFiles.{step_good, publication, check_owner, readable}
use Rattle.chk_world.proofs.CheckpointsMove.{found, line_stream, owner_name}
use Rattle.chk_world.proofs.LogsGrow.{turn_of, is_founded}
use Rattle.chk_world.proofs.NewLines.{renamed_logs, not_begun}
use Rattle.chk_world.proofs.LinesStand.{suffix_turned, stands_on}
use Rattle.chk_world.proofs.LinesShow.{shows_later, moves_later, shows_on, shows_first}

-- ---- the answer for the newest suffix

newest_is_one : (gs : List Generation) (suffix : List ℕ) → newest gs ≡ Some suffix
    → has_generation suffix gs ≡ true
newest_is_one [] suffix e = absurd (none-some suffix e)
newest_is_one (g ∷ gs) suffix e = go (newest gs) refl e (newest_is_one gs suffix)
  where
    either : (b : Bool) → has_generation suffix gs ≡ true → (b || has_generation suffix gs) ≡ true
    either true h = refl
    either false h = h

    own : (d : Bool) → (if d then None else Some g.suffix) ≡ Some suffix
        → (bytes_eq g.suffix suffix || has_generation suffix gs) ≡ true
    own true e = absurd (none-some suffix e)
    own false e = rw (subst (λ t. bytes_eq g.suffix t ≡ true) (same_Some g.suffix suffix e) (bytes_self g.suffix)) refl

    go : (o : Option (List ℕ)) → newest gs ≡ o
        → elim o [ Some s ↦ Some s | None ↦ if g.deleted then None else Some g.suffix ] ≡ Some suffix
        → (newest gs ≡ Some suffix → has_generation suffix gs ≡ true)
        → (bytes_eq g.suffix suffix || has_generation suffix gs) ≡ true
    go (Some s) f e rest = either (bytes_eq g.suffix suffix) (rest (f ∙ e))
    go None f e rest = own g.deleted e

suffix_on : (stamped : List (List ℕ)) (history : History) (step : Step) → Obeys stamped history step
    → (path : List ℕ) (after : Option (List ℕ))
    → IsSuffixOf after (logs_after history path).rotated → IsSuffixOf after (step.logs path).rotated
suffix_on stamped history step obeys path after known =
    suffix_turned (files_after history) path (logs_after history path) (step.logs path) after (turn_of stamped history step obeys path) known

-- what an answer of this step told of the path's newest suffix is one of it
module _ (path : List ℕ) (after : Option (List ℕ)) (gs : List Generation) where
  told_one : (words : List (List ℕ)) (number of : ℕ) (o : Option (List ℕ)) (suffix : List ℕ)
      (more : List (List ℕ))
      → words ≡ suffix ∷ more
      → AtNewest (Done words number of) o → newest gs ≡ o → Some suffix ≡ after
      → IsSuffixOf after gs
  told_one words number of None suffix more is h e same = absurd (cc)
  told_one words number of (Some k) suffix more is h e same =
      subst (λ a. IsSuffixOf a gs) same (newest_is_one gs suffix (e ∙ ap Some (let z : k ≡ suffix = heads (sym h ∙ is) in z)))
    where
      heads : {xs ys : List (List ℕ)} {x y : List ℕ} → x ∷ xs ≡ y ∷ ys → x ≡ y
      heads e = cc

pub newest_known : (stamped : List (List ℕ)) (who : Who) (history : History) → Legal stamped history
    → (path : List ℕ) (after : Option (List ℕ))
    → last_newest path (since_start who history) ≡ Some after
    → IsSuffixOf after (logs_after history path).rotated
newest_known stamped who [] legal path after e = absurd (none-some after e)
newest_known stamped who (step ∷ history) legal path after e =
    suffix_on stamped history step legal.1 path after
    (go (is_by who step) (is_start (deed step.act)) e (newest_known stamped who history legal.0 path after))
  where
    gs : List Generation
    gs = (logs_after history path).rotated

    at_path : (p : List ℕ) → bytes_eq p path ≡ true → (logs_after history p).rotated ≡ gs
    at_path p t = ap (λ q. (logs_after history q).rotated) (bytes_same p path t)

    none_given : (b : Bool) (x : Option (Option (List ℕ)))
        → (if b then Some None else x) ≡ Some after → (x ≡ Some after → IsSuffixOf after gs)
        → IsSuffixOf after gs
    none_given true x e rest = subst (λ a. IsSuffixOf a gs) (same_Some None after e) tt
    none_given false x e rest = rest e

    some_given : (p suffix : List ℕ) (words : List (List ℕ)) (number of : ℕ) (b : Bool)
        (x : Option (Option (List ℕ)))
        → bytes_eq p path ≡ b
        → AtNewest (Done (suffix ∷ words) number of) (newest (logs_after history p).rotated)
        → (if b then Some (Some suffix) else x) ≡ Some after
        → (x ≡ Some after → IsSuffixOf after gs) → IsSuffixOf after gs
    some_given p suffix words number of true x t h e rest =
        told_one path after gs (suffix ∷ words) number of (newest (logs_after history p).rotated) suffix words refl h
        (ap newest (sym (at_path p t))) (same_Some (Some suffix) after e)
    some_given p suffix words number of false x t h e rest = rest e

    by_call : (call : Deed) (answer : ActAnswer) → Agrees history step.act.who call answer
        → newest_by path call answer (last_newest path (since_start who history)) ≡ Some after
        → (last_newest path (since_start who history) ≡ Some after → IsSuffixOf after gs)
        → IsSuffixOf after gs
    by_call (AsksNewest p) (Done [] number of) h e rest = none_given (bytes_eq p path) _ e rest
    by_call (AsksNewest p) (Done (suffix ∷ words) number of) h e rest = some_given p suffix words number of (bytes_eq p path) _ refl h e rest
    by_call call answer h e rest = rest e

    go : (b t : Bool)
        → last_newest path (if b then (if t then [] else step ∷ since_start who history) else since_start who history) ≡ Some after
        → (last_newest path (since_start who history) ≡ Some after → IsSuffixOf after gs)
        → IsSuffixOf after gs
    go true true e rest = absurd (none-some after e)
    go true false e rest = by_call (deed step.act) step.act.answer legal.1.honest.agrees e rest
    go false t e rest = rest e

-- ---- a rename that took no effect

abbrev is_append : Deed → Bool
is_append (Appends w piece) = true
is_append call = false

module _ (source : List ℕ) (known : IsTrue (is_source source)) (w name : List ℕ)
    (reads : read w ≡ Temporary (CheckFile source))
    (reads_name : read name ≡ CheckFile source) (before : Files) (sound : OnFile (file before (CheckFile source)) IsWhole) where
  abbrev N : Name
  N = CheckFile source

  abbrev T : Name
  T = Temporary N

  renamed_at : (after : Files) → ((v : List ℕ) → after v ≡ changed (Moved w name) before v)
      → (m : Name) → IsTrue (is_known m)
      → file after m ≡ moved_named (file before T) T N (file before) m
  renamed_at after e m k =
      e (spell m) ∙ (bridge (Moved w name) before m k
      ∙ (ap (λ o. moved_named (file before o) o (read name) (file before) m) reads
      ∙ ap (λ o. moved_named (file before T) T o (file before) m) reads_name))

  came_not : (d : Bool) (after : Files) → CameTo (Renames w name) d before after
      → took_effect before after (spell T) ≡ false
      → file after N ≡ file before N
  came_not d after (whole e) not_taken = go (file before T) refl
    where
      go : (o : Option File) → file before T ≡ o → file after N ≡ file before N
      go None is = renamed_at after e N known ∙ ap (λ o. moved_named o T N (file before) N) is
      go (Some f) is =
          let gone : file after T ≡ None =
          renamed_at after e T known ∙ (ap (λ o. moved_named o T N (file before) T) is ∙ rw (name_self N) refl) in
          absurd (true≢false (sym (ap (λ o. is_some o && is_none (file after T)) is ∙ ap is_none gone) ∙ not_taken))
  came_not d after (nothing not_done e) not_taken = e (spell N)
  came_not d after (junk v piece more is not_done e) not_taken = absurd (true≢false (sym (ap is_append is)))

  none_same : (tail : Option (List ℕ)) (o : Option File)
      → is_none (option_map (with_tail tail) o) ≡ is_none o
  none_same tail None = refl
  none_same tail (Some f) = refl

  pub not_taken_same : (answer : ActAnswer) (after : Files)
      → Leaves (Renames w name) answer before after
      → took_effect before after (spell T) ≡ false → file after N ≡ file before N
  not_taken_same answer after (went_on no_stop came) not_taken = came_not (is_done answer) after came not_taken
  not_taken_same answer after (was_stopped left is middle came tails) not_taken =
      let gone : is_none (file after T) ≡ is_none (file middle T) =
      ap is_none (tails (spell T)).0 ∙ none_same (tail_of left (spell T)) (file middle T) in
      let same = came_not false middle came (ap (λ b. is_some (file before T) && b) (sym gone) ∙ not_taken) in
      (tails (spell N)).0
      ∙ (no_tail_fits (file middle N) (tail_of left (spell N)) (subst (λ o. OnFile o IsWhole) (sym same) sound) (tails (spell N)).1 ∙ same)

-- ---- each line

abbrev is_publication : Name → Deed → Bool
is_publication n (Renames old new) = same_name n (read new)
is_publication n call = false

moved_suffix : (gs : List Generation) (old new : Option (List ℕ)) → SuffixMoves gs old new
    → IsSuffixOf old gs → IsSuffixOf new gs
moved_suffix gs old None moves known = tt
moved_suffix gs old (Some y) (inl same) known = subst (λ o. IsSuffixOf o gs) same known
moved_suffix gs old (Some y) (inr on) known = (and_parts (is_after old y) (has_generation y gs) on).1

module _ (stamped : List (List ℕ)) (history : History) (step : Step)
    (legal : Legal stamped (step ∷ history)) (s : Stream)
    (known : IsTrue (is_source s.source)) (l : Line) (there : line_of step.files s ≡ Some l)
    (earlier : (l : Line) → line_of (files_after history) s ≡ Some l → LineStands history s l) where
  abbrev G : List Generation
  G = (logs_after history s.name).rotated

  line_on : line_of (files_after history) s ≡ Some l → LineStands (step ∷ history) s l
  line_on e =
      let h = earlier l e in
      let f = h.stands.first in
      let b = is_founded stamped history legal.0 s known f h.stands.founded in
      let same : b.line ≡ l = same_Some b.line l (sym b.there ∙ e) in
      let c = found (is_line_of s) (checkpoint_lines (files_after history) s.source) l e in
      let path = bytes_same s.name l.path (and_parts (bytes_eq s.kind l.kind) (bytes_eq s.name l.path) c.passes).1 in
      record {
        stands = stands_on stamped history step legal s known l h.stands;
        shows = λ several. shows_on stamped history step legal s known f h.stands.founded
            (ap is_plain b.class ∙ (ap (λ (k : Line). is_plain k.class) same ∙ several)) l.after
            (λ suffix may. may s.source l c.one (sym path)) (h.shows several);
      }

  new_suffix : (who : Who) → LineMay who history s None l → IsSuffixOf l.after G
  new_suffix who may = go (is_plain l.class) may.after
    where
      go : (b : Bool)
          → MatchBool b (l.after ≡ None)
          (last_newest s.name (since_start who history) ≡ Some l.after)
          → IsSuffixOf l.after G
      go true h = subst (λ o. IsSuffixOf o G) (sym h) tt
      go false h = newest_known stamped who history legal.0 s.name l.after h

  new_line : (who : Who) → line_of (files_after history) s ≡ None → LineIsTrue (step ∷ history) s l
      → LineMay who history s None l
      → LineStands (step ∷ history) s l
  new_line who none is_true may =
      let log = step.logs s.name in
      let begun : founding (step ∷ history) s ≡ Some (record { line = l; rotated = log.rotated }) =
      ap (λ o. or_else o (founded_by (line_of step.files s) log)) (not_begun stamped history s legal.0 known none)
      ∙ ap (λ o. founded_by o log) there in
      record {
        stands = record {
          first = record { line = l; rotated = log.rotated };
          founded = begun;
          place = is_true.place;
          cut = is_true.cut;
          suffix = suffix_on stamped history step legal.1 s.name l.after (new_suffix who may);
        };
        shows = λ several. shows_first (step ∷ history) s l begun several;
      }

  moved_line : (who : Who) (old : Line) → line_of (files_after history) s ≡ Some old
      → LineIsTrue (step ∷ history) s l
      → LineMay who history s (Some old) l → step.logs s.name ≡ logs_after history s.name
      → LineStands (step ∷ history) s l
  moved_line who old e is_true may same =
      let h = earlier old e in
      let later = founded_by (line_of step.files s) (step.logs s.name) in
      let f = h.stands.founded in
      let parts : parts_of (step ∷ history) s ≡ parts_of history s =
      ap (λ o. parts_since (or_else o later) (step.logs s.name)) f
      ∙ (ap (parts_since (Some h.stands.first)) same ∙ sym (ap (λ o. parts_since o (logs_after history s.name)) f)) in
      record {
        stands = record {
          first = h.stands.first;
          founded = ap (λ o. or_else o later) f;
          place = is_true.place;
          cut = is_true.cut;
          suffix = suffix_on stamped history step legal.1 s.name l.after (moved_suffix G old.after l.after may.after h.stands.suffix);
        };
        shows = λ several.
            ap (λ (log : Log). open_past l.after log.rotated) same
            ∙ (shows_later history s old.after l.after (moves_later G old.after l.after may.after) (h.shows (ap is_plain may.class ∙ several))
            ∙ ap (λ (p : Parts). past l.after p.rotated) (sym parts));
      }

  -- the file is whole, and the line stands where the file has it
  abbrev Good : Option File → Type 0
  Good o = OnFile o IsWhole × (find (is_line_of s) (lines_in o) ≡ Some l → LineStands (step ∷ history) s l)

  was_good : Good (file (files_after history) (CheckFile s.source))
  was_good = (
    on_file (file (files_after history) (CheckFile s.source)) (λ f (c : IsCheckpointFile f). c.whole)
        ((readable stamped history legal.0).checkpoints s.source known),
    line_on,
  )

  -- a line of the published content
  in_new : (who : Who) → who ≡ agent_of s → (lines : List Line)
      → CheckpointMovesForward who history step lines
      → took_effect (files_after history) step.files (spell (Temporary (CheckFile who.name))) ≡ true
      → step.logs s.name ≡ logs_after history s.name
      → find (is_line_of s) lines ≡ Some l → LineStands (step ∷ history) s l
  in_new who is lines moves took same e =
      let f = found (is_line_of s) lines l e in
      let stream = line_stream s who.name l (ap (λ (w : Who). w.name) is) f.passes in
      go (line_of (files_after history) s) refl (subst (λ t. LineIsTrue (step ∷ history) t l) stream (moves.true_at took l f.one))
      (subst (λ t. LineMay who history t (line_of (files_after history) t) l) stream (moves.each l f.one))
    where
      go : (o : Option Line) → line_of (files_after history) s ≡ o → LineIsTrue (step ∷ history) s l
          → LineMay who history s o l → LineStands (step ∷ history) s l
      go None e is_true may = new_line who e is_true may
      go (Some old) e is_true may = moved_line who old e is_true may same

  good_in : (who : Who) → who ≡ agent_of s → step.logs s.name ≡ logs_after history s.name
      → took_effect (files_after history) step.files (spell (Temporary (CheckFile who.name))) ≡ true
      → (o : Option File) (f : File) → o ≡ Some f → OnFile o IsWhole
      → OnFile o (λ f. (lines : List Line) × (read_checkpoint f.bytes ≡ Some lines) × CheckpointMovesForward who history step lines)
      → Good (Some f)
  good_in who is same took None f e w p = absurd (none-some f e)
  good_in who is same took (Some g) f e w p =
      subst Good e
      (w, λ one. in_new who is p.0 p.2 took same (subst (λ ls. find (is_line_of s) ls ≡ Some l) (ap (λ o. unwrap_or o []) p.1) one))

  published : took_effect (files_after history) step.files (spell (Temporary (CheckFile s.source))) ≡ true
      → (old new : List ℕ) → deed step.act ≡ Renames old new → read new ≡ CheckFile s.source
      → (f : File)
      → file (files_after history) (read old) ≡ Some f → Good (Some f)
  published took old new is r f at =
      let p = publication stamped history step old new (CheckFile s.source) legal.1 is r refl in
      let who = step.act.who in
      let agent = check_owner who.role who.name s.source p.owned in
      let rule : AgentRule who history step (deed step.act) = subst (λ role. RoleMay stamped role history step) agent legal.1.rule in
      let may : MayPublish who history step (read old) (read new) = subst (AgentRule who history step) is rule in
      let put : MayPublish who history step (Temporary (CheckFile s.source)) (CheckFile s.source) =
      subst (λ m. MayPublish who history step m (CheckFile s.source)) p.from (subst (MayPublish who history step (read old)) r may) in
      let name = owner_name who.role who.name s.source p.owned in
      let whose : who ≡ agent_of s = λ i. record { role = agent i; name = name i } in
      let e = legal.1.honest.modelled.effect in
      let same : step.logs s.name ≡ logs_after history s.name =
      e.logs_left s.name ∙ renamed_logs old new step.act.answer e.did (logs_after history) s.name
      (subst (λ call. Did call step.act.answer e.did) is e.may) in
      good_in who whose same (ap (λ n. took_effect (files_after history) step.files (spell (Temporary (CheckFile n)))) name ∙ took)
      (file (files_after history) (Temporary (CheckFile s.source))) f (ap (file (files_after history)) (sym p.from) ∙ at) p.whole_is put.1

  by_step : ((old new : List ℕ) → deed step.act ≡ Renames old new → read new ≡ CheckFile s.source → (f : File)
      → file (files_after history) (read old) ≡ Some f
      → Good (Some f)) → LineStands (step ∷ history) s l
  by_step callback =
      (step_good stamped history step (CheckFile s.source) refl known Good (λ o g. g.0)
      (λ may. absurd (true≢false (sym (and_parts (owns step.act.who (CheckFile s.source)) false may).1))) legal.1 callback was_good).1 there

  -- the content wasn't published
  unpublished : took_effect (files_after history) step.files (spell (Temporary (CheckFile s.source))) ≡ false
      → LineStands (step ∷ history) s l
  unpublished not_taken = go (deed step.act) refl
    where
      by_rename : (old new : List ℕ) → deed step.act ≡ Renames old new → (b : Bool)
          → same_name (CheckFile s.source) (read new) ≡ b → LineStands (step ∷ history) s l
      by_rename old new is true t =
          let r = sym (name_same (CheckFile s.source) (read new) t) in
          let p = publication stamped history step old new (CheckFile s.source) legal.1 is r refl in
          let e = legal.1.honest.modelled.effect in
          let left = leaves (deed step.act) step.act.answer (files_after history) step.files e.did e.may e.files_left in
          let same = not_taken_same s.source known old new p.from r (files_after history) was_good.0 step.act.answer step.files
          (subst (λ call. Leaves call step.act.answer (files_after history) step.files) is left) not_taken in
          line_on (sym (ap (λ o. find (is_line_of s) (lines_in o)) same) ∙ there)
      by_rename old new is false t =
          by_step (λ old' new' is' r f at.
          absurd (true≢false (sym (ap (is_publication (CheckFile s.source)) (sym is ∙ is') ∙ (ap (same_name (CheckFile s.source)) r ∙ name_self (CheckFile s.source))) ∙ t)))

      other : (call : Deed) → deed step.act ≡ call
          → is_publication (CheckFile s.source) call ≡ false → LineStands (step ∷ history) s l
      other call is none =
          by_step (λ old new is' r f at.
          absurd (true≢false (sym (ap (is_publication (CheckFile s.source)) (sym is ∙ is') ∙ (ap (same_name (CheckFile s.source)) r ∙ name_self (CheckFile s.source))) ∙ none)))

      go : (call : Deed) → deed step.act ≡ call → LineStands (step ∷ history) s l
      go (Renames old new) is = by_rename old new is (same_name (CheckFile s.source) (read new)) refl
      go Starts is = other Starts is refl
      go (ReadsLog path part at max) is = other _ is refl
      go (AsksNewest path) is = other _ is refl
      go (GrowsLog path piece) is = other _ is refl
      go (Creates w) is = other _ is refl
      go (Appends w piece) is = other _ is refl
      go (Syncs w) is = other _ is refl
      go (Removes w) is = other _ is refl
      go (Cuts w k) is = other _ is refl
      go (AsksSize w) is = other _ is refl
      go (Reads w at max) is = other _ is refl
      go (Lists w) is = other _ is refl
      go AsksClock is = other _ is refl
      go (Pauses k) is = other _ is refl
      go (Sends m address bytes) is = other _ is refl
      go (Gets m) is = other _ is refl
      go (Takes door wait) is = other _ is refl
      go (TakesMore t) is = other _ is refl
      go (Answers t bytes) is = other _ is refl
      go (Says bytes) is = other _ is refl

  one_step : LineStands (step ∷ history) s l
  one_step = go (took_effect (files_after history) step.files (spell (Temporary (CheckFile s.source)))) refl
    where
      go : (b : Bool)
          → took_effect (files_after history) step.files (spell (Temporary (CheckFile s.source))) ≡ b
          → LineStands (step ∷ history) s l
      go true took = by_step (published took)
      go false not_taken = unpublished not_taken

pub lines_stand : (stamped : List (List ℕ)) (history : History) → Legal stamped history
    → (s : Stream) → IsTrue (is_source s.source)
    → (l : Line) → line_of (files_after history) s ≡ Some l → LineStands history s l
lines_stand stamped [] legal s known l e = absurd (none-some l e)
lines_stand stamped (step ∷ history) legal s known l e =
    one_step stamped history step legal s known l e (lines_stand stamped history legal.0 s known)
