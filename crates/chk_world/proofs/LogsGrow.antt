-- The log of a stream only grows.
use Rattle.std.proofs.Common.{◌≡◌, inl, inr, ℕ, ◌≤◌, Bool, true, false, ◌&&◌, not, List, [], ◌∷◌, ◌++◌, length, Option, Some, None, ap, sym, subst, ◌∙◌, if◌then◌else◌, refl, true≢false, arith, append_assoc, append-nil, length-append, bytes_eq}
use Rattle.std.specs.Prelude.{IsTrue}
use Rattle.std.proofs.lemmas.Bool.{and_parts}
use Rattle.std.proofs.lemmas.Option.{same_Some, none-some}
use Rattle.std.specs.List.{list_all}
use Rattle.chk_bytes.specs.Words.{joined, BeginsWith, text_lt}
use Rattle.chk_site.specs.declared.acts.Role.{Role}
use Rattle.chk_site.specs.declared.acts.Role.TheVariants.{Agent, Collector, Job, Writer}
use Rattle.chk_site.specs.declared.acts.ActAnswer.{ActAnswer}
use Rattle.chk_site.specs.declared.acts.ActAnswer.TheVariants.{Done, Refused, Stopped, Rotated, Deleted}
use Rattle.chk_site.specs.declared.acts.CallFault.TheVariants.{Failed, Missing, Exists, Short, NoMemory}
use Rattle.chk_site.specs.declared.lists.Left.{Left}
use Rattle.chk_site.specs.Files.{Files, Change, Nothing, Created, Grown, Secured, Moved, Gone, Shortened, LogGrown, LogTurned, LogDropped}
use Rattle.chk_site.specs.Logs.{Generation, Log, log_grown, log_turned, log_dropped, marked, logs_changed}
use Rattle.chk_site.specs.Acts.{Deed, Starts, ReadsLog, AsksNewest, GrowsLog, Creates, Appends, Syncs, Renames, Removes, Cuts, AsksSize, Reads, Lists, AsksClock, Pauses, Sends, Gets, Takes, TakesMore, Answers, Says, deed, change_of, Did, MayHave, HasHalf, says_whole}
use Rattle.chk_site.specs.History.{Step, History, files_after, logs_after}
use Rattle.chk_site.specs.Suffixes.{is_suffix, is_after}
use Rattle.chk_control.specs.Classes.{is_plain}
use Rattle.chk_chunk.specs.Keys.{Stream}
use Rattle.chk_world.specs.Names.{is_source}
use Rattle.chk_world.specs.Checkpoints.{Line, checkpoint_lines, is_line_of, line_of}
use Rattle.chk_world.specs.Streams.{Founding, founding, founded_by, or_else, chosen, parts_since, bytes_of, log_of}
use Rattle.chk_world.specs.Laws.{MovesOn}
use Rattle.chk_world.proofs.CheckpointsMove.{found, moves_forward}
use Rattle.chk_world.specs.Rules.{Legal, Obeys, RoleMay, WriterRule, IsRotatable, IsPassed, OnlyWritersGrowLogs}
use Rattle.chk_world.proofs.Ends.{bytes_same}

-- ---- only a writer's rotation turns a log, and only its deletion drops a generation

abbrev is_turn : Change → Bool
is_turn (LogTurned path suffix) = true
is_turn (LogDropped path suffix) = true
is_turn change = false

change_no_turn : (call : Deed) → is_turn (change_of call) ≡ false
change_no_turn (GrowsLog path piece) = refl
change_no_turn (Creates w) = refl
change_no_turn (Appends w piece) = refl
change_no_turn (Syncs w) = refl
change_no_turn (Renames old new) = refl
change_no_turn (Removes w) = refl
change_no_turn (Cuts w k) = refl
change_no_turn Starts = refl
change_no_turn (ReadsLog path part at max) = refl
change_no_turn (AsksNewest path) = refl
change_no_turn (AsksSize w) = refl
change_no_turn (Reads w at max) = refl
change_no_turn (Lists w) = refl
change_no_turn AsksClock = refl
change_no_turn (Pauses k) = refl
change_no_turn (Sends m address bytes) = refl
change_no_turn (Gets m) = refl
change_no_turn (Takes door wait) = refl
change_no_turn (TakesMore t) = refl
change_no_turn (Answers t bytes) = refl
change_no_turn (Says bytes) = refl

no_turn_failed : (c did : Change) → is_turn c ≡ false → MayHave c did → is_turn did ≡ false
no_turn_failed Nothing did n h = ap is_turn h
no_turn_failed (Secured w) did n h = ap is_turn h
no_turn_failed (Created w) did n (inl h) = ap is_turn h
no_turn_failed (Created w) did n (inr h) = ap is_turn h
no_turn_failed (Grown w piece) did n (inl h) = ap is_turn h
no_turn_failed (Grown w piece) did n (inr h) = ap is_turn h.2
no_turn_failed (Moved old new) did n (inl h) = ap is_turn h
no_turn_failed (Moved old new) did n (inr h) = ap is_turn h
no_turn_failed (Gone w) did n (inl h) = ap is_turn h
no_turn_failed (Gone w) did n (inr h) = ap is_turn h
no_turn_failed (Shortened w k) did n (inl h) = ap is_turn h
no_turn_failed (Shortened w k) did n (inr h) = ap is_turn h
no_turn_failed (LogGrown path piece) did n (inl h) = ap is_turn h
no_turn_failed (LogGrown path piece) did n (inr h) = ap is_turn h.2
no_turn_failed (LogTurned path suffix) did n h = absurd (true≢false n)
no_turn_failed (LogDropped path suffix) did n h = absurd (true≢false n)

picked : (b : Bool) (c did : Change) → is_turn c ≡ false → did ≡ (if b then c else Nothing) → is_turn did ≡ false
picked true c did n h = ap is_turn h ∙ n
picked false c did n h = ap is_turn h

no_turn_stopped : (c : Change) (left : List Left) (did : Change) → is_turn c ≡ false → HasHalf c left did → is_turn did ≡ false
no_turn_stopped (Created w) left did n h = picked (says_whole left w) (Created w) did refl h
no_turn_stopped (Moved old new) left did n h = picked (says_whole left old) (Moved old new) did refl h
no_turn_stopped (Gone w) left did n h = picked (says_whole left w) (Gone w) did refl h
no_turn_stopped (Shortened w k) left did n h = picked (says_whole left w) (Shortened w k) did refl h
no_turn_stopped (LogGrown path piece) left did n h = ap is_turn h.2
no_turn_stopped Nothing left did n h = ap is_turn h
no_turn_stopped (Secured w) left did n h = ap is_turn h
no_turn_stopped (Grown w piece) left did n h = ap is_turn h
no_turn_stopped (LogTurned path suffix) left did n h = absurd (true≢false n)
no_turn_stopped (LogDropped path suffix) left did n h = absurd (true≢false n)

-- a log was turned by a rotation of it
record IsRotation (call : Deed) (answer : ActAnswer) (path suffix : List ℕ) : Type 0 where
  piece : List ℕ
  is_call : call ≡ GrowsLog path piece
  is_answer : answer ≡ Rotated suffix

-- a generation was marked by its deletion
record IsDeletion (call : Deed) (answer : ActAnswer) (path suffix : List ℕ) : Type 0 where
  piece : List ℕ
  is_call : call ≡ GrowsLog path piece
  is_answer : answer ≡ Deleted suffix

no_turn : {A : Type 0} (did made : Change) → did ≡ made → is_turn made ≡ true → is_turn did ≡ false → A
no_turn did made e is n = absurd (true≢false (sym is ∙ (sym (ap is_turn e) ∙ n)))

turned_by : (call : Deed) (answer : ActAnswer) (did : Change) (path suffix : List ℕ) → did ≡ LogTurned path suffix → Did call answer did
    → IsRotation call answer path suffix
turned_by (GrowsLog p piece) (Rotated s) did path suffix e may =
    record { piece = piece; is_call = ap (λ q. GrowsLog q piece) (paths (sym may.1 ∙ e)); is_answer = ap Rotated (suffixes (sym may.1 ∙ e)) }
  where
    paths : LogTurned p s ≡ LogTurned path suffix → p ≡ path
    paths e = cc

    suffixes : LogTurned p s ≡ LogTurned path suffix → s ≡ suffix
    suffixes e = cc
turned_by (GrowsLog p piece) (Deleted s) did path suffix e may = absurd (apart (sym may ∙ e))
  where
    apart : LogDropped p s ≡ LogTurned path suffix → ⊥
    apart e = cc
turned_by call (Done words number of) did path suffix e may = no_turn did (LogTurned path suffix) e refl (ap is_turn may ∙ change_no_turn call)
turned_by call (Refused Failed) did path suffix e may =
    no_turn did (LogTurned path suffix) e refl (no_turn_failed (change_of call) did (change_no_turn call) may)
turned_by call (Refused Missing) did path suffix e may = no_turn did (LogTurned path suffix) e refl (ap is_turn may)
turned_by call (Refused Exists) did path suffix e may = no_turn did (LogTurned path suffix) e refl (ap is_turn may)
turned_by call (Refused (Short size)) did path suffix e may = no_turn did (LogTurned path suffix) e refl (ap is_turn may)
turned_by call (Refused NoMemory) did path suffix e may = no_turn did (LogTurned path suffix) e refl (ap is_turn may)
turned_by call (Stopped left) did path suffix e may =
    no_turn did (LogTurned path suffix) e refl (no_turn_stopped (change_of call) left did (change_no_turn call) may)
turned_by call (Rotated s) did path suffix e may = no_turn did (LogTurned path suffix) e refl (ap is_turn may)
turned_by call (Deleted s) did path suffix e may = no_turn did (LogTurned path suffix) e refl (ap is_turn may)

dropped_by : (call : Deed) (answer : ActAnswer) (did : Change) (path suffix : List ℕ) → did ≡ LogDropped path suffix → Did call answer did
    → IsDeletion call answer path suffix
dropped_by (GrowsLog p piece) (Deleted s) did path suffix e may =
    record { piece = piece; is_call = ap (λ q. GrowsLog q piece) (paths (sym may ∙ e)); is_answer = ap Deleted (suffixes (sym may ∙ e)) }
  where
    paths : LogDropped p s ≡ LogDropped path suffix → p ≡ path
    paths e = cc

    suffixes : LogDropped p s ≡ LogDropped path suffix → s ≡ suffix
    suffixes e = cc
dropped_by (GrowsLog p piece) (Rotated s) did path suffix e may = absurd (apart (sym may.1 ∙ e))
  where
    apart : LogTurned p s ≡ LogDropped path suffix → ⊥
    apart e = cc
dropped_by call (Done words number of) did path suffix e may = no_turn did (LogDropped path suffix) e refl (ap is_turn may ∙ change_no_turn call)
dropped_by call (Refused Failed) did path suffix e may =
    no_turn did (LogDropped path suffix) e refl (no_turn_failed (change_of call) did (change_no_turn call) may)
dropped_by call (Refused Missing) did path suffix e may = no_turn did (LogDropped path suffix) e refl (ap is_turn may)
dropped_by call (Refused Exists) did path suffix e may = no_turn did (LogDropped path suffix) e refl (ap is_turn may)
dropped_by call (Refused (Short size)) did path suffix e may = no_turn did (LogDropped path suffix) e refl (ap is_turn may)
dropped_by call (Refused NoMemory) did path suffix e may = no_turn did (LogDropped path suffix) e refl (ap is_turn may)
dropped_by call (Stopped left) did path suffix e may =
    no_turn did (LogDropped path suffix) e refl (no_turn_stopped (change_of call) left did (change_no_turn call) may)
dropped_by call (Rotated s) did path suffix e may = no_turn did (LogDropped path suffix) e refl (ap is_turn may)
dropped_by call (Deleted s) did path suffix e may = no_turn did (LogDropped path suffix) e refl (ap is_turn may)

-- ---- what a legal step does to a log

-- the log may be turned under this suffix
pub record MayTurn (files : Files) (path : List ℕ) (old : Log) (suffix : List ℕ) : Type 0 where
  pub newest : list_all (λ g. text_lt g.suffix suffix) old.rotated ≡ true
  pub rotatable : IsRotatable files path

pub data LogTurn (files : Files) (path : List ℕ) (old new : Log) : Type 0 where
  as_it_was : new ≡ old → LogTurn files path old new
  grew : (bytes : List ℕ) → new ≡ log_grown bytes old → LogTurn files path old new
  was_turned : (suffix : List ℕ) → new ≡ log_turned suffix old → MayTurn files path old suffix → LogTurn files path old new
  was_dropped : (suffix : List ℕ) → new ≡ log_dropped suffix old → IsPassed files path suffix → LogTurn files path old new

writes : (role : Role) (path piece : List ℕ) → OnlyWritersGrowLogs role (GrowsLog path piece) → role ≡ Writer
writes Writer path piece h = refl
writes Agent path piece h = absurd (true≢false (sym h))
writes Collector path piece h = absurd (true≢false (sym h))
writes Job path piece h = absurd (true≢false (sym h))

writer_rule : (stamped : List (List ℕ)) (history : History) (step : Step) (path piece : List ℕ) (answer : ActAnswer) → Obeys stamped history step
    → deed step.act ≡ GrowsLog path piece → step.act.answer ≡ answer → WriterRule (files_after history) (logs_after history) (GrowsLog path piece) answer
writer_rule stamped history step path piece answer obeys call is =
    let role = writes step.act.who.role path piece (subst (OnlyWritersGrowLogs step.act.who.role) call obeys.logs) in
    let rule : WriterRule (files_after history) (logs_after history) (deed step.act) step.act.answer =
    subst (λ k. RoleMay stamped k history step) role obeys.rule in
    subst (λ a. WriterRule (files_after history) (logs_after history) (GrowsLog path piece) a) is
    (subst (λ c. WriterRule (files_after history) (logs_after history) c step.act.answer) call rule)

rotation_rule : (stamped : List (List ℕ)) (history : History) (step : Step) (path suffix : List ℕ) → Obeys stamped history step
    → IsRotation (deed step.act) step.act.answer path suffix → MayTurn (files_after history) path (logs_after history path) suffix
rotation_rule stamped history step path suffix obeys r =
    let rule = writer_rule stamped history step path r.piece (Rotated suffix) obeys r.is_call r.is_answer in
    record {
      newest = (and_parts (is_suffix suffix) (list_all (λ g. text_lt g.suffix suffix) (logs_after history path).rotated) rule.0).1;
      rotatable = rule.1;
    }

deletion_rule : (stamped : List (List ℕ)) (history : History) (step : Step) (path suffix : List ℕ) → Obeys stamped history step
    → IsDeletion (deed step.act) step.act.answer path suffix → IsPassed (files_after history) path suffix
deletion_rule stamped history step path suffix obeys r =
    (writer_rule stamped history step path r.piece (Deleted suffix) obeys r.is_call r.is_answer).1

log_turn : (stamped : List (List ℕ)) (history : History) (step : Step) (path : List ℕ) → Obeys stamped history step → (did : Change)
    → Did (deed step.act) step.act.answer did → (new : Log) → new ≡ logs_changed did (logs_after history) path
    → LogTurn (files_after history) path (logs_after history path) new
log_turn stamped history step path obeys (LogGrown p bytes) may new e = go (bytes_eq path p) e
  where
    go : (b : Bool) → new ≡ (if b then log_grown bytes (logs_after history path) else logs_after history path) → LogTurn (files_after history) path (logs_after history path) new
    go true e = grew bytes e
    go false e = as_it_was e
log_turn stamped history step path obeys (LogDropped p suffix) may new e = go (bytes_eq path p) refl e
  where
    go : (b : Bool) → bytes_eq path p ≡ b → new ≡ (if b then log_dropped suffix (logs_after history path) else logs_after history path) → LogTurn (files_after history) path (logs_after history path) new
    go true t e =
        was_dropped suffix e (subst (λ q. IsPassed (files_after history) q suffix) (sym (bytes_same path p t))
        (deletion_rule stamped history step p suffix obeys (dropped_by (deed step.act) step.act.answer (LogDropped p suffix) p suffix refl may)))
    go false t e = as_it_was e
log_turn stamped history step path obeys (LogTurned p suffix) may new e = go (bytes_eq path p) refl e
  where
    go : (b : Bool) → bytes_eq path p ≡ b → new ≡ (if b then log_turned suffix (logs_after history path) else logs_after history path)
        → LogTurn (files_after history) path (logs_after history path) new
    go true t e =
        was_turned suffix e (subst (λ q. MayTurn (files_after history) q (logs_after history q) suffix) (sym (bytes_same path p t))
        (rotation_rule stamped history step p suffix obeys (turned_by (deed step.act) step.act.answer (LogTurned p suffix) p suffix refl may)))
    go false t e = as_it_was e
log_turn stamped history step path obeys Nothing may new e = as_it_was e
log_turn stamped history step path obeys (Created w) may new e = as_it_was e
log_turn stamped history step path obeys (Grown w piece) may new e = as_it_was e
log_turn stamped history step path obeys (Secured w) may new e = as_it_was e
log_turn stamped history step path obeys (Moved old new') may new e = as_it_was e
log_turn stamped history step path obeys (Gone w) may new e = as_it_was e
log_turn stamped history step path obeys (Shortened w k) may new e = as_it_was e

-- ---- the chosen generations

pub chosen_more : (after : Option (List ℕ)) (then_gs gs : List Generation) (g : Generation) → length then_gs ≤ length gs
    → chosen after then_gs (gs ++ g ∷ []) ≡ chosen after then_gs gs ++ g ∷ []
chosen_more after [] gs g le = refl
chosen_more after (t ∷ ts) [] g le = absurd (let z : ⊥ = omega arith in z)
chosen_more after (t ∷ ts) (h ∷ hs) g le =
    pick (not t.deleted && is_after after t.suffix) (chosen_more after ts hs g (omega arith))
  where
    pick : (b : Bool) → chosen after ts (hs ++ g ∷ []) ≡ chosen after ts hs ++ g ∷ []
        → (if b then h ∷ chosen after ts (hs ++ g ∷ []) else chosen after ts (hs ++ g ∷ []))
        ≡ (if b then h ∷ chosen after ts hs else chosen after ts hs) ++ g ∷ []
    pick true e = ap (λ l. h ∷ l) e
    pick false e = e

marked_bytes : (suffix : List ℕ) (gs : List Generation) → bytes_of (marked suffix gs) ≡ bytes_of gs
marked_bytes suffix [] = refl
marked_bytes suffix (g ∷ gs) = ap (λ l. g.bytes ∷ l) (marked_bytes suffix gs)

marked_size : (suffix : List ℕ) (gs : List Generation) → length (marked suffix gs) ≡ length gs
marked_size suffix [] = refl
marked_size suffix (g ∷ gs) = omega (arith, marked_size suffix gs)

pub chosen_marked : (after : Option (List ℕ)) (then_gs : List Generation) (suffix : List ℕ) (gs : List Generation)
    → bytes_of (chosen after then_gs (marked suffix gs)) ≡ bytes_of (chosen after then_gs gs)
chosen_marked after [] suffix gs = marked_bytes suffix gs
chosen_marked after (t ∷ ts) suffix [] = refl
chosen_marked after (t ∷ ts) suffix (h ∷ hs) =
    pick (not t.deleted && is_after after t.suffix) (record { suffix = h.suffix; bytes = h.bytes; deleted = if bytes_eq h.suffix suffix then true else h.deleted })
    refl (chosen_marked after ts suffix hs)
  where
    pick : (b : Bool) (k : Generation) → k.bytes ≡ h.bytes → bytes_of (chosen after ts (marked suffix hs)) ≡ bytes_of (chosen after ts hs)
        → bytes_of (if b then k ∷ chosen after ts (marked suffix hs) else chosen after ts (marked suffix hs))
        ≡ bytes_of (if b then h ∷ chosen after ts hs else chosen after ts hs)
    pick true k same e = ap (λ b. b ∷ bytes_of (chosen after ts (marked suffix hs))) same ∙ ap (λ l. h.bytes ∷ l) e
    pick false k same e = e

joined_end : (gs : List Generation) (g : Generation) → joined (bytes_of (gs ++ g ∷ [])) ≡ joined (bytes_of gs) ++ g.bytes
joined_end [] g = append-nil g.bytes
joined_end (h ∷ gs) g = ap (λ l. h.bytes ++ l) (joined_end gs g) ∙ sym (append_assoc h.bytes (joined (bytes_of gs)) g.bytes)

-- ---- the log of a founded stream

abbrev log_by : Option Founding → Log → List ℕ
log_by o log = let p = parts_since o log in joined (bytes_of p.rotated) ++ p.base

abbrev pub rotated_since : Bool → Founding → Log → List Generation
rotated_since plain f log = if plain then [] else chosen f.line.after f.rotated log.rotated

abbrev bytes_since : Bool → Founding → Log → List ℕ
bytes_since plain f log = joined (bytes_of (rotated_since plain f log)) ++ log.base

since_turn : (files : Files) (path : List ℕ) (plain : Bool) (f : Founding) (old new : Log) → (IsRotatable files path → plain ≡ false)
    → length f.rotated ≤ length old.rotated → LogTurn files path old new → BeginsWith (bytes_since plain f new) (bytes_since plain f old) × (length f.rotated ≤ length new.rotated)
since_turn files path plain f old new may le (as_it_was e) =
    (([], ap (bytes_since plain f) e ∙ sym (append-nil (bytes_since plain f old))), subst (λ (log : Log). length f.rotated ≤ length log.rotated) (sym e) le)
since_turn files path plain f old new may le (grew bytes e) = (
  (bytes, ap (bytes_since plain f) e ∙ sym (append_assoc (joined (bytes_of (rotated_since plain f old))) old.base bytes)),
  subst (λ (log : Log). length f.rotated ≤ length log.rotated) (sym e) le,
)
since_turn files path plain f old new may le (was_dropped suffix e r) = (
  ([], ap (bytes_since plain f) e ∙ (same plain ∙ sym (append-nil (bytes_since plain f old)))),
  subst (λ (log : Log). length f.rotated ≤ length log.rotated) (sym e) (let size = marked_size suffix old.rotated in omega (arith, le, size)),
)
  where
    same : (b : Bool) → bytes_since b f (log_dropped suffix old) ≡ bytes_since b f old
    same true = refl
    same false = ap (λ bs. joined bs ++ old.base) (chosen_marked f.line.after f.rotated suffix old.rotated)
since_turn files path plain f old new may le (was_turned suffix e r) =
    let g : Generation = record { suffix = suffix; bytes = old.base; deleted = false } in
    let not_plain = may r.rotatable in
    let c = chosen f.line.after f.rotated old.rotated in
    let turned : bytes_since false f (log_turned suffix old) ≡ bytes_since false f old =
    append-nil (joined (bytes_of (chosen f.line.after f.rotated (old.rotated ++ g ∷ []))))
    ∙ (ap (λ gs. joined (bytes_of gs)) (chosen_more f.line.after f.rotated old.rotated g le) ∙ joined_end c g) in
    let same : bytes_since plain f new ≡ bytes_since plain f old =
    ap (bytes_since plain f) e ∙ subst (λ b. bytes_since b f (log_turned suffix old) ≡ bytes_since b f old) (sym not_plain) turned in
    let more = length-append old.rotated (g ∷ []) in (
      ([], same ∙ sym (append-nil (bytes_since plain f old))),
      subst (λ (log : Log). length f.rotated ≤ length log.rotated) (sym e) (omega (arith, le, more)),
    )

-- what is known of a founded stream: its generations are still there, and its line is, of its first class
pub record IsFounded (history : History) (s : Stream) (f : Founding) : Type 0 where
  pub long : length f.rotated ≤ length (logs_after history s.name).rotated
  pub line : Line
  pub there : line_of (files_after history) s ≡ Some line
  pub class : f.line.class ≡ line.class
  pub start : f.line.start ≡ line.start

pub turn_of : (stamped : List (List ℕ)) (history : History) (step : Step) → Obeys stamped history step → (path : List ℕ)
    → LogTurn (files_after history) path (logs_after history path) (step.logs path)
turn_of stamped history step obeys path =
    let e = obeys.honest.modelled.effect in log_turn stamped history step path obeys e.did e.may (step.logs path) (e.logs_left path)

-- a stream whose line reads the base file alone isn't rotated
pub class_turns : (history : History) (s : Stream) (f : Founding) → IsFounded history s f → IsRotatable (files_after history) s.name
    → is_plain f.line.class ≡ false
class_turns history s f known may =
    let l = found (is_line_of s) (checkpoint_lines (files_after history) s.source) known.line known.there in
    let p = and_parts (bytes_eq s.kind known.line.kind) (bytes_eq s.name known.line.path) l.passes in
    ap is_plain known.class ∙ may s.source known.line l.one (sym (bytes_same s.name known.line.path p.1))

founded_turn : (stamped : List (List ℕ)) (history : History) (step : Step) → Obeys stamped history step → (s : Stream) (f : Founding)
    → IsFounded history s f
    → BeginsWith (bytes_since (is_plain f.line.class) f (step.logs s.name)) (bytes_since (is_plain f.line.class) f (logs_after history s.name))
    × (length f.rotated ≤ length (step.logs s.name).rotated)
founded_turn stamped history step obeys s f known =
    since_turn (files_after history) s.name (is_plain f.line.class) f (logs_after history s.name) (step.logs s.name)
    (class_turns history s f known) known.long (turn_of stamped history step obeys s.name)

moved_line : (l : Line) (o : Option Line) → MovesOn l o → (m : Line) × (o ≡ Some m) × (l.class ≡ m.class) × (l.start ≡ m.start)
moved_line l None h = absurd h
moved_line l (Some m) h = (m, refl, h.0, h.1)

pub is_founded : (stamped : List (List ℕ)) (history : History) → Legal stamped history → (s : Stream) → IsTrue (is_source s.source)
    → (f : Founding) → founding history s ≡ Some f → IsFounded history s f
is_founded stamped [] legal s known f e = absurd (none-some f e)
is_founded stamped (step ∷ history) legal s known f e =
    go (founding history s) refl (line_of step.files s) refl e (is_founded stamped history legal.0 s known)
  where
    go : (o : Option Founding) → founding history s ≡ o → (l : Option Line) → line_of step.files s ≡ l
        → or_else o (founded_by l (step.logs s.name)) ≡ Some f
        → ((f : Founding) → founding history s ≡ Some f → IsFounded history s f) → IsFounded (step ∷ history) s f
    go (Some f') first l line e earlier =
        let same : f' ≡ f = same_Some f' f e in
        let b = earlier f (first ∙ ap Some same) in
        let t = founded_turn stamped history step legal.1 s f b in
        let m = moved_line b.line (line_of step.files s) (moves_forward stamped history step legal s known b.line b.there) in
        record { long = t.1; line = m.0; there = m.1; class = b.class ∙ m.2; start = b.start ∙ m.3 }
    go None first None line e earlier = absurd (none-some f e)
    go None first (Some l) line e earlier =
        let same : Path Founding (record { line = l; rotated = (step.logs s.name).rotated }) f = same_Some _ f e in
        record {
          long = subst (λ (f : Founding). length f.rotated ≤ length (step.logs s.name).rotated) same (omega arith);
          line = l;
          there = line;
          class = sym (ap (λ (f : Founding). f.line.class) same);
          start = sym (ap (λ (f : Founding). f.line.start) same);
        }

-- the log of a stream is a front of what it is after a legal step
pub logs_grow : (stamped : List (List ℕ)) (history : History) (step : Step) → Legal stamped (step ∷ history) → (s : Stream)
    → IsTrue (is_source s.source) → BeginsWith (log_of (step ∷ history) s) (log_of history s)
logs_grow stamped history step legal s known = go (founding history s) refl
  where
    go : (o : Option Founding) → founding history s ≡ o → BeginsWith (log_of (step ∷ history) s) (log_of history s)
    go None first =
        let empty : log_of history s ≡ [] = ap (λ o. log_by o (logs_after history s.name)) first in
        (log_of (step ∷ history) s, ap (λ l. l ++ log_of (step ∷ history) s) (sym empty))
    go (Some f) first =
        let b = is_founded stamped history legal.0 s known f first in
        let t = founded_turn stamped history step legal.1 s f b in
        let before : log_of history s ≡ bytes_since (is_plain f.line.class) f (logs_after history s.name) =
        ap (λ o. log_by o (logs_after history s.name)) first in
        let after : log_of (step ∷ history) s ≡ bytes_since (is_plain f.line.class) f (step.logs s.name) =
        ap (λ o. log_by (or_else o (founded_by (line_of step.files s) (step.logs s.name))) (step.logs s.name)) first in
        (t.0.0, after ∙ (t.0.1 ∙ ap (λ l. l ++ t.0.0) (sym before)))
