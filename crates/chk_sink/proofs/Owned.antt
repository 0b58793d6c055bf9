-- Which calls the sinks make, by their state.
use Rattle.std.proofs.Common.{◌≡◌, ◌⊎◌, inl, inr, ℕ, Bool, true, false, true≢false, List, [], ◌∷◌, Option, Some, None, option_map, Result, Ok, Err, ap, sym, subst, refl, ◌∙◌, is_some, if◌then◌else◌}
use Rattle.std.specs.Prelude.{IsTrue, IfErr, MatchBool}
use Rattle.chk_bytes.specs.Numbers.{be64}
use Rattle.chk_bytes.specs.Stems.{Stem, is_stem}
use Rattle.chk_site.specs.declared.acts.Role.TheVariants.{Collector}
use Rattle.chk_site.specs.declared.acts.Who.{Who}
use Rattle.chk_site.specs.declared.acts.Call.TheVariants.{Read}
use Rattle.chk_site.specs.declared.acts.OutsideFault.{OutsideFault}
use Rattle.chk_site.specs.declared.acts.ActAnswer.{ActAnswer}
use Rattle.chk_site.specs.declared.acts.ActAnswer.TheVariants.{Done}
use Rattle.chk_site.specs.Acts.{Deed, Creates, Appends, Syncs, Renames, Removes, Cuts, Reads, deed}
use Rattle.chk_site.proofs.Runs.{adds_as}
use Rattle.chk_site.specs.History.{History, Every}
use Rattle.chk_site.specs.Site.{Adds, Asked, asked, bytes_given}
use Rattle.chk_site.specs.Runs.{MadeInTurn, Owns}
use Rattle.chk_replace.specs.Replace.{replacement}
use Rattle.chk_world.specs.Names.{BornFile, MarkFile, read, spell}
use Rattle.chk_world.proofs.NameLemmas.{read-spell}
use Rattle.chk_world.specs.Works.{Works, Asks, unbegun, IsOneOf, fault_of, deed_of}
use Rattle.chk_world.proofs.Working.{works_then, works_as, works_own, taken_works, call_ends, script_works}
use Rattle.chk_sink.specs.declared.fault.SinkFault.{SinkFault}
use Rattle.chk_sink.specs.declared.fault.SinkFault.TheVariants.{Damaged, NoMemory}
use Rattle.chk_sink.specs.Asking.{IsMarkNumber}
use Rattle.chk_sink.specs.Closing.{publishing, closing}
use Rattle.chk_sink.specs.Starting.{ReadsNumber, first_state}
use Rattle.chk_sink.specs.States.{State, Writing, process, last_stem, next_stem, let_go, needs_next, without_full, all_marked, committed_state, settled_state}
use Rattle.chk_sink.specs.Works.{IsAppendTo, IsMaking, OfPut, OfCommit, OfClose, OfLeft, OfSettling, OfLook, OfPublishing, OfStart, commit_calls, close_calls}
use Rattle.chk_sink.specs.Closes.{IsNoListing}
use Rattle.chk_sink.proofs.Putting.{the_collector}
use Rattle.chk_sink.specs.Damage.{damage_by, damage_in, DamageCause}
use Rattle.chk_sink.specs.Faults.{IsOutside}
use Rattle.chk_sink.proofs.Showing.{damage, last, IsSilent, works_silent}
use Rattle.chk_sink.proofs.JoinedCauses.{silent_cause}
use Rattle.chk_sink.proofs.Owning.{Made, publishing_works, closing_works}

-- the number of a mark, or its damage
pub number_works : {who : Who} {P : Deed → Type 0} (w bytes : List ℕ) (result : Result ℕ SinkFault) {old new : Option History}
    → IsMarkNumber w bytes result → Works who P None old new → Made who P result old new
number_works w bytes (Ok n) is told = told
number_works w bytes (Err (Damaged name at)) is told = told
number_works w bytes (Err NoMemory) is told = works_then told unbegun
number_works w bytes (Err fault) is told = absurd is

-- ---- a commit and a close

pub commit_works : (s : State) (o : Writing) → s.current ≡ Some o → (who : Who) → who ≡ process s → (x : Stem) → x ≡ last_stem s
    → {made : Result (Unit {0}) OutsideFault} {old new : Option History} → MadeInTurn (publishing who x o.size) made old new
    → Works (process s) (OfCommit s) (fault_of made) old new
commit_works s o some who who_is x x_is {made = made} {old = old} {new = new} script =
    subst (λ k. Works (process s) (IsOneOf (commit_calls s k)) (fault_of made) old new) (sym some)
    (publishing_works (process s) (last_stem s) o.size
    (subst (λ qs. MadeInTurn qs made old new) (λ i. publishing (who_is i) (x_is i) o.size) script))

pub close_works : (s mid : State) (o : Writing) → mid ≡ committed_state s → mid.current ≡ Some o → (who : Who) → who ≡ process mid
    → (x : Stem) → x ≡ last_stem mid → {made : Result (Unit {0}) OutsideFault} {old new : Option History} → MadeInTurn (closing who x) made old new
    → Works (process s) (IsOneOf (close_calls s s.current)) (fault_of made) old new
close_works s mid o mid_is some who who_is x x_is {made = made} {old = old} {new = new} script =
    go s.current (sym (ap (λ (m : State). m.current) mid_is) ∙ some)
  where
    same : MadeInTurn (closing (process s) (last_stem s)) made old new
    same = subst (λ qs. MadeInTurn qs made old new) ((λ i. closing (who_is i) (x_is i)) ∙ ap (λ m. closing (process m) (last_stem m)) mid_is) script

    go : (k : Option Writing) → option_map all_marked k ≡ Some o → Works (process s) (IsOneOf (close_calls s k)) (fault_of made) old new
    go None e = absurd (cc)
    go (Some w) e = closing_works (process s) (last_stem s) same

-- once it was committed, a close calls for the same
marked_closes : (s : State) (call : Deed) → OfClose (committed_state s) call → OfClose s call
marked_closes s call = go s.current
  where
    go : (k : Option Writing)
        → IsOneOf (commit_calls (committed_state s) (option_map all_marked k)) call
        ⊎ IsOneOf (close_calls (committed_state s) (option_map all_marked k)) call
        → IsOneOf (commit_calls s k) call ⊎ IsOneOf (close_calls s k) call
    go None one = one
    go (Some o) one = one

pub marked_works : (s mid : State) {f : Option OutsideFault} {old new : Option History} → mid ≡ committed_state s
    → Works (process mid) (OfClose mid) f old new → Works (process s) (OfClose s) f old new
marked_works s mid {f = f} {old = old} {new = new} is told =
    works_as (OfClose s) (marked_closes s) (subst (λ (m : State). Works (process m) (OfClose m) f old new) is told)

-- once others were settled, a tick closes the same
pub settled_works : (s mid : State) {f : Option OutsideFault} {old new : Option History} → mid ≡ settled_state s
    → Works (process mid) (OfClose mid) f old new → Works (process s) (OfClose s) f old new
settled_works s mid {f = f} {old = old} {new = new} is told = subst (λ (m : State). Works (process m) (OfClose m) f old new) is told

-- ---- a put

no_full : (k : Option Writing) → needs_next k ≡ false → is_some k ≡ true
no_full None e = absurd (true≢false e)
no_full (Some o) e = refl

-- where a sink is written to that isn't full, it goes there
pub current_puts : (s mid : State) {f : Option OutsideFault} {old new : Option History} → mid ≡ without_full s → is_some mid.current ≡ true
    → Works (process mid) (IsAppendTo (last_stem mid)) f old new → Works (process s) (OfPut s) f old new
current_puts s mid {f = f} {old = old} {new = new} mid_is some told = go (needs_next s.current) refl
  where
    go : (b : Bool) → needs_next s.current ≡ b → Works (process s) (OfPut s) f old new
    go true e =
        absurd (true≢false (sym some ∙ ap (λ (m : State). is_some m.current) (mid_is ∙ ap (λ b. if b then let_go s else s) e)))
    go false e =
        works_as (OfPut s) (λ call one. subst (λ b. MatchBool b (IsMaking (next_stem s) call) (IsAppendTo (last_stem s) call)) (sym e) one)
        (subst (λ (m : State). Works (process m) (IsAppendTo (last_stem m)) f old new) (mid_is ∙ ap (λ b. if b then let_go s else s) e) told)

-- and else into the next one
pub next_puts : (s mid : State) {f : Option OutsideFault} {old new : Option History} → mid ≡ without_full s → is_some mid.current ≡ false
    → Works (process mid) (IsMaking (next_stem mid)) f old new → Works (process s) (OfPut s) f old new
next_puts s mid {f = f} {old = old} {new = new} mid_is none told = go (needs_next s.current) refl
  where
    go : (b : Bool) → needs_next s.current ≡ b → Works (process s) (OfPut s) f old new
    go false e =
        absurd (true≢false (sym (no_full s.current e)
        ∙ (sym (ap (λ (m : State). is_some m.current) (mid_is ∙ ap (λ b. if b then let_go s else s) e)) ∙ none)))
    go true e =
        works_as (OfPut s) (λ call one. subst (λ b. MatchBool b (IsMaking (next_stem s) call) (IsAppendTo (last_stem s) call)) (sym e) one)
        (subst (λ (m : State). Works (process m) (IsMaking (next_stem m)) f old new) (mid_is ∙ ap (λ b. if b then let_go s else s) e) told)

-- ---- a start

pub reads_works : (who : Who) (name : List ℕ) (result : Result (Option ℕ) OutsideFault) {old new : Option History} → name ≡ spell (BornFile who.name)
    → ReadsNumber who name result old new → Works who (OfLook who.name) (fault_of result) old new
reads_works who name (Ok number) named r =
    taken_works (asked who Read (name ∷ []) 0 9) bytes_given r.given r.came.taken (λ v. tt) (named, refl, refl) r.came.is_taken r.told
reads_works who name (Err fault) named r =
    call_ends (asked who Read (name ∷ []) 0 9) bytes_given r.given fault (named, refl, refl) r.came r.told

pub publish_works : (who : Who) (w : List ℕ) (born : ℕ) (result : Result (Unit {0}) OutsideFault) {old new : Option History} → w ≡ spell (BornFile who.name)
    → MadeInTurn (replacement who w (be64 born)) result old new → Works who (OfPublishing who) (fault_of result) old new
publish_works who w born result {old = old} {new = new} named script =
    works_as (OfPublishing who) (λ call one. inr (born, one))
    (script_works who (replacement who (spell (BornFile who.name)) (be64 born)) (refl, (refl, (refl, (refl, (refl, tt)))))
    (subst (λ n. MadeInTurn (replacement who n (be64 born)) result old new) named script))

pub settle_starts : (who : Who) (born rotate : ℕ) (s : State) {f : Option OutsideFault} {old new : Option History} → who.role ≡ Collector
    → s ≡ first_state who born rotate → Works (process s) (OfSettling s) f old new → Works who (OfStart who) f old new
settle_starts who born rotate s {f = f} {old = old} {new = new} role is told =
    subst (λ k. Works k (OfStart who) f old new) (sym (the_collector who who.name role refl))
    (works_as (OfStart who) wider (subst (λ (m : State). Works (process m) (OfSettling m) f old new) is told))
  where
    wider : (call : Deed) → OfSettling (first_state who born rotate) call → OfStart who call
    wider call (inl listing) = inr (inl listing)
    wider call (inr left) = inr (inr (left.0, left.1.own, left.2))

-- ---- what they show

-- the call creates, appends, syncs, renames or removes
abbrev pub writes : Deed → Bool
writes (Creates w) = true
writes (Appends w piece) = true
writes (Syncs w) = true
writes (Renames from to) = true
writes (Removes w) = true
writes call = false

-- such a call shows no damage, reads nothing, and lists nothing
abbrev pub Writes : Deed → Type 0
Writes call = writes call ≡ true

pub writes_silent : (call : Deed) → Writes call → IsSilent damage call
writes_silent (Reads w at max) e answer = absurd (true≢false (sym e))
writes_silent (Cuts w n) e answer = absurd (true≢false (sym e))
writes_silent call e answer = refl

pub writes_cause : {T : Type 0} {who : Who} {P : Deed → Type 0} (result : Result T SinkFault) {old new : Option History}
    → ((call : Deed) → P call → Writes call) → IfErr result IsOutside → Made who P result old new → Adds old new (DamageCause result)
writes_cause result all only own = silent_cause result (λ call may. writes_silent call (all call may)) only own

pub writes_unread : (call : Deed) → Writes call → IsSilent last call
writes_unread (Reads w at max) e answer = absurd (true≢false (sym e))
writes_unread call e answer = refl

none_listed : (who : Who) {P : Deed → Type 0} → ((call : Deed) → P call → Writes call) → (added history : History)
    → Owns (Asks who P) added history → Every IsNoListing added history
none_listed who all [] history own = tt
none_listed who all (step ∷ added) history own = (
  none_listed who all added history own.0,
  λ folder mine lists. absurd (true≢false (sym (all (deed step.act) (own.1 mine).allowed) ∙ ap writes lists)),
)

pub writes_unlisted : {who : Who} {P : Deed → Type 0} {f : Option OutsideFault} {old new : Option History}
    → ((call : Deed) → P call → Writes call) → Works who P f old new → Adds old new (Every IsNoListing)
writes_unlisted {who = who} all own = adds_as (Every IsNoListing) (works_own own) (none_listed who all)

-- the calls of a script
abbrev AllWrite : List Asked → Type 0
AllWrite [] = Unit {0}
AllWrite (q ∷ qs) = Writes (deed_of q) × AllWrite qs

one_writes : (qs : List Asked) → AllWrite qs → (call : Deed) → IsOneOf qs call → Writes call
one_writes [] all call one = absurd one
one_writes (q ∷ qs) all call (inl e) = subst Writes (sym e) all.0
one_writes (q ∷ qs) all call (inr one) = one_writes qs all.1 call one

pub replaced_writes : (who : Who) (w bytes : List ℕ) {result : Result (Unit {0}) OutsideFault} {old new : Option History}
    → MadeInTurn (replacement who w bytes) result old new → Works who Writes (fault_of result) old new
replaced_writes who w bytes script =
    works_as Writes (one_writes (replacement who w bytes) (refl, (refl, (refl, (refl, (refl, tt))))))
    (script_works who (replacement who w bytes) (refl, (refl, (refl, (refl, (refl, tt))))) script)

pub commit_writes : (s : State) (call : Deed) → OfCommit s call → Writes call
commit_writes s call = go s.current
  where
    go : (k : Option Writing) → IsOneOf (commit_calls s k) call → Writes call
    go None one = absurd one
    go (Some o) one =
        one_writes (publishing (process s) (last_stem s) o.size) (refl, (refl, (refl, (refl, (refl, (refl, tt)))))) call one

pub close_writes : (s : State) (call : Deed) → OfClose s call → Writes call
close_writes s call (inl one) = commit_writes s call one
close_writes s call (inr one) = go s.current one
  where
    go : (k : Option Writing) → IsOneOf (close_calls s k) call → Writes call
    go None one = absurd one
    go (Some o) one = one_writes (closing (process s) (last_stem s)) (refl, (refl, tt)) call one

append_writes : (x : Stem) (call : Deed) → IsAppendTo x call → Writes call
append_writes x (Appends w piece) is = refl
append_writes x call is = absurd is

making_writes : (x : Stem) (call : Deed) → IsMaking x call → Writes call
making_writes x (Creates w) is = refl
making_writes x (Appends w piece) is = refl
making_writes x call is = absurd is

-- a put shows no damage
pub put_harmless : (s : State) (call : Deed) → OfPut s call → (answer : ActAnswer) → damage_by true call answer ≡ None
put_harmless s call may = writes_silent call (go (needs_next s.current) may)
  where
    go : (b : Bool) → MatchBool b (IsMaking (next_stem s) call) (IsAppendTo (last_stem s) call) → Writes call
    go true may = making_writes (next_stem s) call may
    go false may = append_writes (last_stem s) call may

pub works_harmless : {who : Who} {P : Deed → Type 0} {f : Option OutsideFault} {old new : Option History}
    → ((call : Deed) → P call → (answer : ActAnswer) → damage_by true call answer ≡ None) → Works who P f old new
    → Adds old new (λ added history. damage_in added ≡ None)
works_harmless none own = works_silent damage none own

-- a settling reads marks alone
left_unread : (x : Stem) → IsTrue (is_stem x) → (call : Deed) → OfLeft x call → IsSilent last call
left_unread x good (Reads w at max) is (Done (bytes ∷ words) number of) = rw (ap read is.0 ∙ read-spell (MarkFile x) good) refl
left_unread x good (Reads w at max) is answer = refl
left_unread x good call is answer = refl

pub settling_unread : (s : State) (call : Deed) → OfSettling s call → IsSilent last call
settling_unread s call (inl listing) = subst (IsSilent last) (sym listing) (λ answer. refl)
settling_unread s call (inr left) = left_unread left.0 left.1.stem call left.2
