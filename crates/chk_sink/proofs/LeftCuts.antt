-- The reading of a left sink's mark, its cut to it, and its closing.
use Rattle.std.proofs.Common.{◌≡◌, inl, inr, ℕ, ◌≤◌, ◌<◌, Bool, true, min, List, [], ◌∷◌, length, length-take, Option, Some, None, option_map, Result, Ok, Err, ap, sym, subst, ◌∙◌, refl, arith, true≢false}
use Rattle.std.proofs.lemmas.Bool.{and_from}
use Rattle.chk_bytes.specs.Numbers.{spelled, limit}
use Rattle.chk_bytes.specs.Stems.{Stem}
use Rattle.chk_site.specs.declared.acts.Call.TheVariants.{Read, Rename, Cut}
use Rattle.chk_site.specs.declared.acts.CallFault.{CallFault}
use Rattle.chk_site.specs.declared.acts.CallFault.TheVariants.{Missing, Exists, Short}
use Rattle.chk_site.specs.declared.acts.ActAnswer.{ActAnswer}
use Rattle.chk_site.specs.declared.acts.ActAnswer.TheVariants.{Done, Refused}
use Rattle.chk_site.specs.Files.{File, shortened}
use Rattle.chk_site.specs.Acts.{Renames, Cuts, Reads, is_done}
use Rattle.chk_site.specs.History.{History, files_after}
use Rattle.chk_site.specs.Honest.{AtRead, AtCut}
use Rattle.chk_site.specs.Site.{Acted, Took, Adds, Asked, asked, own_step, answered, plain, bytes_given, Calls, IsDone, IsTaken, WasDone, WasRefused}
use Rattle.chk_site.specs.Runs.{Leads}
use Rattle.chk_site.proofs.Runs.{adds_as, ran}
use Rattle.chk_site.proofs.Leads.{acted_leads, call_owned}
use Rattle.chk_world.specs.Names.{Name, SinkFile, MarkFile, DoneFile, read, spell, file}
use Rattle.chk_world.specs.Committed.{OnFile, HasFile, committed_of, committed_length}
use Rattle.chk_world.specs.Collectors.{MayCut, IsCommitted}
use Rattle.chk_world.specs.Rules.{Legal}
use Rattle.chk_world.specs.Laws.{Shape, IsMark, IsOpenSink, wrote}
use Rattle.chk_world.specs.Places.{As, AtTold}
use Rattle.chk_world.proofs.Ends.{bytes_self}
use Rattle.chk_world.proofs.Law.{shape}
use Rattle.chk_world.proofs.NameLemmas.{read-spell}
use Rattle.chk_world.proofs.NameTests.{stem_self, moved_named}
use Rattle.chk_world.proofs.OwnFiles.{done_file, done_present, refused_file, looked_file}
use Rattle.chk_world.proofs.ToldCalls.{GoesOn, MayCall, LeavesCall, goes_on_done, owned, told_keeps, told_shows, told_done, told_taken, told_ok}
use Rattle.chk_world.proofs.CollectorCalls.{collector_rule}
use Rattle.chk_sink.specs.States.{State, process}
use Rattle.chk_sink.specs.Held.{Holds, Matches}
use Rattle.chk_sink.specs.Damage.{is_number_from}
use Rattle.chk_sink.specs.Settling.{HoldsAt, AnyFiles, NoMark, MarkedBy, CutAt, NoSink}
use Rattle.chk_sink.proofs.NumberBytes.{read_whole, number_good, refused_done, missing_read}
use Rattle.chk_sink.proofs.Holding.{absent_as, changed_by}
use Rattle.chk_sink.proofs.Touching.{reads_mark, cuts_sink, closes, holds_on, at_on}
use Rattle.chk_sink.proofs.LeftCalls.{IsLeft, at_stays, told_any}

-- ---- the reading of the mark

-- what was read of a mark is a number that may stand there, and all of the file
read_is : (bytes : List ℕ) (o : Option File) → AtRead (bytes_given bytes) 0 9 o → OnFile o IsMark
    → (is_number_from 96 bytes ≡ true) × HasFile o (λ m. spelled m.bytes ≡ spelled bytes)
read_is bytes None a m = absurd a
read_is bytes (Some f) a m =
    let size : length f.bytes ≡ 8 = m.0.1 in
    let is : bytes ≡ f.bytes = read_whole bytes f a.1 size in (
      number_good 96 bytes (ap length is ∙ size) (subst (λ b. 96 ≤ spelled b) (sym is) m.1) (subst (λ b. spelled b < limit) (sym is) m.0.2),
      sym (ap spelled is),
    )

module _ (stamped : List (List ℕ)) (s : State) (may : Stem → Bool) (x : Stem) (left : IsLeft s x) (w : List ℕ) (w_is : w ≡ spell (MarkFile x)) where
  abbrev R : Asked
  R = asked (process s) Read (w ∷ []) 0 9

  abbrev A : History → Type 0
  A = HoldsAt s may x AnyFiles

  read_may : MayCall stamped R left.named A
  read_may before answer files logs legal h = record {
    own_files = tt;
    logs = tt;
    requests = tt;
    rule = collector_rule stamped (process s) before (own_step R answer files logs) (Reads w 0 9) refl refl refl tt;
  }

  read_any : LeavesCall stamped R left.named A GoesOn (Holds s)
  read_any before answer files logs goes legal h =
      holds_on s x left.good left.other left.abandoned before (own_step R answer files logs) refl goes legal.1.honest (reads_mark w 0 9) h.holds

  none_leaves : LeavesCall stamped R left.named A WasRefused (HoldsAt s may x NoMark)
  none_leaves before answer files logs refused legal h =
      at_on s x left.good left.other left.abandoned before (own_step R answer files logs) refl (goes_on_done answer (refused_done answer refused)) legal.1.honest
      (reads_mark w 0 9) may AnyFiles NoMark h
      (absent_as None _
      (looked_file before (own_step R answer files logs) (MarkFile x) legal.1.honest refl (refused_done answer refused)
      ∙ (ap (files_after before) (sym w_is) ∙ missing_read answer 9 (files_after before w) refused legal.1.honest.agrees)) tt)

  -- what holds where this was taken
  abbrev pub MarkTaken : Option (List ℕ) → History → Type 0
  MarkTaken None history = HoldsAt s may x NoMark history
  MarkTaken (Some bytes) history = (is_number_from 96 bytes ≡ true) × HoldsAt s may x (MarkedBy (spelled bytes)) history

  mark_leaves : (taken : Option (List ℕ)) → LeavesCall stamped R left.named A (Took bytes_given taken) (MarkTaken taken)
  mark_leaves None before answer files logs took legal h = none_leaves before answer files logs took legal h
  mark_leaves (Some bytes) before answer files logs took legal h =
      let is = read_is bytes (file (files_after before) (MarkFile x)) (rw (ap (files_after before) w_is, took) at legal.1.honest.agrees)
      (shape stamped before legal.0 x left.other.stem).mark in (
        is.0,
        at_on s x left.good left.other left.abandoned before (own_step R answer files logs) refl (subst GoesOn (sym took) tt) legal.1.honest
            (reads_mark w 0 9) may AnyFiles (MarkedBy (spelled bytes)) h
            (subst (λ o. HasFile o (λ m. spelled m.bytes ≡ spelled bytes))
            (sym (looked_file before (own_step R answer files logs) (MarkFile x) legal.1.honest refl (subst WasDone (sym took) tt))) is.1),
      )

  -- something was read of it, or there is none
  pub mark_taken : (given : Result (List ℕ) CallFault) (taken : Option (List ℕ)) {old new : Option History} → IsTaken given taken
      → Adds old new (Calls R (answered bytes_given given))
      → Adds old new (Leads (As stamped (process s)) (AtTold stamped (process s) A) (AtTold stamped (process s) (MarkTaken taken)))
  mark_taken given taken is told =
      told_taken stamped R left.named A (MarkTaken taken) bytes_given given taken (at_stays stamped s may x AnyFiles left) read_may (λ b. tt)
      (mark_leaves taken) is told

  -- whatever it answered
  pub mark_asked : (given : Result (List ℕ) CallFault) {old new : Option History} → Adds old new (Calls R (answered bytes_given given))
      → Adds old new (Leads (As stamped (process s)) (AtTold stamped (process s) A) (Matches stamped s))
  mark_asked given told =
      told_any stamped R left.named A (Holds s) bytes_given given (at_stays stamped s may x AnyFiles left) read_may (λ b. tt) read_any (λ h y. y.holds) told

-- ---- the cut

marked_number : (n : ℕ) (mark : Option File) → HasFile mark (λ m. spelled m.bytes ≡ n) → OnFile mark IsMark → 96 ≤ n
marked_number n None h m = absurd h
marked_number n (Some f) h m = subst (λ k. 96 ≤ k) h m.1

marked_committed : (n : ℕ) (done mark : Option File) → HasFile mark (λ m. spelled m.bytes ≡ n)
    → OnFile mark (λ m. OnFile done (λ d. spelled m.bytes ≡ length d.bytes)) → committed_of done mark ≡ n
marked_committed n None None h same = absurd h
marked_committed n None (Some m) h same = h
marked_committed n (Some d) None h same = absurd h
marked_committed n (Some d) (Some m) h same = sym same ∙ h

marked_within : (n : ℕ) (mark sink : Option File) (f : File) → sink ≡ Some f → HasFile mark (λ m. spelled m.bytes ≡ n)
    → OnFile mark (λ m. OnFile sink (λ f. spelled m.bytes ≤ length f.bytes)) → n ≤ length f.bytes
marked_within n None sink f is h w = absurd h
marked_within n (Some m) sink f is h w =
    subst (λ k. k ≤ length f.bytes) h (subst (λ o. OnFile o (λ f. spelled m.bytes ≤ length f.bytes)) is w)

safe_cut : (written : List ℕ) (n committed : ℕ) (f : File) → committed ≡ n → 96 ≤ n → n ≤ length f.bytes → IsOpenSink written committed f
    → IsCommitted n (shortened n f)
safe_cut written n committed f e some fits (inl none) = let z : ⊥ = omega (arith, none, e, some) in absurd z
safe_cut written n committed f e some fits (inr safe) =
    let synced : committed ≤ f.synced = safe.synced in
    (length-take n f.bytes ∙ smaller n (length f.bytes) fits, smaller n f.synced (omega (arith, synced, e)))
  where
    smaller : (a b : ℕ) → a ≤ b → min a b ≡ a
    smaller a b h = omega (arith, h)

-- what a cut to the mark comes to
data CutCame (answer : ActAnswer) (o : Option File) : Type 0 where
  was_cut : is_done answer ≡ true → (f : File) → o ≡ Some f → CutCame answer o
  no_file : answer ≡ Refused Missing → o ≡ None → CutCame answer o
  too_short : (size : ℕ) → answer ≡ Refused (Short size) → CutCame answer o

cut_came : (answer : ActAnswer) (n : ℕ) (o : Option File) → WasDone answer → AtCut answer n o → CutCame answer o
cut_came (Done words number of) n None was a = absurd a
cut_came (Done words number of) n (Some f) was a = was_cut refl f refl
cut_came (Refused Missing) n o was a = no_file refl a
cut_came (Refused Exists) n o was a = absurd a
cut_came (Refused (Short size)) n o was a = too_short size refl
cut_came answer n o was a = absurd was

short_file : (n size : ℕ) (o : Option File) → AtCut (Refused (Short size)) n o → (f : File) × (o ≡ Some f) × (length f.bytes < n)
short_file n size None a = absurd a
short_file n size (Some f) a = (f, refl, a.0)

module _ (stamped : List (List ℕ)) (s : State) (may : Stem → Bool) (x : Stem) (left : IsLeft s x) (w : List ℕ) (w_is : w ≡ spell (SinkFile x)) (n : ℕ) where
  abbrev C : Asked
  C = asked (process s) Cut (w ∷ []) n 0

  abbrev M : History → Type 0
  M = HoldsAt s may x (MarkedBy n)

  reads : read w ≡ SinkFile x
  reads = ap read w_is ∙ read-spell (SinkFile x) left.other.stem

  cut_may : MayCall stamped C left.named M
  cut_may before answer files logs legal h = record {
    own_files = rw (reads, left.other.own) (and_from _ _ (bytes_self s.collector) refl);
    logs = tt;
    requests = tt;
    rule = collector_rule stamped (process s) before (own_step C answer files logs) (Cuts w n) refl refl refl
        (subst (λ m. MayCut (files_after before) m n) (sym reads) h.there);
  }

  cut_any : LeavesCall stamped C left.named M GoesOn (Holds s)
  cut_any before answer files logs goes legal h =
      holds_on s x left.good left.other left.abandoned before (own_step C answer files logs) refl goes legal.1.honest (cuts_sink w n reads) h.holds

  shaped : (before : History) → Legal stamped before → Shape before x
  shaped before legal = shape stamped before legal x left.other.stem

  -- the sink is as long as its mark says
  fits : (before : History) → Legal stamped before → M before → (f : File) → file (files_after before) (SinkFile x) ≡ Some f → n ≤ length f.bytes
  fits before legal h f is =
      marked_within n (file (files_after before) (MarkFile x)) (file (files_after before) (SinkFile x)) f is h.there (shaped before legal).mark_within

  cut_whole : (before : History) → Legal stamped before → M before → (f : File) → file (files_after before) (SinkFile x) ≡ Some f → IsCommitted n (shortened n f)
  cut_whole before legal h f is =
      let sh = shaped before legal in
      safe_cut (wrote x before) n (committed_length (files_after before) x) f
      (marked_committed n (file (files_after before) (DoneFile x)) (file (files_after before) (MarkFile x)) h.there sh.mark_of_done)
      (marked_number n (file (files_after before) (MarkFile x)) h.there sh.mark) (fits before legal h f is)
      (subst (λ o. OnFile o (IsOpenSink (wrote x before) (committed_length (files_after before) x))) is sh.under_writing)

  done_leaves : LeavesCall stamped C left.named M (λ a. a ≡ plain (tt {0})) (HoldsAt s may x (CutAt n))
  done_leaves before answer files logs is legal h =
      at_on s x left.good left.other left.abandoned before (own_step C answer files logs) refl (subst GoesOn (sym is) tt) legal.1.honest
      (cuts_sink w n reads) may (MarkedBy n) (CutAt n) h
      (by (cut_came answer n (files_after before w) (subst WasDone (sym is) tt) legal.1.honest.agrees))
    where
      done : is_done answer ≡ true
      done = ap is_done is

      by : CutCame answer (files_after before w) → CutAt n (file files (SinkFile x)) (file files (MarkFile x))
      by (was_cut d f there) =
          let sink : file (files_after before) (SinkFile x) ≡ Some f = ap (files_after before) (sym w_is) ∙ there in
          let on = changed_by (SinkFile x) w w_is left.other.stem (option_map (shortened n)) (files_after before) files
          (λ m k. done_file before _ m legal.1.honest done k) in (
            subst (λ o. HasFile o (λ m. spelled m.bytes ≡ n)) (sym (on.others (MarkFile x) left.other.stem refl)) h.there,
            subst (λ o. HasFile o (IsCommitted n)) (sym (on.there ∙ ap (option_map (shortened n)) sink)) (cut_whole before legal.0 h f sink),
          )
      by (no_file e none) = absurd (true≢false (sym done ∙ ap is_done e))
      by (too_short size e) = absurd (true≢false (sym done ∙ ap is_done e))

  missing_leaves : LeavesCall stamped C left.named M (λ a. a ≡ Refused Missing) (HoldsAt s may x NoSink)
  missing_leaves before answer files logs is legal h =
      at_on s x left.good left.other left.abandoned before (own_step C answer files logs) refl (subst GoesOn (sym is) tt) legal.1.honest
      (cuts_sink w n reads) may (MarkedBy n) NoSink h
      (absent_as None _
      (refused_file before (own_step C answer files logs) (SinkFile x) legal.1.honest (subst WasDone (sym is) tt) (ap is_done is)
      ∙ (ap (files_after before) (sym w_is) ∙ subst (λ a. AtCut a n (files_after before w)) is legal.1.honest.agrees)) tt)

  short_leaves : (size : ℕ) → LeavesCall stamped C left.named M (λ a. a ≡ Refused (Short size)) (λ h. ⊥)
  short_leaves size before answer files logs is legal h =
      let f = short_file n size (files_after before w) (subst (λ a. AtCut a n (files_after before w)) is legal.1.honest.agrees) in
      let short : length f.0.bytes < n = f.2 in
      let within : n ≤ length f.0.bytes = fits before legal.0 h f.0 (ap (files_after before) (sym w_is) ∙ f.1) in
      omega (arith, short, within)

  -- it was cut
  pub cut_done : (given : Result (Unit {0}) CallFault) (v : Unit {0}) → given ≡ Ok v → {old new : Option History} → Adds old new (Calls C (answered plain given))
      → Adds old new (Leads (As stamped (process s)) (AtTold stamped (process s) M) (AtTold stamped (process s) (HoldsAt s may x (CutAt n))))
  cut_done given v gave {old = old} {new = new} told =
      told_ok stamped C left.named M (HoldsAt s may x (CutAt n)) (plain (tt {0})) (at_stays stamped s may x (MarkedBy n) left) cut_may tt done_leaves
      (subst (λ g. Adds old new (Calls C (answered plain g))) gave told)

  -- it was refused so
  cut_refused : (fault : CallFault) (C' : History → Type 0) {old new : Option History} → LeavesCall stamped C left.named M (λ a. a ≡ Refused fault) C'
      → ((added history : History) → Calls C (Err fault) added history → Acted C (Refused fault) added history) → Adds old new (Calls C (Err fault))
      → Adds old new (Leads (As stamped (process s)) (AtTold stamped (process s) M) (AtTold stamped (process s) C'))
  cut_refused fault C' leaves acts told =
      adds_as (Leads (As stamped (process s)) (AtTold stamped (process s) M) (AtTold stamped (process s) C')) told
      (λ added history calls. record {
        leads = acted_leads (AtTold stamped (process s) C') (told_keeps stamped C left.named M (at_stays stamped s may x (MarkedBy n) left))
            (told_shows stamped C left.named M C' (λ a. a ≡ Refused fault) (Refused fault) tt refl cut_may leaves) (acts added history calls);
        own = call_owned (As stamped (process s)).own (Err fault) (owned stamped C left.named) calls;
      })

  -- there is no sink
  pub cut_missed : (given : Result (Unit {0}) CallFault) → given ≡ Err Missing → {old new : Option History} → Adds old new (Calls C (answered plain given))
      → Adds old new (Leads (As stamped (process s)) (AtTold stamped (process s) M) (AtTold stamped (process s) (HoldsAt s may x NoSink)))
  cut_missed given gave told =
      cut_refused Missing (HoldsAt s may x NoSink) missing_leaves (λ a h calls. ran (Err Missing) (λ e. cc) calls) (rw gave at told)

  -- it is never shorter than its mark
  pub cut_short : (given : Result (Unit {0}) CallFault) (size : ℕ) → given ≡ Err (Short size) → {old new : Option History}
      → Adds old new (Calls C (answered plain given))
      → Adds old new (Leads (As stamped (process s)) (AtTold stamped (process s) M) (AtTold stamped (process s) (λ h. ⊥)))
  cut_short given size gave told =
      cut_refused (Short size) (λ h. ⊥) (short_leaves size) (λ a h calls. ran (Err (Short size)) (λ e. cc) calls) (rw gave at told)

  -- whatever it answered
  pub cut_tried : (given : Result (Unit {0}) CallFault) {old new : Option History} → Adds old new (Calls C (answered plain given))
      → Adds old new (Leads (As stamped (process s)) (AtTold stamped (process s) M) (Matches stamped s))
  cut_tried given told =
      told_any stamped C left.named M (Holds s) plain given (at_stays stamped s may x (MarkedBy n) left) cut_may (λ v. tt) cut_any (λ h y. y.holds) told

-- ---- the closing

there_is : (o : Option File) (P : File → Type 0) → HasFile o P → (f : File) × (o ≡ Some f)
there_is None P h = absurd h
there_is (Some f) P h = (f, refl)

marked_file : (n : ℕ) (sink mark : Option File) → HasFile mark (λ m. spelled m.bytes ≡ n) → HasFile sink (IsCommitted n)
    → OnFile sink (λ f. HasFile mark (λ m. IsCommitted (spelled m.bytes) f))
marked_file n None mark h c = tt
marked_file n (Some f) None h c = absurd h
marked_file n (Some f) (Some m) h c = subst (λ k. IsCommitted k f) (sym h) c

module _ (stamped : List (List ℕ)) (s : State) (may : Stem → Bool) (x : Stem) (left : IsLeft s x) (w v : List ℕ) (w_is : w ≡ spell (SinkFile x))
    (v_is : v ≡ spell (DoneFile x)) (n : ℕ) where
  abbrev N : Asked
  N = asked (process s) Rename (w ∷ v ∷ []) 0 0

  abbrev K : History → Type 0
  K = HoldsAt s may x (CutAt n)

  reads_old : read w ≡ SinkFile x
  reads_old = ap read w_is ∙ read-spell (SinkFile x) left.other.stem

  reads_new : read v ≡ DoneFile x
  reads_new = ap read v_is ∙ read-spell (DoneFile x) left.other.stem

  close_may : MayCall stamped N left.named K
  close_may before answer files logs legal h = record {
    own_files = (
      rw (reads_old, reads_new, left.other.own) (and_from _ _ (bytes_self s.collector) (bytes_self s.collector)),
      rw (reads_old, reads_new) refl,
    );
    logs = tt;
    requests = tt;
    rule = collector_rule stamped (process s) before (own_step N answer files logs) (Renames w v) refl refl refl
        (rw (reads_old, reads_new)
        (refl, marked_file n (file (files_after before) (SinkFile x)) (file (files_after before) (MarkFile x)) h.there.0 h.there.1));
  }

  close_any : LeavesCall stamped N left.named K GoesOn (Holds s)
  close_any before answer files logs goes legal h =
      holds_on s x left.good left.other left.abandoned before (own_step N answer files logs) refl goes legal.1.honest
      (closes w v reads_old reads_new) h.holds

  close_leaves : LeavesCall stamped N left.named K WasDone (HoldsAt s may x NoSink)
  close_leaves before answer files logs was legal h =
      let f = there_is (file (files_after before) (SinkFile x)) (IsCommitted n) h.there.1 in
      let done = done_present answer (files_after before w) was legal.1.honest.agrees f.0 (ap (files_after before) w_is ∙ f.1) in
      at_on s x left.good left.other left.abandoned before (own_step N answer files logs) refl (goes_on_done answer was) legal.1.honest
      (closes w v reads_old reads_new) may (CutAt n) NoSink h
      (absent_as None _
      (done_file before (own_step N answer files logs) (SinkFile x) legal.1.honest done left.other.stem ∙ moved_on (file (files_after before)) f.0 f.1) tt)
    where
      moved_on : (all : Name → Option File) (f : File) → all (SinkFile x) ≡ Some f → moved_named (all (read w)) (read w) (read v) all (SinkFile x) ≡ None
      moved_on all f e = rw (reads_old, reads_new, e, stem_self x) refl

  -- it was closed
  pub close_done : (given : Result (Unit {0}) CallFault) {old new : Option History} → IsDone given → Adds old new (Calls N (answered plain given))
      → Adds old new (Leads (As stamped (process s)) (AtTold stamped (process s) K) (AtTold stamped (process s) (HoldsAt s may x NoSink)))
  close_done given is told =
      told_done stamped N left.named K (HoldsAt s may x NoSink) given (at_stays stamped s may x (CutAt n) left) close_may close_leaves is told

  -- whatever it answered
  pub close_tried : (given : Result (Unit {0}) CallFault) {old new : Option History} → Adds old new (Calls N (answered plain given))
      → Adds old new (Leads (As stamped (process s)) (AtTold stamped (process s) K) (Matches stamped s))
  close_tried given told =
      told_any stamped N left.named K (Holds s) plain given (at_stays stamped s may x (CutAt n) left) close_may (λ v. tt) close_any (λ h y. y.holds) told
