-- A legal step of a sink's own collector keeps the invariant.
use Rattle.std.proofs.Common.{◌≡◌, ℕ, ◌≤◌, Bool, true, false, ◌&&◌, List, [], ◌++◌, is_some, is_none, Option, Some, None, ap, sym, subst, ◌∙◌, arith, if◌then◌else◌, refl, append-nil, true≢false}
use Rattle.std.specs.Prelude.{IsTrue}
use Rattle.std.proofs.lemmas.Bool.{and_parts}
use Rattle.std.proofs.lemmas.Option.{none-some}
use Rattle.chk_bytes.specs.Stems.{Stem, is_stem, is_collector, same_stem}
use Rattle.chk_site.specs.declared.acts.ActAnswer.{ActAnswer}
use Rattle.chk_site.specs.declared.acts.ActAnswer.TheVariants.{Done, Refused, Stopped, Rotated, Deleted}
use Rattle.chk_site.specs.Files.{File, Files, Change, Created, Grown, Secured, Moved, Gone, Shortened, changed}
use Rattle.chk_site.specs.Acts.{Deed, Starts, ReadsLog, AsksNewest, GrowsLog, Creates, Appends, Syncs, Renames, Removes, Cuts, AsksSize, Reads, Lists, AsksClock, Pauses, Sends, Gets, Takes, TakesMore, Answers, Says, change_of, is_done}
use Rattle.chk_site.specs.History.{History, files_after}
use Rattle.chk_world.specs.Names.{Name, BornFile, SinkFile, MarkFile, DoneFile, Temporary, read, spell, file, is_known, owns}
use Rattle.chk_world.specs.Committed.{number_in}
use Rattle.chk_world.specs.Collectors.{View, Current, CollectorRule, own_view, born_after, is_born_file, still, appended_to, created, sink_of, next_mark_of, size_in, made_by, went_well, concern, AppendsOnlyToCleanSink}
use Rattle.chk_world.specs.Rules.{Framed}
use Rattle.chk_world.specs.Laws.{collector, written_by}
use Rattle.chk_world.proofs.Ends.{bytes_same}
use Rattle.chk_world.proofs.NameLemmas.{spell-read}
use Rattle.chk_world.proofs.NameTests.{Named, named, applied, bridge}
use Rattle.chk_world.proofs.Outcomes.{CameTo, whole, nothing, junk}
use Rattle.chk_world.proofs.Invariant.{Seen, weaker, still_less}
use Rattle.chk_world.proofs.Own.{InvAt, seen, create_at, append_at, spoil_at, sync_at, cut_at, remove_at, rename_at}

-- the names of a sink's files are the program's
pub record Known (x : Stem) : Type 0 where
  pub stem : IsTrue (is_stem x)
  pub collector : IsTrue (is_collector x.collector)

pub known_stem : (x : Stem) → IsTrue (is_stem x) → Known x
known_stem x h = record { stem = h; collector = (and_parts (is_collector x.collector) _ h).0 }

-- the invariant sees four files
pub at_same : (x : Stem) (s : Seen) (a b : Named) → a (SinkFile x) ≡ b (SinkFile x) → a (MarkFile x) ≡ b (MarkFile x)
    → a (DoneFile x) ≡ b (DoneFile x) → a (BornFile x.collector) ≡ b (BornFile x.collector) → InvAt x s b → InvAt x s a
at_same x s a b p q r t inv = rw (p, q, r, t) inv

-- after a change, by names
pub at_change : (x : Stem) (known : Known x) (s : Seen) (did : Change) (before after : Files)
    → ((w : List ℕ) → after w ≡ changed did before w) → InvAt x s (applied (named did) (λ n. file before n)) → InvAt x s (λ n. file after n)
at_change x known s did before after e inv =
    at_same x s (λ n. file after n) (applied (named did) (λ n. file before n))
    (e (spell (SinkFile x)) ∙ bridge did before (SinkFile x) known.stem)
    (e (spell (MarkFile x)) ∙ bridge did before (MarkFile x) known.stem)
    (e (spell (DoneFile x)) ∙ bridge did before (DoneFile x) known.stem)
    (e (spell (BornFile x.collector)) ∙ bridge did before (BornFile x.collector) known.collector) inv

pub at_nothing : (x : Stem) (s : Seen) (before after : Files) → ((w : List ℕ) → after w ≡ before w) → InvAt x s (λ n. file before n) → InvAt x s (λ n. file after n)
at_nothing x s before after e inv =
    at_same x s (λ n. file after n) (λ n. file before n) (e (spell (SinkFile x))) (e (spell (MarkFile x))) (e (spell (DoneFile x))) (e (spell (BornFile x.collector))) inv

module _ (x : Stem) (known : Known x) (v : View) (wr : List ℕ) (before after : Files) where
  abbrev Before : Type 0
  Before = InvAt x (seen v wr) (λ n. file before n)

  -- what is known after the call, and what stands in the files
  abbrev pub After : Deed → ActAnswer → Type 0
  After call answer = InvAt x (seen (own_view before after v call answer) (wr ++ written_by x call answer)) (λ n. file after n)

  unwritten : (s : Seen) (call : Deed) (answer : ActAnswer) → written_by x call answer ≡ [] → s.wrote ≡ wr
      → InvAt x s (λ n. file after n) → InvAt x (record { born = s.born; made = s.made; current = s.current; wrote = wr ++ written_by x call answer }) (λ n. file after n)
  unwritten s call answer none same inv = weaker x (record { born = s.born; made = s.made; current = s.current; wrote = wr ++ written_by x call answer }) s
      (file after (SinkFile x)) (file after (MarkFile x)) (file after (DoneFile x)) (file after (BornFile x.collector))
      (record { born = λ b e. e; made = λ b e. omega arith; current = λ c e. e; wrote = ap (λ l. wr ++ l) none ∙ append-nil wr ∙ sym same }) inv

  -- a call that changes no file
  looks : (call : Deed) (answer : ActAnswer) → written_by x call answer ≡ [] → ((w : List ℕ) → after w ≡ before w) → Before
      → InvAt x (seen v (wr ++ written_by x call answer)) (λ n. file after n)
  looks call answer none e inv = unwritten (seen v wr) call answer none refl (at_nothing x (seen v wr) before after e inv)

  -- a start
  begins : (answer : ActAnswer) → ((w : List ℕ) → after w ≡ before w) → Before → After Starts answer
  begins answer e inv =
      weaker x (seen (own_view before after v Starts answer) (wr ++ [])) (seen v wr) (file after (SinkFile x)) (file after (MarkFile x)) (file after (DoneFile x)) (file after (BornFile x.collector))
      (record { born = λ b h. absurd (none-some b h); made = λ b h. absurd (none-some b h); current = λ c h. absurd (none-some c h); wrote = append-nil wr })
      (at_nothing x (seen v wr) before after e inv)

  not_written : (w piece : List ℕ) (answer : ActAnswer) → is_done answer ≡ false → written_by x (Appends w piece) answer ≡ []
  not_written w piece (Done words number of) e = absurd (true≢false e)
  not_written w piece (Refused fault) e = refl
  not_written w piece (Stopped left) e = refl
  not_written w piece (Rotated suffix) e = refl
  not_written w piece (Deleted suffix) e = refl

  -- an append of which the answer is done
  appends_done : (w piece : List ℕ) (words : List (List ℕ)) (number of : ℕ) → AppendsOnlyToCleanSink v before (read w) piece
      → ((n : List ℕ) → after n ≡ changed (Grown w piece) before n) → Before → After (Appends w piece) (Done words number of)
  appends_done w piece words number of may e inv =
      at_change x known (seen (own_view before after v (Appends w piece) (Done words number of)) (wr ++ written_by x (Appends w piece) (Done words number of))) (Grown w piece) before after e
      (append_at x v wr before (read w) (size_in (before w)) piece may inv)

  -- an append that wasn't done
  appends_not : (w piece bytes : List ℕ) (answer : ActAnswer) → is_done answer ≡ false → AppendsOnlyToCleanSink v before (read w) piece
      → ((n : List ℕ) → after n ≡ changed (Grown w bytes) before n) → Before → After (Appends w piece) answer
  appends_not w piece bytes answer not_done may e inv =
      unwritten (seen (own_view before after v (Appends w piece) answer) wr) (Appends w piece) answer (not_written w piece answer not_done) refl
      (subst (λ d. InvAt x (record { born = v.born; made = v.made; current = appended_to (sink_of (read w)) d (size_in (before w)) piece (still d (next_mark_of (read w)) v.current); wrote = wr }) (λ n. file after n)) (sym not_done)
      (at_change x known (record { born = v.born; made = v.made; current = appended_to (sink_of (read w)) false (size_in (before w)) piece (still false (next_mark_of (read w)) v.current); wrote = wr }) (Grown w bytes) before after e
      (spoil_at x v wr before (read w) (size_in (before w)) piece bytes may inv)))

  appended_less : (y : Option Stem) (size : ℕ) (piece : List ℕ) (o : Option Current) (cur : Current) → appended_to y false size piece o ≡ Some cur → o ≡ Some cur
  appended_less None size piece o cur e = e
  appended_less (Some y) size piece None cur e = e
  appended_less (Some y) size piece (Some a) cur e = go (same_stem a.stem y) e
    where
      go : (b : Bool) → (if b then None else Some a) ≡ Some cur → Some a ≡ Some cur
      go true h = absurd (none-some cur h)
      go false h = h

  created_less : (y : Option Stem) (o : Option Current) (cur : Current) → created y false o ≡ Some cur → o ≡ Some cur
  created_less None o cur e = e
  created_less (Some y) o cur e = absurd (none-some cur e)

  made_more : (y : Option Stem) (made : ℕ) → made ≤ made_by y made
  made_more None made = omega arith
  made_more (Some y) made = omega arith

  -- a rename that did nothing publishes nothing
  unborn : (old new : List ℕ) → after old ≡ before old → born_after before after (Renames old new) v.born ≡ v.born
  unborn old new e = go (is_born_file (read new)) (before old) (after old) e
    where
      go : (b : Bool) (o p : Option File) → p ≡ o → (if b && (is_some o && is_none p) then Some (number_in (after new)) else v.born) ≡ v.born
      go false o p e = refl
      go true None p e = refl
      go true (Some f) p e = rw e refl

  -- a call after which the current sink is the same, or there is none
  less : (call : Deed) (answer : ActAnswer) (well : Bool) (y : Option Stem) (born : Option ℕ) → born ≡ v.born → written_by x call answer ≡ []
      → ((w : List ℕ) → after w ≡ before w) → Before
      → InvAt x (record { born = born; made = v.made; current = still well y v.current; wrote = wr ++ written_by x call answer }) (λ n. file after n)
  less call answer well y born same none e inv =
      weaker x (record { born = born; made = v.made; current = still well y v.current; wrote = wr ++ written_by x call answer }) (seen v wr)
      (file after (SinkFile x)) (file after (MarkFile x)) (file after (DoneFile x)) (file after (BornFile x.collector))
      (record { born = λ b h. sym same ∙ h; made = λ b h. omega arith; current = still_less well y v.current; wrote = ap (λ l. wr ++ l) none ∙ append-nil wr })
      (at_nothing x (seen v wr) before after e inv)

  -- a call of its own that did nothing, and wasn't done
  idle : (call : Deed) (answer : ActAnswer) → is_done answer ≡ false → ((w : List ℕ) → after w ≡ before w) → Before → After call answer
  idle Starts answer not_done e inv = begins answer e inv
  idle (Creates w) answer not_done e inv =
      unwritten (seen (own_view before after v (Creates w) answer) wr) (Creates w) answer refl refl
      (weaker x (seen (own_view before after v (Creates w) answer) wr) (seen v wr) (file after (SinkFile x)) (file after (MarkFile x)) (file after (DoneFile x)) (file after (BornFile x.collector))
      (record {
        born = λ b h. h;
        made = λ b h. made_more (sink_of (read w)) v.made;
        current = λ c h. still_less (is_done answer) (next_mark_of (read w)) v.current c
            (created_less (sink_of (read w)) (still (is_done answer) (next_mark_of (read w)) v.current) c
            (subst (λ d. created (sink_of (read w)) d (still (is_done answer) (next_mark_of (read w)) v.current) ≡ Some c) not_done h));
        wrote = refl;
      }) (at_nothing x (seen v wr) before after e inv))
  idle (Appends w piece) answer not_done e inv =
      unwritten (seen (own_view before after v (Appends w piece) answer) wr) (Appends w piece) answer (not_written w piece answer not_done) refl
      (weaker x (seen (own_view before after v (Appends w piece) answer) wr) (seen v wr) (file after (SinkFile x)) (file after (MarkFile x)) (file after (DoneFile x)) (file after (BornFile x.collector))
      (record {
        born = λ b h. h;
        made = λ b h. omega arith;
        current = λ c h. still_less (is_done answer) (next_mark_of (read w)) v.current c
            (appended_less (sink_of (read w)) (size_in (before w)) piece (still (is_done answer) (next_mark_of (read w)) v.current) c
            (subst (λ d. appended_to (sink_of (read w)) d (size_in (before w)) piece (still (is_done answer) (next_mark_of (read w)) v.current) ≡ Some c) not_done h));
        wrote = refl;
      }) (at_nothing x (seen v wr) before after e inv))
  idle (Syncs w) answer not_done e inv = less (Syncs w) answer (went_well (Syncs w) answer) (concern (Syncs w)) v.born refl refl e inv
  idle (Renames old new) answer not_done e inv = less (Renames old new) answer (went_well (Renames old new) answer) (concern (Renames old new)) (born_after before after (Renames old new) v.born) (unborn old new (e old)) refl e inv
  idle (Removes w) answer not_done e inv = less (Removes w) answer (went_well (Removes w) answer) (concern (Removes w)) v.born refl refl e inv
  idle (Cuts w n) answer not_done e inv = less (Cuts w n) answer false (concern (Cuts w n)) v.born refl refl e inv
  idle (ReadsLog path part at max) answer not_done e inv = looks (ReadsLog path part at max) answer refl e inv
  idle (AsksNewest path) answer not_done e inv = looks (AsksNewest path) answer refl e inv
  idle (GrowsLog path piece) answer not_done e inv = looks (GrowsLog path piece) answer refl e inv
  idle (AsksSize w) answer not_done e inv = looks (AsksSize w) answer refl e inv
  idle (Reads w at max) answer not_done e inv = looks (Reads w at max) answer refl e inv
  idle (Lists w) answer not_done e inv = looks (Lists w) answer refl e inv
  idle AsksClock answer not_done e inv = looks AsksClock answer refl e inv
  idle (Pauses n) answer not_done e inv = looks (Pauses n) answer refl e inv
  idle (Sends m address bytes) answer not_done e inv = looks (Sends m address bytes) answer refl e inv
  idle (Gets m) answer not_done e inv = looks (Gets m) answer refl e inv
  idle (Takes door wait) answer not_done e inv = looks (Takes door wait) answer refl e inv
  idle (TakesMore t) answer not_done e inv = looks (TakesMore t) answer refl e inv
  idle (Answers t bytes) answer not_done e inv = looks (Answers t bytes) answer refl e inv
  idle (Says bytes) answer not_done e inv = looks (Says bytes) answer refl e inv

module _ (x : Stem) (known : Known x) (v : View) (wr : List ℕ) (history : History) (after : Files) where
  -- a sink's collector owns no other's `born`
  own_born : (d : List ℕ) (n : Name) → n ≡ BornFile d → IsTrue (owns (collector x) n) → d ≡ x.collector
  own_born d n is h = sym (bytes_same x.collector d (subst (λ n. IsTrue (owns (collector x) n)) is h))

  known_born : (n : Name) → n ≡ Temporary (BornFile x.collector) → IsTrue (is_known n)
  known_born n is = subst (λ n. IsTrue (is_known n)) (sym is) known.collector

  known_new : (n : Name) → n ≡ BornFile x.collector → IsTrue (is_known n)
  known_new n is = subst (λ n. IsTrue (is_known n)) (sym is) known.collector

  read_so : (files : Files) (w : List ℕ) → files w ≡ file files (read w)
  read_so files w = ap files (sym (spell-read w))

  appends_any : (w piece : List ℕ) (answer : ActAnswer) → AppendsOnlyToCleanSink v (files_after history) (read w) piece
      → ((n : List ℕ) → after n ≡ changed (Grown w piece) (files_after history) n) → InvAt x (seen v wr) (λ n. file (files_after history) n)
      → After x known v wr (files_after history) after (Appends w piece) answer
  appends_any w piece (Done words number of) may e inv = appends_done x known v wr (files_after history) after w piece words number of may e inv
  appends_any w piece (Refused fault) may e inv = appends_not x known v wr (files_after history) after w piece piece (Refused fault) refl may e inv
  appends_any w piece (Stopped left) may e inv = appends_not x known v wr (files_after history) after w piece piece (Stopped left) refl may e inv
  appends_any w piece (Rotated suffix) may e inv = appends_not x known v wr (files_after history) after w piece piece (Rotated suffix) refl may e inv
  appends_any w piece (Deleted suffix) may e inv = appends_not x known v wr (files_after history) after w piece piece (Deleted suffix) refl may e inv

  -- a call of its own that took place
  took_place : (call : Deed) (answer : ActAnswer) → ((w : List ℕ) → after w ≡ changed (change_of call) (files_after history) w)
      → Framed (collector x) (files_after history) call → CollectorRule (collector x) history v call → InvAt x (seen v wr) (λ n. file (files_after history) n)
      → After x known v wr (files_after history) after call answer
  took_place Starts answer e framed may inv = begins x known v wr (files_after history) after answer e inv
  took_place (Creates w) answer e framed may inv =
      unwritten x known v wr (files_after history) after (seen (own_view (files_after history) after v (Creates w) answer) wr) (Creates w) answer refl refl
      (at_change x known (seen (own_view (files_after history) after v (Creates w) answer) wr) (Created w) (files_after history) after e
      (create_at x v wr (files_after history) (read w) (is_done answer) may inv))
  took_place (Appends w piece) answer e framed may inv = appends_any w piece answer may e inv
  took_place (Syncs w) answer e framed may inv =
      unwritten x known v wr (files_after history) after (seen (own_view (files_after history) after v (Syncs w) answer) wr) (Syncs w) answer refl refl
      (at_change x known (seen (own_view (files_after history) after v (Syncs w) answer) wr) (Secured w) (files_after history) after e
      (sync_at x v wr (files_after history) (read w) (is_done answer) inv))
  took_place (Renames old new) answer e framed may inv =
      unwritten x known v wr (files_after history) after (seen (own_view (files_after history) after v (Renames old new) answer) wr) (Renames old new) answer refl refl
      (at_change x known (seen (own_view (files_after history) after v (Renames old new) answer) wr) (Moved old new) (files_after history) after e
      (rename_at x v wr (files_after history) (read old) (read new) (is_done answer) (files_after history old) (after old) (after new)
      (λ p q. (
        read_so (files_after history) old,
        read_so after old ∙ (e (spell (read old)) ∙ bridge (Moved old new) (files_after history) (read old) (known_born (read old) p)),
        read_so after new ∙ (e (spell (read new)) ∙ bridge (Moved old new) (files_after history) (read new) (known_new (read new) q)),
      ))
      (λ d is. own_born d (read new) is (and_parts (owns (collector x) (read old)) (owns (collector x) (read new)) framed.0).1) may inv))
  took_place (Removes w) answer e framed may inv =
      unwritten x known v wr (files_after history) after (seen (own_view (files_after history) after v (Removes w) answer) wr) (Removes w) answer refl refl
      (at_change x known (seen (own_view (files_after history) after v (Removes w) answer) wr) (Gone w) (files_after history) after e
      (remove_at x v wr (files_after history) (read w) (went_well (Removes w) answer) may inv))
  took_place (Cuts w n) answer e framed may inv =
      unwritten x known v wr (files_after history) after (seen (own_view (files_after history) after v (Cuts w n) answer) wr) (Cuts w n) answer refl refl
      (at_change x known (seen (own_view (files_after history) after v (Cuts w n) answer) wr) (Shortened w n) (files_after history) after e
      (cut_at x v wr (files_after history) (read w) n may inv))
  took_place (ReadsLog path part at max) answer e framed may inv = looks x known v wr (files_after history) after (ReadsLog path part at max) answer refl e inv
  took_place (AsksNewest path) answer e framed may inv = looks x known v wr (files_after history) after (AsksNewest path) answer refl e inv
  took_place (GrowsLog path piece) answer e framed may inv = looks x known v wr (files_after history) after (GrowsLog path piece) answer refl e inv
  took_place (AsksSize w) answer e framed may inv = looks x known v wr (files_after history) after (AsksSize w) answer refl e inv
  took_place (Reads w at max) answer e framed may inv = looks x known v wr (files_after history) after (Reads w at max) answer refl e inv
  took_place (Lists w) answer e framed may inv = looks x known v wr (files_after history) after (Lists w) answer refl e inv
  took_place AsksClock answer e framed may inv = looks x known v wr (files_after history) after AsksClock answer refl e inv
  took_place (Pauses n) answer e framed may inv = looks x known v wr (files_after history) after (Pauses n) answer refl e inv
  took_place (Sends m address bytes) answer e framed may inv = looks x known v wr (files_after history) after (Sends m address bytes) answer refl e inv
  took_place (Gets m) answer e framed may inv = looks x known v wr (files_after history) after (Gets m) answer refl e inv
  took_place (Takes door wait) answer e framed may inv = looks x known v wr (files_after history) after (Takes door wait) answer refl e inv
  took_place (TakesMore t) answer e framed may inv = looks x known v wr (files_after history) after (TakesMore t) answer refl e inv
  took_place (Answers t bytes) answer e framed may inv = looks x known v wr (files_after history) after (Answers t bytes) answer refl e inv
  took_place (Says bytes) answer e framed may inv = looks x known v wr (files_after history) after (Says bytes) answer refl e inv

  -- whatever the call came to
  pub own_came : (call : Deed) (answer : ActAnswer) → CameTo call (is_done answer) (files_after history) after
      → Framed (collector x) (files_after history) call → CollectorRule (collector x) history v call → InvAt x (seen v wr) (λ n. file (files_after history) n)
      → After x known v wr (files_after history) after call answer
  own_came call answer (whole e) framed may inv = took_place call answer e framed may inv
  own_came call answer (nothing not_done e) framed may inv = idle x known v wr (files_after history) after call answer not_done e inv
  own_came call answer (junk w piece bytes is not_done e) framed may inv =
      subst (λ call. CollectorRule (collector x) history v call → After x known v wr (files_after history) after call answer) (sym is)
      (λ may. appends_not x known v wr (files_after history) after w piece bytes answer not_done may e inv) may
