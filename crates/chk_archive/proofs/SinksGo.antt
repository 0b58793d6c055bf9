-- The removals of the done sinks that a listing showed.
use Rattle.std.proofs.Common.{◌≡◌, ◌⊎◌, inl, inr, ℕ, zero, suc, ◌+◌, ◌<◌, ◌≤◌, Bool, true, false, ◌&&◌, ◌||◌, cond, List, [], ◌∷◌, ◌++◌, length, Option, Some, None, Result, ap, sym, subst, ◌∙◌, refl, arith, true≢false, if◌then◌else◌, bytes_eq, ◌-◌, take, drop, length-append}
use Rattle.std.proofs.Math.Seq.{drop-append_seam}
use Rattle.std.specs.Prelude.{IsTrue, Contains, Any, codes, filter, map, is_some, slice_index_or}
use Rattle.std.specs.List.{list_any}
use Rattle.std.proofs.lemmas.Bool.{and_parts, and_from, or_right, cases_Bool}
use Rattle.std.proofs.lemmas.Option.{none-some}
use Rattle.chk_bytes.specs.Words.{before_end}
use Rattle.chk_bytes.specs.Stems.{Stem, is_stem, stem_text}
use Rattle.chk_site.specs.declared.acts.OutsideFault.{OutsideFault}
use Rattle.chk_site.specs.declared.acts.CallFault.{CallFault}
use Rattle.chk_site.specs.declared.acts.ActAnswer.{ActAnswer}
use Rattle.chk_site.specs.Files.{File, Files}
use Rattle.chk_site.specs.Logs.{Logs}
use Rattle.chk_site.specs.Acts.{Removes}
use Rattle.chk_site.specs.History.{History, Every, files_after}
use Rattle.chk_site.specs.Honest.{Honest, in_folder}
use Rattle.chk_site.specs.Site.{Adds, own_step, answered, plain, WasDone, IsDone, Calls, Ends}
use Rattle.chk_site.specs.Runs.{Leads, MadeInTurn}
use Rattle.chk_site.proofs.Leads.{leads_as, script_then, script_end}
use Rattle.chk_replace.proofs.CallSteps.{OfEach, script_each}
use Rattle.chk_chunk.specs.Keys.{chunk_end, same_data}
use Rattle.chk_world.specs.Names.{Name, BookFile, SegmentFile, DoneFile, Temporary, OtherFile, spell, read, file, is_known, picked, guessed_name, if_spelled}
use Rattle.chk_world.specs.ArchiveRuns.{last_listing, is_closed, sink_path}
use Rattle.chk_world.specs.Committed.{OnFile, aside_chunks, archive_of_stream, sink_chunks}
use Rattle.chk_world.specs.DoneSinks.{IsDoneName}
use Rattle.chk_world.specs.Jobs.{is_named, IsSaved, OnlyArchivedSinksRemoved}
use Rattle.chk_world.specs.Rules.{Legal, may_remove}
use Rattle.chk_world.specs.Places.{As}
use Rattle.chk_world.specs.Sight.{job, is_job_file, listed_sinks, shows_done, Sight, sight, AtJob, own_archive, own_aside}
use Rattle.chk_world.specs.JobSteps.{IsOf}
use Rattle.chk_world.proofs.Each.{later_one, passes_in}
use Rattle.chk_world.proofs.Ends.{bytes_self}
use Rattle.chk_world.proofs.NameLemmas.{read-spell}
use Rattle.chk_world.proofs.NameTests.{same_name, name_same, stem_self}
use Rattle.chk_world.proofs.KeptTrue.{source_true}
use Rattle.chk_world.proofs.StaysTrue.{IsFoundedChunk}
use Rattle.chk_world.proofs.OwnArchive.{own_archive_is, own_aside_is}
use Rattle.chk_world.proofs.ToldCalls.{MayCall, LeavesCall, told_done, told_ends}
use Rattle.chk_world.proofs.SightStays.{job_stays, stem_shown, name_in as any_in}
use Rattle.chk_archive.specs.Calling.{removal, removals}
use Rattle.chk_archive.specs.FolderNames.{closed_in}
use Rattle.chk_archive.specs.Sinks.{as_sight, MayGo, HaveGone, SinksRemoved, RemovesShown, removes_shown}
use Rattle.chk_archive.proofs.Removing.{kept, gone}

-- ---- names

pub done_spelled : (x : Stem) → spell (DoneFile x) ≡ sink_path (stem_text x ++ codes ".done")
unfolding spell
done_spelled x = refl

-- a name that is read as that of a done sink is of a good stem
pub good_stem : (w : List ℕ) (x : Stem) → read w ≡ DoneFile x → is_stem x ≡ true
unfolding read
good_stem w x e = go (picked (λ t. Temporary (guessed_name t)) (before_end (codes ".tmp") w)
    (guessed_name w)) e
  where
    go : (n : Name) → if_spelled n w ≡ DoneFile x → is_stem x ≡ true
    go n e = test (is_known n && bytes_eq (spell n) w) refl e
      where
        test : (b : Bool) → (is_known n && bytes_eq (spell n) w) ≡ b
            → (if b then n else OtherFile w) ≡ DoneFile x → is_stem x ≡ true
        test true k e = subst (λ m. is_known m ≡ true) e
            (and_parts (is_known n) (bytes_eq (spell n) w) k).0
        test false k e = absurd (cc)

pub in_any : (names : List (List ℕ)) (name : List ℕ) → Contains names name → list_any
    (bytes_eq name) names ≡ true
in_any names name one = go names one.0 one.1 one.2
  where
    go : (names : List (List ℕ)) (k : ℕ) → k < length names → slice_index_or names k name ≡ name
        → list_any (bytes_eq name) names ≡ true
    go [] k low at = absurd (let z : ⊥ = omega (arith, low) in z)
    go (n ∷ ns) zero low at =
        ap (λ b. b || list_any (bytes_eq name) ns)
        (subst (λ m. bytes_eq name m ≡ true) (sym at) (bytes_self name))
    go (n ∷ ns) (suc k) low at = or_right (bytes_eq name n) (list_any (bytes_eq name) ns)
        (go ns k (omega (arith, low)) at)

job_apart : (n : Name) (x : Stem) → is_job_file n ≡ true → same_name n (DoneFile x) ≡ false
job_apart (BookFile folder) x h = refl
job_apart (SegmentFile folder k) x h = refl
job_apart (Temporary n) x h = refl
job_apart _ x h = absurd (true≢false (sym h))

-- ---- the sinks that are left

-- the file is a done sink that the listing showed
pub record IsShown (names : List (List ℕ)) (w : List ℕ) : Type 0 where
  pub name : List ℕ
  pub is : w ≡ sink_path name
  pub one : Contains names name
  pub closed : is_closed name ≡ true

abbrev pub AllShown : List (List ℕ) → List (List ℕ) → Type 0
AllShown names [] = Unit {0}
AllShown names (w ∷ ws) = IsShown names w × AllShown names ws

-- each of them may go, and each that is there is one of these
pub record LeftSinks (own : Name → Option File) (names ws : List (List ℕ))
    (v : Sight) : Type 0 where
  pub may : MayGo own names v
  pub left : (x : Stem) → (v.sinks x ≡ None) ⊎ Contains ws (spell (DoneFile x))

module _ (stamped : List (List ℕ)) (own : Name → Option File) (names : List (List ℕ)) (w : List ℕ)
    (ws : List (List ℕ)) (shown : IsShown names w) where
  abbrev B : History → Type 0
  B h = LeftSinks own names (w ∷ ws) (sight h)

  module _ (v : Sight) (h : LeftSinks own names (w ∷ ws) v) where
    done : IsDoneName shown.name (read (sink_path shown.name))
    done = h.may.done shown.name shown.one shown.closed

    reads : read w ≡ DoneFile done.0
    reads = ap read shown.is ∙ done.1

    spelled : w ≡ spell (DoneFile done.0)
    spelled = shown.is ∙ (ap sink_path done.2 ∙ sym (done_spelled done.0))

    good : is_stem done.0 ≡ true
    good = good_stem w done.0 reads

  shows : (before : History) → (h : B before) → shows_done (last_listing before)
      (done (sight before) h).0 ≡ true
  shows before h =
      let x = (done (sight before) h).0 in
      ap (λ l. shows_done l x) h.may.last
      ∙ and_from (is_stem x) (list_any (bytes_eq
      (stem_text x ++ codes ".done")) h.may.listing.names) (good (sight before) h)
      (in_any h.may.listing.names (stem_text x ++ codes ".done")
      (subst (λ ns. Contains ns (stem_text x ++ codes ".done")) (sym h.may.are)
      (subst (λ n. Contains names n) (done (sight before) h).2 shown.one)))

  saved_at : (before : History) → Legal stamped before → (h : B before) → (f : File)
      → file (files_after before) (DoneFile (done (sight before) h).0) ≡ Some f → IsSaved before f
  saved_at before legal h f there c one =
      let x = (done (sight before) h).0 in
      let s = c.key.stream in
      let sink : listed_sinks (last_listing before) (files_after before) x ≡ Some f =
      ap (λ b. if b then file (files_after before) (DoneFile x) else None) (shows before h)
      ∙ there in
      let own_is : (sight before).own ≡ own = λ i n. h.may.own_now n i in
      let founded : IsFoundedChunk before c = source_true stamped before legal c
      (inl (
        x,
        good (sight before) h,
        subst (λ o. Contains (sink_chunks o) c)
            (sym there) one,
      )) in
      let archive : own_archive (as_sight own) s ≡ archive_of_stream (files_after before) s =
      ap (λ o. own_archive (as_sight o) s) (sym own_is) ∙ own_archive_is stamped before legal s in
      let aside : own_aside (as_sight own) ≡ aside_chunks (files_after before) =
      ap (λ o. own_aside (as_sight o)) (sym own_is) ∙ own_aside_is stamped before legal in
      elim (h.may.saved x f sink c one) [
        | inl low ↦
            inl (subst (λ n. chunk_end c ≤ n + length
            (archive_of_stream (files_after before) s)) founded.is_true.start
            (subst (λ l. chunk_end c ≤ c.key.start + length l) archive low))
        | inr any ↦ inr (subst (Any (λ d. IsTrue (same_data c d))) aside any)
      ]

  remove_may : MayCall stamped (removal job w) refl B
  remove_may before answer files logs legal h = record {
    own_files = subst (λ m. IsTrue (may_remove job m)) (sym (reads (sight before) h)) refl;
    logs = tt;
    requests = tt;
    rule = (
      ap (is_named (files_after before)) (reads (sight before) h),
      subst (λ m. OnlyArchivedSinksRemoved before m) (sym (reads (sight before) h))
          (on_file (file (files_after before) (DoneFile (done (sight before) h).0)) refl),
    );
  }
    where
      on_file : (o : Option File) → file (files_after before) (DoneFile (done (sight before) h).0)
          ≡ o → OnFile o (IsSaved before)
      on_file None e = tt
      on_file (Some f) e = saved_at before legal h f e

  module _ (before : History) (answer : ActAnswer) (files : Files) (logs : Logs)
      (was : WasDone answer)
      (honest : Honest before (own_step (removal job w) answer files logs)) (h : B before) where
    abbrev x0 : Stem
    x0 = (done (sight before) h).0

    own_stays : (n : Name) (b : Bool) → (is_job_file n && is_known n) ≡ b
        → (if b then file files n else None) ≡ (if b then file (files_after before) n else None)
    own_stays n false e = refl
    own_stays n true e =
        let p = and_parts (is_job_file n) (is_known n) e in
        kept w before answer files logs was honest n p.1
        (ap (same_name n) (reads (sight before) h) ∙ job_apart n x0 p.0)

    -- a shown sink is gone, or is as it was
    sink_now : (x : Stem) (b : Bool) → shows_done (last_listing before) x ≡ b
        → ((if b then file files (DoneFile x) else None) ≡ None)
        ⊎ ((if b then file files (DoneFile x) else None) ≡
        (if b then file (files_after before) (DoneFile x) else None))
    sink_now x false e = inl refl
    sink_now x true e = elim (cases_Bool (same_name (DoneFile x) (read w))) [
      | inl same ↦
          let is : DoneFile x ≡ read w = name_same (DoneFile x) (read w) same in
          inl (gone w before answer files logs was honest (DoneFile x) (good_stem w x (sym is)) same
          (spelled (sight before) h ∙ ap spell (sym (reads (sight before) h) ∙ sym is)))
      | inr apart ↦
          inr (kept w before answer files logs was honest (DoneFile x)
          (stem_shown (last_listing before) x e) apart)
    ]

    sinks_now : (x : Stem) → (listed_sinks (last_listing before) files x ≡ None)
        ⊎ (listed_sinks (last_listing before) files x ≡ listed_sinks (last_listing before)
        (files_after before) x)
    sinks_now x = sink_now x (shows_done (last_listing before) x) refl

    may_now : MayGo own names (sight (own_step (removal job w) answer files logs ∷ before))
    may_now = record {
      own_now = λ n. own_stays n (is_job_file n && is_known n) refl ∙ h.may.own_now n;
      listing = h.may.listing;
      last = h.may.last;
      are = h.may.are;
      done = h.may.done;
      saved = λ x f there. elim (sinks_now x) [
        | inl none ↦ absurd (none-some f (sym none ∙ there))
        | inr same ↦ h.may.saved x f (sym same ∙ there)
      ];
    }

    left_now : (x : Stem) → (listed_sinks (last_listing before) (files_after before) x
        ≡ None) ⊎ Contains (w ∷ ws) (spell (DoneFile x))
        → (listed_sinks (last_listing before) files x ≡ None) ⊎ Contains ws (spell (DoneFile x))
    left_now x (inl none) = elim (sinks_now x) [
      | inl gone_now ↦ inl gone_now
      | inr same ↦ inl
          (same ∙ none)
    ]
    left_now x (inr (zero, low, at)) = inl (here (shows_done (last_listing before) x) refl)
      where
        here : (b : Bool) → shows_done (last_listing before) x ≡ b →
            (if b then file files (DoneFile x) else None) ≡ None
        here false e = refl
        here true e =
            let known : is_stem x ≡ true = stem_shown (last_listing before) x e in
            let is : read w ≡ DoneFile x = ap read at ∙ read-spell (DoneFile x) known in
            gone w before answer files logs was honest (DoneFile x) known
            (ap (same_name (DoneFile x)) is ∙ stem_self x) at
    left_now x (inr (suc i, low, at)) = inr (i, omega (arith, low), at)

  remove_leaves : LeavesCall stamped (removal job w) refl B WasDone
      (λ h. LeftSinks own names ws (sight h))
  remove_leaves before answer files logs was legal h = record {
    may = may_now before answer files logs was legal.1.honest h;
    left = λ x. left_now before answer files logs was legal.1.honest h x (h.left x);
  }

  pub sink_removed : (given : Result (Unit {0}) CallFault) {old new : Option History} → IsDone given
      → Adds old new (Calls (removal job w) (answered plain given))
      → Adds old new (Leads (As stamped job) (AtJob stamped (LeftSinks own names (w ∷ ws)))
      (AtJob stamped (LeftSinks own names ws)))
  sink_removed given is told =
      told_done stamped (removal job w) refl B (λ h. LeftSinks own names ws (sight h)) given
      (job_stays stamped (LeftSinks own names (w ∷ ws))) remove_may remove_leaves is told

  pub sink_refused : (given : Result (Unit {0}) CallFault)
      (fault : OutsideFault) {old new : Option History}
      → Ends (removal job w).call given fault → Adds old new
      (Calls (removal job w) (answered plain given))
      → Adds old new (Leads (As stamped job) (AtJob stamped (LeftSinks own names (w ∷ ws)))
      (Legal stamped))
  sink_refused given fault ends told =
      leads_as (λ h k. k) (λ h k. k.legal)
      (told_ends stamped (removal job w) refl B (λ f h. Unit {0}) plain given fault
      (job_stays stamped (LeftSinks own names (w ∷ ws))) remove_may
      (λ before answer files logs is legal h. tt) (λ history h. tt) ends told)

have_gone : (own : Name → Option File) (names : List (List ℕ)) (v : Sight)
    → LeftSinks own names [] v → HaveGone own names v
have_gone own names v h = record {
  own_now = h.may.own_now;
  listing = h.may.listing;
  last = h.may.last;
  are = h.may.are;
  gone = λ x. elim (h.left x) [
    | inl none ↦ none
    | inr one ↦ absurd (let low = one.1 in let z : ⊥ = omega (arith, low) in z)
  ];
}

pub sinks_go : (stamped : List (List ℕ)) (own : Name → Option File) (names ws : List (List ℕ))
    → AllShown names ws
    → {result : Result (Unit {0}) OutsideFault} {old new : Option History} → MadeInTurn
    (removals job ws) result old new
    → Adds old new (Leads (As stamped job) (AtJob stamped (LeftSinks own names ws))
    (SinksRemoved stamped own names result))
sinks_go stamped own names [] all script =
    script_end (SinksRemoved stamped own names) (λ h k. k.legal)
    (λ h k. record {
      legal = k.legal;
      may_act = k.may_act;
      alive = λ r. have_gone own names
          (sight h) (k.alive r);
    }) script
sinks_go stamped own names (w ∷ ws) all script =
    script_then (AtJob stamped (LeftSinks own names ws)) (SinksRemoved stamped own names)
    (λ given mid is told. sink_removed stamped own names w ws all.0 given is told)
    (λ given fault ends told. sink_refused stamped own names w ws all.0 given fault ends told)
    (λ h k. k.legal) (λ mid rest. sinks_go stamped own names ws all.1 rest) script

-- ---- the done sinks of a listing

all_shown : (names left : List (List ℕ)) →
    ((name : List ℕ) → Contains left name → Contains names name)
    → AllShown names (closed_in left)
all_shown names [] in_names = tt
all_shown names (n ∷ ns) in_names =
    go (is_closed n) refl (all_shown names ns (λ name one. in_names name (later_one n ns name one)))
  where
    go : (b : Bool) → is_closed n ≡ b → AllShown names (closed_in ns)
        → AllShown names (map (in_folder (codes "sinks"))
        (cond b (n ∷ filter is_closed ns) (filter is_closed ns)))
    go true e rest = (
      record {
        name = n;
        is = refl;
        one = in_names n
            (0, omega arith, refl);
        closed = e;
      },
      rest,
    )
    go false e rest = rest

pub closed_text : (t : List ℕ) → is_closed (t ++ codes ".done") ≡ true
closed_text t =
    let size = length-append t (codes ".done") in
    let front : length (t ++ codes ".done") - length (codes ".done") ≡ length t = omega
    (arith, size) in
    let end : drop (length (t ++ codes ".done") - length (codes ".done")) (t ++ codes ".done")
    ≡ codes ".done" =
    ap (λ n. drop n (t ++ codes ".done")) front ∙ drop-append_seam t (codes ".done") in
    ap (λ l. is_some (if bytes_eq l (codes ".done") then Some
    (take (length (t ++ codes ".done") - length (codes ".done"))
    (t ++ codes ".done")) else None)) end

in_closed : (names : List (List ℕ)) (x : Stem) → Contains names (stem_text x ++ codes ".done")
    → Contains (closed_in names) (spell (DoneFile x))
in_closed names x one =
    subst (Contains (closed_in names)) (sym (done_spelled x))
    (mapped (filter is_closed names) (stem_text x ++ codes ".done")
    (passes_in is_closed names (stem_text x ++ codes ".done") one (closed_text (stem_text x))))
  where
    mapped : (xs : List (List ℕ)) (y : List ℕ) → Contains xs y
        → Contains (map (in_folder (codes "sinks")) xs) (in_folder (codes "sinks") y)
    mapped xs y c = at xs c.0 c.1 c.2
      where
        at : (xs : List (List ℕ)) (i : ℕ) → i < length xs → slice_index_or xs i y ≡ y
            → Contains (map (in_folder (codes "sinks")) xs) (in_folder (codes "sinks") y)
        at [] i low e = absurd (let z : ⊥ = omega (arith, low) in z)
        at (z ∷ zs) zero low e = (0, omega arith, ap (in_folder (codes "sinks")) e)
        at (z ∷ zs) (suc i) low e =
            later_one (in_folder (codes "sinks") z) (map (in_folder (codes "sinks")) zs)
            (in_folder (codes "sinks") y)
            (at zs i (omega (arith, low)) e)

left_first : (own : Name → Option File) (names : List (List ℕ)) (history : History)
    → MayGo own names (sight history)
    → LeftSinks own names (closed_in names) (sight history)
left_first own names history h = record {
  may = h;
  left = λ x. go x
      (shows_done (last_listing history) x) refl;
}
  where
    go : (x : Stem) (b : Bool) → shows_done (last_listing history) x ≡ b
        → ((if b then file (files_after history) (DoneFile x) else None) ≡ None) ⊎ Contains
        (closed_in names) (spell (DoneFile x))
    go x false e = inl refl
    go x true e =
        let shown : shows_done (Some h.listing) x ≡ true = ap (λ l. shows_done l x) (sym h.last)
        ∙ e in
        let p = and_parts (is_stem x) (list_any
        (bytes_eq (stem_text x ++ codes ".done")) h.listing.names) shown in
        inr (in_closed names x
        (subst (λ ns. Contains ns (stem_text x ++ codes ".done")) h.are
        (any_in h.listing.names (stem_text x ++ codes ".done") p.1)))

-- the done sinks of the listing were removed in turn
pub shown_go : (stamped : List (List ℕ)) (own : Name → Option File) (names : List (List ℕ))
    {result : Result (Unit {0}) OutsideFault} {old new : Option History} → MadeInTurn
    (removals job (closed_in names)) result old new
    → Adds old new (Leads (As stamped job) (AtJob stamped (MayGo own names))
    (SinksRemoved stamped own names result))
shown_go stamped own names script =
    leads_as
    (λ h k. record {
      legal = k.legal;
      may_act = k.may_act;
      alive = λ r. left_first own names h
          (k.alive r);
    })
    (λ h k. k)
    (sinks_go stamped own names (closed_in names) (all_shown names names (λ name one. one)) script)

-- and only they
pub shown_works : (names : List (List ℕ)) {result : Result
    (Unit {0}) OutsideFault} {old new : Option History}
    → MadeInTurn (removals job (closed_in names)) result old new → Adds old new
    (Every (IsOf (RemovesShown names)))
shown_works names script =
    script_each (IsOf (RemovesShown names)) (λ before step theirs. inl theirs)
    (each names (closed_in names) (all_shown names names (λ name one. one))) script
  where
    each : (names ws : List (List ℕ)) → AllShown names ws → OfEach (IsOf (RemovesShown names))
        (removals job ws)
    each names [] all = tt
    each names (w ∷ ws) all = (
      λ before answer files logs running honest.
          inr (
            record { own = refl; running = running; honest = honest; by = refl },
            subst (λ v. RemovesShown names (Removes v)) (sym all.0.is)
                (removes_shown all.0.name all.0.one all.0.closed),
          ),
      each names ws all.1,
    )
