-- No legal step loses a kept chunk that isn't archived.
use Rattle.std.proofs.Common.{◌≡◌, inl, inr, ℕ, ◌<◌, ◌≤◌, Bool, true, false, ◌&&◌, not, List, [], ◌++◌, length, take, drop, Option, Some, None, option_map, ap, sym, subst, ◌∙◌, if◌then◌else◌, refl, true≢false, arith}
use Rattle.std.specs.Prelude.{IsTrue, Contains, filter_map}
use Rattle.std.proofs.lemmas.Bool.{and_parts}
use Rattle.std.proofs.lemmas.List.{take_all, take-append-le, take-append-drop, take-take}
use Rattle.std.proofs.lemmas.List.Elements.{Contains-append_left, filter_map-append}
use Rattle.chk_bytes.specs.Numbers.{spelled}
use Rattle.chk_bytes.specs.Stems.{Stem, is_stem}
use Rattle.chk_site.specs.declared.acts.Role.{Role}
use Rattle.chk_site.specs.declared.acts.Role.TheVariants.{Agent, Collector, Job, Writer}
use Rattle.chk_site.specs.declared.acts.Who.{Who}
use Rattle.chk_site.specs.declared.acts.ActAnswer.{ActAnswer}
use Rattle.chk_site.specs.Files.{File, Files, Grown, made, grown, secured, shortened}
use Rattle.chk_site.specs.Acts.{Deed, Starts, ReadsLog, AsksNewest, GrowsLog, Creates, Appends, Syncs, Renames, Removes, Cuts, AsksSize, Reads, Lists, AsksClock, Pauses, Sends, Gets, Takes, TakesMore, Answers, Says, deed, change_of, is_done, tail_of, same_role}
use Rattle.chk_site.specs.Effect.{with_tail, TailFits}
use Rattle.chk_site.specs.History.{Step, History, files_after}
use Rattle.chk_seqfile.specs.Entries.{IsSequenceFile, records_of}
use Rattle.chk_seqfile.specs.Headers.{read_header, read_front, read_fields, read_class}
use Rattle.chk_seqfile.proofs.FileLemmas.{records_of-append}
use Rattle.chk_chunk.specs.Keys.{Chunk, chunk_limit}
use Rattle.chk_world.specs.Names.{Name, BornFile, SinkFile, MarkFile, DoneFile, CheckFile, BookFile, SegmentFile, Temporary, OtherFile, read, spell, file, is_known, owns, owns_by}
use Rattle.chk_world.specs.Books.{chunk_of, chunks_within}
use Rattle.chk_world.specs.Committed.{OnFile, HasFile, IsAbsent, IsWhole, IsNumber, number_in, committed_of, chunks_below}
use Rattle.chk_world.specs.Collectors.{CollectorRule, view, MayRemove, MayRename, IsCommitted, IsCurrent, DoneAtItsMark, MarkIsSyncedLength}
use Rattle.chk_world.specs.Jobs.{IsSaved, OnlyArchivedSinksRemoved, JobRule}
use Rattle.chk_world.specs.Rules.{Framed, Obeys, RoleMay, RenameFits, is_fixed, is_small, is_sink, may_remove}
use Rattle.chk_world.specs.Laws.{wrote, IsDoneSink, IsOpenSink, IsMark, Shape}
use Rattle.chk_world.proofs.NameTests.{same_name, name_same, stem_self, named, applied, moved_named, bridge}
use Rattle.chk_world.proofs.Outcomes.{CameTo, whole, nothing, junk, Leaves, went_on, was_stopped, leaves}
use Rattle.chk_world.proofs.Kept.{sync_same, no_tail_fits, on_file}
use Rattle.chk_world.proofs.Stops.{no_work}
use Rattle.chk_world.proofs.SmallFiles.{came_good, publication}

-- ---- the chunks of a front

pub no_records : records_of [] ≡ []
unfolding records_of read_header read_front read_fields read_class
no_records = refl

pub none_in : {X : Type 0} (x : X) → Contains [] x → ⊥
none_in x c = let below = c.1 in omega arith

-- a chunk of the first n bytes of what was written, which are whole records
pub record InFront (written : List ℕ) (n : ℕ) (c : Chunk) : Type 0 where
  pub some : 0 < n
  pub within : n ≤ length written
  pub form : IsSequenceFile (take n written)
  pub one : Contains (chunks_within chunk_limit (take n written)) c

pub nothing_below : (bytes : List ℕ) (n : ℕ) (c : Chunk) → n ≡ 0 → Contains (chunks_within chunk_limit (take n bytes)) c → ⊥
nothing_below bytes n c e one =
    none_in c
    (subst (λ rs. Contains (filter_map (chunk_of chunk_limit) rs) c) no_records
    (subst (λ k. Contains (chunks_within chunk_limit (take k bytes)) c) e one))

pub more_than : (n : ℕ) → (n ≡ 0 → ⊥) → 0 < n
more_than n other = grind (arith, other)

pub in_sink : (written : List ℕ) (n : ℕ) (o : Option File) (c : Chunk) → n ≤ length written → OnFile o (IsOpenSink written n)
    → Contains (chunks_below n o) c → InFront written n c
in_sink written n None c within h one = absurd (none_in c one)
in_sink written n (Some f) c within (inl e) one = absurd (nothing_below f.bytes n c e one)
in_sink written n (Some f) c within (inr safe) one = record {
  some = more_than n (λ e. nothing_below f.bytes n c e one);
  within = within;
  form = subst IsSequenceFile safe.front safe.chunks.form;
  one = subst (λ l. Contains (chunks_within chunk_limit l) c) safe.front one;
}

pub in_done : (written : List ℕ) (n : ℕ) (f : File) (c : Chunk) → n ≡ length f.bytes → n ≤ length written → IsDoneSink written f
    → Contains (chunks_within chunk_limit (take n f.bytes)) c → InFront written n c
in_done written n f c e within done one =
    let all : take n f.bytes ≡ f.bytes = take_all n f.bytes (omega (arith, e)) in
    let front : f.bytes ≡ take n written = done.front ∙ ap (λ k. take k written) (sym e) in
    record {
      some = more_than n (λ z. nothing_below f.bytes n c z one);
      within = within;
      form = subst IsSequenceFile front done.chunks.form;
      one = subst (λ l. Contains (chunks_within chunk_limit l) c) (all ∙ front) one;
    }

-- a longer front has it too
pub still_in : (written more : List ℕ) (n n' : ℕ) (c : Chunk) → InFront written n c → n ≤ n'
    → Contains (chunks_within chunk_limit (take n' (written ++ more))) c
still_in written more n n' c h le =
    let longer = take n' (written ++ more) in
    let front : take n longer ≡ take n written = take-take n n' (written ++ more) le ∙ take-append-le n written more h.within in
    let parted : take n written ++ drop n longer ≡ longer = ap (λ l. l ++ drop n longer) (sym front) ∙ take-append-drop n longer in
    subst (λ l. Contains (chunks_within chunk_limit l) c) parted
    (subst (λ rs. Contains (filter_map (chunk_of chunk_limit) rs) c) (sym (records_of-append (take n written) (drop n longer) h.form))
    (subst (λ cs. Contains cs c) (sym (filter_map-append (chunk_of chunk_limit) (records_of (take n written)) _))
    (Contains-append_left (chunks_within chunk_limit (take n written)) _ c h.one)))

pub below_sink : (written : List ℕ) (n : ℕ) (f : File) (c : Chunk) → 0 < n → IsOpenSink written n f
    → Contains (chunks_within chunk_limit (take n written)) c → Contains (chunks_within chunk_limit (take n f.bytes)) c
below_sink written n f c some (inl e) one = absurd (let z : ⊥ = omega (arith, some, e) in z)
below_sink written n f c some (inr safe) one = subst (λ l. Contains (chunks_within chunk_limit l) c) (sym safe.front) one

pub below_done : (written : List ℕ) (n : ℕ) (f : File) (c : Chunk) → n ≡ length f.bytes → IsDoneSink written f
    → Contains (chunks_within chunk_limit (take n written)) c → Contains (chunks_within chunk_limit (take n f.bytes)) c
below_done written n f c e done one =
    let all : take n f.bytes ≡ f.bytes = take_all n f.bytes (omega (arith, e)) in
    let front : f.bytes ≡ take n written = done.front ∙ ap (λ k. take k written) (sym e) in
    subst (λ l. Contains (chunks_within chunk_limit l) c) (sym (all ∙ front)) one

-- ---- what becomes of a sink's files

-- the sink is done, or it is under writing with a mark
pub data IsHeld (s m d : Option File) (n : ℕ) : Type 0 where
  at_done : (f : File) → d ≡ Some f → n ≡ length f.bytes → IsHeld s m d n
  at_sink : (f g : File) → d ≡ None → s ≡ Some f → m ≡ Some g → n ≡ spelled g.bytes → IsHeld s m d n

-- at least so much is committed of the one or the other; or it was saved
pub data Persists (saved : Type 0) (s m d : Option File) (n : ℕ) : Type 0 where
  on_sink : (f : File) → s ≡ Some f → n ≤ committed_of d m → Persists saved s m d n
  on_done : (f : File) → d ≡ Some f → n ≤ committed_of d m → Persists saved s m d n
  was_saved : saved → Persists saved s m d n

abbrev pub Stays : Option File → Option File → Type 0
Stays s s' = (f : File) → s ≡ Some f → (g : File) × (s' ≡ Some g)

benign : (saved : Type 0) (s m d s' m' d' : Option File) (n : ℕ) → Stays s s' → m' ≡ m → d' ≡ d → IsHeld s m d n → Persists saved s' m' d' n
benign saved s m d s' m' d' n stay em ed (at_done f e k) = on_done f (ed ∙ e) (rw (ed, e) (omega (arith, k)))
benign saved s m d s' m' d' n stay em ed (at_sink f g none e mark k) =
    let p = stay f e in on_sink p.0 p.1 (rw (ed, none, em, mark) (omega (arith, k)))

if_stays : (b : Bool) (s : Option File) (g : Option File → Option File) → ((f : File) → (h : File) × (g (Some f) ≡ Some h)) → Stays s (if b then g s else s)
if_stays true s g keeps f e = let p = keeps f in (p.0, ap g e ∙ p.1)
if_stays false s g keeps f e = (f, e)

tail_stays : (s : Option File) (tail : Option (List ℕ)) → Stays s (option_map (with_tail tail) s)
tail_stays s tail f e = (with_tail tail f, ap (option_map (with_tail tail)) e)

-- ---- whose the calls on them are

sink_owner : (role : Role) (name : List ℕ) (x : Stem) → owns_by role name (SinkFile x) ≡ true → role ≡ Collector
sink_owner Collector name x h = refl
sink_owner Agent name x h = absurd (true≢false (sym h))
sink_owner Job name x h = absurd (true≢false (sym h))
sink_owner Writer name x h = absurd (true≢false (sym h))

pub mark_owner : (role : Role) (name : List ℕ) (x : Stem) → owns_by role name (MarkFile x) ≡ true → role ≡ Collector
mark_owner Collector name x h = refl
mark_owner Agent name x h = absurd (true≢false (sym h))
mark_owner Job name x h = absurd (true≢false (sym h))
mark_owner Writer name x h = absurd (true≢false (sym h))

is_job : (role : Role) → same_role role Job ≡ true → role ≡ Job
is_job Job h = refl
is_job Agent h = absurd (true≢false (sym h))
is_job Collector h = absurd (true≢false (sym h))
is_job Writer h = absurd (true≢false (sym h))

absent_not : (o : Option File) (f : File) → IsAbsent o → o ≡ Some f → ⊥
absent_not None f a e = absurd (cc)
absent_not (Some g) f a e = a

fixed_apart : (n m : Name) → is_fixed n ≡ true → not (is_fixed m) ≡ true → same_name n m ≡ false
fixed_apart n m fixed loose = go (same_name n m) refl
  where
    both : (b : Bool) → b ≡ true → not b ≡ true → ⊥
    both true e k = true≢false (sym k)
    both false e k = true≢false (sym e)

    go : (b : Bool) → same_name n m ≡ b → b ≡ false
    go false e = refl
    go true e = absurd (both (is_fixed m) (ap is_fixed (sym (name_same n m e)) ∙ fixed) loose)

-- which renames there are
to_sink : (before : Files) (old : Name) (x : Stem) → RenameFits before old (SinkFile x) → ⊥
to_sink before (SinkFile y) x h = true≢false (ap is_sink h)
to_sink before (BornFile c) x h = h
to_sink before (MarkFile y) x h = h
to_sink before (DoneFile y) x h = h
to_sink before (CheckFile source) x h = h
to_sink before (BookFile folder) x h = h
to_sink before (SegmentFile folder k) x h = h
to_sink before (Temporary m) x h = h
to_sink before (OtherFile w) x h = h

to_done : (before : Files) (old : Name) (x : Stem) → RenameFits before old (DoneFile x) → old ≡ SinkFile x
to_done before (SinkFile y) x h = ap SinkFile (same_done y x h)
  where
    stem_in : Name → Stem
    stem_in (DoneFile z) = z
    stem_in n = y

    same_done : (y x : Stem) → DoneFile x ≡ DoneFile y → y ≡ x
    same_done a b e = sym (ap stem_in e)
to_done before (BornFile c) x h = absurd h
to_done before (MarkFile y) x h = absurd h
to_done before (DoneFile y) x h = absurd h
to_done before (CheckFile source) x h = absurd h
to_done before (BookFile folder) x h = absurd h
to_done before (SegmentFile folder k) x h = absurd h
to_done before (Temporary m) x h = absurd h
to_done before (OtherFile w) x h = absurd h

from_fixed : (before : Files) (n new : Name) → is_fixed n ≡ true → RenameFits before n new → ⊥
from_fixed before (SinkFile y) new fixed h = true≢false (sym fixed)
from_fixed before (BornFile c) new fixed h = h
from_fixed before (MarkFile y) new fixed h = h
from_fixed before (DoneFile y) new fixed h = h
from_fixed before (CheckFile source) new fixed h = h
from_fixed before (BookFile folder) new fixed h = h
from_fixed before (SegmentFile folder k) new fixed h = true≢false (sym fixed)
from_fixed before (Temporary m) new fixed h = true≢false (sym fixed)
from_fixed before (OtherFile w) new fixed h = true≢false (sym fixed)

to_mark : (before : Files) (old : Name) (x : Stem) → RenameFits before old (MarkFile x) → old ≡ Temporary (MarkFile x)
to_mark before (SinkFile y) x h = absurd (true≢false (ap is_small h))
to_mark before (BornFile c) x h = absurd h
to_mark before (MarkFile y) x h = absurd h
to_mark before (DoneFile y) x h = absurd h
to_mark before (CheckFile source) x h = absurd h
to_mark before (BookFile folder) x h = absurd h
to_mark before (SegmentFile folder k) x h = h.0
to_mark before (Temporary m) x h = h.0
to_mark before (OtherFile w) x h = h.0

-- a rename moves a file that is there
moved_there : (f : File) (old new : Name) (files : Name → Option File) (n : Name) → same_name n new ≡ true → moved_named (Some f) old new files n ≡ Some f
moved_there f old new files n e = ap (λ b. if b then Some f else if same_name n old then None else files n) e

moved_away : (t : Option File) (old new : Name) (files : Name → Option File) (n : Name) → same_name n new ≡ false → same_name n old ≡ false
    → moved_named t old new files n ≡ files n
moved_away None old new files n e d = refl
moved_away (Some f) old new files n e d =
    ap (λ b. if b then Some f else if same_name n old then None else files n) e ∙ ap (λ b. if b then None else files n) d

module _ (stamped : List (List ℕ)) (history : History) (step : Step) (obeys : Obeys stamped history step) (x : Stem) (n : ℕ)
    (shape_is : Shape history x) where
  abbrev fb : Name → Option File
  fb m = file (files_after history) m

  abbrev who : Who
  who = step.act.who

  -- the done sink was removed by the job, which had saved it
  abbrev Saved : Type 0
  Saved = (f : File) × (file (files_after history) (DoneFile x) ≡ Some f) × (who.role ≡ Job) × IsSaved history f

  abbrev Held : Type 0
  Held = IsHeld (fb (SinkFile x)) (fb (MarkFile x)) (fb (DoneFile x)) n

  abbrev After : (Name → Option File) → Type 0
  After files = Persists Saved (files (SinkFile x)) (files (MarkFile x)) (files (DoneFile x)) n

  marks_whole : OnFile (fb (MarkFile x)) IsWhole
  marks_whole = on_file (fb (MarkFile x)) (λ f (m : IsMark f). m.0.0) shape_is.mark

  dones_whole : OnFile (fb (DoneFile x)) IsWhole
  dones_whole = on_file (fb (DoneFile x)) (λ f (d : IsDoneSink (wrote x history) f). d.whole) shape_is.done

  -- a change of one file that isn't fixed
  loose : (m : Name) (g : Option File → Option File) → ((f : File) → (h : File) × (g (Some f) ≡ Some h)) → not (is_fixed m) ≡ true → Held
      → After (λ k. if same_name k m then g (fb k) else fb k)
  loose m g keeps free held =
      benign Saved (fb (SinkFile x)) (fb (MarkFile x)) (fb (DoneFile x)) _ _ _ n
      (if_stays (same_name (SinkFile x) m) (fb (SinkFile x)) g keeps)
      (ap (λ b. if b then g (fb (MarkFile x)) else fb (MarkFile x)) (fixed_apart (MarkFile x) m refl free))
      (ap (λ b. if b then g (fb (DoneFile x)) else fb (DoneFile x)) (fixed_apart (DoneFile x) m refl free)) held

  secures : (m : Name) → Held → After (λ k. if same_name k m then option_map secured (fb k) else fb k)
  secures m held =
      benign Saved (fb (SinkFile x)) (fb (MarkFile x)) (fb (DoneFile x)) _ _ _ n
      (if_stays (same_name (SinkFile x) m) (fb (SinkFile x)) (option_map secured) (λ f. (secured f, refl)))
      (sync_same (same_name (MarkFile x) m) (fb (MarkFile x)) marks_whole)
      (sync_same (same_name (DoneFile x) m) (fb (DoneFile x)) dones_whole) held

  collector_call : (call : Deed) → deed step.act ≡ call → who.role ≡ Collector → CollectorRule who history (view who history) call
  collector_call call is role = subst (CollectorRule who history (view who history)) is (subst (λ r. RoleMay stamped r history step) role obeys.rule)

  -- a removal
  removes : (w : List ℕ) → deed step.act ≡ Removes w → IsTrue (may_remove who (read w)) → Held
      → After (λ k. if same_name k (read w) then None else fb k)
  removes w is may held = go (same_name (SinkFile x) (read w)) (same_name (MarkFile x) (read w)) (same_name (DoneFile x) (read w)) refl refl refl held
    where
      Now : Bool → Bool → Bool → Type 0
      Now a b c = Persists Saved (if a then None else fb (SinkFile x)) (if b then None else fb (MarkFile x)) (if c then None else fb (DoneFile x)) n

      collected : (m : Name) → same_name m (read w) ≡ true → who.role ≡ Collector → MayRemove (files_after history) m
      collected m e role = subst (MayRemove (files_after history)) (sym (name_same m (read w) e)) (collector_call (Removes w) is role)

      may_at : (m : Name) → same_name m (read w) ≡ true → IsTrue (may_remove who m)
      may_at m e = subst (λ k. IsTrue (may_remove who k)) (sym (name_same m (read w) e)) may

      saved : (f : File) → fb (DoneFile x) ≡ Some f → same_name (DoneFile x) (read w) ≡ true → Saved
      saved f there e =
          let job = is_job who.role (may_at (DoneFile x) e) in
          let rule : JobRule stamped history (Removes w) = subst (JobRule stamped history) is (subst (λ r. RoleMay stamped r history step) job obeys.rule) in
          (f, there, job, subst (λ o. OnFile o (IsSaved history)) there (subst (λ m. OnlyArchivedSinksRemoved history m) (sym (name_same (DoneFile x) (read w) e)) rule.1))

      go : (a b c : Bool) → same_name (SinkFile x) (read w) ≡ a → same_name (MarkFile x) (read w) ≡ b → same_name (DoneFile x) (read w) ≡ c → Held → Now a b c
      go a b true ea eb ec (at_done f there k) = was_saved (saved f there ec)
      go a b false ea eb ec (at_done f there k) = on_done f there (rw there (omega (arith, k)))
      go true b c ea eb ec (at_sink f g none sink mark k) =
          let role = sink_owner who.role who.name x (and_parts (owns who (SinkFile x)) true (may_at (SinkFile x) ea)).0 in
          absurd (absent_not (fb (MarkFile x)) g (collected (SinkFile x) ea role) mark)
      go false true c ea eb ec (at_sink f g none sink mark k) =
          let role = mark_owner who.role who.name x (may_at (MarkFile x) eb) in
          absurd (absent_not (fb (SinkFile x)) f (collected (MarkFile x) eb role) sink)
      go false false c ea eb ec (at_sink f g none sink mark k) = on_sink f sink (left c)
        where
          left : (c : Bool) → n ≤ committed_of (if c then None else fb (DoneFile x)) (fb (MarkFile x))
          left true = rw mark (omega (arith, k))
          left false = rw (none, mark) (omega (arith, k))

  -- after the step the chunk's file is as it is to be, and a done sink is whole
  record Turned (files : Name → Option File) : Type 0 where
    persists : After files
    done_whole : OnFile (files (DoneFile x)) IsWhole

  same_done : (files : Name → Option File) → files (DoneFile x) ≡ fb (DoneFile x) → OnFile (files (DoneFile x)) IsWhole
  same_done files e = subst (λ o. OnFile o IsWhole) (sym e) dones_whole

  as_it_was : (files : Name → Option File) → files (SinkFile x) ≡ fb (SinkFile x) → files (MarkFile x) ≡ fb (MarkFile x)
      → files (DoneFile x) ≡ fb (DoneFile x) → Held → Turned files
  as_it_was files es em ed held = record {
    persists = benign Saved (fb (SinkFile x)) (fb (MarkFile x)) (fb (DoneFile x)) _ _ _ n (λ f e. (f, es ∙ e)) em ed held;
    done_whole = same_done files ed;
  }

  -- the mark is there, and the sink has its length
  sized : (g : File) (o : Option File) → HasFile o (λ m. IsCommitted (spelled m.bytes) g)
      → (m : File) × (o ≡ Some m) × (length g.bytes ≡ spelled m.bytes) × (g.synced ≡ spelled m.bytes)
  sized g None h = absurd h
  sized g (Some m) h = (m, refl, h.0, h.1)

  on_both : (P : File → File → Type 0) (o p : Option File) (f g : File) → o ≡ Some f → p ≡ Some g → OnFile o (λ a. OnFile p (λ b. P a b)) → P f g
  on_both P None p f g eo ep h = absurd (cc)
  on_both P (Some a) None f g eo ep h = absurd (cc)
  on_both P (Some a) (Some b) f g eo ep h =
      let ea : a ≡ f = cc in
      let eb : b ≡ g = cc in
      subst (λ a. P a g) ea (subst (P a) eb h)

  -- a sink that is done
  closes : (g : File) (old new : List ℕ) → deed step.act ≡ Renames old new → read old ≡ SinkFile x → read new ≡ DoneFile x → who.role ≡ Collector
      → fb (read old) ≡ Some g → Held → Turned (moved_named (Some g) (read old) (read new) fb)
  closes g old new is from to role there held =
      let rule : MayRename (view who history) (files_after history) (read old) (read new) = collector_call (Renames old new) is role in
      let done : DoneAtItsMark (files_after history) x x =
      subst (λ m. MayRename (view who history) (files_after history) (SinkFile x) m) to
      (subst (λ m. MayRename (view who history) (files_after history) m (read new)) from rule) in
      let sink : fb (SinkFile x) ≡ Some g = ap fb (sym from) ∙ there in
      let s = sized g (fb (MarkFile x)) (subst (λ o. OnFile o (λ f. HasFile (fb (MarkFile x)) (λ m. IsCommitted (spelled m.bytes) f))) sink done.1) in
      let put : moved_named (Some g) (read old) (read new) fb (DoneFile x) ≡ Some g =
      moved_there g (read old) (read new) fb (DoneFile x) (ap (same_name (DoneFile x)) to ∙ stem_self x) in
      record {
        persists = on_done g put (rw put (enough s.0 s.1 s.2 held));
        done_whole = subst (λ o. OnFile o IsWhole) (sym put) (s.3 ∙ sym s.2);
      }
    where
      enough : (m : File) → fb (MarkFile x) ≡ Some m → length g.bytes ≡ spelled m.bytes → Held → n ≤ length g.bytes
      enough m em e (at_done f there k) =
          let same = on_both (λ m f. spelled m.bytes ≡ length f.bytes) (fb (MarkFile x)) (fb (DoneFile x)) m f em there shape_is.mark_of_done in
          omega (arith, e, k, same)
      enough m em e (at_sink f h none sink mark k) =
          let same : spelled m.bytes ≡ spelled h.bytes = ap number_in (sym em ∙ mark) in
          omega (arith, e, k, same)

  -- a mark that is published
  marks : (g : File) (old new : List ℕ) → deed step.act ≡ Renames old new → read old ≡ Temporary (MarkFile x) → read new ≡ MarkFile x → who.role ≡ Collector
      → fb (read old) ≡ Some g → Held → Turned (moved_named (Some g) (read old) (read new) fb)
  marks g old new is from to role there held =
      let files = moved_named (Some g) (read old) (read new) fb in
      let put : files (MarkFile x) ≡ Some g = moved_there g (read old) (read new) fb (MarkFile x) (ap (same_name (MarkFile x)) to ∙ stem_self x) in
      let sink_same : files (SinkFile x) ≡ fb (SinkFile x) =
      moved_away (Some g) (read old) (read new) fb (SinkFile x) (ap (same_name (SinkFile x)) to) (ap (same_name (SinkFile x)) from) in
      let done_same : files (DoneFile x) ≡ fb (DoneFile x) =
      moved_away (Some g) (read old) (read new) fb (DoneFile x) (ap (same_name (DoneFile x)) to) (ap (same_name (DoneFile x)) from) in
      record { persists = go files put sink_same done_same held; done_whole = same_done files done_same }
    where
      rule : MarkIsSyncedLength (view who history) (files_after history) x x
      rule =
          subst (λ m. MayRename (view who history) (files_after history) (Temporary (MarkFile x)) m) to
          (subst (λ m. MayRename (view who history) (files_after history) m (read new)) from (collector_call (Renames old new) is role))

      reaches : (f : File) → fb (SinkFile x) ≡ Some f → length f.bytes ≡ spelled g.bytes
      reaches f sink =
          let next : fb (Temporary (MarkFile x)) ≡ Some g = ap fb (sym from) ∙ there in
          let p = subst (λ o. OnFile o (λ t. IsNumber t × (96 ≤ spelled t.bytes) × HasFile (fb (SinkFile x))
          (λ s. IsCommitted (spelled t.bytes) s × IsCurrent (view who history).current x (λ cur. Unit {0})))) next rule.1 in
          (subst (λ o. HasFile o (λ s. IsCommitted (spelled g.bytes) s × IsCurrent (view who history).current x (λ cur. Unit {0}))) sink p.2).0.0

      go : (files : Name → Option File) → files (MarkFile x) ≡ Some g → files (SinkFile x) ≡ fb (SinkFile x) → files (DoneFile x) ≡ fb (DoneFile x) → Held → After files
      go files put es ed (at_done f there k) = on_done f (ed ∙ there) (rw (ed, there) (omega (arith, k)))
      go files put es ed (at_sink f h none sink mark k) =
          let within = on_both (λ m f. spelled m.bytes ≤ length f.bytes) (fb (MarkFile x)) (fb (SinkFile x)) h f mark sink shape_is.mark_within in
          let reach = reaches f sink in
          on_sink f (es ∙ sink) (rw (ed, none, put) (omega (arith, k, within, reach)))

  renames : (old new : List ℕ) → deed step.act ≡ Renames old new → IsTrue (owns who (read old) && owns who (read new))
      → RenameFits (files_after history) (read old) (read new) → (t : Option File) → fb (read old) ≡ t → Held
      → Turned (moved_named t (read old) (read new) fb)
  renames old new is mine fits None there held = as_it_was (moved_named None (read old) (read new) fb) refl refl refl held
  renames old new is mine fits (Some g) there held = go (same_name (SinkFile x) (read old)) (same_name (MarkFile x) (read new)) refl refl
    where
      both : IsTrue (owns who (read old)) × IsTrue (owns who (read new))
      both = and_parts (owns who (read old)) (owns who (read new)) mine

      not_so : (b : Bool) → (b ≡ true → ⊥) → b ≡ false
      not_so true h = absurd (h refl)
      not_so false h = refl

      go : (a b : Bool) → same_name (SinkFile x) (read old) ≡ a → same_name (MarkFile x) (read new) ≡ b → Turned (moved_named (Some g) (read old) (read new) fb)
      go true b ea eb =
          let from : read old ≡ SinkFile x = sym (name_same (SinkFile x) (read old) ea) in
          let to : read new ≡ DoneFile x = subst (λ m. RenameFits (files_after history) m (read new)) from fits in
          closes g old new is from to (sink_owner who.role who.name x (subst (λ m. IsTrue (owns who m)) from both.0)) there held
      go false true ea eb =
          let to : read new ≡ MarkFile x = sym (name_same (MarkFile x) (read new) eb) in
          let from = to_mark (files_after history) (read old) x (subst (RenameFits (files_after history) (read old)) to fits) in
          marks g old new is from to (mark_owner who.role who.name x (subst (λ m. IsTrue (owns who m)) to both.1)) there held
      go false false ea eb =
          let new_sink = not_so (same_name (SinkFile x) (read new)) (λ e. to_sink (files_after history) (read old) x
          (subst (RenameFits (files_after history) (read old)) (sym (name_same (SinkFile x) (read new) e)) fits)) in
          let new_done = not_so (same_name (DoneFile x) (read new)) (λ e.
          let from = to_done (files_after history) (read old) x (subst (RenameFits (files_after history) (read old)) (sym (name_same (DoneFile x) (read new) e)) fits) in
          true≢false (sym (ap (same_name (SinkFile x)) from ∙ stem_self x) ∙ ea)) in
          let old_fixed : (m : Name) → is_fixed m ≡ true → same_name m (read old) ≡ false =
          λ m fixed. not_so (same_name m (read old)) (λ e. from_fixed (files_after history) m (read new) fixed
          (subst (λ k. RenameFits (files_after history) k (read new)) (sym (name_same m (read old) e)) fits)) in
          as_it_was (moved_named (Some g) (read old) (read new) fb)
          (moved_away (Some g) (read old) (read new) fb (SinkFile x) new_sink ea)
          (moved_away (Some g) (read old) (read new) fb (MarkFile x) eb (old_fixed (MarkFile x) refl))
          (moved_away (Some g) (read old) (read new) fb (DoneFile x) new_done (old_fixed (DoneFile x) refl)) held

  loose_turn : (m : Name) (g : Option File → Option File) → ((f : File) → (h : File) × (g (Some f) ≡ Some h)) → not (is_fixed m) ≡ true → Held
      → Turned (λ k. if same_name k m then g (fb k) else fb k)
  loose_turn m g keeps free held = record {
    persists = loose m g keeps free held;
    done_whole = same_done (λ k. if same_name k m then g (fb k) else fb k)
        (ap (λ b. if b then g (fb (DoneFile x)) else fb (DoneFile x)) (fixed_apart (DoneFile x) m refl free));
  }

  dropped_whole : (b : Bool) → OnFile (if b then None else fb (DoneFile x)) IsWhole
  dropped_whole true = tt
  dropped_whole false = dones_whole

  whole_turn : (call : Deed) → deed step.act ≡ call → Framed who (files_after history) call → Held → Turned (applied (named (change_of call)) fb)
  whole_turn (Creates w) is framed held =
      loose_turn (read w) made (λ f. (f, refl)) (and_parts (owns who (read w)) (not (is_fixed (read w))) framed).1 held
  whole_turn (Appends w piece) is framed held =
      loose_turn (read w) (option_map (grown piece)) (λ f. (grown piece f, refl)) (and_parts (owns who (read w)) (not (is_fixed (read w))) framed).1 held
  whole_turn (Cuts w k) is framed held =
      loose_turn (read w) (option_map (shortened k)) (λ f. (shortened k f, refl)) (and_parts (owns who (read w)) (not (is_fixed (read w))) framed).1 held
  whole_turn (Syncs w) is framed held = record {
    persists = secures (read w) held;
    done_whole = same_done (applied (named (change_of (Syncs w))) fb) (sync_same (same_name (DoneFile x) (read w)) (fb (DoneFile x)) dones_whole);
  }
  whole_turn (Removes w) is framed held = record { persists = removes w is framed held; done_whole = dropped_whole (same_name (DoneFile x) (read w)) }
  whole_turn (Renames old new) is framed held = renames old new is framed.0 framed.1 (fb (read old)) refl held
  whole_turn Starts is framed held = as_it_was fb refl refl refl held
  whole_turn (ReadsLog path part at max) is framed held = as_it_was fb refl refl refl held
  whole_turn (AsksNewest path) is framed held = as_it_was fb refl refl refl held
  whole_turn (GrowsLog path piece) is framed held = as_it_was fb refl refl refl held
  whole_turn (AsksSize w) is framed held = as_it_was fb refl refl refl held
  whole_turn (Reads w at max) is framed held = as_it_was fb refl refl refl held
  whole_turn (Lists w) is framed held = as_it_was fb refl refl refl held
  whole_turn AsksClock is framed held = as_it_was fb refl refl refl held
  whole_turn (Pauses k) is framed held = as_it_was fb refl refl refl held
  whole_turn (Sends m address bytes) is framed held = as_it_was fb refl refl refl held
  whole_turn (Gets m) is framed held = as_it_was fb refl refl refl held
  whole_turn (Takes door wait) is framed held = as_it_was fb refl refl refl held
  whole_turn (TakesMore t) is framed held = as_it_was fb refl refl refl held
  whole_turn (Answers t bytes) is framed held = as_it_was fb refl refl refl held
  whole_turn (Says bytes) is framed held = as_it_was fb refl refl refl held

  along : (files others : Name → Option File) → others (SinkFile x) ≡ files (SinkFile x) → others (MarkFile x) ≡ files (MarkFile x)
      → others (DoneFile x) ≡ files (DoneFile x) → Turned files → Turned others
  along files others es em ed t = record {
    persists = rw (es, em, ed) t.persists;
    done_whole = subst (λ o. OnFile o IsWhole) (sym ed) t.done_whole;
  }

  module _ (known : IsTrue (is_stem x)) where
    came_turn : (d : Bool) (after : Files) → CameTo (deed step.act) d (files_after history) after → Held → Turned (file after)
    came_turn d after (whole e) held =
        let call = deed step.act in
        let at : (m : Name) → IsTrue (is_known m) → file after m ≡ applied (named (change_of call)) fb m =
        λ m k. e (spell m) ∙ bridge (change_of call) (files_after history) m k in
        along (applied (named (change_of call)) fb) (file after) (at (SinkFile x) known) (at (MarkFile x) known) (at (DoneFile x) known)
        (whole_turn call refl obeys.own_files held)
    came_turn d after (nothing not_done e) held =
        as_it_was (file after) (e (spell (SinkFile x))) (e (spell (MarkFile x))) (e (spell (DoneFile x))) held
    came_turn d after (junk w piece bytes is not_done e) held =
        let framed = subst (Framed who (files_after history)) is obeys.own_files in
        let at : (m : Name) → IsTrue (is_known m) → file after m ≡ applied (named (Grown w bytes)) fb m =
        λ m k. e (spell m) ∙ bridge (Grown w bytes) (files_after history) m k in
        along (applied (named (Grown w bytes)) fb) (file after) (at (SinkFile x) known) (at (MarkFile x) known) (at (DoneFile x) known)
        (loose_turn (read w) (option_map (grown bytes)) (λ f. (grown bytes f, refl)) (and_parts (owns who (read w)) (not (is_fixed (read w))) framed).1 held)

    mark_whole : (d : Bool) (after : Files) → CameTo (deed step.act) d (files_after history) after → OnFile (file after (MarkFile x)) IsWhole
    mark_whole d after came =
        came_good (MarkFile x) refl known (λ o. OnFile o IsWhole) (λ o w. w) who (λ may. tt) (files_after history) (deed step.act) d after came obeys.own_files
        (λ old new is r f there.
        let p = publication stamped history step old new (MarkFile x) obeys is r refl in
        subst (λ o. OnFile o IsWhole) there (subst (λ m. OnFile (fb m) IsWhole) (sym p.from) p.whole_is)) marks_whole

    tailed : (s m d s' m' d' : Option File) → Stays s s' → m' ≡ m → d' ≡ d → Persists Saved s m d n → Persists Saved s' m' d' n
    tailed s m d s' m' d' stay em ed (on_sink f e le) = let p = stay f e in on_sink p.0 p.1 (rw (em, ed) le)
    tailed s m d s' m' d' stay em ed (on_done f e le) = on_done f (ed ∙ e) (rw (em, ed) le)
    tailed s m d s' m' d' stay em ed (was_saved h) = was_saved h

    leaves_turn : (answer : ActAnswer) (after : Files) → Leaves (deed step.act) answer (files_after history) after → Held → After (file after)
    leaves_turn answer after (went_on no_stop came) held = (came_turn (is_done answer) after came held).persists
    leaves_turn answer after (was_stopped left is middle came tails) held =
        let t = came_turn false middle came held in
        let still : (m : Name) → IsTrue (is_known m) → is_fixed m ≡ true → OnFile (file middle m) IsWhole → file after m ≡ file middle m =
        λ m k fixed w.
        (tails (spell m)).0 ∙ no_tail_fits (file middle m) (tail_of left (spell m)) w
        (subst (λ e. TailFits e (tail_of left (spell m)) (file middle m)) (no_work who (files_after history) (deed step.act) m k fixed obeys.own_files) (tails (spell m)).1) in
        tailed (file middle (SinkFile x)) (file middle (MarkFile x)) (file middle (DoneFile x)) (file after (SinkFile x)) (file after (MarkFile x)) (file after (DoneFile x))
        (λ f e. let p = tail_stays (file middle (SinkFile x)) (tail_of left (spell (SinkFile x))) f e in (p.0, (tails (spell (SinkFile x))).0 ∙ p.1))
        (still (MarkFile x) known refl (mark_whole false middle came)) (still (DoneFile x) known refl t.done_whole) t.persists

    pub stays_held : Held → After (file step.files)
    stays_held held =
        let e = obeys.honest.modelled.effect in
        leaves_turn step.act.answer step.files (leaves (deed step.act) step.act.answer (files_after history) step.files e.did e.may e.files_left) held
