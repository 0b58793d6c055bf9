-- The segments that a book names stay as they are, and the archive only grows.
use Rattle.std.proofs.Common.{◌≡◌, ◌⊎◌, inl, inr, ℕ, zero, suc, ◌<◌, ◌≤◌, Bool, true, false, List, [], ◌∷◌, ◌++◌, length, map, Option, Some, None, option_map, ap, sym, subst, ◌∙◌, if◌then◌else◌, refl, true≢false, arith, append_assoc, append-nil, length-append, nat_eq}
use Rattle.std.specs.Prelude.{IsTrue, IsFalse, Contains, Any, slice_index_or, flat_map, unwrap_or, nat_lt}
use Rattle.std.specs.List.{list_all, list_any}
use Rattle.std.proofs.lemmas.Bool.{and_parts, and_from, or_parts, or_right}
use Rattle.std.proofs.lemmas.List.{map-append}
use Rattle.std.proofs.lemmas.List.Folds.{list_all-append}
use Rattle.std.proofs.lemmas.List.Elements.{Contains-append_left, Contains-append_right}
use Rattle.chk_bytes.specs.Words.{joined, BeginsWith}
use Rattle.chk_bytes.specs.Stems.{is_count}
use Rattle.chk_site.specs.declared.acts.Role.{Role}
use Rattle.chk_site.specs.declared.acts.Role.TheVariants.{Agent, Collector, Job, Writer}
use Rattle.chk_site.specs.declared.acts.Who.{Who}
use Rattle.chk_site.specs.declared.acts.ActAnswer.{ActAnswer}
use Rattle.chk_site.specs.Files.{File, Files, Grown, made, grown, secured, shortened}
use Rattle.chk_site.specs.Acts.{Deed, Starts, ReadsLog, AsksNewest, GrowsLog, Creates, Appends, Syncs, Renames, Removes, Cuts, AsksSize, Reads, Lists, AsksClock, Pauses, Sends, Gets, Takes, TakesMore, Answers, Says, deed, change_of, is_done, tail_of}
use Rattle.chk_site.specs.Effect.{in_work, TailFits}
use Rattle.chk_site.specs.History.{Step, History, files_after}
use Rattle.chk_chunk.specs.Keys.{Stream, Chunk, chunk_end, same_data}
use Rattle.chk_world.specs.Names.{Folder, ArchiveFolder, DemuxFolder, JoinedFolder, Name, BookFile, SegmentFile, Temporary, read, spell, file, is_known, owns, owns_by}
use Rattle.chk_world.specs.Books.{Segment, Book, Version, is_segment, segments_rise, is_end, ends_rise, is_aside, fits_version, is_book, read_book, empty_book, book_in, book_of, segment_chunks, chunks_in, chunks_named, chunks_of_stream, values, aside_in}
use Rattle.chk_world.specs.Committed.{OnFile, HasFile, IsWhole, archive_of_stream, archived_end, aside_chunks}
use Rattle.chk_world.specs.Jobs.{segment_list, all_segments, IsSource, AreParts, IsSoundSegment, BookNamesSyncedSegments, Grows, chunks_after, NewBook, is_named, touches_named, MayPublishBook, JobRule}
use Rattle.chk_world.specs.Rules.{Framed, Legal, RoleMay, may_remove}
use Rattle.chk_world.specs.Laws.{IsWholeBook, ArchiveGrows}
use Rattle.chk_world.specs.Streams.{Founding, founding, or_else, start_at, start_of}
use Rattle.chk_world.proofs.Ends.{bytes_self}
use Rattle.chk_world.proofs.NameTests.{nat_self, same_name, name_same, named, named_test, applied, moved_named, bridge}
use Rattle.chk_world.proofs.Outcomes.{CameTo, whole, nothing, junk, Leaves, went_on, was_stopped, leaves}
use Rattle.chk_world.proofs.Kept.{no_tail_fits, on_file}
use Rattle.chk_world.proofs.SpelledLemmas.{book_so}
use Rattle.chk_world.proofs.SmallFiles.{step_good, publication, book_owner, readable}

-- ---- what is in a list

pub all_in : {X : Type 0} (p : X → Bool) (xs : List X) (x : X) → list_all p xs ≡ true → Contains xs x → p x ≡ true
all_in p xs x all c = go xs c.0 all c.1 c.2
  where
    go : (xs : List _) (k : ℕ) → list_all p xs ≡ true → k < length xs → slice_index_or xs k x ≡ x → p x ≡ true
    go [] k all below at = absurd (let z : ⊥ = omega arith in z)
    go (y ∷ ys) zero all below at = subst (λ z. p z ≡ true) at (and_parts (p y) (list_all p ys) all).0
    go (y ∷ ys) (suc k) all below at = go ys k (and_parts (p y) (list_all p ys) all).1 (omega arith) at

any_in : {X : Type 0} (p : X → Bool) (xs : List X) (x : X) → Contains xs x → p x ≡ true → list_any p xs ≡ true
any_in p xs x c h = go xs c.0 c.1 c.2
  where
    go : (xs : List _) (k : ℕ) → k < length xs → slice_index_or xs k x ≡ x → list_any p xs ≡ true
    go [] k below at = absurd (let z : ⊥ = omega arith in z)
    go (y ∷ ys) zero below at = rw (ap p at ∙ h) refl
    go (y ∷ ys) (suc k) below at = or_right (p y) (list_any p ys) (go ys k (omega arith) at)

pub none_in : {X : Type 0} (x : X) → Contains [] x → ⊥
none_in x c = let below = c.1 in omega arith

pub flat_same : {X A : Type 0} (f g : X → List A) (xs : List X) → ((x : X) → Contains xs x → f x ≡ g x) → flat_map f xs ≡ flat_map g xs
flat_same f g [] same = refl
flat_same f g (x ∷ xs) same =
    ap (λ l. l ++ flat_map f xs) (same x (0, omega arith, refl))
    ∙ ap (λ l. g x ++ l) (flat_same f g xs (λ y c. same y (suc c.0, omega (arith, c.1), c.2)))

pub joined_append : (xs ys : List (List ℕ)) → joined (xs ++ ys) ≡ joined xs ++ joined ys
joined_append [] ys = refl
joined_append (x ∷ xs) ys = ap (λ l. x ++ l) (joined_append xs ys) ∙ sym (append_assoc x (joined xs) (joined ys))

pub values_append : (cs ds : List Chunk) → values (cs ++ ds) ≡ values cs ++ values ds
values_append cs ds = ap joined (map-append (λ (c : Chunk). c.value) cs ds) ∙ joined_append (map (λ (c : Chunk). c.value) cs) (map (λ (c : Chunk). c.value) ds)

-- ---- the segments of a book have numbers that can be spelled

all_segments_are : (v : Version) (b : Book) → IsTrue (is_book v b) → list_all (is_segment b.next) (all_segments b) ≡ true
all_segments_are v b h =
    let p1 = and_parts (is_count b.next) _ h in
    let p2 = and_parts (nat_lt (length b.segments) 4294967296) _ p1.1 in
    let p3 = and_parts (list_all (is_segment b.next) b.segments) _ p2.1 in
    let p4 = and_parts (segments_rise b.segments) _ p3.1 in
    let p5 = and_parts (nat_lt (length b.ends) 4294967296) _ p4.1 in
    let p6 = and_parts (list_all is_end b.ends) _ p5.1 in
    let p7 = and_parts (ends_rise b.ends) _ p6.1 in
    let p8 = and_parts (is_aside b.next b.segments b.aside) (fits_version v b) p7.1 in
    list_all-append (is_segment b.next) b.segments (segment_list b.aside) ∙ and_from _ _ p3.0 (aside_is b.aside p8.0)
  where
    aside_is : (o : Option Segment) → is_aside b.next b.segments o ≡ true → list_all (is_segment b.next) (segment_list o) ≡ true
    aside_is None e = refl
    aside_is (Some g) e = and_from _ _ (and_parts (is_segment b.next g) _ e).0 refl

segment_counts : (b : Book) (bytes : List ℕ) (g : Segment) → read_book bytes ≡ Some b → Contains (all_segments b) g → IsTrue (is_count g.number)
segment_counts b bytes g is c =
    let so = book_so bytes b is in
    (and_parts (is_count g.number) _ (all_in (is_segment b.next) (all_segments b) g (all_segments_are so.0 b so.1) c)).0

-- of the book that stands in a file
pub book_is : (o : Option File) (f : File) (b : Book) → o ≡ Some f → read_book f.bytes ≡ Some b → book_in o ≡ b
book_is o f b e is = ap book_in e ∙ ap (λ r. unwrap_or r empty_book) is

pub counts_in : (o : Option File) → OnFile o IsWholeBook → (g : Segment) → Contains (all_segments (book_in o)) g → IsTrue (is_count g.number)
counts_in None w g c = absurd (none_in g c)
counts_in (Some f) w g c =
    segment_counts w.book f.bytes g w.is (subst (λ (b : Book). Contains (all_segments b) g) (book_is (Some f) f w.book refl w.is) c)

-- ---- a file that a step avoids

abbrev pub Avoids : Name → Deed → Type 0
Avoids n (Creates w) = same_name n (read w) ≡ false
Avoids n (Appends w piece) = same_name n (read w) ≡ false
Avoids n (Syncs w) = same_name n (read w) ≡ false
Avoids n (Removes w) = same_name n (read w) ≡ false
Avoids n (Cuts w k) = same_name n (read w) ≡ false
Avoids n (Renames old new) = (same_name n (read old) ≡ false) × (same_name n (read new) ≡ false)
Avoids n call = Unit {0}

module _ (n : Name) (known : IsTrue (is_known n)) (before : Files) where
  mapped : (m : Name) (g : Option File → Option File) → same_name n m ≡ false → (if same_name n m then g (file before n) else file before n) ≡ file before n
  mapped m g e = ap (λ b. if b then g (file before n) else file before n) e

  moved_away : (old new : Name) (t : Option File) → same_name n old ≡ false → same_name n new ≡ false → moved_named t old new (file before) n ≡ file before n
  moved_away old new None p q = refl
  moved_away old new (Some f) p q =
      ap (λ b. if b then Some f else if same_name n old then None else file before n) q ∙ ap (λ b. if b then None else file before n) p

  whole_stays : (call : Deed) → Avoids n call → applied (named (change_of call)) (file before) n ≡ file before n
  whole_stays (Creates w) a = mapped (read w) made a
  whole_stays (Appends w piece) a = mapped (read w) (option_map (grown piece)) a
  whole_stays (Syncs w) a = mapped (read w) (option_map secured) a
  whole_stays (Removes w) a = mapped (read w) (λ o. None) a
  whole_stays (Cuts w k) a = mapped (read w) (option_map (shortened k)) a
  whole_stays (Renames old new) a = moved_away (read old) (read new) (file before (read old)) a.0 a.1
  whole_stays Starts a = refl
  whole_stays (ReadsLog path part at max) a = refl
  whole_stays (AsksNewest path) a = refl
  whole_stays (GrowsLog path piece) a = refl
  whole_stays (AsksSize w) a = refl
  whole_stays (Reads w at max) a = refl
  whole_stays (Lists w) a = refl
  whole_stays AsksClock a = refl
  whole_stays (Pauses k) a = refl
  whole_stays (Sends m address bytes) a = refl
  whole_stays (Gets m) a = refl
  whole_stays (Takes door wait) a = refl
  whole_stays (TakesMore t) a = refl
  whole_stays (Answers t bytes) a = refl
  whole_stays (Says bytes) a = refl

  came_stays : (call : Deed) (d : Bool) (after : Files) → CameTo call d before after → Avoids n call → file after n ≡ file before n
  came_stays call d after (whole e) a = e (spell n) ∙ bridge (change_of call) before n known ∙ whole_stays call a
  came_stays call d after (nothing not_done e) a = e (spell n)
  came_stays call d after (junk w piece bytes is not_done e) a =
      e (spell n) ∙ bridge (Grown w bytes) before n known ∙ mapped (read w) (option_map (grown bytes)) (subst (Avoids n) is a)

  idle : (call : Deed) → Avoids n call → in_work call (spell n) ≡ 0
  idle (Appends w piece) a = ap (λ b. if b then length piece else 0) (named_test n known w ∙ a)
  idle call a = refl

  pub avoids_stays : (call : Deed) (answer : ActAnswer) (after : Files) → Leaves call answer before after → Avoids n call → OnFile (file before n) IsWhole
      → file after n ≡ file before n
  avoids_stays call answer after (went_on no_stop came) a w = came_stays call (is_done answer) after came a
  avoids_stays call answer after (was_stopped left is middle came tails) a w =
      let there = came_stays call false middle came a in
      let fits : TailFits 0 (tail_of left (spell n)) (file middle n) =
      subst (λ k. TailFits k (tail_of left (spell n)) (file middle n)) (idle call a) (tails (spell n)).1 in
      (tails (spell n)).0 ∙ no_tail_fits (file middle n) (tail_of left (spell n)) (subst (λ o. OnFile o IsWhole) (sym there) w) fits ∙ there

-- ---- a named segment

segment_owner : (role : Role) (name : List ℕ) (folder : Folder) (k : ℕ) → owns_by role name (SegmentFile folder k) ≡ true → role ≡ Job
segment_owner Job name folder k h = refl
segment_owner Agent name folder k h = absurd (true≢false (sym h))
segment_owner Collector name folder k h = absurd (true≢false (sym h))
segment_owner Writer name folder k h = absurd (true≢false (sym h))

module _ (folder : Folder) (k : ℕ) (who : Who) (before : Files) (is : is_named before (SegmentFile folder k) ≡ true) where
  -- a name that the process may change, and that the job leaves where it is named
  apart : (m : Name) → (same_name (SegmentFile folder k) m ≡ true → IsTrue (owns who m)) → (who.role ≡ Job → is_named before m ≡ false)
      → same_name (SegmentFile folder k) m ≡ false
  apart m mine left = go (same_name (SegmentFile folder k) m) refl
    where
      go : (b : Bool) → same_name (SegmentFile folder k) m ≡ b → b ≡ false
      go false e = refl
      go true e =
          let n = name_same (SegmentFile folder k) m e in
          let owned = subst (λ m. IsTrue (owns who m)) (sym n) (mine e) in
          absurd (true≢false (sym is ∙ (ap (is_named before) n ∙ left (segment_owner who.role who.name folder k owned))))

  avoided : (call : Deed) → Framed who before call → (who.role ≡ Job → IsFalse (touches_named before call)) → Avoids (SegmentFile folder k) call
  avoided (Creates w) framed left = apart (read w) (λ e. (and_parts (owns who (read w)) _ framed).0) left
  avoided (Appends w piece) framed left = apart (read w) (λ e. (and_parts (owns who (read w)) _ framed).0) left
  avoided (Syncs w) framed left = apart (read w) (λ e. framed) left
  avoided (Cuts w n) framed left = apart (read w) (λ e. (and_parts (owns who (read w)) _ framed).0) left
  avoided (Removes w) framed left =
      apart (read w)
      (λ e. subst (λ m. IsTrue (owns who m)) (name_same (SegmentFile folder k) (read w) e)
      (and_parts (owns who (SegmentFile folder k)) true (subst (λ m. IsTrue (may_remove who m)) (sym (name_same (SegmentFile folder k) (read w) e)) framed)).0) left
  avoided (Renames old new) framed left =
      let both = and_parts (owns who (read old)) (owns who (read new)) framed.0 in (
        apart (read old) (λ e. both.0) (λ j. (or_parts (is_named before (read old)) (is_named before (read new)) (left j)).0),
        apart (read new) (λ e. both.1) (λ j. (or_parts (is_named before (read old)) (is_named before (read new)) (left j)).1),
      )
  avoided Starts framed left = tt
  avoided (ReadsLog path part at max) framed left = tt
  avoided (AsksNewest path) framed left = tt
  avoided (GrowsLog path piece) framed left = tt
  avoided (AsksSize w) framed left = tt
  avoided (Reads w at max) framed left = tt
  avoided (Lists w) framed left = tt
  avoided AsksClock framed left = tt
  avoided (Pauses n) framed left = tt
  avoided (Sends m address bytes) framed left = tt
  avoided (Gets m) framed left = tt
  avoided (Takes door wait) framed left = tt
  avoided (TakesMore t) framed left = tt
  avoided (Answers t bytes) framed left = tt
  avoided (Says bytes) framed left = tt

-- ---- what a legal step does to a book

pub record NewlyPublished (stamped : List (List ℕ)) (folder : Folder) (history : History) (step : Step) (o : Option File) : Type 0 where
  pub f : File
  pub book : Book
  pub there : o ≡ Some f
  pub is : read_book f.bytes ≡ Some book
  pub good : NewBook stamped folder history book
  pub old : List ℕ
  pub new : List ℕ
  pub call : deed step.act ≡ Renames old new
  pub from : read old ≡ Temporary (BookFile folder)
  pub to : read new ≡ BookFile folder

-- the book is as it was, or a good new one
pub record BookAfter (stamped : List (List ℕ)) (folder : Folder) (history : History) (step : Step) (o : Option File) : Type 0 where
  pub sound : OnFile o IsWhole
  pub outcome : (o ≡ file (files_after history) (BookFile folder)) ⊎ NewlyPublished stamped folder history step o

pub book_after : (stamped : List (List ℕ)) (folder : Folder) (history : History) (step : Step) → Legal stamped (step ∷ history)
    → BookAfter stamped folder history step (file step.files (BookFile folder))
book_after stamped folder history step legal =
    step_good stamped history step (BookFile folder) refl refl (BookAfter stamped folder history step) (λ o g. g.sound)
    (λ may. absurd (true≢false (sym (and_parts (owns step.act.who (BookFile folder)) false may).1))) legal.1 published
    (record { sound = on_file (file (files_after history) (BookFile folder)) (λ f (w : IsWholeBook f). w.whole) ((readable stamped history legal.0).books folder); outcome = inl refl })
  where
    good_in : (o : Option File) (f : File) → o ≡ Some f → OnFile o IsWhole
        → OnFile o (λ f. (b : Book) × (read_book f.bytes ≡ Some b) × NewBook stamped folder history b)
        → (old new : List ℕ) → deed step.act ≡ Renames old new → read old ≡ Temporary (BookFile folder) → read new ≡ BookFile folder
        → BookAfter stamped folder history step (Some f)
    good_in None f e w p old new call from to = absurd (cc)
    good_in (Some g) f e w p old new call from to =
        subst (BookAfter stamped folder history step) e
        (record {
          sound = w;
          outcome = inr (record { f = g; book = p.0; there = refl; is = p.1; good = p.2; old = old; new = new; call = call; from = from; to = to });
        })

    published : (old new : List ℕ) → deed step.act ≡ Renames old new → read new ≡ BookFile folder → (f : File)
        → file (files_after history) (read old) ≡ Some f → BookAfter stamped folder history step (Some f)
    published old new is r f there =
        let p = publication stamped history step old new (BookFile folder) legal.1 is r refl in
        let who = step.act.who in
        let job = book_owner who.role who.name folder p.owned in
        let rule : JobRule stamped history (deed step.act) = subst (λ role. RoleMay stamped role history step) job legal.1.rule in
        let may : MayPublishBook stamped history (read old) (read new) = (subst (JobRule stamped history) is rule).1 in
        good_in (file (files_after history) (read old)) f there
        (subst (λ m. OnFile (file (files_after history) m) IsWhole) (sym p.from) p.whole_is)
        (subst (MayPublishBook stamped history (read old)) r may) old new is p.from r

-- ---- sound segments

-- each segment that a book names is there, with its length, all synced
abbrev pub NamedAreSound : Folder → Files → Type 0
NamedAreSound folder files = (g : Segment) → Contains (all_segments (book_of files folder)) g
    → HasFile (file files (SegmentFile folder g.number)) (IsSoundSegment folder g)

sound_whole : (folder : Folder) (g : Segment) (o : Option File) → HasFile o (IsSoundSegment folder g) → OnFile o IsWhole
sound_whole folder g None h = absurd h
sound_whole folder g (Some f) h = h.synced_is ∙ sym h.length_is

module _ (stamped : List (List ℕ)) (folder : Folder) (history : History) (step : Step) (legal : Legal stamped (step ∷ history)) where
  abbrev left_so : Leaves (deed step.act) step.act.answer (files_after history) step.files
  left_so =
      let e = legal.1.honest.modelled.effect in
      leaves (deed step.act) step.act.answer (files_after history) step.files e.did e.may e.files_left

  pub segment_stays : NamedAreSound folder (files_after history) → (g : Segment) → Contains (all_segments (book_of (files_after history) folder)) g
      → file step.files (SegmentFile folder g.number) ≡ file (files_after history) (SegmentFile folder g.number)
  segment_stays sound g c =
      let n = SegmentFile folder g.number in
      let is : is_named (files_after history) n ≡ true =
      any_in (λ h. nat_eq h.number g.number) (all_segments (book_of (files_after history) folder)) g c (grind arith) in
      let known : IsTrue (is_known n) =
      counts_in (file (files_after history) (BookFile folder)) ((readable stamped history legal.0).books folder) g c in
      avoids_stays n known (files_after history) (deed step.act) step.act.answer step.files left_so
      (avoided folder g.number step.act.who (files_after history) is (deed step.act) legal.1.own_files
      (λ job. (subst (λ role. RoleMay stamped role history step) job legal.1.rule).0))
      (sound_whole folder g (file (files_after history) n) (sound g c))

  -- the segments of a new book
  pub new_stays : (p : NewlyPublished stamped folder history step (file step.files (BookFile folder))) → BookNamesSyncedSegments folder history p.book
      → (g : Segment) → Contains (all_segments p.book) g
      → file step.files (SegmentFile folder g.number) ≡ file (files_after history) (SegmentFile folder g.number)
  new_stays p names g c =
      let n = SegmentFile folder g.number in
      avoids_stays n (segment_counts p.book p.f.bytes g p.is c) (files_after history) (deed step.act) step.act.answer step.files left_so
      (subst (Avoids n) (sym p.call) (rw p.from refl, rw p.to refl))
      (sound_whole folder g (file (files_after history) n) (names.sound g c))

pub names_segments : (stamped : List (List ℕ)) (folder : Folder) (history : History) (b : Book) → NewBook stamped folder history b
    → BookNamesSyncedSegments folder history b
names_segments stamped ArchiveFolder history b n = n.0
names_segments stamped DemuxFolder history b n = n.0
names_segments stamped JoinedFolder history b n = n

pub named_sound : (stamped : List (List ℕ)) (history : History) → Legal stamped history → (folder : Folder) → NamedAreSound folder (files_after history)
named_sound stamped [] legal folder g c = absurd (none_in g c)
named_sound stamped (step ∷ history) legal folder g c =
    go (named_sound stamped history legal.0 folder) (book_after stamped folder history step legal).outcome
  where
    go : NamedAreSound folder (files_after history)
        → (file step.files (BookFile folder) ≡ file (files_after history) (BookFile folder))
        ⊎ NewlyPublished stamped folder history step (file step.files (BookFile folder))
        → HasFile (file step.files (SegmentFile folder g.number)) (IsSoundSegment folder g)
    go before (inl same) =
        let c' = subst (λ o. Contains (all_segments (book_in o)) g) same c in
        subst (λ o. HasFile o (IsSoundSegment folder g)) (sym (segment_stays stamped folder history step legal before g c')) (before g c')
    go before (inr p) =
        let names = names_segments stamped folder history p.book p.good in
        let c' = subst (λ (b : Book). Contains (all_segments b) g) (book_is _ p.f p.book p.there p.is) c in
        subst (λ o. HasFile o (IsSoundSegment folder g)) (sym (new_stays stamped folder history step legal p names g c')) (names.sound g c')

-- ---- the archive

-- what is stored under a book is the same in files that agree on its segments
pub chunks_same : (files others : Files) (folder : Folder) (b : Book)
    → ((g : Segment) → Contains (all_segments b) g → file files (SegmentFile folder g.number) ≡ file others (SegmentFile folder g.number))
    → chunks_named files folder b ≡ chunks_named others folder b
chunks_same files others folder b same =
    flat_same (segment_chunks files folder) (segment_chunks others folder) b.segments
    (λ g c. ap chunks_in (same g (Contains-append_left b.segments (segment_list b.aside) g c)))

-- the archive of a stream is as it was, or has parts behind it
pub data ArchiveAfter (history : History) (step : Step) (s : Stream) : Type 0 where
  same_archive : archive_of_stream step.files s ≡ archive_of_stream (files_after history) s → ArchiveAfter history step s
  with_parts : (parts : List Chunk) → archive_of_stream step.files s ≡ archive_of_stream (files_after history) s ++ values parts
      → AreParts (files_after history) s (archived_end history s) parts → ArchiveAfter history step s

pub archive_after : (stamped : List (List ℕ)) (history : History) (step : Step) → Legal stamped (step ∷ history) → (s : Stream)
    → ArchiveAfter history step s
archive_after stamped history step legal s = go (book_after stamped ArchiveFolder history step legal).outcome
  where
    before : NamedAreSound ArchiveFolder (files_after history)
    before = named_sound stamped history legal.0 ArchiveFolder

    go : (file step.files (BookFile ArchiveFolder) ≡ file (files_after history) (BookFile ArchiveFolder))
        ⊎ NewlyPublished stamped ArchiveFolder history step (file step.files (BookFile ArchiveFolder))
        → ArchiveAfter history step s
    go (inl same) =
        let as_before = chunks_same step.files (files_after history) ArchiveFolder (book_of (files_after history) ArchiveFolder)
        (λ g c. segment_stays stamped ArchiveFolder history step legal before g c) in
        same_archive (ap (λ o. values (chunks_of_stream s (chunks_named step.files ArchiveFolder (book_in o)))) same
        ∙ ap (λ cs. values (chunks_of_stream s cs)) as_before)
    go (inr p) =
        let grows : Grows history s (chunks_after history p.book s) = p.good.1.each s in
        let as_before = chunks_same step.files (files_after history) ArchiveFolder p.book
        (λ g c. new_stays stamped ArchiveFolder history step legal p p.good.0 g c) in
        with_parts grows.parts
        (ap (λ b. values (chunks_of_stream s (chunks_named step.files ArchiveFolder b))) (book_is _ p.f p.book p.there p.is)
        ∙ (ap (λ cs. values (chunks_of_stream s cs)) as_before
        ∙ (ap values grows.are ∙ (values_append grows.old grows.parts ∙ ap (λ l. l ++ values grows.parts) grows.same)))) grows.new

-- a legal step keeps the archive of each stream, and adds to it
pub archive_grows : (stamped : List (List ℕ)) (history : History) (step : Step) → Legal stamped (step ∷ history) → (s : Stream)
    → BeginsWith (archive_of_stream step.files s) (archive_of_stream (files_after history) s)
archive_grows stamped history step legal s = go (archive_after stamped history step legal s)
  where
    go : ArchiveAfter history step s → BeginsWith (archive_of_stream step.files s) (archive_of_stream (files_after history) s)
    go (same_archive same) = ([], same ∙ sym (append-nil (archive_of_stream (files_after history) s)))
    go (with_parts parts is are) = (values parts, is)

-- the start of a stream is known once and for all
pub start_less : (first later : Option Founding) → start_at first ≤ start_at (or_else first later)
start_less None later = omega arith
start_less (Some f) later = omega arith

longer : (text part : List ℕ) → BeginsWith text part → length part ≤ length text
longer text part begins = omega (arith, ap length begins.1, length-append part begins.0)

pub archives_grow : (stamped : List (List ℕ)) (history : History) (step : Step) → Legal stamped (step ∷ history) → (s : Stream)
    → ArchiveGrows history step s
archives_grow stamped history step legal s =
    let grows = archive_grows stamped history step legal s in
    let more = longer (archive_of_stream step.files s) (archive_of_stream (files_after history) s) grows in
    let start : start_of history s ≤ start_of (step ∷ history) s = start_less (founding history s) _ in
    record { grows = grows; end = omega (arith, more, start) }

-- ---- what is set aside

pub aside_same : (files others : Files) (folder : Folder) (o : Option Segment)
    → ((g : Segment) → Contains (segment_list o) g → file files (SegmentFile folder g.number) ≡ file others (SegmentFile folder g.number))
    → aside_in files folder o ≡ aside_in others folder o
aside_same files others folder None same = refl
aside_same files others folder (Some g) same = ap chunks_in (same g (0, omega arith, refl))

pub data_self : (c : Chunk) → same_data c c ≡ true
data_self c = let s = c.key.stream in rw (bytes_self s.source, bytes_self s.kind, bytes_self s.name, nat_self c.key.seq, bytes_self c.value) refl

-- a chunk that is set aside stays so, or one that is equal in stream, sequence id and data, or it is archived
pub aside_stays : (stamped : List (List ℕ)) (history : History) (step : Step) → Legal stamped (step ∷ history) → (c : Chunk)
    → Contains (aside_chunks (files_after history)) c
    → Any (λ d. IsTrue (same_data c d)) (aside_chunks step.files) ⊎ (chunk_end c ≤ archived_end (step ∷ history) c.key.stream)
aside_stays stamped history step legal c one = go (book_after stamped ArchiveFolder history step legal).outcome
  where
    before : NamedAreSound ArchiveFolder (files_after history)
    before = named_sound stamped history legal.0 ArchiveFolder

    go : (file step.files (BookFile ArchiveFolder) ≡ file (files_after history) (BookFile ArchiveFolder))
        ⊎ NewlyPublished stamped ArchiveFolder history step (file step.files (BookFile ArchiveFolder))
        → Any (λ d. IsTrue (same_data c d)) (aside_chunks step.files) ⊎ (chunk_end c ≤ archived_end (step ∷ history) c.key.stream)
    go (inl same) =
        let b = book_of (files_after history) ArchiveFolder in
        let is : aside_chunks step.files ≡ aside_chunks (files_after history) =
        ap (λ o. aside_in step.files ArchiveFolder (book_in o).aside) same
        ∙ aside_same step.files (files_after history) ArchiveFolder b.aside
        (λ g k. segment_stays stamped ArchiveFolder history step legal before g (Contains-append_right b.segments (segment_list b.aside) g k)) in
        inl (subst (Any (λ d. IsTrue (same_data c d))) (sym is) (one.0, c, one.1, one.2, data_self c))
    go (inr p) =
        let named = book_is (file step.files (BookFile ArchiveFolder)) p.f p.book p.there p.is in
        let stays : (g : Segment) → Contains (all_segments p.book) g → _ = λ g k. new_stays stamped ArchiveFolder history step legal p p.good.0 g k in
        let s = c.key.stream in
        let stored : archive_of_stream step.files s ≡ values (chunks_after history p.book s) =
        ap (λ b. values (chunks_of_stream s (chunks_named step.files ArchiveFolder b))) named
        ∙ ap (λ cs. values (chunks_of_stream s cs)) (chunks_same step.files (files_after history) ArchiveFolder p.book stays) in
        let start : start_of history s ≤ start_of (step ∷ history) s = start_less (founding history s) _ in
        elim (p.good.1.aside_old c one) [
          | inl kept ↦
              let is : aside_chunks step.files ≡ aside_in (files_after history) ArchiveFolder p.book.aside =
              ap (λ (b : Book). aside_in step.files ArchiveFolder b.aside) named
              ∙ aside_same step.files (files_after history) ArchiveFolder p.book.aside
              (λ g k. stays g (Contains-append_right p.book.segments (segment_list p.book.aside) g k)) in
              inl (subst (Any (λ d. IsTrue (same_data c d))) (sym is) kept)
          | inr ends ↦
              let size = ap length stored in
              inr (omega (arith, ends, start, size))
        ]

-- a chunk that is set aside was so, or comes from a done sink
pub aside_source : (stamped : List (List ℕ)) (history : History) (step : Step) → Legal stamped (step ∷ history) → (c : Chunk)
    → Contains (aside_chunks step.files) c → IsSource (files_after history) c
aside_source stamped history step legal c one = go (book_after stamped ArchiveFolder history step legal).outcome
  where
    before : NamedAreSound ArchiveFolder (files_after history)
    before = named_sound stamped history legal.0 ArchiveFolder

    go : (file step.files (BookFile ArchiveFolder) ≡ file (files_after history) (BookFile ArchiveFolder))
        ⊎ NewlyPublished stamped ArchiveFolder history step (file step.files (BookFile ArchiveFolder))
        → IsSource (files_after history) c
    go (inl same) =
        let b = book_of (files_after history) ArchiveFolder in
        let is : aside_chunks step.files ≡ aside_chunks (files_after history) =
        ap (λ o. aside_in step.files ArchiveFolder (book_in o).aside) same
        ∙ aside_same step.files (files_after history) ArchiveFolder b.aside
        (λ g k. segment_stays stamped ArchiveFolder history step legal before g (Contains-append_right b.segments (segment_list b.aside) g k)) in
        inr (subst (λ cs. Contains cs c) is one)
    go (inr p) =
        let named = book_is (file step.files (BookFile ArchiveFolder)) p.f p.book p.there p.is in
        let is : aside_chunks step.files ≡ aside_in (files_after history) ArchiveFolder p.book.aside =
        ap (λ (b : Book). aside_in step.files ArchiveFolder b.aside) named
        ∙ aside_same step.files (files_after history) ArchiveFolder p.book.aside
        (λ g k. new_stays stamped ArchiveFolder history step legal p p.good.0 g (Contains-append_right p.book.segments (segment_list p.book.aside) g k)) in
        p.good.1.aside_new c (subst (λ cs. Contains cs c) is one)
