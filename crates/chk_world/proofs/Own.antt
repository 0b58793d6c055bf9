-- Each call of a sink's own collector that took place keeps the invariant, by names.
use Rattle.std.proofs.Common.{◌≡◌, ◌⊎◌, inl, inr, ⊎_elim, ℕ, ◌+◌, ◌≤◌, ◌<◌, Bool, true, false, ◌&&◌, List, [], ◌++◌, length, is_some, is_none, Option, Some, None, option_map, ap, sym, subst, ◌∙◌, arith, if◌then◌else◌, refl, bytes_eq, append-nil}
use Rattle.std.proofs.lemmas.Option.{same_Some, none-some}
use Rattle.chk_bytes.specs.Numbers.{spelled}
use Rattle.chk_bytes.specs.Stems.{Stem, same_stem}
use Rattle.chk_site.specs.Files.{File, Files, made, grown, secured, shortened}
use Rattle.chk_world.specs.Names.{Name, BornFile, SinkFile, MarkFile, DoneFile, CheckFile, BookFile, SegmentFile, Temporary, OtherFile, file}
use Rattle.chk_world.specs.Committed.{OnFile, HasFile, IsAbsent, IsNumber, number_in}
use Rattle.chk_world.specs.Collectors.{View, Current, IsCurrent, IsCommitted, IsNextPiece, sink_of, next_mark_of, mark_of, either, still, created, made_by, appended_to, is_born_file, SinkNamesFresh, AppendsOnlyToCleanSink, MayRename, MayRemove, MayCut}
use Rattle.chk_world.specs.Laws.{piece_to}
use Rattle.chk_world.proofs.Ends.{bytes_self}
use Rattle.chk_world.proofs.NameTests.{Named, by_stem, applied, Makes, Grows as Longer, Secures, Moves, Drops, Shortens, moved_named}
use Rattle.chk_world.proofs.Forms.{Grows, piece_grows}
use Rattle.chk_world.proofs.Kept.{Kept, more_written, was_made, grew, was_synced, was_cut, sync_same, marks_whole, shut_whole, on_file}
use Rattle.chk_world.proofs.Invariant.{Seen, Inv, IsUnused, weaker, still_less, not_still, appended_from, not_appended, sink_mapped, synced_holds, piece_held, current_of, published, was_closed, was_dropped, was_unmarked}

-- what is known of x and what stands in its files
abbrev pub InvAt : Stem → Seen → Named → Type 0
InvAt x s files = Inv x s (files (SinkFile x)) (files (MarkFile x)) (files (DoneFile x)) (files (BornFile x.collector))

-- what of a view concerns a sink
abbrev pub seen : View → List ℕ → Seen
seen v wr = record { born = v.born; made = v.made; current = v.current; wrote = wr }

module _ (x : Stem) (v : View) (wr : List ℕ) (before : Files) where
  abbrev S : Option File
  S = file before (SinkFile x)

  abbrev M : Option File
  M = file before (MarkFile x)

  abbrev D : Option File
  D = file before (DoneFile x)

  abbrev B : Option File
  B = file before (BornFile x.collector)

  abbrev pub Before : Type 0
  Before = InvAt x (seen v wr) (λ n. file before n)

  -- only the sink that may still be appended to may have changed
  abbrev pub kept_seen : Bool → Option Stem → Seen
  kept_seen well y = record { born = v.born; made = v.made; current = still well y v.current; wrote = wr }

  pub stays : (well : Bool) (y : Option Stem) → Before → Inv x (kept_seen well y) S M D B
  stays well y inv = weaker x (kept_seen well y) (seen v wr) S M D B
      (record { wrote = refl; born = λ b e. e; made = λ b e. omega arith; current = still_less well y v.current }) inv

  abbrev pub made_seen : Bool → Stem → Seen
  made_seen well y = record { born = v.born; made = v.made + 1; current = created (Some y) well v.current; wrote = wr }

  made_current : (well : Bool) (y : Stem) (cur : Current) → created (Some y) well v.current ≡ Some cur → y ≡ cur.stem
  made_current true y cur e = ap (λ (c : Current). c.stem) (same_Some (record { stem = y; sync_end = 0 }) cur e)
  made_current false y cur e = absurd (none-some cur e)

  creates : (well : Bool) (y : Stem) → (v.born ≡ Some y.born) × (y.number ≡ v.made + 1) → Before
      → Inv x (made_seen well y) (if same_stem x y then made S else S) M D B
  creates well y may inv = by_stem x y (λ y b. (v.born ≡ Some y.born) × (y.number ≡ v.made + 1) → Inv x (made_seen well y) (if b then made S else S) M D B)
      (λ m. let a = inv.unused (inr (m.0, omega (arith, m.1))) in record {
        files = empty S a.0 a.1 a.2;
        form = inv.form;
        number = inv.number;
        born_is = inv.born_is;
        unused = λ u. absurd (used m u);
        unwritten = λ u. absurd (used m u);
        holds = λ cur e s. held S a.0 (inv.unwritten (inr (m.0, omega (arith, m.1))));
      })
      (λ differ m. record {
        files = inv.files;
        form = inv.form;
        number = inv.number;
        born_is = inv.born_is;
        unused = λ u. inv.unused (⊎_elim (λ h. inl h) (λ h. inr (h.0, omega (arith, h.1))) u);
        unwritten = λ u. inv.unwritten (⊎_elim (λ h. inl h) (λ h. inr (h.0, omega (arith, h.1))) u);
        holds = λ cur e s. absurd (differ (made_current well y cur e ∙ s));
      }) may
    where
      empty : (o : Option File) → IsAbsent o → IsAbsent M → IsAbsent D → Kept wr (made o) M D
      empty None a b c = was_made wr M D b c
      empty (Some f) a b c = absurd a

      held : (o : Option File) → IsAbsent o → wr ≡ [] → OnFile (made o) (λ f. f.bytes ≡ wr)
      held None a w = sym w
      held (Some f) a w = absurd a

      used : (v.born ≡ Some x.born) × (x.number ≡ v.made + 1) → IsUnused x (made_seen well x) B → ⊥
      used m (inl h) = omega (arith, h, inv.born_is x.born m.0)
      used m (inr h) = omega (arith, h.1, m.1)

  -- the file of a name is made
  pub create_at : (n : Name) (well : Bool) → SinkNamesFresh v n → Before
      → InvAt x (record { born = v.born; made = made_by (sink_of n) v.made; current = created (sink_of n) well (still well (next_mark_of n) v.current); wrote = wr }) (applied (Makes n) (λ m. file before m))
  create_at (SinkFile y) well may inv = creates well y may inv
  create_at (Temporary n) well may inv = stays well (next_mark_of (Temporary n)) inv
  create_at (BornFile c) well may inv = absurd may
  create_at (MarkFile y) well may inv = absurd may
  create_at (DoneFile y) well may inv = absurd may
  create_at (CheckFile c) well may inv = absurd may
  create_at (BookFile f) well may inv = absurd may
  create_at (SegmentFile f n) well may inv = absurd may
  create_at (OtherFile w) well may inv = absurd may

  -- what is known after an append to y
  abbrev pub longer_seen : Bool → Stem → ℕ → List ℕ → List ℕ → Seen
  longer_seen well y size piece wrote = record { born = v.born; made = v.made; current = appended_to (Some y) well size piece v.current; wrote = wrote }

  absent_file : (o : Option File) (P : File → Type 0) → HasFile o P → IsAbsent o → ⊥
  absent_file None P h a = h
  absent_file (Some f) P h a = a

  -- another sink was appended to
  other_append : (o : Option Current) (wr' : List ℕ) → wr' ≡ wr → ((a : Current) → o ≡ Some a → a.stem ≡ x → ⊥) → Before
      → Inv x (record { born = v.born; made = v.made; current = o; wrote = wr' }) S M D B
  other_append o wr' same none inv = record {
    files = subst (λ l. Kept l S M D) (sym same) inv.files;
    form = subst (Grows x) (sym same) inv.form;
    number = inv.number;
    born_is = inv.born_is;
    unused = inv.unused;
    unwritten = λ u. same ∙ inv.unwritten u;
    holds = λ a e s. absurd (none a e s);
  }

  -- the piece that may be appended was, and that was answered
  appends : (y : Stem) (size : ℕ) (piece : List ℕ) (cur : Current) → v.current ≡ Some cur → cur.stem ≡ y
      → HasFile (file before (SinkFile y)) (λ f. IsNextPiece v.handled cur (length f.bytes) piece) → Before
      → Inv x (longer_seen true y size piece (wr ++ (if same_stem x y then piece else []))) (if same_stem x y then option_map (grown piece) S else S) M D B
  appends y size piece cur is of_y next inv =
      by_stem x y (λ y b. cur.stem ≡ y → HasFile (file before (SinkFile y)) (λ f. IsNextPiece v.handled cur (length f.bytes) piece)
      → Inv x (longer_seen true y size piece (wr ++ (if b then piece else []))) (if b then option_map (grown piece) S else S) M D B)
      (λ of_x next. record {
        files = more_written wr piece (option_map (grown piece) S) M D (grew wr S M D piece inv.files);
        form = inr (piece_grows v.handled cur x wr piece of_x inv.form (sized S next (inv.holds cur is of_x)));
        number = inv.number;
        born_is = inv.born_is;
        unused = λ u. absurd (absent_file S (λ f. IsNextPiece v.handled cur (length f.bytes) piece) next (inv.unused u).0);
        unwritten = λ u. absurd (absent_file S (λ f. IsNextPiece v.handled cur (length f.bytes) piece) next (inv.unused u).0);
        holds = λ a e s. piece_held wr piece S (inv.holds cur is of_x);
      })
      (λ differ of_y next. other_append (longer_seen true y size piece (wr ++ [])).current (wr ++ []) (append-nil wr)
      (λ a e s. let from = appended_from (Some y) true size piece v.current a e in
      differ (sym of_y ∙ (ap (λ (c : Current). c.stem) (same_Some cur from.0 (sym is ∙ from.1)) ∙ (from.2 ∙ s)))) inv) of_y next
    where
      sized : (o : Option File) → HasFile o (λ f. IsNextPiece v.handled cur (length f.bytes) piece) → OnFile o (λ f. f.bytes ≡ wr) → IsNextPiece v.handled cur (length wr) piece
      sized None h held = absurd h
      sized (Some f) h held = subst (λ b. IsNextPiece v.handled cur (length b) piece) held h

  -- other bytes in place of the piece, or a piece of which that wasn't answered
  spoils : (y : Stem) (size : ℕ) (piece bytes : List ℕ) → Before
      → Inv x (longer_seen false y size piece wr) (if same_stem x y then option_map (grown bytes) S else S) M D B
  spoils y size piece bytes inv =
      by_stem x y (λ y b. Inv x (longer_seen false y size piece wr) (if b then option_map (grown bytes) S else S) M D B)
      (sink_mapped x (seen v wr) (longer_seen false x size piece wr).current S M D B (grown bytes) inv (grew wr S M D bytes inv.files)
      (λ a e s. absurd (not_appended x size piece v.current a e s)))
      (λ differ. record {
        files = inv.files;
        form = inv.form;
        number = inv.number;
        born_is = inv.born_is;
        unused = inv.unused;
        unwritten = inv.unwritten;
        holds = λ a e s. let from = appended_from (Some y) false size piece v.current a e in inv.holds from.0 from.1 (from.2 ∙ s);
      })

  -- an append that was done, of a piece that may be appended
  pub append_at : (n : Name) (size : ℕ) (piece : List ℕ) → AppendsOnlyToCleanSink v before n piece → Before
      → InvAt x (record { born = v.born; made = v.made; current = appended_to (sink_of n) true size piece (still true (next_mark_of n) v.current); wrote = wr ++ piece_to x n piece })
      (applied (Longer n piece) (λ m. file before m))
  append_at (SinkFile y) size piece may inv = go (file before (SinkFile y)) refl may
    where
      go : (o : Option File) → file before (SinkFile y) ≡ o → HasFile o (λ f. IsCurrent v.current y (λ cur. IsNextPiece v.handled cur (length f.bytes) piece))
          → Inv x (longer_seen true y size piece (wr ++ (if same_stem x y then piece else []))) (if same_stem x y then option_map (grown piece) S else S) M D B
      go None e h = absurd h
      go (Some f) e h =
          let c = current_of v.current y h in
          appends y size piece c.0 c.1 c.2 (subst (λ o. HasFile o (λ f. IsNextPiece v.handled c.0 (length f.bytes) piece)) (sym e) c.3) inv
  append_at (Temporary n) size piece may inv =
      subst (λ l. Inv x (record { born = v.born; made = v.made; current = still true (next_mark_of (Temporary n)) v.current; wrote = l }) S M D B) (sym (append-nil wr))
      (stays true (next_mark_of (Temporary n)) inv)
  append_at (BornFile c) size piece may inv = absurd may
  append_at (MarkFile y) size piece may inv = absurd may
  append_at (DoneFile y) size piece may inv = absurd may
  append_at (CheckFile c) size piece may inv = absurd may
  append_at (BookFile f) size piece may inv = absurd may
  append_at (SegmentFile f n) size piece may inv = absurd may
  append_at (OtherFile w) size piece may inv = absurd may

  -- an append that wasn't done, and left these bytes
  pub spoil_at : (n : Name) (size : ℕ) (piece bytes : List ℕ) → AppendsOnlyToCleanSink v before n piece → Before
      → InvAt x (record { born = v.born; made = v.made; current = appended_to (sink_of n) false size piece (still false (next_mark_of n) v.current); wrote = wr })
      (applied (Longer n bytes) (λ m. file before m))
  spoil_at (SinkFile y) size piece bytes may inv = spoils y size piece bytes inv
  spoil_at (Temporary n) size piece bytes may inv = stays false (next_mark_of (Temporary n)) inv
  spoil_at (BornFile c) size piece bytes may inv = absurd may
  spoil_at (MarkFile y) size piece bytes may inv = absurd may
  spoil_at (DoneFile y) size piece bytes may inv = absurd may
  spoil_at (CheckFile c) size piece bytes may inv = absurd may
  spoil_at (BookFile f) size piece bytes may inv = absurd may
  spoil_at (SegmentFile f n) size piece bytes may inv = absurd may
  spoil_at (OtherFile w) size piece bytes may inv = absurd may

  syncs : (well : Bool) (y : Stem) → Before → Inv x (kept_seen well (Some y)) (if same_stem x y then option_map secured S else S) M D B
  syncs well y inv =
      by_stem x y (λ y b. Inv x (kept_seen well (Some y)) (if b then option_map secured S else S) M D B)
      (sink_mapped x (seen v wr) (still well (Some x) v.current) S M D B secured inv (was_synced wr S M D inv.files)
      (synced_holds x (kept_seen well (Some x)) S (λ a e. inv.holds a (still_less well (Some x) v.current a e))))
      (λ differ. stays well (Some y) inv)

  pub sync_at : (n : Name) (well : Bool) → Before → InvAt x (kept_seen well (either (sink_of n) (next_mark_of n))) (applied (Secures n) (λ m. file before m))
  sync_at (SinkFile y) well inv = syncs well y inv
  sync_at (Temporary n) well inv = stays well (next_mark_of (Temporary n)) inv
  sync_at (BornFile c) well inv =
      subst (λ b. Inv x (kept_seen well None) S M D b) (sym (sync_same (bytes_eq x.collector c) B (on_file B (λ f h. h.0) inv.number))) (stays well None inv)
  sync_at (MarkFile y) well inv =
      subst (λ m. Inv x (kept_seen well None) S m D B) (sym (sync_same (same_stem x y) M (marks_whole wr S M D inv.files))) (stays well None inv)
  sync_at (DoneFile y) well inv =
      subst (λ d. Inv x (kept_seen well None) S M d B) (sym (sync_same (same_stem x y) D (shut_whole wr S M D inv.files))) (stays well None inv)
  sync_at (CheckFile c) well inv = stays well None inv
  sync_at (BookFile f) well inv = stays well None inv
  sync_at (SegmentFile f n) well inv = stays well None inv
  sync_at (OtherFile w) well inv = stays well None inv

  cuts : (y : Stem) (k : ℕ) → HasFile (file before (MarkFile y)) (λ m. spelled m.bytes ≡ k) → Before
      → Inv x (kept_seen false (Some y)) (if same_stem x y then option_map (shortened k) S else S) M D B
  cuts y k may inv =
      by_stem x y (λ y b. HasFile (file before (MarkFile y)) (λ m. spelled m.bytes ≡ k) → Inv x (kept_seen false (Some y)) (if b then option_map (shortened k) S else S) M D B)
      (λ h. sink_mapped x (seen v wr) (still false (Some x) v.current) S M D B (shortened k) inv (was_cut wr S M D k h inv.files)
      (λ a e s. absurd (not_still x v.current a e s)))
      (λ differ h. stays false (Some y) inv) may

  pub cut_at : (n : Name) (k : ℕ) → MayCut before n k → Before → InvAt x (kept_seen false (sink_of n)) (applied (Shortens n k) (λ m. file before m))
  cut_at (SinkFile y) k may inv = cuts y k may inv
  cut_at (Temporary n) k may inv = stays false None inv
  cut_at (BornFile c) k may inv = absurd may
  cut_at (MarkFile y) k may inv = absurd may
  cut_at (DoneFile y) k may inv = absurd may
  cut_at (CheckFile c) k may inv = absurd may
  cut_at (BookFile f) k may inv = absurd may
  cut_at (SegmentFile f n) k may inv = absurd may
  cut_at (OtherFile w) k may inv = absurd may

  drops : (y : Stem) → IsAbsent (file before (MarkFile y)) → Before → Inv x (seen v wr) (if same_stem x y then None else S) M D B
  drops y may inv =
      by_stem x y (λ y b. IsAbsent (file before (MarkFile y)) → Inv x (seen v wr) (if b then None else S) M D B)
      (λ h. was_dropped x (seen v wr) S M D B h inv) (λ differ h. inv) may

  unmarks : (y : Stem) → Before → Inv x (seen v wr) S (if same_stem x y then None else M) D B
  unmarks y inv =
      by_stem x y (λ y b. Inv x (seen v wr) S (if b then None else M) D B) (was_unmarked x (seen v wr) S M D B inv) (λ differ. inv)

  pub remove_at : (n : Name) (well : Bool) → MayRemove before n → Before → InvAt x (kept_seen well (next_mark_of n)) (applied (Drops n) (λ m. file before m))
  remove_at (SinkFile y) well may inv = drops y may inv
  remove_at (MarkFile y) well may inv = unmarks y inv
  remove_at (Temporary n) well may inv = stays well (next_mark_of (Temporary n)) inv
  remove_at (BornFile c) well may inv = absurd may
  remove_at (DoneFile y) well may inv = absurd may
  remove_at (CheckFile c) well may inv = absurd may
  remove_at (BookFile f) well may inv = absurd may
  remove_at (SegmentFile f n) well may inv = absurd may
  remove_at (OtherFile w) well may inv = absurd may

  -- the next mark of y is published, from the file t
  marks : (well : Bool) (z y : Stem) (t : Option File)
      → OnFile t (λ f. IsNumber f × (96 ≤ spelled f.bytes) × HasFile (file before (SinkFile y)) (λ g. IsCommitted (spelled f.bytes) g × IsCurrent v.current y (λ cur. Unit {0})))
      → Before → InvAt x (kept_seen well (Some y)) (moved_named t (Temporary (MarkFile z)) (MarkFile y) (λ m. file before m))
  marks well z y None may inv = stays well (Some y) inv
  marks well z y (Some t) may inv =
      by_stem x y (λ y b. HasFile (file before (SinkFile y)) (λ g. IsCommitted (spelled t.bytes) g × IsCurrent v.current y (λ cur. Unit {0}))
      → Inv x (kept_seen well (Some y)) S (if b then Some t else M) D B)
      (λ h. published x (seen v wr) (still well (Some x) v.current) t S M D B (may.0, may.1) h (still_less well (Some x) v.current) inv)
      (λ differ h. stays well (Some y) inv) may.2

  -- a sink is renamed to its done sink
  closes : (y : Stem) (t : Option File) → file before (SinkFile y) ≡ t → OnFile t (λ f. HasFile (file before (MarkFile y)) (λ m. IsCommitted (spelled m.bytes) f))
      → Before → InvAt x (seen v wr) (moved_named t (SinkFile y) (DoneFile y) (λ m. file before m))
  closes y None is may inv = inv
  closes y (Some f) is may inv =
      by_stem x y (λ y b. file before (SinkFile y) ≡ Some f → HasFile (file before (MarkFile y)) (λ m. IsCommitted (spelled m.bytes) f)
      → Inv x (seen v wr) (if b then None else S) M (if b then Some f else D) B)
      (λ e h. was_closed x (seen v wr) f M D B h (subst (λ s. Inv x (seen v wr) s M D B) e inv)) (λ differ e h. inv) is may

  -- the next start of x's collector is published
  next_born : (t : File) → v.born ≡ None → IsNumber t → spelled t.bytes ≡ number_in B + 1 → Before
      → Inv x (record { born = Some (spelled t.bytes); made = v.made; current = v.current; wrote = wr }) S M D (Some t)
  next_born t none is next inv = record {
    files = inv.files;
    form = inv.form;
    number = is;
    born_is = λ b e. same_Some (spelled t.bytes) b e;
    unused = λ u. inv.unused (inl (earlier u));
    unwritten = λ u. inv.unwritten (inl (earlier u));
    holds = inv.holds;
  }
    where
      earlier : (spelled t.bytes < x.born) ⊎ ((Some (spelled t.bytes) ≡ Some x.born) × (v.made < x.number)) → number_in B < x.born
      earlier (inl h) = omega (arith, h, next)
      earlier (inr h) = omega (arith, next, same_Some (spelled t.bytes) x.born h.0)

  -- what is known of the collector's number, by what the rename found, left and put there
  abbrev pub born_then : Name → Option File → Option File → Option File → Option ℕ
  born_then new found left put = if is_born_file new && (is_some found && is_none left) then Some (number_in put) else v.born

  abbrev pub moved_seen : Bool → Name → Option File → Option File → Option File → Seen
  moved_seen well new found left put = record { born = born_then new found left put; made = v.made; current = still well (mark_of new) v.current; wrote = wr }

  birth : (c : List ℕ) (t found left put : Option File) → c ≡ x.collector → found ≡ t
      → left ≡ moved_named t (Temporary (BornFile c)) (BornFile c) (λ m. file before m) (Temporary (BornFile c))
      → put ≡ moved_named t (Temporary (BornFile c)) (BornFile c) (λ m. file before m) (BornFile c)
      → v.born ≡ None → OnFile t (λ f. IsNumber f × (spelled f.bytes ≡ number_in (file before (BornFile c)) + 1)) → Before
      → Inv x (record { born = if is_some found && is_none left then Some (number_in put) else v.born; made = v.made; current = v.current; wrote = wr }) S M D
      (moved_named t (Temporary (BornFile c)) (BornFile c) (λ m. file before m) (BornFile x.collector))
  birth c None found left put is f l p none may inv = rw (f) inv
  birth c (Some t) found left put is f l p none may inv =
      subst (λ d. left ≡ (if same_born d then None else file before (Temporary (BornFile d)))
      → put ≡ (if bytes_eq d d then Some t else file before (BornFile d))
      → IsNumber t × (spelled t.bytes ≡ number_in (file before (BornFile d)) + 1)
      → Inv x (record { born = if is_some found && is_none left then Some (number_in put) else v.born; made = v.made; current = v.current; wrote = wr }) S M D
      (if bytes_eq x.collector d then Some t else B)) (sym is)
      (λ l p may.
      let here = bytes_self x.collector in
      let l' : left ≡ None = l ∙ ap (λ b. if b then None else file before (Temporary (BornFile x.collector))) here in
      let p' : put ≡ Some t = p ∙ ap (λ b. if b then Some t else B) here in
      rw (f, l', p', here) (next_born t none may.0 may.1 inv))
      l p may
    where
      same_born : List ℕ → Bool
      same_born d = bytes_eq d d

  between : (n m : Name) (t : Option File) (found left put : Option File) (well : Bool) → Before
      → InvAt x (moved_seen well (Temporary m) found left put) (moved_named t (Temporary n) (Temporary m) (λ m. file before m))
  between n m None found left put well inv = inv
  between n m (Some f) found left put well inv = inv

  -- a rename that took place; `found`, `left` and `put` are the files of the old name before and after it, and of the new one
  pub rename_at : (old new : Name) (well : Bool) (found left put : Option File)
      → (old ≡ Temporary (BornFile x.collector) → new ≡ BornFile x.collector → (found ≡ file before old)
      × (left ≡ applied (Moves old new) (λ m. file before m) old) × (put ≡ applied (Moves old new) (λ m. file before m) new))
      → ((d : List ℕ) → new ≡ BornFile d → d ≡ x.collector)
      → MayRename v before old new → Before → InvAt x (moved_seen well new found left put) (applied (Moves old new) (λ m. file before m))
  rename_at (Temporary (BornFile c)) (BornFile d) well found left put known own may inv =
      let is : d ≡ x.collector = own d refl in
      let c_is : c ≡ x.collector = may.0 ∙ is in
      let k = known (ap (λ e. Temporary (BornFile e)) c_is) (ap BornFile is) in
      subst (λ d. (found ≡ file before (Temporary (BornFile c)))
      → (left ≡ moved_named (file before (Temporary (BornFile c))) (Temporary (BornFile c)) (BornFile d) (λ m. file before m) (Temporary (BornFile c)))
      → (put ≡ moved_named (file before (Temporary (BornFile c))) (Temporary (BornFile c)) (BornFile d) (λ m. file before m) (BornFile d))
      → OnFile (file before (Temporary (BornFile c))) (λ f. IsNumber f × (spelled f.bytes ≡ number_in (file before (BornFile d)) + 1))
      → InvAt x (moved_seen well (BornFile d) found left put) (moved_named (file before (Temporary (BornFile c))) (Temporary (BornFile c)) (BornFile d) (λ m. file before m)))
      may.0
      (λ f l p m. at_born c (file before (Temporary (BornFile c))) (birth c (file before (Temporary (BornFile c))) found left put c_is f l p may.1 m inv))
      k.0 k.1 k.2 may.2
    where
      at_born : (c : List ℕ) (t : Option File)
          → Inv x (record { born = if is_some found && is_none left then Some (number_in put) else v.born; made = v.made; current = v.current; wrote = wr }) S M D
          (moved_named t (Temporary (BornFile c)) (BornFile c) (λ m. file before m) (BornFile x.collector))
          → InvAt x (moved_seen well (BornFile c) found left put) (moved_named t (Temporary (BornFile c)) (BornFile c) (λ m. file before m))
      at_born c None i = i
      at_born c (Some f) i = i
  rename_at (Temporary (MarkFile z)) (MarkFile y) well found left put known own may inv = marks well z y (file before (Temporary (MarkFile z))) may.1 inv
  rename_at (SinkFile z) (DoneFile y) well found left put known own may inv =
      subst (λ z. OnFile (file before (SinkFile z)) (λ f. HasFile (file before (MarkFile z)) (λ m. IsCommitted (spelled m.bytes) f))
      → InvAt x (seen v wr) (applied (Moves (SinkFile z) (DoneFile y)) (λ m. file before m))) (sym may.0)
      (λ h. closes y (file before (SinkFile y)) refl h inv) may.1
  rename_at (Temporary n) (Temporary m) well found left put known own may inv = between n m (file before (Temporary n)) found left put well inv
  rename_at _ _ well found left put known own may inv = absurd may
