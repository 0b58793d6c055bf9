-- The invariant of one sink, over the four files that tell of it and what its collector knows of it.
use Rattle.std.proofs.Common.{◌≡◌, ◌⊎◌, inl, inr, ℕ, ◌≤◌, ◌<◌, Bool, true, false, List, [], ◌++◌, ◌||◌, not, length, Option, Some, None, option_map, refl, ap, sym, subst, ◌∙◌, arith, true≢false, if◌then◌else◌}
use Rattle.std.proofs.lemmas.Option.{same_Some, none-some}
use Rattle.chk_bytes.specs.Numbers.{spelled}
use Rattle.chk_bytes.specs.Stems.{Stem, same_stem}
use Rattle.chk_site.specs.Files.{File, grown, secured}
use Rattle.chk_chunk.specs.Keys.{chunk_limit}
use Rattle.chk_world.specs.Books.{AllChunks}
use Rattle.chk_world.specs.Committed.{OnFile, HasFile, IsAbsent, IsNumber, number_in}
use Rattle.chk_world.specs.Collectors.{Current, IsCurrent, IsCommitted, still, appended_to, sync_end_after}
use Rattle.chk_world.specs.Laws.{IsMark}
use Rattle.chk_world.proofs.NameTests.{stem_self}
use Rattle.chk_world.proofs.Forms.{Grows, grown_form, all_chunks}
use Rattle.chk_world.proofs.Kept.{Kept, absent_map, marked, closed, dropped, unmarked, taken_away}

-- what of the view concerns a sink, and what was written to it
pub record Seen : Type 0 where
  pub born : Option ℕ
  pub made : ℕ
  pub current : Option Current
  pub wrote : List ℕ

-- the stem isn't in use yet: it is of a later start, or of this start and not yet made
abbrev pub IsUnused : Stem → Seen → Option File → Type 0
IsUnused x s born = (number_in born < x.born) ⊎ ((s.born ≡ Some x.born) × (s.made < x.number))

-- what the sink holds, where it is the one written to
abbrev pub Holds : Stem → Seen → Option File → Type 0
Holds x s sink = (cur : Current) → s.current ≡ Some cur → cur.stem ≡ x → OnFile sink (λ f. f.bytes ≡ s.wrote)

pub record Inv (x : Stem) (s : Seen) (sink mark shut born : Option File) : Type 0 where
  pub files : Kept s.wrote sink mark shut
  pub form : Grows x s.wrote
  pub number : OnFile born IsNumber
  pub born_is : (b : ℕ) → s.born ≡ Some b → number_in born ≡ b
  pub unused : IsUnused x s born → IsAbsent sink × IsAbsent mark × IsAbsent shut
  pub unwritten : IsUnused x s born → s.wrote ≡ []
  pub holds : Holds x s sink

-- w knows no more than s
pub record IsWeaker (w s : Seen) : Type 0 where
  pub born : (b : ℕ) → w.born ≡ Some b → s.born ≡ Some b
  pub made : (b : ℕ) → w.born ≡ Some b → s.made ≤ w.made
  pub current : (cur : Current) → w.current ≡ Some cur → s.current ≡ Some cur
  pub wrote : w.wrote ≡ s.wrote

still_unused : (x : Stem) (w s : Seen) (born : Option File) → IsWeaker w s → IsUnused x w born → IsUnused x s born
still_unused x w s born less (inl h) = inl h
still_unused x w s born less (inr h) = inr (less.born x.born h.0, omega (arith, less.made x.born h.0, h.1))

pub weaker : (x : Stem) (w s : Seen) (sink mark shut born : Option File) → IsWeaker w s → Inv x s sink mark shut born → Inv x w sink mark shut born
weaker x w s sink mark shut born less inv = record {
  files = subst (λ l. Kept l sink mark shut) (sym less.wrote) inv.files;
  form = subst (Grows x) (sym less.wrote) inv.form;
  number = inv.number;
  born_is = λ b e. inv.born_is b (less.born b e);
  unused = λ u. inv.unused (still_unused x w s born less u);
  unwritten = λ u. less.wrote ∙ inv.unwritten (still_unused x w s born less u);
  holds = λ cur e i. subst (λ l. OnFile sink (λ f. f.bytes ≡ l)) (sym less.wrote) (inv.holds cur (less.current cur e) i);
}

-- the current sink stays it, or there is none
pub still_less : (well : Bool) (y : Option Stem) (o : Option Current) (cur : Current) → still well y o ≡ Some cur → o ≡ Some cur
still_less well None o cur e = e
still_less well (Some y) None cur e = e
still_less well (Some y) (Some a) cur e = go (well || not (same_stem a.stem y)) e
  where
    go : (b : Bool) → (if b then Some a else None) ≡ Some cur → Some a ≡ Some cur
    go true k = k
    go false k = absurd (none-some cur k)

same_stem_is : (a cur : Current) (y : Stem) → Some a ≡ Some cur → cur.stem ≡ y → same_stem a.stem y ≡ true
same_stem_is a cur y e s = ap (λ z. same_stem z y) (ap (λ (c : Current). c.stem) (same_Some a cur e) ∙ s) ∙ stem_self y

-- what a call that failed on its stem's sink leaves: not that sink
pub not_still : (y : Stem) (o : Option Current) (cur : Current) → still false (Some y) o ≡ Some cur → cur.stem ≡ y → ⊥
not_still y None cur e s = none-some cur e
not_still y (Some a) cur e s = go (same_stem a.stem y) refl e
  where
    go : (b : Bool) → same_stem a.stem y ≡ b → (if not b then Some a else None) ≡ Some cur → ⊥
    go true k h = none-some cur h
    go false k h = true≢false (sym (same_stem_is a cur y h s) ∙ k)

-- after an append to y the current sink has the stem that it had
pub appended_from : (y : Option Stem) (well : Bool) (size : ℕ) (piece : List ℕ) (o : Option Current) (cur : Current) → appended_to y well size piece o ≡ Some cur
    → (a : Current) × (o ≡ Some a) × (a.stem ≡ cur.stem)
appended_from None well size piece o cur e = (cur, e, refl)
appended_from (Some y) well size piece None cur e = absurd (none-some cur e)
appended_from (Some y) well size piece (Some a) cur e = go (same_stem a.stem y) well e
  where
    go : (b w : Bool) → (if b then (if w then Some (record { stem = a.stem; sync_end = sync_end_after size piece a.sync_end }) else None) else Some a) ≡ Some cur
        → (c : Current) × (Some a ≡ Some c) × (c.stem ≡ cur.stem)
    go true true h = (a, refl, ap (λ (c : Current). c.stem) (same_Some (record { stem = a.stem; sync_end = sync_end_after size piece a.sync_end }) cur h))
    go true false h = absurd (none-some cur h)
    go false w h = (a, refl, ap (λ (c : Current). c.stem) (same_Some a cur h))

-- an append to y that wasn't done leaves another sink
pub not_appended : (y : Stem) (size : ℕ) (piece : List ℕ) (o : Option Current) (cur : Current) → appended_to (Some y) false size piece o ≡ Some cur → cur.stem ≡ y → ⊥
not_appended y size piece None cur e s = none-some cur e
not_appended y size piece (Some a) cur e s = go (same_stem a.stem y) refl e
  where
    go : (b : Bool) → same_stem a.stem y ≡ b → (if b then None else Some a) ≡ Some cur → ⊥
    go true k h = none-some cur h
    go false k h = true≢false (sym (same_stem_is a cur y h s) ∙ k)

pub current_of : (o : Option Current) (y : Stem) {P : Current → Type 0} → IsCurrent o y P → (cur : Current) × (o ≡ Some cur) × (cur.stem ≡ y) × P cur
current_of None y h = absurd h
current_of (Some cur) y h = (cur, refl, h.0, h.1)

abbrev pub with_current : Seen → Option Current → Seen
with_current s o = record { born = s.born; made = s.made; current = o; wrote = s.wrote }

-- the files change, and of what is known only the sink written to
pub changed : (x : Stem) (s : Seen) (o : Option Current) (sink mark shut born sink' mark' shut' : Option File) → Inv x s sink mark shut born
    → Kept s.wrote sink' mark' shut' → (IsUnused x s born → IsAbsent sink' × IsAbsent mark' × IsAbsent shut') → Holds x (with_current s o) sink'
    → Inv x (with_current s o) sink' mark' shut' born
changed x s o sink mark shut born sink' mark' shut' inv k u h =
    record { files = k; form = inv.form; number = inv.number; born_is = inv.born_is; unused = u; unwritten = inv.unwritten; holds = h }

pub sink_mapped : (x : Stem) (s : Seen) (o : Option Current) (sink mark shut born : Option File) (g : File → File) → Inv x s sink mark shut born
    → Kept s.wrote (option_map g sink) mark shut → Holds x (with_current s o) (option_map g sink) → Inv x (with_current s o) (option_map g sink) mark shut born
sink_mapped x s o sink mark shut born g inv k h =
    changed x s o sink mark shut born (option_map g sink) mark shut inv k (λ u. let a = inv.unused u in (absent_map g sink a.0, a.1, a.2)) h

pub synced_holds : (x : Stem) (s : Seen) (sink : Option File) → Holds x s sink → Holds x s (option_map secured sink)
synced_holds x s None h = h
synced_holds x s (Some f) h = h

-- a piece was appended, and that was answered
pub piece_held : (wr piece : List ℕ) (sink : Option File) → OnFile sink (λ f. f.bytes ≡ wr) → OnFile (option_map (grown piece) sink) (λ f. f.bytes ≡ wr ++ piece)
piece_held wr piece None h = tt
piece_held wr piece (Some f) h = ap (λ b. b ++ piece) h

-- a mark of the sink written to is published
pub published : (x : Stem) (s : Seen) (o : Option Current) (t : File) (sink mark shut born : Option File) → IsMark t
    → HasFile sink (λ f. IsCommitted (spelled t.bytes) f × IsCurrent s.current x (λ cur. Unit {0}))
    → ((cur : Current) → o ≡ Some cur → s.current ≡ Some cur)
    → Inv x s sink mark shut born → Inv x (with_current s o) sink (Some t) shut born
published x s o t None mark shut born is h less inv = absurd h
published x s o t (Some f) mark shut born is h less inv =
    let c = current_of s.current x h.1 in
    let held = inv.holds c.0 c.1 c.2 in
    let long : 0 < length s.wrote = omega (arith, is.1, h.0.0, ap length held) in
    changed x s o (Some f) mark shut born (Some f) (Some t) shut inv
    (marked s.wrote f t mark shut is h.0 (subst (AllChunks chunk_limit) (sym held) (all_chunks x s.wrote (grown_form x s.wrote inv.form long))) held inv.files)
    (λ u. absurd (inv.unused u).0)
    (λ cur e. inv.holds cur (less cur e))

pub was_closed : (x : Stem) (s : Seen) (f : File) (mark shut born : Option File) → HasFile mark (λ m. IsCommitted (spelled m.bytes) f)
    → Inv x s (Some f) mark shut born → Inv x s None mark (Some f) born
was_closed x s f mark shut born h inv =
    changed x s s.current (Some f) mark shut born None mark (Some f) inv (closed s.wrote f mark shut h inv.files) (λ u. absurd (inv.unused u).0) (λ cur e i. tt)

pub was_dropped : (x : Stem) (s : Seen) (sink mark shut born : Option File) → IsAbsent mark → Inv x s sink mark shut born → Inv x s None mark shut born
was_dropped x s sink mark shut born a inv =
    changed x s s.current sink mark shut born None mark shut inv (dropped s.wrote sink mark shut a inv.files) (λ u. let h = inv.unused u in (tt, h.1, h.2)) (λ cur e i. tt)

pub was_unmarked : (x : Stem) (s : Seen) (sink mark shut born : Option File) → Inv x s sink mark shut born → Inv x s sink None shut born
was_unmarked x s sink mark shut born inv =
    changed x s s.current sink mark shut born sink None shut inv (unmarked s.wrote sink mark shut inv.files) (λ u. let h = inv.unused u in (h.0, tt, h.2)) inv.holds

pub was_taken : (x : Stem) (s : Seen) (sink mark shut born : Option File) → Inv x s sink mark shut born → Inv x s sink mark None born
was_taken x s sink mark shut born inv =
    changed x s s.current sink mark shut born sink mark None inv (taken_away s.wrote sink mark shut inv.files) (λ u. let h = inv.unused u in (h.0, h.1, tt)) inv.holds
