-- Each line of a checkpoint stands at a true place of its log, and who reads on from there is shown
-- the log.
use Rattle.std.proofs.Common.{◌≡◌, inl, inr, ℕ, ◌+◌, ◌≤◌, Bool, true, false, ◌&&◌, ◌||◌, not, List, [], ◌∷◌, ◌++◌, length, length-append, Option, Some, None, ap, sym, subst, ◌∙◌, refl, arith, true≢false, bytes_eq, if◌then◌else◌}
use Rattle.std.specs.Prelude.{IsTrue, ◌==◌, nat_lt}
use Rattle.std.specs.List.{list_all}
use Rattle.std.proofs.lemmas.Bool.{and_parts, or_left}
use Rattle.std.proofs.lemmas.List.Folds.{list_any-append}
use Rattle.chk_bytes.specs.Words.{text_lt}
use Rattle.chk_control.specs.Classes.{is_plain}
use Rattle.chk_site.specs.Files.{Files}
use Rattle.chk_site.specs.Suffixes.{is_after}
use Rattle.chk_site.specs.Logs.{Generation, Log, log_turned, log_dropped, marked}
use Rattle.chk_site.specs.History.{Step, History, files_after, logs_after}
use Rattle.chk_chunk.specs.Keys.{Stream}
use Rattle.chk_world.specs.Names.{is_source}
use Rattle.chk_world.specs.Checkpoints.{Line, line_of}
use Rattle.chk_world.specs.Streams.{Founding, founding, founded_by, or_else, start_at, start_of, chosen, parts_since, parts_of, passed_by, next_length}
use Rattle.chk_world.specs.Agents.{has_generation}
use Rattle.chk_world.specs.Rules.{Legal, IsRotatable}
use Rattle.chk_world.specs.Standing.{IsSuffixOf, past, Stands}
use Rattle.chk_world.proofs.Ends.{bytes_same}
use Rattle.chk_world.proofs.LogsGrow.{LogTurn, as_it_was, grew, was_turned, was_dropped, rotated_since, chosen_more, turn_of, class_turns, is_founded}
use Rattle.chk_world.proofs.CutsStay.{cut_on}

-- ---- texts in order

pub text_lt_trans : (a b c : List ℕ) → text_lt a b ≡ true → text_lt b c ≡ true → text_lt a c ≡ true
text_lt_trans [] [] c p q = absurd (true≢false (sym p))
text_lt_trans [] (x ∷ b) [] p q = absurd (true≢false (sym q))
text_lt_trans [] (x ∷ b) (y ∷ c) p q = refl
text_lt_trans (x ∷ a) [] c p q = absurd (true≢false (sym p))
text_lt_trans (x ∷ a) (y ∷ b) [] p q = absurd (true≢false (sym q))
text_lt_trans (x ∷ a) (y ∷ b) (z ∷ c) p q = go (text_lt_trans a b c)
  where
    go : (text_lt a b ≡ true → text_lt b c ≡ true → text_lt a c ≡ true) → (nat_lt x z || (x == z && text_lt a c)) ≡ true
    go rest = grind (arith, p, q, rest)

-- ---- generations that differ in their marks alone

abbrev pub Alike : List Generation → List Generation → Type 0
Alike [] [] = Unit {0}
Alike (g ∷ gs) (h ∷ hs) = (g.suffix ≡ h.suffix) × (g.bytes ≡ h.bytes) × Alike gs hs
Alike gs hs = ⊥

pub marked_alike : (suffix : List ℕ) (gs : List Generation) → Alike (marked suffix gs) gs
marked_alike suffix [] = tt
marked_alike suffix (g ∷ gs) = (refl, refl, marked_alike suffix gs)

pub chosen_alike : (after : Option (List ℕ)) (ts gs hs : List Generation) → Alike gs hs
    → Alike (chosen after ts gs) (chosen after ts hs)
chosen_alike after [] gs hs a = a
chosen_alike after (t ∷ ts) [] [] a = tt
chosen_alike after (t ∷ ts) (g ∷ gs) (h ∷ hs) a = pick (not t.deleted && is_after after t.suffix) (chosen_alike after ts gs hs a.2)
  where
    pick : (b : Bool) → Alike (chosen after ts gs) (chosen after ts hs)
        → Alike (if b then g ∷ chosen after ts gs else chosen after ts gs)
        (if b then h ∷ chosen after ts hs else chosen after ts hs)
    pick true rest = (a.0, a.1, rest)
    pick false rest = rest
chosen_alike after (t ∷ ts) [] (h ∷ hs) a = absurd a
chosen_alike after (t ∷ ts) (g ∷ gs) [] a = absurd a

passed_alike : (after : Option (List ℕ)) (gs hs : List Generation) → Alike gs hs
    → passed_by after gs ≡ passed_by after hs
passed_alike after [] [] a = refl
passed_alike after (g ∷ gs) (h ∷ hs) a =
    let rest = passed_alike after gs hs a.2 in
    (λ i. if is_after after (a.0 i) then rest i else length (a.1 i) + rest i)
passed_alike after [] (h ∷ hs) a = absurd a
passed_alike after (g ∷ gs) [] a = absurd a

next_alike : (after : Option (List ℕ)) (gs hs : List Generation) (base : List ℕ) → Alike gs hs
    → next_length after gs base ≡ next_length after hs base
next_alike after [] [] base a = refl
next_alike after (g ∷ gs) (h ∷ hs) base a =
    let rest = next_alike after gs hs base a.2 in
    (λ i. if is_after after (a.0 i) then length (a.1 i) else rest i)
next_alike after [] (h ∷ hs) base a = absurd a
next_alike after (g ∷ gs) [] base a = absurd a

pub past_alike : (after : Option (List ℕ)) (gs hs : List Generation) → Alike gs hs
    → past after gs ≡ past after hs
past_alike after [] [] a = refl
past_alike after (g ∷ gs) (h ∷ hs) a =
    let rest = past_alike after gs hs a.2 in
    (λ i. if is_after after (a.0 i) then record { suffix = Some (a.0 i); bytes = a.1 i } ∷ rest i else rest i)
past_alike after [] (h ∷ hs) a = absurd a
past_alike after (g ∷ gs) [] a = absurd a

has_alike : (suffix : List ℕ) (gs hs : List Generation) → Alike gs hs
    → has_generation suffix gs ≡ has_generation suffix hs
has_alike suffix [] [] a = refl
has_alike suffix (g ∷ gs) (h ∷ hs) a =
    let rest = has_alike suffix gs hs a.2 in
    (λ i. bytes_eq (a.0 i) suffix || rest i)
has_alike suffix [] (h ∷ hs) a = absurd a
has_alike suffix (g ∷ gs) [] a = absurd a

-- ---- a suffix of the path

-- a rotation's suffix comes after it
newest_after : (after : Option (List ℕ)) (gs : List Generation) (suffix : List ℕ)
    → IsSuffixOf after gs
    → list_all (λ g. text_lt g.suffix suffix) gs ≡ true → is_after after suffix ≡ true
newest_after None gs suffix known all = refl
newest_after (Some a) gs suffix known all = go gs known all
  where
    go : (gs : List Generation) → has_generation a gs ≡ true
        → list_all (λ g. text_lt g.suffix suffix) gs ≡ true → text_lt a suffix ≡ true
    go [] known all = absurd (true≢false (sym known))
    go (g ∷ gs) known all = pick (bytes_eq g.suffix a) refl known (go gs)
      where
        parts : (text_lt g.suffix suffix ≡ true) × (list_all (λ g. text_lt g.suffix suffix) gs ≡ true)
        parts = and_parts (text_lt g.suffix suffix) (list_all (λ g. text_lt g.suffix suffix) gs) all

        pick : (b : Bool) → bytes_eq g.suffix a ≡ b → (b || has_generation a gs) ≡ true
            → (has_generation a gs ≡ true → list_all (λ g. text_lt g.suffix suffix) gs ≡ true → text_lt a suffix ≡ true)
            → text_lt a suffix ≡ true
        pick true e known rest = subst (λ t. text_lt t suffix ≡ true) (bytes_same g.suffix a e) parts.0
        pick false e known rest = rest known parts.1

pub suffix_turned : (files : Files) (path : List ℕ) (old new : Log) (after : Option (List ℕ))
    → LogTurn files path old new
    → IsSuffixOf after old.rotated → IsSuffixOf after new.rotated
suffix_turned files path old new None turn known = tt
suffix_turned files path old new (Some a) (as_it_was e) known = subst (λ (l : Log). IsSuffixOf (Some a) l.rotated) (sym e) known
suffix_turned files path old new (Some a) (grew bytes e) known = subst (λ (l : Log). IsSuffixOf (Some a) l.rotated) (sym e) known
suffix_turned files path old new (Some a) (was_turned suffix e may) known =
    subst (λ (l : Log). IsSuffixOf (Some a) l.rotated) (sym e)
    (list_any-append (λ (g : Generation). bytes_eq g.suffix a) old.rotated _ ∙ or_left _ _ known)
suffix_turned files path old new (Some a) (was_dropped suffix e may) known =
    subst (λ (l : Log). IsSuffixOf (Some a) l.rotated) (sym e) (has_alike a (marked suffix old.rotated) old.rotated (marked_alike suffix old.rotated) ∙ known)

-- ---- a true place

-- the place by the stream's start and the parts of its log
record PlaceBy (start : ℕ) (gs : List Generation) (base : List ℕ) (l : Line) : Type 0 where
  first : l.first ≡ start + passed_by l.after gs
  on : l.first ≤ l.offset
  within : l.offset ≤ l.first + next_length l.after gs base

next_more : (after : Option (List ℕ)) (gs : List Generation) (base more : List ℕ)
    → next_length after gs base ≤ next_length after gs (base ++ more)
next_more after [] base more = omega (arith, length-append base more)
next_more after (g ∷ gs) base more = pick (is_after after g.suffix) (next_more after gs base more)
  where
    pick : (b : Bool) → next_length after gs base ≤ next_length after gs (base ++ more)
        → (if b then length g.bytes else next_length after gs base) ≤ (if b then length g.bytes else next_length after gs (base ++ more))
    pick true rest = omega arith
    pick false rest = rest

passed_turned : (after : Option (List ℕ)) (gs : List Generation) (g : Generation)
    → is_after after g.suffix ≡ true
    → passed_by after (gs ++ g ∷ []) ≡ passed_by after gs
passed_turned after [] g e = rw e refl
passed_turned after (h ∷ gs) g e =
    let rest = passed_turned after gs g e in
    (λ i. if is_after after h.suffix then rest i else length h.bytes + rest i)

next_turned : (after : Option (List ℕ)) (gs : List Generation) (g : Generation) (base : List ℕ)
    → is_after after g.suffix ≡ true
    → next_length after (gs ++ g ∷ []) base ≡ next_length after gs g.bytes
next_turned after [] g base e = rw e refl
next_turned after (h ∷ gs) g base e =
    let rest = next_turned after gs g base e in
    (λ i. if is_after after h.suffix then length h.bytes else rest i)

module _ (files : Files) (path : List ℕ) (plain : Bool) (f : Founding) (start : ℕ) (l : Line) where
  abbrev At : Log → Type 0
  At log = PlaceBy start (rotated_since plain f log) log.base l

  rotated_alike : (b : Bool) (suffix : List ℕ) (old : Log)
      → Alike (rotated_since b f (log_dropped suffix old)) (rotated_since b f old)
  rotated_alike true suffix old = tt
  rotated_alike false suffix old = chosen_alike f.line.after f.rotated (marked suffix old.rotated) old.rotated (marked_alike suffix old.rotated)

  place_turn : (old new : Log) → (IsRotatable files path → plain ≡ false)
      → length f.rotated ≤ length old.rotated → IsSuffixOf l.after old.rotated
      → LogTurn files path old new → At old → At new
  place_turn old new may le known (as_it_was e) h = subst At (sym e) h
  place_turn old new may le known (grew bytes e) h =
      let more = next_more l.after (rotated_since plain f old) old.base bytes in
      let within = h.within in
      subst At (sym e) (record { first = h.first; on = h.on; within = omega (arith, more, within) })
  place_turn old new may le known (was_dropped suffix e passed) h =
      let a = rotated_alike plain suffix old in
      let n = next_alike l.after _ _ old.base a in
      let p = passed_alike l.after _ _ a in
      let first = h.first in
      let within = h.within in
      subst At (sym e) (record { first = omega (arith, p, first); on = h.on; within = omega (arith, n, within) })
  place_turn old new may le known (was_turned suffix e t) h =
      let g : Generation = record { suffix = suffix; bytes = old.base; deleted = false } in
      let not_plain = may t.rotatable in
      let gs = chosen f.line.after f.rotated old.rotated in
      let past = newest_after l.after old.rotated suffix known t.newest in
      let before : PlaceBy start gs old.base l = subst (λ b. PlaceBy start (rotated_since b f old) old.base l) not_plain h in
      let first = before.first in
      let within = before.within in
      let now : PlaceBy start (gs ++ g ∷ []) [] l = record {
        first = first ∙ ap (λ n. start + n) (sym (passed_turned l.after gs g past));
        on = before.on;
        within = let n = next_turned l.after gs g [] past in omega (arith, n, within);
      } in
      subst At (sym e)
      (subst (λ b. PlaceBy start (rotated_since b f (log_turned suffix old)) [] l) (sym not_plain)
      (subst (λ gs. PlaceBy start gs [] l) (sym (chosen_more f.line.after f.rotated old.rotated g le)) now))

-- a place that stands does so after every further legal step
pub stands_on : (stamped : List (List ℕ)) (history : History) (step : Step)
    → Legal stamped (step ∷ history) → (s : Stream)
    → IsTrue (is_source s.source) → (l : Line) → Stands history s l → Stands (step ∷ history) s l
stands_on stamped history step legal s known l h =
    let f = h.first in
    let later = founded_by (line_of step.files s) (step.logs s.name) in
    let still : founding (step ∷ history) s ≡ Some f = ap (λ o. or_else o later) h.founded in
    let start : start_of (step ∷ history) s ≡ start_of history s = ap start_at still ∙ sym (ap start_at h.founded) in
    let b = is_founded stamped history legal.0 s known f h.founded in
    let turn = turn_of stamped history step legal.1 s.name in
    let plain = is_plain f.line.class in
    let before : PlaceBy f.line.start (rotated_since plain f (logs_after history s.name)) (logs_after history s.name).base l =
    subst (λ o. PlaceBy (start_at o) (parts_since o (logs_after history s.name)).rotated (parts_since o (logs_after history s.name)).base l) h.founded
    (record { first = h.place.first; on = h.place.on; within = h.place.within }) in
    let now = place_turn (files_after history) s.name plain f f.line.start l (logs_after history s.name) (step.logs s.name)
    (class_turns history s f b) b.long h.suffix turn before in
    let there : PlaceBy (start_of (step ∷ history) s) (parts_of (step ∷ history) s).rotated (parts_of (step ∷ history) s).base l =
    subst (λ o. PlaceBy (start_at o) (parts_since o (step.logs s.name)).rotated (parts_since o (step.logs s.name)).base l) (sym still) now in
    record {
      first = f;
      founded = still;
      place = record { first = there.first; on = there.on; within = there.within };
      cut = elim h.cut [
        | inl at ↦ inl (at ∙ sym start)
        | inr cut ↦ inr (cut_on stamped history step legal s known l.offset (record { first = f; founded = h.founded; cut = cut })).cut
      ];
      suffix = suffix_turned (files_after history) s.name (logs_after history s.name) (step.logs s.name) l.after turn h.suffix;
    }
