-- Which files can be there after a legal history.
use Rattle.std.proofs.Common.{◌≡◌, ℕ, Bool, true, false, ◌||◌, List, [], ◌∷◌, Option, Some, None, option_map, ap, sym, ◌∙◌, if◌then◌else◌, refl, true≢false, bytes_eq}
use Rattle.std.specs.List.{list_any}
use Rattle.std.proofs.lemmas.Bool.{or_parts}
use Rattle.chk_site.specs.declared.acts.ActAnswer.{ActAnswer}
use Rattle.chk_site.specs.Files.{File, Files, made, grown, secured, shortened, moved, changed}
use Rattle.chk_site.specs.Acts.{Deed, Starts, ReadsLog, AsksNewest, GrowsLog, Creates, Appends, Syncs, Renames, Removes, Cuts, AsksSize, Reads, Lists, AsksClock, Pauses, Sends, Gets, Takes, TakesMore, Answers, Says, deed, change_of, is_done, tail_of}
use Rattle.chk_site.specs.Effect.{with_tail}
use Rattle.chk_site.specs.History.{History, files_after}
use Rattle.chk_world.specs.Rules.{Legal}
use Rattle.chk_world.proofs.Ends.{bytes_same}
use Rattle.chk_world.proofs.Outcomes.{CameTo, whole, nothing, junk, Leaves, went_on, was_stopped, leaves}

-- the name is one of these
abbrev pub is_among : List (List ℕ) → List ℕ → Bool
is_among names w = list_any (bytes_eq w) names

-- the others
abbrev pub without : List ℕ → List (List ℕ) → List (List ℕ)
without n [] = []
without n (m ∷ names) = if bytes_eq m n then without n names else m ∷ without n names

-- the names that can be there after a call, from those before it
abbrev pub names_by : Bool → Deed → List (List ℕ) → List (List ℕ)
names_by done (Creates n) names = n ∷ names
names_by true (Renames old new) names = new ∷ without old names
names_by done (Renames old new) names = new ∷ names
names_by true (Removes n) names = without n names
names_by done call names = names

-- the names that can be there
abbrev pub names_of : History → List (List ℕ)
names_of [] = []
names_of (step ∷ history) = names_by (is_done step.act.answer) (deed step.act) (names_of history)

-- no other file is there
abbrev pub NoOthers : List (List ℕ) → Files → Type 0
NoOthers names files = (w : List ℕ) → is_among names w ≡ false → files w ≡ None

without_more : (n w : List ℕ) (names : List (List ℕ)) → is_among (without n names) w ≡ false → bytes_eq w n ≡ false → is_among names w ≡ false
without_more n w [] e other = refl
without_more n w (m ∷ names) e other = go (bytes_eq m n) refl e (λ k. without_more n w names k other)
  where
    not_it : (b : Bool) → bytes_eq w m ≡ b → bytes_eq m n ≡ true → b ≡ false
    not_it false k same = refl
    not_it true k same = absurd (true≢false (sym (ap (λ v. bytes_eq v n) (bytes_same w m k) ∙ same) ∙ other))

    go : (b : Bool) → bytes_eq m n ≡ b → is_among (if b then without n names else m ∷ without n names) w ≡ false
        → (is_among (without n names) w ≡ false → is_among names w ≡ false) → (bytes_eq w m || is_among names w) ≡ false
    go true same e rest = ap (λ b. b || is_among names w) (not_it (bytes_eq w m) refl same) ∙ rest e
    go false same e rest =
        let p = or_parts (bytes_eq w m) (is_among (without n names) w) e in
        ap (λ b. b || is_among names w) p.0 ∙ rest p.1

module _ (before : Files) (names : List (List ℕ)) (none : (w : List ℕ) → is_among names w ≡ false → before w ≡ None) where
  mapped : (g : File → File) (b : Bool) (w : List ℕ) → is_among names w ≡ false → (if b then option_map g (before w) else before w) ≡ None
  mapped g true w e = ap (option_map g) (none w e)
  mapped g false w e = none w e

  dropped : (n w : List ℕ) → is_among (without n names) w ≡ false → (b : Bool) → bytes_eq w n ≡ b → (if b then None else before w) ≡ None
  dropped n w e true k = refl
  dropped n w e false k = none w (without_more n w names e k)

  moved_on : (old new w : List ℕ) → is_among (new ∷ without old names) w ≡ false → (o : Option File) → before old ≡ o
      → moved o old new before w ≡ None
  moved_on old new w e o there = go o there
    where
      p : (bytes_eq w new ≡ false) × (is_among (without old names) w ≡ false)
      p = or_parts (bytes_eq w new) (is_among (without old names) w) e

      same_none : (b : Bool) → bytes_eq w old ≡ b → before old ≡ None → before w ≡ None
      same_none true k gone = ap before (bytes_same w old k) ∙ gone
      same_none false k gone = none w (without_more old w names p.1 k)

      go : (o : Option File) → before old ≡ o → moved o old new before w ≡ None
      go None gone = same_none (bytes_eq w old) refl gone
      go (Some f) there =
          ap (λ b. if b then Some f else if bytes_eq w old then None else before w) p.0 ∙ dropped old w p.1 (bytes_eq w old) refl

  none_whole : (call : Deed) → NoOthers (names_by true call names) (changed (change_of call) before)
  none_whole (Creates n) w e =
      let p = or_parts (bytes_eq w n) (is_among names w) e in
      ap (λ b. if b then made (before w) else before w) p.0 ∙ none w p.1
  none_whole (Appends n piece) w e = mapped (grown piece) (bytes_eq w n) w e
  none_whole (Syncs n) w e = mapped secured (bytes_eq w n) w e
  none_whole (Cuts n k) w e = mapped (shortened k) (bytes_eq w n) w e
  none_whole (Removes n) w e = dropped n w e (bytes_eq w n) refl
  none_whole (Renames old new) w e = moved_on old new w e (before old) refl
  none_whole Starts w e = none w e
  none_whole (ReadsLog path part at max) w e = none w e
  none_whole (AsksNewest path) w e = none w e
  none_whole (GrowsLog path piece) w e = none w e
  none_whole (AsksSize n) w e = none w e
  none_whole (Reads n at max) w e = none w e
  none_whole (Lists n) w e = none w e
  none_whole AsksClock w e = none w e
  none_whole (Pauses k) w e = none w e
  none_whole (Sends m address bytes) w e = none w e
  none_whole (Gets m) w e = none w e
  none_whole (Takes door wait) w e = none w e
  none_whole (TakesMore t) w e = none w e
  none_whole (Answers t bytes) w e = none w e
  none_whole (Says bytes) w e = none w e

-- what can be there after a call that was done can be there after one that wasn't
less_done : (n w : List ℕ) (names : List (List ℕ)) → is_among names w ≡ false → is_among (without n names) w ≡ false
less_done n w [] e = refl
less_done n w (m ∷ names) e = go (bytes_eq m n) (or_parts (bytes_eq w m) (is_among names w) e) (less_done n w names)
  where
    go : (b : Bool) → (bytes_eq w m ≡ false) × (is_among names w ≡ false) → (is_among names w ≡ false → is_among (without n names) w ≡ false)
        → is_among (if b then without n names else m ∷ without n names) w ≡ false
    go true p rest = rest p.1
    go false p rest = ap (λ b. b || is_among (without n names) w) p.0 ∙ rest p.1

not_done : (call : Deed) (w : List ℕ) (names : List (List ℕ)) → is_among (names_by false call names) w ≡ false
    → (is_among names w ≡ false) × (is_among (names_by true call names) w ≡ false)
not_done (Creates n) w names e = ((or_parts (bytes_eq w n) (is_among names w) e).1, e)
not_done (Renames old new) w names e =
    let p = or_parts (bytes_eq w new) (is_among names w) e in
    (p.1, ap (λ b. b || is_among (without old names) w) p.0 ∙ less_done old w names p.1)
not_done (Removes n) w names e = (e, less_done n w names e)
not_done (Appends n piece) w names e = (e, e)
not_done (Syncs n) w names e = (e, e)
not_done (Cuts n k) w names e = (e, e)
not_done Starts w names e = (e, e)
not_done (ReadsLog path part at max) w names e = (e, e)
not_done (AsksNewest path) w names e = (e, e)
not_done (GrowsLog path piece) w names e = (e, e)
not_done (AsksSize n) w names e = (e, e)
not_done (Reads n at max) w names e = (e, e)
not_done (Lists n) w names e = (e, e)
not_done AsksClock w names e = (e, e)
not_done (Pauses k) w names e = (e, e)
not_done (Sends m address bytes) w names e = (e, e)
not_done (Gets m) w names e = (e, e)
not_done (Takes door wait) w names e = (e, e)
not_done (TakesMore t) w names e = (e, e)
not_done (Answers t bytes) w names e = (e, e)
not_done (Says bytes) w names e = (e, e)

module _ (before : Files) (names : List (List ℕ)) (none : (w : List ℕ) → is_among names w ≡ false → before w ≡ None) where
  came_to : (call : Deed) (done : Bool) (after : Files) → CameTo call done before after → NoOthers (names_by done call names) after
  came_to call true after (whole same) w e = same w ∙ none_whole before names none call w e
  came_to call false after (whole same) w e = same w ∙ none_whole before names none call w (not_done call w names e).1
  came_to call true after (nothing not_yet same) w e = absurd (true≢false not_yet)
  came_to call false after (nothing not_yet same) w e = same w ∙ none w (not_done call w names e).0
  came_to call true after (junk n piece bytes is not_yet same) w e = absurd (true≢false not_yet)
  came_to call false after (junk n piece bytes is not_yet same) w e =
      same w ∙ mapped before names none (grown bytes) (bytes_eq w n) w (not_done call w names e).0

  left_so : (call : Deed) (answer : ActAnswer) (after : Files) → Leaves call answer before after → NoOthers (names_by (is_done answer) call names) after
  left_so call answer after (went_on no_stop came) w e = came_to call (is_done answer) after came w e
  left_so call answer after (was_stopped left is middle came tails) w e =
      (tails w).0
      ∙ ap (option_map (with_tail (tail_of left w)))
      (came_to call false middle came w (ap (λ a. is_among (names_by (is_done a) call names) w) (sym is) ∙ e))

pub no_others : (stamped : List (List ℕ)) (history : History) → Legal stamped history → NoOthers (names_of history) (files_after history)
no_others stamped [] legal w e = refl
no_others stamped (step ∷ history) legal w e =
    let k = legal.1.honest.modelled.effect in
    left_so (files_after history) (names_of history) (no_others stamped history legal.0) (deed step.act) step.act.answer step.files
    (leaves (deed step.act) step.act.answer (files_after history) step.files k.did k.may k.files_left) w e
