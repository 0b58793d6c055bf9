-- What a step leaves of a writer's files.
use Rattle.std.proofs.Common.{◌≡◌, ℕ, ◌≤◌, Bool, true, false, ◌||◌, List, length, Option, Some, None, option_map, bytes_eq, refl, sym, ◌∙◌, ap, subst}
use Rattle.chk_site.specs.declared.acts.ActAnswer.{ActAnswer}
use Rattle.chk_site.specs.declared.acts.ActAnswer.TheVariants.{Stopped}
use Rattle.chk_site.specs.declared.lists.Left.{Left}
use Rattle.chk_site.specs.Files.{File, Files, Grown, IsSettled, changed, moved}
use Rattle.chk_site.specs.Acts.{Deed, Creates, Appends, Syncs, Renames, Removes, Cuts, deed, change_of, touches, tail_of, is_done}
use Rattle.chk_site.specs.Effect.{UnsyncedTails, in_work, with_tail}
use Rattle.chk_site.specs.History.{Step, History, Modelled, files_after}
use Rattle.chk_site.proofs.Stays.{settled_stays, tails_of_settled, moved_elsewhere as moved_else}
use Rattle.chk_wahead.specs.States.{last_number}
use Rattle.chk_world.proofs.Outcomes.{CameTo, whole as came_whole, nothing as came_nothing, junk as came_junk, Leaves, went_on, was_stopped, leaves}
use Rattle.chk_udp_laws.proofs.Standing.{Stands, Numbered, MarkFits, with_tails, stands_as}
use Rattle.chk_udp_laws.proofs.Naming.{N, B, M, C}

whole_else : (call : Deed) (before : Files) (name : List ℕ) → touches call name ≡ false
    → changed (change_of call) before name ≡ before name
whole_else (Creates n) before name out = rw out refl
whole_else (Appends n piece) before name out = rw out refl
whole_else (Syncs n) before name out = rw out refl
whole_else (Renames old new) before name out =
    moved_else (before old) old new before name (bytes_eq name new) (bytes_eq name old) refl refl
    out
whole_else (Removes n) before name out = rw out refl
whole_else (Cuts n k) before name out = rw out refl
whole_else call before name out = refl

came_else : (call : Deed) (done : Bool) (before after : Files) (name : List ℕ)
    → CameTo call done before after → touches call name ≡ false
    → after name ≡ before name
came_else call done before after name (came_whole e) out = e name ∙ whole_else call before name out
came_else call done before after name (came_nothing not_yet e) out = e name
came_else call done before after name (came_junk n piece bytes is not_yet e) out =
    let away : bytes_eq name n ≡ false = subst (λ (c : Deed). touches c name ≡ false) is out in
    e name ∙ rw away refl

no_tail_of : (o : Option File) → o ≡ option_map (with_tail None) o
no_tail_of None = refl
no_tail_of (Some f) = refl

-- a file that a call doesn't touch is as before, but for a tail
pub tail_at : (call : Deed) (answer : ActAnswer) (before after : Files) (name : List ℕ)
    → Leaves call answer before after
    → touches call name ≡ false → (tail : Option (List ℕ))
    × (after name ≡ option_map (with_tail tail) (before name))
tail_at call answer before after name (went_on running came) out =
    (None, came_else call (is_done answer) before after name came out ∙ no_tail_of (before name))
tail_at call answer before after name (was_stopped left is middle came tails) out = (
  tail_of left name,
  (tails name).0
      ∙ ap (option_map (with_tail (tail_of left name)))
      (came_else call false before middle name came out),
)

numbered_settled : (k : ℕ) (x : Option File) → Numbered k x → IsSettled x
numbered_settled k None is = tt
numbered_settled k (Some f) is = subst (λ (g : File). g.synced ≡ length g.bytes) (sym is) refl

mark_settled : (m b : Option File) → MarkFits m b → IsSettled m
mark_settled None b fits = tt
mark_settled (Some g) b fits = subst (λ (g : File). g.synced ≡ length g.bytes) (sym fits.is) refl

module _ (n : List ℕ) where
  -- so stand the files of this writer
  abbrev pub At : Files → ℕ → List ℕ → Type 0
  At files k s = Stands (λ j. files (C n j)) (files (B n)) (files (M n)) (files (N n)) k s

  -- the step touches none of them
  pub record Untouched (call : Deed) : Type 0 where
    pub next : touches call (N n) ≡ false
    pub buffer : touches call (B n) ≡ false
    pub mark : touches call (M n) ≡ false
    pub closed : (j : ℕ) → j ≤ last_number → touches call (C n j) ≡ false

  pub at_untouched : (history : History) (step : Step) (k : ℕ) (s : List ℕ) → Modelled history step
      → Untouched (deed step.act)
      → At (files_after history) k s → At step.files k s
  at_untouched history step k s modelled out at =
      let e = modelled.effect in
      let before = files_after history in
      let tail = tail_at (deed step.act) step.act.answer before step.files (B n)
      (leaves (deed step.act) step.act.answer before step.files e.did e.may e.files_left) out.buffer
      in
      stands_as (λ j low. settled_stays history step (C n j) modelled (out.closed j low)
      (at.settled j low))
      tail.1
      (settled_stays history step (M n) modelled out.mark
      (mark_settled (before (M n)) (before (B n)) at.mark))
      (settled_stays history step (N n) modelled out.next
      (numbered_settled k (before (N n)) at.number))
      (with_tails (before (B n)) tail.0 at)

  -- a stop leaves tails behind what is synced
  pub at_tails : (call : Deed) (left : List Left) (middle after : Files) (k : ℕ) (s : List ℕ)
      → UnsyncedTails call (Stopped left) middle after
      → in_work call (N n) ≡ 0 → in_work call (M n) ≡ 0 → ((j : ℕ) → in_work call (C n j) ≡ 0)
      → At middle k s → At after k s
  at_tails call left middle after k s tails idle_n idle_m idle_c at =
      stands_as (λ j low. tails_of_settled call (Stopped left) middle after (C n j) tails (idle_c j)
      (at.settled j low))
      (tails (B n)).0
      (tails_of_settled call (Stopped left) middle after (M n) tails idle_m
      (mark_settled (middle (M n)) (middle (B n)) at.mark))
      (tails_of_settled call (Stopped left) middle after (N n) tails idle_n
      (numbered_settled k (middle (N n)) at.number))
      (with_tails (middle (B n)) (tail_of left (B n)) at)

  -- the same files
  pub at_as : {middle after : Files} {k : ℕ} {s : List ℕ} → ((w : List ℕ) → after w ≡ middle w)
      → At middle k s → At after k s
  at_as e at = stands_as (λ j low. e (C n j)) (e (B n)) (e (M n)) (e (N n)) at

  -- the files stand with what is marked, by some number
  pub record Some_at (files : Files) (s : List ℕ) : Type 0 where
    pub number : ℕ
    pub stands : At files number s

  -- a call that leaves them standing, whether it is made, fails, or does a part
  pub record Leaving (call : Deed) (before : Files) (s : List ℕ) : Type 0 where
    pub none : Some_at before s
    pub all : Some_at (changed (change_of call) before) s
    pub part : (name piece bytes : List ℕ) → call ≡ Appends name piece
        → Some_at (changed (Grown name bytes) before) s
    pub idle_n : in_work call (N n) ≡ 0
    pub idle_m : in_work call (M n) ≡ 0
    pub idle_c : (j : ℕ) → in_work call (C n j) ≡ 0

  same_files : (middle after : Files) (s : List ℕ) → ((w : List ℕ) → after w ≡ middle w)
      → Some_at middle s → Some_at after s
  same_files middle after s e at = record {
    number = at.number;
    stands = stands_as (λ j low. e (C n j)) (e (B n)) (e (M n)) (e (N n)) at.stands;
  }

  came_some : (call : Deed) (done : Bool) (before after : Files) (s : List ℕ)
      → CameTo call done before after → Leaving call before s → Some_at after s
  came_some call done before after s (came_whole e) l =
      same_files (changed (change_of call) before) after s e l.all
  came_some call done before after s (came_nothing not_yet e) l = same_files before after s e l.none
  came_some call done before after s (came_junk name piece bytes is not_yet e) l =
      same_files (changed (Grown name bytes) before) after s e (l.part name piece bytes is)

  pub leaving_some : (call : Deed) (answer : ActAnswer) (before after : Files) (s : List ℕ)
      → Leaves call answer before after
      → Leaving call before s → Some_at after s
  leaving_some call answer before after s (went_on running came) l =
      came_some call (is_done answer) before after s came l
  leaving_some call answer before after s (was_stopped left is middle came tails) l =
      let at = came_some call false before middle s came l in
      record {
        number = at.number;
        stands =
            at_tails call left middle after at.number s tails l.idle_n l.idle_m l.idle_c at.stands;
      }
