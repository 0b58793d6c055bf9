-- Suffixes that rise, and the places of offsets among marks.
use Rattle.std.proofs.Common.{◌≡◌, inl, inr, ℕ, suc, ◌≤◌, Bool, true, false, ◌||◌, List, [], ◌∷◌}
use Rattle.std.proofs.Common.{nat_le, Option, Some, None, ap, sym, subst, ◌∙◌, refl, arith}
use Rattle.std.proofs.Common.{if◌then◌else◌}
use Rattle.std.specs.Prelude.{IsTrue, Contains}
use Rattle.std.proofs.lemmas.Bool.{le-leb, lt-leb, cases_lt}
use Rattle.chk_bytes.specs.Words.{text_lt}
use Rattle.chk_site.specs.Suffixes.{is_after}
use Rattle.chk_tail.specs.Walks.{Spot}
use Rattle.chk_rotate.specs.Marks.{mark_at, place_of, BeginsBelow, RiseTo, last_of, newest_at}
use Rattle.chk_world.specs.Agents.{same_suffix, is_at_or_past}
use Rattle.chk_world.specs.Reading.{IsAtOrBehind}
use Rattle.chk_world.specs.Answering.{MovesToLater}
use Rattle.chk_world.proofs.Ends.{bytes_self}
use Rattle.chk_world.proofs.LinesStand.{text_lt_trans}
use Rattle.chk_agent_adaptor.specs.Adaptors.{Adaptor, IsPlaced}
use Rattle.chk_agent.specs.Fits.{SuffixesRise}

-- ---- one suffix behind another

pub later_same : (a : Option (List ℕ)) → MovesToLater a a
later_same None = refl
later_same (Some a) = inl refl

after_later : (a : Option (List ℕ)) (b c : List ℕ) → MovesToLater a (Some b) → text_lt b c ≡ true
    → IsTrue (is_after a c)
after_later None b c moves on = refl
after_later (Some a) b c (inl same) on = subst (λ k. IsTrue (is_after k c)) (sym same) on
after_later (Some a) b c (inr before) on = text_lt_trans a b c before on

pub later_then : (a b c : Option (List ℕ)) → MovesToLater a b → MovesToLater b c → MovesToLater a c
later_then a b None p q = subst (MovesToLater a) q p
later_then a None (Some c) p q = inr (subst (λ k. IsTrue (is_after k c)) (sym p) refl)
later_then a (Some b) (Some c) p (inl same) = subst (MovesToLater a) same p
later_then a (Some b) (Some c) p (inr on) = inr (after_later a b c p on)

-- what comes after the later one comes after the other
pub later_behind : (a b : Option (List ℕ)) → MovesToLater a b → IsAtOrBehind a b
later_behind a None moves suffix is = subst (λ k. IsTrue (is_after k suffix)) (sym moves) refl
later_behind a (Some b) moves suffix is = after_later a b suffix moves is

either : (a b : Bool) → b ≡ true → (a || b) ≡ true
either true b e = refl
either false b e = e

pub later_past : (a b : Option (List ℕ)) → MovesToLater a b → IsTrue (is_at_or_past a b)
later_past a None moves = subst (λ k. IsTrue (is_at_or_past k None)) (sym moves) refl
later_past a (Some b) (inl same) =
    subst (λ k. IsTrue (is_at_or_past k (Some b))) (sym same) (ap (λ t. t || text_lt b b) (bytes_self b))
later_past a (Some b) (inr on) = either (same_suffix a (Some b)) (is_after a b) on

-- ---- the places of offsets

mark_later : (m : Spot) (marks : List Spot) (o : ℕ) → SuffixesRise (m ∷ marks)
    → MovesToLater m.after (mark_at marks m o).after
mark_later m [] o rise = later_same m.after
mark_later m (n ∷ marks) o rise =
    go (nat_le n.first o) (later_then m.after n.after (mark_at marks n o).after rise.0 (mark_later n marks o rise.1))
  where
    go : (b : Bool) → MovesToLater m.after (mark_at marks n o).after → MovesToLater m.after (if b then mark_at marks n o else m).after
    go true on = on
    go false on = later_same m.after

marks_later : (m : Spot) (marks : List Spot) (o q : ℕ) → o ≤ q → SuffixesRise (m ∷ marks)
    → MovesToLater (mark_at marks m o).after (mark_at marks m q).after
marks_later m [] o q on rise = later_same m.after
marks_later m (n ∷ marks) o q on rise = elim (cases_lt o n.first) [
  | inl above ↦
      subst (λ b. MovesToLater (if b then mark_at marks n o else m).after (mark_at (n ∷ marks) m q).after)
      (sym (lt-leb n.first o above)) (mark_later m (n ∷ marks) q rise)
  | inr below ↦
      let here : nat_le n.first o ≡ true = le-leb n.first o (omega (arith, below)) in
      let there : nat_le n.first q ≡ true = le-leb n.first q (omega (arith, below, on)) in
      subst (λ b. MovesToLater (if b then mark_at marks n o else m).after (mark_at (n ∷ marks) m q).after) (sym here)
      (subst (λ b. MovesToLater (mark_at marks n o).after (if b then mark_at marks n q else m).after) (sym there)
      (marks_later n marks o q on rise.1))
]

-- the place of a later offset lies in the same generation or in a later one
pub place_later : (marks : List Spot) (o q : ℕ) → o ≤ q → SuffixesRise marks
    → MovesToLater (place_of marks o).after (place_of marks q).after
place_later [] o q on rise = refl
place_later (m ∷ marks) o q on rise = marks_later m marks o q on rise

begins_to : (m : Spot) (marks : List Spot) (o : ℕ) → RiseTo (m ∷ marks) o → m.first ≤ o
begins_to m [] o rise = rise
begins_to m (n ∷ marks) o rise = let a = rise.0 in let b = begins_to n marks o rise.1 in omega (arith, a, b)

mark_last : (m : Spot) (marks : List Spot) (o : ℕ) → RiseTo (m ∷ marks) o → mark_at marks m o ≡ last_of m marks
mark_last m [] o rise = refl
mark_last m (n ∷ marks) o rise =
    ap (λ b. if b then mark_at marks n o else m) (le-leb n.first o (begins_to n marks o rise.1)) ∙ mark_last n marks o rise.1

place_last : (marks : List Spot) (p : Spot) → RiseTo marks p.offset → newest_at marks p.offset ≡ p
    → place_of marks p.offset ≡ p
place_last [] p rise newest = absurd rise
place_last (m ∷ marks) p rise newest =
    ap (λ (n : Spot). record n { offset = p.offset }) (mark_last m marks p.offset rise) ∙ newest

-- the place of the offset read is the place read
pub place_read : (a : Adaptor) → IsPlaced a → place_of a.marks a.read.offset ≡ a.read
place_read a placed = place_last a.marks a.read placed.rises placed.newest

-- it lies in the generation of a mark that begins at or below the offset
pub record IsAmong (marks : List Spot) (o : ℕ) : Type 0 where
  pub mark : Spot
  pub one : Contains marks mark
  pub begins : mark.first ≤ o
  pub is : place_of marks o ≡ record mark { offset = o }

mark_among : (m : Spot) (marks : List Spot) (o : ℕ) → m.first ≤ o
    → Contains (m ∷ marks) (mark_at marks m o) × ((mark_at marks m o).first ≤ o)
mark_among m [] o begins = ((0, omega arith, refl), begins)
mark_among m (n ∷ marks) o begins = elim (cases_lt o n.first) [
  | inl above ↦ subst Among (sym (ap pick (lt-leb n.first o above))) ((0, omega arith, refl), begins)
  | inr below ↦
      let on : n.first ≤ o = omega (arith, below) in
      let r = mark_among n marks o on in
      let b = r.0.1 in
      subst Among (sym (ap pick (le-leb n.first o on))) ((suc r.0.0, omega (arith, b), r.0.2), r.1)
]
  where
    pick : Bool → Spot
    pick b = if b then mark_at marks n o else m

    Among : Spot → Type 0
    Among p = Contains (m ∷ n ∷ marks) p × (p.first ≤ o)

pub place_among : (marks : List Spot) (o : ℕ) → BeginsBelow o marks → IsAmong marks o
place_among [] o begins = absurd begins
place_among (m ∷ marks) o begins =
    let r = mark_among m marks o begins in
    record { mark = mark_at marks m o; one = r.0; begins = r.1; is = refl }
