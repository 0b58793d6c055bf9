-- The places of offsets that are still known.
use Rattle.std.proofs.Common.{◌≡◌, inl, inr, ℕ, ◌<◌, ◌≤◌, true, false, List, [], ◌∷◌, nat_le}
use Rattle.std.proofs.Common.{ap, sym, subst, ◌∙◌, refl, arith, if◌then◌else◌}
use Rattle.std.proofs.lemmas.Bool.{le-leb, lt-leb, cases_lt}
use Rattle.chk_tail.specs.Walks.{Spot}
use Rattle.chk_rotate.specs.Marks.{mark_at, place_of, forgotten, kept_to, BeginsBelow, RiseTo}
use Rattle.chk_rotate.specs.PlaceLaws.{AllAbove, IsInNewest, PlaceIsInNewest}
use Rattle.chk_rotate.specs.PlaceLaws.{ForgettingKeepsLater, GoingBackKeepsEarlier}
use Rattle.chk_rotate.proofs.MarkLemmas.{kept_one, kept_none}

-- the next one begins above the offset, or at or below it
mark_above : (marks : List Spot) (m n : Spot) (o : ℕ) → o < n.first → mark_at (n ∷ marks) m o ≡ m
mark_above marks m n o above =
    let t : nat_le n.first o ≡ false = lt-leb n.first o above in
    ap (λ b. if b then mark_at marks n o else m) t

mark_below : (marks : List Spot) (m n : Spot) (o : ℕ) → n.first ≤ o
    → mark_at (n ∷ marks) m o ≡ mark_at marks n o
mark_below marks m n o on =
    let t : nat_le n.first o ≡ true = le-leb n.first o on in
    ap (λ b. if b then mark_at marks n o else m) t

all_above : (marks : List Spot) (n : Spot) (end o : ℕ) → RiseTo (n ∷ marks) end → o < n.first
    → AllAbove o (n ∷ marks)
all_above [] n end o rise above = (above, tt)
all_above (k ∷ marks) n end o rise above =
    let le = rise.0 in
    (above, all_above marks k end o rise.1 (omega (arith, le, above)))

in_newest : (marks : List Spot) (m : Spot) (end o : ℕ) → RiseTo (m ∷ marks) end → m.first ≤ o
    → IsInNewest (m ∷ marks) o (record (mark_at marks m o) { offset = o })
in_newest [] m end o rise below = record {
  earlier = [];
  mark = m;
  later = [];
  known = refl;
  begins = below;
  none_later = tt;
  is = refl;
}
in_newest (n ∷ marks) m end o rise below = elim (cases_lt o n.first) [
  | inl above ↦ record {
    earlier = [];
    mark = m;
    later = n ∷ marks;
    known = refl;
    begins = below;
    none_later = all_above marks n end o rise.1 above;
    is = ap (λ (s : Spot). record s { offset = o }) (mark_above marks m n o above);
  }
  | inr later ↦
      let on : n.first ≤ o = omega (arith, later) in
      let rest = in_newest marks n end o rise.1 on in
      record {
        earlier = m ∷ rest.earlier;
        mark = rest.mark;
        later = rest.later;
        known = ap (λ ms. m ∷ ms) rest.known;
        begins = rest.begins;
        none_later = rest.none_later;
        is = ap (λ (s : Spot). record s { offset = o }) (mark_below marks m n o on) ∙ rest.is;
      }
]

pub place_is_in_newest : PlaceIsInNewest
place_is_in_newest [] end o rise begins = absurd begins
place_is_in_newest (m ∷ marks) end o rise begins = in_newest marks m end o rise begins

pub forgetting_keeps : ForgettingKeepsLater
forgetting_keeps [] o q begins le = absurd begins
forgetting_keeps (m ∷ []) o q begins le =
    record { begins = omega (arith, begins, le); place = refl }
forgetting_keeps (m ∷ n ∷ marks) o q begins le = elim (cases_lt o n.first) [
  | inl above ↦
      let t : nat_le n.first o ≡ false = lt-leb n.first o above in
      let same : forgotten o (m ∷ n ∷ marks) ≡ m ∷ n ∷ marks =
      ap (λ b. if b then forgotten o (n ∷ marks) else m ∷ n ∷ marks) t in
      record {
        begins = subst (BeginsBelow q) (sym same) (omega (arith, begins, le));
        place = ap (λ ms. place_of ms q) same;
      }
  | inr later ↦
      let on : n.first ≤ o = omega (arith, later) in
      let t : nat_le n.first o ≡ true = le-leb n.first o on in
      let same : forgotten o (m ∷ n ∷ marks) ≡ forgotten o (n ∷ marks) =
      ap (λ b. if b then forgotten o (n ∷ marks) else m ∷ n ∷ marks) t in
      let rest = forgetting_keeps (n ∷ marks) o q on le in
      record {
        begins = subst (BeginsBelow q) (sym same) rest.begins;
        place =
            ap (λ ms. place_of ms q) same
            ∙ (rest.place
            ∙ ap (λ (s : Spot). record s { offset = q })
            (sym (mark_below marks m n q (omega (arith, on, le)))));
      }
]

-- the mark of an offset up to the one to which a reader goes back
same_mark : (marks : List Spot) (m : Spot) (end o q : ℕ) → RiseTo (m ∷ marks) end → q ≤ o
    → mark_at (kept_to o marks) m q ≡ mark_at marks m q
same_mark [] m end o q rise le = refl
same_mark (n ∷ marks) m end o q rise le = elim (cases_lt o n.first) [
  | inl above ↦
      ap (λ ms. mark_at ms m q) (kept_none n marks end o rise.1 above)
      ∙ sym (mark_above marks m n q (omega (arith, above, le)))
  | inr later ↦
      let on : n.first ≤ o = omega (arith, later) in
      ap (λ ms. mark_at ms m q) (kept_one n marks o on)
      ∙ ap (λ (s : Spot). if nat_le n.first q then s else m) (same_mark marks n end o q rise.1 le)
]

pub going_back_keeps : GoingBackKeepsEarlier
going_back_keeps [] end o q rise begins le = absurd begins
going_back_keeps (m ∷ marks) end o q rise begins le =
    let same = kept_one m marks o (omega (arith, begins, le)) in
    record {
      begins = subst (BeginsBelow q) (sym same) begins;
      place =
          ap (λ ms. place_of ms q) same
          ∙ ap (λ (s : Spot). record s { offset = q }) (same_mark marks m end o q rise le);
    }
