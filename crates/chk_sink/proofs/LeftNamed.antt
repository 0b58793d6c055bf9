-- Which stem a name of the folder tells to settle, and what may be left after it.
use Rattle.std.proofs.Common.{◌≡◌, ℕ, Bool, true, false, ◌&&◌, ◌||◌, not, List, ◌∷◌, Option, Some, None, option_map, ap, sym, subst, ◌∙◌, refl, is_some, bytes_eq, if◌then◌else◌}
use Rattle.std.specs.Prelude.{IsTrue}
use Rattle.std.specs.List.{list_any}
use Rattle.std.proofs.lemmas.Bool.{and_parts, not-true}
use Rattle.std.proofs.lemmas.Option.{same_Some, none-some}
use Rattle.chk_bytes.specs.Stems.{Stem, is_stem, same_stem}
use Rattle.chk_site.specs.History.{History, files_after}
use Rattle.chk_world.proofs.Ends.{bytes_same, bytes_self}
use Rattle.chk_world.proofs.NameTests.{stem_same}
use Rattle.chk_sink.specs.States.{State, Writing, last_stem}
use Rattle.chk_sink.specs.Held.{IsOther}
use Rattle.chk_sink.specs.Settling.{is_same, chosen, kept_stem, left_in, left_of, IsGone, HoldsBut, HoldsAt, AnyFiles, BothGone}

-- ---- the choice

kept_as : (o : Option Writing) (l x : Stem) → is_same (option_map (λ k. l) o) x ≡ (is_some o && same_stem x l)
kept_as None l x = refl
kept_as (Some o) l x = refl

-- the stem that is chosen is the one told of, and another one of the collector's
pub chosen_other : (s : State) (kept last found : Option Stem) (x : Stem) → kept ≡ kept_stem s → IsTrue (is_stem x)
    → chosen s.collector kept last found ≡ Some x → (found ≡ Some x) × IsOther s x
chosen_other s kept last None x kept_is good e = absurd (none-some x e)
chosen_other s kept last (Some y) x kept_is good e = by (bytes_eq y.collector s.collector && (not (is_same kept y) && not (is_same last y))) refl e
  where
    by : (b : Bool) → (bytes_eq y.collector s.collector && (not (is_same kept y) && not (is_same last y))) ≡ b
        → (if b then Some y else None) ≡ Some x → (Some y ≡ Some x) × IsOther s x
    by false t e = absurd (none-some x e)
    by true t e =
        let p = and_parts (bytes_eq y.collector s.collector) (not (is_same kept y) && not (is_same last y)) t in
        let q = and_parts (not (is_same kept y)) (not (is_same last y)) p.1 in
        let is = same_Some y x e in (
          e,
          record {
            own = subst (λ z. z.collector ≡ s.collector) is (bytes_same y.collector s.collector p.0);
            stem = good;
            other = subst (λ z. (is_some s.current && same_stem z (last_stem s)) ≡ false) is
                (sym (ap (λ k. is_same k y) kept_is ∙ kept_as s.current (last_stem s) y) ∙ not-true (is_same kept y) q.0);
          },
        )

-- a stem of the collector's that isn't kept is chosen, but the last one
pub chosen_none : (s : State) (kept last found : Option Stem) (y : Stem) → kept ≡ kept_stem s → chosen s.collector kept last found ≡ None
    → IsOther s y → is_same last y ≡ false → is_same found y ≡ false
chosen_none s kept last None y kept_is none other apart = refl
chosen_none s kept last (Some x) y kept_is none other apart = by (same_stem y x) refl
  where
    by : (b : Bool) → same_stem y x ≡ b → b ≡ false
    by false e = refl
    by true e =
        let is = stem_same y x e in
        let own : bytes_eq x.collector s.collector ≡ true = ap (λ (z : Stem). bytes_eq z.collector s.collector) (sym is) ∙ (ap (λ c. bytes_eq c s.collector) other.own ∙ bytes_self s.collector) in
        let free : is_same kept x ≡ false = ap (is_same kept) (sym is) ∙ (ap (λ k. is_same k y) kept_is ∙ (kept_as s.current (last_stem s) y ∙ other.other)) in
        let late : is_same last x ≡ false = ap (is_same last) (sym is) ∙ apart in
        absurd (none-some x (sym none ∙ rw (own, free, late) refl))

-- ---- what may be left

left_more : (found : Option Stem) (a b : Bool) (y : Stem) → (a && not b) ≡ false → (b ≡ false → is_same found y ≡ false)
    → ((is_same found y || a) && not b) ≡ false
left_more found a true y e f = rest (is_same found y || a)
  where
    rest : (k : Bool) → (k && not true) ≡ false
    rest true = refl
    rest false = refl
left_more found a false y e f = ap (λ k. (k || a) && true) (f refl) ∙ e

-- a name that tells of nothing to settle
pub skipped : (s : State) (kept last : Option Stem) (name : List ℕ) (names : List (List ℕ)) (h : History) → kept ≡ kept_stem s
    → chosen s.collector kept last (left_in name) ≡ None → HoldsBut s (left_of (name ∷ names) last) h → HoldsBut s (left_of names last) h
skipped s kept last name names h kept_is none x = record {
  holds = x.holds;
  others = λ y o m. x.others y o
      (left_more (left_in name) (list_any (λ n. is_same (left_in n) y) names) (is_same last y) y m
      (chosen_none s kept last (left_in name) y kept_is none o));
}

pub begins_at : (s : State) (may : Stem → Bool) (x : Stem) (h : History) → HoldsBut s may h → HoldsAt s may x AnyFiles h
begins_at s may x h b = record { holds = b.holds; others = λ y o m e. b.others y o m; there = tt }

-- the one that was settled
pub settled_one : (s : State) (last : Option Stem) (name : List ℕ) (names : List (List ℕ)) (x : Stem) (h : History) → left_in name ≡ Some x
    → HoldsAt s (left_of (name ∷ names) last) x BothGone h → HoldsBut s (left_of names (Some x)) h
settled_one s last name names x h found b = record { holds = b.holds; others = λ y o m. by y o m (same_stem y x) refl }
  where
    falls : (a : Bool) → (a && not false) ≡ false → a ≡ false
    falls false e = refl
    falls true e = e

    both_false : (a k c : Bool) → a ≡ false → k ≡ false → ((k || a) && not c) ≡ false
    both_false a k c e f = rw (e, f) refl

    by : (y : Stem) → IsOther s y → (list_any (λ n. is_same (left_in n) y) names && not (same_stem y x)) ≡ false → (v : Bool) → same_stem y x ≡ v
        → IsGone y (files_after h)
    by y o m true e = subst (λ z. IsGone z (files_after h)) (sym (stem_same y x e)) b.there
    by y o m false e =
        b.others y o
        (both_false (list_any (λ n. is_same (left_in n) y) names) (is_same (left_in name) y) (is_same last y)
        (falls (list_any (λ n. is_same (left_in n) y) names) (sym (ap (λ k. list_any (λ n. is_same (left_in n) y) names && not k) e) ∙ m))
        (ap (λ f. is_same f y) found ∙ e)) e
