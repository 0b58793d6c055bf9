-- What is kept of inspections, in turn.
use Rattle.std.proofs.Common.{◌≡◌, ◌∙◌, ap, sym, subst, refl, ℕ, ◌+◌, ◌<◌, ◌≤◌, length, take, get_or, map, Option}
use Rattle.std.proofs.Common.{List, [], ◌∷◌, ◌++◌, append_assoc}
use Rattle.std.specs.Prelude.{flat_map, max}
use Rattle.std.specs.Borrow.{Bor}
use Rattle.std.proofs.lemmas.List.{take_all}
use Rattle.chk_ctl_machine.specs.Deeds.{Told}
use Rattle.chk_ctl_machine.specs.Turns.{none_left}
use Rattle.chk_ctl_machine.proofs.Steps.{turn_by}
use Rattle.chk_ctl_inspect.specs.declared.kept.Seen.{Seen}
use Rattle.chk_ctl_inspect.specs.declared.kept.Sight.{Sight}
use Rattle.chk_ctl_inspect.specs.Folders.{named, InspectsEach}
use Rattle.chk_ctl_inspect.specs.Sights.{absent_of, agents_of, doors_of, greatest, status_of, stores_of, Keeps}

append_none : {A : Type 0} (xs : List A) → xs ++ [] ≡ xs
append_none [] = refl
append_none (x ∷ xs) = ap (λ l. x ∷ l) (append_none xs)

keeps_none : (s : Sight) → Keeps s [] s
keeps_none s = record {
  agents = sym (append_none s.agents.items);
  stores = sym (append_none s.stores.items);
  absent = sym (append_none s.absent.items);
  doors = sym (append_none s.doors.items);
  status = refl;
}

flat_map_join : {A B : Type 0} (f : A → List B) (xs ys : List A)
    → flat_map f (xs ++ ys) ≡ flat_map f xs ++ flat_map f ys
flat_map_join f [] ys = refl
flat_map_join f (x ∷ xs) ys =
    ap (λ l. f x ++ l) (flat_map_join f xs ys)
    ∙ sym (append_assoc (f x) (flat_map f xs) (flat_map f ys))

greatest_join : (status : ℕ) (xs ys : List Seen)
    → greatest status (xs ++ ys) ≡ greatest (greatest status xs) ys
greatest_join status [] ys = refl
greatest_join status (x ∷ xs) ys = greatest_join (max status (status_of x)) xs ys

-- two parts of a list, one behind the other
joined : {A : Type 0} (f : Seen → List A) (xs ys : List Seen) (a b c : List A)
    → b ≡ a ++ flat_map f xs → c ≡ b ++ flat_map f ys → c ≡ a ++ flat_map f (xs ++ ys)
joined f xs ys a b c first last =
    last ∙ (ap (λ l. l ++ flat_map f ys) first
    ∙ (append_assoc a (flat_map f xs) (flat_map f ys)
    ∙ ap (λ l. a ++ l) (sym (flat_map_join f xs ys))))

keeps_then : (xs ys : List Seen) (a b c : Sight) → Keeps a xs b → Keeps b ys c
    → Keeps a (xs ++ ys) c
keeps_then xs ys a b c first last = record {
  agents = joined agents_of xs ys a.agents.items b.agents.items c.agents.items first.agents last.agents;
  stores = joined stores_of xs ys a.stores.items b.stores.items c.stores.items first.stores last.stores;
  absent = joined absent_of xs ys a.absent.items b.absent.items c.absent.items first.absent last.absent;
  doors = joined doors_of xs ys a.doors.items b.doors.items c.doors.items first.doors last.doors;
  status =
      last.status ∙ (ap (λ n. greatest n ys) first.status ∙ sym (greatest_join a.status xs ys));
}

module _ (Inspect : List ℕ → Seen → Told → Told → Type 0) (words : List (Bor (List ℕ))) where
  -- before the first turn
  pub each_none : (s : Sight) (now : Told)
      → InspectsEach Inspect (map (λ w. w.now) (take 0 words)) s s now now
  each_none s now = record { seen = []; turns = none_left; keeps = keeps_none s }

  -- one turn more
  pub each_more : (i : ℕ) (d : Bor (List ℕ)) (seen : Seen) (from mid to : Sight)
      (old next new : Told) → i < length words
      → InspectsEach Inspect (map (λ w. w.now) (take i words)) from mid old next
      → Inspect (get_or words i d).now seen next new → Keeps mid (seen ∷ []) to
      → InspectsEach Inspect (map (λ w. w.now) (take (i + 1) words)) from to old new
  each_more i d seen from mid to old next new low before inspects keeps = record {
    seen = before.seen ++ seen ∷ [];
    turns = turn_by (λ w. w.now) Inspect words before.seen i d seen old next new low before.turns inspects;
    keeps = keeps_then before.seen (seen ∷ []) from mid to before.keeps keeps;
  }

  -- after the last turn
  pub each_all : (i : ℕ) (from to : Sight) (old new : Told) → length words ≤ i
      → InspectsEach Inspect (map (λ w. w.now) (take i words)) from to old new
      → InspectsEach Inspect (map (λ w. w.now) words) from to old new
  each_all i from to old new high all =
      subst (λ (l : List (Bor (List ℕ))). InspectsEach Inspect (map (λ w. w.now) l) from to old new)
      (take_all i words high) all

-- by the words that an option has
pub each_as : (Inspect : List ℕ → Seen → Told → Told → Type 0) (given : List (List ℕ))
    (option asked : Option (List (List ℕ))) (from to : Sight) (old new : Told)
    → given ≡ named option → option ≡ asked → InspectsEach Inspect given from to old new
    → InspectsEach Inspect (named asked) from to old new
each_as Inspect given option asked from to old new is same each =
    subst (λ (words : List (List ℕ)). InspectsEach Inspect words from to old new)
    (is ∙ ap named same) each
