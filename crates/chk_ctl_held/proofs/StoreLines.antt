-- The lines of store after store.
use Rattle.std.proofs.Common.{◌≡◌, ℕ, ◌+◌, ◌<◌, ◌≤◌, List, [], ◌∷◌, ◌++◌, length, map, take, drop, refl, ap, sym, ◌∙◌}
use Rattle.std.specs.Prelude.{flat_map, slice_index_or}
use Rattle.std.proofs.lemmas.List.{drop_more, flat_map_more, take_all, take_more, map-append}
use Rattle.chk_world.specs.Books.{Book, End}
use Rattle.chk_record_index.specs.Heads.{Head}
use Rattle.chk_ctl_held.specs.declared.stores.Store.{Store}
use Rattle.chk_ctl_held.specs.Elsewhere.{Seen, group_lines, store_lines, stores_from}
use Rattle.chk_ctl_held.specs.Groups.{Group, groups}
use Rattle.chk_ctl_held.specs.Lines.{held_line, held_lines}
use Rattle.chk_ctl_held.specs.Stores.{seen_of}

-- those from this store on
abbrev pub lines_from : List Store → ℕ → List (List ℕ)
lines_from stores i = stores_from (map seen_of (take i stores)) (map seen_of (drop i stores))

abbrev pub lines_at : List Store → ℕ → Store → List (List ℕ)
lines_at stores i s =
    store_lines (seen_of s) (map seen_of (take i stores) ++ map seen_of (drop (i + 1) stores))

pub next_store : (stores : List Store) (i : ℕ) (s : Store) → i < length stores
    → s ≡ slice_index_or stores i s
    → lines_from stores i ≡ lines_at stores i s ++ lines_from stores (i + 1)
next_store stores i s low is =
    let before = map seen_of (take i stores) in
    let behind = map seen_of (drop (i + 1) stores) in
    ap (λ (l : List Store). stores_from before (map seen_of l))
    (drop_more stores i s low ∙ ap (λ (x : Store). x ∷ drop (i + 1) stores) (sym is))
    ∙ ap (λ (l : List Seen). lines_at stores i s ++ stores_from l behind)
    (sym (ap (map seen_of)
    (take_more stores i s low ∙ ap (λ (x : Store). take i stores ++ x ∷ []) (sym is))
    ∙ map-append seen_of (take i stores) (s ∷ [])))

-- among no others a stream has its own line alone
alone : (ends : List End) (gs : List Group)
    → flat_map (group_lines ends []) gs ≡ map (held_line ends) gs
alone ends [] = refl
alone ends (g ∷ gs) = ap (λ (l : List (List ℕ)). held_line ends g ∷ l) (alone ends gs)

pub held_alone : (b : Book) (heads : List Head)
    → flat_map (group_lines b.ends []) (groups heads) ≡ held_lines b heads
held_alone b heads = alone b.ends (groups heads)

-- ---- lines that are added one after the other

pub one_added : {X Y : Type 0} (f : Y → List (List ℕ)) (g : X → Y) (start old new : List (List ℕ))
    (xs : List X) (i : ℕ) (d : X) → i < length xs → old ≡ start ++ flat_map f (map g (take i xs))
    → new ≡ old ++ f (g (slice_index_or xs i d))
    → new ≡ start ++ flat_map f (map g (take (i + 1) xs))
one_added f g start old new xs i d low before added =
    let x = slice_index_or xs i d in
    added ∙ ap (λ (l : List (List ℕ)). l ++ f (g x)) before
    ∙ (flat_map_more f start (map g (take i xs)) (g x)
    ∙ ap (λ l. start ++ flat_map f l)
    (sym (ap (map g) (take_more xs i d low) ∙ map-append g (take i xs) (x ∷ []))))

pub all_added : {X Y : Type 0} (f : Y → List (List ℕ)) (g : X → Y) (start old : List (List ℕ))
    (xs : List X) (i : ℕ) → length xs ≤ i → old ≡ start ++ flat_map f (map g (take i xs))
    → old ≡ start ++ flat_map f (map g xs)
all_added f g start old xs i past before =
    before ∙ ap (λ l. start ++ flat_map f (map g l)) (take_all i xs past)
