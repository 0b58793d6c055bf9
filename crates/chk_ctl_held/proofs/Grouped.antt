-- Head after head goes on a group, or begins the next one.
use Rattle.std.proofs.Common.{◌≡◌, ℕ, ◌+◌, ◌<◌, ◌≤◌, Bool, true, false, List, [], ◌∷◌, ◌++◌, length, map, drop, refl, ap, sym, ◌∙◌, arith, append_assoc}
use Rattle.std.specs.Prelude.{if◌then◌else◌, slice_index_or}
use Rattle.std.proofs.Math.ListN.{drop_of_length-le}
use Rattle.std.proofs.lemmas.List.{drop_more, map-append}
use Rattle.chk_record_index.specs.Heads.{Head}
use Rattle.chk_record_index.specs.Order.{no_head, of_one_stream}
use Rattle.chk_ctl_held.specs.Groups.{Group, group_of, groups, with_head, groups_from}
use Rattle.chk_ctl_held.specs.Views.{group_view}
use Rattle.chk_ctl_held.specs.declared.groups.Group.{Group as Struct}

-- these groups, this one with the heads from a place on that are of its stream, and the rest
abbrev pub groups_with : List Struct → List Head → Struct → ℕ → List Group
groups_with done heads g i =
    map (group_view heads) done ++ groups_from (group_view heads g) (drop i heads)

abbrev pub by_test : Group → Head → List Head → Bool → List Group
by_test g h rest is =
    if is then groups_from (with_head g h) rest else g ∷ groups_from (group_of h) rest

-- the heads from here on begin with this one
opened : (heads : List Head) (old : Struct) (i : ℕ) (is : Bool) → i < length heads
    → of_one_stream (slice_index_or heads old.first no_head) (slice_index_or heads i no_head) ≡ is
    → groups_from (group_view heads old) (drop i heads)
    ≡ by_test (group_view heads old) (slice_index_or heads i no_head) (drop (i + 1) heads) is
opened heads old i is low test =
    ap (groups_from (group_view heads old)) (drop_more heads i no_head low)
    ∙ ap (by_test (group_view heads old) (slice_index_or heads i no_head) (drop (i + 1) heads)) test

pub goes_on : (done : List Struct) (heads : List Head) (old new : Struct) (i : ℕ)
    → i < length heads
    → of_one_stream (slice_index_or heads old.first no_head) (slice_index_or heads i no_head)
    ≡ true
    → group_view heads new ≡ with_head (group_view heads old) (slice_index_or heads i no_head)
    → groups_with done heads new (i + 1) ≡ groups_with done heads old i
goes_on done heads old new i low test is =
    ap (λ (l : List Group). map (group_view heads) done ++ l)
    (ap (λ (g : Group). groups_from g (drop (i + 1) heads)) is
    ∙ sym (opened heads old i true low test))

pub begins : (done all : List Struct) (heads : List Head) (old new : Struct) (i : ℕ)
    → i < length heads
    → of_one_stream (slice_index_or heads old.first no_head) (slice_index_or heads i no_head)
    ≡ false
    → group_view heads new ≡ group_of (slice_index_or heads i no_head)
    → all ≡ done ++ old ∷ []
    → groups_with all heads new (i + 1) ≡ groups_with done heads old i
begins done all heads old new i low test is pushed =
    let view = group_view heads in
    let rest = groups_from (group_view heads new) (drop (i + 1) heads) in
    ap (λ (l : List Struct). map view l ++ rest) pushed
    ∙ (ap (λ (l : List Group). l ++ rest) (map-append view done (old ∷ []))
    ∙ (append_assoc (map view done) (view old ∷ []) rest
    ∙ ap (λ (l : List Group). map view done ++ l)
    (ap (λ (g : Group). view old ∷ groups_from g (drop (i + 1) heads)) is
    ∙ sym (opened heads old i false low test))))

-- the first group begins with the first head
pub first_groups : (heads : List Head) (g : Struct) → 0 < length heads
    → group_view heads g ≡ group_of (slice_index_or heads 0 no_head)
    → groups_with [] heads g 1 ≡ groups heads
first_groups [] g some is = grind arith
first_groups (h ∷ hs) g some is = ap (λ (k : Group). groups_from k hs) is

-- behind the last head there is the last group
pub last_groups : (done all : List Struct) (heads : List Head) (g : Struct) (i : ℕ)
    → length heads ≤ i → all ≡ done ++ g ∷ []
    → map (group_view heads) all ≡ groups_with done heads g i
last_groups done all heads g i past pushed =
    ap (map (group_view heads)) pushed
    ∙ (map-append (group_view heads) done (g ∷ [])
    ∙ ap (λ (hs : List Head). map (group_view heads) done ++ groups_from (group_view heads g) hs)
    (sym (drop_of_length-le heads past)))

-- without heads there is no group
pub no_groups : (heads : List Head) → length heads ≡ 0 → groups heads ≡ []
no_groups [] is = refl
no_groups (h ∷ hs) is = grind arith
