-- Listings that stay within the bounds.
use Rattle.std.proofs.Common.{◌≡◌, ℕ, ◌+◌, ◌<◌, ◌≤◌, Bool, true, false, List, [], ◌∷◌, ◌++◌, length, get_or, take, refl, sym, subst, ap, arith, length-append}
use Rattle.std.specs.Prelude.{nat_lt, nat_le, sum_by, if◌then◌else◌}
use Rattle.std.proofs.lemmas.Bool.{and_parts, ltb-true, leb-true, le-leb}
use Rattle.std.proofs.lemmas.List.Sums.{sum_by_push, sum_by_more, sum_by_more_le}
use Rattle.chk_site_listings.specs.declared.names.Listing.{Listing}
use Rattle.chk_site_listings.specs.Keeping.{has_room, name_count, with_room, IsBounded}

-- where there is room, all stay
pub with_room-all : (n : ℕ) (kept : List Listing) → has_room n kept ≡ true → with_room n kept ≡ kept
with_room-all n [] h = refl
with_room-all n (l ∷ kept) h =
    let P : Bool → Type 0 = λ b. (if b then l ∷ kept else with_room n kept) ≡ l ∷ kept in
    subst P (sym h) refl

chosen : (n : ℕ) (l : Listing) (kept : List Listing) → has_room n (with_room n kept) ≡ true
    → (b : Bool) → has_room n (l ∷ kept) ≡ b
    → has_room n (if b then l ∷ kept else with_room n kept) ≡ true
chosen n l kept rest true e = e
chosen n l kept rest false e = rest

-- there is room then
pub has_room-with_room : (n : ℕ) (kept : List Listing) → n ≤ 65536 → has_room n (with_room n kept) ≡ true
has_room-with_room n [] le = le-leb (0 + n) 65536 (omega (arith, le))
has_room-with_room n (l ∷ kept) le =
    chosen n l kept (has_room-with_room n kept le) (has_room n (l ∷ kept)) refl

-- those with room for more are within the bounds
pub IsBounded-has_room : (n : ℕ) (kept : List Listing) → has_room n kept ≡ true → IsBounded kept
IsBounded-has_room n kept h =
    let p = and_parts (nat_lt (length kept) 64) (nat_le (sum_by name_count kept + n) 65536) h in
    let few = ltb-true (length kept) 64 p.0 in
    let most = leb-true (sum_by name_count kept + n) 65536 p.1 in
    record { folders = omega (arith, few); names = omega (arith, most) }

-- so they are with the one that there is room for
pub IsBounded-push : (l : Listing) (kept : List Listing) → has_room (name_count l) kept ≡ true
    → IsBounded (kept ++ l ∷ [])
IsBounded-push l kept h =
    let p = and_parts (nat_lt (length kept) 64) (nat_le (sum_by name_count kept + name_count l) 65536) h in
    let few = ltb-true (length kept) 64 p.0 in
    let most = leb-true (sum_by name_count kept + name_count l) 65536 p.1 in
    record {
      folders = omega (arith, few, length-append kept (l ∷ []));
      names = omega (arith, most, sum_by_push name_count kept l);
    }

-- whether or not there was memory for it
pub IsBounded-pushed : (l : Listing) (old kept : List Listing) → name_count l ≤ 65536
    → kept ≡ with_room (name_count l) old → (b : Bool) → IsBounded (if b then kept ++ l ∷ [] else kept)
IsBounded-pushed l old kept le same b = go b
  where
    room : has_room (name_count l) kept ≡ true
    room = let P : List Listing → Type 0 = λ ls. has_room (name_count l) ls ≡ true in
        subst P (sym same) (has_room-with_room (name_count l) old le)

    go : (b : Bool) → IsBounded (if b then kept ++ l ∷ [] else kept)
    go true = IsBounded-push l kept room
    go false = IsBounded-has_room (name_count l) kept room

-- one listing more is counted
pub counted : (items kept : List Listing) (i n m : ℕ) (l : Listing) → items ≡ kept → i < length items
    → l ≡ get_or items i l → m ≡ name_count l → n ≡ sum_by name_count (take i kept)
    → (n + m ≡ sum_by name_count (take (i + 1) kept)) × (n + m ≤ sum_by name_count kept)
counted items kept i n m l same within there size so_far =
    let P : List Listing → Type 0 = λ ks. n ≡ sum_by name_count (take i ks)
    → (n + m ≡ sum_by name_count (take (i + 1) ks)) × (n + m ≤ sum_by name_count ks) in
    let term : name_count l ≡ name_count (get_or items i l) = ap name_count there in
    let more = sum_by_more name_count items i l within in
    let most = sum_by_more_le name_count items i l within in
    subst P same (λ s. (omega (arith, more, s, size, term), omega (arith, most, s, size, term))) so_far
