-- The names that are listed of a folder, and their order.
use Rattle.std.proofs.Common.{◌≡◌, inl, inr, ℕ, zero, suc, ◌<◌, Bool, true, false, List, [], ◌∷◌, ◌++◌, length, take, drop, Option, Some, None, refl, sym, ◌∙◌, ap, subst, arith, IsTrue, IsSome, Less}
use Rattle.std.proofs.lemmas.List.{take_more, take-append-drop}
use Rattle.std.proofs.lemmas.List.Elements.{filter_map-append}
use Rattle.std.specs.Prelude.{◌⊎◌, bytes_eq, if◌then◌else◌, option_to_list, get_or, ◌+◌}
use Rattle.std.specs.List.{Contains, dedup, cons_option}
use Rattle.std.specs.List.Sorted.{IsPermutation, IsSorted, IsStrictlySortedBy}
use Rattle.std.specs.Ordering.{nat_cmp, is_lt}
use Rattle.std.specs.Cmp.Lexicographic.{slice_cmp}
use Rattle.std.proofs.lemmas.Bool.Decides.{nat_tests}
use Rattle.std.proofs.lemmas.Cmp.{same_from_slice_cmp, nat_list_cmp_total, nat_list_eq_equiv}
use Rattle.std.proofs.lemmas.Map.Text.{is_eq-slice_cmp}
use Rattle.std.proofs.lemmas.List.Kept.{IsStrictlySortedBy-dedup, Contains-dedup, Contains-from_dedup}
use Rattle.std.proofs.lemmas.List.Sorted.{Contains-permutation, IsPermutation-sym}
use Rattle.chk_bytes.specs.declared.word.WordFault.{WordFault}
use Rattle.chk_bytes.specs.declared.word.WordFault.TheVariants.{NoMemory}
use Rattle.chk_bytes.specs.WordFaults.{IsRefusal, word_fault_of}
use Rattle.chk_bytes.proofs.FaultLemmas.{faultless-from_is_word}
use Rattle.std.proofs.Math.Seq.{take-append_seam, drop-append_seam}
use Rattle.chk_bytes.specs.Words.{is_word, text_lt}
use Rattle.chk_site.specs.Honest.{Rises, in_folder, IsListing}
use Rattle.chk_site_mem_store.specs.declared.named.Named.{Named}
use Rattle.chk_site_mem_store.specs.declared.files.MemFile.{MemFile}
use Rattle.chk_site_mem_store.specs.Stored.{file_of, file_in}
use Rattle.chk_site_mem_store.specs.Listing.{is_listed, past_slash, if_listed, name_in, names_of}
use Rattle.chk_site_mem_store.proofs.NamedLemmas.{same_bytes, bytes_same}

-- a name below another in byte order
lower : (a b : List ℕ) → slice_cmp nat_cmp a b ≡ Less → IsTrue (text_lt a b)
lower a b e =
    subst IsTrue
    (same_from_slice_cmp nat_cmp is_lt text_lt refl (λ _ _. refl) (λ _ _. refl) (λ x y xs ys o h. grind (arith, nat_tests)) a b _ refl)
    (subst (λ o. IsTrue (is_lt o)) (sym e) refl)

one_name : (name : Option (List ℕ)) → cons_option name [] ≡ option_to_list name
one_name None = refl
one_name (Some name) = refl

-- one more entry
pub names_more : (folder : List ℕ) (entries : List (Named MemFile)) (i : ℕ) (d : Named MemFile) → i < length entries
    → names_of folder (take (i + 1) entries)
    ≡ names_of folder (take i entries) ++ option_to_list (name_in folder (get_or entries i d).name)
names_more folder entries i d h =
    ap (names_of folder) (take_more entries i d h)
    ∙ filter_map-append (λ (e : Named MemFile). name_in folder e.name) (take i entries) (get_or entries i d ∷ [])
    ∙ ap (λ names. names_of folder (take i entries) ++ names) (one_name (name_in folder (get_or entries i d).name))

-- names of which each is below all the later ones
rises : (names : List (List ℕ)) → IsStrictlySortedBy (slice_cmp nat_cmp) names → Rises names
unfolding IsStrictlySortedBy
rises [] h = tt
rises (name ∷ []) h = tt
rises (name ∷ next ∷ names) h = (lower name next h.0.0, rises (next ∷ names) h.1)

-- sorted names with each once
pub rises-dedup : (names : List (List ℕ)) → IsSorted (slice_cmp nat_cmp) names → Rises (dedup bytes_eq names)
rises-dedup names h =
    rises (dedup bytes_eq names) (IsStrictlySortedBy-dedup nat_list_cmp_total (λ a b. sym (is_eq-slice_cmp a b)) names h)

-- what isn't refused is no word
pub no_word : (text : List ℕ) (fault : WordFault) → IsRefusal text fault → (fault ≡ NoMemory → ⊥)
    → ◌≡◌ {A = Option (List ℕ)} None (if is_word text then Some text else None)
no_word text fault (inr other) h = absurd (h other.0)
no_word text fault (inl found) h = no_word_when text fault found (is_word text) refl
  where
    no_word_when : (text : List ℕ) (fault : WordFault) → word_fault_of text ≡ Some fault → (b : Bool) → is_word text ≡ b
        → ◌≡◌ {A = Option (List ℕ)} None (if b then Some text else None)
    no_word_when text fault found false is = refl
    no_word_when text fault found true is =
        let none : word_fault_of text ≡ None = faultless-from_is_word text (subst IsTrue (sym is) refl) in cc

-- what stands behind the slash
listed_rest : (rest name : List ℕ) → if_listed (past_slash (Some rest)) ≡ Some name → IsTrue (is_listed name) × (rest ≡ 47 ∷ name)
listed_rest [] name e = cc
listed_rest (b ∷ rest) name e = grind (arith, nat_tests)

-- what a path is under which a name is listed
from_name : (folder path name : List ℕ) → name_in folder path ≡ Some name
    → IsTrue (is_listed name) × (path ≡ in_folder folder name)
from_name folder path name e = from_name_when (bytes_eq (take (length folder) path) folder) refl
  where
    from_name_when : (b : Bool) → bytes_eq (take (length folder) path) folder ≡ b → IsTrue (is_listed name) × (path ≡ in_folder folder name)
    from_name_when false is = cc
    from_name_when true is =
        let rest = listed_rest (drop (length folder) path) name (grind (arith, nat_tests)) in
        let whole = take-append-drop (length folder) path in
        let front = same_bytes (take (length folder) path) folder is in
        (rest.0, sym whole ∙ ap (λ f. f ++ drop (length folder) path) front ∙ ap (λ r. folder ++ r) rest.1)

-- and the name that is listed at that path
at_name_in : (folder name : List ℕ) → IsTrue (is_listed name) → name_in folder (in_folder folder name) ≡ Some name
at_name_in folder name h = grind (arith, nat_tests, take-append_seam folder (47 ∷ name), drop-append_seam folder (47 ∷ name), bytes_same folder folder refl)

contains_more : {X : Type 0} (x y : X) (xs : List X) → Contains xs x → Contains (y ∷ xs) x
contains_more x y xs h = (suc h.0, grind (arith, h.1), h.2)

contains_split : {X : Type 0} (x y : X) (xs : List X) → Contains (y ∷ xs) x → (y ≡ x) ⊎ Contains xs x
contains_split x y xs (zero, l, e) = inl e
contains_split x y xs (suc k, l, e) = inr (k, grind (arith, l), e)

not_below : (k : ℕ) → k < 0 → ⊥
not_below k h = omega arith

-- a name that one more entry lists
listed_more : (folder : List ℕ) (entry : Named MemFile) (files : List (Named MemFile)) (name : List ℕ)
    → (Contains (names_of folder files) name → IsTrue (is_listed name) × IsSome (file_in files (in_folder folder name)))
    → (o : Option (List ℕ)) → name_in folder entry.name ≡ o
    → (b : Bool) → bytes_eq (in_folder folder name) entry.name ≡ b
    → Contains (cons_option o (names_of folder files)) name
    → IsTrue (is_listed name) × IsSome (if b then Some (file_of entry.value) else file_in files (in_folder folder name))
listed_more folder entry files name later None e true is h = ((later h).0, refl)
listed_more folder entry files name later None e false is h = later h
listed_more folder entry files name later (Some n) e b is h = one_of (contains_split name n _ h) b is
  where
    one_of : (n ≡ name) ⊎ Contains (names_of folder files) name → (b : Bool) → bytes_eq (in_folder folder name) entry.name ≡ b
        → IsTrue (is_listed name) × IsSome (if b then Some (file_of entry.value) else file_in files (in_folder folder name))
    one_of (inr h) true is = ((later h).0, refl)
    one_of (inr h) false is = later h
    one_of (inl e_n) b is =
        let from = from_name folder entry.name n e in
        let there = bytes_same (in_folder folder name) entry.name (ap (in_folder folder) (sym e_n) ∙ sym from.1) in (
          subst (λ n. IsTrue (is_listed n)) e_n from.0,
          subst (λ b. IsSome (if b then Some (file_of entry.value) else file_in files (in_folder folder name))) (sym there ∙ is) refl,
        )

pub listed : (folder : List ℕ) (files : List (Named MemFile)) (name : List ℕ)
    → Contains (names_of folder files) name → IsTrue (is_listed name) × IsSome (file_in files (in_folder folder name))
listed folder [] name h = absurd (not_below h.0 h.1)
listed folder (entry ∷ files) name h =
    listed_more folder entry files name (listed folder files name) (name_in folder entry.name) refl
    (bytes_eq (in_folder folder name) entry.name) refl h

-- a name that is to be listed, with one more entry
lists_more : (folder : List ℕ) (entry : Named MemFile) (files : List (Named MemFile)) (name : List ℕ) → IsTrue (is_listed name)
    → (IsSome (file_in files (in_folder folder name)) → Contains (names_of folder files) name)
    → (b : Bool) → bytes_eq (in_folder folder name) entry.name ≡ b
    → IsSome (if b then Some (file_of entry.value) else file_in files (in_folder folder name))
    → Contains (names_of folder (entry ∷ files)) name
lists_more folder entry files name h later true is found =
    let here = ap (name_in folder) (sym (same_bytes (in_folder folder name) entry.name is)) ∙ at_name_in folder name h in
    subst (λ o. Contains (cons_option o (names_of folder files)) name) (sym here) (0, grind (arith), refl)
lists_more folder entry files name h later false is found = behind (name_in folder entry.name)
  where
    behind : (o : Option (List ℕ)) → Contains (cons_option o (names_of folder files)) name
    behind None = later found
    behind (Some n) = contains_more name n _ (later found)

pub lists : (folder : List ℕ) (files : List (Named MemFile)) (name : List ℕ)
    → IsTrue (is_listed name) → IsSome (file_in files (in_folder folder name)) → Contains (names_of folder files) name
lists folder [] name h found = cc
lists folder (entry ∷ files) name h found =
    lists_more folder entry files name h (lists folder files name h) (bytes_eq (in_folder folder name) entry.name) refl found

-- names that were sorted, of which each is kept once
pub is_listing : (folder : List ℕ) (files : List (Named MemFile)) (found sorted names : List (List ℕ))
    → found ≡ names_of folder files → IsPermutation found sorted → IsSorted (slice_cmp nat_cmp) sorted
    → names ≡ dedup bytes_eq sorted → IsListing (file_in files) folder names
is_listing folder files found sorted names from moved in_order once =
    subst (IsListing (file_in files) folder) (sym once) (record {
      rises = rises-dedup sorted in_order;
      each = λ name. (λ h. listed folder files name (back name h), λ h. forth name (lists folder files name h.0 h.1));
    })
  where
    back : (name : List ℕ) → Contains (dedup bytes_eq sorted) name → Contains (names_of folder files) name
    back name h =
        subst (λ l. Contains l name) from
        (Contains-permutation sorted found name (IsPermutation-sym found sorted moved) (Contains-from_dedup bytes_eq sorted name h))

    forth : (name : List ℕ) → Contains (names_of folder files) name → Contains (dedup bytes_eq sorted) name
    forth name h =
        Contains-dedup nat_list_eq_equiv (λ a b. same_bytes a b) sorted name
        (Contains-permutation found sorted name moved (subst (λ l. Contains l name) (sym from) h))
